use Rattle.std.proofs.Common.{sym, ◌∙◌}
use Rattle.store.proofs.Walking.{permuted-length}
use Rattle.store.proofs.clients.list_all.Goals as goal

pub returns : goal.returns
returns g c ready rising covers size =
    c.sort.ensures (g.S.Store.model c.args.store.now).rows (rw (c.gather.ensures ready (size ∙ sym (permuted-length covers))) covers) rising
