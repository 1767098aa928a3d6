use Rattle.std.proofs.lemmas.List.{length-take-le}
use Rattle.row_store.proofs.Places.{place-found}
use Rattle.row_store.proofs.Changes.{taken-out, unheld}
use Rattle.row_store.proofs.change.remove_row.Goals as goal

pub returns-in_err-place : goal.returns-in_err-place
returns-in_err-place g c h =
    rw c.from_residual.ensures (unheld g.R.Record.key _ _ h c.args.key _ c.in_err-place.ensures.value (rw c.held-records.ensures at c.seek.ensures))

pub returns : goal.returns
returns g c h =
    let s = place-found g.R.Record.key c.args.key _ _ _ c.in_ok-place.ensures.value (rw c.held-records.ensures at c.seek.ensures) in
    let all = length-take-le _ _ h.0 in
    rw (c.move_down.ensures, c.held-records.ensures, all) (taken-out g.R.Record.key _ _ h c.args.key _ _ s c.index-rows-place.is)
