use Rattle.std.proofs.Common.{◌∙◌, sym}
use Rattle.row_store.proofs.Places.{from-sought, read-at}
use Rattle.row_store.proofs.seek.row_from.Goals as goal

pub returns : goal.returns
returns g c h =
    c.copied.ensures ∙ read-at _ _ _ c.get.ensures.lookup
    ∙ sym (from-sought g.R.Record.key c.args.key c.args.rows.now c.seek.result c.in-Ok.place c.in-Ok.is c.seek.ensures h)
