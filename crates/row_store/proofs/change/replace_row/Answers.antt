use Rattle.row_store.proofs.Changes.{replaced, absent}
use Rattle.row_store.proofs.change.replace_row.Goals as goal

pub returns-in_default : goal.returns-in_default
returns-in_default g c h = absent g.R.Record.key _ _ h c.args.item _ (rw (c.held.ensures, c.key.ensures) at c.in_default.ensures)

pub returns : goal.returns
returns g c h = replaced g.R.Record.key _ _ h c.args.item _ (rw (c.held.ensures, c.key.ensures) at c.in-Ok.ensures)
