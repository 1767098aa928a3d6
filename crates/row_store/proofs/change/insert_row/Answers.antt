use Rattle.row_store.proofs.Changes.{taken, full, put-in}
use Rattle.row_store.proofs.change.insert_row.Goals as goal

pub returns-in_default : goal.returns-in_default
returns-in_default g c h = taken g.R.Record.key _ _ h c.args.item _ (rw (c.held.ensures, c.key.ensures) at c.in_default.ensures)

pub returns-then-n-rows : goal.returns-then-n-rows
returns-then-n-rows g c h = full g.R.Record.key _ _ h c.args.item _ (rw (c.held.ensures, c.key.ensures) at c.in-Err.ensures) c.if-n-rows.true

pub returns : goal.returns
returns g c h =
    rw c.move_up.ensures
    (put-in g.R.Record.key _ _ h c.args.item _ (rw (c.held.ensures, c.key.ensures) at c.in-Err.ensures) c.if-n-rows.false)
