use Rattle.row_store.proofs.Sweeping.{Swept}
use Rattle.row_store.proofs.sweep.sweep_rows.Given as goal

abbrev pub invariant-loop-i : goal.invariant-loop-i
invariant-loop-i g l = Swept (g.P.Pick.picked l.pick) l.initial.rows l.rows l.next l.i
