-- What is printed so far, and then the rows to come, is what is printed of all.
use Rattle.day_lines.specs.Texts.{rows_text}
use Rattle.day_lines.proofs.Printing.{Showing}
use Rattle.day_lines.proofs.rows.show_each.Given as goal

abbrev pub invariant-loop-row : goal.invariant-loop-row
invariant-loop-row g l = Showing (λ _. rows_text l.averaged) (g.W.Write.contents l.initial.output) (g.W.Write.contents l.output) l.rows l.row-index
