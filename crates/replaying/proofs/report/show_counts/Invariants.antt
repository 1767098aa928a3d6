-- What is printed so far, and then the counts to come, is what is printed of all.
use Rattle.day_lines.proofs.Printing.{Showing}
use Rattle.replaying.specs.Texts.{counts_text}
use Rattle.replaying.proofs.report.show_counts.Given as goal

abbrev pub invariant-loop-number : goal.invariant-loop-number
invariant-loop-number g l = Showing counts_text (g.W.Write.contents l.initial.output) (g.W.Write.contents l.output) l.counts l.number
