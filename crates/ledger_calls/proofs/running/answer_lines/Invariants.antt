-- What is printed so far, and what will be of the bytes to come, is what is of all.
use Rattle.std.proofs.Common.{IfSome}
use Rattle.ledger_calls.proofs.Saying.{Saying}
use Rattle.ledger_calls.proofs.running.answer_lines.Given as goal

abbrev pub invariant-loop : goal.invariant-loop
invariant-loop g l = IfSome (g.R.Read.remaining l.initial.input) (λ bytes.
    Saying (g.R.Read.remaining l.input) (g.W.Write.contents l.initial.output) (g.W.Write.contents l.output) bytes l.initial.count.lines l.count.lines l.initial.ledger l.ledger)
