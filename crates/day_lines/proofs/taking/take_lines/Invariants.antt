-- Some lines are put, one may be begun, and the rest of the input is to come.
use Rattle.std.proofs.Common.{IfSome}
use Rattle.capture.specs.Held.{held}
use Rattle.day_lines.proofs.Putting.{Putting}
use Rattle.day_lines.proofs.taking.take_lines.Given as goal

abbrev pub invariant-loop : goal.invariant-loop
invariant-loop g l = IfSome (g.R.Read.remaining l.initial.input) (λ bytes.
    Putting l.shown (g.R.Read.remaining l.input) (g.W.Write.contents l.initial.output) (g.W.Write.contents l.output) bytes (held l.begun) l.seen l.initial.ledger l.ledger)
