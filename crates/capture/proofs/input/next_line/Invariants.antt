-- So much of the line is read, and it does not end there.
use Rattle.capture.specs.Begun.{IsBegun}
use Rattle.capture.specs.Held.{held}
use Rattle.capture.proofs.input.next_line.Given as goal

abbrev pub invariant-loop : goal.invariant-loop
invariant-loop g l = IsBegun (g.R.Read.remaining l.initial.input) (g.R.Read.remaining l.input) (held l.line)
