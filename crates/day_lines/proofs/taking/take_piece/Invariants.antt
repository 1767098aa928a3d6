-- Some lines are put, and the rest of the piece is to come; each turn less of it is.
use Rattle.std.proofs.Common.{length}
use Rattle.capture.specs.Begun.{IsUnended}
use Rattle.capture.specs.Held.{held}
use Rattle.day_lines.proofs.Putting.{Cutting}
use Rattle.day_lines.proofs.taking.take_piece.Given as goal

abbrev pub invariant-loop-end : goal.invariant-loop-end
invariant-loop-end g l = IsUnended (held l.initial.begun) → Cutting l.shown (held l.initial.begun) l.piece (held l.begun) l.rest (g.W.Write.contents l.initial.output) (g.W.Write.contents l.output) l.initial.seen l.seen l.initial.ledger l.ledger

abbrev pub decreases-loop-end : goal.decreases-loop-end
decreases-loop-end g l = length l.rest
