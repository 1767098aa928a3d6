-- What is listed of what is left of the piece is listed of all; each turn less of it is left.
use Rattle.std.proofs.Common.{ℕ, List, Option, length}
use Rattle.capture.specs.Held.{held}
use Rattle.lines.specs.declared.totals.Totals.{Totals}
use Rattle.lines.specs.Counted.{IsEven}
use Rattle.lines.specs.Pieces.{IsListed, IsStopped}
use Rattle.lines.proofs.listing.Listing.take.Given as goal

abbrev pub invariant-loop-next : goal.invariant-loop-next
invariant-loop-next g l =
    (IsEven l.initial.self.totals → IsEven l.self.totals)
    × ((left : List ℕ) (u : Totals) (is : Option (List ℕ)) → IsListed (held l.self.line) l.rest left l.self.totals u (g.W.Write.contents l.output) is
    → IsListed (held l.initial.self.line) l.piece left l.initial.self.totals u (g.W.Write.contents l.initial.output) is)
    × ((left : List ℕ) (u : Totals) → IsStopped (held l.self.line) l.rest left l.self.totals u → IsStopped (held l.initial.self.line) l.piece left l.initial.self.totals u)

abbrev pub decreases-loop-next : goal.decreases-loop-next
decreases-loop-next g l = length l.rest
