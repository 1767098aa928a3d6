-- What was read is listed, and as many are rewritten as are read.
use Rattle.std.proofs.Common.{ℕ, List, []}
use Rattle.std.specs.Io.KnownBytes.{Consumes}
use Rattle.capture.specs.Held.{held}
use Rattle.lines.specs.Counted.{IsEven, none_counted}
use Rattle.lines.specs.Pieces.{IsListed}
use Rattle.lines.proofs.running.run.Given as goal

abbrev pub invariant-loop : goal.invariant-loop
invariant-loop g l =
    ((bytes : List ℕ) × Consumes (g.R.Read.remaining l.initial.input) (g.R.Read.remaining l.input) bytes
    × IsListed [] bytes (held l.listing.line) none_counted l.listing.totals (g.W.Write.contents l.initial.output) (g.W.Write.contents l.output))
    × IsEven l.listing.totals
