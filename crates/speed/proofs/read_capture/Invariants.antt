use Rattle.std.proofs.Common.{◌≡◌, [], length}
use Rattle.speed.specs.Checksum.{checksum, after_bytes}
use Rattle.speed.proofs.read_capture.Given as goal

-- what is left to go through
abbrev pub invariant-loop-more : goal.invariant-loop-more
invariant-loop-more l = checksum l.buf ≡ after_bytes l.sum [] l.rest

abbrev pub decreases-loop-more : goal.decreases-loop-more
decreases-loop-more l = length l.rest
