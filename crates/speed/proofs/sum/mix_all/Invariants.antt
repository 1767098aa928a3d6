use Rattle.std.proofs.Common.{◌≡◌, drop}
use Rattle.speed.specs.Checksum.{mixed_all}
use Rattle.speed.proofs.sum.mix_all.Given as goal

-- the numbers to come, mixed in, make the sum of all
abbrev pub invariant-loop-value : goal.invariant-loop-value
invariant-loop-value l = mixed_all l.sum (drop l.value-index l.values) ≡ mixed_all l.fn.sum l.fn.values
