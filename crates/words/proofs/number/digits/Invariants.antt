use Rattle.std.proofs.Common.{◌≡◌, ◌^◌, ◌<◌, drop}
use Rattle.words.specs.Numbers.{decimal}
use Rattle.words.proofs.number.digits.Given as goal

-- what is still to be read, behind the number so far, spells the whole number
abbrev pub invariant-loop-byte : goal.invariant-loop-byte
invariant-loop-byte l = (decimal 0 l.bytes ≡ decimal l.value (drop l.byte-index l.bytes)) × (l.value < 2 ^ 64)
