use Rattle.std.proofs.Common.{◌≡◌, ◌-◌, ◌^◌, ◌<◌, replicate}
use Rattle.std.specs.Int.Digits.{number_from_digits_after}
use Rattle.fields.proofs.text.filled.Given as goal

abbrev pub invariant-loop : goal.invariant-loop
invariant-loop l = (l.full ≡ number_from_digits_after 256 l.value (replicate l.counter 32)) × (l.full < 256 ^ (8 - (l.count - l.counter)))
