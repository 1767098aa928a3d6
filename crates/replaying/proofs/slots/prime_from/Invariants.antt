use Rattle.std.proofs.Common.{◌≡◌, ◌+◌, ◌-◌}
use Rattle.replaying.specs.Slots.{prime_among}
use Rattle.replaying.proofs.slots.prime_from.Given as goal

abbrev pub invariant-loop-number : goal.invariant-loop-number
invariant-loop-number l = prime_among (l.least + 1000 - l.number) l.number ≡ prime_among 1000 l.least
