use Rattle.std.proofs.Common.{◌≡◌, true}
use Rattle.replaying.specs.Slots.{undivided}
use Rattle.replaying.proofs.slots.is_prime.Given as goal

abbrev pub invariant-loop-divisor : goal.invariant-loop-divisor
invariant-loop-divisor l = undivided l.number l.divisor ≡ true
