use Rattle.std.proofs.Common.{◌≡◌, ◌+◌, ◌-◌, Some, None, sym, ◌∙◌, arith}
use Rattle.std.proofs.lemmas.Bool.Decides.{nat_tests}
use Rattle.replaying.specs.Slots.{prime_among}
use Rattle.replaying.proofs.Primes.{prime_among-first, prime_among-later, prime_among-none}
use Rattle.replaying.proofs.slots.prime_from.Goals as goal

pub returns-then-is_prime-clause-says : goal.returns-then-is_prime-clause-says
returns-then-is_prime-clause-says c =
    let n = c.loop-number.number in
    let found : prime_among 1000 c.args.least ≡ Some n =
    sym c.loop-number.invariant ∙ prime_among-first (c.args.least + 1000 - n) n (omega arith) (sym c.is_prime.ensures ∙ c.if-is_prime.true) in
    rw found (grind (arith, nat_tests))

pub loop-number-preserved : goal.loop-number-preserved
loop-number-preserved c =
    let n = c.loop-number.number in
    let less : c.args.least + 1000 - (n + 1) ≡ c.args.least + 1000 - n - 1 = omega arith in
    rw less (prime_among-later (c.args.least + 1000 - n) n (omega arith) (sym c.is_prime.ensures ∙ c.if-is_prime.false) ∙ c.loop-number.invariant)

pub returns-clause-says : goal.returns-clause-says
returns-clause-says c =
    let n = c.loop-number.number in
    let none : prime_among 1000 c.args.least ≡ None =
    sym c.loop-number.invariant ∙ prime_among-none (c.args.least + 1000 - n) n (omega arith) in
    rw none (grind (arith, nat_tests))
