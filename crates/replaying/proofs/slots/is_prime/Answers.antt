use Rattle.std.proofs.Common.{arith}
use Rattle.std.proofs.lemmas.Bool.Decides.{nat_tests}
use Rattle.replaying.proofs.Primes.{undivided-two, undivided-more, undivided-not, undivided-all}
use Rattle.replaying.proofs.slots.is_prime.Goals as goal

pub loop-divisor-init : goal.loop-divisor-init
loop-divisor-init c = undivided-two c.args.number

pub returns-then-number-divisor : goal.returns-then-number-divisor
returns-then-number-divisor c =
    let all = undivided-all c.args.number c.loop-divisor.divisor c.loop-divisor.invariant c.if-number-divisor.true (omega arith) in
    rw all (grind (arith, nat_tests))

pub returns-then-number-divisor-eq0 : goal.returns-then-number-divisor-eq0
returns-then-number-divisor-eq0 c =
    let not = undivided-not c.args.number c.args.number c.loop-divisor.divisor (omega arith) (omega arith) c.if-number-divisor-eq0.true in
    rw not (grind (arith, nat_tests))

pub loop-divisor-preserved : goal.loop-divisor-preserved
loop-divisor-preserved c = undivided-more c.args.number c.loop-divisor.divisor c.loop-divisor.invariant c.if-number-divisor-eq0.false
