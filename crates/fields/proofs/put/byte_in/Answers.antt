use Rattle.std.proofs.Common.{arith}
use Rattle.std.proofs.lemmas.Bool.Decides.{nat_tests}
use Rattle.layout.specs.Bytes.{byte_within}
use Rattle.fields.proofs.put.byte_in.Goals as goal

pub returns-then-base-gt36 : goal.returns-then-base-gt36
unfolding byte_within
returns-then-base-gt36 c = grind (arith, nat_tests)

pub returns-then-digit-lt10 : goal.returns-then-digit-lt10
unfolding byte_within
returns-then-digit-lt10 c = grind (arith, nat_tests)

pub returns-else-digit-lt10 : goal.returns-else-digit-lt10
unfolding byte_within
returns-else-digit-lt10 c = grind (arith, nat_tests)
