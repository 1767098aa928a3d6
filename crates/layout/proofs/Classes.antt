-- A byte's class tells whether it is a space, and whether a text may have it.
use Rattle.std.proofs.Common.{◌≡◌, ℕ, eqb, arith}
use Rattle.std.proofs.lemmas.Bool.Decides.{nat_tests}
use Rattle.layout.specs.declared.class.Class.{Class}
use Rattle.layout.specs.declared.class.Class.TheVariants.{Graphic, Letter}
use Rattle.layout.specs.Bytes.{is_of, class_of, has_class, is_blank}

pub class-has : (k : Class) (x : ℕ) → has_class k (class_of x) ≡ is_of k x
unfolding class_of
class-has Graphic x = grind (arith, nat_tests)
class-has Letter x = grind (arith, nat_tests)

pub class-blank : (x : ℕ) → is_blank (class_of x) ≡ eqb x 32
unfolding class_of
class-blank x = grind (arith, nat_tests)
