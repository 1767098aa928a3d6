-- The better of prices may be taken in any order.
use Rattle.std.specs.Prelude.{◌≡◌, ℕ, Some, None, Option}
use Rattle.std.proofs.Common.{ap, refl, arith}
use Rattle.messages.specs.declared.code.Side.{Side}
use Rattle.messages.specs.declared.code.Side.TheVariants.{Buy, Sell}
use Rattle.book.specs.Books.{better, better_of}

better-assoc : (side : Side) (p q r : ℕ) → better side (better side p q) r ≡ better side p (better side q r)
better-assoc Buy p q r = omega arith
better-assoc Sell p q r = omega arith

better-comm : (side : Side) (p q : ℕ) → better side p q ≡ better side q p
better-comm Buy p q = omega arith
better-comm Sell p q = omega arith

pub associative : (side : Side) (x y z : Option ℕ) → better_of side (better_of side x y) z ≡ better_of side x (better_of side y z)
associative side None y z = refl
associative side (Some p) None z = refl
associative side (Some p) (Some q) None = refl
associative side (Some p) (Some q) (Some r) = ap Some (better-assoc side p q r)

pub commutative : (side : Side) (x y : Option ℕ) → better_of side x y ≡ better_of side y x
commutative side None None = refl
commutative side None (Some q) = refl
commutative side (Some p) None = refl
commutative side (Some p) (Some q) = ap Some (better-comm side p q)
