-- The best price of some orders is one of theirs, and none is better.
use Rattle.std.proofs.Common.{◌≡◌, ℕ, List, [], ◌∷◌, map, Some, None, Option, inl, inr, refl, sym, subst, arith, ⊎_elim, ◌⊎◌}
use Rattle.std.proofs.lemmas.Bool.{cases_lt}
use Rattle.messages.specs.declared.code.Side.{Side}
use Rattle.messages.specs.declared.code.Side.TheVariants.{Buy, Sell}
use Rattle.store.proofs.Each.{each-so}
use Rattle.records.specs.declared.order.Order.{Order}
use Rattle.book.specs.Books.{better, better_of, best_of, Among, NoWorse, IsBest}

-- the better of two is one of them, and no worse than either
better-one : (side : Side) (p q : ℕ) → (better side p q ≡ p) ⊎ (better side p q ≡ q)
better-one Buy p q = ⊎_elim (λ l. inr (omega arith)) (λ l. inl (omega arith)) (cases_lt p q)
better-one Sell p q = ⊎_elim (λ l. inl (omega arith)) (λ l. inr (omega arith)) (cases_lt p q)

no-worse-first : (side : Side) (p q : ℕ) → NoWorse side (better side p q) p
no-worse-first Buy p q = omega arith
no-worse-first Sell p q = omega arith

no-worse-second : (side : Side) (p q r : ℕ) → NoWorse side q r → NoWorse side (better side p q) r
no-worse-second Buy p q r h = omega arith
no-worse-second Sell p q r h = omega arith

no-worse-same : (side : Side) (p : ℕ) → NoWorse side p p
no-worse-same Buy p = omega arith
no-worse-same Sell p = omega arith

-- one price more
one-more : (side : Side) (p : ℕ) (ps : List ℕ) (b : Option ℕ) → IsBest side ps b → IsBest side (p ∷ ps) (better_of side (Some p) b)
one-more side p ps None h = (inl refl, (no-worse-same side p, rw h tt))
one-more side p ps (Some q) h = (
  ⊎_elim (λ e. inl e) (λ e. inr (subst (λ z. Among z ps) (sym e) h.0)) (better-one side p q),
  (no-worse-first side p q, each-so (NoWorse side q) (NoWorse side (better side p q)) (λ r. no-worse-second side p q r) ps h.1),
)

is-best : (side : Side) (os : List Order) → IsBest side (map (λ o. o.price) os) (best_of side os)
is-best side [] = refl
is-best side (o ∷ os) = one-more side o.price (map (λ o. o.price) os) (best_of side os) (is-best side os)

pub best-told : (side : Side) (os : List Order) (best : Option ℕ) → best ≡ best_of side os → IsBest side (map (λ o. o.price) os) best
best-told side os best e = rw e (is-best side os)
