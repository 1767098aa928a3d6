-- The shares that rest, and those that a clear reports: no sum of them stops.
use Rattle.std.proofs.Common.{◌≡◌, ℕ, ◌+◌, ◌*◌, ◌≤◌, cond, List, [], ◌∷◌, length, ⊎_elim, inl, inr, ◌⊎◌, refl, arith}
use Rattle.std.proofs.lemmas.Bool.Decides.{nat_tests}
use Rattle.messages.specs.declared.code.Side.{Side}
use Rattle.messages.specs.declared.code.Side.TheVariants.{Buy, Sell}
use Rattle.records.specs.declared.order.Order.{Order}
use Rattle.store.specs.Lists.{Each, those, sum}
use Rattle.store.proofs.Each.{each-so}
use Rattle.book.specs.Books.{is_of, rests_on, depth_of}
use Rattle.day_rules.specs.Days.{greatest_limit}
use Rattle.day_rules.proofs.Standing.{NarrowOrder, shares_if}
use Rattle.day_rules.proofs.Sums.{sum-most, sum-those}

either_side : (side : Side) → (side ≡ Buy) ⊎ (side ≡ Sell)
either_side Buy = inl refl
either_side Sell = inr refl

-- an order rests on one of the two sides
one_side : (s : ℕ) (o : Order) → cond (rests_on s Buy o) o.shares 0 + cond (rests_on s Sell o) o.shares 0 ≡ shares_if s o
one_side s o = ⊎_elim (λ e. rw e (grind (arith, nat_tests))) (λ e. rw e (grind (arith, nat_tests))) (either_side o.side)

both_sides : (s : ℕ) (os : List Order) → sum (λ o. o.shares) (those (rests_on s Buy) os) + sum (λ o. o.shares) (those (rests_on s Sell) os) ≡ sum (shares_if s) os
both_sides s [] = refl
both_sides s (o ∷ os) =
    let rest = both_sides s os in
    let one = one_side s o in
    let buys = sum-those (λ o. o.shares) (rests_on s Buy) (o ∷ os) in
    let sells = sum-those (λ o. o.shares) (rests_on s Sell) (o ∷ os) in
    let buys_rest = sum-those (λ o. o.shares) (rests_on s Buy) os in
    let sells_rest = sum-those (λ o. o.shares) (rests_on s Sell) os in
    omega arith

module _ (os : List Order) (narrow : Each NarrowOrder os) (few : length os ≤ greatest_limit) (s : ℕ) where
  small : sum (shares_if s) os ≤ 999999 * length os
  small = sum-most (shares_if s) 999999 os (each-so NarrowOrder (λ o. shares_if s o ≤ 999999) (λ o n. let l = n.shares in grind (arith, nat_tests)) os narrow)

  pub clear_reports : (depth_of (those (is_of s) os)).shares.number ≡ sum (shares_if s) os
  clear_reports = let l = small in let t = sum-those (λ o. o.shares) (is_of s) os in omega arith

  pub resting : (depth_of (those (rests_on s Buy) os)).shares.number + (depth_of (those (rests_on s Sell) os)).shares.number ≡ sum (shares_if s) os
  resting = let l = small in let t = both_sides s os in omega arith
