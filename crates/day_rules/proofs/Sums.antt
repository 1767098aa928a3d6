-- Sums over lists by key.
use Rattle.std.proofs.Common.{◌≡◌, ℕ, ◌+◌, ◌*◌, ◌<◌, ◌≤◌, Bool, cond, eqb, List, [], ◌∷◌, length, Some, refl, sym, ◌∙◌, ⊎_elim, arith}
use Rattle.std.proofs.Math.Nat.{add-zero}
use Rattle.std.proofs.lemmas.Bool.{cases_eq, eq-eqb, ne_eqb}
use Rattle.std.proofs.lemmas.Bool.Decides.{nat_tests}
use Rattle.store.specs.Lists.{Each, Rising, lookup, holds, placed, replaced, without, those, others, sum}
use Rattle.store.proofs.Each.{absent-higher}
use Rattle.store.proofs.Keyed.{holds-absent}
use Rattle.store.proofs.Lookups.{lookup-here, lookup-later}

module _ {X : Type 0} (w : X → ℕ) where
  -- at each record the same, or no more, or at most b
  pub sum-same : (v : X → ℕ) (xs : List X) → Each (λ x. w x ≡ v x) xs → sum w xs ≡ sum v xs
  sum-same v [] h = refl
  sum-same v (x ∷ xs) h = let a = h.0 in let r = sum-same v xs h.1 in omega arith

  pub sum-least : (v : X → ℕ) (xs : List X) → Each (λ x. w x ≤ v x) xs → sum w xs ≤ sum v xs
  sum-least v [] h = omega arith
  sum-least v (x ∷ xs) h = let a = h.0 in let r = sum-least v xs h.1 in omega arith

  pub sum-most : (b : ℕ) (xs : List X) → Each (λ x. w x ≤ b) xs → sum w xs ≤ b * length xs
  sum-most b [] h = omega arith
  sum-most b (x ∷ xs) h = let a = h.0 in let r = sum-most b xs h.1 in omega arith

  -- of those that a test picks
  pub sum-those : (p : X → Bool) (xs : List X) → sum w (those p xs) ≡ sum (λ x. cond (p x) (w x) 0) xs
  sum-those p [] = refl
  sum-those p (x ∷ xs) = grind (arith, nat_tests, sum-those p xs)

  -- of two things that each record gives
  pub sum-both : (v : X → ℕ) (xs : List X) → sum (λ x. w x + v x) xs ≡ sum w xs + sum v xs
  sum-both v [] = refl
  sum-both v (x ∷ xs) = let r = sum-both v xs in omega arith

  module _ (key : X → ℕ) where
    pub sum-placed : (r : X) (xs : List X) → sum w (placed key r xs) ≡ w r + sum w xs
    sum-placed r [] = refl
    sum-placed r (x ∷ xs) = grind (arith, nat_tests, sum-placed r xs)

    pub sum-replaced : (r x : X) (xs : List X) → lookup key (key r) xs ≡ Some x → sum w (replaced key r xs) + w x ≡ sum w xs + w r
    sum-replaced r x [] e = cc
    sum-replaced r x (y ∷ ys) e = grind (arith, nat_tests, sum-replaced r x ys)

    pub sum-without : (k : ℕ) (x : X) (xs : List X) → lookup key k xs ≡ Some x → sum w (without key k xs) + w x ≡ sum w xs
    sum-without k x [] e = cc
    sum-without k x (y ∷ ys) e = grind (arith, nat_tests, sum-without k x ys)

module _ {X : Type 0} where
  -- what holds of all holds of each
  pub each-all : (P : X → Type 0) → ((x : X) → P x) → (xs : List X) → Each P xs
  each-all P f [] = tt
  each-all P f (x ∷ xs) = (f x, each-all P f xs)

  -- fewer records
  pub length-without : (key : X → ℕ) (k : ℕ) (xs : List X) → length (without key k xs) ≤ length xs
  length-without key k [] = omega arith
  length-without key k (x ∷ xs) = grind (arith, nat_tests, length-without key k xs)

  pub length-others : (p : X → Bool) (xs : List X) → length (others p xs) ≤ length xs
  length-others p [] = omega arith
  length-others p (x ∷ xs) = grind (arith, nat_tests, length-others p xs)

  -- a test picks no more than there are
  pub length-those : (p : X → Bool) (xs : List X) → length (those p xs) ≤ length xs
  length-those p [] = omega arith
  length-those p (x ∷ xs) = grind (arith, nat_tests, length-those p xs)

  -- as many as it picks
  pub sum-picked : (p : X → Bool) (xs : List X) → length (those p xs) ≡ sum (λ x. cond (p x) 1 0) xs
  sum-picked p [] = refl
  sum-picked p (x ∷ xs) = grind (arith, nat_tests, sum-picked p xs)

  pub sum-none : (xs : List X) → sum (λ x. 0) xs ≡ 0
  sum-none [] = refl
  sum-none (x ∷ xs) = let r = sum-none xs in omega arith

  -- what the record with one key gives
  pub sum-one : (key : X → ℕ) (k n : ℕ) (xs : List X) → Rising key xs → sum (λ x. cond (eqb k (key x)) n 0) xs ≡ cond (holds key k xs) n 0
  sum-one key k n [] up = refl
  sum-one key k n (x ∷ xs) up =
      let rest = sum-one key k n xs up.1 in
      ⊎_elim
      (λ e.
      let none = holds-absent key k xs (absent-higher key k xs (rw e at up.0)) in
      rw (eq-eqb (key x) k e, eq-eqb k (key x) (sym e), rest, none) (add-zero n))
      (λ m. rw (ne_eqb (key x) k m, ne_eqb k (key x) (λ e. m (sym e))) (omega arith))
      (cases_eq (key x) k)

  -- each record of rising keys is found under its own
  pub found-own : (key : X → ℕ) (xs : List X) → Rising key xs → Each (λ x. lookup key (key x) xs ≡ Some x) xs
  found-own key [] up = tt
  found-own key (x ∷ xs) up = (lookup-here key (key x) x xs refl, later xs up.0 (found-own key xs up.1))
    where
      later : (ys : List X) → Each (λ y. key x < key y) ys → Each (λ y. lookup key (key y) xs ≡ Some y) ys → Each (λ y. lookup key (key y) (x ∷ xs) ≡ Some y) ys
      later [] above found = tt
      later (y ∷ ys) above found = (let l = above.0 in lookup-later key (key y) x xs (omega arith) ∙ found.0, later ys above.1 found.1)
