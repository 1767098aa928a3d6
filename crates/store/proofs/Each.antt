-- What holds of each record of a list, of its parts and of lists made of it.
use Rattle.std.proofs.Common.{◌≡◌, ℕ, ◌<◌, List, [], ◌∷◌, ◌++◌, arith}
use Rattle.store.specs.Lists.{Each}

module _ {X : Type 0} (P : X → Type 0) where
  pub each-join : (xs ys : List X) → Each P xs → Each P ys → Each P (xs ++ ys)
  each-join [] ys h k = k
  each-join (x ∷ xs) ys h k = (h.0, each-join xs ys h.1 k)

  pub each-front : (xs ys : List X) → Each P (xs ++ ys) → Each P xs
  each-front [] ys h = tt
  each-front (x ∷ xs) ys h = (h.0, each-front xs ys h.1)

  pub each_back : (xs ys : List X) → Each P (xs ++ ys) → Each P ys
  each_back [] ys h = h
  each_back (x ∷ xs) ys h = each_back xs ys h.1

  pub each-so : (Q : X → Type 0) → ((x : X) → P x → Q x) → (xs : List X) → Each P xs → Each Q xs
  each-so Q f [] h = tt
  each-so Q f (x ∷ xs) h = (f x h.0, each-so Q f xs h.1)

-- the key k is that of none
abbrev pub Absent : {X : Type 0} → (X → ℕ) → ℕ → List X → Type 0
Absent key k xs = Each (λ x. key x ≡ k → ⊥) xs

-- all keys are below k
abbrev pub Lower : {X : Type 0} → (X → ℕ) → ℕ → List X → Type 0
Lower key k xs = Each (λ x. key x < k) xs

-- all keys are above k
abbrev pub Higher : {X : Type 0} → (X → ℕ) → ℕ → List X → Type 0
Higher key k xs = Each (λ x. k < key x) xs

module _ {X : Type 0} (key : X → ℕ) where
  pub absent-lower : (k : ℕ) (xs : List X) → Lower key k xs → Absent key k xs
  absent-lower k xs h = each-so (λ x. key x < k) (λ x. key x ≡ k → ⊥) (λ x l e. omega arith) xs h

  pub absent-higher : (k : ℕ) (xs : List X) → Higher key k xs → Absent key k xs
  absent-higher k xs h = each-so (λ x. k < key x) (λ x. key x ≡ k → ⊥) (λ x l e. omega arith) xs h

  pub higher-more : (j k : ℕ) (xs : List X) → j < k → Higher key k xs → Higher key j xs
  higher-more j k xs l h = each-so (λ x. k < key x) (λ x. j < key x) (λ x m. omega arith) xs h
