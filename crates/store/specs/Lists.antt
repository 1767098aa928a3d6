-- Lists of records with rising keys, by the key that a record has.
use Rattle.std.specs.Prelude.{ℕ, ◌+◌, ◌<◌, Bool, cond, List, [], ◌∷◌, is_some, Some, None, Option, ◌≢◌, ◌==◌, nat_le, nat_lt}

-- P holds of each record
abbrev pub Each : {X : Type 0} → (X → Type 0) → List X → Type 0
Each P [] = Unit {0}
Each P (x ∷ xs) = P x × Each P xs

-- each key is below all later ones
abbrev pub Rising : {X : Type 0} → (X → ℕ) → List X → Type 0
Rising key [] = Unit {0}
Rising key (x ∷ xs) = Each (λ y. key x < key y) xs × Rising key xs

-- no two records have one key
abbrev pub Apart : {X : Type 0} → (X → ℕ) → List X → Type 0
Apart key [] = Unit {0}
Apart key (x ∷ xs) = Each (λ y. key y ≢ key x) xs × Apart key xs

-- the record with the key k
abbrev pub lookup : {X : Type 0} → (X → ℕ) → ℕ → List X → Option X
lookup key k [] = None
lookup key k (x ∷ xs) = cond (key x == k) (Some x) (lookup key k xs)

-- whether a record with the key k is held
abbrev pub holds : {X : Type 0} → (X → ℕ) → ℕ → List X → Bool
holds key k xs = is_some (lookup key k xs)

-- the first record whose key is at or above k: of rising keys, the one with the least
abbrev pub first_from : {X : Type 0} → (X → ℕ) → ℕ → List X → Option X
first_from key k [] = None
first_from key k (x ∷ xs) = cond (nat_le k (key x)) (Some x) (first_from key k xs)

-- with the record r put before the first greater key
abbrev pub placed : {X : Type 0} → (X → ℕ) → X → List X → List X
placed key r [] = r ∷ []
placed key r (x ∷ xs) = cond (nat_lt (key r) (key x)) (r ∷ (x ∷ xs)) (x ∷ placed key r xs)

-- records in any order, put in the order of their keys
abbrev pub sorted : {X : Type 0} → (X → ℕ) → List X → List X
sorted key [] = []
sorted key (x ∷ xs) = placed key x (sorted key xs)

-- with the record r in the place of the one that has its key
abbrev pub replaced : {X : Type 0} → (X → ℕ) → X → List X → List X
replaced key r [] = []
replaced key r (x ∷ xs) = cond (key x == key r) (r ∷ xs) (x ∷ replaced key r xs)

-- without the record that has the key k
abbrev pub without : {X : Type 0} → (X → ℕ) → ℕ → List X → List X
without key k [] = []
without key k (x ∷ xs) = cond (key x == k) xs (x ∷ without key k xs)

-- the records that a test picks
abbrev pub those : {X : Type 0} → (X → Bool) → List X → List X
those p [] = []
those p (x ∷ xs) = cond (p x) (x ∷ those p xs) (those p xs)

-- the records that it does not
abbrev pub others : {X : Type 0} → (X → Bool) → List X → List X
others p [] = []
others p (x ∷ xs) = cond (p x) (others p xs) (x ∷ others p xs)

-- what f gives of each, added up
abbrev pub sum : {X : Type 0} → (X → ℕ) → List X → ℕ
sum f [] = 0
sum f (x ∷ xs) = f x + sum f xs
