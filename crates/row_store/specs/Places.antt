-- Where a record with a key stands in a list, or would.
use Rattle.std.specs.Prelude.{◌≡◌, ℕ, ◌<◌, ◌≤◌, List, length, take, drop, Some, Ok, Err, Result}
use Rattle.std.specs.List.{slice_get}
use Rattle.store.specs.Lists.{Each, Rising}

-- one with the key k stands at the place i
pub record Stands {X : Type 0} (key : X → ℕ) (k : ℕ) (xs : List X) (i : ℕ) : Type 0 where
  pub inside : i < length xs
  pub item : X
  pub here : slice_get xs i ≡ Some item
  pub same : key item ≡ k

-- none has it, and it would go to the place i: where the keys rise, they are lower before it, and higher from there on
pub record Goes {X : Type 0} (key : X → ℕ) (k : ℕ) (xs : List X) (i : ℕ) : Type 0 where
  pub inside : i ≤ length xs
  pub lower : Rising key xs → Each (λ x. key x < k) (take i xs)
  pub higher : Rising key xs → Each (λ x. k < key x) (drop i xs)

-- what a search for the key k answers
abbrev pub Sought : {X : Type 0} → (X → ℕ) → ℕ → List X → Result ℕ ℕ → Type 0
Sought key k xs (Ok i) = Stands key k xs i
Sought key k xs (Err i) = Goes key k xs i
