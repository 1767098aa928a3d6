-- What rows say of which the first n hold records.
use Rattle.std.specs.Prelude.{◌≡◌, ℕ, ◌≤◌, List, length, take, drop}
use Rattle.store.specs.Lists.{Rising}
use Rattle.store.specs.Models.{Model}

-- the store that they are: as many records as there are rows is the most
abbrev pub model_of : {X : Type 0} → ℕ → List X → Model X
model_of n xs = record { rows = take n xs; limit = length xs }

-- the records are among the rows, by rising key
abbrev pub InOrder : {X : Type 0} → (X → ℕ) → ℕ → List X → Type 0
InOrder key n xs = (n ≤ length xs) × Rising key (take n xs)

-- the records from a place on
abbrev pub from : {X : Type 0} → List X → ℕ → List X
from xs p = drop p xs

-- what a call leaves, as the model has it: before it the first n of xs hold records, and after it
-- the first m of ys
pub record Left {X : Type 0} (key : X → ℕ) (left : Model X → Model X) (n m : ℕ)
    (xs ys : List X) : Type 0 where
  pub leaves : model_of m ys ≡ left (model_of n xs)
  pub still : InOrder key m ys

-- what a call answers and leaves, as the model has them: before it the first n of xs hold records, and after it the first m of ys
pub record Changed {X A : Type 0} (key : X → ℕ) (told : Model X → A) (left : Model X → Model X) (answer : A) (n m : ℕ) (xs ys : List X) : Type 0 where
  pub says : answer ≡ told (model_of n xs)
  pub leaves : model_of m ys ≡ left (model_of n xs)
  pub still : InOrder key m ys
