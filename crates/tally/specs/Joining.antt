-- Joining a list of tallies: in its order, and in every order and bracketing.
use Rattle.std.specs.Prelude.{◌≡◌, List, [], ◌∷◌, ◌++◌}
use mathlib.Core.List.{Permᴰ}

-- a list's items joined one after another; no items give the empty tally
abbrev pub joined_all : {M : Type 0} → M → (M → M → M) → List M → M
joined_all none joining [] = none
joined_all none joining (x ∷ xs) = joining x (joined_all none joining xs)

-- a way to put brackets: nothing, one item, or two parts joined
pub data Bracketing (M : Type 0) : Type 0 where
  nothing : Bracketing M
  item : M → Bracketing M
  both : Bracketing M → Bracketing M → Bracketing M

-- its items from left to right
abbrev pub items_of : {M : Type 0} → Bracketing M → List M
items_of nothing = []
items_of (item x) = x ∷ []
items_of (both l r) = items_of l ++ items_of r

-- what it comes to
abbrev pub bracketed : {M : Type 0} → M → (M → M → M) → Bracketing M → M
bracketed none joining nothing = none
bracketed none joining (item x) = x
bracketed none joining (both l r) = joining (bracketed none joining l) (bracketed none joining r)

-- the same items, in some order
abbrev pub IsReordering : {X : Type 0} → List X → List X → Type 0
IsReordering xs ys = Permᴰ xs ys

-- the items, in every order and every bracketing, come to r
abbrev pub InEveryOrder : {M : Type 0} → M → (M → M → M) → List M → M → Type 0
InEveryOrder {M} none joining xs r =
    (b : Bracketing M) → IsReordering (items_of b) xs → bracketed none joining b ≡ r

-- r is what the items come to, in their order and in every other
pub record JoinedInEveryOrder {M : Type 0} (none : M) (joining : M → M → M) (xs : List M) (r : M) : Type 0 where
  pub says : r ≡ joined_all none joining xs
  pub anyhow : InEveryOrder none joining xs r
