-- The slots that lent memory makes: a row each, and a tag, which is 0 where the slot is empty.
use Rattle.std.specs.Prelude.{◌≡◌, ℕ, ◌⊎◌, cond, List, [], ◌∷◌, Some, None, Option, nat_eq}
use Rattle.hashed_store.specs.Mixing.{tag_of}

-- a row each, where it is in use
abbrev pub slots_of : {X : Type 0} → List ℕ → List X → List (Option X)
slots_of [] rows = []
slots_of (t ∷ ts) [] = []
slots_of (t ∷ ts) (r ∷ rs) = cond (nat_eq t 0) None (Some r) ∷ slots_of ts rs

-- as many tags as rows, and each is 0, or that of its row's key
abbrev pub Tagged : {X : Type 0} → (X → ℕ) → List ℕ → List X → Type 0
Tagged key [] [] = Unit {0}
Tagged key [] (r ∷ rs) = ⊥
Tagged key (t ∷ ts) [] = ⊥
Tagged key (t ∷ ts) (r ∷ rs) = ((t ≡ 0) ⊎ (t ≡ tag_of (key r))) × Tagged key ts rs
