-- Going through a store in its own order: the records still to come from a place on.
use Rattle.std.specs.Prelude.{◌≡◌, ℕ, List, [], ◌∷◌, Some, None, Option}
use Rattle.tally.specs.Joining.{IsReordering}
use Rattle.store.specs.declared.visit.Visit.{Visit}

-- what is to come from the next place on
abbrev pub rest : {X : Type 0} → (ℕ → List X) → Option ℕ → List X
rest ahead None = []
rest ahead (Some p) = ahead p

-- what a visit answers: none at the end, else the first record to come and where to go on from
abbrev pub Visited : {X : Type 0} → (ℕ → List X) → ℕ → Option (Visit X) → Type 0
Visited ahead p None = ahead p ≡ []
Visited ahead p (Some v) = ahead p ≡ v.record ∷ rest ahead v.next

-- the records to come from the start are those held, in some order
abbrev pub Covers : {X : Type 0} → (ℕ → List X) → List X → Type 0
Covers ahead rows = IsReordering (ahead 0) rows
