-- What a capped store means: the records of the store below, and no greater limit than the allotment.
use Rattle.std.specs.Prelude.{ℕ, min, List}
use Rattle.store.specs.Models.{Model}
use Rattle.store.specs.declared.store.Store.{Ghosts}
use Rattle.capped.specs.declared.capped.Capped.{Capped}

-- the same records under the lesser limit
abbrev pub within : {X : Type 0} → ℕ → Model X → Model X
within allotment m = record m { limit = min allotment m.limit }

abbrev pub model_of : {S X : Type 0} → Ghosts S X → Capped S → Model X
model_of s c = within c.allotment (s.model c.below)

-- it is ready as soon as the store below is
abbrev pub ready_of : {S X : Type 0} → Ghosts S X → Capped S → Type 0
ready_of s c = s.ready c.below

-- the records that a visit has yet to meet, from a place on
abbrev pub ahead_of : {S X : Type 0} → Ghosts S X → Capped S → ℕ → List X
ahead_of s c = s.ahead c.below
