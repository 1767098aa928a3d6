-- What a front row means: what the store below means, as long as the front agrees with it.
use Rattle.std.specs.Prelude.{ℕ, List}
use Rattle.records.specs.declared.order.Order.{Order}
use Rattle.store.specs.Models.{Model}
use Rattle.store.specs.declared.store.Store.{Ghosts}
use Rattle.front_row.specs.declared.front_row.FrontRow.{FrontRow}
use Rattle.front_row.specs.Fronts.{Agrees}

-- the records held, and the limit
abbrev pub model_of : {S : Type 0} → Ghosts S Order → FrontRow S → Model Order
model_of s row = s.model row.below

-- the store below is ready, and the front agrees with it
abbrev pub Ready : {S : Type 0} → Ghosts S Order → FrontRow S → Type 0
Ready s row = s.ready row.below × Agrees row.front.places (s.model row.below).rows

-- the records that a visit has yet to meet, from a place on
abbrev pub ahead_of : {S : Type 0} → Ghosts S Order → FrontRow S → ℕ → List Order
ahead_of s row = s.ahead row.below

-- all that a front row means, over what the store below means
abbrev pub row_over : {S : Type 0} → Ghosts S Order → Ghosts (FrontRow S) Order
row_over s = record { model = model_of s; ready = Ready s; ahead = ahead_of s }
