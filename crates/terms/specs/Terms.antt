-- The fields that the lines of adds and trades begin with, and then those that follow.
use Rattle.std.specs.Prelude.{ℕ, ◌+◌, List, [], ◌∷◌}
use Rattle.layout.specs.Fields.{Field, at}
use Rattle.layout.specs.Slots.{Slot, width, choice}
use Rattle.messages.specs.Layouts.{time, identifier, shares, price, display, participant, customer}

-- the time, the letter of the kind, and the terms of an order, whose symbol stands in that slot
abbrev pub terms_fields_then : ℕ → Slot → Slot → List Field → List Field
terms_fields_then letter side symbol fs =
    at 0 time ∷ at 8 (choice (letter ∷ [])) ∷ at 9 identifier ∷ at 21 side ∷ at 22 shares ∷ at 28 symbol ∷ at (28 + width symbol) price ∷ fs

-- what an add, a long add and a trade say after the terms
abbrev pub add_fields : Slot → List Field
add_fields symbol = at (38 + width symbol) display ∷ []

abbrev pub long_add_fields : Slot → List Field
long_add_fields symbol =
    at (38 + width symbol) display ∷ at (39 + width symbol) participant
    ∷ at (43 + width symbol) customer ∷ []

abbrev pub trade_fields : Slot → List Field
trade_fields symbol = at (38 + width symbol) identifier ∷ []
