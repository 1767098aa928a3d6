-- Each field fault's number, and what it carries.
use Rattle.std.specs.Prelude.{ℕ, List, [], ◌∷◌}
use Rattle.layout.specs.declared.fault.FieldFault.{FieldFault}
use Rattle.layout.specs.declared.fault.FieldFault.TheVariants.{Byte, Range}

abbrev pub number_of : FieldFault → ℕ
number_of (Byte spot) = 4
number_of (Range spot) = 5

-- the letter of the message, and the offset
abbrev pub carried_of : FieldFault → List ℕ
carried_of (Byte spot) = spot.letter ∷ spot.offset ∷ []
carried_of (Range spot) = spot.letter ∷ spot.offset ∷ []
