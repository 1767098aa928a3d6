-- Each fault's number, and what it carries.
use Rattle.std.specs.Prelude.{ℕ, List, [], ◌∷◌}
use Rattle.layout.specs.Faults as field
use Rattle.messages.specs.declared.fault.MessageFault.{MessageFault}
use Rattle.messages.specs.declared.fault.MessageFault.TheVariants.{Cut, Unknown, Length, Field, Buffer}

abbrev pub number_of : MessageFault → ℕ
number_of Cut = 1
number_of (Unknown byte) = 2
number_of (Length letter) = 3
number_of (Field fault) = field.number_of fault
number_of Buffer = 14

abbrev pub carried_of : MessageFault → List ℕ
carried_of Cut = []
carried_of (Unknown byte) = byte ∷ []
carried_of (Length letter) = letter ∷ []
carried_of (Field fault) = field.carried_of fault
carried_of Buffer = []
