-- How fields and refusals are shown.
use Rattle.std.specs.Prelude.{ℕ, cond, List, [], ◌∷◌, ◌++◌, replicate, codes, decimal, encode_utf8, ◌==◌}
use Rattle.layout.specs.Slots.{spell, over}
use Rattle.layout.specs.declared.fault.FieldFault.TheVariants.{Byte, Range}
use Rattle.messages.specs.Layouts.{identifier, long_symbol}
use Rattle.messages.specs.declared.fault.MessageFault.{MessageFault}
use Rattle.messages.specs.declared.fault.MessageFault.TheVariants.{Cut, Unknown, Length, Field, Buffer}
use Rattle.messages.specs.Faults.{number_of}

-- a byte before a text, which a space before none is not
abbrev pub before_text : ℕ → List ℕ → List ℕ
before_text x [] = cond (x == 32) [] (x ∷ [])
before_text x (y ∷ ys) = x ∷ (y ∷ ys)

-- a text without the spaces at its end
unfoldable pub without_spaces : List ℕ → List ℕ
without_spaces [] = []
without_spaces (x ∷ xs) = before_text x (without_spaces xs)

-- an ID's twelve digits
abbrev pub id_text : ℕ → List ℕ
id_text n = without_spaces (over 0 (spell identifier n) (replicate 12 32))

-- a symbol's letters
abbrev pub symbol_text : ℕ → List ℕ
symbol_text n = without_spaces (over 0 (spell long_symbol n) (replicate 8 32))

-- a number alone
abbrev pub refused : ℕ → List ℕ
refused n = codes "(refused " ++ (decimal n ++ codes ")")

-- a number, and in a bracket what the refusal carries
abbrev pub refused_with : ℕ → List ℕ → List ℕ
refused_with n carried = codes "(refused " ++ (decimal n ++ (codes " (" ++ (carried ++ codes "))")))

-- a letter and an offset
abbrev pub spot_text : (letter offset : ℕ) → List ℕ
spot_text letter offset = encode_utf8 letter ++ (codes " " ++ decimal offset)

abbrev pub fault_text : MessageFault → List ℕ
fault_text Cut = refused (number_of Cut)
fault_text (Unknown byte) = refused_with (number_of (Unknown byte)) (decimal byte)
fault_text (Length letter) = refused_with (number_of (Length letter)) (encode_utf8 letter)
fault_text (Field (Byte spot)) = refused_with (number_of (Field (Byte spot))) (spot_text spot.letter spot.offset)
fault_text (Field (Range spot)) = refused_with (number_of (Field (Range spot))) (spot_text spot.letter spot.offset)
fault_text Buffer = refused (number_of Buffer)
