-- A line and its message: reading and writing, as they are done.
use Rattle.std.specs.Prelude.{ℕ, ◌+◌, cond, List, [], ◌∷◌, length, Some, None, Ok, Err, Option, Result, ◌==◌, nat_le, nat_lt, slice_index}
use Rattle.layout.specs.declared.fault.FieldFault.{FieldFault}
use Rattle.layout.specs.Fields.{read_fields, check_fields, line_of}
use Rattle.layout.specs.Slots.{over}
use Rattle.messages.specs.declared.fault.MessageFault.{MessageFault}
use Rattle.messages.specs.declared.fault.MessageFault.TheVariants.{Cut, Unknown, Length, Field, Buffer}
use Rattle.messages.specs.declared.message.Message.{Message}
use Rattle.messages.specs.Types.{MessageType}
use Rattle.messages.specs.Types.{SymbolClear, AddShort, AddLong, OrderExecuted, OrderCancel, TradeShort, TradeLong, TradeBreak}
use Rattle.messages.specs.Layouts.{letter_of, length_of, layout_of}
use Rattle.messages.specs.Values.{type_of, values_of}

-- every kind
abbrev pub types : List MessageType
types = SymbolClear ∷ AddShort ∷ AddLong ∷ OrderExecuted ∷ OrderCancel ∷ TradeShort ∷ TradeLong ∷ TradeBreak ∷ []

-- the kind of that letter
abbrev pub type_among : List MessageType → ℕ → Option MessageType
type_among [] letter = None
type_among (t ∷ ts) letter = cond (letter == letter_of t) (Some t) (type_among ts letter)

-- a message told by its kind and its values
abbrev pub told : Message → MessageType × List ℕ
told m = (type_of m, values_of m)

abbrev pub tagged : MessageType → Result (List ℕ) FieldFault → Result (MessageType × List ℕ) MessageFault
tagged t (Ok vs) = Ok (t, vs)
tagged t (Err e) = Err (Field e)

-- the fields of a line of that kind
unfoldable pub read_row : MessageType → List ℕ → Result (List ℕ) FieldFault
read_row t xs = read_fields (letter_of t) (layout_of t) xs

abbrev pub read_of_kind : MessageType → List ℕ → Result (MessageType × List ℕ) MessageFault
read_of_kind t xs = tagged t (read_row t xs)

abbrev pub kind_read : List ℕ → Option MessageType → Result (MessageType × List ℕ) MessageFault
kind_read xs None = Err (Unknown (slice_index xs 8))
kind_read xs (Some t) = cond (length xs == length_of t) (read_of_kind t xs) (Err (Length (slice_index xs 8)))

-- what a line says, or the first fault
abbrev pub line_read : List ℕ → Result (MessageType × List ℕ) MessageFault
line_read xs = cond (nat_lt (length xs) 9) (Err Cut) (kind_read xs (type_among types (slice_index xs 8)))

-- the message's line
abbrev pub written : Message → List ℕ
written m = line_of (layout_of (type_of m)) (values_of m)

-- its first field that no line could give, if there is one
abbrev pub checked : Message → Result (Unit {0}) FieldFault
checked m = check_fields (letter_of (type_of m)) (layout_of (type_of m)) (values_of m)

-- what writing it from a place on answers, into a buffer of so many bytes, and what the buffer holds then
abbrev pub fitted : Message → ℕ → ℕ → Result (Unit {0}) FieldFault → Result ℕ MessageFault
fitted m place size (Ok u) = cond (nat_le (place + length_of (type_of m)) size) (Ok (length_of (type_of m))) (Err Buffer)
fitted m place size (Err e) = Err (Field e)

abbrev pub placed : Message → ℕ → List ℕ → Result (Unit {0}) FieldFault → List ℕ
placed m place buf (Ok u) = cond (nat_le (place + length_of (type_of m)) (length buf)) (over place (written m) buf) buf
placed m place buf (Err e) = buf
