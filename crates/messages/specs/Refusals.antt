-- When each refusal is due: its number, and what it carries.
use Rattle.std.specs.Prelude.{◌≡◌, ℕ, ◌+◌, ◌<◌, ◌≤◌, List, length, Ok, Err, Result, ◌≢◌, slice_index}
use Rattle.layout.specs.declared.fault.FieldFault.{FieldFault}
use Rattle.layout.specs.declared.fault.FieldFault.TheVariants.{Range as of_range}
use Rattle.layout.specs.Fields.{Laid, FirstFault, FirstUngiven}
use Rattle.layout.specs.Slots.{origin}
use Rattle.messages.specs.declared.fault.MessageFault.{MessageFault}
use Rattle.messages.specs.declared.fault.MessageFault.TheVariants.{Cut, Unknown, Length, Field, Buffer}
use Rattle.messages.specs.declared.message.Message.{Message}
use Rattle.messages.specs.Types.{MessageType}
use Rattle.messages.specs.Faults.{number_of, carried_of}
use Rattle.messages.specs.Layouts.{letter_of, length_of, layout_of}
use Rattle.messages.specs.Values.{type_of, values_of}

-- The line is laid out as the message: it has the kind's length, and each of its fields spells the message's value.
abbrev pub LaidOut : List ℕ → Message → Type 0
LaidOut xs m = (length xs ≡ length_of (type_of m)) × Laid (layout_of (type_of m)) xs (values_of m)

-- Reading the line xs.
pub data Due (xs : List ℕ) : ℕ → List ℕ → Type 0 where
  -- fewer than nine bytes
  cut : length xs < 9 → Due xs (number_of Cut) (carried_of Cut)
  -- byte 8 is no kind's letter
  unknown :
      9 ≤ length xs → ((t : MessageType) → letter_of t ≢ slice_index xs 8) →
      Due xs (number_of (Unknown (slice_index xs 8))) (carried_of (Unknown (slice_index xs 8)))
  -- the line has not the kind's length
  misfit :
      (t : MessageType) → 9 ≤ length xs → letter_of t ≡ slice_index xs 8 →
      (length xs ≢ length_of t) →
      Due xs (number_of (Length (letter_of t))) (carried_of (Length (letter_of t)))
  -- the first field at fault, for its first byte that breaks the rule, or for its number
  faulty :
      {e : FieldFault} (t : MessageType) → letter_of t ≡ slice_index xs 8 →
      length xs ≡ length_of t → FirstFault (letter_of t) xs (layout_of t) e →
      Due xs (number_of (Field e)) (carried_of (Field e))

-- the fault of the field of m that starts at the offset
abbrev pub out_of_range : Message → ℕ → MessageFault
out_of_range m o = Field (of_range (origin (letter_of (type_of m)) o))

-- Writing the message m from a place on, into a buffer of so many bytes.
pub data WriteDue (m : Message) (place size : ℕ) : ℕ → List ℕ → Type 0 where
  -- the first field whose value no line gives
  range :
      {o : ℕ} → FirstUngiven (layout_of (type_of m)) (values_of m) o →
      WriteDue m place size (number_of (out_of_range m o)) (carried_of (out_of_range m o))
  -- some line is laid out as the message, and it would pass the buffer's end
  buffer :
      (xs : List ℕ) → LaidOut xs m → size < place + length xs →
      WriteDue m place size (number_of Buffer) (carried_of Buffer)

-- the answer is a refusal of that number that carries those values
abbrev pub Refuses : {X : Type 0} → Result X MessageFault → ℕ → List ℕ → Type 0
Refuses (Ok x) n vs = ⊥
Refuses (Err e) n vs = (number_of e ≡ n) × (carried_of e ≡ vs)
