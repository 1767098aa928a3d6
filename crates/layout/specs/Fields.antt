-- A message's layout: its fields by offset. Reading, checking and writing go through the fields in that order.
use Rattle.std.specs.Prelude.{◌≡◌, ℕ, false, List, [], ◌∷◌, ◌++◌, take, drop, Ok, Err, Result}
use Rattle.layout.specs.declared.fault.FieldFault.{FieldFault}
use Rattle.layout.specs.declared.fault.FieldFault.TheVariants.{Byte, Range}
use Rattle.layout.specs.Slots.{Slot, width, Spells, keeps, Passes, Stops, in_range, value_of, spot, origin, read_slot, check_slot, spell, over}

-- a field starts at an offset, and holds what its slot says
pub record Field : Type 0 where
  pub offset : ℕ
  pub slot : Slot

abbrev pub at : ℕ → Slot → Field
at o s = record { offset = o; slot = s }

-- a field's bytes in a line
abbrev pub part : Field → List ℕ → List ℕ
part f xs = take (width f.slot) (drop f.offset xs)

-- each field of the line spells its value
abbrev pub Laid : List Field → List ℕ → List ℕ → Type 0
Laid [] xs [] = Unit {0}
Laid [] xs (v ∷ vs) = ⊥
Laid (f ∷ fs) xs [] = ⊥
Laid (f ∷ fs) xs (v ∷ vs) = Spells f.slot (part f xs) v × Laid fs xs vs

-- The first fault of a line, by the feed's rules: each field byte by byte, and then for its range.

-- place i is the first at which the field's rule is broken
abbrev pub BreaksAt : Slot → List ℕ → ℕ → Type 0
BreaksAt s p i = Stops (keeps s p) (width s) i

-- each byte keeps the rule, and the number is one that the field does not allow
abbrev pub OutOfRange : Slot → List ℕ → Type 0
OutOfRange s p = Passes (keeps s p) (width s) × (in_range s (value_of s p) ≡ false)

-- of a line of the message with that letter
pub data FirstFault (letter : ℕ) (xs : List ℕ) : List Field → FieldFault → Type 0 where
  byte :
      {f : Field} {fs : List Field} (i : ℕ) → BreaksAt f.slot (part f xs) i →
      FirstFault letter xs (f ∷ fs) (Byte (spot letter f.offset i))
  range :
      {f : Field} {fs : List Field} → OutOfRange f.slot (part f xs) →
      FirstFault letter xs (f ∷ fs) (Range (origin letter f.offset))
  later :
      {f : Field} {fs : List Field} {e : FieldFault} (v : ℕ) → Spells f.slot (part f xs) v →
      FirstFault letter xs fs e → FirstFault letter xs (f ∷ fs) e

-- The first field, by offset, whose value no bytes spell.
pub data FirstUngiven : List Field → List ℕ → ℕ → Type 0 where
  here : {f : Field} {fs : List Field} {v : ℕ} {vs : List ℕ} → ((p : List ℕ) → Spells f.slot p v → ⊥) → FirstUngiven (f ∷ fs) (v ∷ vs) f.offset
  later : {f : Field} {fs : List Field} {v o : ℕ} {vs : List ℕ} (p : List ℕ) → Spells f.slot p v → FirstUngiven fs vs o → FirstUngiven (f ∷ fs) (v ∷ vs) o

-- How they are read, checked and written.

-- a value before the others, where those were read
abbrev pub before : ℕ → Result (List ℕ) FieldFault → Result (List ℕ) FieldFault
before v (Ok vs) = Ok (v ∷ vs)
before v (Err e) = Err e

-- goes on with what is left, or stops at the fault
abbrev pub then_read : Result (ℕ × List ℕ) FieldFault → (List ℕ → Result (List ℕ) FieldFault) → Result (List ℕ) FieldFault
then_read (Ok p) go = before p.0 (go p.1)
then_read (Err e) go = Err e

-- the values of the fields, or the first fault
abbrev pub read_fields : ℕ → List Field → List ℕ → Result (List ℕ) FieldFault
read_fields letter [] xs = Ok []
read_fields letter (f ∷ fs) xs = then_read (read_slot f.slot letter f.offset xs) (read_fields letter fs)

-- the first of two faults
abbrev pub then_check : Result (Unit {0}) FieldFault → Result (Unit {0}) FieldFault → Result (Unit {0}) FieldFault
then_check (Ok u) go = go
then_check (Err e) go = Err e

-- the first field that cannot be written, if there is one
abbrev pub check_fields : ℕ → List Field → List ℕ → Result (Unit {0}) FieldFault
check_fields letter [] vs = Ok tt
check_fields letter (f ∷ fs) [] = Ok tt
check_fields letter (f ∷ fs) (v ∷ vs) = then_check (check_slot f.slot letter f.offset v) (check_fields letter fs vs)

-- the fields' bytes one after the other
abbrev pub line_of : List Field → List ℕ → List ℕ
line_of [] vs = []
line_of (f ∷ fs) [] = []
line_of (f ∷ fs) (v ∷ vs) = spell f.slot v ++ line_of fs vs

-- each field written over the bytes at its offset
abbrev pub put_fields : List Field → List ℕ → List ℕ → List ℕ
put_fields [] vs room = room
put_fields (f ∷ fs) [] room = room
put_fields (f ∷ fs) (v ∷ vs) room = put_fields fs vs (over f.offset (spell f.slot v) room)
