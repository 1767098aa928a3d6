-- What a field holds: which bytes spell which value, and how it is read, checked and spelled.
use Rattle.std.specs.Prelude.{◌≡◌, ℕ, zero, suc, ◌+◌, ◌-◌, ◌/◌, ◌^◌, ◌<◌, ◌≤◌, Bool, true, false, cond, not, ◌&&◌, ◌||◌, List, [], ◌∷◌, ◌++◌, map, length, take, drop, replicate, Some, None, Ok, Err, Option, Result, ◌==◌, nat_le, nat_lt, slice_index}
use Rattle.std.specs.Int.Digits.{number_from_digits as number_of}
use Rattle.std.specs.List.{AllByRecursion}
use Rattle.layout.specs.declared.class.Class.{Class}
use Rattle.layout.specs.declared.fault.Spot.{Spot}
use Rattle.layout.specs.declared.fault.FieldFault.{FieldFault}
use Rattle.layout.specs.declared.fault.FieldFault.TheVariants.{Byte, Range}
use Rattle.layout.specs.Bytes.{worth_of, is_of}
use Rattle.layout.specs.Digits.{digit_bytes}

-- What a field may hold.
pub data Slot : Type 0 where
  -- that many digits of the base, whose number lies from low to high
  number : (base count low high : ℕ) → Slot
  -- at least so many bytes of a class and then only spaces; its number is that of its bytes, filled up with spaces to `whole` bytes, in base 256
  text : (class : Class) (least width whole : ℕ) → Slot
  -- one of these bytes
  choice : (letters : List ℕ) → Slot

-- how many bytes a field has
abbrev pub width : Slot → ℕ
width (number base count low high) = count
width (text class least w whole) = w
width (choice letters) = 1

-- The bytes p spell the number v.

-- each is a digit of the base, and together they are v, which is in range
pub record SpellsNumber (base count low high : ℕ) (p : List ℕ) (v : ℕ) : Type 0 where
  pub size : length p ≡ count
  pub digits : AllByRecursion (λ x. worth_of x < base) p
  pub value : number_of base (map worth_of p) ≡ v
  pub least : low ≤ v
  pub most : v ≤ high

-- a name of bytes of the class, and then spaces; v is their number, filled up with spaces
pub record SpellsText (class : Class) (least w whole : ℕ) (p : List ℕ) (v : ℕ) : Type 0 where
  pub name : List ℕ
  pub spaces : ℕ
  pub split : p ≡ name ++ replicate spaces 32
  pub inside : AllByRecursion (λ x. is_of class x ≡ true) name
  pub enough : least ≤ length name
  pub size : length p ≡ w
  pub value : number_of 256 (p ++ replicate (whole - w) 32) ≡ v

-- x is one of the letters
abbrev pub is_one_of : List ℕ → ℕ → Bool
is_one_of [] x = false
is_one_of (l ∷ ls) x = x == l || is_one_of ls x

-- one byte, which is one of the letters
pub record SpellsChoice (letters : List ℕ) (p : List ℕ) (v : ℕ) : Type 0 where
  pub alone : p ≡ v ∷ []
  pub member : is_one_of letters v ≡ true

abbrev pub Spells : Slot → List ℕ → ℕ → Type 0
Spells (number base count low high) p v = SpellsNumber base count low high p v
Spells (text class least w whole) p v = SpellsText class least w whole p v
Spells (choice letters) p v = SpellsChoice letters p v

-- Reading, byte by byte and then for the range.

-- a space stands right before place j
abbrev pub after_space : List ℕ → ℕ → Bool
after_space p zero = false
after_space p (suc j) = slice_index p j == 32

-- the byte at place j of p keeps the field's rule, where all bytes before it do
abbrev pub keeps : Slot → List ℕ → ℕ → Bool
keeps (number base count low high) p j = nat_lt (worth_of (slice_index p j)) base
keeps (text class least w whole) p j = cond (slice_index p j == 32) (nat_le least j) (is_of class (slice_index p j) && not (after_space p j))
keeps (choice letters) p j = is_one_of letters (slice_index p j)

-- an earlier place, or else n where its test failed
abbrev pub or_else : Option ℕ → ℕ → Bool → Option ℕ
or_else (Some i) n passed = Some i
or_else None n passed = cond passed None (Some n)

-- the first of the places below n at which the test fails, or none
unfoldable pub first_failing : (ℕ → Bool) → ℕ → Option ℕ
first_failing ok zero = None
first_failing ok (suc n) = or_else (first_failing ok n) n (ok n)

-- the test holds at every place below n
abbrev pub Passes : (ℕ → Bool) → ℕ → Type 0
Passes ok n = (j : ℕ) → j < n → ok j ≡ true

-- i is the first place at which it fails
abbrev pub Stops : (ℕ → Bool) → ℕ → ℕ → Type 0
Stops ok n i = (i < n) × Passes ok i × (ok i ≡ false)

-- there is a byte at place j, and it keeps the rule
abbrev pub holds : Slot → List ℕ → ℕ → Bool
holds s p j = nat_lt j (length p) && keeps s p j

-- the number of a field's bytes
unfoldable pub value_of : Slot → List ℕ → ℕ
value_of (number base count low high) p = number_of base (map worth_of p)
value_of (text class least w whole) p = number_of 256 (p ++ replicate (whole - w) 32)
value_of (choice letters) p = slice_index p 0

-- a walk over the field at the front of xs: its number, or the first place that breaks the rule
abbrev pub walked : Slot → List ℕ → Option ℕ → Result ℕ ℕ
walked s xs (Some i) = Err i
walked s xs None = Ok (value_of s (take (width s) xs))

-- the walk itself
unfoldable pub scan_slot : Slot → List ℕ → Result ℕ ℕ
scan_slot s xs = walked s xs (first_failing (holds s xs) (width s))

-- the field allows the number; only a field of digits has a range
abbrev pub in_range : Slot → ℕ → Bool
in_range (number base count low high) v = nat_le low v && nat_le v high
in_range (text class least w whole) v = true
in_range (choice letters) v = true

-- the byte i places into the field at that offset
abbrev pub spot : ℕ → ℕ → ℕ → Spot
spot letter offset i = record { letter = letter; offset = offset + i }

-- the field's first byte
abbrev pub origin : ℕ → ℕ → Spot
origin letter offset = record { letter = letter; offset = offset }

-- then the range: the field's number with what is left of xs, or the fault
abbrev pub ranged : Slot → ℕ → ℕ → List ℕ → Result ℕ ℕ → Result (ℕ × List ℕ) FieldFault
ranged s letter offset xs (Ok v) = cond (in_range s v) (Ok (v, drop (width s) xs)) (Err (Range (origin letter offset)))
ranged s letter offset xs (Err i) = Err (Byte (spot letter offset i))

-- the field at the front of xs, which has that offset in a line of that letter, and what is left of xs
abbrev pub read_slot : Slot → ℕ → ℕ → List ℕ → Result (ℕ × List ℕ) FieldFault
read_slot s letter offset xs = ranged s letter offset xs (scan_slot s xs)

-- Writing.

-- the bytes that spell v, where any do
abbrev pub spell : Slot → ℕ → List ℕ
spell (number base count low high) v = digit_bytes base count v
spell (text class least w whole) v = digit_bytes 256 w (v / 256 ^ (whole - w))
spell (choice letters) v = v ∷ []

-- a walk found that number
abbrev pub is_read_again : ℕ → Result ℕ ℕ → Bool
is_read_again v (Ok w) = w == v
is_read_again v (Err i) = false

-- some bytes spell v
abbrev pub givable : Slot → ℕ → Bool
givable (number base count low high) v = nat_le low v && nat_le v high
givable (text class least w whole) v = is_read_again v (scan_slot (text class least w whole) (spell (text class least w whole) v))
givable (choice letters) v = is_one_of letters v

-- whether the field at that offset can be written
abbrev pub check_slot : Slot → ℕ → ℕ → ℕ → Result (Unit {0}) FieldFault
check_slot s letter offset v = cond (givable s v) (Ok tt) (Err (Range (origin letter offset)))

-- the bytes xs with p written over them from o on; p that does not fit changes nothing
unfoldable pub over : ℕ → List ℕ → List ℕ → List ℕ
over o p xs = cond (nat_le (o + length p) (length xs)) (take o xs ++ (p ++ drop (o + length p) xs)) xs
