-- What the laws ask of the table's rows, one line a kind.
use Rattle.std.proofs.Common.{◌≡◌, ℕ, ◌≤◌, true, false, eqb, List, [], ◌∷◌, Some, None, Option, sym, refl, ap, ◌∙◌, subst, ⊎_elim, lit≤}
use Rattle.std.proofs.lemmas.Bool.{cases_Bool, eqb-true, ne_eqb}
use Rattle.layout.proofs.Laying.{tiled}
use Rattle.layout.proofs.Putting.{Each}
use Rattle.messages.specs.declared.message.Message.{Message}
use Rattle.messages.specs.declared.message.Message.TheVariants as message
use Rattle.messages.specs.Types.{MessageType}
use Rattle.messages.specs.Types.{SymbolClear, AddShort, AddLong, OrderExecuted, OrderCancel, TradeShort, TradeLong, TradeBreak}
use Rattle.messages.specs.Layouts.{letter_of, length_of, layout_of}
use Rattle.messages.specs.Lines.{types, type_among}
use Rattle.messages.specs.Values.{type_of, values_of}

pub record Row (t : MessageType) : Type 0 where
  -- the fields follow one another from 0 to the length, each sound
  pub tiles : tiled 0 (layout_of t) (length_of t) ≡ true
  -- the letter names the kind
  pub named : type_among types (letter_of t) ≡ Some t
  pub long : 9 ≤ length_of t
  pub short : length_of t ≤ 64

pub row : (t : MessageType) → Row t
row SymbolClear = record { tiles = refl; named = refl; long = lit≤ tt; short = lit≤ tt }
row AddShort = record { tiles = refl; named = refl; long = lit≤ tt; short = lit≤ tt }
row AddLong = record { tiles = refl; named = refl; long = lit≤ tt; short = lit≤ tt }
row OrderExecuted = record { tiles = refl; named = refl; long = lit≤ tt; short = lit≤ tt }
row OrderCancel = record { tiles = refl; named = refl; long = lit≤ tt; short = lit≤ tt }
row TradeShort = record { tiles = refl; named = refl; long = lit≤ tt; short = lit≤ tt }
row TradeLong = record { tiles = refl; named = refl; long = lit≤ tt; short = lit≤ tt }
row TradeBreak = record { tiles = refl; named = refl; long = lit≤ tt; short = lit≤ tt }

-- a message has a value for each field
pub each : (m : Message) → Each (layout_of (type_of m)) (values_of m)
each (message.SymbolClear r) = tt
each (message.AddShort r) = tt
each (message.AddLong r) = tt
each (message.OrderExecuted r) = tt
each (message.OrderCancel r) = tt
each (message.TradeShort r) = tt
each (message.TradeLong r) = tt
each (message.TradeBreak r) = tt

-- the kind that a letter names has that letter
abbrev Letter : ℕ → Option MessageType → Type 0
Letter letter None = Unit {0}
Letter letter (Some t) = letter_of t ≡ letter

among : (ts : List MessageType) (letter : ℕ) → Letter letter (type_among ts letter)
among [] letter = tt
among (t ∷ ts) letter = ⊎_elim (λ e. rw e (sym (eqb-true letter (letter_of t) e))) (λ e. rw e (among ts letter)) (cases_Bool (eqb letter (letter_of t)))

pub letter-of : (letter : ℕ) (t : MessageType) → type_among types letter ≡ Some t → letter_of t ≡ letter
letter-of letter t e = subst (Letter letter) e (among types letter)

pub type-of : (letter : ℕ) (t : MessageType) → letter_of t ≡ letter → type_among types letter ≡ Some t
type-of letter t e = ap (type_among types) (sym e) ∙ (row t).named

-- a letter that is no kind's names none
unnamed : (ts : List MessageType) (letter : ℕ) → ((t : MessageType) → letter_of t ≡ letter → ⊥) → type_among ts letter ≡ None
unnamed [] letter h = refl
unnamed (t ∷ ts) letter h = let other : eqb letter (letter_of t) ≡ false = ne_eqb letter (letter_of t) (λ e. h t (sym e)) in rw other (unnamed ts letter h)

pub no-type : (letter : ℕ) → ((t : MessageType) → letter_of t ≡ letter → ⊥) → type_among types letter ≡ None
no-type letter h = unnamed types letter h
