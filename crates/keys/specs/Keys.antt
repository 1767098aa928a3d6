-- The words that records and sides are named by.
use Rattle.std.specs.Prelude.{ℕ, ◌-◌, cond, List, ◌++◌, length, replicate, Some, None, Ok, Err, codes, Option, Result, ◌==◌, nat_le}
use Rattle.std.specs.Str.{bytes_eq}
use Rattle.layout.specs.Slots.{Slot, width, scan_slot, in_range}
use Rattle.messages.specs.Layouts.{identifier, long_symbol}
use Rattle.messages.specs.declared.code.Side.{Side}
use Rattle.messages.specs.declared.code.Side.TheVariants.{Buy, Sell}

-- a field's value, where its range allows it
abbrev pub ranged : Slot → Result ℕ ℕ → Option ℕ
ranged s (Ok v) = cond (in_range s v) (Some v) None
ranged s (Err place) = None

-- what the field is that these bytes are, all of them
abbrev pub whole : Slot → List ℕ → Option ℕ
whole s bytes = cond (length bytes == width s) (ranged s (scan_slot s bytes)) None

abbrev pub id_of : List ℕ → Option ℕ
id_of w = whole identifier w

-- with spaces at its end, to eight bytes
abbrev pub padded : List ℕ → List ℕ
padded w = w ++ replicate (8 - length w) 32

abbrev pub symbol_of : List ℕ → Option ℕ
symbol_of w = cond (nat_le (length w) 8) (whole long_symbol (padded w)) None

abbrev pub side_of : List ℕ → Option Side
side_of w = cond (bytes_eq w (codes "B")) (Some Buy) (cond (bytes_eq w (codes "S")) (Some Sell) None)
