-- The layout table: each kind's letter, length and fields by offset, as the feed lays them out.
use Rattle.std.specs.Prelude.{ℕ, List, [], ◌∷◌}
use Rattle.layout.specs.declared.class.Class.TheVariants.{Graphic, Letter}
use Rattle.layout.specs.Slots.{Slot, number, text, choice}
use Rattle.layout.specs.Fields.{Field, at}
use Rattle.messages.specs.Types.{MessageType}
use Rattle.messages.specs.Types.{SymbolClear, AddShort, AddLong, OrderExecuted, OrderCancel, TradeShort, TradeLong, TradeBreak}

-- byte 8 of a line
abbrev pub letter_of : MessageType → ℕ
letter_of SymbolClear = 115
letter_of AddShort = 65
letter_of AddLong = 100
letter_of OrderExecuted = 69
letter_of OrderCancel = 88
letter_of TradeShort = 80
letter_of TradeLong = 114
letter_of TradeBreak = 66

abbrev pub length_of : MessageType → ℕ
length_of SymbolClear = 17
length_of AddShort = 45
length_of AddLong = 52
length_of OrderExecuted = 39
length_of OrderCancel = 27
length_of TradeShort = 56
length_of TradeLong = 58
length_of TradeBreak = 21

-- What a field holds.

-- milliseconds past midnight, below one day
abbrev pub time : Slot
time = number 10 8 0 86399999

-- base 36
abbrev pub identifier : Slot
identifier = number 36 12 0 4738381338321616895

abbrev pub shares : Slot
shares = number 10 6 1 999999

-- ten-thousandths of a dollar
abbrev pub price : Slot
price = number 10 10 0 9999999999

-- one or more printable bytes, filled up with spaces
abbrev pub short_symbol : Slot
short_symbol = text Graphic 1 6 8

abbrev pub long_symbol : Slot
long_symbol = text Graphic 1 8 8

-- none to four letters, filled up with spaces
abbrev pub participant : Slot
participant = text Letter 0 4 4

-- B or S
abbrev pub side : Slot
side = choice (66 ∷ 83 ∷ [])

-- B
abbrev pub trade_side : Slot
trade_side = choice (66 ∷ [])

-- Y or N
abbrev pub display : Slot
display = choice (89 ∷ 78 ∷ [])

-- R or a space
abbrev pub customer : Slot
customer = choice (82 ∷ 32 ∷ [])

-- the letter of the kind itself
abbrev pub mark : MessageType → Slot
mark t = choice (letter_of t ∷ [])

-- the fields of each kind from offset 9 on
abbrev pub body_of : MessageType → List Field
body_of SymbolClear = at 9 long_symbol ∷ []
body_of AddShort = at 9 identifier ∷ at 21 side ∷ at 22 shares ∷ at 28 short_symbol ∷ at 34 price ∷ at 44 display ∷ []
body_of AddLong = at 9 identifier ∷ at 21 side ∷ at 22 shares ∷ at 28 long_symbol ∷ at 36 price ∷ at 46 display ∷ at 47 participant ∷ at 51 customer ∷ []
body_of OrderExecuted = at 9 identifier ∷ at 21 shares ∷ at 27 identifier ∷ []
body_of OrderCancel = at 9 identifier ∷ at 21 shares ∷ []
body_of TradeShort = at 9 identifier ∷ at 21 trade_side ∷ at 22 shares ∷ at 28 short_symbol ∷ at 34 price ∷ at 44 identifier ∷ []
body_of TradeLong = at 9 identifier ∷ at 21 trade_side ∷ at 22 shares ∷ at 28 long_symbol ∷ at 36 price ∷ at 46 identifier ∷ []
body_of TradeBreak = at 9 identifier ∷ []

-- every kind has a time at 0 and its letter at 8
abbrev pub layout_of : MessageType → List Field
layout_of t = at 0 time ∷ at 8 (mark t) ∷ body_of t
