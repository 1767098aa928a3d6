-- The letters of the values that a line has as one letter.
use Rattle.std.specs.Prelude.{ℕ, List, [], ◌∷◌}
use Rattle.messages.specs.declared.code.Side.{Side}
use Rattle.messages.specs.declared.code.Side.TheVariants.{Buy, Sell}
use Rattle.messages.specs.declared.code.TradeSide.{TradeSide}
use Rattle.messages.specs.declared.code.TradeSide.TheVariants as trade
use Rattle.messages.specs.declared.code.Display.{Display}
use Rattle.messages.specs.declared.code.Display.TheVariants.{Quoted, Unquoted}
use Rattle.messages.specs.declared.code.Customer.{Customer}
use Rattle.messages.specs.declared.code.Customer.TheVariants.{Retail, Blank}

-- B and S
abbrev pub side_letters : List ℕ
side_letters = 66 ∷ 83 ∷ []

abbrev pub side_letter : Side → ℕ
side_letter Buy = 66
side_letter Sell = 83

-- B
abbrev pub trade_side_letters : List ℕ
trade_side_letters = 66 ∷ []

abbrev pub trade_side_letter : TradeSide → ℕ
trade_side_letter trade.Buy = 66

-- Y and N
abbrev pub display_letters : List ℕ
display_letters = 89 ∷ 78 ∷ []

abbrev pub display_letter : Display → ℕ
display_letter Quoted = 89
display_letter Unquoted = 78

-- R and a space
abbrev pub customer_letters : List ℕ
customer_letters = 82 ∷ 32 ∷ []

abbrev pub customer_letter : Customer → ℕ
customer_letter Retail = 82
customer_letter Blank = 32
