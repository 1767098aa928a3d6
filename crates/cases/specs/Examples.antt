-- Worked examples: of reading a line, of values, and of keeping a day.
use Rattle.std.specs.Prelude.{◌≡◌, ℕ, ◌+◌, ◌*◌, Bool, true, false, ◌&&◌, List, [], ◌∷◌, Ok, codes, ◌==◌}
use Rattle.std.specs.Int.Digits.{number_from_digits as number_of}
use Rattle.messages.specs.declared.code.Side.TheVariants.{Buy, Sell}
use Rattle.messages.specs.declared.code.TradeSide.TheVariants as trade_side
use Rattle.messages.specs.declared.code.Display.TheVariants.{Quoted, Unquoted}
use Rattle.messages.specs.declared.code.Customer.TheVariants.{Retail}
use Rattle.messages.specs.declared.message.Message.{Message}
use Rattle.messages.specs.declared.message.Message.TheVariants.{SymbolClear, AddShort, AddLong, OrderExecuted, OrderCancel, TradeShort, TradeLong, TradeBreak}
use Rattle.messages.specs.declared.record.AddOrder.{AddOrder}
use Rattle.messages.specs.declared.record.LongAdd.{LongAdd}
use Rattle.messages.specs.declared.record.Trade.{Trade}
use Rattle.messages.specs.Refusals.{Refuses}
use Rattle.messages.specs.Telling.{line_message}
use Rattle.records.specs.declared.symbol_row.SymbolRow.{SymbolRow}
use Rattle.records.specs.Keys.{row_worth}
use Rattle.records.specs.Values.{stopped, high_of, low_of}
use Rattle.store.specs.Models.{Model}
use Rattle.day_rules.specs.Days.{Day, greatest_limit}
use Rattle.day_rules.specs.Rules.{answer, next}
use Rattle.day_forms.specs.Texts.{answer_text}

pub data Example : Type 0 where
  -- reading the line gives that message
  reads : (line : List ℕ) (message : Message) → Example
  -- it is refused by that number, and with those values
  refuses : (line : List ℕ) (number : ℕ) (carried : List ℕ) → Example
  -- a value of that worth has these two parts
  parted : (worth high low : ℕ) → Example
  -- a day with an order store of that limit answers each line with what is shown as that text, and
  -- then has these volumes and values on its rows
  keeps : (limit : ℕ) (lines : List (List ℕ × List ℕ)) (traded : List ℕ) → Example

abbrev pub same_list : List ℕ → List ℕ → Bool
same_list [] [] = true
same_list [] (y ∷ ys) = false
same_list (x ∷ xs) [] = false
same_list (x ∷ xs) (y ∷ ys) = x == y && same_list xs ys

-- a store of so many records at most, of which it holds none
abbrev pub empty : {X : Type 0} → ℕ → Model X
empty limit = record { rows = []; limit = limit }

-- a day that begins, with an order store of that limit
abbrev pub begun : ℕ → Day
begun limit = record { orders = empty limit; executions = empty 64; symbols = empty 16; day_limit = greatest_limit; accepted = 0 }

-- the volume and the value of each row
abbrev pub turnovers : List SymbolRow → List ℕ
turnovers [] = []
turnovers (r ∷ rs) = r.volume ∷ row_worth r ∷ turnovers rs

-- each line is answered so, one after the other
abbrev pub answers : List (List ℕ × List ℕ) → List ℕ → Day → Bool
answers [] traded d = same_list (turnovers d.symbols.rows) traded
answers (p ∷ ps) traded d = same_list (answer_text (answer p.0 d)) p.1 && answers ps traded (next p.0 d)

abbrev pub Stands : Example → Type 0
Stands (reads line message) = line_message line ≡ Ok message
Stands (refuses line number carried) = Refuses (line_message line) number carried
Stands (parted worth high low) = (high_of worth ≡ high) × (low_of worth ≡ low)
Stands (keeps limit lines traded) = answers lines traded (begun limit) ≡ true

abbrev pub Holds : List Example → Type 0
Holds [] = Unit {0}
Holds (x ∷ xs) = Stands x × Holds xs

-- the most shares at the highest price
abbrev most : ℕ
most = stopped (999999 * 9999999999)

-- a symbol by its eight bytes
abbrev pub symbol_of : List ℕ → ℕ
symbol_of bytes = number_of 256 bytes

-- an add of so many shares of ABCD at 10.25 under the ID 0000000000A1, part of the quote
abbrev pub add : (time shares : ℕ) → AddOrder
add time shares =
    record {
      terms = record {
        time = time;
        order = 361;
        side = Buy;
        shares = shares;
        symbol = symbol_of (codes "ABCD    ");
        price = 102500;
      };
      display = Quoted;
    }

-- an add of a symbol of six letters, for a retail customer, of the participant whose name is blank
abbrev pub long_add : LongAdd
long_add =
    record {
      add = record {
        terms = record {
          time = 34200040;
          order = 362;
          side = Sell;
          shares = 70;
          symbol = symbol_of (codes "EFGHIJ  ");
          price = 200000;
        };
        display = Unquoted;
      };
      participant = number_of 256 (codes "    ");
      customer = Retail;
    }

abbrev pub trade : (time shares symbol price execution : ℕ) → Trade
trade time shares symbol price execution =
    record {
      terms = record {
        time = time;
        order = 361;
        side = trade_side.Buy;
        shares = shares;
        symbol = symbol;
        price = price;
      };
      execution = execution;
    }

-- letters of messages: 65 is A
abbrev pub examples : List Example
examples =
    -- no bytes, and a letter that is no kind's
    refuses (codes "") 1 []
    ∷ refuses (codes "34200000Z") 2 (90 ∷ [])
    -- an add of 44 and of 46 bytes
    ∷ refuses (codes "34200000A0000000000A1B000500ABCD  0000102500") 3 (65 ∷ [])
    ∷ refuses (codes "34200000A0000000000A1B000500ABCD  0000102500YY") 3 (65 ∷ [])
    -- the last millisecond of the day, and one more
    ∷ reads (codes "86399999A0000000000A1B000500ABCD  0000102500Y") (AddShort (add 86399999 500))
    ∷ refuses (codes "86400000A0000000000A1B000500ABCD  0000102500Y") 5 (65 ∷ 0 ∷ [])
    -- the least and the most shares, and none
    ∷ reads (codes "34200000A0000000000A1B000001ABCD  0000102500Y") (AddShort (add 34200000 1))
    ∷ reads (codes "34200000A0000000000A1B999999ABCD  0000102500Y") (AddShort (add 34200000 999999))
    ∷ refuses (codes "34200000A0000000000A1B000000ABCD  0000102500Y") 5 (65 ∷ 22 ∷ [])
    -- a lower-case letter is no digit
    ∷ refuses (codes "34200000A0000000000AaB000500ABCD  0000102500Y") 4 (65 ∷ 20 ∷ [])
    -- the 35th ID, and the greatest
    ∷ reads (codes "34200000X00000000000Z000300")
    (OrderCancel (record { time = 34200000; order = 35; shares = 300 }))
    ∷ reads (codes "34200000XZZZZZZZZZZZZ000300")
    (OrderCancel (record { time = 34200000; order = 4738381338321616895; shares = 300 }))
    -- a byte of the class after a space, and a space before any
    ∷ refuses (codes "34200000A0000000000A1B000500A B   0000102500Y") 4 (65 ∷ 30 ∷ [])
    ∷ refuses (codes "34200000A0000000000A1B000500 ABCD 0000102500Y") 4 (65 ∷ 28 ∷ [])
    -- the other kinds
    ∷ reads (codes "28800000sABCD    ")
    (SymbolClear (record { time = 28800000; symbol = symbol_of (codes "ABCD    ") }))
    ∷ reads (codes "34200040d0000000000A2S000070EFGHIJ  0000200000N    R") (AddLong long_add)
    ∷ reads (codes "34200010E0000000000A1000200000000000001")
    (OrderExecuted (record { time = 34200010; order = 361; shares = 200; execution = 1 }))
    ∷ reads (codes "34200040P0000000000A1B000050ABCD  0000101000000000000003")
    (TradeShort (trade 34200040 50 (symbol_of (codes "ABCD    ")) 101000 3))
    ∷ reads (codes "34200050r0000000000A1B000010EFGHIJ  0000200000000000000004")
    (TradeLong (trade 34200050 10 (symbol_of (codes "EFGHIJ  ")) 200000 4))
    ∷ reads (codes "34200030B000000000001") (TradeBreak (record { time = 34200030; execution = 1 }))
    -- the greatest product of a message, and the sum of two of them
    ∷ parted most 0 9999989999000001
    ∷ parted (stopped (most + most)) 1 9999979998000002
    -- of two orders at most the third is refused, and accepted once one of them is cancelled in full
    ∷ keeps 2
    ((codes "34200000A0000000000A1B000500ABCD  0000102500Y", codes "(took 0 500)")
    ∷ (codes "34200010A0000000000A2S000300ABCD  0000102600Y", codes "(took 0 300)")
    ∷ (codes "34200020A0000000000A3B000100EFGH  0000099000N", codes "(refused 12 (order))")
    ∷ (codes "34200030X0000000000A1000500", codes "(took 1 0)")
    ∷ (codes "34200020A0000000000A3B000100EFGH  0000099000N", codes "(took 0 100)")
    ∷ [])
    (0 ∷ 0 ∷ 0 ∷ 0 ∷ [])
    -- an execution broken after its order was cancelled and added again at another price; then trades, long forms and a clear
    ∷ keeps 64
    ((codes "28800000sABCD    ", codes "(took 0 0)")
    ∷ (codes "34200000A0000000000A1B000500ABCD  0000102500Y", codes "(took 0 500)")
    ∷ (codes "34200010E0000000000A1000200000000000001", codes "(took 0 300)")
    ∷ (codes "34200020X0000000000A1000300", codes "(took 1 0)")
    ∷ (codes "34200020A0000000000A1B000300ABCD  0000105000Y", codes "(took 0 300)")
    ∷ (codes "34200025E0000000000A1000100000000000002", codes "(took 0 200)")
    ∷ (codes "34200030B000000000001", codes "(took 0 100)")
    ∷ (codes "34200030B000000000001", codes "(refused 11)")
    ∷ (codes "34200040P0000000000A1B000050ABCD  0000101000000000000003", codes "(took 0 150)")
    ∷ (codes "34200040d0000000000A2S000070EFGHIJ  0000200000Y    R", codes "(took 0 70)")
    ∷ (codes "34200050r0000000000A2B000010EFGHIJ  0000200000000000000004", codes "(took 0 10)")
    ∷ (codes "34200060sABCD    ", codes "(took 1 200)")
    ∷ [])
    (150 ∷ 15550000 ∷ 10 ∷ 2000000 ∷ [])
    ∷ []

-- each of them holds
abbrev pub ExamplesHold : Type 0
ExamplesHold = Holds examples
