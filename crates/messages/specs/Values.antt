-- What a record says, field by field: the values of the fields of its line, by offset. The second is the kind's letter.
use Rattle.std.specs.Prelude.{ℕ, List, [], ◌∷◌}
use Rattle.messages.specs.declared.message.Message.{Message}
use Rattle.messages.specs.declared.message.Message.TheVariants.{SymbolClear, AddShort, AddLong, OrderExecuted, OrderCancel, TradeShort, TradeLong, TradeBreak}
use Rattle.messages.specs.declared.record.ClearSymbol.{ClearSymbol}
use Rattle.messages.specs.declared.record.AddOrder.{AddOrder}
use Rattle.messages.specs.declared.record.LongAdd.{LongAdd}
use Rattle.messages.specs.declared.record.OrderExecution.{OrderExecution}
use Rattle.messages.specs.declared.record.Cancel.{Cancel}
use Rattle.messages.specs.declared.record.Terms.{Terms}
use Rattle.messages.specs.declared.record.Trade.{Trade}
use Rattle.messages.specs.declared.record.Break.{Break}
use Rattle.messages.specs.Types.{MessageType}
use Rattle.messages.specs.Types as kind
use Rattle.messages.specs.Codes.{side_letter, trade_side_letter, display_letter, customer_letter}
use Rattle.messages.specs.Layouts.{letter_of}

abbrev pub clear_values : ClearSymbol → List ℕ
clear_values r = r.time ∷ letter_of kind.SymbolClear ∷ r.symbol ∷ []

-- the terms, by the letter of their side, and then what else the line says
abbrev pub terms_then : {S : Type 0} → (S → ℕ) → ℕ → Terms S → List ℕ → List ℕ
terms_then side letter r vs = r.time ∷ letter ∷ r.order ∷ side r.side ∷ r.shares ∷ r.symbol ∷ r.price ∷ vs

abbrev pub add_values : AddOrder → List ℕ
add_values r = terms_then side_letter (letter_of kind.AddShort) r.terms (display_letter r.display ∷ [])

abbrev pub long_add_values : LongAdd → List ℕ
long_add_values r =
    terms_then side_letter (letter_of kind.AddLong) r.add.terms
    (display_letter r.add.display ∷ r.participant ∷ customer_letter r.customer ∷ [])

abbrev pub executed_values : OrderExecution → List ℕ
executed_values r = r.time ∷ letter_of kind.OrderExecuted ∷ r.order ∷ r.shares ∷ r.execution ∷ []

abbrev pub cancel_values : Cancel → List ℕ
cancel_values r = r.time ∷ letter_of kind.OrderCancel ∷ r.order ∷ r.shares ∷ []

-- of the short and of the long form
abbrev pub trade_values : MessageType → Trade → List ℕ
trade_values t r = terms_then trade_side_letter (letter_of t) r.terms (r.execution ∷ [])

abbrev pub break_values : Break → List ℕ
break_values r = r.time ∷ letter_of kind.TradeBreak ∷ r.execution ∷ []

-- a message's kind
abbrev pub type_of : Message → MessageType
type_of (SymbolClear r) = kind.SymbolClear
type_of (AddShort r) = kind.AddShort
type_of (AddLong r) = kind.AddLong
type_of (OrderExecuted r) = kind.OrderExecuted
type_of (OrderCancel r) = kind.OrderCancel
type_of (TradeShort r) = kind.TradeShort
type_of (TradeLong r) = kind.TradeLong
type_of (TradeBreak r) = kind.TradeBreak

-- and what it says
abbrev pub values_of : Message → List ℕ
values_of (SymbolClear r) = clear_values r
values_of (AddShort r) = add_values r
values_of (AddLong r) = long_add_values r
values_of (OrderExecuted r) = executed_values r
values_of (OrderCancel r) = cancel_values r
values_of (TradeShort r) = trade_values kind.TradeShort r
values_of (TradeLong r) = trade_values kind.TradeLong r
values_of (TradeBreak r) = break_values r
