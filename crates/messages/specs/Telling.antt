-- The message that a kind and values tell: `told` the other way round. Letters that stand for nothing are never read.
use Rattle.std.specs.Prelude.{ℕ, cond, List, Ok, Err, Result, ◌==◌, slice_index}
use Rattle.messages.specs.declared.code.Side.{Side}
use Rattle.messages.specs.declared.code.Side.TheVariants.{Buy, Sell}
use Rattle.messages.specs.declared.code.TradeSide.TheVariants as trade
use Rattle.messages.specs.declared.code.Display.{Display}
use Rattle.messages.specs.declared.code.Display.TheVariants.{Quoted, Unquoted}
use Rattle.messages.specs.declared.code.Customer.{Customer}
use Rattle.messages.specs.declared.code.Customer.TheVariants.{Retail, Blank}
use Rattle.messages.specs.declared.fault.MessageFault.{MessageFault}
use Rattle.messages.specs.declared.message.Message.{Message}
use Rattle.messages.specs.declared.message.Message.TheVariants as message
use Rattle.messages.specs.declared.record.AddOrder.{AddOrder}
use Rattle.messages.specs.declared.record.Terms.{Terms}
use Rattle.messages.specs.declared.record.Trade.{Trade}
use Rattle.messages.specs.Types.{MessageType}
use Rattle.messages.specs.Types.{SymbolClear, AddShort, AddLong, OrderExecuted, OrderCancel, TradeShort, TradeLong, TradeBreak}
use Rattle.messages.specs.Lines.{line_read}

-- the side of a letter
abbrev pub side_of : ℕ → Side
side_of x = cond (x == 66) Buy Sell

abbrev pub display_of : ℕ → Display
display_of x = cond (x == 89) Quoted Unquoted

abbrev pub customer_of : ℕ → Customer
customer_of x = cond (x == 82) Retail Blank

-- the terms, with the side that a letter stands for
abbrev pub terms_of : {S : Type 0} → (ℕ → S) → List ℕ → Terms S
terms_of side vs = record { time = slice_index vs 0; order = slice_index vs 2; side = side (slice_index vs 3); shares = slice_index vs 4; symbol = slice_index vs 5; price = slice_index vs 6 }

abbrev pub add_of : List ℕ → AddOrder
add_of vs = record { terms = terms_of side_of vs; display = display_of (slice_index vs 7) }

abbrev pub trade_of : List ℕ → Trade
trade_of vs = record { terms = terms_of (λ _. trade.Buy) vs; execution = slice_index vs 7 }

-- the message of a kind that has those values
abbrev pub message_of : MessageType × List ℕ → Message
message_of (SymbolClear, vs) = message.SymbolClear (record { time = slice_index vs 0; symbol = slice_index vs 2 })
message_of (AddShort, vs) = message.AddShort (add_of vs)
message_of (AddLong, vs) = message.AddLong (record { add = add_of vs; participant = slice_index vs 8; customer = customer_of (slice_index vs 9) })
message_of (OrderExecuted, vs) = message.OrderExecuted (record { time = slice_index vs 0; order = slice_index vs 2; shares = slice_index vs 3; execution = slice_index vs 4 })
message_of (OrderCancel, vs) = message.OrderCancel (record { time = slice_index vs 0; order = slice_index vs 2; shares = slice_index vs 3 })
message_of (TradeShort, vs) = message.TradeShort (trade_of vs)
message_of (TradeLong, vs) = message.TradeLong (trade_of vs)
message_of (TradeBreak, vs) = message.TradeBreak (record { time = slice_index vs 0; execution = slice_index vs 2 })

-- what reading gives, as a message
abbrev pub as_message : Result (MessageType × List ℕ) MessageFault → Result Message MessageFault
as_message (Ok p) = Ok (message_of p)
as_message (Err e) = Err e

-- the message that a line is, or the first fault
unfoldable pub line_message : List ℕ → Result Message MessageFault
line_message xs = as_message (line_read xs)
