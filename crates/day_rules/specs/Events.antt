-- What a message asks of a ledger, in whichever form its line gives it.
use Rattle.std.specs.Prelude.{ℕ, false}
use Rattle.messages.specs.declared.message.Message.{Message}
use Rattle.messages.specs.declared.message.Message.TheVariants.{SymbolClear, AddShort, AddLong, OrderExecuted, OrderCancel, TradeShort, TradeLong, TradeBreak}
use Rattle.messages.specs.declared.record.AddOrder.{AddOrder}
use Rattle.messages.specs.declared.record.Trade.{Trade}
use Rattle.records.specs.declared.order.Order.{Order}
use Rattle.records.specs.declared.execution.Execution.{Execution}

pub data Event : Type 0 where
  -- all orders of the symbol leave the book
  clears : (symbol : ℕ) → Event
  -- an order comes to rest
  adds : (added : Order) → Event
  -- so many shares of the order are executed, under an Execution ID
  executes : (order shares execution : ℕ) → Event
  -- so many shares of the order are cancelled
  cancels : (order shares : ℕ) → Event
  -- shares are traded, and the book stays as it is
  trades : (traded : Execution) → Event
  -- an execution or a trade is broken
  breaks : (execution : ℕ) → Event

-- the order that an add brings
abbrev pub order_of : AddOrder → Order
order_of a = record { id = a.terms.order; symbol = a.terms.symbol; price = a.terms.price; shares = a.terms.shares; side = a.terms.side; display = a.display }

-- the execution that a trade is: with its own symbol and price, whatever order has its Order ID
abbrev pub trade_of : Trade → Execution
trade_of t = record { id = t.execution; symbol = t.terms.symbol; price = t.terms.price; shares = t.terms.shares; broken = false }

abbrev pub event_of : Message → Event
event_of (SymbolClear r) = clears r.symbol
event_of (AddShort r) = adds (order_of r)
event_of (AddLong r) = adds (order_of r.add)
event_of (OrderExecuted r) = executes r.order r.shares r.execution
event_of (OrderCancel r) = cancels r.order r.shares
event_of (TradeShort r) = trades (trade_of r)
event_of (TradeLong r) = trades (trade_of r)
event_of (TradeBreak r) = breaks r.execution
