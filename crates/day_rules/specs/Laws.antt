-- What a log adds up to.
use Rattle.std.specs.Prelude.{◌≡◌, ℕ, ◌+◌, ◌*◌, ◌≤◌, Bool, true, false, List, length, Some, None, Err, Option}
use Rattle.messages.specs.declared.code.Side.{Side}
use Rattle.messages.specs.declared.code.Side.TheVariants.{Buy, Sell}
use Rattle.records.specs.declared.order.Order.{Order}
use Rattle.records.specs.declared.symbol_row.SymbolRow.{SymbolRow}
use Rattle.records.specs.declared.execution.Execution.{Execution}
use Rattle.records.specs.Keys.{row_worth, symbol_key}
use Rattle.records.specs.Values.{worth}
use Rattle.book.specs.declared.turnover.Turnover.{Turnover}
use Rattle.store.specs.Lists.{holds, those, sum}
use Rattle.book.specs.Books.{depth_of}
use Rattle.day_rules.specs.declared.fault.LedgerFault.{LedgerFault}
use Rattle.day_rules.specs.Days.{Day}
use Rattle.day_rules.specs.Log.{Log, Logged}
use Rattle.day_rules.specs.Questions.{book_in, market_in}
use Rattle.day_rules.specs.Rules.{order_in, execution_in, row_in, answer, next}
use Rattle.day_rules.specs.Words.{History, history, last_add, since_add, clear_among, taken_off, shares_added, shares_taken, shares_cleared, times_broken, volume_of, value_of, logged_order, logged_execution, logged_row, all_traded, IsAnswered}

-- What is asked after the log. A missing order or row counts as 0.

-- the shares resting of a symbol: those of its book on both sides
abbrev pub shares_resting : ℕ → Day → ℕ
shares_resting symbol d = (book_in symbol Buy d).depth.shares.number + (book_in symbol Sell d).depth.shares.number

abbrev pub other_side : Side → Side
other_side Buy = Sell
other_side Sell = Buy

-- the shares left of an order
abbrev pub shares_of : Option Order → ℕ
shares_of None = 0
shares_of (Some o) = o.shares

abbrev pub volume_in : Option SymbolRow → ℕ
volume_in None = 0
volume_in (Some r) = r.volume

abbrev pub value_in : Option SymbolRow → ℕ
value_in None = 0
value_in (Some r) = row_worth r

-- A symbol's shares: those of accepted adds are those resting, those of accepted executions and cancels, and those that accepted clears report.
unfoldable pub IsBalanced : History → (symbol resting : ℕ) → Type 0
IsBalanced h symbol resting = shares_added symbol h ≡ resting + shares_taken symbol h + shares_cleared symbol h

-- An order's shares: 0 for an ID that was never added; 0 if a clear of its last add's symbol came since; else that add's shares less those of the executions and cancels since.
abbrev pub IsLeftOf : Option Order → (since : History) → (id left : ℕ) → Type 0
IsLeftOf None since id left = left ≡ 0
IsLeftOf (Some o) since id left =
    (clear_among o.symbol since ≡ true → left ≡ 0) × (clear_among o.symbol since ≡ false → left + taken_off id since ≡ o.shares)

unfoldable pub IsLeft : History → (id left : ℕ) → Type 0
IsLeft h id left = IsLeftOf (last_add id h) (since_add id h) id left

-- A symbol's volume and value: the sums over its accepted, unbroken executions and trades.
unfoldable pub IsTraded : History → (symbol volume value : ℕ) → Type 0
IsTraded h symbol volume value = (volume ≡ volume_of symbol h) × (value ≡ value_of symbol h)

-- For every symbol and every Order ID.

abbrev pub SharesBalance : Log → Day → Type 0
SharesBalance log d = (symbol : ℕ) → IsBalanced (history log) symbol (shares_resting symbol d)

abbrev pub OrdersAddUp : Log → Day → Type 0
OrdersAddUp log d = (id : ℕ) → IsLeft (history log) id (shares_of (order_in id d))

abbrev pub TurnoverAddsUp : Log → Day → Type 0
TurnoverAddsUp log d = (symbol : ℕ) → IsTraded (history log) symbol (volume_in (row_in symbol d)) (value_in (row_in symbol d))

-- no execution or trade is broken twice
abbrev pub NoneBrokenTwice : Log → Type 0
NoneBrokenTwice log = (x : ℕ) → times_broken x (history log) ≤ 1

-- Each question's reply is what the log says.

abbrev pub OrdersAsAdded : Log → Day → Type 0
OrdersAsAdded log d = (id : ℕ) → order_in id d ≡ logged_order id (history log)

abbrev pub ExecutionsAsAccepted : Log → Day → Type 0
ExecutionsAsAccepted log d = (x : ℕ) → execution_in x d ≡ logged_execution x (history log)

abbrev pub RowsAsTraded : Log → Day → Type 0
RowsAsTraded log d = (symbol : ℕ) → row_in symbol d ≡ logged_row symbol (history log)

-- all symbols' volume and value together are the sums over all accepted, unbroken executions and trades
unfoldable pub IsMarket : History → Turnover → Type 0
IsMarket h t = (t.volume.number ≡ sum (λ e. e.shares) (all_traded h)) × (worth t.value ≡ sum (λ e. e.shares * e.price) (all_traded h))

abbrev pub MarketAddsUp : Log → Day → Type 0
MarketAddsUp log d = IsMarket (history log) (market_in d)

abbrev pub AcceptedAreCounted : Log → Day → Type 0
AcceptedAreCounted log d = d.accepted ≡ length (history log)

-- each stored execution's symbol has a row, so that no break meets a missing one
abbrev pub ExecutionsHaveRows : Day → Type 0
ExecutionsHaveRows d = (x : ℕ) (e : Execution) → execution_in x d ≡ Some e → holds symbol_key e.symbol d.symbols.rows ≡ true

-- no number of orders stops at the greatest, whatever orders are counted: those of a book, or those that a clear takes off
abbrev pub OrdersAreCounted : Day → Type 0
OrdersAreCounted d = (p : Order → Bool) → (depth_of (those p d.orders.rows)).orders.number ≡ length (those p d.orders.rows)

-- each accepted message is answered in words of the log up to it
abbrev pub AnswersAddUp : Log → Type 0
AnswersAddUp log = IsAnswered (history log)

-- All this holds of every log since a ledger's opening, and of the day that the ledger keeps after it.
pub record LogLaws (log : Log) (d : Day) : Type 0 where
  pub shares_balance : SharesBalance log d
  pub orders_add_up : OrdersAddUp log d
  pub turnover_adds_up : TurnoverAddsUp log d
  pub none_broken_twice : NoneBrokenTwice log
  pub orders_as_added : OrdersAsAdded log d
  pub executions_as_accepted : ExecutionsAsAccepted log d
  pub rows_as_traded : RowsAsTraded log d
  pub market_adds_up : MarketAddsUp log d
  pub accepted_are_counted : AcceptedAreCounted log d
  pub orders_are_counted : OrdersAreCounted d
  pub answers_add_up : AnswersAddUp log
  pub executions_have_rows : ExecutionsHaveRows d

abbrev pub EveryLog : Type 0
EveryLog = (log : Log) (d : Day) → Logged log d → LogLaws log d

-- A refused line changes nothing.
abbrev pub RefusedUnchanged : Type 0
RefusedUnchanged = (line : List ℕ) (d : Day) (f : LedgerFault) → answer line d ≡ Err f → next line d ≡ d
