-- The rules of a day: when a message is refused, what it answers, and what it changes.
use Rattle.std.specs.Prelude.{ℕ, ◌+◌, ◌-◌, Bool, true, false, cond, not, ◌&&◌, List, length, Some, None, Ok, Err, Option, Result, ◌==◌, nat_le, nat_lt}
use Rattle.messages.specs.declared.fault.MessageFault.{MessageFault}
use Rattle.messages.specs.declared.message.Message.{Message}
use Rattle.messages.specs.Telling.{line_message}
use Rattle.records.specs.declared.order.Order.{Order}
use Rattle.records.specs.declared.execution.Execution.{Execution}
use Rattle.records.specs.declared.symbol_row.SymbolRow.{SymbolRow}
use Rattle.records.specs.Keys.{order_key, execution_key, symbol_key}
use Rattle.store.specs.Lists.{lookup, holds, those}
use Rattle.store.specs.Models.{Model, inserted, replacing, removing, sweeping}
use Rattle.book.specs.Books.{is_of, depth_of}
use Rattle.day_rules.specs.declared.fault.LedgerFault.{LedgerFault}
use Rattle.day_rules.specs.declared.fault.LedgerFault.TheVariants.{Message as of_message, Resting, Absent, Excess, Repeated, Unmatched, Broken, Full, Closed}
use Rattle.day_rules.specs.declared.fault.StoreName.TheVariants.{Order as order_store, Execution as execution_store, Symbol as symbol_store}
use Rattle.day_rules.specs.declared.outcome.Outcome.{Outcome}
use Rattle.day_rules.specs.Days.{Day, with_orders, with_executions, with_symbols}
use Rattle.day_rules.specs.Events.{Event, clears, adds, executes, cancels, trades, breaks, event_of}
use Rattle.day_rules.specs.Rows.{with_execution, without_execution, new_row, row_or_new}

-- What a day has under a key.

abbrev pub order_in : ℕ → Day → Option Order
order_in id d = lookup order_key id d.orders.rows

abbrev pub execution_in : ℕ → Day → Option Execution
execution_in id d = lookup execution_key id d.executions.rows

abbrev pub row_in : ℕ → Day → Option SymbolRow
row_in symbol d = lookup symbol_key symbol d.symbols.rows

-- Why a message is refused. The checks come in this order, and all before the first change.

-- as many records as the limit allows
abbrev pub is_full : {X : Type 0} → Model X → Bool
is_full m = nat_le m.limit (length m.rows)

-- a row is needed for the symbol, and none fits
abbrev pub lacks_row : ℕ → Day → Bool
lacks_row symbol d = not (holds symbol_key symbol d.symbols.rows) && is_full d.symbols

-- an order may come to rest
abbrev pub may_rest : Order → Day → Result (Unit {0}) LedgerFault
may_rest o d =
    cond (holds order_key o.id d.orders.rows) (Err Resting)
    (cond (is_full d.orders) (Err (Full order_store))
    (cond (lacks_row o.symbol d) (Err (Full symbol_store)) (Ok tt)))

-- the order, if so many shares can be taken off it
abbrev pub shares_at_hand : ℕ → Option Order → Result Order LedgerFault
shares_at_hand n None = Err Absent
shares_at_hand n (Some o) = cond (nat_lt o.shares n) (Err Excess) (Ok o)

-- an execution of the symbol may be stored under the Execution ID
abbrev pub may_trade : (execution symbol : ℕ) → Day → Result (Unit {0}) LedgerFault
may_trade x symbol d =
    cond (holds execution_key x d.executions.rows) (Err Repeated)
    (cond (is_full d.executions) (Err (Full execution_store))
    (cond (lacks_row symbol d) (Err (Full symbol_store)) (Ok tt)))

-- an order's shares may be executed under the Execution ID
abbrev pub may_execute : ℕ → Day → Result Order LedgerFault → Result (Unit {0}) LedgerFault
may_execute x d (Err e) = Err e
may_execute x d (Ok o) = may_trade x o.symbol d

abbrev pub may_cancel : Result Order LedgerFault → Result (Unit {0}) LedgerFault
may_cancel (Err e) = Err e
may_cancel (Ok o) = Ok tt

-- the execution, if it can be broken
abbrev pub unbroken : Option Execution → Result Execution LedgerFault
unbroken None = Err Unmatched
unbroken (Some e) = cond e.broken (Err Broken) (Ok e)

abbrev pub may_break : Result Execution LedgerFault → Result (Unit {0}) LedgerFault
may_break (Err e) = Err e
may_break (Ok e) = Ok tt

abbrev pub allowed : Event → Day → Result (Unit {0}) LedgerFault
allowed (clears symbol) d = Ok tt
allowed (adds o) d = may_rest o d
allowed (executes order shares execution) d = may_execute execution d (shares_at_hand shares (order_in order d))
allowed (cancels order shares) d = may_cancel (shares_at_hand shares (order_in order d))
allowed (trades e) d = may_trade e.id e.symbol d
allowed (breaks execution) d = may_break (unbroken (execution_in execution d))

-- What an allowed message changes.

-- the order with fewer shares left, or gone with the last of them
abbrev pub less_shares : ℕ → Order → Order
less_shares n o = record o { shares = o.shares - n }

abbrev pub reduced : ℕ → Order → Day → Day
reduced n o d = with_orders (cond (o.shares == n) (removing order_key o.id d.orders) (replacing order_key (less_shares n o) d.orders)) d

-- a row stands for the symbol
abbrev pub with_row : ℕ → Day → Day
with_row symbol d = with_symbols (inserted symbol_key (new_row symbol) d.symbols) d

-- an order rests
abbrev pub rested : Order → Day → Day
rested o d = with_row o.symbol (with_orders (inserted order_key o d.orders) d)

-- the row of a symbol after an execution
abbrev pub row_after : Execution → Day → SymbolRow
row_after e d = with_execution e (row_or_new e.symbol (row_in e.symbol d))

-- a row written over the one that stands for its symbol, or joining the rows where none does
abbrev pub row_put : Option SymbolRow → SymbolRow → Model SymbolRow → Model SymbolRow
row_put None r m = inserted symbol_key r m
row_put (Some old) r m = replacing symbol_key r m

-- an execution is stored, and its shares and value are on its symbol's row
abbrev pub filled : Execution → Day → Day
filled e d = with_symbols (row_put (row_in e.symbol d) (row_after e d) d.symbols) (with_executions (inserted execution_key e d.executions) d)

-- so many of an order's shares, executed at the price that the order has now
abbrev pub fill_of : (execution shares : ℕ) → Order → Execution
fill_of x n o = record { id = x; symbol = o.symbol; price = o.price; shares = n; broken = false }

-- the execution marked as broken
abbrev pub marked : Execution → Execution
marked e = record e { broken = true }

-- its shares and value taken off the row of its symbol, if there is one
abbrev pub row_taken : Execution → Option SymbolRow → Model SymbolRow → Model SymbolRow
row_taken e None m = m
row_taken e (Some r) m = replacing symbol_key (without_execution e r) m

abbrev pub unfilled : Execution → Day → Day
unfilled e d = with_symbols (row_taken e (row_in e.symbol d) d.symbols) (with_executions (replacing execution_key (marked e) d.executions) d)

abbrev pub executed : (shares execution : ℕ) → Option Order → Day → Day
executed n x None d = d
executed n x (Some o) d = filled (fill_of x n o) (reduced n o d)

abbrev pub cancelled : ℕ → Option Order → Day → Day
cancelled n None d = d
cancelled n (Some o) d = reduced n o d

abbrev pub broken : Option Execution → Day → Day
broken None d = d
broken (Some e) d = unfilled e d

abbrev pub after : Event → Day → Day
after (clears symbol) d = with_orders (sweeping (is_of symbol) d.orders) d
after (adds o) d = rested o d
after (executes order shares execution) d = executed shares execution (order_in order d) d
after (cancels order shares) d = cancelled shares (order_in order d) d
after (trades e) d = filled e d
after (breaks execution) d = broken (execution_in execution d) d

-- What an allowed message answers.

abbrev pub answering : (orders shares : ℕ) → Outcome
answering orders shares = record { orders = orders; shares = shares }

-- the orders that a clear takes off, and their shares
abbrev pub cleared : ℕ → Day → Outcome
cleared symbol d = answering (depth_of (those (is_of symbol) d.orders.rows)).orders.number (depth_of (those (is_of symbol) d.orders.rows)).shares.number

-- whether the order goes, and the shares left
abbrev pub leaving : ℕ → Option Order → Outcome
leaving n None = answering 0 0
leaving n (Some o) = answering (cond (o.shares == n) 1 0) (o.shares - n)

-- the volume of the row after the break
abbrev pub volume_left : Execution → Option SymbolRow → ℕ
volume_left e None = 0
volume_left e (Some r) = (without_execution e r).volume

abbrev pub breaking : Option Execution → Day → Outcome
breaking None d = answering 0 0
breaking (Some e) d = answering 0 (volume_left e (row_in e.symbol d))

abbrev pub outcome : Event → Day → Outcome
outcome (clears symbol) d = cleared symbol d
outcome (adds o) d = answering 0 o.shares
outcome (executes order shares execution) d = leaving shares (order_in order d)
outcome (cancels order shares) d = leaving shares (order_in order d)
outcome (trades e) d = answering 0 (row_after e d).volume
outcome (breaks execution) d = breaking (execution_in execution d) d

-- A message as a whole: the day limit comes first, and accepted messages are counted.

abbrev pub permitted : Event → Day → Result (Unit {0}) LedgerFault
permitted event d = cond (nat_le d.day_limit d.accepted) (Err Closed) (allowed event d)

abbrev pub counted : Day → Day
counted d = record d { accepted = d.accepted + 1 }

-- an answer if there is no refusal
abbrev pub or_refused : Result (Unit {0}) LedgerFault → Outcome → Result Outcome LedgerFault
or_refused (Ok u) a = Ok a
or_refused (Err e) a = Err e

-- a change if there is no refusal
abbrev pub or_same : Result (Unit {0}) LedgerFault → Day → Day → Day
or_same (Ok u) changed d = changed
or_same (Err e) changed d = d

abbrev pub event_answer : Event → Day → Result Outcome LedgerFault
event_answer event d = or_refused (permitted event d) (outcome event d)

abbrev pub event_after : Event → Day → Day
event_after event d = or_same (permitted event d) (counted (after event d)) d

-- Of a line, read or not.

abbrev pub message_answer : Result Message MessageFault → Day → Result Outcome LedgerFault
message_answer (Ok m) d = event_answer (event_of m) d
message_answer (Err e) d = Err (of_message e)

abbrev pub message_after : Result Message MessageFault → Day → Day
message_after (Ok m) d = event_after (event_of m) d
message_after (Err e) d = d

-- what a line is answered
unfoldable pub answer : List ℕ → Day → Result Outcome LedgerFault
answer line d = message_answer (line_message line) d

-- the day after a line
unfoldable pub next : List ℕ → Day → Day
next line d = message_after (line_message line) d
