-- What is said of a log: its accepted messages, and the orders, executions and breaks among them. These speak of lines and answers alone, and of no ledger.
use Rattle.std.specs.Prelude.{◌≡◌, ℕ, ◌+◌, ◌-◌, ◌*◌, Bool, true, false, cond, ◌&&◌, ◌||◌, List, [], ◌∷◌, length, is_some, Some, None, Ok, Err, Option, Result, ◌==◌}
use Rattle.messages.specs.declared.fault.MessageFault.{MessageFault}
use Rattle.messages.specs.declared.message.Message.{Message}
use Rattle.messages.specs.Telling.{line_message}
use Rattle.records.specs.declared.order.Order.{Order}
use Rattle.records.specs.declared.execution.Execution.{Execution}
use Rattle.records.specs.declared.symbol_row.SymbolRow.{SymbolRow}
use Rattle.store.specs.Lists.{those, sum}
use Rattle.day_rules.specs.declared.answer.Answer.{Answer}
use Rattle.day_rules.specs.declared.answer.Answer.TheVariants as answers
use Rattle.day_rules.specs.declared.outcome.Outcome.{Outcome}
use Rattle.day_rules.specs.Calls.{Call, line}
use Rattle.day_rules.specs.Events.{Event, clears, adds, executes, cancels, trades, breaks, event_of}
use Rattle.day_rules.specs.Log.{Log}
use Rattle.day_rules.specs.Rows.{row_of}

-- an accepted message, by what its line says, and its answer
pub record Accepted : Type 0 where
  pub event : Event
  pub outcome : Outcome

-- accepted messages, the latest first
abbrev pub History : Type 0
History = List Accepted

abbrev pub then_accepted : Result Message MessageFault → Outcome → History → History
then_accepted (Ok m) a h = record { event = event_of m; outcome = a } ∷ h
then_accepted (Err e) a h = h

-- with what a call has accepted: the message of a line that was answered without a refusal
abbrev pub then_called : Call → Answer → History → History
then_called (line text) (answers.Line (Ok a)) h = then_accepted (line_message text) a h
then_called call answered h = h

-- the accepted messages of a log
abbrev pub history : Log → History
history [] = []
history (e ∷ log) = then_called e.call e.answer (history log)

-- Orders.

-- the order that a message adds under the Order ID, or else an earlier one
abbrev pub or_added : ℕ → Event → Option Order → Option Order
or_added id (adds o) earlier = cond (o.id == id) (Some o) earlier
or_added id event earlier = earlier

-- the last accepted add of the Order ID
abbrev pub last_add : ℕ → History → Option Order
last_add id [] = None
last_add id (a ∷ h) = or_added id a.event (last_add id h)

abbrev pub is_add : ℕ → Event → Bool
is_add id (adds o) = o.id == id
is_add id event = false

-- what was accepted since the last accepted add of the Order ID
abbrev pub since_add : ℕ → History → History
since_add id [] = []
since_add id (a ∷ h) = cond (is_add id a.event) [] (a ∷ since_add id h)

abbrev pub is_clear : ℕ → Event → Bool
is_clear symbol (clears s) = s == symbol
is_clear symbol event = false

-- a clear of the symbol is among these
abbrev pub clear_among : ℕ → History → Bool
clear_among symbol [] = false
clear_among symbol (a ∷ h) = is_clear symbol a.event || clear_among symbol h

-- the shares that a message takes off the order with the Order ID
abbrev pub off_order : ℕ → Event → ℕ
off_order id (executes order shares execution) = cond (order == id) shares 0
off_order id (cancels order shares) = cond (order == id) shares 0
off_order id event = 0

-- the shares that executions and cancels among these take off the order
abbrev pub taken_off : ℕ → History → ℕ
taken_off id h = sum (λ a. off_order id a.event) h

-- Shares of a symbol.

-- those that an add brings
abbrev pub brought : ℕ → Event → ℕ
brought symbol (adds o) = cond (o.symbol == symbol) o.shares 0
brought symbol event = 0

-- the shares of accepted adds
abbrev pub shares_added : ℕ → History → ℕ
shares_added symbol h = sum (λ a. brought symbol a.event) h

-- so many shares, if they are of an order of the symbol
abbrev pub if_symbol : ℕ → Option Order → ℕ → ℕ
if_symbol symbol None n = 0
if_symbol symbol (Some o) n = cond (o.symbol == symbol) n 0

-- the shares that an execution or a cancel takes off an order of the symbol, by the order's last accepted add before it
abbrev pub off_symbol : ℕ → Event → History → ℕ
off_symbol symbol (executes order shares execution) before = if_symbol symbol (last_add order before) shares
off_symbol symbol (cancels order shares) before = if_symbol symbol (last_add order before) shares
off_symbol symbol event before = 0

-- the shares of accepted executions and cancels
abbrev pub shares_taken : ℕ → History → ℕ
shares_taken symbol [] = 0
shares_taken symbol (a ∷ h) = off_symbol symbol a.event h + shares_taken symbol h

-- the shares that a clear of the symbol reports
abbrev pub reported : ℕ → Event → Outcome → ℕ
reported symbol (clears s) a = cond (s == symbol) a.shares 0
reported symbol event a = 0

-- the shares that accepted clears report
abbrev pub shares_cleared : ℕ → History → ℕ
shares_cleared symbol h = sum (λ a. reported symbol a.event a.outcome) h

-- Executions and trades.

-- an execution of so many shares of an order, at the order's price
abbrev pub executed_at : (execution shares : ℕ) → Option Order → List Execution → List Execution
executed_at x n None earlier = earlier
executed_at x n (Some o) earlier = record { id = x; symbol = o.symbol; price = o.price; shares = n; broken = false } ∷ earlier

-- with the execution or trade that a message is, an execution priced by its order's last accepted add before it, a trade by its own price
abbrev pub then_fill : Event → History → List Execution → List Execution
then_fill (executes order shares execution) before earlier = executed_at execution shares (last_add order before) earlier
then_fill (trades e) before earlier = e ∷ earlier
then_fill event before earlier = earlier

-- all accepted executions and trades
abbrev pub fills : History → List Execution
fills [] = []
fills (a ∷ h) = then_fill a.event h (fills h)

abbrev pub breaks_of : ℕ → Event → ℕ
breaks_of x (breaks execution) = cond (execution == x) 1 0
breaks_of x event = 0

-- how many accepted breaks carry the Execution ID
abbrev pub times_broken : ℕ → History → ℕ
times_broken x h = sum (λ a. breaks_of x a.event) h

-- an execution or trade of the symbol that no accepted break carries the ID of
abbrev pub counts_for : ℕ → History → Execution → Bool
counts_for symbol h e = (e.symbol == symbol) && (times_broken e.id h == 0)

-- the accepted, unbroken executions and trades of the symbol
abbrev pub traded : ℕ → History → List Execution
traded symbol h = those (counts_for symbol h) (fills h)

-- their shares
abbrev pub volume_of : ℕ → History → ℕ
volume_of symbol h = sum (λ e. e.shares) (traded symbol h)

-- their shares times their prices
abbrev pub value_of : ℕ → History → ℕ
value_of symbol h = sum (λ e. e.shares * e.price) (traded symbol h)

-- What questions are answered, in words of the log.

-- the accepted execution or trade with the Execution ID
abbrev pub fill_with : ℕ → List Execution → Option Execution
fill_with x [] = None
fill_with x (e ∷ es) = cond (e.id == x) (Some e) (fill_with x es)

-- marked as broken, if it was broken any times
abbrev pub marked_if : ℕ → Option Execution → Option Execution
marked_if times None = None
marked_if times (Some e) = Some (cond (times == 0) e (record e { broken = true }))

-- the execution or trade with the Execution ID, as it was accepted, broken if an accepted break carries the ID
unfoldable pub logged_execution : ℕ → History → Option Execution
logged_execution x h = marked_if (times_broken x h) (fill_with x (fills h))

-- the order as it was added, with so many shares left
abbrev pub with_left : ℕ → Order → Order
with_left n o = record o { shares = n }

-- what is left of an order after a clear, or after so many shares were taken off
abbrev pub left_of_add : Option Order → (since : History) → ℕ → Option Order
left_of_add None since id = None
left_of_add (Some o) since id = cond (clear_among o.symbol since || taken_off id since == o.shares) None (Some (with_left (o.shares - taken_off id since) o))

-- the order that rests under the Order ID: as its last accepted add had it, less what was taken off since; none if a clear came since, or no share is left
unfoldable pub logged_order : ℕ → History → Option Order
logged_order id h = left_of_add (last_add id h) (since_add id h) id

-- with the Order ID that a message adds, if none before it did
abbrev pub then_id : Event → History → List ℕ → List ℕ
then_id (adds o) before ids = cond (is_some (last_add o.id before)) ids (o.id ∷ ids)
then_id event before ids = ids

-- the Order IDs of all accepted adds, each once
abbrev pub ids_added : History → List ℕ
ids_added [] = []
ids_added (a ∷ h) = then_id a.event h (ids_added h)

-- an order is there, and of the symbol
abbrev pub is_order_of : ℕ → Option Order → Bool
is_order_of symbol None = false
is_order_of symbol (Some o) = o.symbol == symbol

-- how many Order IDs had their last accepted add of the symbol, and have shares left
abbrev pub orders_left : ℕ → History → ℕ
orders_left symbol h = length (those (λ id. is_order_of symbol (logged_order id h)) (ids_added h))

-- a message that needs a row for the symbol; an execution's symbol has one from its order's add
abbrev pub needs_row : ℕ → Event → Bool
needs_row symbol (adds o) = o.symbol == symbol
needs_row symbol (trades e) = e.symbol == symbol
needs_row symbol event = false

-- some accepted message did
abbrev pub row_needed : ℕ → History → Bool
row_needed symbol [] = false
row_needed symbol (a ∷ h) = needs_row symbol a.event || row_needed symbol h

-- the row of the symbol, once some accepted message needed one: with the volume and the value of its accepted, unbroken executions and trades
unfoldable pub logged_row : ℕ → History → Option SymbolRow
logged_row symbol h = cond (row_needed symbol h) (Some (row_of symbol (volume_of symbol h) (value_of symbol h))) None

-- the accepted, unbroken executions and trades of all symbols
abbrev pub all_traded : History → List Execution
all_traded h = those (λ e. times_broken e.id h == 0) (fills h)

-- What an accepted message is answered, in words of the log that ends with it.

-- no order is left: one goes, and no shares are left; or the order stays, with its shares
abbrev pub IsWhatIsLeft : Outcome → Option Order → Type 0
IsWhatIsLeft a None = (a.orders ≡ 1) × (a.shares ≡ 0)
IsWhatIsLeft a (Some o) = (a.orders ≡ 0) × (a.shares ≡ o.shares)

-- no order goes, and so many shares
abbrev pub IsShares : Outcome → ℕ → Type 0
IsShares a n = (a.orders ≡ 0) × (a.shares ≡ n)

abbrev pub symbol_of : Option Execution → ℕ
symbol_of None = 0
symbol_of (Some e) = e.symbol

-- the log before its latest message
abbrev pub before_latest : History → History
before_latest [] = []
before_latest (a ∷ h) = h

-- a clear how many orders of the symbol were left before it, and so many shares that then none of
-- the symbol's are left; an add its own shares; an execution or a cancel what is left of the order;
-- a trade or a break the symbol's volume
abbrev pub IsAnswer : Event → Outcome → History → Type 0
IsAnswer (clears s) a h =
    (a.orders ≡ orders_left s (before_latest h))
    × (shares_added s h ≡ shares_taken s h + shares_cleared s h)
IsAnswer (adds o) a h = IsShares a o.shares
IsAnswer (executes order shares execution) a h = IsWhatIsLeft a (logged_order order h)
IsAnswer (cancels order shares) a h = IsWhatIsLeft a (logged_order order h)
IsAnswer (trades e) a h = IsShares a (volume_of e.symbol h)
IsAnswer (breaks x) a h = IsShares a (volume_of (symbol_of (fill_with x (fills h))) h)

-- each accepted message has its answer
abbrev pub IsAnswered : History → Type 0
IsAnswered [] = Unit {0}
IsAnswered (a ∷ h) = IsAnswer a.event a.outcome (a ∷ h) × IsAnswered h
