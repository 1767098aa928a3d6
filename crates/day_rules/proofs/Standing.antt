-- What ties the accepted messages of a log to the day after it.
use Rattle.std.proofs.Common.{◌≡◌, ℕ, ◌+◌, ◌%◌, ◌^◌, ◌<◌, ◌≤◌, cond, eqb, true, false, List, length, Some, None, Option, arith}
use Rattle.records.specs.declared.order.Order.{Order}
use Rattle.records.specs.declared.execution.Execution.{Execution}
use Rattle.records.specs.declared.symbol_row.SymbolRow.{SymbolRow}
use Rattle.records.specs.Keys.{order_key, execution_key, symbol_key}
use Rattle.store.specs.Lists.{Each, Rising, lookup, sum}
use Rattle.day_rules.specs.declared.outcome.Outcome.{Outcome}
use Rattle.day_rules.specs.Days.{Day, greatest_limit}
use Rattle.day_rules.specs.Events.{Event, clears, adds, executes, cancels, trades, breaks}
use Rattle.day_rules.specs.Rows.{execution_worth, row_of}
use Rattle.day_rules.specs.Words.{History, Accepted, shares_added, shares_taken, shares_cleared, logged_order, fills, times_broken, logged_execution, row_needed}

-- as a line can give it: an ID and a symbol of 64 bits, ten digits of a price, six of shares, and at least one share
pub record NarrowOrder (o : Order) : Type 0 where
  pub id : o.id < 2 ^ 64
  pub symbol : o.symbol < 2 ^ 64
  pub price : o.price ≤ 9999999999
  pub shares : o.shares ≤ 999999
  pub least : 1 ≤ o.shares

pub record NarrowFill (e : Execution) : Type 0 where
  pub id : e.id < 2 ^ 64
  pub symbol : e.symbol < 2 ^ 64
  pub price : e.price ≤ 9999999999
  pub shares : e.shares ≤ 999999

-- what a line can say
abbrev pub EventFits : Event → Type 0
EventFits (clears s) = s < 2 ^ 64
EventFits (adds o) = NarrowOrder o
EventFits (executes i n x) = (i < 2 ^ 64) × (n ≤ 999999) × (x < 2 ^ 64)
EventFits (cancels i n) = i < 2 ^ 64
EventFits (trades e) = NarrowFill e × (e.broken ≡ false)
EventFits (breaks x) = x < 2 ^ 64

-- an accepted message with its answer
abbrev pub said : Event → Outcome → Accepted
said e answered = record { event = e; outcome = answered }

-- a number that is narrow enough is its own key
pub own_key : (n : ℕ) → n < 2 ^ 64 → n % 2 ^ 64 ≡ n
own_key n l = omega arith

-- Orders.

-- an order's shares, if it is of the symbol
abbrev pub shares_if : ℕ → Order → ℕ
shares_if s o = cond (eqb o.symbol s) o.shares 0

pub record OrdersStand (h : History) (os : List Order) : Type 0 where
  pub rising : Rising order_key os
  pub narrow : Each NarrowOrder os
  pub count : length os ≤ length h
  pub each : (id : ℕ) → lookup order_key id os ≡ logged_order id h
  pub balance : (s : ℕ) → shares_added s h ≡ sum (shares_if s) os + shares_taken s h + shares_cleared s h

-- Executions.

-- how often it was broken
abbrev pub broken_times : Option Execution → ℕ
broken_times None = 0
broken_times (Some e) = cond e.broken 1 0

-- what is found under an Execution ID is what the log says, broken as often
pub record Told (h : History) (x : ℕ) (found : Option Execution) : Type 0 where
  pub times : times_broken x h ≡ broken_times found
  pub is : found ≡ logged_execution x h

-- of an accepted execution or trade, by the log
abbrev pub unless_broken : (Execution → ℕ) → History → Execution → ℕ
unless_broken w h e = cond (eqb (times_broken e.id h) 0) (w e) 0

-- of a stored one
abbrev pub unless_marked : (Execution → ℕ) → Execution → ℕ
unless_marked w e = cond e.broken 0 (w e)

-- the unbroken ones stored are those of the log: whatever is counted of each, it comes to the same
pub record FillsStand (h : History) (es : List Execution) : Type 0 where
  pub rising : Rising execution_key es
  pub narrow : Each NarrowFill es
  pub count : length es ≤ length h
  pub each : (x : ℕ) → Told h x (lookup execution_key x es)
  pub same : (w : Execution → ℕ) → sum (unless_broken w h) (fills h) ≡ sum (unless_marked w) es

-- Rows.

abbrev pub if_of : (Execution → ℕ) → ℕ → Execution → ℕ
if_of w s e = cond (eqb e.symbol s) (w e) 0

-- what is counted of the unbroken ones of a symbol
abbrev pub stored : (Execution → ℕ) → ℕ → List Execution → ℕ
stored w s es = sum (unless_marked (if_of w s)) es

-- the row that they come to
abbrev pub row_stored : ℕ → List Execution → SymbolRow
row_stored s es = row_of s (stored (λ e. e.shares) s es) (stored execution_worth s es)

-- a row stands just where the log needs one, as for the symbol of each stored execution, and says what they come to
pub record RowsStand (h : History) (es : List Execution) (rs : List SymbolRow) : Type 0 where
  pub rising : Rising symbol_key rs
  pub needed : Each (λ e. row_needed e.symbol h ≡ true) es
  pub each : (s : ℕ) → lookup symbol_key s rs ≡ cond (row_needed s h) (Some (row_stored s es)) None

-- All of it.
pub record Stands (h : History) (d : Day) : Type 0 where
  pub count : d.accepted ≡ length h
  pub day_limit : d.day_limit ≤ greatest_limit
  pub within : d.accepted ≤ greatest_limit
  pub orders : OrdersStand h d.orders.rows
  pub fills : FillsStand h d.executions.rows
  pub rows : RowsStand h d.executions.rows d.symbols.rows
