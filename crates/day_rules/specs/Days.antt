-- A day as a ledger keeps it.
use Rattle.std.specs.Prelude.{ℕ, [], min, max}
use Rattle.records.specs.declared.order.Order.{Order}
use Rattle.records.specs.declared.execution.Execution.{Execution}
use Rattle.records.specs.declared.symbol_row.SymbolRow.{SymbolRow}
use Rattle.store.specs.Models.{Model, emptied}

pub record Day : Type 0 where
  -- the orders that rest
  pub orders : Model Order
  -- the executions and trades so far, broken ones too
  pub executions : Model Execution
  -- what has traded of each symbol
  pub symbols : Model SymbolRow
  -- the most messages that are accepted
  pub day_limit : ℕ
  -- how many were
  pub accepted : ℕ

-- the greatest day limit: under it no sum of a day passes the greatest number held
abbrev pub greatest_limit : ℕ
greatest_limit = 1000000000

-- the day limit for the one asked for
abbrev pub limited : ℕ → ℕ
limited n = min (max n 1) greatest_limit

-- a day that begins over three stores, whatever they held
abbrev pub opening : Model Order → Model Execution → Model SymbolRow → ℕ → Day
opening o e s limit = record { orders = emptied o; executions = emptied e; symbols = emptied s; day_limit = limited limit; accepted = 0 }

-- a store that holds nothing, and so many at most
abbrev pub empty_store : {X : Type 0} → ℕ → Model X
empty_store limit = record { rows = []; limit = limit }

-- a day that begins, where so many orders, executions and rows are held at most
abbrev pub opened : (orders executions symbols day_limit : ℕ) → Day
opened o e s limit = opening (empty_store o) (empty_store e) (empty_store s) limit

-- the same day with other orders, executions or rows
abbrev pub with_orders : Model Order → Day → Day
with_orders m d = record d { orders = m }

abbrev pub with_executions : Model Execution → Day → Day
with_executions m d = record d { executions = m }

abbrev pub with_symbols : Model SymbolRow → Day → Day
with_symbols m d = record d { symbols = m }
