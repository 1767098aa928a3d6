-- The key that a record is kept by, and what a row's value comes to.
use Rattle.std.specs.Prelude.{ℕ, ◌+◌, ◌*◌, ◌%◌, ◌^◌}
use Rattle.records.specs.declared.order.Order.{Order}
use Rattle.records.specs.declared.execution.Execution.{Execution}
use Rattle.records.specs.declared.symbol_row.SymbolRow.{SymbolRow}

-- the key that an order is kept by
abbrev pub order_key : Order → ℕ
order_key o = o.id % 2 ^ 64

-- the key that an execution is kept by
abbrev pub execution_key : Execution → ℕ
execution_key e = e.id % 2 ^ 64

-- the key that a symbol's row is kept by
abbrev pub symbol_key : SymbolRow → ℕ
symbol_key r = r.symbol % 2 ^ 64

-- what the two parts of a row's value stand for
abbrev pub row_worth : SymbolRow → ℕ
row_worth r = r.value_high * 10 ^ 16 + r.value_low
