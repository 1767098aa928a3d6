-- What has traded of a symbol, as its row has it.
use Rattle.std.specs.Prelude.{ℕ, ◌+◌, ◌-◌, ◌*◌, Some, None, Option, min}
use Rattle.tally.specs.Totals.{greatest_total}
use Rattle.records.specs.declared.execution.Execution.{Execution}
use Rattle.records.specs.declared.symbol_row.SymbolRow.{SymbolRow}
use Rattle.records.specs.Keys.{row_worth}
use Rattle.records.specs.Values.{stopped, high_of, low_of}

-- a row that says so much: of so many shares, that traded for so much
abbrev pub row_of : (symbol volume value : ℕ) → SymbolRow
row_of symbol volume value = record { symbol = symbol; volume = volume; value_high = high_of value; value_low = low_of value }

-- what an execution is worth
abbrev pub execution_worth : Execution → ℕ
execution_worth e = e.shares * e.price

-- with an execution's shares and value; sums stop at the greatest number held
abbrev pub with_execution : Execution → SymbolRow → SymbolRow
with_execution e r = row_of r.symbol (min (r.volume + e.shares) greatest_total) (stopped (row_worth r + execution_worth e))

-- without them; differences stop at 0
abbrev pub without_execution : Execution → SymbolRow → SymbolRow
without_execution e r = row_of r.symbol (r.volume - e.shares) (stopped (row_worth r) - execution_worth e)

-- a row that nothing has traded on
abbrev pub new_row : ℕ → SymbolRow
new_row symbol = record { symbol = symbol; volume = 0; value_high = 0; value_low = 0 }

-- a missing row counts as one that nothing has traded on
abbrev pub row_or_new : ℕ → Option SymbolRow → SymbolRow
row_or_new symbol None = new_row symbol
row_or_new symbol (Some r) = r
