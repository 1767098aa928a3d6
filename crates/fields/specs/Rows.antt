-- The table's row of each byte.
use Rattle.std.specs.Prelude.{ℕ}
use Rattle.layout.specs.Bytes.{class_of, worth_of}
use Rattle.fields.specs.declared.table.Row.{Row}

abbrev pub row_of : ℕ → Row
row_of b = record { class = class_of b; worth = worth_of b }
