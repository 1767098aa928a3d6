-- The rows of a reply, held in 64 places.
use Rattle.std.specs.Prelude.{◌≡◌, ℕ, ◌-◌, ◌≤◌, List, ◌++◌, length, drop, replicate}
use Rattle.records.specs.declared.symbol_row.SymbolRow.{SymbolRow}
use Rattle.day_rules.specs.Rows.{new_row}

-- the most rows of a reply
abbrev pub most_rows : ℕ
most_rows = 64

-- what stands in places that hold no row
abbrev pub blanks : ℕ → List SymbolRow
blanks n = replicate n (new_row 0)

-- rows, and blanks up to all places
abbrev pub filled_up : List SymbolRow → List SymbolRow
filled_up rs = rs ++ blanks (most_rows - length rs)

-- of all places those behind the first so many are blank
pub record BlankBehind (count : ℕ) (places : List SymbolRow) : Type 0 where
  pub size : length places ≡ most_rows
  pub count_fits : count ≤ most_rows
  pub past : drop count places ≡ blanks (most_rows - count)
