-- As many places as rows are held at most take all rows.
use Rattle.std.proofs.Common.{◌≡◌, ℕ, List, arith}
use Rattle.std.proofs.lemmas.List.{take_all}
use Rattle.day_rules.specs.Days.{opened}
use Rattle.day_rules.specs.Lines.{day_after}
use Rattle.day_rules.specs.Questions.{rows_in}
use Rattle.day_rules.proofs.Fitting.{after-lines}

pub all_rows : (lines : List (List ℕ)) (o e s limit : ℕ) → rows_in s (day_after lines (opened o e s limit)) ≡ (day_after lines (opened o e s limit)).symbols.rows
all_rows lines o e s limit = take_all s _ ((after-lines lines (opened o e s limit)).fits (omega arith))
