-- What is printed of lines and rows.
use Rattle.std.specs.Prelude.{ℕ, Bool, cond, List, [], ◌∷◌, ◌++◌, Result}
use Rattle.capture.specs.Counts.{more}
use Rattle.records.specs.declared.symbol_row.SymbolRow.{SymbolRow}
use Rattle.day_rules.specs.declared.fault.LedgerFault.{LedgerFault}
use Rattle.day_rules.specs.declared.outcome.Outcome.{Outcome}
use Rattle.day_rules.specs.Days.{Day}
use Rattle.day_rules.specs.Rules.{answer, next}
use Rattle.day_forms.specs.Texts.{answer_text, numbered_line, row_text}
use Rattle.reports.specs.Texts.{row_report}

-- with a line end
abbrev pub in_line : List ℕ → List ℕ
in_line text = text ++ (10 ∷ [])

-- a line's number and what it is answered, if that is shown
abbrev pub answer_line : (shown : Bool) (number : ℕ) → Result Outcome LedgerFault → List ℕ
answer_line shown number answered = cond shown (numbered_line number (answer_text answered)) []

-- of lines put to a day one after the other, where so many came before
abbrev pub answers_text : (shown : Bool) → ℕ → List (List ℕ) → Day → List ℕ
answers_text shown n [] d = []
answers_text shown n (line ∷ lines) d = answer_line shown (more n) (answer line d) ++ answers_text shown (more n) lines (next line d)

-- what has traded of a symbol, with its average price or without
abbrev pub row_line : (averaged : Bool) → SymbolRow → List ℕ
row_line averaged row = in_line (cond averaged (row_report row) (row_text row))

-- a line for each row
abbrev pub rows_text : (averaged : Bool) → List SymbolRow → List ℕ
rows_text averaged [] = []
rows_text averaged (row ∷ rows) = row_line averaged row ++ rows_text averaged rows
