-- What the program prints for an input.
use Rattle.std.specs.Prelude.{ℕ, true, false, List, ◌++◌}
use Rattle.capture.specs.Lines.{lines_of}
use Rattle.day_rules.specs.Days.{Day, greatest_limit, opened}
use Rattle.day_rules.specs.Lines.{day_after}
use Rattle.day_rules.specs.Questions.{rows_in}
use Rattle.day_lines.specs.Texts.{answers_text, rows_text}

-- each line's number and what it is answered, and then the rows that the day has after them, by rising symbol number
abbrev pub text_from : Day → List ℕ → List ℕ
text_from d input = answers_text true 0 (lines_of input) d ++ rows_text false (day_after (lines_of input) d).symbols.rows

-- the same with so many rows at most
abbrev pub printed : (most : ℕ) → Day → List ℕ → List ℕ
printed most d input = answers_text true 0 (lines_of input) d ++ rows_text false (rows_in most (day_after (lines_of input) d))

-- all that the program prints: 64 orders, 64 executions and 16 rows are held at most, and the day limit is the greatest
abbrev pub day_text : List ℕ → List ℕ
day_text input = text_from (opened 64 64 16 greatest_limit) input
