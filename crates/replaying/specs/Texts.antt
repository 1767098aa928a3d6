-- What a replay prints for an input.
use Rattle.std.specs.Prelude.{ℕ, ◌+◌, true, cond, List, [], ◌∷◌, ◌++◌, length, Some, None, Option, Result, ◌==◌}
use Rattle.capture.specs.Counts.{at_most}
use Rattle.capture.specs.Lines.{lines_of}
use Rattle.messages.specs.declared.code.Side.{Side}
use Rattle.messages.specs.declared.code.Side.TheVariants.{Buy, Sell}
use Rattle.records.specs.declared.symbol_row.SymbolRow.{SymbolRow}
use Rattle.book.specs.declared.turnover.Turnover.{Turnover}
use Rattle.day_rules.specs.declared.fault.LedgerFault.{LedgerFault}
use Rattle.day_rules.specs.declared.outcome.Outcome.{Outcome}
use Rattle.day_rules.specs.Days.{Day, opened}
use Rattle.day_rules.specs.Lines.{day_after, answers_to}
use Rattle.day_rules.specs.Questions.{book_in, market_in, rows_in}
use Rattle.day_lines.specs.Seen.{times_from}
use Rattle.day_lines.specs.Texts.{in_line, answers_text, rows_text}
use Rattle.options.specs.declared.options.Options.{Options}
use Rattle.options.specs.declared.options.Shown.{Shown}
use Rattle.reports.specs.Texts.{market_report, side_report, lines_report, refused_report}

abbrev pub market_line : Turnover → List ℕ
market_line t = in_line (market_report t)

abbrev pub side_line : (symbol : ℕ) → Side → Day → List ℕ
side_line symbol side d = in_line (side_report symbol side (book_in symbol side d))

-- both sides of the symbol that is asked for
abbrev pub book_lines : Option ℕ → Day → List ℕ
book_lines None d = []
book_lines (Some symbol) d = side_line symbol Buy d ++ side_line symbol Sell d

-- a refusal that came
abbrev pub times_line : (number times : ℕ) → List ℕ
times_line number times = cond (times == 0) [] (in_line (refused_report number times))

-- counts of refusals, by their numbers from n on
abbrev pub counts_text : ℕ → List ℕ → List ℕ
counts_text n [] = []
counts_text n (times ∷ counts) = times_line n times ++ counts_text (n + 1) counts

-- what stands behind the answers, of these rows, so many lines, and so many refusals of each number: each row; all symbols together; the book that is asked for; how many lines there were and how
-- many messages were accepted; and how often each refusal came that came at all
abbrev pub closing : List SymbolRow → Option ℕ → (lines : ℕ) (counts : List ℕ) → Day → List ℕ
closing rows book lines counts d =
    rows_text true rows
    ++ (market_line (market_in d) ++ (book_lines book d ++ (in_line (lines_report lines d.accepted) ++ counts_text 0 counts)))

-- the same of lines with these answers
abbrev pub closing_of : List SymbolRow → Option ℕ → List (Result Outcome LedgerFault) → Day → List ℕ
closing_of rows book answers d = closing rows book (at_most (length answers)) (times_from 15 0 answers) d

-- what is printed from a day on: what each line is answered, if that is shown, and then what the day comes to, its rows by rising symbol number
abbrev pub report_from : Shown → Day → List ℕ → List ℕ
report_from shown d input =
    let lines = lines_of input in
    let later = day_after lines d in
    answers_text shown.answers 0 lines d ++ closing_of later.symbols.rows shown.book (answers_to lines d) later

-- the same, with so many rows at most
abbrev pub printed : (most : ℕ) → Shown → Day → List ℕ → List ℕ
printed most shown d input =
    let lines = lines_of input in
    let later = day_after lines d in
    answers_text shown.answers 0 lines d ++ closing_of (rows_in most later) shown.book (answers_to lines d) later

-- the day before the first line
abbrev pub day_of : Options → Day
day_of o = opened o.room.orders o.room.executions o.room.symbols o.room.day_limit

abbrev pub room_printed : (most : ℕ) → Options → List ℕ → List ℕ
room_printed most o input = printed most o.shown (day_of o) input

-- all that a replay prints, whatever its stores are
abbrev pub replay_text : Options → List ℕ → List ℕ
replay_text o input = report_from o.shown (day_of o) input
