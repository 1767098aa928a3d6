-- What the program prints.
use Rattle.std.specs.Prelude.{ℕ, List, [], ◌∷◌, ◌++◌, Some, None, Option, codes}
use Rattle.capture.specs.Counts.{more}
use Rattle.day_rules.specs.declared.answer.Answer.{Answer}
use Rattle.day_rules.specs.Calls.{Call}
use Rattle.day_rules.specs.Days.{Day, opened}
use Rattle.day_rules.specs.Laws.{LogLaws}
use Rattle.day_rules.specs.Log.{Log}
use Rattle.day_forms.specs.Texts.{numbered_line}
use Rattle.ledger_calls.specs.declared.opening.Opening.{Opening}
use Rattle.ledger_calls.specs.Openings.{opening_of}
use Rattle.ledger_calls.specs.Questions.{call_made}
use Rattle.ledger_calls.specs.Replies.{said_to, day_left}
use Rattle.ledger_calls.specs.Texts.{said_text, opening_text}

-- what is said to lines one after the other, where so many came before
abbrev pub said_on : ℕ → List (List ℕ) → Day → List ℕ
said_on n [] d = []
said_on n (line ∷ lines) d = numbered_line (more n) (said_text (said_to line d)) ++ said_on (more n) lines (day_left line d)

-- the day of a ledger that was opened
abbrev pub day_opened : Opening → Day
day_opened o = opened o.orders o.executions o.symbols o.day_limit

-- what is printed of the first line, and of the others where it opens a ledger
abbrev pub opened_text : Option Opening → List (List ℕ) → List ℕ
opened_text None lines = numbered_line 1 (codes "(no ledger)")
opened_text (Some o) lines = numbered_line 1 (opening_text o) ++ said_on 1 lines (day_opened o)

abbrev pub run_text : List (List ℕ) → List ℕ
run_text [] = []
run_text (line ∷ lines) = opened_text (opening_of line) lines

-- What a run adds up to.

-- with the call of a line and what was said to it, if it makes one
abbrev pub then_said : Option Call → Option Answer → Log → Log
then_said (Some call) (Some answer) log = record { call = call; answer = answer } ∷ log
then_said call said log = log

-- the log after lines one after the other: each call with the answer that is printed
abbrev pub log_said : Log → List (List ℕ) → Day → Log
log_said log [] d = log
log_said log (line ∷ lines) d =
    log_said (then_said (call_made line) (said_to line d) log) lines (day_left line d)

-- the day that they leave
abbrev pub day_said : List (List ℕ) → Day → Day
day_said [] d = d
day_said (line ∷ lines) d = day_said lines (day_left line d)

-- every law of logs holds of what is put, asked and answered behind the line that opens a ledger
abbrev pub HasOpenedLaws : Option Opening → List (List ℕ) → Type 0
HasOpenedLaws None lines = Unit {0}
HasOpenedLaws (Some o) lines =
    LogLaws (log_said [] lines (day_opened o)) (day_said lines (day_opened o))

unfoldable pub HasLaws : List (List ℕ) → Type 0
HasLaws [] = Unit {0}
HasLaws (line ∷ lines) = HasOpenedLaws (opening_of line) lines
