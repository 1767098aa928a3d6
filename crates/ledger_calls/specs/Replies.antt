-- What is said to a line, and what day it leaves.
use Rattle.std.specs.Prelude.{ℕ, List, Some, None, Option}
use Rattle.day_rules.specs.declared.answer.Answer.{Answer}
use Rattle.day_rules.specs.Calls.{Call, call_answer, call_left}
use Rattle.day_rules.specs.Days.{Day}
use Rattle.ledger_calls.specs.Questions.{call_made}

-- the answer to a call, if there is one
abbrev pub answered : Option Call → Day → Option Answer
answered None d = None
answered (Some call) d = Some (call_answer call d)

abbrev pub left_by : Option Call → Day → Day
left_by None d = d
left_by (Some call) d = call_left call d

abbrev pub said_to : List ℕ → Day → Option Answer
said_to line d = answered (call_made line) d

abbrev pub day_left : List ℕ → Day → Day
day_left line d = left_by (call_made line) d
