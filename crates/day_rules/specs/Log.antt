-- A log: all calls to one ledger since it was opened, lines that it refused too, each with what it
-- was answered. The latest comes first.
use Rattle.std.specs.Prelude.{◌≡◌, ℕ, ◌≤◌, List, [], ◌∷◌, Result}
use Rattle.day_rules.specs.declared.answer.Answer.{Answer}
use Rattle.day_rules.specs.declared.answer.Answer.TheVariants as answers
use Rattle.day_rules.specs.declared.fault.LedgerFault.{LedgerFault}
use Rattle.day_rules.specs.declared.outcome.Outcome.{Outcome}
use Rattle.day_rules.specs.declared.question.Question.{Question}
use Rattle.day_rules.specs.declared.reply.Reply.{Reply}
use Rattle.day_rules.specs.Calls.{Call, line, question, call_answer, call_left}
use Rattle.day_rules.specs.Days.{Day, greatest_limit}

pub record Entry : Type 0 where
  pub call : Call
  pub answer : Answer

-- a line, and what it was answered
abbrev pub line_put : List ℕ → Result Outcome LedgerFault → Entry
line_put text answered = record { call = line text; answer = answers.Line answered }

-- a question, and its reply
abbrev pub question_put : Question → Reply → Entry
question_put asked replied = record { call = question asked; answer = answers.Question replied }

abbrev pub Log : Type 0
Log = List Entry

-- nothing is held, nothing was accepted, and the day limit is no more than the greatest
pub record IsOpening (d : Day) : Type 0 where
  pub orders : d.orders.rows ≡ []
  pub executions : d.executions.rows ≡ []
  pub symbols : d.symbols.rows ≡ []
  pub accepted : d.accepted ≡ 0
  pub day_limit : d.day_limit ≤ greatest_limit

-- The ledger that keeps the day d was opened, and this log is all that was done to it since: each
-- call got its answer, and left the day that follows.
abbrev pub Logged : Log → Day → Type 0
Logged [] d = IsOpening d
Logged (e ∷ log) d =
    (before : Day) × Logged log before
    × (e.answer ≡ call_answer e.call before)
    × (d ≡ call_left e.call before)
