-- What is done to a ledger, call by call: what a call is answered, and what day it leaves.
use Rattle.std.specs.Prelude.{ℕ, min, List}
use Rattle.day_rules.specs.declared.answer.Answer.{Answer}
use Rattle.day_rules.specs.declared.answer.Answer.TheVariants as answers
use Rattle.day_rules.specs.declared.call.Call.{Call as Made}
use Rattle.day_rules.specs.declared.call.Call.TheVariants as made
use Rattle.day_rules.specs.declared.question.Question.{Question}
use Rattle.day_rules.specs.declared.question.Question.TheVariants as questions
use Rattle.day_rules.specs.Days.{Day}
use Rattle.day_rules.specs.Places.{most_rows}
use Rattle.day_rules.specs.Questions.{reply}
use Rattle.day_rules.specs.Rules.{answer, next}

pub data Call : Type 0 where
  -- a line is put, any bytes
  line : (text : List ℕ) → Call
  -- a question is asked
  question : (asked : Question) → Call

-- what a call is answered
abbrev pub call_answer : Call → Day → Answer
call_answer (line text) d = answers.Line (answer text d)
call_answer (question asked) d = answers.Question (reply asked d)

-- the day after a call
abbrev pub call_left : Call → Day → Day
call_left (line text) d = next text d
call_left (question asked) d = d

-- a question for more rows than a reply has places for is one for as many as it has
abbrev pub held_back : Question → Question
held_back (questions.Rows most) = questions.Rows (min most most_rows)
held_back asked = asked

-- the call that code makes, whose line is lent
abbrev pub call_of : Made → Call
call_of (made.Line text) = line text.now
call_of (made.Question asked) = question (held_back asked)
