-- Lines, or calls of any sort, one after the other, as many as there are places for answers. What
-- each is answered and what day it leaves are given: `answer` and `next` of a line, `call_answer`
-- and `call_left` of a call.
use Rattle.std.specs.Prelude.{List, [], ◌∷◌}
use Rattle.day_rules.specs.declared.answer.Answer.{Answer}
use Rattle.day_rules.specs.Calls.{Call}
use Rattle.day_rules.specs.Days.{Day}
use Rattle.day_rules.specs.Log.{Log}

-- what a line or a call is answered, and what day it leaves
abbrev pub Answers : Type 0 → Type 0 → Type 0
Answers C A = C → Day → A

abbrev pub Leaves : Type 0 → Type 0
Leaves C = C → Day → Day

-- each answer at the place of its call; the places behind are as before
abbrev pub answers_on : {C A : Type 0} → Answers C A → Leaves C → Day → List C → List A → List A
answers_on answer left d [] places = places
answers_on answer left d (c ∷ calls) [] = []
answers_on answer left d (c ∷ calls) (place ∷ places) =
    answer c d ∷ answers_on answer left (left c d) calls places

-- the day after the calls
abbrev pub day_on : {C A : Type 0} → Leaves C → Day → List C → List A → Day
day_on left d [] places = d
day_on left d (c ∷ calls) [] = d
day_on left d (c ∷ calls) (place ∷ places) = day_on left (left c d) calls places

-- the log after what was done before: each call with its answer
abbrev pub log_on : Log → List Call → List Answer → Log
log_on log [] answers = log
log_on log (c ∷ calls) [] = log
log_on log (c ∷ calls) (a ∷ answers) =
    log_on (record { call = c; answer = a } ∷ log) calls answers

-- the log of a ledger to which only these calls were made since its opening
abbrev pub log_of : List Call → List Answer → Log
log_of calls answers = log_on [] calls answers
