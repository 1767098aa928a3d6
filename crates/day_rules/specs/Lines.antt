-- Lines put to a day one after the other: what each is answered, and the day after them.
use Rattle.std.specs.Prelude.{ℕ, ◌+◌, Bool, false, cond, List, [], ◌∷◌, Ok, Err, Result, ◌==◌}
use Rattle.day_rules.specs.declared.fault.LedgerFault.{LedgerFault}
use Rattle.day_rules.specs.declared.outcome.Outcome.{Outcome}
use Rattle.day_rules.specs.Days.{Day}
use Rattle.day_rules.specs.Faults.{refusal_number}
use Rattle.day_rules.specs.Rules.{answer, next}

abbrev pub day_after : List (List ℕ) → Day → Day
day_after [] d = d
day_after (line ∷ lines) d = day_after lines (next line d)

abbrev pub answers_to : List (List ℕ) → Day → List (Result Outcome LedgerFault)
answers_to [] d = []
answers_to (line ∷ lines) d = answer line d ∷ answers_to lines (next line d)

-- the answer is the refusal with the number n
abbrev pub is_refused_by : ℕ → Result Outcome LedgerFault → Bool
is_refused_by n (Ok outcome) = false
is_refused_by n (Err fault) = refusal_number fault == n

-- how often that refusal came
abbrev pub times_refused : ℕ → List (Result Outcome LedgerFault) → ℕ
times_refused n [] = 0
times_refused n (a ∷ answers) = cond (is_refused_by n a) 1 0 + times_refused n answers
