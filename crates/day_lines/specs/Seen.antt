-- What became of lines: how many there were, and how often each refusal came.
use Rattle.std.specs.Prelude.{◌≡◌, ℕ, zero, suc, ◌+◌, List, [], ◌∷◌, length, replicate, Ok, Err, Result, slice_index_or, slice_set}
use Rattle.capture.specs.Counts.{at_most, more}
use Rattle.day_rules.specs.declared.fault.LedgerFault.{LedgerFault}
use Rattle.day_rules.specs.declared.outcome.Outcome.{Outcome}
use Rattle.day_rules.specs.Faults.{refusal_number}
use Rattle.day_rules.specs.Lines.{times_refused}
use Rattle.day_lines.specs.declared.seen.Seen.{Seen}

-- the count at the place n
abbrev pub count_at : ℕ → List ℕ → ℕ
count_at n counts = slice_index_or counts n 0

-- one more at the place n
abbrev pub counted : ℕ → List ℕ → List ℕ
counted n counts = slice_set counts n (more (count_at n counts))

abbrev pub none_seen : Seen
none_seen = record { lines = record { lines = 0 }; refusals = record { counts = replicate 15 0 } }

-- the refusals after one more answer
abbrev pub answer_counted : Result Outcome LedgerFault → List ℕ → List ℕ
answer_counted (Ok outcome) counts = counts
answer_counted (Err fault) counts = counted (refusal_number fault) counts

abbrev pub one_seen : Result Outcome LedgerFault → Seen → Seen
one_seen a s = record { lines = record { lines = more s.lines.lines }; refusals = record { counts = answer_counted a s.refusals.counts } }

-- after all answers
abbrev pub all_seen : List (Result Outcome LedgerFault) → Seen → Seen
all_seen [] s = s
all_seen (a ∷ answers) s = all_seen answers (one_seen a s)

-- how often each of so many refusals came, by their numbers from n on
abbrev pub times_from : (count n : ℕ) → List (Result Outcome LedgerFault) → List ℕ
times_from zero n answers = []
times_from (suc count) n answers = at_most (times_refused n answers) ∷ times_from count (n + 1) answers

-- all lines with these answers were seen: there are as many, and each refusal came as often as it is among the answers; 14 is the greatest number of one
pub record IsSeen (s : Seen) (answers : List (Result Outcome LedgerFault)) : Type 0 where
  pub lines : s.lines.lines ≡ at_most (length answers)
  pub refusals : s.refusals.counts ≡ times_from 15 0 answers
