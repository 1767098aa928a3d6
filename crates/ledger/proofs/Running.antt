-- Calls made one after the other, call by call.
use Rattle.std.proofs.Common.{◌≡◌, ℕ, zero, suc, ◌+◌, ◌<◌, ◌≤◌, min, List, [], ◌∷◌, ◌++◌, map, length, take, drop, get_or, set, Result, sym, refl, ap, ◌∙◌, arith}
use Rattle.std.proofs.lemmas.List.{take_more_set, take-append-drop, drop-map, drop-set-lt, length-map, length-drop, append_assoc}
use Rattle.std.proofs.Math.Seq.{drop-cons}
use native.Mathlib.Numerals.{unary_clauses}
use Rattle.day_rules.specs.declared.answer.Answer.{Answer}
use Rattle.day_rules.specs.declared.answer.Answer.TheVariants as answers
use Rattle.day_rules.specs.declared.fault.LedgerFault.{LedgerFault}
use Rattle.day_rules.specs.declared.outcome.Outcome.{Outcome}
use Rattle.day_rules.specs.Calls.{Call, line, call_answer, call_left}
use Rattle.day_rules.specs.Days.{Day}
use Rattle.day_rules.specs.Log.{Log, Logged}
use Rattle.day_rules.specs.Rules.{answer, next}
use Rattle.ledger.specs.Runs.{answers_on, day_on, log_on}

-- the first of what is left
next-of : {X : Type 0} (xs : List X) (n : ℕ) (d : X) → n < length xs → drop n xs ≡ get_or xs n d ∷ drop (n + 1) xs
next-of xs n d l = simp unary_clauses (drop-cons xs n d l)

module _ {C A : Type 0} (answered : C → Day → A) (left : C → Day → Day) where
  -- After n calls: what is answered so far, and what is still to be answered from the day d on, is what the day at the start leads to.
  pub record Running (start : Day) (calls : List C) (places : List A) (n : ℕ) (d : Day) (is : List A) : Type 0 where
    pub answers : take n is ++ answers_on answered left d (drop n calls) (drop n is) ≡ answers_on answered left start calls places
    pub day : day_on left d (drop n calls) (drop n is) ≡ day_on left start calls places

  -- nothing is left
  answers-over : (d : Day) (calls : List C) (places : List A) → min (length calls) (length places) ≡ 0 → answers_on answered left d calls places ≡ places
  answers-over d [] places e = refl
  answers-over d (c ∷ calls) [] e = refl
  answers-over d (c ∷ calls) (a ∷ places) e = absurd (omega (arith, e))

  day-over : (d : Day) (calls : List C) (places : List A) → min (length calls) (length places) ≡ 0 → day_on left d calls places ≡ d
  day-over d [] places e = refl
  day-over d (c ∷ calls) [] e = refl
  day-over d (c ∷ calls) (a ∷ places) e = absurd (omega (arith, e))

  -- places past the last call's stay out of it
  pub answers-most : (d : Day) (calls : List C) (places : List A) (n : ℕ) → n ≡ min (length calls) (length places) → answers_on answered left d calls (take n places) ++ drop n places ≡ answers_on answered left d calls places
  answers-most d [] places n e = take-append-drop n places
  answers-most d (c ∷ calls) [] zero e = refl
  answers-most d (c ∷ calls) [] (suc n) e = refl
  answers-most d (c ∷ calls) (a ∷ places) zero e = absurd (omega (arith, e))
  answers-most d (c ∷ calls) (a ∷ places) (suc n) e = ap (λ rs. answered c d ∷ rs) (answers-most (left c d) calls places n (omega (arith, e)))

  pub day-most : (d : Day) (calls : List C) (places : List A) (n : ℕ) → n ≡ min (length calls) (length places) → day_on left d calls (take n places) ≡ day_on left d calls places
  day-most d [] places n e = refl
  day-most d (c ∷ calls) [] zero e = refl
  day-most d (c ∷ calls) [] (suc n) e = refl
  day-most d (c ∷ calls) (a ∷ places) zero e = absurd (omega (arith, e))
  day-most d (c ∷ calls) (a ∷ places) (suc n) e = day-most (left c d) calls places n (omega (arith, e))

  module _ {X : Type 0} (f : X → C) (start : Day) (xs : List X) (default : X) (places : List A) where
    call-at : (n : ℕ) → n < length xs → drop n (map f xs) ≡ f (get_or xs n default) ∷ drop (n + 1) (map f xs)
    call-at n l = drop-map f n xs ∙ ap (map f) (next-of xs n default l) ∙ ap (λ cs. f (get_or xs n default) ∷ cs) (sym (drop-map f (n + 1) xs))

    module _ (n : ℕ) (d : Day) (is : List A) (l : n < length xs) (k : n < length is) (h : Running start (map f xs) places n d is) (r : A) (e : Day) (says : r ≡ answered (f (get_or xs n default)) d) (leaves : e ≡ left (f (get_or xs n default)) d) where
      rest-stays : drop (n + 1) (set is n r) ≡ drop (n + 1) is
      rest-stays = drop-set-lt (n + 1) is n r (omega arith)

      pub goes-on : Running start (map f xs) places (n + 1) e (set is n r)
      goes-on = record {
        answers =
            rw (rest-stays, take_more_set is n r k, append_assoc (take n is) (r ∷ []) (answers_on answered left e (drop (n + 1) (map f xs)) (drop (n + 1) is)), says, leaves)
            (ap (λ rs. take n is ++ rs) (sym (ap (λ cs. answers_on answered left d cs (drop n is)) (call-at n l) ∙ ap (answers_on answered left d (f (get_or xs n default) ∷ drop (n + 1) (map f xs))) (next-of is n r k))) ∙ h.answers);
        day =
            rw (rest-stays, leaves)
            (sym (ap (λ cs. day_on left d cs (drop n is)) (call-at n l) ∙ ap (day_on left d (f (get_or xs n default) ∷ drop (n + 1) (map f xs))) (next-of is n r k)) ∙ h.day);
      }

  module _ {X : Type 0} (f : X → C) (start : Day) (xs : List X) (places : List A) (count : ℕ) (least : count ≡ min (length xs) (length places)) where
    module _ (n : ℕ) (d : Day) (is : List A) (l : count ≤ n) (size : length is ≡ count) (h : Running start (map f xs) (take count places) n d is) where
      least-calls : count ≡ min (length (map f xs)) (length places)
      least-calls = omega (arith, length-map xs f)

      none-left : min (length (drop n (map f xs))) (length (drop n is)) ≡ 0
      none-left = omega (arith, length-drop n is)

      -- what the loop leaves is what all calls do
      pub answers-end : is ++ drop count places ≡ answers_on answered left start (map f xs) places
      answers-end =
          ap (λ rs. rs ++ drop count places) (sym (take-append-drop n is) ∙ ap (λ rs. take n is ++ rs) (sym (answers-over d (drop n (map f xs)) (drop n is) none-left)) ∙ h.answers)
          ∙ answers-most start (map f xs) places count least-calls

      pub day-end : d ≡ day_on left start (map f xs) places
      day-end = sym (day-over d (drop n (map f xs)) (drop n is) none-left) ∙ h.day ∙ day-most start (map f xs) places count least-calls

-- Any log goes on with the calls and their answers.
calls-on : (log : Log) (d : Day) (calls : List Call) (places : List Answer) → Logged log d → Logged (log_on log calls (answers_on call_answer call_left d calls places)) (day_on call_left d calls places)
calls-on log d [] places h = h
calls-on log d (c ∷ calls) [] h = h
calls-on log d (c ∷ calls) (a ∷ places) h = calls-on (record { call = c; answer = call_answer c d } ∷ log) (call_left c d) calls places (d, h, refl, refl)

pub calls_logged : (log : Log) (d e : Day) (calls : List Call) (places is : List Answer) → is ≡ answers_on call_answer call_left d calls places → e ≡ day_on call_left d calls places → Logged log d → Logged (log_on log calls is) e
calls_logged log d e calls places is says leaves h = rw (says, leaves) (calls-on log d calls places h)

-- and with lines alone
lines-on : (log : Log) (d : Day) (lines : List (List ℕ)) (places : List (Result Outcome LedgerFault)) → Logged log d
    → Logged (log_on log (map line lines) (map answers.Line (answers_on answer next d lines places))) (day_on next d lines places)
lines-on log d [] places h = h
lines-on log d (x ∷ lines) [] h = h
lines-on log d (x ∷ lines) (a ∷ places) h = lines-on (record { call = line x; answer = answers.Line (answer x d) } ∷ log) (next x d) lines places (d, h, refl, refl)

pub lines_logged : (log : Log) (d e : Day) (lines : List (List ℕ)) (places is : List (Result Outcome LedgerFault)) → is ≡ answers_on answer next d lines places → e ≡ day_on next d lines places → Logged log d
    → Logged (log_on log (map line lines) (map answers.Line is)) e
lines_logged log d e lines places is says leaves h = rw (says, leaves) (lines-on log d lines places h)
