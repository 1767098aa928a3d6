-- What is counted, line by line.
use Rattle.std.proofs.Common.{◌≡◌, ℕ, zero, suc, ◌+◌, ◌-◌, ◌^◌, ◌<◌, ◌≤◌, List, [], ◌∷◌, length, replicate, Ok, Err, Result, sym, refl, ap, subst, ◌∙◌, ⊎_elim, arith, eq-eqb, ne_eqb, length-set}
use Rattle.std.proofs.lemmas.Bool.{cases_eq, cases_lt}
use Rattle.std.proofs.lemmas.List.{get_or-set_same, get_or-set_other, get_or-replicate, get_or_past}
use Rattle.capture.specs.Counts.{at_most}
use Rattle.day_rules.specs.declared.fault.LedgerFault.{LedgerFault}
use Rattle.day_rules.specs.declared.outcome.Outcome.{Outcome}
use Rattle.day_rules.proofs.Numbers.{number_small}
use Rattle.day_rules.specs.Faults.{refusal_number}
use Rattle.day_rules.specs.Lines.{times_refused}
use Rattle.day_lines.specs.declared.seen.Seen.{Seen}
use Rattle.day_lines.specs.Seen.{count_at, counted, answer_counted, none_seen, one_seen, all_seen, times_from, IsSeen}

-- each refusal has a count, and no count passes the most that it holds
record Counts (counts : List ℕ) : Type 0 where
  pub places : length counts ≡ 15
  pub narrow : (n : ℕ) → count_at n counts ≤ 2 ^ 64 - 1

-- one more refusal of the number m
module _ (m : ℕ) (small : m < 15) (counts : List ℕ) (held : Counts counts) where
  here : count_at m (counted m counts) ≡ at_most (count_at m counts + 1)
  here = get_or-set_same counts m _ 0 (let l = held.places in omega arith)

  there : (n : ℕ) → (m ≡ n → ⊥) → count_at n (counted m counts) ≡ count_at n counts
  there n other = get_or-set_other counts m n _ 0 (λ e. other (sym e))

  counted-holds : Counts (counted m counts)
  counted-holds = record {
    places = length-set counts m _ ∙ held.places;
    narrow = λ n.
        ⊎_elim
        (λ (e : m ≡ n). rw (sym e) (let h = here in omega arith))
        (λ other. let t = there n other in let k = held.narrow n in omega arith)
        (cases_eq m n);
  }

answer-holds : (a : Result Outcome LedgerFault) (counts : List ℕ) → Counts counts → Counts (answer_counted a counts)
answer-holds (Ok outcome) counts held = held
answer-holds (Err f) counts held = counted-holds (refusal_number f) (number_small f) counts held

-- the count of the number n, with one more answer and as many more
more-counted : (n k : ℕ) (a : Result Outcome LedgerFault) (counts : List ℕ) → Counts counts
    → at_most (count_at n (answer_counted a counts) + k) ≡ at_most (count_at n counts + (times_refused n (a ∷ []) + k))
more-counted n k (Ok outcome) counts held = omega arith
more-counted n k (Err f) counts held =
    ⊎_elim
    (λ e. let on = eq-eqb (refusal_number f) n e in let h = here (refusal_number f) (number_small f) counts held in let k : count_at n (counted (refusal_number f) counts) ≡ at_most (count_at n counts + 1) = subst (λ m. count_at m (counted (refusal_number f) counts) ≡ at_most (count_at m counts + 1)) e h in rw on (omega arith))
    (λ other. let off = ne_eqb (refusal_number f) n other in let t = there (refusal_number f) (number_small f) counts held n other in rw off (omega arith))
    (cases_eq (refusal_number f) n)

lines-seen : (answers : List (Result Outcome LedgerFault)) (s : Seen) → s.lines.lines ≤ 2 ^ 64 - 1 → (all_seen answers s).lines.lines ≡ at_most (s.lines.lines + length answers)
lines-seen [] s narrow = omega arith
lines-seen (a ∷ answers) s narrow = let h = lines-seen answers (one_seen a s) (omega arith) in omega arith

refusals-seen : (answers : List (Result Outcome LedgerFault)) (s : Seen) (n : ℕ) → Counts s.refusals.counts
    → count_at n (all_seen answers s).refusals.counts ≡ at_most (count_at n s.refusals.counts + times_refused n answers)
refusals-seen [] s n held = let h = held.narrow n in omega arith
refusals-seen (a ∷ answers) s n held =
    let h = refusals-seen answers (one_seen a s) n (answer-holds a s.refusals.counts held) in
    let k = more-counted n (times_refused n answers) a s.refusals.counts held in
    omega (arith, h, k)

-- nothing is counted at first
none_counted : (n : ℕ) → count_at n (replicate 15 0) ≡ 0
none_counted n = ⊎_elim (λ l. get_or-replicate 15 n 0 0 l) (λ l. get_or_past (replicate 15 0) n 0 l) (cases_lt n 15)

counts_hold : (answers : List (Result Outcome LedgerFault)) (s : Seen) → Counts s.refusals.counts → Counts (all_seen answers s).refusals.counts
counts_hold [] s held = held
counts_hold (a ∷ answers) s held = counts_hold answers (one_seen a s) (answer-holds a s.refusals.counts held)

-- counts that are so one by one
all_times : (counts : List ℕ) (count n : ℕ) (answers : List (Result Outcome LedgerFault)) → length counts ≡ count
    → ((i : ℕ) → i < count → count_at i counts ≡ at_most (times_refused (n + i) answers)) → counts ≡ times_from count n answers
all_times [] zero n answers size each = refl
all_times [] (suc count) n answers size each = absurd (omega arith)
all_times (x ∷ counts) zero n answers size each = absurd (omega arith)
all_times (x ∷ counts) (suc count) n answers size each =
    let here : x ≡ at_most (times_refused n answers) = each 0 (omega arith) ∙ ap (λ m. at_most (times_refused m answers)) (let z : n + 0 ≡ n = omega arith in z) in
    let others : counts ≡ times_from count (n + 1) answers =
    all_times counts count (n + 1) answers (omega arith) (λ i l. each (suc i) (omega arith) ∙ ap (λ m. at_most (times_refused m answers)) (let z : n + suc i ≡ n + 1 + i = omega arith in z)) in
    λ i. here i ∷ others i

pub all_counted : (answers : List (Result Outcome LedgerFault)) → IsSeen (all_seen answers none_seen) answers
all_counted answers =
    let held : Counts none_seen.refusals.counts = record { places = refl; narrow = λ n. let z = none_counted n in omega arith } in record {
      lines = let h = lines-seen answers none_seen (omega arith) in omega (arith, h);
      refusals =
          all_times (all_seen answers none_seen).refusals.counts 15 0 answers (counts_hold answers none_seen held).places
          (λ n small. let h = refusals-seen answers none_seen n held in let z = none_counted n in let e : 0 + n ≡ n = omega arith in rw e (omega (arith, h, z)));
    }
