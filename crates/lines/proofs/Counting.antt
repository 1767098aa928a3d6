-- What is counted line by line is how many lines pass.
use Rattle.std.proofs.Common.{◌≡◌, ℕ, ◌+◌, ◌-◌, ◌^◌, ◌≤◌, Bool, true, false, cond, List, [], ◌∷◌, ◌++◌, length, count_by, refl, ap, ◌∙◌, arith}
use Rattle.std.proofs.lemmas.List.Sums.{sum_by-cons}
use Rattle.capture.specs.Counts.{at_most, more}
use Rattle.lines.specs.declared.totals.Totals.{Totals}
use Rattle.lines.specs.Counted.{after, counted, more_if, none_counted, totals_told}
use Rattle.lines.specs.Listings.{totals_text, totals_line, is_read, is_refused, is_rewritten, times}

-- a total that counts the lines which pass a test
tally : (test : List ℕ → Bool) (total : Totals → ℕ) → ((line : List ℕ) (t : Totals) → total (counted line t) ≡ more_if (test line) (total t))
    → (lines : List (List ℕ)) (t : Totals) → total t ≤ 2 ^ 64 - 1 → total (after lines t) ≡ at_most (total t + count_by test lines)
tally test total step [] t fits = omega arith
tally test total step (line ∷ lines) t fits = by_test (test line) refl (tally test total step lines (counted line t))
  where
    by_test : (so : Bool) → test line ≡ so → (total (counted line t) ≤ 2 ^ 64 - 1 → total (after lines (counted line t)) ≡ at_most (total (counted line t) + count_by test lines))
        → total (after (line ∷ lines) t) ≡ at_most (total t + count_by test (line ∷ lines))
    by_test false is others =
        let same : total (counted line t) ≡ total t = step line t ∙ ap (λ b. more_if b (total t)) is in
        let h = others (omega arith) in
        let none : count_by test (line ∷ lines) ≡ 0 + count_by test lines = sum_by-cons (λ l. cond (test l) 1 0) line lines ∙ ap (λ b. cond b 1 0 + count_by test lines) is in
        omega (arith, h, none)
    by_test true is others =
        let one : total (counted line t) ≡ more (total t) = step line t ∙ ap (λ b. more_if b (total t)) is in
        let h = others (omega arith) in
        let more_by_one : count_by test (line ∷ lines) ≡ 1 + count_by test lines = sum_by-cons (λ l. cond (test l) 1 0) line lines ∙ ap (λ b. cond b 1 0 + count_by test lines) is in
        omega (arith, h, more_by_one)

all-lines : (lines : List (List ℕ)) (t : Totals) → t.lines ≤ 2 ^ 64 - 1 → (after lines t).lines ≡ at_most (t.lines + length lines)
all-lines [] t fits = omega arith
all-lines (line ∷ lines) t fits = let h = all-lines lines (counted line t) (omega arith) in omega arith

from-none : (n : ℕ) → at_most (0 + n) ≡ at_most n
from-none n = omega arith

module _ (lines : List (List ℕ)) where
  pub read-counted : (after lines none_counted).read ≡ times is_read lines
  read-counted = tally is_read (λ t. t.read) (λ line t. refl) lines none_counted (omega arith) ∙ from-none (count_by is_read lines)

  pub rewritten-counted : (after lines none_counted).rewritten ≡ times is_rewritten lines
  rewritten-counted = tally is_rewritten (λ t. t.rewritten) (λ line t. refl) lines none_counted (omega arith) ∙ from-none (count_by is_rewritten lines)

  pub totals-told : totals_told (after lines none_counted) ≡ totals_line lines
  unfolding totals_line
  totals-told =
      let n : (after lines none_counted).lines ≡ at_most (length lines) = all-lines lines none_counted (omega arith) ∙ from-none (length lines) in
      let refused : (after lines none_counted).refused ≡ times is_refused lines =
      tally is_refused (λ t. t.refused) (λ line t. refl) lines none_counted (omega arith) ∙ from-none (count_by is_refused lines) in
      λ i. totals_text (n i) (read-counted i) (refused i) (rewritten-counted i) ++ (10 ∷ [])
