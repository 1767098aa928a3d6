-- What a walk over a field finds, by what its bytes are.
use Rattle.std.proofs.Common.{◌≡◌, ℕ, ◌<◌, ◌≤◌, true, false, List, [], ◌∷◌, length, get_or, take, Some, None, Ok, Err, Option, Result, sym, refl, ap, ◌∙◌, arith, MatchResult}
use Rattle.std.specs.Result.{result_or}
use Rattle.layout.specs.Slots.{Slot, width, holds, value_of, first_failing, walked, scan_slot, choice, is_one_of, Passes, Stops}
use Rattle.std.proofs.lemmas.List.{get_or-take, take-take}
use Rattle.std.proofs.lemmas.Bool.{eq-eqb, ne_eqb, or_left, or_from}
use Rattle.layout.proofs.Scanning.{holds-part, passes_none, passes-step, stops-here, stops-short}
use Rattle.layout.proofs.Search.{Outcome, outcome, is_none, is_some, same-failing}

module _ (s : Slot) (xs : List ℕ) where
  pub scan-stops : (i : ℕ) → Stops (holds s xs) (width s) i → scan_slot s xs ≡ Err i
  unfolding scan_slot
  scan-stops i h = ap (walked s xs) (is_some (holds s xs) (width s) i h)

  pub scan-passes : Passes (holds s xs) (width s) → scan_slot s xs ≡ Ok (value_of s (take (width s) xs))
  unfolding scan_slot
  scan-passes h = ap (walked s xs) (is_none (holds s xs) (width s) h)

-- what it found, by what it answered
abbrev pub Found : Slot → List ℕ → Result ℕ ℕ → Type 0
Found s xs (Ok v) = Passes (holds s xs) (width s) × (value_of s (take (width s) xs) ≡ v)
Found s xs (Err i) = Stops (holds s xs) (width s) i

found-walked : (s : Slot) (xs : List ℕ) (o : Option ℕ) → Outcome (holds s xs) (width s) o → Found s xs (walked s xs o)
found-walked s xs (Some i) h = h
found-walked s xs None h = (h, refl)

pub scan-found : (s : Slot) (xs : List ℕ) → Found s xs (scan_slot s xs)
unfolding scan_slot
scan-found s xs = found-walked s xs (first_failing (holds s xs) (width s)) (outcome (holds s xs) (width s))

-- the walk looks at the field's own bytes
walked-part : (s : Slot) (xs : List ℕ) (o : Option ℕ) → walked s xs o ≡ walked s (take (width s) xs) o
walked-part s xs (Some i) = refl
walked-part s xs None = ap (λ p. Ok (value_of s p)) (sym (take-take (width s) (width s) xs (omega arith)))

pub scan-part : (s : Slot) (xs : List ℕ) → width s ≤ length xs → scan_slot s xs ≡ scan_slot s (take (width s) xs)
unfolding scan_slot
scan-part s xs within =
    walked-part s xs _
    ∙ ap (walked s (take (width s) xs)) (same-failing (holds s xs) (holds s (take (width s) xs)) (width s) (holds-part s xs (width s) within))

-- a field of one byte
module _ (letters : List ℕ) (xs : List ℕ) where
  pub scan-empty : length xs ≡ 0 → scan_slot (choice letters) xs ≡ Err 0
  scan-empty e = scan-stops (choice letters) xs 0 (stops-short (choice letters) xs 1 0 (omega arith) (passes_none (choice letters) xs) (omega arith))

  scan-other : is_one_of letters (get_or xs 0 0) ≡ false → scan_slot (choice letters) xs ≡ Err 0
  scan-other e = scan-stops (choice letters) xs 0 (stops-here (choice letters) xs 1 0 (omega arith) (passes_none (choice letters) xs) e)

  scan-member : 0 < length xs → is_one_of letters (get_or xs 0 0) ≡ true → scan_slot (choice letters) xs ≡ Ok (get_or xs 0 0)
  unfolding value_of
  scan-member lt e =
      scan-passes (choice letters) xs (passes-step (choice letters) xs 0 (passes_none (choice letters) xs) lt e) ∙ ap Ok (get_or-take 1 xs 0 0 (omega arith))

  -- of a type whose values stand for the letters: a byte is turned into the value that it stands for, if there is one
  pub scan-letter : {X E : Type 0} (Q : E → Type 0) (letter : X → ℕ) → ((x : X) → is_one_of letters (letter x) ≡ true) → (b : ℕ) → 0 < length xs → b ≡ get_or xs 0 0 → (r : Result X E) → MatchResult r (λ x. letter x ≡ b) (λ e. Q e × (is_one_of letters b ≡ false)) → MatchResult (result_or r (Err 0)) (λ x. scan_slot (choice letters) xs ≡ Ok (letter x)) (λ i. scan_slot (choice letters) xs ≡ Err i)
  scan-letter Q letter member b lt here (Ok x) h = scan-member lt (rw (← here, ← h) (member x)) ∙ ap Ok (sym (h ∙ here))
  scan-letter Q letter member b lt here (Err e) h = scan-other (rw here at h.1)

-- of one letter alone
module _ (letter : ℕ) (xs : List ℕ) where
  pub scan-mark : 0 < length xs → get_or xs 0 0 ≡ letter → scan_slot (choice (letter ∷ [])) xs ≡ Ok letter
  scan-mark lt e = scan-member (letter ∷ []) xs lt (or_left _ _ (eq-eqb _ _ e)) ∙ ap Ok e

  pub scan-unmarked : (get_or xs 0 0 ≡ letter → ⊥) → scan_slot (choice (letter ∷ [])) xs ≡ Err 0
  scan-unmarked other = scan-other (letter ∷ []) xs (or_from _ _ (ne_eqb _ _ other) refl)
