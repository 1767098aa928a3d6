-- What turning a byte into a value of a type that is written as one byte comes to.
use Rattle.std.specs.Prelude.{◌≡◌, ℕ, false, List, Result, MatchResult}
use Rattle.fields.specs.declared.letter.UnknownLetter.{UnknownLetter}
use Rattle.layout.specs.Slots.{is_one_of}

-- the value that is written as that byte; or an error with the byte, where it is none of the letters
abbrev pub ReadAs : {X : Type 0} → List ℕ → (X → ℕ) → ℕ → Result X UnknownLetter → Type 0
ReadAs letters written b r = MatchResult r (λ x. written x ≡ b) (λ e. (e.0 ≡ b) × (is_one_of letters b ≡ false))
