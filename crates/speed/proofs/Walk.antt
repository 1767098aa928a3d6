-- From a line's start to its end.
use Rattle.std.proofs.Common.{◌≡◌, ℕ, eqb, List, [], ◌∷◌, ◌++◌, Some, None, Option, sym, refl, ap, ◌∙◌, ⊎_elim, append_assoc, append-nil}
use Rattle.std.proofs.lemmas.Bool.{cases_Bool}
use Rattle.capture.specs.Splits.{before_end, after_end}
use Rattle.messages.specs.Lines.{line_read}
use Rattle.speed.specs.Checksum.{after_line, after_bytes}

-- what the bytes after the first line end add, where there is one
abbrev pub onward : ℕ → List ℕ → Option (List ℕ) → ℕ
onward sum line None = sum
onward sum line (Some rest) = after_bytes (after_line sum (line_read line)) [] rest

walk : (sum : ℕ) (line xs : List ℕ) → after_bytes sum line xs ≡ onward sum (line ++ before_end xs) (after_end xs)
unfolding after_bytes
walk sum line [] = refl
walk sum line (x ∷ xs) =
    ⊎_elim
    (λ e. rw e (ap (λ l. after_bytes (after_line sum (line_read l)) [] xs) (sym (append-nil line))))
    (λ e. rw e (walk sum (line ++ (x ∷ [])) xs ∙ rw append_assoc))
    (cases_Bool (eqb x 10))

pub walk-line : (sum : ℕ) (xs : List ℕ) → after_bytes sum [] xs ≡ onward sum (before_end xs) (after_end xs)
walk-line sum xs = walk sum [] xs
