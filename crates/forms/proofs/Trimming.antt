-- Where the spaces at a text's end begin.
use Rattle.std.proofs.Common.{◌≡◌, ℕ, zero, suc, ◌+◌, ◌<◌, ◌≤◌, ◌≢◌, List, [], ◌∷◌, length, get_or, take, refl, ap, arith, ne_eqb}
use Rattle.forms.specs.Texts.{before_text, without_spaces}

-- from that place on there are only spaces, and none stands right before it
pub trims : (n : ℕ) (xs : List ℕ) → n ≤ length xs → ((k : ℕ) → n ≤ k → k < length xs → get_or xs k 0 ≡ 32) → ((k : ℕ) → k + 1 ≡ n → get_or xs k 0 ≢ 32) → take n xs ≡ without_spaces xs
unfolding without_spaces
trims zero [] h s l = refl
trims (suc n) [] h s l = absurd (omega arith)
trims zero (x ∷ xs) h s l =
    let rest = trims zero xs (omega arith) (λ k a b. s (suc k) (omega arith) (omega arith)) (λ k e. absurd (omega arith)) in
    let is = s zero (omega arith) (omega arith) in
    rw (← rest, is) refl
trims (suc zero) (x ∷ xs) h s l =
    let rest = trims zero xs (omega arith) (λ k a b. s (suc k) (omega arith) (omega arith)) (λ k e. absurd (omega arith)) in
    let other = ne_eqb x 32 (l zero (omega arith)) in
    rw (← rest, other) refl
trims (suc (suc n)) (x ∷ []) h s l = absurd (omega arith)
trims (suc (suc n)) (x ∷ (y ∷ ys)) h s l =
    let rest = trims (suc n) (y ∷ ys) (omega arith) (λ k a b. s (suc k) (omega arith) (omega arith)) (λ k e. l (suc k) (omega arith)) in
    ap (before_text x) rest
