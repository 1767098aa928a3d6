-- Where a line ends, from the place of its first line end.
use Rattle.std.proofs.Common.{◌≡◌, ℕ, zero, suc, ◌<◌, false, cond, eqb, List, [], ◌∷◌, length, slice_index, take, drop, Some, None, sym, refl, ap, subst, arith, eq-eqb, eqb-true, ne_eqb}
use Rattle.memchr.specs.Find.{IsFirstByte, is_byte}
use Rattle.capture.specs.Splits.{before_end, after_end}

-- no line end stands below that place
abbrev Clear : List ℕ → ℕ → Type 0
Clear xs n = (k : ℕ) → k < n → slice_index xs k ≡ 10 → ⊥

tail-clear : (x : ℕ) (xs : List ℕ) (n : ℕ) → Clear (x ∷ xs) (suc n) → Clear xs n
tail-clear x xs n c k h = c (suc k) (omega arith)

head_clear : (x : ℕ) (xs : List ℕ) (n : ℕ) → Clear (x ∷ xs) (suc n) → eqb x 10 ≡ false
head_clear x xs n c = ne_eqb x 10 (c zero (omega arith))

before-found : (xs : List ℕ) (n : ℕ) → Clear xs n → n < length xs → slice_index xs n ≡ 10 → before_end xs ≡ take n xs
before-found [] n c h e = absurd (omega arith)
before-found (x ∷ xs) zero c h e = let P : ℕ → Type 0 = λ y. cond (eqb y 10) [] (y ∷ before_end xs) ≡ [] in subst P (sym e) refl
before-found (x ∷ xs) (suc n) c h e =
    let off = head_clear x xs n c in
    rw off (ap (λ ys. x ∷ ys) (before-found xs n (tail-clear x xs n c) (omega arith) e))

after-found : (xs : List ℕ) (n : ℕ) → Clear xs n → n < length xs → slice_index xs n ≡ 10 → after_end xs ≡ Some (drop (suc n) xs)
after-found [] n c h e = absurd (omega arith)
after-found (x ∷ xs) zero c h e = let P : ℕ → Type 0 = λ y. cond (eqb y 10) (Some xs) (after_end xs) ≡ Some xs in subst P (sym e) refl
after-found (x ∷ xs) (suc n) c h e =
    let off = head_clear x xs n c in
    rw off (after-found xs n (tail-clear x xs n c) (omega arith) e)

before-none : (xs : List ℕ) → Clear xs (length xs) → before_end xs ≡ xs
before-none [] c = refl
before-none (x ∷ xs) c =
    let off = head_clear x xs (length xs) c in
    rw off (ap (λ ys. x ∷ ys) (before-none xs (tail-clear x xs (length xs) c)))

after_none : (xs : List ℕ) → Clear xs (length xs) → after_end xs ≡ None
after_none [] c = refl
after_none (x ∷ xs) c =
    let off = head_clear x xs (length xs) c in
    rw off (after_none xs (tail-clear x xs (length xs) c))

-- the same, by the place that a search gives

pub split-found : (xs : List ℕ) (n : ℕ) → IsFirstByte (is_byte 10) xs (Some n) → (n < length xs) × (before_end xs ≡ take n xs) × (after_end xs ≡ Some (drop (suc n) xs))
split-found xs n found =
    let clear : Clear xs n = λ k lt h. found.0.before k (omega arith) lt (eq-eqb _ _ h) in
    let here = eqb-true _ _ found.1 in
    (found.0.high, before-found xs n clear found.0.high here, after-found xs n clear found.0.high here)

pub split-none : (xs : List ℕ) → IsFirstByte (is_byte 10) xs None → (before_end xs ≡ xs) × (after_end xs ≡ None)
split-none xs none =
    let clear : Clear xs (length xs) = λ k lt h. none k (omega arith) lt (eq-eqb _ _ h) in
    (before-none xs clear, after_none xs clear)
