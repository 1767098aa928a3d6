-- Writing bytes over others.
use Rattle.std.proofs.Common.{◌≡◌, ℕ, ◌+◌, ◌-◌, ◌/◌, ◌%◌, ◌^◌, ◌<◌, ◌≤◌, List, [], ◌∷◌, ◌++◌, length, get_or, take, drop, set, sym, refl, ap, ◌∙◌, append_assoc, add-one, arith}
use Rattle.std.proofs.lemmas.List.{take_more, set_at, length-take-le, length-map, length-append, length-drop, take_at, drop_at, drop-drop}
use Rattle.std.proofs.lemmas.Bool.{cond-true, cond-false, le-leb, lt-leb}
use Rattle.layout.specs.Bytes.{byte_within}
use Rattle.layout.specs.Digits.{digits, digit_bytes}
use Rattle.layout.specs.Slots.{Slot, width, scan_slot, over}
use Rattle.layout.proofs.Digits.{length_digits}
use Rattle.layout.proofs.Reading.{scan-part}

pub digit_bytes-none : (b v : ℕ) → digit_bytes b 0 v ≡ []
unfolding digits digit_bytes
digit_bytes-none b v = refl

pub digit_bytes-more : (b i v : ℕ) → digit_bytes b (i + 1) v ≡ byte_within b (v / b ^ i % b) ∷ digit_bytes b i v
unfolding digits digit_bytes
digit_bytes-more b i v = rw add-one

-- one byte more before those that were written
set_before : (xs ys : List ℕ) (k x : ℕ) → k < length xs → set (take (k + 1) xs ++ ys) k x ≡ take k xs ++ (x ∷ ys)
set_before xs ys k x lt =
    ap (λ zs. set (zs ++ ys) k x) (take_more xs k 0 lt) ∙ ap (λ zs. set zs k x) (append_assoc (take k xs) (get_or xs k 0 ∷ []) ys)
    ∙ set_at (take k xs) (get_or xs k 0) ys x k (length-take-le k xs (omega arith))

-- written from the last to the first, the digits stand from the place p on; k is the place before it
pub digits_before : (xs : List ℕ) (b v p k : ℕ) → p ≡ k + 1 → p ≤ length xs → set (take p xs ++ digit_bytes b (length xs - p) v) k (byte_within b (v / b ^ (length xs - p) % b)) ≡ take k xs ++ digit_bytes b (length xs - k) v
digits_before xs b v p k e le =
    let next : length xs - k ≡ length xs - p + 1 = omega arith in
    rw (next, digit_bytes-more b (length xs - p) v) (ap (λ n. set (take n xs ++ digit_bytes b (length xs - p) v) k (byte_within b (v / b ^ (length xs - p) % b))) e ∙ set_before xs (digit_bytes b (length xs - p) v) k _ (omega arith))

pub length-digit_bytes : (b n v : ℕ) → length (digit_bytes b n v) ≡ n
unfolding digit_bytes
length-digit_bytes b n v = length-map (digits b n v) (byte_within b) ∙ length_digits b n v

module _ (o : ℕ) (p xs : List ℕ) where
  pub over-within : o + length p ≤ length xs → over o p xs ≡ take o xs ++ (p ++ drop (o + length p) xs)
  unfolding over
  over-within h = cond-true _ _ _ (le-leb _ _ h)

  pub over-past : length xs < o + length p → over o p xs ≡ xs
  unfolding over
  over-past h = cond-false _ _ _ (lt-leb _ _ h)

-- what lies before, up to the end of and after what was written
module _ (o : ℕ) (p xs : List ℕ) (fits : o + length p ≤ length xs) where
  parts : over o p xs ≡ (take o xs ++ p) ++ drop (o + length p) xs
  parts = over-within o p xs fits ∙ sym (append_assoc (take o xs) p (drop (o + length p) xs))

  front : length (take o xs ++ p) ≡ o + length p
  front = length-append (take o xs) p ∙ ap (λ n. n + length p) (length-take-le o xs (omega arith))

  pub take-over : take (o + length p) (over o p xs) ≡ take o xs ++ p
  take-over = rw parts (take_at (take o xs ++ p) (drop (o + length p) xs) (o + length p) front)

  pub drop-over : (n : ℕ) → o + length p ≤ n → drop n (over o p xs) ≡ drop n xs
  drop-over n le =
      let there : o + length p + (n - (o + length p)) ≡ n = omega arith in
      ap (λ k. drop k (over o p xs)) (sym there) ∙ sym (drop-drop (n - (o + length p)) (o + length p) (over o p xs))
      ∙ ap (drop (n - (o + length p))) (rw parts (drop_at (take o xs ++ p) (drop (o + length p) xs) (o + length p) front))
      ∙ drop-drop (n - (o + length p)) (o + length p) xs ∙ ap (λ k. drop k xs) there

  pub length_over : length (over o p xs) ≡ length xs
  length_over = rw (parts, length-append, front, length-drop) (omega arith)

-- a field that was written at the front is read there
pub scan-over : (s : Slot) (p xs : List ℕ) → length p ≡ width s → width s ≤ length xs → scan_slot s (over 0 p xs) ≡ scan_slot s p
scan-over s p xs size within =
    let held : width s ≤ length (p ++ drop (0 + length p) xs) = simp length-append (omega arith) in
    ap (scan_slot s) (over-within 0 p xs (omega arith)) ∙ scan-part s (p ++ drop (0 + length p) xs) held
    ∙ ap (scan_slot s) (take_at p (drop (0 + length p) xs) (width s) size)
