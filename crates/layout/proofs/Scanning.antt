-- The steps of a loop over the bytes of a field.
use Rattle.std.proofs.Common.{◌≡◌, ℕ, zero, suc, ◌+◌, ◌*◌, ◌^◌, ◌<◌, ◌≤◌, true, false, ltb, List, map, length, get_or, min, take, ap, ◌∙◌, add-one, arith}
use native.Mathlib.Nat.{pow-le-pow_right}
use Rattle.std.specs.Int.Digits.{number_from_digits as number_of}
use Rattle.std.proofs.lemmas.Int.Digits.{number_push}
use Rattle.std.proofs.lemmas.List.{map_more, get_or-take, length-take, length-take-le}
use Rattle.std.proofs.lemmas.Bool.{and_from, and_left, and_right, lt-ltb, le-ltb}
use Rattle.layout.specs.Slots.{Slot, number, text, choice, keeps, holds, Passes, Stops}
use Rattle.layout.proofs.Digits.{push-lt}
use Rattle.layout.proofs.Search.{passes-more}

-- the number of one digit more
pub number_more : (b : ℕ) (f : ℕ → ℕ) (xs : List ℕ) (i : ℕ) → i < length xs → number_of b (map f (take (i + 1) xs)) ≡ number_of b (map f (take i xs)) * b + f (get_or xs i 0)
number_more b f xs i lt = ap (number_of b) (map_more f xs i 0 lt) ∙ number_push b (map f (take i xs)) (f (get_or xs i 0))

-- and it fits, while the field's whole number does
pub push-fits : (b i n v d : ℕ) → v < b ^ i → d < b → i < n → b ^ n ≤ 2 ^ 64 → v * b + d < 2 ^ 64
push-fits b i n v d small digit lt fits =
    let more = push-lt b i v d small digit in
    let rest = pow-le-pow_right {n = b} (omega arith) {i = i + 1} {j = n} (omega arith) in
    omega arith

module _ (s : Slot) (xs : List ℕ) where
  pub passes_none : Passes (holds s xs) 0
  passes_none j lt = absurd (omega arith)

  pub passes-step : (i : ℕ) → Passes (holds s xs) i → i < length xs → keeps s xs i ≡ true → Passes (holds s xs) (i + 1)
  passes-step i h lt e = rw add-one (passes-more (holds s xs) i h (and_from (ltb i (length xs)) (keeps s xs i) (lt-ltb i (length xs) lt) e))

  pub stops-here : (n i : ℕ) → i < n → Passes (holds s xs) i → keeps s xs i ≡ false → Stops (holds s xs) n i
  stops-here n i lt h e = (lt, h, and_right (ltb i (length xs)) (keeps s xs i) e)

  pub stops-short : (n i : ℕ) → i < n → Passes (holds s xs) i → length xs ≤ i → Stops (holds s xs) n i
  stops-short n i lt h e = (lt, h, and_left (ltb i (length xs)) (keeps s xs i) (le-ltb i (length xs) e))

-- a place among the first n bytes, and where there are fewer
module _ (n : ℕ) (xs front : List ℕ) (e : front ≡ take n xs) where
  pub in-front : (i : ℕ) → i < length front → (i < n) × (i < length xs) × (get_or front i 0 ≡ get_or xs i 0)
  in-front i lt =
      let size : length front ≡ min n (length xs) = ap length e ∙ length-take n xs in
      let within : i < n = omega arith in
      (within, omega arith, ap (λ ys. get_or ys i 0) e ∙ get_or-take n xs i 0 within)

  pub front-short : length front < n → length xs ≤ length front
  front-short lt = let size : length front ≡ min n (length xs) = ap length e ∙ length-take n xs in omega arith

-- a byte keeps the rule or not by the field's own bytes
keeps-part : (s : Slot) (xs : List ℕ) (n j : ℕ) → j < n → keeps s xs j ≡ keeps s (take n xs) j
keeps-part (number base count low high) xs n j lt = rw (get_or-take n xs j 0 lt)
keeps-part (text class least w whole) xs n zero lt = rw (get_or-take n xs 0 0 lt)
keeps-part (text class least w whole) xs n (suc j) lt = let before : j < n = omega arith in rw (get_or-take n xs (suc j) 0 lt, get_or-take n xs j 0 before)
keeps-part (choice letters) xs n j lt = rw (get_or-take n xs j 0 lt)

pub holds-part : (s : Slot) (xs : List ℕ) (n : ℕ) → n ≤ length xs → (j : ℕ) → j < n → holds s xs j ≡ holds s (take n xs) j
holds-part s xs n within j lt =
    let here : ltb j (length xs) ≡ true = lt-ltb j (length xs) (omega arith) in
    let there : ltb j (length (take n xs)) ≡ true = lt-ltb j (length (take n xs)) (omega (arith, length-take-le n xs within)) in
    rw (here, there) (keeps-part s xs n j lt)
