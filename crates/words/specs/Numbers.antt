-- Numbers of decimal digits, below 2^64.
use Rattle.std.specs.Prelude.{ℕ, ◌+◌, ◌*◌, ◌^◌, Bool, true, cond, ◌&&◌, List, [], ◌∷◌, Some, None, Option, nat_lt, option_map}
use Rattle.layout.specs.Bytes.{is_digit, worth_of}

abbrev pub are_digits : List ℕ → Bool
are_digits [] = true
are_digits (b ∷ bs) = is_digit b && are_digits bs

-- the number that digits spell behind the number v
abbrev pub spelt : ℕ → List ℕ → ℕ
spelt v [] = v
spelt v (b ∷ bs) = spelt (v * 10 + worth_of b) bs

-- a number, if it is below 2^64
abbrev pub narrow : ℕ → Option ℕ
narrow n = cond (nat_lt n (2 ^ 64)) (Some n) None

-- the number that the bytes spell behind v, if they are digits and it is below 2^64
abbrev pub decimal : ℕ → List ℕ → Option ℕ
decimal v bs = cond (are_digits bs) (narrow (spelt v bs)) None

-- one digit at least
abbrev pub number_of : List ℕ → Option ℕ
number_of [] = None
number_of (b ∷ bs) = decimal 0 (b ∷ bs)

-- one more digit behind a number
abbrev pub pushed_on : ℕ → ℕ → Option ℕ
pushed_on v b = cond (is_digit b) (narrow (v * 10 + worth_of b)) None

-- one number
abbrev pub one_of : List (List ℕ) → Option ℕ
one_of [] = None
one_of (w ∷ []) = number_of w
one_of (w ∷ (v ∷ ws)) = None

-- the first of the words as a number, and the words after it
abbrev pub first_of : List (List ℕ) → Option (ℕ × List (List ℕ))
first_of [] = None
first_of (w ∷ ws) = option_map (λ n. (n, ws)) (number_of w)
