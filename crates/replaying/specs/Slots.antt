-- How many slots so many hashed records are kept in.
use Rattle.std.specs.Prelude.{ℕ, zero, suc, ◌+◌, ◌/◌, ◌%◌, ◌^◌, Bool, true, not, ◌&&◌, ◌||◌, cond, Some, None, Option, unwrap_or, nat_eq, nat_lt, nat_le}
use Rattle.capture.specs.Counts.{at_most}

-- no number from 2 to before m divides n
unfoldable pub undivided : (n m : ℕ) → Bool
undivided n zero = true
undivided n (suc m) = undivided n m && (nat_lt m 2 || not (nat_eq (n % m) 0))

abbrev pub is_prime : ℕ → Bool
is_prime n = nat_le 2 n && undivided n n

-- the first prime among so many numbers from n on
unfoldable pub prime_among : (count n : ℕ) → Option ℕ
prime_among zero n = None
prime_among (suc count) n = cond (is_prime n) (Some n) (prime_among count (n + 1))

-- The first prime at or above n, where one of the next thousand numbers is prime; they are below
-- 2^40, as is every number of slots that a memory holds. Else n itself.
abbrev pub prime_from : ℕ → ℕ
prime_from n = cond (nat_lt n (2 ^ 40)) (unwrap_or (prime_among 1000 n) n) n

-- A third more than the room, so that searches stay short when it is full, and from there on to a
-- prime: the numbers of symbols end in the bytes of spaces, and would share few homes where the
-- number of slots had a divisor in common with 256.
abbrev pub slots_for : ℕ → ℕ
slots_for room = prime_from (at_most (room + room / 3))
