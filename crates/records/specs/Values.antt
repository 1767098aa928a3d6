-- What a value is worth, and how a number is parted into the two that a value holds.
use Rattle.std.specs.Prelude.{◌≡◌, ℕ, ◌+◌, ◌-◌, ◌*◌, ◌/◌, ◌%◌, ◌^◌, min}
use Rattle.std.proofs.Common.{arith}
use Rattle.records.specs.declared.value.Value.{Value}

-- the ten-thousandths of a dollar that a value stands for
abbrev pub worth : Value → ℕ
worth v = v.high * 10 ^ 16 + v.low

-- the worth of the greatest value
abbrev pub greatest : ℕ
greatest = 2 ^ 64 * 10 ^ 16 - 1

-- a sum stops at the greatest value
abbrev pub stopped : ℕ → ℕ
stopped n = min n greatest

-- the high part of a number
abbrev pub high_of : ℕ → ℕ
high_of n = n / 10 ^ 16

-- the low part of a number
abbrev pub low_of : ℕ → ℕ
low_of n = n % 10 ^ 16

-- the value is worth that number, and holds its two parts
pub record Parts (v : Value) (n : ℕ) : Type 0 where
  pub whole : worth v ≡ n
  pub upper : v.high ≡ high_of n
  pub lower : v.low ≡ low_of n

-- the value of a number, the greatest value where the number passes it
abbrev pub valued : ℕ → Value
valued n = record { high = high_of (stopped n); low = low_of (stopped n); small = omega arith; fits = omega arith }

-- the sum of two values
abbrev pub joined : Value → Value → Value
joined v w = valued (worth v + worth w)
