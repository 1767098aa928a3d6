-- Sums that stop at the greatest number of 64 bits.
use Rattle.std.specs.Prelude.{ℕ, ◌+◌, ◌-◌, ◌^◌, ◌<◌, min}
use Rattle.std.proofs.Common.{arith}
use Rattle.tally.specs.declared.total.Total.{Total}

-- the greatest number held
abbrev pub greatest_total : ℕ
greatest_total = 2 ^ 64 - 1

pub stops-below : (n : ℕ) → min n greatest_total < 2 ^ 64
stops-below n = omega arith

-- the total of n, or the greatest where n is more
abbrev pub total_of : ℕ → Total
total_of n = record { number = min n greatest_total; fits = stops-below n }

-- two totals in one
abbrev pub together : Total → Total → Total
together x y = total_of (x.number + y.number)
