-- Counting lines.
use Rattle.std.specs.Prelude.{ℕ, ◌+◌, ◌-◌, ◌^◌, min}

-- a number as far as a count goes
abbrev pub at_most : ℕ → ℕ
at_most n = min n (2 ^ 64 - 1)

-- one more
abbrev pub more : ℕ → ℕ
more n = at_most (n + 1)
