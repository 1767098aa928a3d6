-- An average price: value over shares, in ten-thousandths of a dollar.
use Rattle.std.specs.Prelude.{ℕ, ◌+◌, ◌*◌, ◌/◌, ◌<◌, ◌≤◌, cond, Some, None, Option, ◌==◌}

-- the quotient to the nearest whole number, halves up
abbrev pub rounded : (value shares : ℕ) → ℕ
rounded value shares = (2 * value + shares) / (2 * shares)

-- none where no shares have traded
abbrev pub average_of : (value shares : ℕ) → Option ℕ
average_of value shares = cond (shares == 0) None (Some (rounded value shares))

-- At the average, the shares come to at most half a ten-thousandth each more than the value, and to less than half a ten-thousandth each less. So it is the nearest, and the upper of two that are as near.
pub record IsNearest (value shares average : ℕ) : Type 0 where
  pub over : 2 * (average * shares) ≤ 2 * value + shares
  pub under : 2 * value < 2 * (average * shares) + shares
