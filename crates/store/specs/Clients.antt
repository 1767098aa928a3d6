-- What generic code over any store answers.
use Rattle.std.specs.Prelude.{◌≡◌, ℕ, min, List, length, take, drop}

-- The first n records of the list stand in a row that was lent, n being all or as many as the row
-- takes, and the rest of the row is as it was.
pub record Listed {X : Type 0} (rows was is : List X) (n : ℕ) : Type 0 where
  pub count : n ≡ min (length rows) (length was)
  pub list : take n is ≡ take n rows
  pub past : drop n is ≡ drop n was
