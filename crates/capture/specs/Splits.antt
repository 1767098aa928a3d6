-- Where a line ends.
use Rattle.std.specs.Prelude.{ℕ, ◌-◌, cond, List, [], ◌∷◌, length, Some, None, Option, ◌==◌, option_map}

-- the bytes before the first line end, or all of them
abbrev pub before_end : List ℕ → List ℕ
before_end [] = []
before_end (x ∷ xs) = cond (x == 10) [] (x ∷ before_end xs)

-- the bytes after the first line end, where there is one
abbrev pub after_end : List ℕ → Option (List ℕ)
after_end [] = None
after_end (x ∷ xs) = cond (x == 10) (Some xs) (after_end xs)

-- so many bytes are used up to the line end and with it, if it is among them
abbrev pub used_of : List ℕ → Option ℕ
used_of bytes = option_map (λ rest. length bytes - length rest) (after_end bytes)
