-- The lines of an input.
use Rattle.std.specs.Prelude.{ℕ, cond, List, [], ◌∷◌, take, map, Some, None, Option, ◌==◌}
use Rattle.capture.specs.Splits.{before_end}

-- what of a line is passed on: its first 255 bytes
abbrev pub passed_on : List ℕ → List ℕ
passed_on line = take 255 line

-- what is passed on of the next line; none where the input has ended
abbrev pub next_of : List ℕ → Option (List ℕ)
next_of [] = None
next_of (x ∷ xs) = Some (passed_on (before_end (x ∷ xs)))

-- with a byte before the first line, or as a line of its own where there is none
abbrev pub onto_first : ℕ → List (List ℕ) → List (List ℕ)
onto_first x [] = (x ∷ []) ∷ []
onto_first x (line ∷ lines) = (x ∷ line) ∷ lines

-- what stands before each line end, and what stands behind the last one unless that is nothing
abbrev pub whole_lines : List ℕ → List (List ℕ)
whole_lines [] = []
whole_lines (x ∷ xs) = cond (x == 10) ([] ∷ whole_lines xs) (onto_first x (whole_lines xs))

-- the lines of an input: the first 255 bytes of each
abbrev pub lines_of : List ℕ → List (List ℕ)
lines_of input = map passed_on (whole_lines input)
