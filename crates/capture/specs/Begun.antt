-- A line that is not read to its end.
use Rattle.std.specs.Prelude.{◌≡◌, ℕ, List, ◌++◌, None, Option}
use Rattle.std.specs.Io.KnownBytes.{Consumes}
use Rattle.capture.specs.Lines.{passed_on, lines_of}
use Rattle.capture.specs.Splits.{after_end}

-- no line ends among the bytes
abbrev pub IsUnended : List ℕ → Type 0
IsUnended bytes = after_end bytes ≡ None

-- Of the bytes that a reader has left, some are read, no line ends among them, and the line is
-- what is passed on of them.
pub record IsBegun (was is : Option (List ℕ)) (line : List ℕ) : Type 0 where
  pub read : List ℕ
  pub consumed : Consumes was is read
  pub unended : IsUnended read
  pub kept : line ≡ passed_on read

-- Of a line that was begun and a piece behind it, these lines end, and what is left begins the
-- next: whatever comes behind the piece, these lines come first, and the others are those of what
-- is left and of what comes.
abbrev pub IsCut : (begun piece : List ℕ) (lines : List (List ℕ)) (left : List ℕ) → Type 0
IsCut begun piece lines left =
    (rest : List ℕ) → lines_of (begun ++ (piece ++ rest)) ≡ lines ++ lines_of (left ++ rest)
