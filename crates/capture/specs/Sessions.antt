-- What a part of a program prints for the lines of an input: what it leaves to be printed of the
-- lines to come, behind what it printed, is what was to be printed before.
use Rattle.std.specs.Prelude.{◌≡◌, ℕ, List, ◌++◌, Some, Option, IfSome}
use Rattle.std.specs.Io.KnownBytes.{Appends}
use Rattle.capture.specs.Lines.{lines_of}

-- with no line read
pub record Prints (was is : Option (List ℕ)) (due later : List (List ℕ) → List ℕ) : Type 0 where
  pub printed : List ℕ
  pub appends : Appends was is printed
  pub whole : (lines : List (List ℕ)) → printed ++ later lines ≡ due lines

-- with so much of the input left
pub record Saying (coming was is : Option (List ℕ)) (later : List (List ℕ) → List ℕ)
    (text : List ℕ) : Type 0 where
  pub rest : List ℕ
  pub left : coming ≡ Some rest
  pub printed : List ℕ
  pub appends : Appends was is printed
  pub whole : printed ++ later (lines_of rest) ≡ text

abbrev pub Says :
    (before coming was is : Option (List ℕ)) (due later : List (List ℕ) → List ℕ) → Type 0
Says before coming was is due later =
    IfSome before (λ bytes. Saying coming was is later (due (lines_of bytes)))
