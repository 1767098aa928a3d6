-- Lines put one after the other, and those of a piece of an input.
use Rattle.std.specs.Prelude.{◌≡◌, ℕ, Bool, cond, List, [], ◌∷◌, length, Option, ◌==◌}
use Rattle.std.specs.Io.KnownBytes.{Appends}
use Rattle.capture.specs.Begun.{IsCut, IsUnended}
use Rattle.day_rules.specs.Days.{Day}
use Rattle.day_rules.specs.Lines.{day_after, answers_to}
use Rattle.day_lines.specs.declared.seen.Seen.{Seen}
use Rattle.day_lines.specs.Seen.{all_seen}
use Rattle.day_lines.specs.Texts.{answers_text}

-- the lines were put: what is printed, what was seen after them, and the day after them
pub record Taken (shown : Bool) (lines : List (List ℕ)) (was is : Option (List ℕ)) (before after : Seen) (d e : Day) : Type 0 where
  pub printed : Appends was is (answers_text shown before.lines.lines lines d)
  pub seen : after ≡ all_seen (answers_to lines d) before
  pub day : e ≡ day_after lines d

-- a line that was begun and has no line end, unless it is empty
abbrev pub begun_line : List ℕ → List (List ℕ)
begun_line begun = cond (length begun == 0) [] (begun ∷ [])

-- of a line that was begun and a piece behind it, the lines that end were put
pub record Cut (shown : Bool) (begun piece left : List ℕ) (was is : Option (List ℕ)) (before after : Seen) (d e : Day) : Type 0 where
  pub lines : List (List ℕ)
  pub taken : Taken shown lines was is before after d e
  pub cut : IsCut begun piece lines left
  pub unended : IsUnended left

abbrev pub PieceTaken : (shown : Bool) (begun piece left : List ℕ) (was is : Option (List ℕ)) (before after : Seen) (d e : Day) → Type 0
PieceTaken shown begun piece left was is before after d e = IsUnended begun → Cut shown begun piece left was is before after d e
