-- What is listed of an input that comes in pieces.
use Rattle.std.specs.Prelude.{◌≡◌, ℕ, List, [], ◌∷◌, ◌++◌, Option}
use Rattle.std.specs.Io.KnownBytes.{Appends}
use Rattle.capture.specs.Begun.{IsCut}
use Rattle.lines.specs.declared.totals.Totals.{Totals}
use Rattle.lines.specs.Counted.{after}
use Rattle.lines.specs.Listings.{listing}

-- of a line that was begun and a piece behind it, the lines that end are listed and counted
pub record IsListed (begun piece left : List ℕ) (t u : Totals)
    (was is : Option (List ℕ)) : Type 0 where
  pub lines : List (List ℕ)
  pub appends : Appends was is (listing t.lines lines)
  pub counted : u ≡ after lines t
  pub cut : IsCut begun piece lines left

-- Where the writer fails, the lines up to one that ends in the piece are counted, and nothing of
-- what stands behind that line is begun.
pub record IsStopped (begun piece left : List ℕ) (t u : Totals) : Type 0 where
  pub listed : List (List ℕ)
  pub line : List ℕ
  pub behind : List ℕ
  pub none : left ≡ []
  pub counted : u ≡ after (listed ++ (line ∷ [])) t
  pub cut : IsCut begun piece (listed ++ (line ∷ [])) behind
