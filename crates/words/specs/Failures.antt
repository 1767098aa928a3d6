-- Why a program that takes no words fails.
use Rattle.std.specs.Prelude.{ℕ, List, [], ◌∷◌, ◌++◌, Some, None, codes, Option}
use Rattle.std.specs.Global.{Vec}
use Rattle.words.specs.declared.program.Failure.{Failure}
use Rattle.words.specs.declared.program.Failure.TheVariants.{Word, Other}
use Rattle.words.specs.Quotes.{quoted_text}

-- of another error, its own text
abbrev pub failure_text : Failure → Option (List ℕ)
failure_text (Word w) = Some (codes "it takes no words, and " ++ (quoted_text w.items ++ codes " was given"))
failure_text (Other e) = None

-- why words are refused where none is taken
abbrev pub refusal : List (Vec ℕ) → Option Failure
refusal [] = None
refusal (w ∷ ws) = Some (Word w)
