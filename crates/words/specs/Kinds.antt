-- The kinds of stores, and the words that name them.
use Rattle.std.specs.Prelude.{ℕ, cond, List, Some, None, codes, Option}
use Rattle.std.specs.Str.{bytes_eq}
use Rattle.words.specs.declared.kind.Kind.{Kind}
use Rattle.words.specs.declared.kind.Kind.TheVariants.{Row, Hashed, Spread}

abbrev pub kind_meant : List ℕ → Option Kind
kind_meant w =
    cond (bytes_eq w (codes "row")) (Some Row)
    (cond (bytes_eq w (codes "hashed")) (Some Hashed)
    (cond (bytes_eq w (codes "spread")) (Some Spread) None))
