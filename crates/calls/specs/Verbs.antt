-- The words of the calls.
use Rattle.std.specs.Prelude.{ℕ, cond, List, Some, None, codes, Option}
use Rattle.std.specs.Str.{bytes_eq}
use Rattle.calls.specs.declared.verb.Verb.{Verb}
use Rattle.calls.specs.declared.verb.Verb.TheVariants.{Store, Insert, Find, From, Replace, Remove, Stands, Count, Limit, Empty}

abbrev pub verb_meant : List ℕ → Option Verb
verb_meant w =
    cond (bytes_eq w (codes "store")) (Some Store)
    (cond (bytes_eq w (codes "insert")) (Some Insert)
    (cond (bytes_eq w (codes "find")) (Some Find)
    (cond (bytes_eq w (codes "from")) (Some From)
    (cond (bytes_eq w (codes "replace")) (Some Replace)
    (cond (bytes_eq w (codes "remove")) (Some Remove)
    (cond (bytes_eq w (codes "stands")) (Some Stands)
    (cond (bytes_eq w (codes "count")) (Some Count)
    (cond (bytes_eq w (codes "limit")) (Some Limit)
    (cond (bytes_eq w (codes "empty")) (Some Empty) None)))))))))
