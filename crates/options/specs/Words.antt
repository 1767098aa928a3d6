-- What a word of a command line means by itself.
use Rattle.std.specs.Prelude.{ℕ, cond, List, [], ◌∷◌, codes, ◌==◌}
use Rattle.std.specs.Str.{bytes_eq}
use Rattle.options.specs.declared.meaning.Meaning.{Meaning}
use Rattle.options.specs.declared.meaning.Meaning.TheVariants.{Front, Answers, Quiet, Help, Sets, Unknown, File}
use Rattle.options.specs.declared.setting.Setting.TheVariants.{Store, Orders, Executions, Symbols, DayLimit, Book}

-- the name of an option
abbrev pub name_meant : List ℕ → Meaning
name_meant w =
    cond (bytes_eq w (codes "front")) Front
    (cond (bytes_eq w (codes "answers")) Answers
    (cond (bytes_eq w (codes "quiet")) Quiet
    (cond (bytes_eq w (codes "help")) Help
    (cond (bytes_eq w (codes "store")) (Sets Store)
    (cond (bytes_eq w (codes "orders")) (Sets Orders)
    (cond (bytes_eq w (codes "executions")) (Sets Executions)
    (cond (bytes_eq w (codes "symbols")) (Sets Symbols)
    (cond (bytes_eq w (codes "day-limit")) (Sets DayLimit)
    (cond (bytes_eq w (codes "book")) (Sets Book) Unknown)))))))))

-- behind one hyphen: the name stands behind a second one
abbrev pub hyphened : List ℕ → Meaning
hyphened [] = Unknown
hyphened (x ∷ name) = cond (x == 45) (name_meant name) Unknown

-- an option begins with a hyphen, and a file does not
abbrev pub word_meant : List ℕ → Meaning
word_meant [] = File
word_meant (x ∷ word) = cond (x == 45) (hyphened word) File
