-- How a mistake in a command line is told.
use Rattle.std.specs.Prelude.{ℕ, List, ◌++◌, codes}
use Rattle.options.specs.declared.mistake.Mistake.{Mistake}
use Rattle.options.specs.declared.mistake.Mistake.TheVariants.{Unknown, SecondFile, Value, Missing}
use Rattle.options.specs.declared.setting.Setting.{Setting}
use Rattle.options.specs.declared.setting.Setting.TheVariants.{Store, Orders, Executions, Symbols, DayLimit, Book}
use Rattle.words.specs.Quotes.{quoted_text}

abbrev pub setting_word : Setting → List ℕ
setting_word Store = codes "--store"
setting_word Orders = codes "--orders"
setting_word Executions = codes "--executions"
setting_word Symbols = codes "--symbols"
setting_word DayLimit = codes "--day-limit"
setting_word Book = codes "--book"

-- what it can be set to
abbrev pub wanted : Setting → List ℕ
wanted Store = codes "row, hashed or spread"
wanted Book = codes "a symbol of one to eight visible ASCII characters"
wanted setting = codes "a number below 2^64"

abbrev pub complaint_text : (word : List ℕ) → Mistake → List ℕ
complaint_text word Unknown = codes "there is no option " ++ quoted_text word
complaint_text word SecondFile = codes "a second file, " ++ quoted_text word
complaint_text word (Value setting) = setting_word setting ++ (codes " takes " ++ (wanted setting ++ (codes ", not " ++ quoted_text word)))
complaint_text word (Missing setting) = setting_word setting ++ (codes " takes " ++ (wanted setting ++ codes ", and nothing follows it"))
