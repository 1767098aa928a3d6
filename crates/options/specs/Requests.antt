-- What a command line asks for.
use Rattle.std.specs.Prelude.{ℕ, ◌+◌, true, false, List, [], ◌∷◌, Some, None, Ok, Err, Option, Result}
use Rattle.words.specs.declared.kind.Kind.TheVariants.{Hashed}
use Rattle.words.specs.Kinds.{kind_meant}
use Rattle.words.specs.Numbers.{number_of}
use Rattle.keys.specs.Keys.{symbol_of}
use Rattle.options.specs.declared.meaning.Meaning.{Meaning}
use Rattle.options.specs.declared.meaning.Meaning.TheVariants.{Front, Answers, Quiet, Help, Sets, Unknown, File}
use Rattle.options.specs.declared.mistake.Mistake.{Mistake}
use Rattle.options.specs.declared.mistake.Mistake.TheVariants as mistake
use Rattle.options.specs.declared.mistake.Wrong.{Wrong}
use Rattle.options.specs.declared.options.Options.{Options}
use Rattle.options.specs.declared.options.Room.{Room}
use Rattle.options.specs.declared.options.Shown.{Shown}
use Rattle.options.specs.declared.options.Stores.{Stores}
use Rattle.options.specs.declared.request.Request.{Request}
use Rattle.options.specs.declared.request.Reading.{Reading}
use Rattle.options.specs.declared.setting.Setting.{Setting}
use Rattle.options.specs.declared.setting.Setting.TheVariants.{Store, Orders, Executions, Symbols, DayLimit, Book}
use Rattle.options.specs.Words.{word_meant}

-- where nothing is said: hashed stores with room for 1,048,576 orders, 4,194,304 executions and
-- 16,384 symbols, the greatest day limit, and the report alone
abbrev pub defaults : Options
defaults = record {
  stores = record { kind = Hashed; front = false };
  room = record { orders = 1048576; executions = 4194304; symbols = 16384; day_limit = 1000000000 };
  shown = record { answers = false; book = None; quiet = false; help = false };
}

abbrev pub nothing_read : Reading
nothing_read = record { request = record { options = defaults; file = None }; awaiting = None }

-- One option set, the others as they were.

abbrev pub with_stores : Stores → Options → Options
with_stores s o = record o { stores = s }

abbrev pub with_shown : Shown → Options → Options
with_shown s o = record o { shown = s }

abbrev pub with_limit : Setting → ℕ → Room → Room
with_limit Orders n r = record r { orders = n }
with_limit Executions n r = record r { executions = n }
with_limit Symbols n r = record r { symbols = n }
with_limit DayLimit n r = record r { day_limit = n }
with_limit Store n r = r
with_limit Book n r = r

-- what an option's word stands for, if it stands for anything
abbrev pub valued_by : {X : Type 0} → Setting → Option X → (X → Options) → Result Options Mistake
valued_by s None change = Err (mistake.Value s)
valued_by s (Some x) change = Ok (change x)

abbrev pub limit_set : Setting → List ℕ → Options → Result Options Mistake
limit_set s w o = valued_by s (number_of w) (λ n. record o { room = with_limit s n o.room })

abbrev pub set_to : Setting → List ℕ → Options → Result Options Mistake
set_to Store w o = valued_by Store (kind_meant w) (λ kind. with_stores (record o.stores { kind = kind }) o)
set_to Book w o = valued_by Book (symbol_of w) (λ n. with_shown (record o.shown { book = Some n }) o)
set_to Orders w o = limit_set Orders w o
set_to Executions w o = limit_set Executions w o
set_to Symbols w o = limit_set Symbols w o
set_to DayLimit w o = limit_set DayLimit w o

-- with other options, and no word awaited
abbrev pub with_options : Reading → Options → Reading
with_options r o = record { request = record r.request { options = o }; awaiting = None }

abbrev pub stored : Stores → Reading → Reading
stored s r = with_options r (with_stores s r.request.options)

abbrev pub showing : Shown → Reading → Reading
showing s r = with_options r (with_shown s r.request.options)

-- a file, unless one was named before
abbrev pub file_named : (place : ℕ) → Option ℕ → Options → Result Reading Mistake
file_named place (Some other) o = Err mistake.SecondFile
file_named place None o = Ok (record { request = record { options = o; file = Some place }; awaiting = None })

-- a word that sets nothing before it
abbrev pub word_read : (place : ℕ) → Meaning → Reading → Result Reading Mistake
word_read place Front r = Ok (stored (record r.request.options.stores { front = true }) r)
word_read place Answers r = Ok (showing (record r.request.options.shown { answers = true }) r)
word_read place Quiet r = Ok (showing (record r.request.options.shown { quiet = true }) r)
word_read place Help r = Ok (showing (record r.request.options.shown { help = true }) r)
word_read place (Sets setting) r = Ok (record r { awaiting = Some setting })
word_read place Unknown r = Err mistake.Unknown
word_read place File r = file_named place r.request.file r.request.options

abbrev pub value_read : Reading → Result Options Mistake → Result Reading Mistake
value_read r (Ok o) = Ok (with_options r o)
value_read r (Err m) = Err m

-- one word more
abbrev pub awaited_read : (place : ℕ) → List ℕ → Option Setting → Reading → Result Reading Mistake
awaited_read place w (Some s) r = value_read r (set_to s w r.request.options)
awaited_read place w None r = word_read place (word_meant w) r

abbrev pub one_read : (place : ℕ) → List ℕ → Reading → Result Reading Mistake
one_read place w r = awaited_read place w r.awaiting r

-- no word more: the option that awaits one lacks it
abbrev pub end_read : (place : ℕ) → Option Setting → Request → Result Request Wrong
end_read place (Some s) request = Err (record { place = place; mistake = mistake.Missing s })
end_read place None request = Ok request

abbrev pub read_to_end : (place : ℕ) → Reading → Result Request Wrong
read_to_end place r = end_read place r.awaiting r.request

-- what comes after a word that is no mistake
abbrev pub unless_wrong : (place : ℕ) → Result Reading Mistake → (Reading → Result Request Wrong) → Result Request Wrong
unless_wrong place (Ok r) after = after r
unless_wrong place (Err m) after = Err (record { place = place; mistake = m })

-- the words from a place on; the first mistake ends it
unfoldable pub words_read : (place : ℕ) → List (List ℕ) → Reading → Result Request Wrong
words_read place [] r = read_to_end place r
words_read place (w ∷ ws) r = unless_wrong place (one_read place w r) (λ next. words_read (place + 1) ws next)

-- what a command line asks for, or its first mistake
abbrev pub request_of : List (List ℕ) → Result Request Wrong
request_of words = words_read 0 words nothing_read
