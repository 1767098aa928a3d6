-- What a command line says of each option that a word follows, and where it is wrong.
use Rattle.std.specs.Prelude.{◌≡◌, ℕ, ◌+◌, ◌<◌, ◌≤◌, Bool, true, false, cond, List, [], ◌∷◌, ◌++◌, length, take, drop, Some, None, Ok, Err, Option, option_map, option_to_list}
use Rattle.words.specs.Kinds.{kind_meant}
use Rattle.words.specs.Numbers.{number_of}
use Rattle.keys.specs.Keys.{symbol_of}
use Rattle.options.specs.declared.meaning.Meaning.{Meaning}
use Rattle.options.specs.declared.meaning.Meaning.TheVariants.{Front, Answers, Quiet, Help, Sets, Unknown, File}
use Rattle.options.specs.declared.mistake.Mistake.{Mistake}
use Rattle.options.specs.declared.mistake.Mistake.TheVariants as mistake
use Rattle.options.specs.declared.mistake.Mistake.TheVariants.{SecondFile, Value, Missing}
use Rattle.options.specs.declared.mistake.Wrong.{Wrong}
use Rattle.options.specs.declared.request.Request.{Request}
use Rattle.options.specs.declared.setting.Setting.{Setting}
use Rattle.options.specs.declared.setting.Setting.TheVariants.{Store, Orders, Executions, Symbols, DayLimit, Book}
use Rattle.options.specs.Requests.{defaults, request_of}
use Rattle.options.specs.Words.{word_meant}

-- the option that the next word sets
abbrev pub awaited_by : Meaning → Option Setting
awaited_by (Sets setting) = Some setting
awaited_by meaning = None

-- each option that a word follows, with that word, where the first word may be awaited
abbrev pub settings_from : Option Setting → List (List ℕ) → List (Setting × List ℕ)
settings_from awaiting [] = []
settings_from (Some setting) (w ∷ ws) = (setting, w) ∷ settings_from None ws
settings_from None (w ∷ ws) = settings_from (awaited_by (word_meant w)) ws

abbrev pub settings_of : List (List ℕ) → List (Setting × List ℕ)
settings_of words = settings_from None words

abbrev pub is_same : Setting → Setting → Bool
is_same Store Store = true
is_same Orders Orders = true
is_same Executions Executions = true
is_same Symbols Symbols = true
is_same DayLimit DayLimit = true
is_same Book Book = true
is_same setting other = false

-- the word that the last of them gives the option, and else this one
abbrev pub last_or : Setting → Option (List ℕ) → List (Setting × List ℕ) → Option (List ℕ)
last_or setting word [] = word
last_or setting word ((other, w) ∷ given) =
    last_or setting (cond (is_same other setting) (Some w) word) given

abbrev pub last_word : Setting → List (Setting × List ℕ) → Option (List ℕ)
last_word setting given = last_or setting None given

-- what stands is what the word means, and without a word it is what stands where nothing is said
abbrev pub IsSaid : {X : Type 0}
    → (List ℕ → Option X) → (default : X) → Option (List ℕ) → X → Type 0
IsSaid meant default None x = x ≡ default
IsSaid meant default (Some w) x = meant w ≡ Some x

-- the book that a word asks for
abbrev pub book_meant : List ℕ → Option (Option ℕ)
book_meant w = option_map Some (symbol_of w)

-- the option that awaits the next word behind such words, where the first of them may be awaited
abbrev pub awaiting_from : Option Setting → List (List ℕ) → Option Setting
awaiting_from awaiting [] = awaiting
awaiting_from (Some setting) (w ∷ ws) = awaiting_from None ws
awaiting_from None (w ∷ ws) = awaiting_from (awaited_by (word_meant w)) ws

abbrev pub awaiting_after : List (List ℕ) → Option Setting
awaiting_after words = awaiting_from None words

-- two words that are the same flag, or a file each
abbrev pub is_alike : Meaning → Meaning → Bool
is_alike Front Front = true
is_alike Answers Answers = true
is_alike Quiet Quiet = true
is_alike Help Help = true
is_alike File File = true
is_alike meaning other = false

-- the places of the words of such a meaning that no option awaits, the first word's place given
abbrev pub places_from : Meaning → (place : ℕ) → Option Setting → List (List ℕ) → List ℕ
places_from meaning place awaiting [] = []
places_from meaning place (Some setting) (w ∷ ws) = places_from meaning (place + 1) None ws
places_from meaning place None (w ∷ ws) =
    let others = places_from meaning (place + 1) (awaited_by (word_meant w)) ws in
    cond (is_alike meaning (word_meant w)) (place ∷ others) others

abbrev pub places_of : Meaning → List (List ℕ) → List ℕ
places_of meaning words = places_from meaning 0 None words

abbrev pub is_any : List ℕ → Bool
is_any [] = false
is_any (place ∷ places) = true

-- a flag's word stands somewhere
abbrev pub is_given : Meaning → List (List ℕ) → Bool
is_given flag words = is_any (places_of flag words)

-- The last of two settings of one option is the one that counts, and an option that is not set
-- stands as where nothing is said. A flag is set just where its word stands, and the file is the
-- one word that names one.
pub record HasLast (words : List (List ℕ)) (request : Request) : Type 0 where
  pub store :
      IsSaid kind_meant defaults.stores.kind (last_word Store (settings_of words))
      request.options.stores.kind
  pub orders :
      IsSaid number_of defaults.room.orders (last_word Orders (settings_of words))
      request.options.room.orders
  pub executions :
      IsSaid number_of defaults.room.executions (last_word Executions (settings_of words))
      request.options.room.executions
  pub symbols :
      IsSaid number_of defaults.room.symbols (last_word Symbols (settings_of words))
      request.options.room.symbols
  pub day_limit :
      IsSaid number_of defaults.room.day_limit (last_word DayLimit (settings_of words))
      request.options.room.day_limit
  pub book :
      IsSaid book_meant defaults.shown.book (last_word Book (settings_of words))
      request.options.shown.book
  pub front : request.options.stores.front ≡ is_given Front words
  pub answers : request.options.shown.answers ≡ is_given Answers words
  pub quiet : request.options.shown.quiet ≡ is_given Quiet words
  pub help : request.options.shown.help ≡ is_given Help words
  pub file : option_to_list request.file ≡ places_of File words

-- an option cannot be set to the word
abbrev pub IsNoValue : Setting → List ℕ → Type 0
IsNoValue Store w = kind_meant w ≡ None
IsNoValue Book w = symbol_of w ≡ None
IsNoValue Orders w = number_of w ≡ None
IsNoValue Executions w = number_of w ≡ None
IsNoValue Symbols w = number_of w ≡ None
IsNoValue DayLimit w = number_of w ≡ None

-- What is wrong with the first of some words, or with there being none: behind words after which
-- an option may await one, and which name files at such places.
abbrev pub IsWrong : Option Setting → (files : List ℕ) → List (List ℕ) → Mistake → Type 0
IsWrong awaiting files [] (Missing s) = awaiting ≡ Some s
IsWrong awaiting files (w ∷ ws) mistake.Unknown = (awaiting ≡ None) × (word_meant w ≡ Unknown)
IsWrong awaiting files (w ∷ ws) SecondFile =
    (awaiting ≡ None) × (word_meant w ≡ File) × (first : ℕ) × (files ≡ first ∷ [])
IsWrong awaiting files (w ∷ ws) (Value s) = (awaiting ≡ Some s) × IsNoValue s w
IsWrong awaiting files words other = ⊥

-- The mistake that is told is the first: no words behind its word mend it, and the words before it,
-- with the one word behind them that an option may await, make no mistake.
pub record IsFirstMistake (words : List (List ℕ)) (wrong : Wrong) : Type 0 where
  pub inside : wrong.place ≤ length words
  pub mistake :
      IsWrong (awaiting_after (take wrong.place words)) (places_of File (take wrong.place words))
      (drop wrong.place words) wrong.mistake
  pub here : wrong.place < length words
      → (after : List (List ℕ)) → request_of (take (wrong.place + 1) words ++ after) ≡ Err wrong
  pub before : (awaited : List (List ℕ)) × (length awaited ≤ 1) × (request : Request)
      × (request_of (take wrong.place words ++ awaited) ≡ Ok request)
