-- Why nothing is replayed, or no more, as it is told.
use Rattle.std.specs.Prelude.{◌≡◌, ℕ, ◌⊎◌, List, [], ◌++◌, Some, None, Option, Ok, Err, Result, codes, slice_get}
use Rattle.std.specs.IoError.{error_kind}
use Rattle.std.specs.declared.io.ErrorKind.TheVariants.{OutOfMemory}
use Rattle.std.specs.Global.{Vec}
use Rattle.options.specs.declared.mistake.Mistake.{Mistake}
use Rattle.options.specs.declared.mistake.Wrong.{Wrong}
use Rattle.options.specs.declared.request.Request.{Request}
use Rattle.options.specs.Complaints.{complaint_text}
use Rattle.words.specs.Quotes.{quoted_text}
use Rattle.replay.specs.declared.failure.Failure.{Failure}
use Rattle.replay.specs.declared.failure.Failure.TheVariants.{Command, Name, File, Other}

-- the text of a failure; what errors of the system say is not known
abbrev pub failure_text : Failure → Option (List ℕ)
failure_text (Command c) = Some (complaint_text c.word.now c.mistake ++ codes " (--help shows the usage)")
failure_text (Name name) = Some (codes "a file's name has to be UTF-8, and " ++ (quoted_text name.now ++ codes " is not"))
failure_text (File name e) = None
failure_text (Other e) = None

-- it complains of a word and a mistake
abbrev pub Complains : Failure → (word : List ℕ) → Mistake → Type 0
Complains (Command c) word mistake = (c.word.now ≡ word) × (c.mistake ≡ mistake)
Complains (Name name) word mistake = ⊥
Complains (File name e) word mistake = ⊥
Complains (Other e) word mistake = ⊥

-- it tells of something else than the command line
abbrev pub IsOtherwise : Failure → Type 0
IsOtherwise (Command c) = ⊥
IsOtherwise (Name name) = Unit {0}
IsOtherwise (File name e) = Unit {0}
IsOtherwise (Other e) = Unit {0}

-- the memory fails
abbrev pub IsMemory : Failure → Type 0
IsMemory (Command c) = ⊥
IsMemory (Name name) = ⊥
IsMemory (File name e) = ⊥
IsMemory (Other e) = error_kind e ≡ OutOfMemory

-- the bytes of a word, none where there is no word
abbrev pub word_of : Option (Vec ℕ) → List ℕ
word_of None = []
word_of (Some word) = word.items

abbrev pub word_at : List (Vec ℕ) → ℕ → List ℕ
word_at words place = word_of (slice_get words place)

-- of wrong words the first mistake is told, where the memory does not fail before, and of right
-- words no mistake
abbrev pub Told : Result Request Wrong → (words : List (Vec ℕ)) → Result (Unit {0}) Failure → Type 0
Told (Ok request) words (Ok u) = Unit {0}
Told (Ok request) words (Err failure) = IsOtherwise failure
Told (Err wrong) words (Ok u) = ⊥
Told (Err wrong) words (Err failure) =
    Complains failure (word_at words wrong.place) wrong.mistake ⊎ IsMemory failure
