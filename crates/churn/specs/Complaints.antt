-- What is wrong with the words, and why else nothing is run, or no more.
use Rattle.std.specs.Prelude.{◌≡◌, ℕ, List, ◌++◌, Some, None, Option, Ok, Err, Result, codes}
use Rattle.words.specs.Quotes.{quoted_text}
use Rattle.churn.specs.declared.mistake.Mistake.{Mistake}
use Rattle.churn.specs.declared.mistake.Mistake.TheVariants.{Count, Store, Load, Size, Last}
use Rattle.churn.specs.declared.mistake.Failure.{Failure}
use Rattle.churn.specs.declared.mistake.Failure.TheVariants.{Words, Other}

abbrev pub count_text : List ℕ
count_text = codes "the words are STORE LOAD SLOTS LIVE PAIRS [time]"

abbrev pub store_text : (word : List ℕ) → List ℕ
store_text word =
    codes "a store is row, hashed, spread, front-row, front-hashed, front-spread or all, not "
    ++ quoted_text word

abbrev pub load_text : (word : List ℕ) → List ℕ
load_text word = codes "a load is gaps, queue, rising, scattered or all, not " ++ quoted_text word

abbrev pub size_text : (word : List ℕ) → List ℕ
size_text word = codes "a size is a number below 2^64, not " ++ quoted_text word

abbrev pub last_text : (word : List ℕ) → List ℕ
last_text word = codes "the last word is time or none, not " ++ quoted_text word

abbrev pub mistake_text : Mistake → List ℕ
mistake_text Count = count_text
mistake_text (Store word) = store_text word.now
mistake_text (Load word) = load_text word.now
mistake_text (Size word) = size_text word.now
mistake_text (Last word) = last_text word.now

-- of another error, its own text
abbrev pub failure_text : Failure → Option (List ℕ)
failure_text (Words mistake) = Some (mistake_text mistake)
failure_text (Other error) = None

-- it fails with that text, or by another error
abbrev pub FailsWith : {X : Type 0} → (text : List ℕ) → Result X Failure → Type 0
FailsWith text (Ok x) = ⊥
FailsWith text (Err (Words mistake)) = mistake_text mistake ≡ text
FailsWith text (Err (Other error)) = Unit {0}
