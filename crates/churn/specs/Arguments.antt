-- What the words of a command line ask for, or what is said of the first that is wrong.
use Rattle.std.specs.Prelude.{◌≡◌, ℕ, Bool, true, false, cond, List, [], ◌∷◌, Some, None, Option, Ok, Err, Result, MatchResult, codes, option_map}
use Rattle.std.specs.Str.{bytes_eq}
use Rattle.options.specs.declared.options.Stores.{Stores}
use Rattle.words.specs.Numbers.{number_of}
use Rattle.churn.specs.declared.arguments.Arguments.{Arguments}
use Rattle.churn.specs.declared.arguments.Sizes.{Sizes}
use Rattle.churn.specs.declared.load.Load.{Load}
use Rattle.churn.specs.declared.mistake.Failure.{Failure}
use Rattle.churn.specs.declared.mistake.Mistake.{Mistake}
use Rattle.churn.specs.Complaints.{count_text, store_text, load_text, size_text, last_text, mistake_text, FailsWith}
use Rattle.churn.specs.Names.{store_meant, load_meant}

-- the one that is asked for, or all where none is
abbrev pub chosen : {X : Type 0} → Option X → List X → List X
chosen None xs = xs
chosen (Some x) xs = x ∷ []

-- none by name where the word is all
abbrev pub all_or : {X : Type 0} → (word : List ℕ) → Option X → Option (Option X)
all_or word one = cond (bytes_eq word (codes "all")) (Some None) (option_map Some one)

-- what a word means, or what is said of it
abbrev pub or_told : {X : Type 0} → Option X → (text : List ℕ) → Result X (List ℕ)
or_told None text = Err text
or_told (Some x) text = Ok x

-- what comes after words that are right
abbrev pub and_then : {X Y : Type 0} → Result X (List ℕ) → (X → Result Y (List ℕ))
    → Result Y (List ℕ)
and_then (Ok x) next = next x
and_then (Err text) next = Err text

unfoldable pub store_asked : List ℕ → Result (Option Stores) (List ℕ)
store_asked w = or_told (all_or w (store_meant w)) (store_text w)

unfoldable pub load_asked : List ℕ → Result (Option Load) (List ℕ)
load_asked w = or_told (all_or w (load_meant w)) (load_text w)

abbrev pub size_asked : List ℕ → Result ℕ (List ℕ)
size_asked w = or_told (number_of w) (size_text w)

unfoldable pub sizes_asked : (slots live pairs : List ℕ) → Result Sizes (List ℕ)
sizes_asked slots live pairs =
    and_then (size_asked slots) (λ slots.
    and_then (size_asked live) (λ live.
    and_then (size_asked pairs) (λ pairs.
    Ok (record { slots = slots; live = live; pairs = pairs }))))

-- whether times are asked for, by a word behind the others
abbrev pub timed_by : List (List ℕ) → Result Bool (List ℕ)
timed_by [] = Ok false
timed_by (w ∷ ws) = cond (bytes_eq w (codes "time")) (Ok true) (Err (last_text w))

abbrev pub asked_by : (store load slots live pairs : List ℕ) → (last : List (List ℕ))
    → Result Arguments (List ℕ)
asked_by store load slots live pairs last =
    and_then (store_asked store) (λ store.
    and_then (load_asked load) (λ load.
    and_then (sizes_asked slots live pairs) (λ sizes.
    and_then (timed_by last) (λ timed.
    Ok (record { store = store; load = load; sizes = sizes; timed = timed })))))

-- five words, or one more
abbrev pub arguments_of : List (List ℕ) → Result Arguments (List ℕ)
arguments_of (store ∷ (load ∷ (slots ∷ (live ∷ (pairs ∷ []))))) =
    asked_by store load slots live pairs []
arguments_of (store ∷ (load ∷ (slots ∷ (live ∷ (pairs ∷ (last ∷ [])))))) =
    asked_by store load slots live pairs (last ∷ [])
arguments_of words = Err count_text

-- it answers that, or a mistake of that text
abbrev pub Answers : {X : Type 0} → Result X (List ℕ) → Result X Mistake → Type 0
Answers told result =
    MatchResult result (λ x. told ≡ Ok x) (λ mistake. told ≡ Err (mistake_text mistake))

-- words that are wrong are told
abbrev pub Refuses : {X : Type 0} → Result Arguments (List ℕ) → Result X Failure → Type 0
Refuses (Ok asked) result = Unit {0}
Refuses (Err text) result = FailsWith text result
