-- What is printed for command lines and a day.
use Rattle.std.specs.Prelude.{ℕ, cond, List, [], ◌∷◌, ◌++◌, Ok, Err, Result, codes, slice_get, unwrap_or}
use Rattle.std.specs.Str.{bytes_eq}
use Rattle.options.specs.declared.mistake.Mistake.{Mistake}
use Rattle.options.specs.declared.mistake.Wrong.{Wrong}
use Rattle.options.specs.declared.request.Request.{Request}
use Rattle.options.specs.Complaints.{complaint_text}
use Rattle.options.specs.Requests.{request_of}
use Rattle.replaying.specs.Texts.{replay_text}
use Rattle.words.specs.Words.{words}

-- the word at a place, none where there is no word
abbrev pub word_at : List (List ℕ) → ℕ → List ℕ
word_at ws place = unwrap_or (slice_get ws place) []

abbrev pub wrong_text : (word : List ℕ) → Mistake → List ℕ
wrong_text word mistake =
    codes "(wrong: " ++ (complaint_text word mistake ++ (codes ")" ++ (10 ∷ [])))

-- the usage, or the report of the day
abbrev pub request_text : (usage day : List ℕ) → Request → List ℕ
request_text usage day request =
    cond request.options.shown.help usage (replay_text request.options day)

abbrev pub asked_text : (usage day : List ℕ) (ws : List (List ℕ)) → Result Request Wrong → List ℕ
asked_text usage day ws (Ok request) = request_text usage day request
asked_text usage day ws (Err wrong) = wrong_text (word_at ws wrong.place) wrong.mistake

-- what a command line prints for a day: what it asks for, or its first mistake
abbrev pub command_text : (usage day command : List ℕ) → List ℕ
command_text usage day command = asked_text usage day (words command) (request_of (words command))

-- what was shown before is not shown again
abbrev pub shown_text : (last shown : List ℕ) → List ℕ
shown_text last shown = cond (bytes_eq shown last) (codes "(the same)" ++ (10 ∷ [])) shown

-- a command line, and what it prints
abbrev pub case_text : (usage last day command : List ℕ) → List ℕ
case_text usage last day command =
    codes "replay " ++ (command ++ ((10 ∷ []) ++ shown_text last (command_text usage day command)))

-- each of them
abbrev pub cases_text : (usage last day : List ℕ) → List (List ℕ) → List ℕ
cases_text usage last day [] = []
cases_text usage last day (command ∷ commands) =
    case_text usage last day command
    ++ cases_text usage (command_text usage day command) day commands
