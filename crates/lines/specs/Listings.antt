-- What is printed of the lines of an input.
use Rattle.std.specs.Prelude.{ℕ, Bool, false, not, List, [], ◌∷◌, ◌++◌, Ok, Err, Result, codes, decimal, length, count_by, is_ok}
use Rattle.std.specs.Str.{bytes_eq}
use Rattle.messages.specs.declared.fault.MessageFault.{MessageFault}
use Rattle.messages.specs.declared.message.Message.{Message}
use Rattle.messages.specs.Lines.{written}
use Rattle.messages.specs.Telling.{line_message}
use Rattle.capture.specs.Counts.{at_most, more}
use Rattle.capture.specs.Lines.{lines_of}
use Rattle.forms.specs.Messages.{message_text}
use Rattle.forms.specs.Texts.{fault_text}

-- the message that a line is, or why it is none
abbrev pub form_of : Result Message MessageFault → List ℕ
form_of (Ok message) = message_text message
form_of (Err fault) = fault_text fault

-- a form behind the number of its line
abbrev pub numbered : (number : ℕ) (form : List ℕ) → List ℕ
numbered number form =
    codes "(line " ++ (decimal number ++ (codes " " ++ (form ++ (codes ")" ++ (10 ∷ [])))))

-- each line's number with its message or refusal, where so many lines came before
abbrev pub listing : ℕ → List (List ℕ) → List ℕ
listing n [] = []
listing n (line ∷ lines) =
    numbered (more n) (form_of (line_message line)) ++ listing (more n) lines

-- the line is a message
abbrev pub is_read : List ℕ → Bool
is_read line = is_ok (line_message line)

-- it is refused
abbrev pub is_refused : List ℕ → Bool
is_refused line = not (is_read line)

-- what was read, written again, is the line
abbrev pub gives_back : List ℕ → Result Message MessageFault → Bool
gives_back line (Ok message) = bytes_eq (written message) line
gives_back line (Err fault) = false

-- it is a message, and that message, written, is that very line
abbrev pub is_rewritten : List ℕ → Bool
is_rewritten line = gives_back line (line_message line)

-- how many of the lines pass the test, as far as a count goes
abbrev pub times : (List ℕ → Bool) → List (List ℕ) → ℕ
times test lines = at_most (count_by test lines)

abbrev pub totals_text : (lines read refused rewritten : ℕ) → List ℕ
totals_text lines read refused rewritten =
    codes "(lines "
    ++ (decimal lines
    ++ (codes " (read "
    ++ (decimal read
    ++ (codes ") (refused "
    ++ (decimal refused ++ (codes ") (rewritten " ++ (decimal rewritten ++ codes "))")))))))

-- how many lines there are, and how many of them are read, refused, and rewritten
unfoldable pub totals_line : List (List ℕ) → List ℕ
totals_line lines =
    totals_text (at_most (length lines)) (times is_read lines) (times is_refused lines)
    (times is_rewritten lines)
    ++ (10 ∷ [])

-- all that the program prints
abbrev pub lines_text : List ℕ → List ℕ
lines_text bytes = listing 0 (lines_of bytes) ++ totals_line (lines_of bytes)
