-- What the program prints.
use Rattle.std.specs.Prelude.{ℕ, Bool, cond, List, [], ◌∷◌, ◌++◌, Some, None, Option, option_map}
use Rattle.capture.specs.Counts.{more}
use Rattle.records.specs.declared.order.Order.{Order}
use Rattle.store.specs.Models.{Model}
use Rattle.front_row.specs.Fronts.{cleared}
use Rattle.calls.specs.declared.call.Opening.{Opening}
use Rattle.calls.specs.declared.call.Request.{Request}
use Rattle.calls.specs.declared.call.Request.TheVariants.{Open, Ask}
use Rattle.calls.specs.declared.reply.Reply.{Reply}
use Rattle.calls.specs.declared.reply.Reply.TheVariants.{Opened, Unknown}
use Rattle.calls.specs.Replies.{Stored, reply_to, stored_after}
use Rattle.calls.specs.Requests.{request_of}
use Rattle.calls.specs.Texts.{numbered_text}

-- a reply behind the number of its line, on a line of its own
abbrev pub reply_line : (number : ℕ) → Reply → List ℕ
reply_line number reply = numbered_text number reply ++ 10 ∷ []

-- with a front before it, in which nothing stands, or none
abbrev pub stored_over : (front : Bool) → Model Order → Stored
stored_over front m = record { model = m; front = cond front (Some cleared) None }

-- a store that was just opened is empty
abbrev pub opened : Opening → Stored
opened o = stored_over o.front (record { rows = []; limit = o.limit })

-- what is answered to a line, where this is open; one that asks for nothing is unknown
abbrev pub said_to : Option Request → Option Stored → Reply
said_to None s = Unknown
said_to (Some (Open o)) s = Opened o.limit
said_to (Some (Ask call)) s = reply_to call s

-- what is open after it
abbrev pub left_by : Option Request → Option Stored → Option Stored
left_by None s = s
left_by (Some (Open o)) s = Some (opened o)
left_by (Some (Ask call)) s = option_map (stored_after call) s

-- what is said to lines one after the other, where so many came before
abbrev pub said_on : ℕ → Option Stored → List (List ℕ) → List ℕ
said_on n s [] = []
said_on n s (line ∷ lines) = reply_line (more n) (said_to (request_of line) s) ++ said_on (more n) (left_by (request_of line) s) lines

-- all that is printed: at first no store is open
abbrev pub run_text : List (List ℕ) → List ℕ
run_text lines = said_on 0 None lines

-- of a line that asks for this, and the lines after it
abbrev pub line_text : Option Request → ℕ → Option Stored → List (List ℕ) → List ℕ
line_text request n s lines = reply_line (more n) (said_to request s) ++ said_on (more n) (left_by request s) lines

-- of the opening of a store, and the lines after it
abbrev pub begun_text : ℕ → Stored → List (List ℕ) → List ℕ
begun_text n s lines = reply_line (more n) (Opened s.model.limit) ++ said_on (more n) (Some s) lines

-- of the store that a line opened, or nothing at the end of the input
abbrev pub opening_text : Option Opening → ℕ → List (List ℕ) → List ℕ
opening_text None n lines = []
opening_text (Some o) n lines = begun_text n (opened o) lines

-- of the store that a line opened, or else of this one
abbrev pub going_on : Option Opening → ℕ → Option Stored → List (List ℕ) → List ℕ
going_on None n s lines = said_on n s lines
going_on (Some o) n s lines = opening_text (Some o) n lines
