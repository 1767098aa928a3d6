-- The call that a line makes. A question is a question mark and a verb, and after it as many words
-- as the verb takes.
use Rattle.std.specs.Prelude.{ℕ, cond, List, [], ◌∷◌, Some, None, codes, Option, ◌==◌, nat_le, option_map}
use Rattle.std.specs.Str.{bytes_eq}
use Rattle.messages.specs.declared.code.Side.{Side}
use Rattle.words.specs.Numbers.{one_of}
use Rattle.words.specs.Words.{words, bare, lone}
use Rattle.keys.specs.Keys.{id_of, symbol_of, side_of}
use Rattle.day_rules.specs.declared.question.Question.{Question}
use Rattle.day_rules.specs.declared.question.Question.TheVariants as question
use Rattle.day_rules.specs.Calls.{Call, held_back}
use Rattle.day_rules.specs.Calls as calls
use Rattle.day_rules.specs.Places.{most_rows}
use Rattle.ledger_calls.specs.declared.verb.Verb.{Verb}
use Rattle.ledger_calls.specs.declared.verb.Verb.TheVariants.{Order, Execution, Row, From, Rows, Book, Market, Accepted}

abbrev pub verb_meant : List ℕ → Option Verb
verb_meant w =
    cond (bytes_eq w (codes "order")) (Some Order)
    (cond (bytes_eq w (codes "execution")) (Some Execution)
    (cond (bytes_eq w (codes "row")) (Some Row)
    (cond (bytes_eq w (codes "from")) (Some From)
    (cond (bytes_eq w (codes "rows")) (Some Rows)
    (cond (bytes_eq w (codes "book")) (Some Book)
    (cond (bytes_eq w (codes "market")) (Some Market)
    (cond (bytes_eq w (codes "accepted")) (Some Accepted) None)))))))

-- what a word is read as
abbrev pub read_by : {X : Type 0} → (List ℕ → Option X) → Option (List ℕ) → Option X
read_by reads None = None
read_by reads (Some w) = reads w

-- one word
abbrev pub key_of : {X : Type 0} → (List ℕ → Option X) → List (List ℕ) → Option X
key_of reads ws = read_by reads (lone ws)

-- a number of rows that a reply has places for
abbrev pub rows_asked : Option ℕ → Option Question
rows_asked None = None
rows_asked (Some n) = cond (nat_le n most_rows) (Some (question.Rows n)) None

abbrev pub book_asked : Option ℕ → Option Side → Option Question
book_asked None side = None
book_asked (Some symbol) None = None
book_asked (Some symbol) (Some side) = Some (question.Book symbol side)

-- a symbol and a side
abbrev pub book_of : List (List ℕ) → Option Question
book_of [] = None
book_of (w ∷ ws) = book_asked (symbol_of w) (key_of side_of ws)

abbrev pub verb_asks : Option Verb → List (List ℕ) → Option Question
verb_asks None ws = None
verb_asks (Some Order) ws = option_map question.Order (key_of id_of ws)
verb_asks (Some Execution) ws = option_map question.Execution (key_of id_of ws)
verb_asks (Some Row) ws = option_map question.Row (key_of symbol_of ws)
verb_asks (Some From) ws = option_map question.RowFrom (key_of symbol_of ws)
verb_asks (Some Rows) ws = rows_asked (one_of ws)
verb_asks (Some Book) ws = book_of ws
verb_asks (Some Market) ws = bare question.Market ws
verb_asks (Some Accepted) ws = bare question.Accepted ws

abbrev pub words_ask : List (List ℕ) → Option Question
words_ask [] = None
words_ask (w ∷ ws) = verb_asks (verb_meant w) ws

-- what is asked behind a question mark
abbrev pub question_of : List ℕ → Option Question
question_of text = words_ask (words text)

-- the text behind a question mark
abbrev pub asked_by : List ℕ → Option (List ℕ)
asked_by [] = None
asked_by (x ∷ xs) = cond (x == 63) (Some xs) None

-- a line without a question mark is put to the ledger; a text that is no question makes no call
abbrev pub call_by : (line : List ℕ) → Option (List ℕ) → Option Call
call_by line None = Some (calls.line line)
call_by line (Some text) = option_map (λ q. calls.question (held_back q)) (question_of text)

abbrev pub call_made : (line : List ℕ) → Option Call
call_made line = call_by line (asked_by line)
