-- How a day's answers, records and totals are shown.
use Rattle.std.specs.Prelude.{ℕ, Bool, true, false, List, [], ◌∷◌, ◌++◌, Some, None, Ok, Err, Option, codes, decimal, Result, encode_utf8}
use Rattle.messages.specs.Codes.{side_letter, display_letter}
use Rattle.forms.specs.Texts.{id_text, symbol_text, refused, refused_with, fault_text}
use Rattle.records.specs.declared.order.Order.{Order as OrderKept}
use Rattle.records.specs.declared.execution.Execution.{Execution as ExecutionKept}
use Rattle.records.specs.declared.symbol_row.SymbolRow.{SymbolRow}
use Rattle.records.specs.Keys.{row_worth}
use Rattle.records.specs.Values.{stopped, high_of, low_of}
use Rattle.book.specs.declared.book.Book.{Book}
use Rattle.book.specs.declared.turnover.Turnover.{Turnover}
use Rattle.day_rules.specs.declared.fault.StoreName.{StoreName}
use Rattle.day_rules.specs.declared.fault.StoreName.TheVariants.{Order, Execution, Symbol}
use Rattle.day_rules.specs.declared.fault.LedgerFault.{LedgerFault}
use Rattle.day_rules.specs.declared.fault.LedgerFault.TheVariants.{Message, Full}
use Rattle.day_rules.specs.declared.outcome.Outcome.{Outcome}
use Rattle.day_rules.specs.Faults.{refusal_number}

-- orders taken off the book, and shares
abbrev pub outcome_text : Outcome → List ℕ
outcome_text o = codes "(took " ++ (decimal o.orders ++ (codes " " ++ (decimal o.shares ++ codes ")")))

abbrev pub store_word : StoreName → List ℕ
store_word Order = codes "order"
store_word Execution = codes "execution"
store_word Symbol = codes "symbol"

-- a refusal's number, and what it carries; a line's refusal as that of its reader
abbrev pub refusal_text : LedgerFault → List ℕ
refusal_text (Message fault) = fault_text fault
refusal_text (Full name) = refused_with (refusal_number (Full name)) (store_word name)
refusal_text fault = refused (refusal_number fault)

abbrev pub answer_text : Result Outcome LedgerFault → List ℕ
answer_text (Ok outcome) = outcome_text outcome
answer_text (Err fault) = refusal_text fault

-- a text behind the number of its line, on a line of its own
abbrev pub numbered_line : (number : ℕ) (text : List ℕ) → List ℕ
numbered_line number text = codes "(line " ++ (decimal number ++ (codes " " ++ (text ++ (codes ")" ++ (10 ∷ [])))))

-- behind a space a word and what it says, and then the rest
abbrev pub field : (word said rest : List ℕ) → List ℕ
field word said rest = codes " (" ++ (word ++ (codes " " ++ (said ++ (codes ")" ++ rest))))

-- the same of the two parts of a value
abbrev pub value_field : (high low : ℕ) (rest : List ℕ) → List ℕ
value_field high low rest = codes " (value " ++ (decimal high ++ (codes " " ++ (decimal low ++ (codes ")" ++ rest))))

abbrev pub order_text : OrderKept → List ℕ
order_text o =
    codes "(order "
    ++ (id_text o.id
    ++ field (codes "side") (encode_utf8 (side_letter o.side)) (field (codes "shares") (decimal o.shares)
    (field (codes "symbol") (symbol_text o.symbol) (field (codes "price") (decimal o.price)
    (field (codes "display") (encode_utf8 (display_letter o.display)) (codes ")"))))))

-- a word more where it is broken
abbrev pub broken_text : Bool → List ℕ
broken_text true = codes " (broken)"
broken_text false = []

abbrev pub execution_text : ExecutionKept → List ℕ
execution_text e =
    codes "(execution "
    ++ (id_text e.id
    ++ field (codes "shares") (decimal e.shares) (field (codes "symbol") (symbol_text e.symbol)
    (field (codes "price") (decimal e.price) (broken_text e.broken ++ codes ")"))))

-- the value of a row is at most the greatest
abbrev pub row_text : SymbolRow → List ℕ
row_text r =
    codes "(symbol "
    ++ (symbol_text r.symbol
    ++ field (codes "volume") (decimal r.volume) (value_field (high_of (stopped (row_worth r))) (low_of (stopped (row_worth r))) (codes ")")))

-- a word without a price
abbrev pub best_field : Option ℕ → List ℕ → List ℕ
best_field None rest = codes " (best none)" ++ rest
best_field (Some price) rest = field (codes "best") (decimal price) rest

-- how many orders rest, their shares, and the best price
abbrev pub resting_text : Book → List ℕ
resting_text b =
    field (codes "orders") (decimal b.depth.orders.number) (field (codes "shares") (decimal b.depth.shares.number) (best_field b.best []))

abbrev pub book_text : Book → List ℕ
book_text b = codes "(book" ++ (resting_text b ++ codes ")")

abbrev pub turnover_text : Turnover → List ℕ
turnover_text t = codes "(turnover" ++ field (codes "volume") (decimal t.volume.number) (value_field t.value.high t.value.low (codes ")"))
