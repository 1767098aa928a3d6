-- How what is said to a line is shown.
use Rattle.std.specs.Prelude.{ℕ, List, [], ◌∷◌, ◌++◌, Some, None, Option, codes, decimal}
use Rattle.records.specs.declared.symbol_row.SymbolRow.{SymbolRow}
use Rattle.day_rules.specs.declared.answer.Answer.{Answer}
use Rattle.day_rules.specs.declared.answer.Answer.TheVariants.{Line, Question}
use Rattle.day_rules.specs.declared.reply.Reply.{Reply}
use Rattle.day_rules.specs.declared.reply.Reply.TheVariants.{Order, Execution, Row, Rows, Book, Market, Accepted}
use Rattle.day_forms.specs.Texts.{answer_text, order_text, execution_text, row_text, book_text, turnover_text}
use Rattle.ledger_calls.specs.declared.opening.Opening.{Opening}

-- each row behind a space
unfoldable pub rows_text : List SymbolRow → List ℕ
rows_text [] = []
rows_text (r ∷ rs) = (codes " " ++ row_text r) ++ rows_text rs

abbrev pub reply_text : Reply → List ℕ
reply_text (Order None) = codes "none"
reply_text (Order (Some o)) = order_text o
reply_text (Execution None) = codes "none"
reply_text (Execution (Some e)) = execution_text e
reply_text (Row None) = codes "none"
reply_text (Row (Some r)) = row_text r
reply_text (Rows rs) = codes "(rows" ++ (rows_text rs ++ codes ")")
reply_text (Book b) = book_text b
reply_text (Market t) = turnover_text t
reply_text (Accepted n) = codes "(accepted " ++ (decimal n ++ codes ")")

abbrev pub said_text : Option Answer → List ℕ
said_text None = codes "(unknown question)"
said_text (Some (Line a)) = answer_text a
said_text (Some (Question r)) = reply_text r

abbrev pub opening_text : Opening → List ℕ
opening_text o =
    codes "(opened " ++ (decimal o.orders ++ (codes " " ++ (decimal o.executions ++ (codes " " ++ (decimal o.symbols ++ (codes " " ++ (decimal o.day_limit ++ codes ")")))))))
