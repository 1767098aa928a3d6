-- What a ledger replies to a question. None changes anything.
use Rattle.std.specs.Prelude.{ℕ, List, take, Option}
use Rattle.messages.specs.declared.code.Side.{Side}
use Rattle.records.specs.declared.symbol_row.SymbolRow.{SymbolRow}
use Rattle.records.specs.Keys.{symbol_key}
use Rattle.store.specs.Lists.{first_from}
use Rattle.book.specs.declared.book.Book.{Book}
use Rattle.book.specs.declared.turnover.Turnover.{Turnover}
use Rattle.book.specs.Books.{book_of, turnover_of}
use Rattle.day_rules.specs.declared.question.Question.{Question}
use Rattle.day_rules.specs.declared.question.Question.TheVariants as question
use Rattle.day_rules.specs.declared.reply.Reply.{Reply}
use Rattle.day_rules.specs.declared.reply.Reply.TheVariants as replies
use Rattle.day_rules.specs.Days.{Day}
use Rattle.day_rules.specs.Rules.{order_in, execution_in, row_in}

-- the first row from a symbol number on
abbrev pub row_from_in : ℕ → Day → Option SymbolRow
row_from_in symbol d = first_from symbol_key symbol d.symbols.rows

-- the first so many rows by rising symbol number
abbrev pub rows_in : ℕ → Day → List SymbolRow
rows_in most d = take most d.symbols.rows

-- what rests of a symbol on a side
abbrev pub book_in : ℕ → Side → Day → Book
book_in symbol side d = book_of symbol side d.orders.rows

-- what has traded of all symbols together
abbrev pub market_in : Day → Turnover
market_in d = turnover_of d.symbols.rows

-- what a question is replied
abbrev pub reply : Question → Day → Reply
reply (question.Order id) d = replies.Order (order_in id d)
reply (question.Execution id) d = replies.Execution (execution_in id d)
reply (question.Row symbol) d = replies.Row (row_in symbol d)
reply (question.RowFrom symbol) d = replies.Row (row_from_in symbol d)
reply (question.Rows most) d = replies.Rows (rows_in most d)
reply (question.Book symbol side) d = replies.Book (book_in symbol side d)
reply question.Market d = replies.Market (market_in d)
reply question.Accepted d = replies.Accepted d.accepted
