-- What a log adds up to, of whatever answers and leaves what the rules say.
use Rattle.std.proofs.Common.{◌≡◌, ℕ, ◌+◌, ◌≤◌, List, ◌∷◌, length, min, take, length-take, Ok, Err, Option, Result, OnErr, sym, ap, ◌∙◌, arith}
use Rattle.std.proofs.lemmas.List.{take_min, take_all}
use Rattle.messages.specs.declared.code.Side.{Side}
use Rattle.messages.specs.declared.code.Side.TheVariants.{Buy, Sell}
use Rattle.records.specs.declared.order.Order.{Order}
use Rattle.records.specs.declared.execution.Execution.{Execution}
use Rattle.records.specs.declared.symbol_row.SymbolRow.{SymbolRow}
use Rattle.records.specs.Keys.{symbol_key}
use Rattle.store.specs.Clients.{Listed}
use Rattle.store.specs.Lists.{lookup, those}
use Rattle.book.specs.Books.{rests_on}
use Rattle.book.specs.declared.book.Book.{Book}
use Rattle.book.specs.declared.turnover.Turnover.{Turnover}
use Rattle.day_rules.specs.declared.answer.Answer.TheVariants as answers
use Rattle.day_rules.specs.declared.fault.LedgerFault.{LedgerFault}
use Rattle.day_rules.specs.declared.outcome.Outcome.{Outcome}
use Rattle.day_rules.specs.Days.{Day}
use Rattle.day_rules.specs.Laws.{IsBalanced, IsLeft, IsTraded, IsMarket, shares_of, volume_in, value_in, other_side, LogLaws}
use Rattle.day_rules.specs.Log.{Log, Logged, line_put}
use Rattle.day_rules.specs.Places.{most_rows}
use Rattle.day_rules.specs.Questions.{rows_in, book_in, market_in}
use Rattle.day_rules.specs.Rules.{answer, next, order_in, execution_in, row_in}
use Rattle.day_rules.specs.Words.{history, logged_order, logged_execution, logged_row}
use Rattle.day_rules.proofs.Logs.{every_log}
use Rattle.day_rules.proofs.Refusing.{refused-unchanged}

pub after_line : (line : List ℕ) (log : Log) (d e : Day) (r : Result Outcome LedgerFault) → Logged log d → r ≡ answer line d → e ≡ next line d → LogLaws (line_put line r ∷ log) e
after_line line log d e r h says leaves = every_log (line_put line r ∷ log) e (d, h, ap answers.Line says, leaves)

pub order_left : (log : Log) (d : Day) (id : ℕ) (r : Option Order) → Logged log d → r ≡ order_in id d → IsLeft (history log) id (shares_of r)
order_left log d id r h e = rw e ((every_log log d h).orders_add_up id)

pub row_traded : (log : Log) (d : Day) (symbol : ℕ) (r : Option SymbolRow) → Logged log d → r ≡ row_in symbol d → IsTraded (history log) symbol (volume_in r) (value_in r)
row_traded log d symbol r h e = rw e ((every_log log d h).turnover_adds_up symbol)

pub book_balances : (log : Log) (d : Day) (symbol : ℕ) (side : Side) (r : Book) → Logged log d → r ≡ book_in symbol side d → IsBalanced (history log) symbol (r.depth.shares.number + (book_in symbol (other_side side) d).depth.shares.number)
unfolding IsBalanced
book_balances log d symbol Buy r h e = rw e ((every_log log d h).shares_balance symbol)
book_balances log d symbol Sell r h e = rw e (let b = (every_log log d h).shares_balance symbol in omega arith)

pub book_counts : (log : Log) (d : Day) (symbol : ℕ) (side : Side) (r : Book) → Logged log d → r ≡ book_in symbol side d → r.depth.orders.number ≡ length (those (rests_on symbol side) d.orders.rows)
book_counts log d symbol side r h e = rw e ((every_log log d h).orders_are_counted (rests_on symbol side))

pub order_told : (log : Log) (d : Day) (id : ℕ) (r : Option Order) → Logged log d → r ≡ order_in id d → r ≡ logged_order id (history log)
order_told log d id r h e = e ∙ (every_log log d h).orders_as_added id

pub execution_told : (log : Log) (d : Day) (id : ℕ) (r : Option Execution) → Logged log d → r ≡ execution_in id d → r ≡ logged_execution id (history log)
execution_told log d id r h e = e ∙ (every_log log d h).executions_as_accepted id

pub row_told : (log : Log) (d : Day) (symbol : ℕ) (r : Option SymbolRow) → Logged log d → r ≡ row_in symbol d → r ≡ logged_row symbol (history log)
row_told log d symbol r h e = e ∙ (every_log log d h).rows_as_traded symbol

-- the part of the places that the rows fill
pub rows_listed : (d : Day) (was is : List SymbolRow) (n : ℕ) → Listed d.symbols.rows was is n → take n is ≡ rows_in (length was) d
rows_listed d was is n l =
    let fit : n ≡ min (length was) (length d.symbols.rows) = (let e = l.count in omega arith) in
    l.list ∙ ap (λ k. take k d.symbols.rows) fit ∙ take_min (length was) d.symbols.rows

pub rows_told : (log : Log) (d : Day) (was is : List SymbolRow) (n symbol : ℕ) → Logged log d → Listed d.symbols.rows was is n → length d.symbols.rows ≤ length was → lookup symbol_key symbol (take n is) ≡ logged_row symbol (history log)
rows_told log d was is n symbol h l fit =
    ap (lookup symbol_key symbol) (rows_listed d was is n l ∙ take_all (length was) d.symbols.rows fit) ∙ (every_log log d h).rows_as_traded symbol

-- the rows that were listed, if a reply has places for all
pub listed_rows : (d : Day) (was is rs : List SymbolRow) (n : ℕ) → Listed d.symbols.rows was is n → rs ≡ take most_rows (take n is) → length was ≤ most_rows → rs ≡ rows_in (length was) d
listed_rows d was is rs n l e fits =
    let few : length (rows_in (length was) d) ≤ most_rows = omega (arith, length-take (length was) d.symbols.rows) in
    e ∙ ap (take most_rows) (rows_listed d was is n l) ∙ take_all most_rows (rows_in (length was) d) few

pub market_told : (log : Log) (d : Day) (r : Turnover) → Logged log d → r ≡ market_in d → IsMarket (history log) r
market_told log d r h e = rw e ((every_log log d h).market_adds_up)

pub accepted_told : (log : Log) (d : Day) (n : ℕ) → Logged log d → n ≡ d.accepted → n ≡ length (history log)
accepted_told log d n h e = e ∙ (every_log log d h).accepted_are_counted

-- a refused line changes nothing
pub refusal_keeps : (line : List ℕ) (d e : Day) (r : Result Outcome LedgerFault) → r ≡ answer line d → e ≡ next line d → OnErr r (e ≡ d)
refusal_keeps line d e (Ok a) says leaves = tt
refusal_keeps line d e (Err f) says leaves = leaves ∙ refused-unchanged line d f (sym says)
