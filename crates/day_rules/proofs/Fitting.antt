-- The rows never pass the limit of their store.
use Rattle.std.proofs.Common.{◌≡◌, ℕ, ◌≤◌, leb, List, [], ◌∷◌, length, Ok, Err, Option, Some, None, Result, refl, ◌∙◌, ⊎_elim, arith}
use Rattle.std.proofs.lemmas.Bool.{leb-false, cases_Bool}
use Rattle.messages.specs.declared.fault.MessageFault.{MessageFault}
use Rattle.messages.specs.declared.message.Message.{Message}
use Rattle.messages.specs.Telling.{line_message}
use Rattle.records.specs.declared.order.Order.{Order}
use Rattle.records.specs.declared.execution.Execution.{Execution}
use Rattle.records.specs.declared.symbol_row.SymbolRow.{SymbolRow}
use Rattle.records.specs.Keys.{symbol_key}
use Rattle.store.specs.Lists.{holds}
use Rattle.store.specs.Models.{Model, inserted}
use Rattle.store.proofs.Placed.{length-placed}
use Rattle.store.proofs.Ruling.{length-replaced}
use Rattle.day_rules.specs.declared.fault.LedgerFault.{LedgerFault}
use Rattle.day_rules.specs.Days.{Day}
use Rattle.day_rules.specs.Events.{Event, clears, adds, executes, cancels, trades, breaks, event_of}
use Rattle.day_rules.specs.Lines.{day_after}
use Rattle.day_rules.specs.Rows.{new_row, without_execution}
use Rattle.day_rules.specs.Rules.{order_in, execution_in, row_in, row_after, row_put, row_taken, reduced, fill_of, executed, cancelled, broken, after, permitted, counted, or_same, message_after, next}

-- the limit is as before, and if the rows fitted they fit
pub record Fitting {X : Type 0} (before after : Model X) : Type 0 where
  pub limit : after.limit ≡ before.limit
  pub fits : length before.rows ≤ before.limit → length after.rows ≤ before.limit

same : {X : Type 0} (m : Model X) → Fitting m m
same m = record { limit = refl; fits = λ h. h }

inserting : {X : Type 0} (key : X → ℕ) (r : X) (m : Model X) → Fitting m (inserted key r m)
inserting key r m =
    ⊎_elim
    (λ t. rw t (same m))
    (λ f. rw f
    (⊎_elim
    (λ t. rw t (same m))
    (λ g. rw g (record { limit = refl; fits = λ h. let l = length-placed key r m.rows in let free = leb-false m.limit (length m.rows) g in omega arith }))
    (cases_Bool (leb m.limit (length m.rows)))))
    (cases_Bool (holds key (key r) m.rows))

row-put : (old : Option SymbolRow) (r : SymbolRow) (m : Model SymbolRow) → Fitting m (row_put old r m)
row-put None r m = inserting symbol_key r m
row-put (Some old) r m = record { limit = refl; fits = λ h. let l = length-replaced symbol_key r m.rows in omega arith }

row-taken : (e : Execution) (old : Option SymbolRow) (m : Model SymbolRow) → Fitting m (row_taken e old m)
row-taken e None m = same m
row-taken e (Some old) m = record { limit = refl; fits = λ h. let l = length-replaced symbol_key (without_execution e old) m.rows in omega arith }

executing : (n x : ℕ) (o : Option Order) (d : Day) → Fitting d.symbols (executed n x o d).symbols
executing n x None d = same d.symbols
executing n x (Some o) d = row-put (row_in o.symbol d) (row_after (fill_of x n o) (reduced n o d)) d.symbols

cancelling : (n : ℕ) (o : Option Order) (d : Day) → Fitting d.symbols (cancelled n o d).symbols
cancelling n None d = same d.symbols
cancelling n (Some o) d = same d.symbols

breaking : (e : Option Execution) (d : Day) → Fitting d.symbols (broken e d).symbols
breaking None d = same d.symbols
breaking (Some e) d = row-taken e (row_in e.symbol d) d.symbols

after-event : (event : Event) (d : Day) → Fitting d.symbols (after event d).symbols
after-event (clears symbol) d = same d.symbols
after-event (adds o) d = inserting symbol_key (new_row o.symbol) d.symbols
after-event (executes order shares execution) d = executing shares execution (order_in order d) d
after-event (cancels order shares) d = cancelling shares (order_in order d) d
after-event (trades e) d = row-put (row_in e.symbol d) (row_after e d) d.symbols
after-event (breaks execution) d = breaking (execution_in execution d) d

or-same : (p : Result (Unit {0}) LedgerFault) (changed d : Day) → Fitting d.symbols changed.symbols → Fitting d.symbols (or_same p changed d).symbols
or-same (Ok u) changed d h = h
or-same (Err f) changed d h = same d.symbols

after-message : (r : Result Message MessageFault) (d : Day) → Fitting d.symbols (message_after r d).symbols
after-message (Ok m) d = or-same (permitted (event_of m) d) (counted (after (event_of m) d)) d (after-event (event_of m) d)
after-message (Err e) d = same d.symbols

after-line : (line : List ℕ) (d : Day) → Fitting d.symbols (next line d).symbols
unfolding next
after-line line d = after-message (line_message line) d

pub after-lines : (lines : List (List ℕ)) (d : Day) → Fitting d.symbols (day_after lines d).symbols
after-lines [] d = same d.symbols
after-lines (line ∷ lines) d =
    let first = after-line line d in
    let others = after-lines lines (next line d) in record {
      limit = others.limit ∙ first.limit;
      fits = λ h. let f = first.fits h in let l = first.limit in let o : length (next line d).symbols.rows ≤ (next line d).symbols.limit = omega arith in let g = others.fits o in omega arith;
    }
