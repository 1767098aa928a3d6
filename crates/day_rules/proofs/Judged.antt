-- Each refusal is given in its own case, and in that case only.
use Rattle.std.proofs.Common.{◌≡◌, ℕ, ◌<◌, cond, leb, ltb, not, ◌&&◌, List, length, is_some, Some, None, Ok, Err, Option, Result, refl, ap, subst, ⊎_elim}
use Rattle.std.proofs.lemmas.Bool.{cases_Bool, leb-true, leb-false, le-leb, lt-leb, ltb-true, ltb-false, lt-ltb, le-ltb}
use Rattle.messages.specs.declared.fault.MessageFault.{MessageFault}
use Rattle.messages.specs.declared.message.Message.{Message}
use Rattle.messages.specs.Refusals.{LaidOut}
use Rattle.messages.specs.Telling.{line_message}
use Rattle.messages.proofs.Back.{message-read}
use Rattle.messages.proofs.Judging.{due-refused}
use Rattle.records.specs.declared.order.Order.{Order}
use Rattle.records.specs.declared.execution.Execution.{Execution}
use Rattle.records.specs.declared.symbol_row.SymbolRow.{SymbolRow}
use Rattle.store.specs.Models.{Model}
use Rattle.day_rules.specs.declared.fault.LedgerFault.{LedgerFault}
use Rattle.day_rules.specs.declared.fault.LedgerFault.TheVariants.{Full}
use Rattle.day_rules.specs.declared.fault.StoreName.{StoreName}
use Rattle.day_rules.specs.declared.fault.StoreName.TheVariants.{Order as order_store, Execution as execution_store, Symbol as symbol_store}
use Rattle.day_rules.specs.declared.outcome.Outcome.{Outcome}
use Rattle.day_rules.specs.Days.{Day}
use Rattle.day_rules.specs.Due.{IsFull, HasRoom, Rests, StoringDue, TakingDue, EventDue, LineDue, Refuses, RefusedWhenDue}
use Rattle.day_rules.specs.Due.{repeated, full, full_rows, absent, excess, resting, executing, storing, cancelling, trading, unmatched, broken, unread, closed, refused}
use Rattle.day_rules.specs.Events.{Event, clears, adds, executes, cancels, trades, breaks, event_of}
use Rattle.day_rules.specs.Faults.{Carried, numbers, store, refusal_number, refusal_carried}
use Rattle.day_rules.specs.Rules.{order_in, execution_in, row_in, may_rest, shares_at_hand, may_trade, may_execute, may_cancel, unbroken, may_break, allowed, permitted, or_refused, message_answer, answer}
use Rattle.day_rules.proofs.Told.{IsRead, message-is-read, laid-message}

-- an answer is no refusal, or one that is due
abbrev Given : {X : Type 0} → (ℕ → Carried → Type 0) → Result X LedgerFault → Type 0
Given D (Ok x) = Unit {0}
Given D (Err e) = D (refusal_number e) (refusal_carried e)

module _ (d : Day) where
  -- Room for a record, and for the row of its symbol.
  module _ {X : Type 0} (m : Model X) (name : StoreName) (s : ℕ) where
    abbrev roomy : Option SymbolRow → Result (Unit {0}) LedgerFault
    roomy row = cond (leb m.limit (length m.rows)) (Err (Full name)) (cond (not (is_some row) && leb d.symbols.limit (length d.symbols.rows)) (Err (Full symbol_store)) (Ok tt))

    module _ (D : ℕ → Carried → Type 0) (its : IsFull m → D 12 (store name)) (rows : HasRoom m → row_in s d ≡ None → IsFull d.symbols → D 12 (store symbol_store)) where
      room_given : (row : Option SymbolRow) → row_in s d ≡ row → Given D (roomy row)
      room_given (Some r) is = ⊎_elim (λ t. rw t (its (leb-true m.limit (length m.rows) t))) (λ f. rw f tt) (cases_Bool (leb m.limit (length m.rows)))
      room_given None is =
          ⊎_elim
          (λ t. rw t (its (leb-true m.limit (length m.rows) t)))
          (λ f. rw f
          (⊎_elim
          (λ t. rw t (rows (leb-false m.limit (length m.rows) f) is (leb-true d.symbols.limit (length d.symbols.rows) t)))
          (λ u. rw u tt)
          (cases_Bool (leb d.symbols.limit (length d.symbols.rows)))))
          (cases_Bool (leb m.limit (length m.rows)))

    -- no record more, or no row more
    full_refused : (row : Option SymbolRow) → IsFull m → Refuses (roomy row) 12 (store name)
    full_refused row l = rw (le-leb m.limit (length m.rows) l) (refl, refl)

    rows_refused : HasRoom m → row_in s d ≡ None → IsFull d.symbols → Refuses (roomy (row_in s d)) 12 (store symbol_store)
    rows_refused room none l = rw (lt-leb m.limit (length m.rows) room, none, le-leb d.symbols.limit (length d.symbols.rows) l) (refl, refl)

  -- What is refused is due.

  rest_given : (o : Order) (found : Option Order) → order_in o.id d ≡ found → Given (EventDue d (adds o)) (may_rest o d)
  rest_given o (Some p) is = rw is (resting is)
  rest_given o None is = rw is (room_given d.orders order_store o.symbol (EventDue d (adds o)) (full is) (full_rows is) (row_in o.symbol d) refl)

  trade_given : (x s : ℕ) (found : Option Execution) → execution_in x d ≡ found → Given (StoringDue d x s) (may_trade x s d)
  trade_given x s (Some e) is = rw is (repeated is)
  trade_given x s None is = rw is (room_given d.executions execution_store s (StoringDue d x s) (full is) (full_rows is) (row_in s d) refl)

  execute_given : (i n x : ℕ) (found : Option Order) → order_in i d ≡ found → Given (EventDue d (executes i n x)) (may_execute x d (shares_at_hand n found))
  execute_given i n x None is = executing (absent is)
  execute_given i n x (Some o) is =
      ⊎_elim
      (λ t. rw t (executing (excess is (ltb-true o.shares n t))))
      (λ f. rw f (stored (may_trade x o.symbol d) (trade_given x o.symbol (execution_in x d) refl) (record { order = o; found = is; enough = ltb-false o.shares n f }) refl))
      (cases_Bool (ltb o.shares n))
    where
      stored : (r : Result (Unit {0}) LedgerFault) → Given (StoringDue d x o.symbol) r → (rests : Rests d i n) → rests.order ≡ o → Given (EventDue d (executes i n x)) r
      stored (Ok u) g rests same = tt
      stored (Err e) g rests same = storing rests (rw same g)

  cancel_given : (i n : ℕ) (found : Option Order) → order_in i d ≡ found → Given (EventDue d (cancels i n)) (may_cancel (shares_at_hand n found))
  cancel_given i n None is = cancelling (absent is)
  cancel_given i n (Some o) is =
      ⊎_elim (λ t. rw t (cancelling (excess is (ltb-true o.shares n t)))) (λ f. rw f tt) (cases_Bool (ltb o.shares n))

  traded : (e : Execution) (r : Result (Unit {0}) LedgerFault) → Given (StoringDue d e.id e.symbol) r → Given (EventDue d (trades e)) r
  traded e (Ok u) g = tt
  traded e (Err f) g = trading g

  break_given : (x : ℕ) (found : Option Execution) → execution_in x d ≡ found → Given (EventDue d (breaks x)) (may_break (unbroken found))
  break_given x None is = unmatched is
  break_given x (Some e) is = ⊎_elim (λ t. rw t (broken is t)) (λ f. rw f tt) (cases_Bool e.broken)

  allowed_given : (e : Event) → Given (EventDue d e) (allowed e d)
  allowed_given (clears s) = tt
  allowed_given (adds o) = rest_given o (order_in o.id d) refl
  allowed_given (executes i n x) = execute_given i n x (order_in i d) refl
  allowed_given (cancels i n) = cancel_given i n (order_in i d) refl
  allowed_given (trades e) = traded e (may_trade e.id e.symbol d) (trade_given e.id e.symbol (execution_in e.id d) refl)
  allowed_given (breaks x) = break_given x (execution_in x d) refl

  -- What is due is refused.

  trade_refused : (x s : ℕ) {n : ℕ} {c : Carried} → StoringDue d x s n c → Refuses (may_trade x s d) n c
  trade_refused x s (repeated is) = rw is (refl, refl)
  trade_refused x s (full is l) = rw is (full_refused d.executions execution_store s (row_in s d) l)
  trade_refused x s (full_rows is room none l) = rw is (rows_refused d.executions execution_store s room none l)

  take_refused : (i k : ℕ) {n : ℕ} {c : Carried} → TakingDue d i k n c → Refuses (shares_at_hand k (order_in i d)) n c
  take_refused i k (absent is) = rw is (refl, refl)
  take_refused i k (excess {o = o} is l) = rw (is, lt-ltb o.shares k l) (refl, refl)

  -- a refusal to take the shares is the message's
  then_execute : (x : ℕ) (r : Result Order LedgerFault) (n : ℕ) (c : Carried) → Refuses r n c → Refuses (may_execute x d r) n c
  then_execute x (Ok o) n c f = absurd f
  then_execute x (Err e) n c f = f

  then_cancel : (r : Result Order LedgerFault) (n : ℕ) (c : Carried) → Refuses r n c → Refuses (may_cancel r) n c
  then_cancel (Ok o) n c f = absurd f
  then_cancel (Err e) n c f = f

  event_refused : (e : Event) {n : ℕ} {c : Carried} → EventDue d e n c → Refuses (allowed e d) n c
  event_refused (clears s) due = elim due [ ]
  event_refused (adds o) (resting is) = rw is (refl, refl)
  event_refused (adds o) (full is l) = rw is (full_refused d.orders order_store o.symbol (row_in o.symbol d) l)
  event_refused (adds o) (full_rows is room none l) = rw is (rows_refused d.orders order_store o.symbol room none l)
  event_refused (executes i k x) (executing t) = then_execute x (shares_at_hand k (order_in i d)) _ _ (take_refused i k t)
  event_refused (executes i k x) (storing r t) = rw (r.found, le-ltb r.order.shares k r.enough) (trade_refused x r.order.symbol t)
  event_refused (cancels i k) (cancelling t) = then_cancel (shares_at_hand k (order_in i d)) _ _ (take_refused i k t)
  event_refused (trades e) (trading t) = trade_refused e.id e.symbol t
  event_refused (breaks x) (unmatched is) = rw is (refl, refl)
  event_refused (breaks x) (broken is t) = rw (is, t) (refl, refl)

-- A line.

-- what is refused is what is due
given_due : (D : ℕ → Carried → Type 0) (r : Result Outcome LedgerFault) (n : ℕ) (c : Carried) → Given D r → Refuses r n c → D n c
given_due D (Ok a) n c g f = absurd f
given_due D (Err e) n c g f = subst (λ k. D k c) f.0 (subst (D (refusal_number e)) f.1 g)

given_answer : (D : ℕ → Carried → Type 0) (p : Result (Unit {0}) LedgerFault) (a : Outcome) → Given D p → Given D (or_refused p a)
given_answer D (Ok u) a g = g
given_answer D (Err e) a g = g

refused_answer : (p : Result (Unit {0}) LedgerFault) (a : Outcome) (n : ℕ) (c : Carried) → Refuses p n c → Refuses (or_refused p a) n c
refused_answer (Ok u) a n c f = f
refused_answer (Err e) a n c f = f

module _ (line : List ℕ) (d : Day) where
  module _ (m : Message) (laid : LaidOut line m) where
    -- below the day limit
    open_given : d.accepted < d.day_limit → (r : Result (Unit {0}) LedgerFault) → Given (EventDue d (event_of m)) r → Given (LineDue line d) r
    open_given room (Ok u) g = g
    open_given room (Err e) g = refused m laid room g

    message_given : Given (LineDue line d) (permitted (event_of m) d)
    message_given =
        ⊎_elim
        (λ t. rw t (closed m laid (leb-true d.day_limit d.accepted t)))
        (λ f. rw f (open_given (leb-false d.day_limit d.accepted f) (allowed (event_of m) d) (allowed_given d (event_of m))))
        (cases_Bool (leb d.day_limit d.accepted))

  line_given : (r : Result Message MessageFault) → IsRead line r → Given (LineDue line d) (message_answer r d)
  line_given (Ok m) laid = given_answer (LineDue line d) (permitted (event_of m) d) _ (message_given m laid)
  line_given (Err e) due = unread due

  answer_given : Given (LineDue line d) (answer line d)
  unfolding answer
  answer_given = line_given (line_message line) (message-is-read line)

  line_refused : {n : ℕ} {c : Carried} → LineDue line d n c → Refuses (answer line d) n c
  unfolding answer
  line_refused (unread due) = let q = due-refused line due in rw (message-read line (Err q.0) q.1) (q.2, ap numbers q.3)
  line_refused (closed m laid limit) = rw (laid-message line m laid, le-leb d.day_limit d.accepted limit) (refl, refl)
  line_refused {n = n} {c = c} (refused m laid room due) = rw (laid-message line m laid, lt-leb d.day_limit d.accepted room) (refused_answer (allowed (event_of m) d) _ n c (event_refused d (event_of m) due))

pub refused-when-due : RefusedWhenDue
refused-when-due line d n c = (given_due (LineDue line d) (answer line d) n c (answer_given line d), line_refused line d)
