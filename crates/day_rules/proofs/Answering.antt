-- What each accepted message is answered, in words of the log that ends with it.
use Rattle.std.proofs.Common.{◌≡◌, ℕ, ◌<◌, ◌≤◌, true, false, ltb, ◌∷◌, length, Some, None, Ok, Option, refl, sym, ap, ◌∙◌, subst, ⊎_elim, arith}
use Rattle.std.proofs.lemmas.Bool.{cases_eq, eq-eqb, ne_eqb, ltb-false}
use Rattle.records.specs.declared.order.Order.{Order}
use Rattle.records.specs.declared.execution.Execution.{Execution}
use Rattle.records.specs.Keys.{execution_key}
use Rattle.store.specs.Lists.{lookup, those}
use Rattle.store.proofs.Ruling.{found-key, found-each}
use Rattle.day_rules.specs.declared.outcome.Outcome.{Outcome}
use Rattle.day_rules.specs.Days.{Day}
use Rattle.day_rules.specs.Events.{Event, clears, adds, executes, cancels, trades, breaks}
use Rattle.day_rules.specs.Rules.{order_in, execution_in, shares_at_hand, may_trade, may_execute, may_cancel, unbroken, may_break, allowed, row_after, leaving, breaking, broken, after, outcome, counted}
use Rattle.day_rules.specs.Words.{History, fills, fill_with, marked_if, logged_order, logged_execution, row_needed, volume_of, IsWhatIsLeft, symbol_of, IsAnswer}
use Rattle.book.specs.Books.{is_of}
use Rattle.day_rules.proofs.Clearing.{orders-left}
use Rattle.day_rules.proofs.Sums.{length-those}
use Rattle.day_rules.proofs.Orders.{left_if, others_of, Takes, its_left}
use Rattle.day_rules.proofs.Rows.{row-held, row-filled, one_less}
use Rattle.day_rules.proofs.Standing.{NarrowFill, EventFits, Stands, said, stored}
use Rattle.day_rules.proofs.Stepping.{taken-by-execution, taken-by-cancel, few, few_fills, joined_fill, at_hand, in_hand, still_whole}
use Rattle.day_rules.proofs.Traded.{stored-traded}

-- what is answered is what is left of the order
what_is_left : (n : ℕ) (o : Order) → n ≤ o.shares → IsWhatIsLeft (leaving n (Some o)) (left_if false n o)
what_is_left n o l =
    ⊎_elim
    (λ e. rw (eq-eqb n o.shares e, eq-eqb o.shares n (sym e)) (refl, omega arith))
    (λ m. rw (ne_eqb n o.shares m, ne_eqb o.shares n (λ e. m (sym e))) (refl, refl))
    (cases_eq n o.shares)

-- marking one as broken leaves its symbol
same_symbol : (times : ℕ) (x : Option Execution) → symbol_of (marked_if times x) ≡ symbol_of x
same_symbol times None = refl
same_symbol times (Some e) = ⊎_elim (λ z. rw (eq-eqb times 0 z) refl) (λ z. rw (ne_eqb times 0 z) refl) (cases_eq times 0)

module _ (h : History) (d : Day) (st : Stands h d) (room : d.accepted < d.day_limit) where
  -- the day after an accepted message stands too
  abbrev Then : Event → Type 0
  Then e = Stands (said e (outcome e d) ∷ h) (counted (after e d))

  -- as many orders of the symbol as were left, and then none is
  clear_answer : (c : ℕ) → Then (clears c) → IsAnswer (clears c) (outcome (clears c) d) (said (clears c) (outcome (clears c) d) ∷ h)
  clear_answer c now =
      let n = few h d st _ st.orders.count in
      let l = length-those (is_of c) d.orders.rows in
      let counted : (outcome (clears c) d).orders ≡ length (those (is_of c) d.orders.rows) = omega arith in
      let b = now.orders.balance c in
      let o = others_of c c d.orders.rows in
      let none = rw (eq-eqb c c refl) at o in
      (counted ∙ orders-left c h d.orders.rows st.orders, omega arith)

  module _ (i n : ℕ) (o : Order) (e : Event) (takes : Takes i n e) (answered : Outcome) (found : order_in i d ≡ Some o) (enough : n ≤ o.shares) where
    -- shares taken off an order
    take_answer : IsWhatIsLeft (leaving n (Some o)) (logged_order i (said e answered ∷ h))
    take_answer = rw (its_left h d.orders.rows st.orders answered i n o e takes found enough) (what_is_left n o enough)

  execution_answer : (i n x : ℕ) (answered : Outcome) (found : Option Order) → order_in i d ≡ found → may_execute x d (shares_at_hand n found) ≡ Ok tt → IsWhatIsLeft (leaving n found) (logged_order i (said (executes i n x) answered ∷ h))
  execution_answer i n x answered None is ok = cc
  execution_answer i n x answered (Some o) is ok =
      let hand = at_hand h d st room (ltb o.shares n) _ o x ok in
      take_answer i n o (executes i n x) (taken-by-execution i n x) answered is (ltb-false o.shares n hand.0)

  cancel_answer : (i n : ℕ) (answered : Outcome) (found : Option Order) → order_in i d ≡ found → may_cancel (shares_at_hand n found) ≡ Ok tt → IsWhatIsLeft (leaving n found) (logged_order i (said (cancels i n) answered ∷ h))
  cancel_answer i n answered None is ok = cc
  cancel_answer i n answered (Some o) is ok =
      take_answer i n o (cancels i n) (taken-by-cancel i n) answered is (ltb-false o.shares n (in_hand h d st room (ltb o.shares n) _ o ok))

  -- the row has the volume that the log says
  trade_answer : (e : Execution) → NarrowFill e → e.broken ≡ false → may_trade e.id e.symbol d ≡ Ok tt → Then (trades e) → (row_after e d).volume ≡ volume_of e.symbol (said (trades e) (outcome (trades e) d) ∷ h)
  trade_answer e fits whole ok now =
      ap (λ r. r.volume) (row-filled h (said (trades e) (outcome (trades e) d) ∷ h) e whole fits (λ j. refl) d.executions.rows st.fills.narrow d.symbols st.rows (few_fills h d st room))
      ∙ subst (λ m. stored (λ f. f.shares) e.symbol m.rows ≡ volume_of e.symbol (said (trades e) (outcome (trades e) d) ∷ h)) (joined_fill h d st room e fits ok) (stored-traded _ _ now (λ f. f.shares) e.symbol)

  -- a stored execution's symbol is that of the log
  logged_symbol : (x : ℕ) (found : Option Execution) → execution_in x d ≡ found → symbol_of found ≡ symbol_of (fill_with x (fills h))
  unfolding logged_execution
  logged_symbol x found is = ap symbol_of (sym is ∙ (st.fills.each x).is) ∙ same_symbol _ (fill_with x (fills h))

  -- and so it has after a break
  break_answer : (x : ℕ) (answered : Outcome) (found : Option Execution) → execution_in x d ≡ found → may_break (unbroken found) ≡ Ok tt
      → Stands (said (breaks x) answered ∷ h) (counted (broken found d)) → IsAnswer (breaks x) (breaking found d) (said (breaks x) answered ∷ h)
  break_answer x answered None is ok now = cc
  break_answer x answered (Some e) is ok now =
      let whole = still_whole h d st room e.broken _ e ok in
      let found_by_key : lookup execution_key (execution_key e) d.executions.rows ≡ Some e = rw (found-key execution_key x d.executions.rows e is) is in
      let needed = found-each execution_key (λ f. row_needed f.symbol h ≡ true) x d.executions.rows e st.rows.needed is in
      let few = few_fills h d st room in
      let its_row = row-held h d.executions.rows d.symbols.rows st.rows e.symbol needed in
      let left = one_less e whole d.executions.rows found_by_key st.fills.narrow (omega arith) in
      let its : e.symbol ≡ symbol_of (fill_with x (fills h)) = logged_symbol x (Some e) is in
      (refl, rw (its_row, ← its) (ap (λ r. r.volume) left ∙ stored-traded _ _ now (λ f. f.shares) e.symbol))

  -- any message
  pub event-answer : (e : Event) → EventFits e → allowed e d ≡ Ok tt → Then e → IsAnswer e (outcome e d) (said e (outcome e d) ∷ h)
  event-answer (clears c) fits ok now = clear_answer c now
  event-answer (adds o) fits ok now = (refl, refl)
  event-answer (executes i n x) fits ok now = execution_answer i n x _ (order_in i d) refl ok
  event-answer (cancels i n) fits ok now = cancel_answer i n _ (order_in i d) refl ok
  event-answer (trades e) fits ok now = (refl, trade_answer e fits.0 fits.1 ok now)
  event-answer (breaks x) fits ok now = break_answer x _ (execution_in x d) refl ok now
