-- Every log adds up, as what it stands for does.
use Rattle.std.proofs.Common.{◌≡◌, ℕ, ◌≤◌, true, eqb, leb, List, [], ◌∷◌, Some, None, Ok, Err, Option, Result, refl, sym, ap, ◌∙◌, ⊎_elim, arith}
use Rattle.std.proofs.lemmas.Bool.{cases_Bool, eqb-true, leb-false}
use Rattle.std.proofs.lemmas.Bool.Decides.{nat_tests}
use Rattle.messages.specs.declared.fault.MessageFault.{MessageFault}
use Rattle.messages.specs.declared.message.Message.{Message}
use Rattle.messages.specs.Telling.{line_message}
use Rattle.records.specs.declared.order.Order.{Order}
use Rattle.records.specs.declared.execution.Execution.{Execution}
use Rattle.records.specs.declared.symbol_row.SymbolRow.{SymbolRow}
use Rattle.records.specs.Keys.{order_key, execution_key, row_worth}
use Rattle.store.specs.Lists.{lookup, sum}
use Rattle.store.proofs.Ruling.{found-each}
use Rattle.day_rules.specs.declared.fault.LedgerFault.{LedgerFault}
use Rattle.day_rules.specs.Calls.{Call, line, question, call_answer, call_left}
use Rattle.day_rules.specs.Days.{Day}
use Rattle.day_rules.specs.Events.{event_of}
use Rattle.day_rules.specs.Laws.{IsLeftOf, IsTraded, IsMarket, shares_of, volume_in, value_in, EveryLog, IsBalanced, IsLeft}
use Rattle.day_rules.specs.Log.{Log, IsOpening, Logged, line_put}
use Rattle.day_rules.specs.Questions.{market_in}
use Rattle.day_rules.specs.Rows.{execution_worth, row_of, row_or_new}
use Rattle.day_rules.specs.Rules.{less_shares, row_in, allowed, permitted, outcome, after, counted, or_refused, or_same, message_answer, message_after, answer, next}
use Rattle.day_rules.specs.Words.{History, history, then_called, last_add, since_add, clear_among, taken_off, left_of_add, fills, times_broken, volume_of, value_of, all_traded, logged_order, logged_execution, logged_row, row_needed, IsAnswered}
use Rattle.day_rules.proofs.Answering.{event-answer}
use Rattle.day_rules.proofs.Depths.{resting}
use Rattle.day_rules.proofs.Fits.{line-fits}
use Rattle.day_rules.proofs.Standing.{NarrowOrder, broken_times, unless_marked, row_stored, Stands}
use Rattle.day_rules.proofs.Market.{all-shares, all-worth}
use Rattle.day_rules.proofs.Rows.{same-row, parted, row-now}
use Rattle.day_rules.proofs.Stepping.{passed, few, step}
use Rattle.day_rules.proofs.Traded.{stored-traded}
use Rattle.day_rules.proofs.Sums.{sum-those, length-those}

-- What a day stands for adds up.

-- an order that is left as the log says adds up
left_over : (last : Option Order) (since : History) (id : ℕ) → ((o : Order) → left_of_add last since id ≡ Some o → 1 ≤ o.shares) → IsLeftOf last since id (shares_of (left_of_add last since id))
left_over None since id some = refl
left_over (Some o) since id some =
    ⊎_elim
    (λ t. rw t ((λ e. refl), (λ e. cc)))
    (λ t. rw t (⊎_elim
    (λ u. rw u ((λ e. cc), (λ e. let same = eqb-true (taken_off id since) o.shares u in omega arith)))
    (λ u. rw u ((λ e. cc), (λ e. let l = some (less_shares (taken_off id since) o) (rw (t, u) refl) in omega arith)))
    (cases_Bool (eqb (taken_off id since) o.shares))))
    (cases_Bool (clear_among o.symbol since))

volume_in_row : (s : ℕ) (x : Option SymbolRow) → volume_in x ≡ (row_or_new s x).volume
volume_in_row s None = refl
volume_in_row s (Some r) = refl

value_in_row : (s : ℕ) (x : Option SymbolRow) → value_in x ≡ row_worth (row_or_new s x)
value_in_row s None = refl
value_in_row s (Some r) = refl

once : (x : Option Execution) → broken_times x ≤ 1
once None = omega arith
once (Some e) = grind (arith, nat_tests)

module _ (h : History) (d : Day) (st : Stands h d) where
  row_by_log : (s : ℕ) → row_stored s d.executions.rows ≡ row_of s (volume_of s h) (value_of s h)
  row_by_log s = same-row s _ _ _ _ (stored-traded h d st (λ e. e.shares) s) (stored-traded h d st execution_worth s)

  row_says : (s : ℕ) → row_or_new s (row_in s d) ≡ row_of s (volume_of s h) (value_of s h)
  row_says s = row-now h d.executions.rows d.symbols.rows st.rows s (row_in s d) refl ∙ row_by_log s

  turnover : (s : ℕ) → IsTraded h s (volume_in (row_in s d)) (value_in (row_in s d))
  unfolding IsTraded
  turnover s = (
    volume_in_row s (row_in s d) ∙ ap (λ r. r.volume) (row_says s),
    value_in_row s (row_in s d) ∙ ap row_worth (row_says s) ∙ parted (value_of s h),
  )

  stored-all : (w : Execution → ℕ) → sum (unless_marked w) d.executions.rows ≡ sum w (all_traded h)
  stored-all w = sym (sum-those w (λ e. eqb (times_broken e.id h) 0) (fills h) ∙ st.fills.same w)

  market : IsMarket h (market_in d)
  unfolding IsMarket
  market = (
    all-shares h d.executions.rows d.symbols.rows st.rows st.fills.narrow (few h d st _ st.fills.count) ∙ stored-all (λ e. e.shares),
    all-worth h d.executions.rows d.symbols.rows st.rows st.fills.narrow (few h d st _ st.fills.count) ∙ stored-all execution_worth,
  )

-- What is logged, a day stands for.

opened : (d : Day) → IsOpening d → Stands [] d
unfolding logged_order logged_execution
opened d o =
    let none = o.accepted in
    let limit = o.day_limit in
    record {
      count = none;
      day_limit = limit;
      within = omega arith;
      orders = rw o.orders (record { rising = tt; narrow = tt; count = omega arith; each = λ id. refl; balance = λ s. refl });
      fills = rw o.executions (record { rising = tt; narrow = tt; count = omega arith; each = λ x. record { times = refl; is = refl }; same = λ w. refl });
      rows = rw (o.executions, o.symbols) (record { rising = tt; needed = tt; each = λ s. refl });
    }

-- and each message got its answer
abbrev Follows : History → Day → Type 0
Follows h d = Stands h d × IsAnswered h

module _ (line : List ℕ) (log : Log) (d : Day) (before : Follows (history log) d) where
  by_event : (m : Message) → line_message line ≡ Ok m → (p : Result (Unit {0}) LedgerFault) → permitted (event_of m) d ≡ p
      → Follows (history (line_put line (or_refused p (outcome (event_of m) d)) ∷ log)) (or_same p (counted (after (event_of m) d)) d)
  by_event m is (Err f) permits = before
  by_event m is (Ok u) permits =
      let st = before.0 in
      let ok = passed (leb d.day_limit d.accepted) _ (allowed (event_of m) d) permits in
      let room = leb-false d.day_limit d.accepted ok.0 in
      let fits = line-fits line m is in
      let now = step (history log) d st room (event_of m) fits ok.1 in
      rw is (now, (event-answer (history log) d st room (event_of m) fits ok.1 now, before.1))

  by_line : (r : Result Message MessageFault) → line_message line ≡ r → Follows (history (line_put line (message_answer r d) ∷ log)) (message_after r d)
  by_line (Ok m) is = by_event m is (permitted (event_of m) d) refl
  by_line (Err f) is = before

  line_follows : Follows (history (line_put line (answer line d) ∷ log)) (next line d)
  unfolding answer next
  line_follows = by_line (line_message line) refl

call_follows : (call : Call) (log : Log) (d : Day) → Follows (history log) d → Follows (then_called call (call_answer call d) (history log)) (call_left call d)
call_follows (line text) log d before = line_follows text log d before
call_follows (question asked) log d before = before

pub logged_follows : (log : Log) (d : Day) → Logged log d → Follows (history log) d
logged_follows [] d l = (opened d l, tt)
logged_follows (e ∷ log) d l = rw (l.2, l.3) (call_follows e.call log l.0 (logged_follows log l.0 l.1))

pub every_log : EveryLog
unfolding IsBalanced IsLeft logged_order logged_row
every_log log d l =
    let all = logged_follows log d l in
    let st = all.0 in
    let os = st.orders in
    record {
      shares_balance = λ s. let b = os.balance s in let r = resting d.orders.rows os.narrow (few (history log) d st _ os.count) s in omega arith;
      orders_add_up = λ id.
          rw (os.each id)
          (left_over (last_add id (history log)) (since_add id (history log)) id
          (λ o is. (found-each order_key NarrowOrder id d.orders.rows o os.narrow (os.each id ∙ is)).least));
      turnover_adds_up = turnover (history log) d st;
      none_broken_twice = λ x. rw ((st.fills.each x).times) (once (lookup execution_key x d.executions.rows));
      orders_as_added = os.each;
      executions_as_accepted = λ x. (st.fills.each x).is;
      rows_as_traded = λ s. st.rows.each s ∙ rw (row_by_log (history log) d st s) refl;
      market_adds_up = market (history log) d st;
      accepted_are_counted = st.count;
      orders_are_counted = λ p. let n = few (history log) d st _ os.count in let l = length-those p d.orders.rows in omega arith;
      answers_add_up = all.1;
      executions_have_rows = λ x e is.
          let needed = found-each execution_key (λ f. row_needed f.symbol (history log) ≡ true) x d.executions.rows e st.rows.needed is in
          rw (st.rows.each e.symbol) (rw needed refl);
    }
