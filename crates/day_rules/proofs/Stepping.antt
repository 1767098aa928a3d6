-- Each accepted message leaves a day that the log stands for.
use Rattle.std.proofs.Common.{◌≡◌, ℕ, ◌<◌, ◌≤◌, Bool, true, false, cond, eqb, ltb, ◌||◌, ◌∷◌, length, Some, None, Ok, Err, Option, Result, refl, sym, ap, ◌∙◌, arith}
use Rattle.std.proofs.lemmas.Bool.{cond_both, eqb-true, eqb-false, ltb-false}
use Rattle.records.specs.declared.order.Order.{Order}
use Rattle.records.specs.declared.execution.Execution.{Execution}
use Rattle.records.specs.Keys.{order_key, execution_key}
use Rattle.store.specs.Lists.{lookup, holds, placed}
use Rattle.store.specs.Models.{Model, holding, inserted, replacing, removing}
use Rattle.store.proofs.Ruling.{found-key, found-each}
use Rattle.day_rules.specs.declared.fault.LedgerFault.{LedgerFault}
use Rattle.day_rules.specs.declared.outcome.Outcome.{Outcome}
use Rattle.day_rules.specs.Days.{Day, with_orders, greatest_limit}
use Rattle.day_rules.specs.Events.{Event, clears, adds, executes, cancels, trades, breaks}
use Rattle.day_rules.specs.Rules.{order_in, execution_in, is_full, lacks_row, may_rest, shares_at_hand, may_trade, may_execute, may_cancel, unbroken, may_break, allowed, less_shares, reduced, fill_of, filled, executed, cancelled, broken, after, cleared, outcome, counted}
use Rattle.day_rules.specs.Words.{History, fills, then_fill, breaks_of, row_needed}
use Rattle.day_rules.proofs.Standing.{NarrowFill, NarrowOrder, EventFits, OrdersStand, FillsStand, RowsStand, Stands, said, own_key}
use Rattle.day_rules.proofs.Orders.{Resting, rests-by, Takes, Spares, add-stands, lessened, emptied, clear-stands, spare-stands}
use Rattle.day_rules.proofs.Fills.{pass-stands, fill-stands, break-stands}
use Rattle.day_rules.proofs.Rows.{add-rows, fill-rows, break-rows, pass-rows, added-row, none-more}
use Rattle.day_rules.proofs.Depths.{clear_reports}

-- a check that passed
pub passed : {F : Type 0} (b : Bool) (f : F) (r : Result (Unit {0}) F) → cond b (Err f) r ≡ Ok tt → (b ≡ false) × (r ≡ Ok tt)
passed true f r e = cc
passed false f r e = (refl, e)

-- a record that is not held, and for which there is room
joins : {X : Type 0} (key : X → ℕ) (r : X) (m : Model X) → holds key (key r) m.rows ≡ false → is_full m ≡ false → inserted key r m ≡ holding (placed key r m.rows) m
joins key r m free room = rw (free, room) refl

pub taken-by-execution : (i n x : ℕ) → Takes i n (executes i n x)
taken-by-execution i n x = record { adds_none = λ id. refl; clears_none = λ s. refl; brings_none = λ s. refl; reports_none = λ s a. refl; off = λ id. refl; off_its = λ s h. refl }

pub taken-by-cancel : (i n : ℕ) → Takes i n (cancels i n)
taken-by-cancel i n = record { adds_none = λ id. refl; clears_none = λ s. refl; brings_none = λ s. refl; reports_none = λ s a. refl; off = λ id. refl; off_its = λ s h. refl }

spared-by-trade : (e : Execution) → Spares (trades e)
spared-by-trade e = record { skips = λ id. (refl, refl); clears_none = λ s. refl; brings_none = λ s. refl; reports_none = λ s a. refl; off_none = λ s h. refl }

spared-by-break : (x : ℕ) → Spares (breaks x)
spared-by-break x = record { skips = λ id. (refl, refl); clears_none = λ s. refl; brings_none = λ s. refl; reports_none = λ s a. refl; off_none = λ s h. refl }

module _ (h : History) (d : Day) (st : Stands h d) where
  -- there are no more records than messages
  pub few : (n : ℕ) → n ≤ length h → n ≤ greatest_limit
  few n l = let c = st.count in let w = st.within in omega arith

module _ (h : History) (d : Day) (st : Stands h d) (room : d.accepted < d.day_limit) where
  -- the orders, the executions and the rows stand, each for itself
  stand : (e : Event) (answered : Outcome) (now : Day) → now.accepted ≡ d.accepted → now.day_limit ≡ d.day_limit
      → OrdersStand (said e answered ∷ h) now.orders.rows → FillsStand (said e answered ∷ h) now.executions.rows → RowsStand (said e answered ∷ h) now.executions.rows now.symbols.rows
      → Stands (said e answered ∷ h) (counted now)
  stand e answered now counts limit orders fills rows =
      let c = st.count in
      let l = st.day_limit in
      record { count = omega arith; day_limit = omega arith; within = omega arith; orders = orders; fills = fills; rows = rows }

  pub few_fills : length d.executions.rows < greatest_limit
  few_fills = let n = st.fills.count in let c = st.count in let l = st.day_limit in omega arith

  after_clear : (c : ℕ) → Stands (said (clears c) (cleared c d) ∷ h) (counted (after (clears c) d))
  after_clear c =
      stand (clears c) (cleared c d) (after (clears c) d) refl refl
      (clear-stands h d.orders.rows st.orders (cleared c d) c (clear_reports d.orders.rows st.orders.narrow (few h d st _ st.orders.count) c))
      (pass-stands h d.executions.rows st.fills (cleared c d) (clears c) (λ x. refl) refl)
      (pass-rows h _ d.executions.rows d.symbols.rows (λ j. refl) st.rows)

  after_add : (o : Order) (answered : Outcome) → NarrowOrder o → may_rest o d ≡ Ok tt → Stands (said (adds o) answered ∷ h) (counted (after (adds o) d))
  after_add o answered fits ok =
      let free = passed (holds order_key o.id d.orders.rows) _ _ ok in
      let place = passed (is_full d.orders) _ _ free.1 in
      let row = passed (lacks_row o.symbol d) _ _ place.1 in
      let free_by_key : holds order_key (order_key o) d.orders.rows ≡ false = rw (own_key o.id fits.id) free.0 in
      stand (adds o) answered (after (adds o) d) refl refl
      (rw (joins order_key o d.orders free_by_key place.0) (add-stands h d.orders.rows st.orders answered o fits free.0))
      (pass-stands h d.executions.rows st.fills answered (adds o) (λ x. refl) refl)
      (add-rows h (said (adds o) answered ∷ h) o.symbol fits.symbol (λ j. refl) d.executions.rows d.symbols st.rows row.0)

  -- an execution or a trade that may be stored is
  pub joined_fill : (f : Execution) → NarrowFill f → may_trade f.id f.symbol d ≡ Ok tt → inserted execution_key f d.executions ≡ holding (placed execution_key f d.executions.rows) d.executions
  joined_fill f fits ok =
      let free = passed (holds execution_key f.id d.executions.rows) _ _ ok in
      let place = passed (is_full d.executions) _ _ free.1 in
      let free_by_key : holds execution_key (execution_key f) d.executions.rows ≡ false = rw (own_key f.id fits.id) free.0 in
      joins execution_key f d.executions free_by_key place.0

  -- an execution or a trade, by what it leaves of the orders
  after_fill : (e : Event) (answered : Outcome) (m : Model Order) (f : Execution) → OrdersStand (said e answered ∷ h) m.rows → ((x : ℕ) → breaks_of x e ≡ 0) → then_fill e h (fills h) ≡ f ∷ fills h
      → ((j : ℕ) → row_needed j (said e answered ∷ h) ≡ (eqb f.symbol j || row_needed j h)) → NarrowFill f → f.broken ≡ false → may_trade f.id f.symbol d ≡ Ok tt → Stands (said e answered ∷ h) (counted (filled f (with_orders m d)))
  after_fill e answered m f orders no_break is needs fits whole ok =
      let free = passed (holds execution_key f.id d.executions.rows) _ _ ok in
      let place = passed (is_full d.executions) _ _ free.1 in
      let row = passed (lacks_row f.symbol d) _ _ place.1 in
      let joined = joined_fill f fits ok in
      stand e answered (filled f (with_orders m d)) refl refl
      orders
      (rw joined (fill-stands h d.executions.rows st.fills answered e no_break f is fits whole free.0))
      (rw joined (fill-rows h (said e answered ∷ h) f whole fits needs d.executions.rows st.fills.narrow d.symbols st.rows few_fills row.0))

  -- shares taken off an order
  module _ (i n : ℕ) (o : Order) (e : Event) (takes : Takes i n e) (answered : Outcome) (found : order_in i d ≡ Some o) (enough : ltb o.shares n ≡ false) where
    few_left : OrdersStand (said e answered ∷ h) (reduced n o d).orders.rows
    few_left =
        let l = ltb-false o.shares n enough in
        cond_both (eqb o.shares n) (removing order_key o.id d.orders) (replacing order_key (less_shares n o) d.orders) (λ m. OrdersStand (said e answered ∷ h) m.rows)
        (λ t. emptied h d.orders.rows st.orders answered i n o e takes found l (sym (eqb-true o.shares n t)))
        (λ t. lessened h d.orders.rows st.orders answered i n o e takes found l (λ m. eqb-false o.shares n t (sym m)))

  pub at_hand : (b : Bool) (f : LedgerFault) (o : Order) (x : ℕ) → may_execute x d (cond b (Err f) (Ok o)) ≡ Ok tt → (b ≡ false) × (may_trade x o.symbol d ≡ Ok tt)
  at_hand true f o x e = cc
  at_hand false f o x e = (refl, e)

  after_execution : (i n x : ℕ) (answered : Outcome) → EventFits (executes i n x) → (found : Option Order) → order_in i d ≡ found → may_execute x d (shares_at_hand n found) ≡ Ok tt
      → Stands (said (executes i n x) answered ∷ h) (counted (executed n x found d))
  after_execution i n x answered fits None is ok = cc
  after_execution i n x answered fits (Some o) is ok =
      let a = at_hand (ltb o.shares n) _ o x ok in
      let rests : Resting h i o = rests-by h i o (sym (st.orders.each i) ∙ is) in
      let narrow = found-each order_key NarrowOrder i d.orders.rows o st.orders.narrow is in
      after_fill (executes i n x) answered (reduced n o d).orders (fill_of x n o)
      (few_left i n o (executes i n x) (taken-by-execution i n x) answered is a.0)
      (λ y. refl)
      (rw rests.last (ap (λ p. fill_of x n p ∷ fills h) (sym rests.less)))
      (none-more h o.symbol (ap (λ p. row_needed p.symbol h) rests.less ∙ added-row h i rests.added rests.last))
      (record { id = fits.2; symbol = narrow.symbol; price = narrow.price; shares = fits.1 })
      refl
      a.1

  pub in_hand : (b : Bool) (f : LedgerFault) (o : Order) → may_cancel (cond b (Err f) (Ok o)) ≡ Ok tt → b ≡ false
  in_hand true f o e = cc
  in_hand false f o e = refl

  after_cancel : (i n : ℕ) (answered : Outcome) (found : Option Order) → order_in i d ≡ found → may_cancel (shares_at_hand n found) ≡ Ok tt
      → Stands (said (cancels i n) answered ∷ h) (counted (cancelled n found d))
  after_cancel i n answered None is ok = cc
  after_cancel i n answered (Some o) is ok =
      stand (cancels i n) answered (reduced n o d) refl refl
      (few_left i n o (cancels i n) (taken-by-cancel i n) answered is (in_hand (ltb o.shares n) _ o ok))
      (pass-stands h d.executions.rows st.fills answered (cancels i n) (λ x. refl) refl)
      (pass-rows h _ d.executions.rows d.symbols.rows (λ j. refl) st.rows)

  after_trade : (e : Execution) (answered : Outcome) → NarrowFill e → e.broken ≡ false → may_trade e.id e.symbol d ≡ Ok tt → Stands (said (trades e) answered ∷ h) (counted (filled e d))
  after_trade e answered fits whole ok =
      after_fill (trades e) answered d.orders e (spare-stands h d.orders.rows st.orders answered (trades e) (spared-by-trade e)) (λ x. refl) refl (λ j. refl) fits whole ok

  pub still_whole : (b : Bool) (f : LedgerFault) (e : Execution) → may_break (cond b (Err f) (Ok e)) ≡ Ok tt → b ≡ false
  still_whole true f e is = cc
  still_whole false f e is = refl

  after_break : (x : ℕ) (answered : Outcome) (found : Option Execution) → execution_in x d ≡ found → may_break (unbroken found) ≡ Ok tt
      → Stands (said (breaks x) answered ∷ h) (counted (broken found d))
  after_break x answered None is ok = cc
  after_break x answered (Some e) is ok =
      let whole = still_whole e.broken _ e ok in
      let found_by_key : lookup execution_key (execution_key e) d.executions.rows ≡ Some e = rw (found-key execution_key x d.executions.rows e is) is in
      let narrow = found-each execution_key NarrowFill x d.executions.rows e st.fills.narrow is in
      let needed = found-each execution_key (λ f. row_needed f.symbol h ≡ true) x d.executions.rows e st.rows.needed is in
      let few = few_fills in
      stand (breaks x) answered (broken (Some e) d) refl refl
      (spare-stands h d.orders.rows st.orders answered (breaks x) (spared-by-break x))
      (break-stands h d.executions.rows st.fills answered x e is whole)
      (break-rows h (said (breaks x) answered ∷ h) e whole narrow (none-more h e.symbol needed) d.executions.rows st.fills.narrow d.symbols st.rows (omega arith) found_by_key)

  -- any message
  pub step : (e : Event) → EventFits e → allowed e d ≡ Ok tt → Stands (said e (outcome e d) ∷ h) (counted (after e d))
  step (clears c) fits ok = after_clear c
  step (adds o) fits ok = after_add o _ fits ok
  step (executes i n x) fits ok = after_execution i n x _ fits (order_in i d) refl ok
  step (cancels i n) fits ok = after_cancel i n _ (order_in i d) refl ok
  step (trades e) fits ok = after_trade e _ fits.0 fits.1 ok
  step (breaks x) fits ok = after_break x _ (execution_in x d) refl ok
