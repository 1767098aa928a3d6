-- What each accepted message leaves of the symbols' rows.
use Rattle.std.proofs.Common.{◌≡◌, ℕ, ◌+◌, ◌-◌, ◌*◌, ◌/◌, ◌%◌, ◌^◌, ◌<◌, ◌≤◌, true, false, cond, eqb, not, ◌&&◌, ◌||◌, List, [], ◌∷◌, length, is_some, Some, None, Option, refl, sym, ap, ◌∙◌, subst, ⊎_elim, inl, inr, ◌⊎◌, arith}
use Rattle.std.proofs.Math.Nat.{mul-le-mul, mul-le-mul_left}
use Rattle.std.proofs.Math.Bool.{or-true}
use Rattle.std.proofs.lemmas.Bool.{cases_eq, cases_Bool, ne_eqb, eq-eqb}
use Rattle.std.proofs.lemmas.Bool.Decides.{nat_tests}
use Rattle.records.specs.declared.order.Order.{Order}
use Rattle.records.specs.declared.execution.Execution.{Execution}
use Rattle.records.specs.declared.symbol_row.SymbolRow.{SymbolRow}
use Rattle.records.specs.Keys.{execution_key, symbol_key}
use Rattle.store.specs.Lists.{Each, Rising, lookup, holds, placed, replaced, sum}
use Rattle.store.specs.Models.{Model, inserted}
use Rattle.store.proofs.Each.{each-so}
use Rattle.store.proofs.Placed.{each_placed, length-placed}
use Rattle.store.proofs.Ruling.{found-each, each-replaced}
use Rattle.day_rules.specs.Days.{greatest_limit}
use Rattle.day_rules.specs.Events.{Event, clears, adds, executes, cancels, trades, breaks}
use Rattle.day_rules.specs.Rows.{row_of, execution_worth, with_execution, without_execution, new_row, row_or_new}
use Rattle.day_rules.specs.Rules.{is_full, row_put, row_taken, marked}
use Rattle.day_rules.specs.Words.{History, or_added, last_add, needs_row, row_needed}
use Rattle.day_rules.proofs.Changed.{Changed, placing, exchanging, by-key}
use Rattle.day_rules.proofs.Standing.{NarrowFill, unless_marked, if_of, stored, row_stored, RowsStand, own_key}
use Rattle.day_rules.proofs.Sums.{each-all, sum-least, sum-most, sum-placed, sum-replaced}

-- What executions come to.

-- equal sums are one row
pub same-row : (s v v2 w w2 : ℕ) → v ≡ v2 → w ≡ w2 → row_of s v w ≡ row_of s v2 w2
same-row s v v2 w w2 p q = λ i. row_of s (p i) (q i)

-- a number is its two parts
pub parted : (n : ℕ) → n / 10 ^ 16 * 10 ^ 16 + n % 10 ^ 16 ≡ n
parted n = omega arith

-- the most that one execution counts
pub shares-most : (e : Execution) → NarrowFill e → e.shares ≤ 999999
shares-most e n = n.shares

pub worth-most : (e : Execution) → NarrowFill e → execution_worth e ≤ 999999 * 9999999999
worth-most e n = mul-le-mul n.shares n.price

-- what is counted of the executions of a day is small
module _ (w : Execution → ℕ) (most : ℕ) (bound : (e : Execution) → NarrowFill e → w e ≤ most) (es : List Execution) (narrow : Each NarrowFill es) (few : length es ≤ greatest_limit) where
  pub all-few : sum (unless_marked w) es ≤ most * greatest_limit
  all-few =
      let each = each-so NarrowFill (λ e. unless_marked w e ≤ most) (λ e n. let b = bound e n in grind (arith, nat_tests)) es narrow in
      let all = sum-most (unless_marked w) most es each in
      let room = mul-le-mul_left most few in
      omega arith

  stored_few : (s : ℕ) → stored w s es ≤ most * greatest_limit
  stored_few s =
      let all = all-few in
      let part = sum-least (unless_marked (if_of w s)) (unless_marked w) es (each-all _ (λ e. grind (arith, nat_tests)) es) in
      omega arith

-- of a symbol that needs no row, nothing
none_stored : (w : Execution → ℕ) (s : ℕ) (h : History) (es : List Execution) → Each (λ e. row_needed e.symbol h ≡ true) es → row_needed s h ≡ false → stored w s es ≡ 0
none_stored w s h [] n f = refl
none_stored w s h (e ∷ es) n f =
    let rest = none_stored w s h es n.1 f in
    let other : eqb e.symbol s ≡ false = ne_eqb e.symbol s (λ t. let own = n.0 in let same = ap (λ k. row_needed k h) t in cc) in
    grind (arith, nat_tests)

module _ (h : History) (es : List Execution) (rs : List SymbolRow) (st : RowsStand h es rs) where
  -- a missing row says as much as a new one
  pub row-now : (s : ℕ) (x : Option SymbolRow) → lookup symbol_key s rs ≡ x → row_or_new s x ≡ row_stored s es
  row-now s x is =
      let stands = sym is ∙ st.each s in
      ⊎_elim
      (λ t. ap (row_or_new s) (rw t at stands))
      (λ t. ap (row_or_new s) (rw t at stands) ∙ same-row s _ _ _ _ (sym (none_stored (λ e. e.shares) s h es st.needed t)) (sym (none_stored execution_worth s h es st.needed t)))
      (cases_Bool (row_needed s h))

  pub row-held : (s : ℕ) → row_needed s h ≡ true → lookup symbol_key s rs ≡ Some (row_stored s es)
  row-held s t = st.each s ∙ rw t refl

-- An execution more, or one broken.
module _ (e : Execution) (unbroken : e.broken ≡ false) (es : List Execution) where
  its_own : (w : Execution → ℕ) → unless_marked (if_of w e.symbol) e ≡ w e
  its_own w = rw (unbroken, eq-eqb e.symbol e.symbol refl) refl

  foreign : (w : Execution → ℕ) (s : ℕ) → (e.symbol ≡ s → ⊥) → unless_marked (if_of w s) e ≡ 0
  foreign w s n = rw (unbroken, ne_eqb e.symbol s n) refl

  module _ (w : Execution → ℕ) where
    more_own : stored w e.symbol (placed execution_key e es) ≡ stored w e.symbol es + w e
    more_own = let all = sum-placed (unless_marked (if_of w e.symbol)) execution_key e es in let its = its_own w in omega arith

    more_other : (s : ℕ) → (e.symbol ≡ s → ⊥) → stored w s (placed execution_key e es) ≡ stored w s es
    more_other s n = let all = sum-placed (unless_marked (if_of w s)) execution_key e es in let its = foreign w s n in omega arith

  rows_more : (s : ℕ) → (e.symbol ≡ s → ⊥) → row_stored s (placed execution_key e es) ≡ row_stored s es
  rows_more s n = same-row s _ _ _ _ (more_other (λ f. f.shares) s n) (more_other execution_worth s n)

  one_more : Each NarrowFill (placed execution_key e es) → length (placed execution_key e es) ≤ greatest_limit → with_execution e (row_stored e.symbol es) ≡ row_stored e.symbol (placed execution_key e es)
  one_more narrow few =
      let whole = parted (stored execution_worth e.symbol es) in
      same-row e.symbol _ _ _ _
      (let now = more_own (λ f. f.shares) in let small = stored_few (λ f. f.shares) 999999 shares-most (placed execution_key e es) narrow few e.symbol in omega arith)
      (let now = more_own execution_worth in let small = stored_few execution_worth (999999 * 9999999999) worth-most (placed execution_key e es) narrow few e.symbol in omega arith)

  module _ (found : lookup execution_key (execution_key e) es ≡ Some e) where
    module _ (w : Execution → ℕ) where
      less_own : stored w e.symbol (replaced execution_key (marked e) es) ≡ stored w e.symbol es - w e
      less_own = let all = sum-replaced (unless_marked (if_of w e.symbol)) execution_key (marked e) e es found in let its = its_own w in omega arith

      less_other : (s : ℕ) → (e.symbol ≡ s → ⊥) → stored w s (replaced execution_key (marked e) es) ≡ stored w s es
      less_other s n = let all = sum-replaced (unless_marked (if_of w s)) execution_key (marked e) e es found in let its = foreign w s n in omega arith

    rows_less : (s : ℕ) → (e.symbol ≡ s → ⊥) → row_stored s (replaced execution_key (marked e) es) ≡ row_stored s es
    rows_less s n = same-row s _ _ _ _ (less_other (λ f. f.shares) s n) (less_other execution_worth s n)

    pub one_less : Each NarrowFill es → length es ≤ greatest_limit → without_execution e (row_stored e.symbol es) ≡ row_stored e.symbol (replaced execution_key (marked e) es)
    one_less narrow few =
        let whole = parted (stored execution_worth e.symbol es) in
        let small = stored_few execution_worth (999999 * 9999999999) worth-most es narrow few e.symbol in
        same-row e.symbol _ _ _ _ (sym (less_own (λ f. f.shares))) (let now = less_own execution_worth in omega arith)

-- A row put in.
module _ (m : Model SymbolRow) (rising : Rising symbol_key m.rows) (r : SymbolRow) (fits : r.symbol < 2 ^ 64) where
  joining : holds symbol_key r.symbol m.rows ≡ false → is_full m ≡ false → Changed symbol_key r.symbol (Some r) m.rows (inserted symbol_key r m).rows
  joining free room =
      let key = own_key r.symbol fits in
      let free_by_key : holds symbol_key (symbol_key r) m.rows ≡ false = rw key free in
      rw free_by_key (rw room (placing symbol_key r.symbol m.rows rising r key free))

  -- over the row that there is, or where there is room for one
  put : (x : Option SymbolRow) → lookup symbol_key r.symbol m.rows ≡ x → (not (is_some x) && is_full m) ≡ false → Changed symbol_key r.symbol (Some r) m.rows (row_put x r m).rows
  put (Some old) is room = exchanging symbol_key r.symbol m.rows rising r (own_key r.symbol fits) (ap is_some is)
  put None is room = joining (ap is_some is) room

-- A message that needs no row but the symbol's.
module _ (h now_h : History) (s : ℕ) (small : s < 2 ^ 64) (needs : (j : ℕ) → row_needed j now_h ≡ (eqb s j || row_needed j h)) where
  needed_own : row_needed s now_h ≡ true
  needed_own = needs s ∙ rw (eq-eqb s s refl) refl

  needed_still : (j : ℕ) → row_needed j h ≡ true → row_needed j now_h ≡ true
  needed_still j t = needs j ∙ rw t (or-true (eqb s j))

  module _ (es : List Execution) (m : Model SymbolRow) (st : RowsStand h es m.rows) where
    changed : (now_es : List Execution) → Each (λ e. row_needed e.symbol now_h ≡ true) now_es → ((j : ℕ) → (s ≡ j → ⊥) → row_stored j now_es ≡ row_stored j es)
        → (now : List SymbolRow) → Changed symbol_key s (Some (row_stored s now_es)) m.rows now → RowsStand now_h now_es now
    changed now_es needed same now c = record {
      rising = c.rising;
      needed = needed;
      each = by-key symbol_key s m.rows (λ j x. x ≡ cond (row_needed j now_h) (Some (row_stored j now_es)) None) (Some (row_stored s now_es)) now c
          (rw needed_own refl)
          (λ j n. st.each j ∙ rw (needs j, ne_eqb s j n, same j n) refl);
    }

    all_needed : Each (λ e. row_needed e.symbol now_h ≡ true) es
    all_needed = each-so (λ e. row_needed e.symbol h ≡ true) (λ e. row_needed e.symbol now_h ≡ true) (λ e. needed_still e.symbol) es st.needed

    -- an add: a row stands for its symbol
    module _ (room : (not (holds symbol_key s m.rows) && is_full m) ≡ false) where
      standing : (x : Option SymbolRow) → lookup symbol_key s m.rows ≡ x → (not (is_some x) && is_full m) ≡ false → Changed symbol_key s (Some (row_stored s es)) m.rows (inserted symbol_key (new_row s) m).rows
      standing (Some r) is left =
          let is_held : holds symbol_key (symbol_key (new_row s)) m.rows ≡ true = rw (own_key s small) (ap is_some is) in
          rw is_held (record { rising = st.rising; found = is ∙ ap Some (row-now h es m.rows st s (Some r) is); rest = λ j n. refl })
      standing None is left =
          subst (λ q. Changed symbol_key s (Some q) m.rows (inserted symbol_key (new_row s) m).rows) (row-now h es m.rows st s None is) (joining m st.rising (new_row s) small (ap is_some is) left)

      pub add-rows : RowsStand now_h es (inserted symbol_key (new_row s) m).rows
      add-rows = changed es all_needed (λ j n. refl) _ (standing (lookup symbol_key s m.rows) refl room)

module _ (h now_h : History) (e : Execution) (unbroken : e.broken ≡ false) (fits : NarrowFill e) (needs : (j : ℕ) → row_needed j now_h ≡ (eqb e.symbol j || row_needed j h))
    (es : List Execution) (narrow : Each NarrowFill es) (m : Model SymbolRow) (st : RowsStand h es m.rows) where
  -- the row that an execution or a trade leaves
  pub row-filled : length es < greatest_limit → with_execution e (row_or_new e.symbol (lookup symbol_key e.symbol m.rows)) ≡ row_stored e.symbol (placed execution_key e es)
  row-filled few =
      let count : length (placed execution_key e es) ≤ greatest_limit = (let l = length-placed execution_key e es in omega arith) in
      ap (with_execution e) (row-now h es m.rows st e.symbol (lookup symbol_key e.symbol m.rows) refl) ∙ one_more e unbroken es (each_placed execution_key NarrowFill e es fits narrow) count

  -- an execution or a trade
  pub fill-rows : length es < greatest_limit → (not (holds symbol_key e.symbol m.rows) && is_full m) ≡ false
      → RowsStand now_h (placed execution_key e es) (row_put (lookup symbol_key e.symbol m.rows) (with_execution e (row_or_new e.symbol (lookup symbol_key e.symbol m.rows))) m).rows
  fill-rows few room =
      let found = lookup symbol_key e.symbol m.rows in
      let more = placed execution_key e es in
      subst (λ q. RowsStand now_h more (row_put found q m).rows) (sym (row-filled few))
      (changed h now_h e.symbol fits.symbol needs es m st more
      (each_placed execution_key (λ f. row_needed f.symbol now_h ≡ true) e es (needed_own h now_h e.symbol fits.symbol needs) (all_needed h now_h e.symbol fits.symbol needs es m st))
      (rows_more e unbroken es)
      _
      (put m st.rising (row_stored e.symbol more) fits.symbol found refl room))

  -- a break
  pub break-rows : length es ≤ greatest_limit → lookup execution_key (execution_key e) es ≡ Some e → RowsStand now_h (replaced execution_key (marked e) es) (row_taken e (lookup symbol_key e.symbol m.rows) m).rows
  break-rows few found =
      let now_es = replaced execution_key (marked e) es in
      let its_row = row-held h es m.rows st e.symbol (found-each execution_key (λ f. row_needed f.symbol h ≡ true) (execution_key e) es e st.needed found) in
      let r = one_less e unbroken es found narrow few in
      rw its_row
      (subst (λ q. RowsStand now_h now_es (replaced symbol_key q m.rows)) (sym r)
      (changed h now_h e.symbol fits.symbol needs es m st now_es
      (each-replaced execution_key (λ f. row_needed f.symbol now_h ≡ true) (marked e) es (needed_own h now_h e.symbol fits.symbol needs) (all_needed h now_h e.symbol fits.symbol needs es m st))
      (rows_less e unbroken es found)
      _
      (exchanging symbol_key e.symbol m.rows st.rising (row_stored e.symbol now_es) (own_key e.symbol fits.symbol) (ap is_some its_row))))

-- Which rows a message needs.

-- an order's last add needed one for its symbol
added-needs : (id : ℕ) (e : Event) (earlier : Option Order) (o : Order) → or_added id e earlier ≡ Some o → (earlier ≡ Some o) ⊎ (needs_row o.symbol e ≡ true)
added-needs id (clears s) earlier o is = inl is
added-needs id (adds p) earlier o is =
    ⊎_elim
    (λ t. let f = rw t at is in let same : p ≡ o = cc in inr (eq-eqb p.symbol o.symbol (ap (λ q. q.symbol) same)))
    (λ t. let f = rw t at is in inl f)
    (cases_Bool (eqb p.id id))
added-needs id (executes i n x) earlier o is = inl is
added-needs id (cancels i n) earlier o is = inl is
added-needs id (trades e) earlier o is = inl is
added-needs id (breaks x) earlier o is = inl is

pub added-row : (h : History) (id : ℕ) (o : Order) → last_add id h ≡ Some o → row_needed o.symbol h ≡ true
added-row [] id o is = cc
added-row (a ∷ h) id o is =
    ⊎_elim
    (λ l. rw (added-row h id o l) (or-true (needs_row o.symbol a.event)))
    (λ t. rw t refl)
    (added-needs id a.event (last_add id h) o is)

-- where one stands, none more is needed
pub none-more : (h : History) (s : ℕ) → row_needed s h ≡ true → (j : ℕ) → row_needed j h ≡ (eqb s j || row_needed j h)
none-more h s t j =
    ⊎_elim
    (λ e. rw (eq-eqb s j e) (ap (λ k. row_needed k h) (sym e) ∙ t))
    (λ n. rw (ne_eqb s j n) refl)
    (cases_eq s j)

-- a message that needs none
pub pass-rows : (h now_h : History) (es : List Execution) (rs : List SymbolRow) → ((j : ℕ) → row_needed j now_h ≡ row_needed j h) → RowsStand h es rs → RowsStand now_h es rs
pass-rows h now_h es rs same st = record {
  rising = st.rising;
  needed = each-so (λ e. row_needed e.symbol h ≡ true) (λ e. row_needed e.symbol now_h ≡ true) (λ e t. same e.symbol ∙ t) es st.needed;
  each = λ j. st.each j ∙ rw (same j) refl;
}
