-- What each accepted message leaves of the orders.
use Rattle.std.proofs.Common.{◌≡◌, ℕ, ◌+◌, ◌-◌, ◌≤◌, Bool, true, false, cond, eqb, ◌||◌, List, [], ◌∷◌, length, is_some, Some, None, Option, refl, sym, ap, ◌∙◌, subst, ⊎_elim, arith}
use Rattle.std.proofs.Math.Bool.{or-true}
use Rattle.std.proofs.lemmas.Bool.{cases_eq, cases_Bool, ne_eqb, eq-eqb, eqb-true, eqb-false}
use Rattle.std.proofs.lemmas.Bool.Decides.{nat_tests}
use Rattle.records.specs.declared.order.Order.{Order}
use Rattle.records.specs.Keys.{order_key}
use Rattle.store.proofs.Placed.{each_placed, length-placed}
use Rattle.store.specs.Rules.{unless_picked}
use Rattle.store.proofs.Ruling.{found-key, found-each, each-replaced, length-replaced, each-without, lookup-unpicked}
use Rattle.store.proofs.Sweeps.{each-others, rising-others}
use Rattle.store.specs.Lists.{Each, lookup, holds, placed, replaced, without, others, sum}
use Rattle.book.specs.Books.{is_of}
use Rattle.day_rules.specs.declared.outcome.Outcome.{Outcome}
use Rattle.day_rules.specs.Events.{Event, clears, adds, executes, cancels, trades, breaks}
use Rattle.day_rules.specs.Laws.{shares_of}
use Rattle.day_rules.specs.Rules.{less_shares}
use Rattle.day_rules.specs.Words.{History, Accepted, or_added, last_add, is_add, since_add, is_clear, clear_among, off_order, brought, off_symbol, if_symbol, reported, taken_off, left_of_add, logged_order}
use Rattle.day_rules.proofs.Changed.{Changed, placing, exchanging, taking, by-key}
use Rattle.day_rules.proofs.Standing.{NarrowOrder, shares_if, OrdersStand, said, own_key}
use Rattle.day_rules.proofs.Sums.{sum-placed, sum-replaced, sum-without, length-without, length-others}

-- One order.

-- a message that adds no order of the ID leaves the last one
unadded : (id : ℕ) (e : Event) (earlier : Option Order) → is_add id e ≡ false → or_added id e earlier ≡ earlier
unadded id (clears s) earlier n = refl
unadded id (adds o) earlier n = rw n refl
unadded id (executes i m x) earlier n = refl
unadded id (cancels i m) earlier n = refl
unadded id (trades e) earlier n = refl
unadded id (breaks x) earlier n = refl

-- what is left of an order, if its symbol is not cleared, after so many shares are taken off
abbrev pub left_if : Bool → ℕ → Order → Option Order
left_if gone n o = cond (gone || eqb n o.shares) None (Some (less_shares n o))

abbrev left_after : (ℕ → Bool) → ℕ → Option Order → Option Order
left_after cleared n None = None
left_after cleared n (Some o) = left_if (cleared o.symbol) n o

-- so many shares are there, and at least one if there is an order
abbrev Enough : ℕ → Option Order → Type 0
Enough n None = n ≡ 0
Enough n (Some o) = (1 ≤ o.shares) × (n ≤ o.shares)

-- the same order with so many shares
same_but_shares : (o : Order) (m n : ℕ) → o.shares - m ≡ n → less_shares m o ≡ record o { shares = n }
same_but_shares o m n e = λ i. record o { shares = e i }

-- nothing is taken off
untouched : (o : Order) → 1 ≤ o.shares → left_if false 0 o ≡ Some o
untouched o l = rw (ne_eqb 0 o.shares (omega arith)) (ap Some (same_but_shares o 0 o.shares (omega arith)))

none_taken : (cleared : ℕ → Bool) (n : ℕ) (x : Option Order) → ((s : ℕ) → cleared s ≡ false) → n ≡ 0 → Enough n x → left_after cleared n x ≡ x
none_taken cleared n None c z e = refl
none_taken cleared n (Some o) c z e = rw (c o.symbol, z) (untouched o e.0)

-- taken off one after the other, or all at once
both_taken : (later : Bool) (m n : ℕ) (o : Order) → n + m ≤ o.shares → 1 ≤ o.shares - m → left_if (later || false) (n + m) o ≡ left_if later n (less_shares m o)
both_taken true m n o e l = refl
both_taken false m n o e l =
    ⊎_elim
    (λ t. rw (eq-eqb (n + m) o.shares (omega arith), eq-eqb n (o.shares - m) t) refl)
    (λ t. rw (ne_eqb (n + m) o.shares (omega arith), ne_eqb n (o.shares - m) t) (ap Some (same_but_shares o (n + m) (o.shares - m - n) (omega arith))))
    (cases_eq n (o.shares - m))

one_by_one : (later : ℕ → Bool) (gone : Bool) (m n : ℕ) (o : Order) → Enough n (left_if gone m o) → left_if (later o.symbol || gone) (n + m) o ≡ left_after later n (left_if gone m o)
one_by_one later gone m n o e =
    ⊎_elim
    (λ t. rw t (rw (or-true (later o.symbol)) refl))
    (λ t.
    let f = rw t at e in
    ⊎_elim
    (λ u. let none = rw u at f in let all = eqb-true m o.shares u in rw (t, u) (rw (eq-eqb (n + m) o.shares (omega arith), or-true (later o.symbol || false)) refl))
    (λ u.
    let g = rw u at f in
    let more : 1 ≤ o.shares - m = g.0 in
    let enough : n ≤ o.shares - m = g.1 in
    rw (t, u) (both_taken (later o.symbol) m n o (omega arith) more))
    (cases_Bool (eqb m o.shares)))
    (cases_Bool gone)

-- a message that adds no order of the ID takes its shares off what was left
module _ (h : History) (a : Accepted) (id : ℕ) (none : is_add id a.event ≡ false) where
  abbrev later : Option Order → Option Order
  later x = left_after (λ s. is_clear s a.event) (off_order id a.event) x

  since_last : (last : Option Order) (since : History) → Enough (off_order id a.event) (left_of_add last since id) → left_of_add last (a ∷ since) id ≡ later (left_of_add last since id)
  since_last None since e = refl
  since_last (Some o) since e = one_by_one (λ s. is_clear s a.event) (clear_among o.symbol since) (taken_off id since) (off_order id a.event) o e

  left_later : Enough (off_order id a.event) (logged_order id h) → logged_order id (a ∷ h) ≡ later (logged_order id h)
  unfolding logged_order
  left_later e = let last = unadded id a.event (last_add id h) none in rw (last, none) (since_last (last_add id h) (since_add id h) e)

-- an order that rests: as its last accepted add had it, less what was taken off since
pub record Resting (h : History) (id : ℕ) (o : Order) : Type 0 where
  pub added : Order
  pub last : last_add id h ≡ Some added
  pub less : o ≡ less_shares (taken_off id (since_add id h)) added

is_left : (gone : Bool) (p o : Order) → cond gone None (Some p) ≡ Some o → o ≡ p
is_left true p o e = cc
is_left false p o e = cc

pub rests-by : (h : History) (id : ℕ) (o : Order) → logged_order id h ≡ Some o → Resting h id o
unfolding logged_order
rests-by h id o e = by_last (last_add id h) refl e
  where
    by_last : (last : Option Order) → last_add id h ≡ last → left_of_add last (since_add id h) id ≡ Some o → Resting h id o
    by_last None l e = cc
    by_last (Some p) l e = record { added = p; last = l; less = is_left _ (less_shares (taken_off id (since_add id h)) p) o e }

-- All orders.

-- a message that says nothing of an ID's order
abbrev Skips : Event → ℕ → Type 0
Skips e id = (is_add id e ≡ false) × (off_order id e ≡ 0)

-- a message that takes so many shares off an order, and does nothing else to orders
pub record Takes (i n : ℕ) (e : Event) : Type 0 where
  pub adds_none : (id : ℕ) → is_add id e ≡ false
  pub clears_none : (s : ℕ) → is_clear s e ≡ false
  pub brings_none : (s : ℕ) → brought s e ≡ 0
  pub reports_none : (s : ℕ) (answered : Outcome) → reported s e answered ≡ 0
  pub off : (id : ℕ) → off_order id e ≡ cond (eqb i id) n 0
  pub off_its : (s : ℕ) (h : History) → off_symbol s e h ≡ if_symbol s (last_add i h) n

-- one that does nothing to orders
pub record Spares (e : Event) : Type 0 where
  pub skips : (id : ℕ) → Skips e id
  pub clears_none : (s : ℕ) → is_clear s e ≡ false
  pub brings_none : (s : ℕ) → brought s e ≡ 0
  pub reports_none : (s : ℕ) (answered : Outcome) → reported s e answered ≡ 0
  pub off_none : (s : ℕ) (h : History) → off_symbol s e h ≡ 0

-- the shares of a symbol, with those of one symbol apart
pub others_of : (c s : ℕ) (os : List Order) → sum (shares_if s) (others (is_of c) os) + cond (eqb c s) (sum (shares_if c) os) 0 ≡ sum (shares_if s) os
others_of c s [] = grind (arith, nat_tests)
others_of c s (o ∷ os) = grind (arith, nat_tests, others_of c s os)

module _ (h : History) (os : List Order) (st : OrdersStand h os) (answered : Outcome) where
  module _ (e : Event) where
    -- no more is taken off than is there
    enough : (id : ℕ) (x : Option Order) → lookup order_key id os ≡ x → off_order id e ≤ shares_of x → Enough (off_order id e) x
    enough id None is l = omega arith
    enough id (Some o) is l = let fits = found-each order_key NarrowOrder id os o st.narrow is in (fits.least, l)

    -- what is left of what was found
    left_now : (id : ℕ) (x : Option Order) → lookup order_key id os ≡ x → is_add id e ≡ false → off_order id e ≤ shares_of x
        → logged_order id (said e answered ∷ h) ≡ left_after (λ s. is_clear s e) (off_order id e) x
    left_now id x is none l =
        let same = sym (st.each id) ∙ is in
        subst (λ y. Enough (off_order id e) y → logged_order id (said e answered ∷ h) ≡ left_after (λ s. is_clear s e) (off_order id e) y) same
        (left_later h (said e answered) id none) (enough id x is l)

    unmoved : (id : ℕ) → Skips e id → ((s : ℕ) → is_clear s e ≡ false) → lookup order_key id os ≡ logged_order id (said e answered ∷ h)
    unmoved id skips stays =
        let x = lookup order_key id os in
        let none = skips.1 in
        let l : off_order id e ≤ shares_of x = omega arith in
        sym (left_now id x refl skips.0 l ∙ none_taken (λ s. is_clear s e) (off_order id e) x stays none (enough id x refl l))

    -- a change of what is found under one ID
    all-but : (i : ℕ) (x : Option Order) (now : List Order) → Changed order_key i x os now → ((s : ℕ) → is_clear s e ≡ false) → x ≡ logged_order i (said e answered ∷ h)
        → ((j : ℕ) → (i ≡ j → ⊥) → Skips e j) → (id : ℕ) → lookup order_key id now ≡ logged_order id (said e answered ∷ h)
    all-but i x now changed stays here skips = by-key order_key i os (λ j y. y ≡ logged_order j (said e answered ∷ h)) x now changed here (λ j n. unmoved j (skips j n) stays)

  -- an order comes to rest
  pub add-stands : (o : Order) → NarrowOrder o → holds order_key o.id os ≡ false → OrdersStand (said (adds o) answered ∷ h) (placed order_key o os)
  unfolding logged_order
  add-stands o fits free =
      let rests : logged_order o.id (said (adds o) answered ∷ h) ≡ Some o = rw (eq-eqb o.id o.id refl) (untouched o fits.least) in
      let changed = placing order_key o.id os st.rising o (own_key o.id fits.id) free in
      record {
        rising = changed.rising;
        narrow = each_placed order_key NarrowOrder o os fits st.narrow;
        count = let c = st.count in let l = length-placed order_key o os in omega arith;
        each = all-but (adds o) o.id (Some o) (placed order_key o os) changed (λ s. refl) (sym rests) (λ j n. (ne_eqb o.id j n, refl));
        balance = λ s. let b = st.balance s in let p = sum-placed (shares_if s) order_key o os in omega arith;
      }

  module _ (i n : ℕ) (o : Order) (e : Event) (takes : Takes i n e) (found : lookup order_key i os ≡ Some o) (enough : n ≤ o.shares) where
    rests : Resting h i o
    rests = rests-by h i o (sym (st.each i) ∙ found)

    its_key : order_key o ≡ i
    its_key = found-key order_key i os o found

    found_by_key : lookup order_key (order_key o) os ≡ Some o
    found_by_key = rw its_key found

    fits : NarrowOrder o
    fits = found-each order_key NarrowOrder i os o st.narrow found

    its_shares : (s : ℕ) → off_symbol s e h ≡ cond (eqb o.symbol s) n 0
    its_shares s = takes.off_its s h ∙ rw rests.last (ap (λ p. cond (eqb p.symbol s) n 0) (sym rests.less))

    here : off_order i e ≡ n
    here = let off = takes.off i in rw (eq-eqb i i refl) at off

    -- what the log leaves of it
    pub its_left : logged_order i (said e answered ∷ h) ≡ left_if false n o
    its_left = left_now e i (Some o) found (takes.adds_none i) (rw here enough) ∙ rw (here, takes.clears_none o.symbol) refl

    taken : (x : Option Order) (now : List Order) → Changed order_key i x os now → x ≡ left_if false n o → Each NarrowOrder now → length now ≤ length os
        → ((s : ℕ) → sum (shares_if s) now + cond (eqb o.symbol s) n 0 ≡ sum (shares_if s) os) → OrdersStand (said e answered ∷ h) now
    taken x now changed is narrow fewer total = record {
      rising = changed.rising;
      narrow = narrow;
      count = let c = st.count in omega arith;
      each = all-but e i x now changed takes.clears_none (is ∙ sym its_left) (λ j apart. (takes.adds_none j, takes.off j ∙ rw (ne_eqb i j apart) refl));
      balance = λ s.
          let b = st.balance s in
          let br = takes.brings_none s in
          let r = takes.reports_none s answered in
          let its = its_shares s in
          let t = total s in
          omega arith;
    }

    -- shares are taken off an order, and some are left
    pub lessened : (n ≡ o.shares → ⊥) → OrdersStand (said e answered ∷ h) (replaced order_key (less_shares n o) os)
    lessened some =
        let less = less_shares n o in
        let f = fits in
        taken (Some less) (replaced order_key less os)
        (exchanging order_key i os st.rising less its_key (ap is_some found))
        (rw (ne_eqb n o.shares some) refl)
        (each-replaced order_key NarrowOrder less os (record { id = f.id; symbol = f.symbol; price = f.price; shares = let l = f.shares in omega arith; least = omega arith }) st.narrow)
        (let l = length-replaced order_key less os in omega arith)
        (λ s. let t = sum-replaced (shares_if s) order_key less o os found_by_key in grind (arith, nat_tests))

    -- the last ones are
    pub emptied : n ≡ o.shares → OrdersStand (said e answered ∷ h) (without order_key o.id os)
    emptied all =
        let its = sym (own_key o.id fits.id) ∙ its_key in
        rw its
        (taken None (without order_key i os)
        (taking order_key i os st.rising)
        (rw (eq-eqb n o.shares all) refl)
        (each-without order_key NarrowOrder i os st.narrow)
        (length-without order_key i os)
        (λ s. let t = sum-without (shares_if s) order_key i o os found in grind (arith, nat_tests)))

  -- the orders of a symbol are cleared
  module _ (c : ℕ) (reports : answered.shares ≡ sum (shares_if c) os) where
    cleared : (id : ℕ) (x : Option Order) → lookup order_key id os ≡ x → lookup order_key id (others (is_of c) os) ≡ left_after (λ s. eqb c s) 0 x
    cleared id None e = lookup-unpicked order_key (is_of c) id os st.rising ∙ ap (unless_picked (is_of c)) e
    cleared id (Some o) e =
        let told : lookup order_key id (others (is_of c) os) ≡ cond (is_of c o) None (Some o) =
        lookup-unpicked order_key (is_of c) id os st.rising ∙ ap (unless_picked (is_of c)) e in
        ⊎_elim
        (λ t.
        let gone : lookup order_key id (others (is_of c) os) ≡ None = rw t at told in
        rw (eq-eqb c o.symbol (sym (eqb-true o.symbol c t))) gone)
        (λ t.
        let fits = found-each order_key NarrowOrder id os o st.narrow e in
        let stays : lookup order_key id (others (is_of c) os) ≡ Some o = rw t at told in
        stays ∙ rw (ne_eqb c o.symbol (λ s. eqb-false o.symbol c t (sym s))) (sym (untouched o fits.least)))
        (cases_Bool (is_of c o))

    pub clear-stands : OrdersStand (said (clears c) answered ∷ h) (others (is_of c) os)
    clear-stands = record {
      rising = rising-others (is_of c) order_key os st.rising;
      narrow = each-others (is_of c) NarrowOrder os st.narrow;
      count = let k = st.count in let l = length-others (is_of c) os in omega arith;
      each = λ id. cleared id (lookup order_key id os) refl ∙ sym (left_now (clears c) id (lookup order_key id os) refl refl (omega arith));
      balance = λ s.
          let b = st.balance s in
          let o = others_of c s os in
          rw reports (omega arith);
    }

  -- or no order is spoken of
  pub spare-stands : (e : Event) → Spares e → OrdersStand (said e answered ∷ h) os
  spare-stands e spares = record {
    rising = st.rising;
    narrow = st.narrow;
    count = let c = st.count in omega arith;
    each = λ id. unmoved e id (spares.skips id) spares.clears_none;
    balance = λ s.
        let b = st.balance s in
        let br = spares.brings_none s in
        let r = spares.reports_none s answered in
        let f = spares.off_none s h in
        omega arith;
  }
