-- What each accepted message leaves of the executions and trades.
use Rattle.std.proofs.Common.{◌≡◌, ℕ, ◌+◌, ◌%◌, ◌^◌, ◌<◌, true, false, cond, eqb, List, [], ◌∷◌, is_some, Some, None, Option, refl, sym, ap, ◌∙◌, subst, ⊎_elim, arith}
use Rattle.std.proofs.lemmas.Bool.{cases_eq, ne_eqb, eq-eqb}
use Rattle.std.proofs.lemmas.Bool.Decides.{nat_tests}
use Rattle.records.specs.declared.execution.Execution.{Execution}
use Rattle.records.specs.Keys.{execution_key}
use Rattle.store.specs.Lists.{Each, Rising, lookup, holds, placed, replaced, sum}
use Rattle.store.proofs.Inserting.{absent-unheld}
use Rattle.store.proofs.Keyed.{lookup_absent}
use Rattle.store.proofs.Placed.{each_placed, length-placed}
use Rattle.store.proofs.Ruling.{found-key, found-each, each-replaced, length-replaced}
use Rattle.day_rules.specs.declared.outcome.Outcome.{Outcome}
use Rattle.day_rules.specs.Events.{Event, breaks}
use Rattle.day_rules.specs.Rules.{marked}
use Rattle.day_rules.specs.Words.{History, fills, then_fill, breaks_of, times_broken, fill_with, marked_if, logged_execution}
use Rattle.day_rules.proofs.Changed.{placing, exchanging, by-key}
use Rattle.day_rules.proofs.Standing.{NarrowFill, broken_times, unless_broken, unless_marked, Told, FillsStand, said, own_key}
use Rattle.day_rules.proofs.Sums.{sum-same, sum-placed, each-all}

-- what is counted of all but one ID
abbrev all_but : ℕ → (Execution → ℕ) → Execution → ℕ
all_but x w e = cond (eqb x e.id) 0 (w e)

-- one key is one ID
same_id : (r y : Execution) → NarrowFill r → NarrowFill y → execution_key y ≡ execution_key r → r.id ≡ y.id
same_id r y n m e = omega arith

-- marking one leaves the others counted
module _ (w : Execution → ℕ) (r : Execution) (fits : NarrowFill r) (is_broken : r.broken ≡ true) where
  counted_apart : (y : Execution) (ys : List Execution) → Each NarrowFill ys → r.id ≡ y.id → Each (λ z. execution_key y < execution_key z) ys → sum (unless_marked (all_but r.id w)) ys ≡ sum (unless_marked w) ys
  counted_apart y [] n e h = refl
  counted_apart y (z ∷ zs) n e h =
      let rest = counted_apart y zs n.1 e h.1 in
      let above = h.0 in
      let other : eqb r.id z.id ≡ false = ne_eqb r.id z.id (λ s. omega (arith, ap (λ k. k % 2 ^ 64) (sym e ∙ s))) in
      rw other (omega arith)

  sum-marked : (es : List Execution) → Rising execution_key es → Each NarrowFill es → sum (unless_marked (all_but r.id w)) es ≡ sum (unless_marked w) (replaced execution_key r es)
  sum-marked [] up n = refl
  sum-marked (y ∷ ys) up n =
      let narrow = n.0 in
      ⊎_elim
      (λ e.
      let same = same_id r y fits narrow e in
      let rest = counted_apart y ys n.1 same up.0 in
      rw (eq-eqb (execution_key y) (execution_key r) e, eq-eqb r.id y.id same, is_broken) (grind (arith, nat_tests)))
      (λ e.
      let other : eqb r.id y.id ≡ false = ne_eqb r.id y.id (λ s. e (ap (λ k. k % 2 ^ 64) (sym s))) in
      rw (ne_eqb (execution_key y) (execution_key r) e, other) (ap (λ k. unless_marked w y + k) (sum-marked ys up.1 n.1)))
      (cases_eq (execution_key y) (execution_key r))

-- what was never broken is not marked
unmarked : (x : Option Execution) → marked_if 0 x ≡ x
unmarked None = refl
unmarked (Some e) = refl

module _ (h : History) (es : List Execution) (st : FillsStand h es) (answered : Outcome) where
  -- a message that breaks nothing
  abbrev Unbreaking : Event → Type 0
  Unbreaking ev = (x : ℕ) → breaks_of x ev ≡ 0

  times_same : (x : ℕ) (ev : Event) → breaks_of x ev ≡ 0 → times_broken x (said ev answered ∷ h) ≡ times_broken x h
  times_same x ev u = omega arith

  -- a message that says nothing of an ID
  still_told : (x : ℕ) (ev : Event) → breaks_of x ev ≡ 0 → fill_with x (then_fill ev h (fills h)) ≡ fill_with x (fills h) → (found : Option Execution) → Told h x found → Told (said ev answered ∷ h) x found
  unfolding logged_execution
  still_told x ev u same found t = record { times = times_same x ev u ∙ t.times; is = t.is ∙ rw (times_same x ev u, same) refl }

  same_fills : (w : Execution → ℕ) (ev : Event) → Unbreaking ev → (fs : List Execution) → sum (unless_broken w (said ev answered ∷ h)) fs ≡ sum (unless_broken w h) fs
  same_fills w ev u fs =
      sum-same (unless_broken w (said ev answered ∷ h)) (unless_broken w h) fs (each-all _ (λ e. ap (λ t. cond (eqb t 0) (w e) 0) (times_same e.id ev (u e.id))) fs)

  -- one that is no execution, trade or break
  pub pass-stands : (ev : Event) → Unbreaking ev → then_fill ev h (fills h) ≡ fills h → FillsStand (said ev answered ∷ h) es
  pass-stands ev u no_fill = record {
    rising = st.rising;
    narrow = st.narrow;
    count = let c = st.count in omega arith;
    each = λ x. still_told x ev (u x) (ap (fill_with x) no_fill) (lookup execution_key x es) (st.each x);
    same = λ w. rw no_fill (same_fills w ev u (fills h) ∙ st.same w);
  }

  -- an execution or a trade is stored
  pub fill-stands : (ev : Event) → Unbreaking ev → (e : Execution) → then_fill ev h (fills h) ≡ e ∷ fills h → NarrowFill e → e.broken ≡ false → holds execution_key e.id es ≡ false
      → FillsStand (said ev answered ∷ h) (placed execution_key e es)
  unfolding logged_execution
  fill-stands ev u e fill fits unbroken free =
      let none : lookup execution_key e.id es ≡ None = lookup_absent execution_key e.id es (absent-unheld execution_key e.id es free) in
      let never : times_broken e.id (said ev answered ∷ h) ≡ 0 = times_same e.id ev (u e.id) ∙ (st.each e.id).times ∙ ap broken_times none in
      let changed = placing execution_key e.id es st.rising e (own_key e.id fits.id) free in
      record {
        rising = changed.rising;
        narrow = each_placed execution_key NarrowFill e es fits st.narrow;
        count = let c = st.count in let l = length-placed execution_key e es in omega arith;
        each = by-key execution_key e.id es (Told (said ev answered ∷ h)) (Some e) (placed execution_key e es) changed
            (record { times = never ∙ rw unbroken refl; is = rw (fill, never, eq-eqb e.id e.id refl) refl })
            (λ x m. still_told x ev (u x) (ap (fill_with x) fill ∙ rw (ne_eqb e.id x m) refl) (lookup execution_key x es) (st.each x));
        same = λ w.
            let more = sum-placed (unless_marked w) execution_key e es in
            let rest = same_fills w ev u (fills h) ∙ st.same w in
            let one : unless_broken w (said ev answered ∷ h) e ≡ unless_marked w e = rw (never, unbroken) refl in
            rw fill (omega arith);
      }

  -- one is broken
  module _ (x : ℕ) (e : Execution) (found : lookup execution_key x es ≡ Some e) (unbroken : e.broken ≡ false) where
    fits : NarrowFill e
    fits = found-each execution_key NarrowFill x es e st.narrow found

    its_id : e.id ≡ x
    its_id = sym (own_key e.id fits.id) ∙ found-key execution_key x es e found

    once_more : (w : Execution → ℕ) (f : Execution) → unless_broken w (said (breaks x) answered ∷ h) f ≡ unless_broken (all_but x w) h f
    once_more w f = grind (arith, nat_tests)

    its_mark : Told (said (breaks x) answered ∷ h) x (Some (marked e))
    unfolding logged_execution
    its_mark =
        let t : Told h x (Some e) = subst (Told h x) found (st.each x) in
        let never : times_broken x h ≡ 0 = t.times ∙ rw unbroken refl in
        let accepted : Some e ≡ fill_with x (fills h) = t.is ∙ rw never (unmarked (fill_with x (fills h))) in
        let once : times_broken x (said (breaks x) answered ∷ h) ≡ 1 = rw (eq-eqb x x refl, never) refl in
        record { times = once; is = rw once (ap (marked_if 1) accepted) }

    pub break-stands : FillsStand (said (breaks x) answered ∷ h) (replaced execution_key (marked e) es)
    break-stands =
        let f = fits in
        let narrow : NarrowFill (marked e) = record { id = f.id; symbol = f.symbol; price = f.price; shares = f.shares } in
        let changed = exchanging execution_key x es st.rising (marked e) (found-key execution_key x es e found) (ap is_some found) in
        record {
          rising = changed.rising;
          narrow = each-replaced execution_key NarrowFill (marked e) es narrow st.narrow;
          count = let c = st.count in let l = length-replaced execution_key (marked e) es in omega arith;
          each = by-key execution_key x es (Told (said (breaks x) answered ∷ h)) (Some (marked e)) (replaced execution_key (marked e) es) changed its_mark
              (λ y m. still_told y (breaks x) (rw (ne_eqb x y m) refl) refl (lookup execution_key y es) (st.each y));
          same = λ w.
              sum-same (unless_broken w (said (breaks x) answered ∷ h)) (unless_broken (all_but x w) h) (fills h) (each-all _ (once_more w) (fills h))
              ∙ st.same (all_but x w)
              ∙ ap (λ k. sum (unless_marked (all_but k w)) es) (sym its_id)
              ∙ sum-marked w (marked e) narrow refl es st.rising st.narrow;
        }
