-- How many orders a clear takes off, in words of the log.
use Rattle.std.proofs.Common.{◌≡◌, ℕ, ◌+◌, ◌^◌, ◌<◌, Bool, true, false, cond, eqb, List, [], ◌∷◌, length, is_some, Some, None, Option, refl, sym, ap, ◌∙◌, subst, ⊎_elim, arith}
use Rattle.std.proofs.lemmas.Bool.{cases_eq, cases_Bool, eq-eqb, ne_eqb}
use Rattle.std.proofs.lemmas.Bool.Decides.{nat_tests}
use Rattle.records.specs.declared.order.Order.{Order}
use Rattle.records.specs.Keys.{order_key}
use Rattle.store.proofs.Each.{absent-higher}
use Rattle.store.proofs.Keyed.{lookup_absent}
use Rattle.store.specs.Lists.{Each, Rising, lookup, those, sum}
use Rattle.book.specs.Books.{is_of}
use Rattle.day_rules.specs.Events.{Event, clears, adds, executes, cancels, trades, breaks}
use Rattle.day_rules.specs.Words.{History, or_added, last_add, left_of_add, logged_order, then_id, ids_added, is_order_of, orders_left}
use Rattle.day_rules.proofs.Standing.{NarrowOrder, OrdersStand, own_key}
use Rattle.day_rules.proofs.Sums.{sum-same, sum-both, sum-none, sum-picked, each-all, found-own}

-- how often an ID is among these
abbrev times_in : ℕ → List ℕ → ℕ
times_in id ids = sum (λ x. cond (eqb id x) 1 0) ids

-- once if it was added, and else not at all
abbrev once_if : Option Order → ℕ
once_if last = cond (is_some last) 1 0

module _ (h : History) (id : ℕ) (before : times_in id (ids_added h) ≡ once_if (last_add id h)) where
  new_id : (o : Order) → times_in id (then_id (adds o) h (ids_added h)) ≡ once_if (or_added id (adds o) (last_add id h))
  new_id o =
      ⊎_elim
      (λ e.
      let same : eqb o.id id ≡ true = eq-eqb o.id id e in
      let here : eqb id o.id ≡ true = eq-eqb id o.id (sym e) in
      let last : is_some (last_add o.id h) ≡ is_some (last_add id h) = ap (λ k. is_some (last_add k h)) e in
      ⊎_elim
      (λ t. let gone = last ∙ t in rw (gone, same) (before ∙ rw t refl))
      (λ t. let none : times_in id (ids_added h) ≡ 0 = before ∙ rw t refl in let gone = last ∙ t in rw (gone, same) (rw here (omega arith)))
      (cases_Bool (is_some (last_add id h))))
      (λ m.
      rw (ne_eqb o.id id m)
      (⊎_elim (λ t. rw t before) (λ t. rw t (rw (ne_eqb id o.id (λ e. m (sym e))) (omega (arith, before)))) (cases_Bool (is_some (last_add o.id h)))))
      (cases_eq o.id id)

  then_once : (e : Event) → times_in id (then_id e h (ids_added h)) ≡ once_if (or_added id e (last_add id h))
  then_once (clears s) = before
  then_once (adds o) = new_id o
  then_once (executes i n x) = before
  then_once (cancels i n) = before
  then_once (trades e) = before
  then_once (breaks x) = before

each_once : (h : History) (id : ℕ) → times_in id (ids_added h) ≡ once_if (last_add id h)
each_once [] id = refl
each_once (a ∷ h) id = then_once h id (each_once h id) a.event

-- an order that is left was added
was_added : (h : History) (id : ℕ) (o : Order) → logged_order id h ≡ Some o → is_some (last_add id h) ≡ true
unfolding logged_order
was_added h id o e = by_last (last_add id h) _ e
  where
    by_last : (last : Option Order) (since : History) → left_of_add last since id ≡ Some o → is_some last ≡ true
    by_last None since e = cc
    by_last (Some p) since e = refl

module _ (s : ℕ) where
  -- one for an order of the symbol
  abbrev one_of : Option Order → ℕ
  one_of x = cond (is_order_of s x) 1 0

  -- the first order, or a later one
  first_or_later : (o : Order) (os : List Order) → o.id < 2 ^ 64 → Each (λ p. order_key o < order_key p) os → (id : ℕ)
      → one_of (lookup order_key id (o ∷ os)) ≡ cond (eqb o.id id) (one_of (Some o)) 0 + one_of (lookup order_key id os)
  first_or_later o os fits above id =
      let own = own_key o.id fits in
      ⊎_elim
      (λ e.
      let none : lookup order_key id os ≡ None = lookup_absent order_key id os (absent-higher order_key id os (subst (λ k. Each (λ p. k < order_key p) os) (own ∙ e) above)) in
      rw (own, eq-eqb o.id id e, none) (omega arith))
      (λ m. rw (own, ne_eqb o.id id m) (omega arith))
      (cases_eq o.id id)

  -- that order's place among the IDs
  its_once : (id : ℕ) (b : Bool) (ids : List ℕ) → sum (λ x. cond (eqb id x) (cond b 1 0) 0) ids ≡ cond b (times_in id ids) 0
  its_once id true ids = refl
  its_once id false [] = refl
  its_once id false (x ∷ xs) = grind (arith, nat_tests, its_once id false xs)

  by_id : (ids : List ℕ) (os : List Order) → Rising order_key os → Each NarrowOrder os → Each (λ o. times_in o.id ids ≡ 1) os
      → sum (λ o. cond (is_of s o) 1 0) os ≡ sum (λ id. one_of (lookup order_key id os)) ids
  by_id ids [] up narrow once = sym (sum-none ids)
  by_id ids (o ∷ os) up narrow once =
      let fits = narrow.0 in
      let rest = by_id ids os up.1 narrow.1 once.1 in
      let parts = sum-same (λ id. one_of (lookup order_key id (o ∷ os))) (λ id. cond (eqb o.id id) (one_of (Some o)) 0 + one_of (lookup order_key id os)) ids (each-all _ (first_or_later o os fits.id up.0) ids) in
      let both = sum-both (λ id. cond (eqb o.id id) (one_of (Some o)) 0) (λ id. one_of (lookup order_key id os)) ids in
      let its = its_once o.id (is_of s o) ids in
      let one = once.0 in
      let here : sum (λ id. cond (eqb o.id id) (one_of (Some o)) 0) ids ≡ cond (is_of s o) 1 0 = its ∙ rw one refl in
      omega arith

  -- the stored orders of the symbol are those that the log leaves
  pub orders-left : (h : History) (os : List Order) → OrdersStand h os → length (those (is_of s) os) ≡ orders_left s h
  orders-left h os st =
      let once : Each (λ o. times_in o.id (ids_added h) ≡ 1) os = added os st.narrow (found-own order_key os st.rising) in
      sum-picked (is_of s) os
      ∙ by_id (ids_added h) os st.rising st.narrow once
      ∙ sum-same (λ id. one_of (lookup order_key id os)) (λ id. one_of (logged_order id h)) (ids_added h) (each-all _ (λ id. ap one_of (st.each id)) (ids_added h))
      ∙ sym (sum-picked (λ id. is_order_of s (logged_order id h)) (ids_added h))
    where
      added : (ps : List Order) → Each NarrowOrder ps → Each (λ o. lookup order_key (order_key o) os ≡ Some o) ps → Each (λ o. times_in o.id (ids_added h) ≡ 1) ps
      added [] narrow found = tt
      added (p ∷ ps) narrow found =
          let fits = narrow.0 in
          let own = own_key p.id fits.id in
          let here : lookup order_key p.id os ≡ Some p = rw own at found.0 in
          (each_once h p.id ∙ rw (was_added h p.id p (sym (st.each p.id) ∙ here)) refl, added ps narrow.1 found.1)
