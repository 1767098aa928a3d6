-- The rules of a store hold of its definitions.
use Rattle.std.proofs.Common.{◌≡◌, ℕ, suc, ◌<◌, ◌≤◌, Bool, true, false, cond, leb, List, [], ◌∷◌, length, is_some, Some, None, Ok, sym, refl, ap, ◌∙◌, ⊎_elim, arith}
use Rattle.std.proofs.lemmas.Bool.{eq-eqb, ne_eqb, le-leb, lt-leb, leb-true, leb-false, cases_eq, cases_lt, cases_Bool, cases_order}
use Rattle.store.specs.Lists.{Each, Rising, lookup, holds, first_from, replaced, without, others}
use Rattle.store.specs.Models.{Model, insert_says, inserted, replacing}
use Rattle.store.specs.Rules.{Stored, unless_picked, Least, Rules}
use Rattle.store.proofs.Each.{Absent, each-so, absent-higher, higher-more}
use Rattle.store.proofs.Keyed.{lookup_absent, replaced-absent}
use Rattle.store.proofs.Placed.{rising-placed, length-placed}
use Rattle.store.proofs.Inserting.{absent-unheld, accepted}
use Rattle.store.proofs.Lookups.{lookup-here, lookup-later, lookup-inserted, lookup-placed-other, lookup-replaced, lookup-replaced-other, lookup-without-other}
use Rattle.store.proofs.ModelsLemmas.{same-model}
use Rattle.store.proofs.Sweeps.{each-others, rising-others}

module _ {X : Type 0} (key : X → ℕ) where
  absent_none : (k : ℕ) (xs : List X) → lookup key k xs ≡ None → Absent key k xs
  absent_none k xs e = absent-unheld key k xs (ap is_some e)

  -- what is found under a key has that key, and is one of the list
  pub found-key : (k : ℕ) (xs : List X) (x : X) → lookup key k xs ≡ Some x → key x ≡ k
  found-key k [] x e = cc
  found-key k (y ∷ ys) x e =
      ⊎_elim
      (λ h. let s : y ≡ x = (let f = lookup-here key k y ys h in cc) in sym (ap key s) ∙ h)
      (λ h. found-key k ys x (sym (lookup-later key k y ys h) ∙ e))
      (cases_eq (key y) k)

  pub found-each : (P : X → Type 0) (k : ℕ) (xs : List X) (x : X) → Each P xs → lookup key k xs ≡ Some x → P x
  found-each P k [] x h e = cc
  found-each P k (y ∷ ys) x h e =
      ⊎_elim
      (λ m. let s : y ≡ x = (let f = lookup-here key k y ys m in cc) in rw s at h.0)
      (λ m. found-each P k ys x h.1 (sym (lookup-later key k y ys m) ∙ e))
      (cases_eq (key y) k)

  pub each-replaced : (P : X → Type 0) (r : X) (xs : List X) → P r → Each P xs → Each P (replaced key r xs)
  each-replaced P r [] p h = tt
  each-replaced P r (x ∷ xs) p h =
      ⊎_elim (λ e. rw (eq-eqb (key x) (key r) e) (p, h.1)) (λ e. rw (ne_eqb (key x) (key r) e) (h.0, each-replaced P r xs p h.1)) (cases_eq (key x) (key r))

  pub rising-replaced : (r : X) (xs : List X) → Rising key xs → Rising key (replaced key r xs)
  rising-replaced r [] h = tt
  rising-replaced r (x ∷ xs) h =
      ⊎_elim
      (λ e. rw (eq-eqb (key x) (key r) e) (rw e at h.0, h.1))
      (λ e. rw (ne_eqb (key x) (key r) e)
      (⊎_elim
      (λ (l : key x < key r). (each-replaced (λ y. key x < key y) r xs l h.0, rising-replaced r xs h.1))
      (λ (l : key r ≤ key x).
      let low : key r < key x = omega arith in
      let same = replaced-absent key r xs (absent-higher key (key r) xs (higher-more key (key r) (key x) xs low h.0)) in
      rw same (h.0, h.1))
      (cases_lt (key x) (key r))))
      (cases_eq (key x) (key r))

  pub length-replaced : (r : X) (xs : List X) → length (replaced key r xs) ≡ length xs
  length-replaced r [] = refl
  length-replaced r (x ∷ xs) =
      ⊎_elim (λ e. rw (eq-eqb (key x) (key r) e) refl) (λ e. rw (ne_eqb (key x) (key r) e) (ap suc (length-replaced r xs))) (cases_eq (key x) (key r))

  pub each-without : (P : X → Type 0) (k : ℕ) (xs : List X) → Each P xs → Each P (without key k xs)
  each-without P k [] h = tt
  each-without P k (x ∷ xs) h =
      ⊎_elim (λ e. rw (eq-eqb (key x) k e) h.1) (λ e. rw (ne_eqb (key x) k e) (h.0, each-without P k xs h.1)) (cases_eq (key x) k)

  pub rising-without : (k : ℕ) (xs : List X) → Rising key xs → Rising key (without key k xs)
  rising-without k [] h = tt
  rising-without k (x ∷ xs) h =
      ⊎_elim
      (λ e. rw (eq-eqb (key x) k e) h.1)
      (λ e. rw (ne_eqb (key x) k e) (each-without (λ y. key x < key y) k xs h.0, rising-without k xs h.1))
      (cases_eq (key x) k)

  pub lookup-gone : (k : ℕ) (xs : List X) → Rising key xs → lookup key k (without key k xs) ≡ None
  lookup-gone k [] h = refl
  lookup-gone k (x ∷ xs) h =
      ⊎_elim
      (λ e. rw (eq-eqb (key x) k e) (lookup_absent key k xs (absent-higher key k xs (rw e at h.0))))
      (λ e. rw (ne_eqb (key x) k e) (lookup-later key k x (without key k xs) e ∙ lookup-gone k xs h.1))
      (cases_eq (key x) k)

  -- under each key is found what was found there, unless the test picks it
  pub lookup-unpicked : (p : X → Bool) (k : ℕ) (xs : List X) → Rising key xs → lookup key k (others p xs) ≡ unless_picked p (lookup key k xs)
  lookup-unpicked p k [] h = refl
  lookup-unpicked p k (x ∷ xs) h =
      ⊎_elim
      (λ e.
      let here = lookup-here key k x xs e in
      let gone = lookup_absent key k (others p xs) (absent-higher key k (others p xs) (each-others p (λ z. k < key z) xs (rw e at h.0))) in
      let told : unless_picked p (lookup key k (x ∷ xs)) ≡ cond (p x) None (Some x) = ap (unless_picked p) here in
      ⊎_elim
      (λ t. let n : unless_picked p (lookup key k (x ∷ xs)) ≡ None = rw t at told in rw t (gone ∙ sym n))
      (λ t. let n : unless_picked p (lookup key k (x ∷ xs)) ≡ Some x = rw t at told in rw t (lookup-here key k x (others p xs) e ∙ sym n))
      (cases_Bool (p x)))
      (λ n.
      let later = lookup-unpicked p k xs h.1 ∙ ap (unless_picked p) (sym (lookup-later key k x xs n)) in
      ⊎_elim (λ t. rw t later) (λ t. rw t (lookup-later key k x (others p xs) n ∙ later)) (cases_Bool (p x)))
      (cases_eq (key x) k)

  from_found : (xs : List X) (k : ℕ) (r : X) → Rising key xs → first_from key k xs ≡ Some r → Least key k xs r
  from_found [] k r h e = cc
  from_found (y ∷ ys) k r h e =
      ⊎_elim
      (λ t.
      let l = leb-true k (key y) t in
      let s : y ≡ r = (let f : first_from key k (y ∷ ys) ≡ Some y = rw t refl in cc) in
      let same = ap key s in
      record {
        found = lookup-here key (key r) y ys same ∙ ap Some s;
        from = omega arith;
        least = λ x f g. found-each (λ z. key r ≤ key z) (key x) (y ∷ ys) x ((omega arith), each-so (λ z. key y < key z) (λ z. key r ≤ key z) (λ z m. omega arith) ys h.0) f;
      })
      (λ t.
      let l = leb-false k (key y) t in
      let rest = from_found ys k r h.1 (rw t at e) in
      let above : k ≤ key r = rest.from in
      record {
        found = lookup-later key (key r) y ys (omega arith) ∙ rest.found;
        from = above;
        least = λ x f g. rest.least x (sym (lookup-later key (key x) y ys (omega arith)) ∙ f) g;
      })
      (cases_Bool (leb k (key y)))

  from-none : (xs : List X) (k : ℕ) → first_from key k xs ≡ None → Each (λ x. key x < k) xs
  from-none [] k e = tt
  from-none (y ∷ ys) k e =
      ⊎_elim
      (λ t. let z = rw t at e in cc)
      (λ t. (leb-false k (key y) t, from-none ys k (rw t at e)))
      (cases_Bool (leb k (key y)))

  -- what is found under every key tells a rising list
  first-first : (x : X) (xs : List X) (y : X) (ys : List X) → Rising key (y ∷ ys) → ((k : ℕ) → lookup key k (x ∷ xs) ≡ lookup key k (y ∷ ys)) → key x < key y → ⊥
  first-first x xs y ys h same l =
      let gone = lookup_absent key (key x) (y ∷ ys) ((λ e. omega arith), absent-higher key (key x) ys (higher-more key (key x) (key y) ys l h.0)) in
      let here = lookup-here key (key x) x xs refl in
      let e = same (key x) in
      cc

  same_rest : (x : X) (xs ys : List X) → Rising key (x ∷ xs) → Rising key (x ∷ ys) → ((k : ℕ) → lookup key k (x ∷ xs) ≡ lookup key k (x ∷ ys)) → (k : ℕ) → lookup key k xs ≡ lookup key k ys
  same_rest x xs ys h g same k =
      ⊎_elim
      (λ e.
      lookup_absent key k xs (absent-higher key k xs (rw e at h.0)) ∙ sym (lookup_absent key k ys (absent-higher key k ys (rw e at g.0))))
      (λ e. sym (lookup-later key k x xs e) ∙ same k ∙ lookup-later key k x ys e)
      (cases_eq (key x) k)

  told : (xs ys : List X) → Rising key xs → Rising key ys → ((k : ℕ) → lookup key k xs ≡ lookup key k ys) → xs ≡ ys
  told [] [] h g same = refl
  told [] (y ∷ ys) h g same = let e = same (key y) in let here = lookup-here key (key y) y ys refl in cc
  told (x ∷ xs) [] h g same = let e = same (key x) in let here = lookup-here key (key x) x xs refl in cc
  told (x ∷ xs) (y ∷ ys) h g same =
      ⊎_elim
      (λ e.
      let one : x ≡ y = (let a = same (key x) in let b = lookup-here key (key x) x xs refl in let c = lookup-here key (key x) y ys (sym e) in cc) in
      let g2 : Rising key (x ∷ ys) = rw one g in
      let same2 : (k : ℕ) → lookup key k (x ∷ xs) ≡ lookup key k (x ∷ ys) = λ k. same k ∙ ap (λ z. lookup key k (z ∷ ys)) (sym one) in
      ap (λ t. x ∷ t) (told xs ys h.1 g.1 (same_rest x xs ys h g2 same2)) ∙ ap (λ z. z ∷ ys) one)
      (λ o. ⊎_elim (λ l. absurd (first-first x xs y ys g same l)) (λ l. absurd (first-first y ys x xs h (λ k. sym (same k)) l)) o)
      (cases_order (key x) (key y))

  -- insert, by whether the key is held and whether there is room
  unheld : (k : ℕ) (xs : List X) → lookup key k xs ≡ None → holds key k xs ≡ false
  unheld k xs e = ap is_some e

  insert-stores : (m : Model X) (r : X) → Rising key m.rows → insert_says key r m ≡ Ok tt → Stored key r m (inserted key r m) 1
  insert-stores m r up e =
      let a = accepted key r m tt (sym e) in
      rw (a.0, a.1)
      (record {
        found = lookup-inserted key r m.rows a.0;
        rest = record {
          others = λ j n. lookup-placed-other key j r m.rows (λ s. n (sym s));
          rising = rising-placed key r m.rows (absent-unheld key (key r) m.rows a.0) up;
          limit = refl;
        };
        count = length-placed key r m.rows ∙ (omega arith);
      })

  pub rules : Rules key
  rules = record {
    insert = insert-stores;
    taken = λ m r x e. let h : holds key (key r) m.rows ≡ true = ap is_some e in (rw h refl, rw h refl);
    full = λ m r e l. let h = unheld (key r) m.rows e in let f = le-leb m.limit (length m.rows) l in (rw h (rw f refl), rw h (rw f refl));
    room = λ m r e l. let h = unheld (key r) m.rows e in let f = lt-leb m.limit (length m.rows) l in rw h (rw f refl);
    replace = λ m r x up e.
        let h : holds key (key r) m.rows ≡ true = ap is_some e in (
          rw h refl,
          record {
            found = lookup-replaced key r m.rows h;
            rest = record { others = λ j n. lookup-replaced-other key j r m.rows (λ s. n (sym s)); rising = rising-replaced r m.rows up; limit = refl };
            count = length-replaced r m.rows ∙ (omega arith);
          },
        );
    missing = λ m r e. (rw (unheld (key r) m.rows e) refl, same-model (replacing key r m) m (replaced-absent key r m.rows (absent_none (key r) m.rows e)) refl);
    remove = λ m k up. record {
      none = lookup-gone k m.rows up;
      rest = record { others = λ j n. lookup-without-other key j k m.rows (λ s. n (sym s)); rising = rising-without k m.rows up; limit = refl };
    };
    sweep = λ m p up. record { found = λ k. lookup-unpicked p k m.rows up; rising = rising-others p key m.rows up; limit = refl };
    empty = λ m. record { none = λ k. refl; rising = tt; count = refl; limit = refl };
    from = from_found;
    none = λ xs k e x f. found-each (λ z. key z < k) (key x) xs x (from-none xs k e) f;
    determined = told;
  }
