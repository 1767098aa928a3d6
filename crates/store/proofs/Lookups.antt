-- What is found under a key once a list by key has changed.
use Rattle.std.proofs.Common.{◌≡◌, ℕ, Bool, true, false, cond, eqb, ltb, List, [], ◌∷◌, is_some, Some, sym, refl, ap, ◌∙◌, ⊎_elim}
use Rattle.std.proofs.lemmas.Bool.{eq-eqb, ne_eqb, cases_eq, cases_Bool, both_ways}
use Rattle.store.specs.Lists.{lookup, holds, placed, replaced, without, others}
use Rattle.store.proofs.Inserting.{absent-unheld}
use Rattle.store.proofs.Placed.{lookup-placed}

module _ {X : Type 0} (key : X → ℕ) where
  -- one step of a search, by what the first record's key is
  pub lookup-here : (k : ℕ) (x : X) (xs : List X) → key x ≡ k → lookup key k (x ∷ xs) ≡ Some x
  lookup-here k x xs e = rw (eq-eqb (key x) k e) refl

  pub lookup-later : (k : ℕ) (x : X) (xs : List X) → (key x ≡ k → ⊥) → lookup key k (x ∷ xs) ≡ lookup key k xs
  lookup-later k x xs n = rw (ne_eqb (key x) k n) refl

  -- a record put in is found, and any other as before
  pub lookup-inserted : (r : X) (xs : List X) → holds key (key r) xs ≡ false → lookup key (key r) (placed key r xs) ≡ Some r
  lookup-inserted r xs h = lookup-placed key r xs (absent-unheld key (key r) xs h)

  pub lookup-placed-other : (k : ℕ) (r : X) (xs : List X) → (key r ≡ k → ⊥) → lookup key k (placed key r xs) ≡ lookup key k xs
  lookup-placed-other k r [] n = lookup-later k r [] n
  lookup-placed-other k r (x ∷ xs) n =
      ⊎_elim
      (λ t. rw t (lookup-later k r (x ∷ xs) n))
      (λ t. rw t (ap (cond (eqb (key x) k) (Some x)) (lookup-placed-other k r xs n)))
      (cases_Bool (ltb (key r) (key x)))

  -- a record exchanged is found where its key was held, and any other as before
  pub lookup-replaced : (r : X) (xs : List X) → holds key (key r) xs ≡ true → lookup key (key r) (replaced key r xs) ≡ Some r
  lookup-replaced r [] h = absurd (both_ways false refl h)
  lookup-replaced r (x ∷ xs) h =
      ⊎_elim
      (λ e. rw (eq-eqb (key x) (key r) e) (lookup-here (key r) r xs refl))
      (λ n. rw (ne_eqb (key x) (key r) n)
      (lookup-later (key r) x (replaced key r xs) n ∙ lookup-replaced r xs (sym (ap is_some (lookup-later (key r) x xs n)) ∙ h)))
      (cases_eq (key x) (key r))

  pub lookup-replaced-other : (k : ℕ) (r : X) (xs : List X) → (key r ≡ k → ⊥) → lookup key k (replaced key r xs) ≡ lookup key k xs
  lookup-replaced-other k r [] n = refl
  lookup-replaced-other k r (x ∷ xs) n =
      ⊎_elim
      (λ e. rw (eq-eqb (key x) (key r) e)
      (lookup-later k r xs n ∙ sym (lookup-later k x xs (λ f. n (sym e ∙ f)))))
      (λ m. rw (ne_eqb (key x) (key r) m) (ap (cond (eqb (key x) k) (Some x)) (lookup-replaced-other k r xs n)))
      (cases_eq (key x) (key r))

  -- a record taken out leaves any other as it was found
  pub lookup-without-other : (j k : ℕ) (xs : List X) → (k ≡ j → ⊥) → lookup key j (without key k xs) ≡ lookup key j xs
  lookup-without-other j k [] n = refl
  lookup-without-other j k (x ∷ xs) n =
      ⊎_elim
      (λ e. rw (eq-eqb (key x) k e) (sym (lookup-later j x xs (λ f. n (sym e ∙ f)))))
      (λ m. rw (ne_eqb (key x) k m) (ap (cond (eqb (key x) j) (Some x)) (lookup-without-other j k xs n)))
      (cases_eq (key x) k)

  -- what a test spares is found among the others
  pub lookup-others : (p : X → Bool) (k : ℕ) (o : X) (xs : List X) → p o ≡ false → lookup key k xs ≡ Some o → lookup key k (others p xs) ≡ Some o
  lookup-others p k o [] s h = h
  lookup-others p k o (x ∷ xs) s h =
      ⊎_elim
      (λ e.
      let same : x ≡ o = (let f = lookup-here k x xs e in cc) in
      let spared : p x ≡ false = ap p same ∙ s in
      rw spared (lookup-here k x (others p xs) e ∙ ap Some same))
      (λ n.
      let found = lookup-others p k o xs s (sym (lookup-later k x xs n) ∙ h) in
      ⊎_elim (λ t. rw t found) (λ t. rw t (lookup-later k x (others p xs) n ∙ found)) (cases_Bool (p x)))
      (cases_eq (key x) k)
