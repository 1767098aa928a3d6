-- Records put in by key one after another, in any order.
use Rattle.std.proofs.Common.{◌≡◌, ℕ, suc, ◌<◌, ◌≤◌, List, [], ◌∷◌, length, Some, sym, refl, ap, ⊎_elim, arith}
use mathlib.Core.List.Permᴰ
use mathlib.Core.List.{Permᴰ}
use Rattle.std.proofs.lemmas.Bool.{ne_eqb, eq-eqb, lt-ltb, le-ltb, cases_lt}
use Rattle.store.specs.Lists.{Each, Rising, lookup, placed, replaced, without}
use Rattle.store.proofs.Each.{Absent, each-so}

module _ {X : Type 0} (key : X → ℕ) where
  -- where a record goes, seen from the first of a list
  placed-before : (r x : X) (xs : List X) → key r < key x → placed key r (x ∷ xs) ≡ r ∷ (x ∷ xs)
  placed-before r x xs l = rw (lt-ltb (key r) (key x) l) refl

  placed-after : (r x : X) (xs : List X) → key x ≤ key r → placed key r (x ∷ xs) ≡ x ∷ placed key r xs
  placed-after r x xs l = rw (le-ltb (key r) (key x) l) refl

  pub each_placed : (P : X → Type 0) (r : X) (xs : List X) → P r → Each P xs → Each P (placed key r xs)
  each_placed P r [] p h = (p, tt)
  each_placed P r (x ∷ xs) p h =
      ⊎_elim
      (λ l. rw (placed-before r x xs l) (p, h))
      (λ l. rw (placed-after r x xs l) (h.0, each_placed P r xs p h.1))
      (cases_lt (key r) (key x))

  pub rising-placed : (r : X) (xs : List X) → Absent key (key r) xs → Rising key xs → Rising key (placed key r xs)
  rising-placed r [] a h = (tt, tt)
  rising-placed r (x ∷ xs) a h =
      ⊎_elim
      (λ l. rw (placed-before r x xs l) ((l, each-so (λ y. key x < key y) (λ y. key r < key y) (λ y m. omega arith) xs h.0), h))
      (λ l. rw (placed-after r x xs l)
      (each_placed (λ y. key x < key y) r xs (let n : key x ≡ key r → ⊥ = a.0 in omega arith) h.0, rising-placed r xs a.1 h.1))
      (cases_lt (key r) (key x))

  pub permuted-placed : (r : X) (xs : List X) → Permᴰ (r ∷ xs) (placed key r xs)
  permuted-placed r [] = Permᴰ.refl (r ∷ [])
  permuted-placed r (x ∷ xs) =
      ⊎_elim
      (λ l. rw (placed-before r x xs l) (Permᴰ.refl (r ∷ (x ∷ xs))))
      (λ l. rw (placed-after r x xs l) (Permᴰ.trans (Permᴰ.swap refl refl) (Permᴰ.cons refl (permuted-placed r xs))))
      (cases_lt (key r) (key x))

  pub length-placed : (r : X) (xs : List X) → length (placed key r xs) ≡ suc (length xs)
  length-placed r [] = refl
  length-placed r (x ∷ xs) =
      ⊎_elim
      (λ l. rw (placed-before r x xs l) refl)
      (λ l. rw (placed-after r x xs l) (ap suc (length-placed r xs)))
      (cases_lt (key r) (key x))

  -- the order in which two records go in does not matter
  pub placed-swap : (r s : X) (xs : List X) → key r < key s → placed key r (placed key s xs) ≡ placed key s (placed key r xs)
  placed-swap r s [] l = rw (placed-before r s [] l) (rw (placed-after s r [] (omega arith)) refl)
  placed-swap r s (x ∷ xs) l =
      ⊎_elim
      (λ m. rw (placed-before s x xs m)
      (rw (placed-before r s (x ∷ xs) l)
      (let n : key r < key x = omega arith in rw (placed-before r x xs n)
      (let o : key r ≤ key s = omega arith in rw (placed-after s r (x ∷ xs) o) (rw (placed-before s x xs m) refl)))))
      (λ m. rw (placed-after s x xs m)
      (⊎_elim
      (λ n. rw (placed-before r x (placed key s xs) n)
      (rw (placed-before r x xs n) (let o : key r ≤ key s = omega arith in rw (placed-after s r (x ∷ xs) o) (rw (placed-after s x xs m) refl))))
      (λ n. rw (placed-after r x (placed key s xs) n)
      (rw (placed-after r x xs n) (rw (placed-after s x (placed key r xs) m) (ap (λ t. x ∷ t) (placed-swap r s xs l)))))
      (cases_lt (key r) (key x))))
      (cases_lt (key s) (key x))

  pub placed-apart : (r s : X) (xs : List X) → (key r ≡ key s → ⊥) → placed key r (placed key s xs) ≡ placed key s (placed key r xs)
  placed-apart r s xs n =
      ⊎_elim (λ l. placed-swap r s xs l) (λ l. sym (placed-swap s r xs (omega arith))) (cases_lt (key r) (key s))

  -- what is put in is found, and what was held before is found as before
  pub lookup-placed : (r : X) (xs : List X) → Absent key (key r) xs → lookup key (key r) (placed key r xs) ≡ Some r
  lookup-placed r [] a = rw (eq-eqb (key r) (key r) refl) refl
  lookup-placed r (x ∷ xs) a =
      ⊎_elim
      (λ l. rw (placed-before r x xs l) (rw (eq-eqb (key r) (key r) refl) refl))
      (λ l. rw (placed-after r x xs l) (rw (ne_eqb (key x) (key r) a.0) (lookup-placed r xs a.1)))
      (cases_lt (key r) (key x))

  pub without-placed : (r : X) (xs : List X) → Absent key (key r) xs → without key (key r) (placed key r xs) ≡ xs
  without-placed r [] a = rw (eq-eqb (key r) (key r) refl) refl
  without-placed r (x ∷ xs) a =
      ⊎_elim
      (λ l. rw (placed-before r x xs l) (rw (eq-eqb (key r) (key r) refl) refl))
      (λ l. rw (placed-after r x xs l) (rw (ne_eqb (key x) (key r) a.0) (ap (λ t. x ∷ t) (without-placed r xs a.1))))
      (cases_lt (key r) (key x))

  pub replaced-placed : (r s : X) (xs : List X) → key s ≡ key r → Absent key (key r) xs → replaced key r (placed key s xs) ≡ placed key r xs
  replaced-placed r s [] e a = rw (eq-eqb (key s) (key r) e) refl
  replaced-placed r s (x ∷ xs) e a =
      ⊎_elim
      (λ l. rw (placed-before s x xs l) (rw (eq-eqb (key s) (key r) e) (let m : key r < key x = omega arith in rw (placed-before r x xs m) refl)))
      (λ l. rw (placed-after s x xs l) (rw (ne_eqb (key x) (key r) a.0)
      (let m : key x ≤ key r = omega arith in rw (placed-after r x xs m) (ap (λ t. x ∷ t) (replaced-placed r s xs e a.1)))))
      (cases_lt (key s) (key x))
