-- Lists of records by key, cut where a key stands or would stand: the part in front, the record, the part behind.
use Rattle.std.proofs.Common.{◌≡◌, ℕ, ◌<◌, ◌≤◌, false, List, [], ◌∷◌, ◌++◌, is_some, Some, None, refl, ap, ◌∙◌, arith}
use Rattle.std.proofs.lemmas.Bool.{ne_eqb, eq-eqb, lt-ltb, le-ltb, le-leb, lt-leb}
use Rattle.store.specs.Lists.{Rising, lookup, holds, first_from, placed, replaced, without}
use Rattle.store.proofs.Each.{Absent, Lower, Higher, each-join, each-front, each_back}

module _ {X : Type 0} (key : X → ℕ) where
  pub lookup_absent : (k : ℕ) (xs : List X) → Absent key k xs → lookup key k xs ≡ None
  lookup_absent k [] h = refl
  lookup_absent k (x ∷ xs) h = rw (ne_eqb (key x) k h.0) (lookup_absent k xs h.1)

  pub holds-absent : (k : ℕ) (xs : List X) → Absent key k xs → holds key k xs ≡ false
  holds-absent k xs h = ap is_some (lookup_absent k xs h)

  pub lookup-at : (front : List X) (x : X) (back : List X) → Absent key (key x) front → lookup key (key x) (front ++ (x ∷ back)) ≡ Some x
  lookup-at [] x back h = rw (eq-eqb (key x) (key x) refl) refl
  lookup-at (y ∷ front) x back h = rw (ne_eqb (key y) (key x) h.0) (lookup-at front x back h.1)

  pub without-absent : (k : ℕ) (xs : List X) → Absent key k xs → without key k xs ≡ xs
  without-absent k [] h = refl
  without-absent k (x ∷ xs) h = rw (ne_eqb (key x) k h.0) (ap (λ t. x ∷ t) (without-absent k xs h.1))

  pub without_at : (front : List X) (x : X) (back : List X) → Absent key (key x) front → without key (key x) (front ++ (x ∷ back)) ≡ front ++ back
  without_at [] x back h = rw (eq-eqb (key x) (key x) refl) refl
  without_at (y ∷ front) x back h = rw (ne_eqb (key y) (key x) h.0) (ap (λ t. y ∷ t) (without_at front x back h.1))

  pub replaced-absent : (r : X) (xs : List X) → Absent key (key r) xs → replaced key r xs ≡ xs
  replaced-absent r [] h = refl
  replaced-absent r (x ∷ xs) h = rw (ne_eqb (key x) (key r) h.0) (ap (λ t. x ∷ t) (replaced-absent r xs h.1))

  pub replaced-at : (r : X) (front : List X) (x : X) (back : List X) → key x ≡ key r → Absent key (key r) front → replaced key r (front ++ (x ∷ back)) ≡ front ++ (r ∷ back)
  replaced-at r [] x back e h = rw (eq-eqb (key x) (key r) e) refl
  replaced-at r (y ∷ front) x back e h = rw (ne_eqb (key y) (key r) h.0) (ap (λ t. y ∷ t) (replaced-at r front x back e h.1))

  pub placed_first : (r : X) (back : List X) → Higher key (key r) back → placed key r back ≡ r ∷ back
  placed_first r [] h = refl
  placed_first r (x ∷ back) h = rw (lt-ltb (key r) (key x) h.0) refl

  pub placed-between : (r : X) (front back : List X) → Lower key (key r) front → Higher key (key r) back → placed key r (front ++ back) ≡ front ++ (r ∷ back)
  placed-between r [] back l h = placed_first r back h
  placed-between r (x ∷ front) back l h =
      let u : key x < key r = l.0 in
      rw (le-ltb (key r) (key x) (omega arith)) (ap (λ t. x ∷ t) (placed-between r front back l.1 h))

  pub from_past : (k : ℕ) (front back : List X) → Lower key k front → first_from key k (front ++ back) ≡ first_from key k back
  from_past k [] back l = refl
  from_past k (x ∷ front) back l = rw (lt-leb k (key x) l.0) (from_past k front back l.1)

  pub from_at : (k : ℕ) (front : List X) (x : X) (back : List X) → Lower key k front → k ≤ key x → first_from key k (front ++ (x ∷ back)) ≡ Some x
  from_at k front x back l u = from_past k front (x ∷ back) l ∙ rw (le-leb k (key x) u) refl

  -- the back of a rising list rises
  pub rising-back : (front back : List X) → Rising key (front ++ back) → Rising key back
  rising-back [] back h = h
  rising-back (x ∷ front) back h = rising-back front back h.1

  -- the keys in front of a record are below its own, and those behind above
  pub lower-front : (front : List X) (x : X) (back : List X) → Rising key (front ++ (x ∷ back)) → Lower key (key x) front
  lower-front [] x back h = tt
  lower-front (y ∷ front) x back h = ((each_back (λ z. key y < key z) front (x ∷ back) h.0).0, lower-front front x back h.1)

  pub higher-back : (front : List X) (x : X) (back : List X) → Rising key (front ++ (x ∷ back)) → Higher key (key x) back
  higher-back front x back h = (rising-back front (x ∷ back) h).0

  -- a record taken in, taken out or exchanged leaves the list rising
  pub rising-in : (r : X) (front back : List X) → Rising key (front ++ back) → Lower key (key r) front → Higher key (key r) back → Rising key (front ++ (r ∷ back))
  rising-in r [] back h l u = (u, h)
  rising-in r (x ∷ front) back h l u = (
    each-join (λ y. key x < key y) front (r ∷ back) (each-front (λ y. key x < key y) front back h.0) (l.0, each_back (λ y. key x < key y) front back h.0),
    rising-in r front back h.1 l.1 u,
  )

  pub rising-out : (front : List X) (x : X) (back : List X) → Rising key (front ++ (x ∷ back)) → Rising key (front ++ back)
  rising-out [] x back h = h.1
  rising-out (y ∷ front) x back h = (
    each-join (λ z. key y < key z) front back (each-front (λ z. key y < key z) front (x ∷ back) h.0) (each_back (λ z. key y < key z) front (x ∷ back) h.0).1,
    rising-out front x back h.1,
  )

  pub rising-exchanged : (r : X) (front : List X) (x : X) (back : List X) → key x ≡ key r → Rising key (front ++ (x ∷ back)) → Rising key (front ++ (r ∷ back))
  rising-exchanged r front x back e h =
      rising-in r front back (rising-out front x back h) (rw e at (lower-front front x back h)) (rw e at (higher-back front x back h))
