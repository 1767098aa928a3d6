-- Records with keys apart, in any order: one more or one less, and what that does to them in the order of their keys.
use Rattle.std.proofs.Common.{◌≡◌, ℕ, suc, List, [], ◌∷◌, ◌++◌, length, sym, refl, ap, ◌∙◌}
use mathlib.Core.List.{Permᴰ}
use Rattle.store.specs.Lists.{Each, Rising, Apart, placed, sorted}
use Rattle.store.proofs.Each.{Absent, each-join, each-front, each_back}
use Rattle.store.proofs.Placed.{each_placed, rising-placed, permuted-placed, length-placed, placed-apart}

module _ {X : Type 0} (key : X → ℕ) where
  pub each-sorted : (P : X → Type 0) (xs : List X) → Each P xs → Each P (sorted key xs)
  each-sorted P [] h = tt
  each-sorted P (x ∷ xs) h = each_placed key P x (sorted key xs) h.0 (each-sorted P xs h.1)

  pub rising-sorted : (xs : List X) → Apart key xs → Rising key (sorted key xs)
  rising-sorted [] h = tt
  rising-sorted (x ∷ xs) h =
      rising-placed key x (sorted key xs) (each-sorted (λ y. key y ≡ key x → ⊥) xs h.0) (rising-sorted xs h.1)

  pub permuted-sorted : (xs : List X) → Permᴰ xs (sorted key xs)
  permuted-sorted [] = Permᴰ.nil
  permuted-sorted (x ∷ xs) = Permᴰ.trans (Permᴰ.cons refl (permuted-sorted xs)) (permuted-placed key x (sorted key xs))

  pub length-sorted : (xs : List X) → length (sorted key xs) ≡ length xs
  length-sorted [] = refl
  length-sorted (x ∷ xs) = length-placed key x (sorted key xs) ∙ ap suc (length-sorted xs)

  -- a record among others goes in as if it came first
  pub sorted-among : (front : List X) (r : X) (back : List X) → Absent key (key r) front → sorted key (front ++ (r ∷ back)) ≡ placed key r (sorted key (front ++ back))
  sorted-among [] r back a = refl
  sorted-among (x ∷ front) r back a =
      ap (placed key x) (sorted-among front r back a.1) ∙ placed-apart key x r (sorted key (front ++ back)) a.0

  pub apart_in : (front : List X) (r : X) (back : List X) → Absent key (key r) (front ++ back) → Apart key (front ++ back) → Apart key (front ++ (r ∷ back))
  apart_in [] r back a h = (a, h)
  apart_in (x ∷ front) r back a h = (
    each-join (λ y. key y ≡ key x → ⊥) front (r ∷ back) (each-front (λ y. key y ≡ key x → ⊥) front back h.0)
        ((λ e. a.0 (sym e)), each_back (λ y. key y ≡ key x → ⊥) front back h.0),
    apart_in front r back a.1 h.1,
  )

  pub apart_out : (front : List X) (r : X) (back : List X) → Apart key (front ++ (r ∷ back)) → Apart key (front ++ back)
  apart_out [] r back h = h.1
  apart_out (x ∷ front) r back h = (
    each-join (λ y. key y ≡ key x → ⊥) front back (each-front (λ y. key y ≡ key x → ⊥) front (r ∷ back) h.0)
        (each_back (λ y. key y ≡ key x → ⊥) front (r ∷ back) h.0).1,
    apart_out front r back h.1,
  )

  pub absent-out : (front : List X) (r : X) (back : List X) → Apart key (front ++ (r ∷ back)) → Absent key (key r) (front ++ back)
  absent-out [] r back h = h.0
  absent-out (x ∷ front) r back h =
      ((λ e. (each_back (λ y. key y ≡ key x → ⊥) front (r ∷ back) h.0).0 (sym e)), absent-out front r back h.1)
