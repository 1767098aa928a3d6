-- The same records in another order: their keys stay apart, and in the order of their keys they are one list.
use Rattle.std.proofs.Common.{◌≡◌, ℕ, zero, suc, ◌<◌, ◌≤◌, List, [], ◌∷◌, length, get_or, set, sym, refl, ap, subst, ◌∙◌, arith}
use mathlib.Core.List.Permᴰ
use mathlib.Core.List.{Permᴰ}
use Rattle.std.specs.List.{swap}
use Rattle.std.specs.List.Sorted.{IsPermutation, IsNonDecreasingBy}
use Rattle.std.proofs.lemmas.List.Sorted.{IsPermutation-keeps}
use Rattle.store.specs.Lists.{Each, Rising, Apart, placed, sorted}
use Rattle.store.proofs.Each.{Absent, Higher, absent-higher}
use Rattle.store.proofs.Keyed.{placed_first}
use Rattle.store.proofs.Placed.{placed-apart}

-- exchanging two records, one of them the first
exchanged-first : {X : Type 0} (x d : X) (ys : List X) (j : ℕ) → j < length ys → Permᴰ (x ∷ ys) (get_or ys j d ∷ set ys j x)
exchanged-first x d [] j l = absurd (omega arith)
exchanged-first x d (y ∷ ys) zero l = Permᴰ.swap refl refl
exchanged-first x d (y ∷ ys) (suc j) l =
    Permᴰ.trans (Permᴰ.swap refl refl) (Permᴰ.trans (Permᴰ.cons refl (exchanged-first x d ys j (omega arith))) (Permᴰ.swap refl refl))

exchanged : {X : Type 0} (d : X) (xs : List X) (i j : ℕ) → i < length xs → j < length xs → Permᴰ xs (set (set xs i (get_or xs j d)) j (get_or xs i d))
exchanged d [] i j l m = absurd (omega arith)
exchanged d (x ∷ xs) zero zero l m = Permᴰ.refl (x ∷ xs)
exchanged d (x ∷ xs) zero (suc j) l m = exchanged-first x d xs j (omega arith)
exchanged d (x ∷ xs) (suc i) zero l m = exchanged-first x d xs i (omega arith)
exchanged d (x ∷ xs) (suc i) (suc j) l m = Permᴰ.cons refl (exchanged d xs i j (omega arith) (omega arith))

swapped : {X : Type 0} (xs : List X) (i j : ℕ) → i < length xs → j < length xs → Permᴰ xs (swap xs i j)
swapped [] i j l m = absurd (omega arith)
swapped (x ∷ xs) i j l m = exchanged x (x ∷ xs) i j l m

-- what exchanges reach is a reordering
pub exchanges-reorder : {X : Type 0} (xs ys : List X) → IsPermutation xs ys → Permᴰ xs ys
exchanges-reorder xs = IsPermutation-keeps xs (Permᴰ xs) (Permᴰ.refl xs) (λ l i j a b p. Permᴰ.trans p (swapped l i j a b))

pub each-permuted : {X : Type 0} (P : X → Type 0) {xs ys : List X} → Permᴰ xs ys → Each P xs → Each P ys
each-permuted P Permᴰ.nil h = tt
each-permuted P (Permᴰ.cons e p) h = (subst P e h.0, each-permuted P p h.1)
each-permuted P (Permᴰ.swap e f) h = (subst P f h.1.0, (subst P e h.0, h.1.1))
each-permuted P (Permᴰ.trans p q) h = each-permuted P q (each-permuted P p h)

module _ {X : Type 0} (key : X → ℕ) where
  pub apart-permuted : {xs ys : List X} → Permᴰ xs ys → Apart key xs → Apart key ys
  apart-permuted Permᴰ.nil h = tt
  apart-permuted (Permᴰ.cons {l₂ = ys} e p) h = (subst (λ k. Absent key (key k) ys) e (each-permuted (λ y. key y ≡ key _ → ⊥) p h.0), apart-permuted p h.1)
  apart-permuted (Permᴰ.swap {l = l} e f) h = (
    ((λ q. h.0.0 (ap key f ∙ sym q ∙ sym (ap key e))), subst (λ k. Absent key (key k) l) f h.1.0),
    (subst (λ k. Absent key (key k) l) e h.0.1, h.1.1),
  )
  apart-permuted (Permᴰ.trans p q) h = apart-permuted q (apart-permuted p h)

  pub sorted-permuted : {xs ys : List X} → Permᴰ xs ys → Apart key xs → sorted key xs ≡ sorted key ys
  sorted-permuted Permᴰ.nil h = refl
  sorted-permuted (Permᴰ.cons {b = b} {l₁ = xs} e p) h = ap (λ c. placed key c (sorted key xs)) e ∙ ap (placed key b) (sorted-permuted p h.1)
  sorted-permuted (Permᴰ.swap {a = a} {b = b} {a' = c} {l = l} e f) h =
      placed-apart key a b (sorted key l) (λ q. h.0.0 (sym q)) ∙ ap (λ z. placed key z (placed key a (sorted key l))) f ∙ ap (λ z. placed key c (placed key z (sorted key l))) e
  sorted-permuted (Permᴰ.trans p q) h = sorted-permuted p h ∙ sorted-permuted q (apart-permuted p h)

  rising-apart : (xs : List X) → Rising key xs → Apart key xs
  rising-apart [] h = tt
  rising-apart (x ∷ xs) h = (absent-higher key (key x) xs h.0, rising-apart xs h.1)

  sorted-rising : (xs : List X) → Rising key xs → sorted key xs ≡ xs
  sorted-rising [] h = refl
  sorted-rising (x ∷ xs) h = ap (placed key x) (sorted-rising xs h.1) ∙ placed_first key x xs h.0

  -- keys that are apart and do not fall rise
  rises-above : (k : ℕ) (xs : List X) → ((i : ℕ) (d : X) → i < length xs → k ≤ key (get_or xs i d)) → Absent key k xs → Higher key k xs
  rises-above k [] h a = tt
  rises-above k (x ∷ xs) h a = (let l = h 0 x (omega arith) in let n = a.0 in omega arith, rises-above k xs (λ i d l. h (suc i) d (omega arith)) a.1)

  rises : (xs : List X) → IsNonDecreasingBy key xs → Apart key xs → Rising key xs
  rises [] h a = tt
  rises (x ∷ xs) h a = (
    rises-above (key x) xs (λ i d l. h 0 (suc i) d (omega arith) (omega arith)) a.0,
    rises xs (λ i j d l m. h (suc i) (suc j) d (omega arith) (omega arith)) a.1,
  )

  -- records sorted by key are the rising list that they are a reordering of
  pub sorted_in_place : (was is rows : List X) → Permᴰ was rows → Rising key rows → IsPermutation was is → IsNonDecreasingBy key is → is ≡ rows
  sorted_in_place was is rows r up moved low =
      let p : Permᴰ rows is = Permᴰ.trans (Permᴰ.symm r) (exchanges-reorder was is moved) in
      let apart = rising-apart rows up in
      sym (sorted-rising is (rises is low (apart-permuted p apart))) ∙ sym (sorted-permuted p apart) ∙ sorted-rising rows up
