-- Joining goes through parts and ignores order, by a tally's three laws.
use mathlib.Core.Path.{◌≡◌, refl, sym, ap, ◌∙◌}
use mathlib.Core.List.{List, [], ◌∷◌, ◌++◌, map, map-append, Permᴰ}
use Rattle.tally.specs.Joining.{joined_all, Bracketing, nothing, item, both, items_of, bracketed, InEveryOrder, JoinedInEveryOrder}

module _ {M : Type 0} (none : M) (joining : M → M → M)
    (associative : (x y z : M) → joining (joining x y) z ≡ joining x (joining y z))
    (commutative : (x y : M) → joining x y ≡ joining y x)
    (neutral : (x : M) → joining none x ≡ x) where
  pub neutral-right : (x : M) → joining x none ≡ x
  neutral-right x = commutative x none ∙ neutral x

  pub joined-append : (xs ys : List M) → joined_all none joining (xs ++ ys) ≡ joining (joined_all none joining xs) (joined_all none joining ys)
  joined-append [] ys = sym (neutral _)
  joined-append (x ∷ xs) ys = ap (joining x) (joined-append xs ys) ∙ sym (associative x _ _)

  pub joined-swap : (x y z : M) → joining x (joining y z) ≡ joining y (joining x z)
  joined-swap x y z = sym (associative x y z) ∙ ap (λ w. joining w z) (commutative x y) ∙ associative y x z

  pub joined-permuted : {xs ys : List M} → Permᴰ xs ys → joined_all none joining xs ≡ joined_all none joining ys
  joined-permuted Permᴰ.nil = refl
  joined-permuted (Permᴰ.cons e p) = let h = joined-permuted p in cc
  joined-permuted (Permᴰ.swap {a} {b} {a'} {b'} {l} e f) = let h = joined-swap a b (joined_all none joining l) in cc
  joined-permuted (Permᴰ.trans p q) = joined-permuted p ∙ joined-permuted q

  bracketed-joined : (b : Bracketing M) → bracketed none joining b ≡ joined_all none joining (items_of b)
  bracketed-joined nothing = refl
  bracketed-joined (item x) = sym (neutral-right x)
  bracketed-joined (both l r) = let h = bracketed-joined l in let k = bracketed-joined r in let e = joined-append (items_of l) (items_of r) in cc

  pub every-order : (xs : List M) → InEveryOrder none joining xs (joined_all none joining xs)
  every-order xs b p = bracketed-joined b ∙ joined-permuted p

  pub in-every-order : (xs : List M) (r : M) → r ≡ joined_all none joining xs → JoinedInEveryOrder none joining xs r
  in-every-order xs r e = record { says = e; anyhow = λ b p. every-order xs b p ∙ sym e }

  -- one more item is joined at the end
  pub joined-more : {X : Type 0} (f : X → M) (xs : List X) (x : X) → joining (joined_all none joining (map f xs)) (f x) ≡ joined_all none joining (map f (xs ++ (x ∷ [])))
  joined-more f xs x =
      ap (joining (joined_all none joining (map f xs))) (sym (neutral-right (f x)))
      ∙ sym (joined-append (map f xs) (f x ∷ []))
      ∙ ap (joined_all none joining) (sym (map-append f xs (x ∷ [])))
