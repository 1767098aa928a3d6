-- What is left where the records that a test picks go.
use Rattle.std.proofs.Common.{◌≡◌, ℕ, ◌<◌, Bool, true, false, ltb, List, [], ◌∷◌, ◌++◌, refl, ap, ◌∙◌, ⊎_elim, append-nil}
use Rattle.std.proofs.lemmas.Bool.{cases_Bool}
use Rattle.store.specs.Lists.{Each, Rising, placed, others}

module _ {X : Type 0} (p : X → Bool) where
  pub others-all : (xs : List X) → Each (λ x. p x ≡ false) xs → others p xs ≡ xs
  others-all [] h = refl
  others-all (x ∷ xs) h = rw h.0 (ap (λ t. x ∷ t) (others-all xs h.1))

  pub others-append : (xs ys : List X) → others p (xs ++ ys) ≡ others p xs ++ others p ys
  others-append [] ys = refl
  others-append (x ∷ xs) ys =
      ⊎_elim (λ e. rw e (others-append xs ys)) (λ e. rw e (ap (λ t. x ∷ t) (others-append xs ys))) (cases_Bool (p x))

  -- one record more, at the end
  pub others-more_picked : (xs : List X) (x : X) → p x ≡ true → others p (xs ++ (x ∷ [])) ≡ others p xs
  others-more_picked xs x e = others-append xs (x ∷ []) ∙ ap (λ z. others p xs ++ z) (rw e refl) ∙ append-nil (others p xs)

  pub others-more_kept : (xs : List X) (x : X) → p x ≡ false → others p (xs ++ (x ∷ [])) ≡ others p xs ++ (x ∷ [])
  others-more_kept xs x e = others-append xs (x ∷ []) ∙ ap (λ z. others p xs ++ z) (rw e refl)

  pub each-others : (P : X → Type 0) (xs : List X) → Each P xs → Each P (others p xs)
  each-others P [] h = tt
  each-others P (x ∷ xs) h =
      ⊎_elim (λ e. rw e (each-others P xs h.1)) (λ e. rw e (h.0, each-others P xs h.1)) (cases_Bool (p x))

  -- what is left of rising keys rises
  pub rising-others : (key : X → ℕ) (xs : List X) → Rising key xs → Rising key (others p xs)
  rising-others key [] h = tt
  rising-others key (x ∷ xs) h =
      ⊎_elim
      (λ e. rw e (rising-others key xs h.1))
      (λ e. rw e (each-others (λ y. key x < key y) xs h.0, rising-others key xs h.1))
      (cases_Bool (p x))

  -- a picked record put in is none of the others
  pub others-placed : (key : X → ℕ) (r : X) (xs : List X) → p r ≡ true → others p (placed key r xs) ≡ others p xs
  others-placed key r [] e = rw e refl
  others-placed key r (x ∷ xs) e =
      ⊎_elim
      (λ l. rw l (rw e refl))
      (λ l. rw l
      (⊎_elim (λ f. rw f (others-placed key r xs e)) (λ f. rw f (ap (λ t. x ∷ t) (others-placed key r xs e))) (cases_Bool (p x))))
      (cases_Bool (ltb (key r) (key x)))
