-- When an insert is accepted.
use Rattle.std.proofs.Common.{◌≡◌, ℕ, false, eqb, leb, List, [], ◌∷◌, length, Ok, ⊎_elim}
use Rattle.std.proofs.lemmas.Bool.{cases_Bool, eqb-false}
use Rattle.store.specs.Lists.{holds}
use Rattle.store.specs.Models.{Model, insert_says}
use Rattle.store.proofs.Each.{Absent}

module _ {X : Type 0} (key : X → ℕ) where
  pub absent-unheld : (k : ℕ) (xs : List X) → holds key k xs ≡ false → Absent key k xs
  absent-unheld k [] h = tt
  absent-unheld k (x ∷ xs) h =
      ⊎_elim
      (λ e. let z = rw e at h in cc)
      (λ e. (eqb-false (key x) k e, absent-unheld k xs (rw e at h)))
      (cases_Bool (eqb (key x) k))

  -- an accepted insert: the key was not held, and there was room
  pub accepted : (r : X) (m : Model X) (u : Unit {0}) → Ok u ≡ insert_says key r m → (holds key (key r) m.rows ≡ false) × (leb m.limit (length m.rows) ≡ false)
  accepted r m u e =
      ⊎_elim
      (λ h. let z = rw h at e in cc)
      (λ h.
      let f = rw h at e in
      ⊎_elim (λ l. let z = rw l at f in cc) (λ l. (h, l)) (cases_Bool (leb m.limit (length m.rows))))
      (cases_Bool (holds key (key r) m.rows))
