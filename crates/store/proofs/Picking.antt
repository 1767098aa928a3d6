-- What is joined of the records that a test picks.
use Rattle.std.proofs.Common.{◌≡◌, Bool, cond, List, [], ◌∷◌, map, refl, ap, ◌∙◌, ⊎_elim}
use Rattle.std.proofs.lemmas.Bool.{cases_Bool}
use Rattle.tally.specs.Joining.{joined_all}
use Rattle.store.specs.Lists.{those}

-- the records that give nothing may be left out
pub picked-joined : {X M : Type 0} (p : X → Bool) (given : X → M) (none : M) (joining : M → M → M) → ((x : M) → joining none x ≡ x) → (xs : List X)
    → joined_all none joining (map (λ x. cond (p x) (given x) none) xs) ≡ joined_all none joining (map given (those p xs))
picked-joined p given none joining neutral [] = refl
picked-joined p given none joining neutral (x ∷ xs) =
    let h = picked-joined p given none joining neutral xs in
    ⊎_elim (λ e. rw e (ap (joining (given x)) h)) (λ e. rw e (neutral _ ∙ h)) (cases_Bool (p x))
