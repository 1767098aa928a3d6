-- Lists by key that differ in what is found under one key.
use Rattle.std.proofs.Common.{◌≡◌, ℕ, true, false, List, Some, None, Option, sym, ◌∙◌, subst, ⊎_elim}
use Rattle.std.proofs.lemmas.Bool.{cases_eq}
use Rattle.store.specs.Lists.{Rising, lookup, holds, placed, replaced, without}
use Rattle.store.proofs.Inserting.{absent-unheld}
use Rattle.store.proofs.Lookups.{lookup-inserted, lookup-placed-other, lookup-replaced, lookup-replaced-other, lookup-without-other}
use Rattle.store.proofs.Placed.{rising-placed}
use Rattle.store.proofs.Ruling.{rising-replaced, rising-without, lookup-gone}

-- under the key k is x now, and under any other what was
pub record Changed {X : Type 0} (key : X → ℕ) (k : ℕ) (x : Option X) (was now : List X) : Type 0 where
  pub rising : Rising key now
  pub found : lookup key k now ≡ x
  pub rest : (j : ℕ) → (k ≡ j → ⊥) → lookup key j now ≡ lookup key j was

module _ {X : Type 0} (key : X → ℕ) (k : ℕ) (xs : List X) where
  module _ (rising : Rising key xs) where
    -- a record put in
    pub placing : (r : X) → key r ≡ k → holds key k xs ≡ false → Changed key k (Some r) xs (placed key r xs)
    placing r own free =
        let free_by_key : holds key (key r) xs ≡ false = rw own free in
        record {
          rising = rising-placed key r xs (absent-unheld key (key r) xs free_by_key) rising;
          found = subst (λ j. lookup key j (placed key r xs) ≡ Some r) own (lookup-inserted key r xs free_by_key);
          rest = λ j n. lookup-placed-other key j r xs (λ e. n (sym own ∙ e));
        }

    -- one exchanged
    pub exchanging : (r : X) → key r ≡ k → holds key k xs ≡ true → Changed key k (Some r) xs (replaced key r xs)
    exchanging r own is_held =
        let held_by_key : holds key (key r) xs ≡ true = rw own is_held in
        record {
          rising = rising-replaced key r xs rising;
          found = subst (λ j. lookup key j (replaced key r xs) ≡ Some r) own (lookup-replaced key r xs held_by_key);
          rest = λ j n. lookup-replaced-other key j r xs (λ e. n (sym own ∙ e));
        }

    -- one taken out
    pub taking : Changed key k None xs (without key k xs)
    taking = record { rising = rising-without key k xs rising; found = lookup-gone key k xs rising; rest = λ j n. lookup-without-other key j k xs n }

  -- what holds of x, and of what was found under any other key, holds now
  pub by-key : (P : ℕ → Option X → Type 0) (x : Option X) (now : List X) → Changed key k x xs now → P k x → ((j : ℕ) → (k ≡ j → ⊥) → P j (lookup key j xs)) → (j : ℕ) → P j (lookup key j now)
  by-key P x now c here there j =
      ⊎_elim (λ e. subst (λ i. P i (lookup key i now)) e (rw c.found here)) (λ n. rw (c.rest j n) (there j n)) (cases_eq k j)
