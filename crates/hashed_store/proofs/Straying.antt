-- How far all records have strayed together: a record that moves back into a hole makes it less,
-- so that moving ends.
use Rattle.std.proofs.Common.{◌≡◌, ℕ, zero, suc, ◌+◌, ◌<◌, ◌≤◌, List, [], ◌∷◌, length, set, add-zero, add-suc, suc-add, zero-add, arith, length-set, Some, None, Option}
use Rattle.hashed_store.specs.Rounds.{offset}
use Rattle.hashed_store.specs.Slots.{slot_at, strayed}
use Rattle.hashed_store.proofs.Rounds.{offset-back, offset-other}

module _ {X : Type 0} (home : ℕ → ℕ → ℕ) (key : X → ℕ) (n : ℕ) where
  strayed_in : ℕ → Option X → ℕ
  strayed_in i None = 0
  strayed_in i (Some r) = strayed home key n i r

  -- of the slots from the place b on
  pub straying : ℕ → List (Option X) → ℕ
  straying b [] = 0
  straying b (s ∷ ss) = strayed_in b s + straying (suc b) ss

  straying-set : (b : ℕ) (ss : List (Option X)) (j : ℕ) (s : Option X) → j < length ss
      → straying b (set ss j s) + strayed_in (b + j) (slot_at ss j) ≡ straying b ss + strayed_in (b + j) s
  unfolding straying
  straying-set b [] j s h = absurd (omega arith)
  straying-set b (q ∷ ss) zero s h = simp add-zero (omega arith)
  straying-set b (q ∷ ss) (suc j) s h =
      let l : j < length ss = omega arith in
      let e = rw suc-add at (straying-set (suc b) ss j s l) in
      simp add-suc (omega arith)

  pub straying-falls : (inside : (n k : ℕ) → 0 < n → home n k < n)
      → (ss : List (Option X)) (h j : ℕ) (r : X) → length ss ≡ n → h < n → j < n → (j ≡ h → ⊥)
      → slot_at ss j ≡ Some r
      → offset n h j ≤ strayed home key n j r → straying 0 (set (set ss j None) h (Some r)) < straying 0 ss
  unfolding strayed_in
  straying-falls inside ss h j r size lh lj apart from over =
      let some : 0 < n = omega arith in
      let here = inside n (key r) some in
      let less = offset-back n (home n (key r)) h j here lh lj over in
      let pos = offset-other n h j lh lj apart in
      let sj : j < length ss = rw size lj in
      let sh : h < length (set ss j None) = simp length-set (rw size lh) in
      let one = rw (zero-add, from) at (straying-set 0 ss j None sj) in
      let two = rw zero-add at (straying-set 0 (set ss j None) h (Some r) sh) in
      omega arith
