-- A walk that counts comes to how many are held.
use Rattle.std.proofs.Common.{◌≡◌, ℕ, suc, List, [], ◌∷◌, length, map, refl, ap, ◌∙◌, arith}
use Rattle.tally.specs.Joining.{joined_all}
use Rattle.tally.specs.Totals.{total_of, together}
use Rattle.tally.specs.TotalsLemmas.{same_total}

one-more : (n : ℕ) → together (total_of 1) (total_of n) ≡ total_of (suc n)
one-more n = same_total _ _ (omega arith)

pub walk-counted : {X : Type 0} (xs : List X)
    → joined_all (total_of 0) together (map (λ _. total_of 1) xs) ≡ total_of (length xs)
walk-counted [] = refl
walk-counted (x ∷ xs) = ap (together (total_of 1)) (walk-counted xs) ∙ one-more (length xs)
