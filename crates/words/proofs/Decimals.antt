-- Reading a number digit by digit.
use Rattle.std.proofs.Common.{◌≡◌, ℕ, suc, ◌+◌, ◌*◌, ◌<◌, ◌≤◌, List, [], ◌∷◌, length, get_or, drop, None, ap, ◌∙◌, arith, drop-cons}
use Rattle.std.proofs.lemmas.Bool.Decides.{nat_tests}
use Rattle.layout.specs.Bytes.{worth_of}
use Rattle.words.specs.Numbers.{spelt, decimal, pushed_on}

-- digits behind a number never make it less
grows : (v : ℕ) (bs : List ℕ) → v ≤ spelt v bs
grows v [] = omega arith
grows v (b ∷ bs) = let h = grows (v * 10 + worth_of b) bs in omega arith

stops : (v b : ℕ) (bs : List ℕ) → pushed_on v b ≡ None → decimal v (b ∷ bs) ≡ None
stops v b bs e = grind (arith, nat_tests, grows (v * 10 + worth_of b) bs)

-- what stands at a place is no digit, or one too many
pub reads-not : (v i : ℕ) (xs : List ℕ) → i < length xs → pushed_on v (get_or xs i 0) ≡ None → decimal v (drop i xs) ≡ None
reads-not v i xs h e = ap (decimal v) (drop-cons xs i 0 h) ∙ stops v (get_or xs i 0) (drop (suc i) xs) e
