-- A line with a piece more.
use Rattle.std.proofs.Common.{◌≡◌, ℕ, ◌+◌, ◌≤◌, List, ◌++◌, length, take, sym, ap, ◌∙◌, arith, length-take-le}
use lib.Seq.{take-append-add}

-- the piece's front, as much as there is room for, fills the line up to 255 bytes
pub filled : (n k : ℕ) (xs part : List ℕ) → n ≤ 255 → length xs ≡ 255 → n + k ≡ 255 → take n xs ++ take k part ≡ take 255 (take n xs ++ part)
filled n k xs part h full room =
    let size : length (take n xs) ≡ n = length-take-le n xs (omega arith) in
    let whole : length (take n xs) + k ≡ 255 = omega arith in
    sym (take-append-add (take n xs) part k) ∙ ap (λ m. take m (take n xs ++ part)) whole
