-- The rows of a reply give its places back.
use Rattle.std.specs.Prelude.{◌≡◌, ℕ, ◌-◌, List, ◌++◌, length, take}
use Rattle.std.proofs.Common.{length-take, sym, ap, ◌∙◌, arith}
use Rattle.std.proofs.lemmas.List.{take-append-drop}
use Rattle.records.specs.declared.symbol_row.SymbolRow.{SymbolRow}
use Rattle.day_rules.specs.Places.{most_rows, blanks, filled_up, BlankBehind}

pub length_taken : (count : ℕ) (places : List SymbolRow) → BlankBehind count places
    → length (take count places) ≡ count
length_taken count places b =
    let s = b.size in let f = b.count_fits in omega (arith, length-take count places)

-- the rows and their number give the places back
pub filled_back : (count : ℕ) (places : List SymbolRow) → BlankBehind count places
    → filled_up (take count places) ≡ places
filled_back count places b =
    ap (λ n. take count places ++ blanks (most_rows - n)) (length_taken count places b)
    ∙ ap (λ rest. take count places ++ rest) (sym b.past)
    ∙ take-append-drop count places
