-- Rows copied into blank places.
use Rattle.std.proofs.Common.{◌≡◌, ℕ, min, List, ◌++◌, length, take, drop, length-take, length-append, ap, ◌∙◌, subst, arith}
use Rattle.std.proofs.lemmas.List.{drop-replicate, length-drop, length-replicate, take_min}
use Rattle.std.proofs.Math.Seq.{take-append_seam, drop-append_seam}
use Rattle.records.specs.declared.symbol_row.SymbolRow.{SymbolRow}
use Rattle.day_rules.specs.Places.{blanks, BlankBehind}
use Rattle.day_rules.specs.Rows.{new_row}

module _ (count : ℕ) (rs ls : List SymbolRow) (fits : count ≡ min 64 (length rs)) (copied : ls ≡ take count rs) where
  size : length ls ≡ count
  size = ap length copied ∙ omega (arith, length-take count rs)

  pub blank-behind : BlankBehind count (ls ++ drop count (blanks 64))
  blank-behind = record {
    size = omega (arith, size, length-append ls (drop count (blanks 64)), length-drop count (blanks 64), length-replicate 64 (new_row 0));
    count_fits = omega arith;
    past = subst (λ n. drop n (ls ++ drop count (blanks 64)) ≡ drop count (blanks 64)) size (drop-append_seam ls (drop count (blanks 64))) ∙ drop-replicate count 64 (new_row 0);
  }

  pub listed : take count (ls ++ drop count (blanks 64)) ≡ take 64 rs
  listed =
      subst (λ n. take n (ls ++ drop count (blanks 64)) ≡ ls) size (take-append_seam ls (drop count (blanks 64)))
      ∙ copied ∙ ap (λ n. take n rs) fits ∙ take_min 64 rs
