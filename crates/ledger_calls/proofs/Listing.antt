-- Rows that are written one after the other.
use Rattle.std.proofs.Common.{◌≡◌, ℕ, ◌+◌, ◌<◌, ◌≤◌, List, ◌∷◌, ◌++◌, codes, length, get_or, drop, sym, ap, ◌∙◌, append_assoc, append-nil}
use Rattle.std.proofs.lemmas.List.{drop_all}
use Rattle.std.proofs.Math.Seq.{drop-cons}
use native.Mathlib.Numerals.{unary_clauses}
use Rattle.records.specs.declared.symbol_row.SymbolRow.{SymbolRow}
use Rattle.day_forms.specs.Texts.{row_text}
use Rattle.ledger_calls.specs.Texts.{rows_text}

module _ (done : List ℕ) (rows : List SymbolRow) (n : ℕ) (so_far : done ++ rows_text (drop n rows) ≡ rows_text rows) where
  pub one-more : (default : SymbolRow) → n < length rows → (done ++ (codes " " ++ row_text (get_or rows n default))) ++ rows_text (drop (n + 1) rows) ≡ rows_text rows
  unfolding rows_text
  one-more default more =
      let first : drop n rows ≡ get_or rows n default ∷ drop (n + 1) rows = simp unary_clauses (drop-cons rows n default more) in
      append_assoc done (codes " " ++ row_text (get_or rows n default)) (rows_text (drop (n + 1) rows)) ∙ ap (λ rs. done ++ rows_text rs) (sym first) ∙ so_far

  pub no-more : length rows ≤ n → done ≡ rows_text rows
  unfolding rows_text
  no-more over = sym (append-nil done) ∙ ap (λ rs. done ++ rows_text rs) (sym (drop_all n rows over)) ∙ so_far
