-- All rows together come to all that traded, and no sum of them stops.
use Rattle.std.proofs.Common.{◌≡◌, ℕ, ◌*◌, ◌≤◌, true, cond, eqb, List, [], ◌∷◌, length, is_some, Some, refl, ap, ◌∙◌, arith}
use Rattle.std.proofs.lemmas.Bool.Decides.{nat_tests}
use Rattle.records.specs.declared.execution.Execution.{Execution}
use Rattle.records.specs.declared.symbol_row.SymbolRow.{SymbolRow}
use Rattle.records.specs.Keys.{symbol_key, row_worth}
use Rattle.records.specs.Values.{worth}
use Rattle.records.specs.ValuesLemmas.{worth-valued}
use Rattle.store.specs.Lists.{Each, Rising, lookup, holds, sum}
use Rattle.store.proofs.Each.{each-so}
use Rattle.book.specs.Books.{turnover_of}
use Rattle.day_rules.specs.Days.{greatest_limit}
use Rattle.day_rules.specs.Rows.{execution_worth}
use Rattle.day_rules.specs.Words.{History, row_needed}
use Rattle.day_rules.proofs.Rows.{parted, all-few, shares-most, worth-most, row-now, row-held}
use Rattle.day_rules.proofs.Standing.{NarrowFill, unless_marked, if_of, stored, row_stored, RowsStand}
use Rattle.day_rules.proofs.Sums.{sum-same, sum-both, sum-one, sum-none, each-all, found-own}

-- what is counted of each symbol that has a row is counted of all
module _ (w : Execution → ℕ) (rs : List SymbolRow) (rising : Rising symbol_key rs) where
  of_symbol : (e : Execution) (s : ℕ) → unless_marked (if_of w s) e ≡ cond (eqb e.symbol s) (unless_marked w e) 0
  of_symbol e s = grind (arith, nat_tests)

  in_rows : (e : Execution) → holds symbol_key e.symbol rs ≡ true → sum (λ r. unless_marked (if_of w (symbol_key r)) e) rs ≡ unless_marked w e
  in_rows e held =
      sum-same (λ r. unless_marked (if_of w (symbol_key r)) e) (λ r. cond (eqb e.symbol (symbol_key r)) (unless_marked w e) 0) rs (each-all _ (λ r. of_symbol e (symbol_key r)) rs)
      ∙ sum-one symbol_key e.symbol (unless_marked w e) rs rising
      ∙ rw held refl

  by_rows : (es : List Execution) → Each (λ e. holds symbol_key e.symbol rs ≡ true) es → sum (λ r. stored w (symbol_key r) es) rs ≡ sum (unless_marked w) es
  by_rows [] held = sum-none rs
  by_rows (e ∷ es) held =
      let both = sum-both (λ r. unless_marked (if_of w (symbol_key r)) e) (λ r. stored w (symbol_key r) es) rs in
      let one = in_rows e held.0 in
      let rest = by_rows es held.1 in
      omega arith

module _ (h : History) (es : List Execution) (rs : List SymbolRow) (st : RowsStand h es rs) where
  all_held : Each (λ e. holds symbol_key e.symbol rs ≡ true) es
  all_held = each-so (λ e. row_needed e.symbol h ≡ true) (λ e. holds symbol_key e.symbol rs ≡ true) (λ e t. ap is_some (row-held h es rs st e.symbol t)) es st.needed

  module _ (says : SymbolRow → ℕ) (w : Execution → ℕ) (tells : (s : ℕ) → says (row_stored s es) ≡ stored w s es) where
    row_tells : (r : SymbolRow) → lookup symbol_key (symbol_key r) rs ≡ Some r → says r ≡ stored w (symbol_key r) es
    row_tells r found = ap says (row-now h es rs st (symbol_key r) (Some r) found) ∙ tells (symbol_key r)

    all_rows : sum says rs ≡ sum (unless_marked w) es
    all_rows =
        sum-same says (λ r. stored w (symbol_key r) es) rs
        (each-so (λ r. lookup symbol_key (symbol_key r) rs ≡ Some r) (λ r. says r ≡ stored w (symbol_key r) es) row_tells rs (found-own symbol_key rs st.rising))
        ∙ by_rows w rs st.rising es all_held

  module _ (narrow : Each NarrowFill es) (few : length es ≤ greatest_limit) where
    pub all-shares : (turnover_of rs).volume.number ≡ sum (unless_marked (λ e. e.shares)) es
    all-shares =
        let small = all-few (λ e. e.shares) 999999 shares-most es narrow few in
        let all = all_rows (λ r. r.volume) (λ e. e.shares) (λ s. refl) in
        omega arith

    pub all-worth : worth (turnover_of rs).value ≡ sum (unless_marked execution_worth) es
    all-worth =
        let small = all-few execution_worth (999999 * 9999999999) worth-most es narrow few in
        let all = all_rows row_worth execution_worth (λ s. parted (stored execution_worth s es)) in
        worth-valued (sum row_worth rs) ∙ (omega arith)
