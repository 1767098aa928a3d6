-- What has traded of a symbol, by the log.
use Rattle.std.proofs.Common.{◌≡◌, ℕ, cond, sym, ◌∙◌, arith}
use Rattle.std.proofs.lemmas.Bool.Decides.{nat_tests}
use Rattle.store.specs.Lists.{sum}
use Rattle.records.specs.declared.execution.Execution.{Execution}
use Rattle.day_rules.specs.Days.{Day}
use Rattle.day_rules.specs.Words.{History, fills, counts_for, traded}
use Rattle.day_rules.proofs.Standing.{unless_broken, if_of, stored, Stands}
use Rattle.day_rules.proofs.Sums.{sum-same, sum-those, each-all}

module _ (h : History) (d : Day) (st : Stands h d) where
  counted_so : (w : Execution → ℕ) (s : ℕ) (e : Execution) → cond (counts_for s h e) (w e) 0 ≡ unless_broken (if_of w s) h e
  counted_so w s e = grind (arith, nat_tests)

  -- what is counted of the stored, unbroken executions of a symbol is counted of those of the log
  pub stored-traded : (w : Execution → ℕ) (s : ℕ) → stored w s d.executions.rows ≡ sum w (traded s h)
  stored-traded w s =
      sym
      (sum-those w (counts_for s h) (fills h)
      ∙ sum-same (λ e. cond (counts_for s h e) (w e) 0) (unless_broken (if_of w s) h) (fills h) (each-all _ (counted_so w s) (fills h))
      ∙ st.fills.same (if_of w s))
