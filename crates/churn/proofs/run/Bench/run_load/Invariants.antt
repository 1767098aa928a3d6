-- So many pairs are removed and added, and nothing is printed where no times are asked for.
use Rattle.std.proofs.Common.{◌≡◌, ◌-◌, ◌≤◌, false}
use Rattle.churn.specs.Counts.{churned, come_to}
use Rattle.churn.specs.Times.{is_timed}
use Rattle.churn.proofs.run.Bench.run_load.Given as goal

abbrev pub invariant-loop-left : goal.invariant-loop-left
invariant-loop-left g l = record {
  ready : g.S.Store.ready l.store;
  timed : is_timed l.watch ≡ is_timed l.initial.watch;
  silent : is_timed l.initial.watch ≡ false → l.output ≡ l.initial.output;
  inside : l.left ≤ l.initial.left;
  done :
      come_to l.counts l.feed l.live (g.S.Store.model l.store)
      ≡ churned (l.initial.left - l.left)
      (come_to l.initial.counts l.initial.feed l.initial.live
      (g.S.Store.model l.initial.store));
}

abbrev pub decreases-loop-left : goal.decreases-loop-left
decreases-loop-left g l = l.left
