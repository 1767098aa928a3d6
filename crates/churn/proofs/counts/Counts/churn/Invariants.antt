-- So many turns are taken.
use Rattle.std.proofs.Common.{◌≡◌}
use Rattle.churn.specs.Counts.{come_to, churned}
use Rattle.churn.proofs.counts.Counts.churn.Given as goal

abbrev pub invariant-loop-turn : goal.invariant-loop-turn
invariant-loop-turn g l = g.S.Store.ready l.initial.store → record {
  still : g.S.Store.ready l.store;
  leaves :
      come_to l.self l.feed l.live (g.S.Store.model l.store)
      ≡ churned l._turn
      (come_to l.initial.self l.initial.feed l.initial.live (g.S.Store.model l.initial.store));
}
