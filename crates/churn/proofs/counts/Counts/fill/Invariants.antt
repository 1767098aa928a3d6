-- The places before this one are filled.
use Rattle.std.proofs.Common.{◌≡◌, [], take}
use Rattle.churn.specs.Counts.{come_to, filled}
use Rattle.churn.proofs.counts.Counts.fill.Given as goal

abbrev pub invariant-loop-place : goal.invariant-loop-place
invariant-loop-place g l = g.S.Store.ready l.initial.store → record {
  still : g.S.Store.ready l.store;
  leaves :
      come_to l.self l.feed (take l.place-index l.live) (g.S.Store.model l.store)
      ≡ filled l.place-index
      (come_to l.initial.self l.initial.feed [] (g.S.Store.model l.initial.store));
}
