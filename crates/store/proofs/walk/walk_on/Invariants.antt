use Rattle.std.proofs.Common.{◌≡◌, ◌-◌, List, length}
use Rattle.tally.specs.Joining.{IsReordering}
use Rattle.store.proofs.Walking.{Walked}
use Rattle.store.proofs.walk.walk_on.Given as goal

abbrev pub invariant-loop-turn : goal.invariant-loop-turn
invariant-loop-turn g l =
    (rows : List g.row.R.Denot) → g.S.Store.ready l.store → IsReordering (g.S.Store.ahead l.store l.initial.place) rows → l.count ≡ length rows
    → Walked (g.M.Measure.given l.measure) g.M.Out.Tally.none g.M.Out.Tally.joining rows (g.S.Store.ahead l.store l.place) l.met (l.count - l._turn)
