use Rattle.std.proofs.Common.{◌≡◌, ◌++◌, map, take, drop}
use Rattle.front_row.specs.Fronts.{swept_place}
use Rattle.front_row.proofs.front.Front.sweep.Given as goal

abbrev pub invariant-loop-place : goal.invariant-loop-place
invariant-loop-place g l = l.place-items ≡ map (swept_place (g.P.Pick.picked l.pick)) (take l.place-index l.initial.place-items) ++ drop l.place-index l.initial.place-items
