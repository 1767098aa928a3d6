use Rattle.std.proofs.Common.{rules, arith}
use Rattle.front_row.specs.Fronts.{swept_place}
use Rattle.std.proofs.lemmas.Grind.{common_steps}
use Rattle.std.proofs.lemmas.List.Edits.{map_over_more}
use Rattle.front_row.proofs.Agreement.{after-sweep}
use Rattle.front_row.proofs.front.Front.sweep.Goals as goal

pub loop-place-preserved : goal.loop-place-preserved
loop-place-preserved g c = search (rules, map_over_more (swept_place (g.P.Pick.picked c.args.pick.now)))

pub returns-clause-agrees : goal.returns-clause-agrees
returns-clause-agrees g c = after-sweep (g.P.Pick.picked c.args.pick.now) _ _ (grind (arith, common_steps))
