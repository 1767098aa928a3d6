use Rattle.std.proofs.Common.{◌≡◌, ◌+◌, arith}
use Rattle.row_store.proofs.Shifts.{none_down, one_down}
use Rattle.row_store.proofs.shift.move_down.Goals as goal

pub loop-i-init : goal.loop-i-init
loop-i-init g c = none_down c.args.rows.now c.args.place

pub loop-i-preserved : goal.loop-i-preserved
loop-i-preserved g c = one_down c.args.rows.now c.loop-i.rows c.args.place c.loop-i.i c.index-rows-i.result c.loop-i.auto.i (omega arith) c.loop-i.invariant c.index-rows-i.is

pub returns : goal.returns
returns g c = let end : c.loop-i.i + 1 ≡ c.args.count = omega arith in rw end at c.loop-i.invariant
