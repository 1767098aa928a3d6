use Rattle.std.proofs.Common.{◌≡◌, ◌+◌, ◌-◌, arith}
use Rattle.row_store.proofs.Shifts.{none_up, one_up}
use Rattle.row_store.proofs.shift.move_up.Goals as goal

pub loop-i-init : goal.loop-i-init
loop-i-init g c = (c.requires.0, none_up c.args.rows.now c.args.count)

pub loop-i-preserved : goal.loop-i-preserved
loop-i-preserved g c =
    let f = c.loop-i.i - 1 in
    let here : c.loop-i.i ≡ f + 1 = omega arith in
    (omega arith, one_up c.args.rows.now c.loop-i.rows c.args.count f c.index-rows-i.result (omega arith) (omega arith) (rw here at c.loop-i.invariant.1) c.index-rows-i.is)

pub returns : goal.returns
returns g c = let end : c.loop-i.i ≡ c.args.place = omega arith in rw end at c.loop-i.invariant.1
