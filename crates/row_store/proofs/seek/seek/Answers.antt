use Rattle.std.proofs.Common.{◌+◌, ◌<◌, arith}
use Rattle.row_store.proofs.Places.{lower-more, higher-more, none-behind}
use Rattle.row_store.proofs.seek.seek.Goals as goal
use Rattle.row_store.proofs.seek.seek.Goals.{then-here-key-2, else-here-key-2}

pub loop-i-preserved : goal.loop-i-preserved
loop-i-preserved g c =
    let key = g.R.Record.key in
    let k = c.args.key in
    let xs = c.args.rows.now in
    let i = c.loop-i.i in
    let x = c.index-rows-i.result in
    let read = c.key-here.ensures in
    elim c.if-here-key-2.branch [
      | then-here-key-2 w ↦
          let low : key x < k = omega arith in
          simp w.place-is (
            omega arith,
            lower-more key k xs i x c.loop-i-test.true c.index-rows-i.is low,
            λ h. none-behind key k xs (i + 1),
          )
      | else-here-key-2 w ↦
          let high : k < key x = omega arith in
          simp w.place-is (
            omega arith,
            c.loop-i.invariant.1,
            λ h. higher-more key k xs i c.loop-i.place x c.loop-i-test.true c.loop-i.invariant.0 c.index-rows-i.is high (c.loop-i.invariant.2 h),
          )
    ]
