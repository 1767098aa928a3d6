use Rattle.std.proofs.Common.{◌≡◌, ◌<◌, ◌≤◌, true, false, length, sym, subst, arith}
use Rattle.std.proofs.lemmas.Grind.{common_steps}
use Rattle.store.specs.Lists.{Rising}
use Rattle.store.proofs.Sweeps.{rising-others}
use Rattle.store.proofs.ModelsLemmas.{same-model}
use Rattle.row_store.proofs.Sweeping.{swept-out, swept-down}
use Rattle.row_store.proofs.sweep.sweep_rows.Goals as goal
use Rattle.row_store.proofs.sweep.sweep_rows.Goals.{then-not-picks, else-not-picks}

pub loop-i-preserved : goal.loop-i-preserved
loop-i-preserved g c =
    let p = g.P.Pick.picked c.args.pick.now in
    let xs = c.args.rows.now in
    let i = c.loop-i.i in
    let x = c.index-rows-i.result in
    let long : length c.loop-i.rows ≡ length xs = omega arith in
    let inside : i < length xs = omega arith in
    let h = c.loop-i.invariant in
    let read = c.index-rows-i.is in
    elim c.if-not-picks.branch [
      | then-not-picks w ↦
          let t : p x ≡ false = grind (arith, common_steps) in
          simp (w.rows-is, w.next-is) (swept-down p xs c.loop-i.rows c.loop-i.next i x long inside h read t)
      | else-not-picks w ↦
          let t : p x ≡ true = grind (arith, common_steps) in
          simp (w.rows-is, w.next-is) (swept-out p xs c.loop-i.rows c.loop-i.next i x long inside h read t)
    ]

pub returns : goal.returns
returns g c h =
    let p = g.P.Pick.picked c.args.pick.now in
    let low : c.loop-i.next ≤ length c.loop-i.rows = let b = c.loop-i.invariant.behind in omega arith in
    let all : c.loop-i.i ≡ c.args.count.now = omega arith in
    let front = rw all at c.loop-i.invariant.front in
    record {
      leaves = same-model _ _ front (omega arith);
      still = (low, subst (Rising g.R.Record.key) (sym front) (rising-others p g.R.Record.key _ h.1));
    }
