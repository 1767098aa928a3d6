use Rattle.std.proofs.Common.{◌≤◌, take, drop}
use Rattle.store.specs.Lists.{Rising}
use Rattle.store.proofs.Each.{Lower, Higher}
use Rattle.row_store.proofs.seek.seek.Given as goal

abbrev pub invariant-loop-i : goal.invariant-loop-i
invariant-loop-i g l =
    (l.place ≤ l.i)
    × (Rising g.R.Record.key l.rows → Lower g.R.Record.key l.key (take l.place l.rows))
    × (Rising g.R.Record.key l.rows → Higher g.R.Record.key l.key (drop l.place (take l.i l.rows)))
