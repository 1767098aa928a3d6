use Rattle.std.proofs.Common.{◌≡◌, ◌+◌, ◌≤◌}
use Rattle.std.specs.List.{copy_within}
use Rattle.row_store.proofs.shift.move_up.Given as goal

abbrev pub invariant-loop-i : goal.invariant-loop-i
invariant-loop-i g l = (l.place ≤ l.i) × (l.rows ≡ copy_within l.initial.rows l.i l.count (l.i + 1))
