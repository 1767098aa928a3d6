use Rattle.std.proofs.Common.{◌≡◌, ◌+◌}
use Rattle.std.specs.List.{copy_within}
use Rattle.row_store.proofs.shift.move_down.Given as goal

abbrev pub invariant-loop-i : goal.invariant-loop-i
invariant-loop-i g l = l.rows ≡ copy_within l.initial.rows (l.place + 1) (l.i + 1) l.place
