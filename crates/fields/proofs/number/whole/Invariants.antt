-- No more digits were counted than bytes were read; where as many were, all were digits, and the value is theirs.
use Rattle.std.proofs.Common.{◌≡◌, ◌^◌, ◌<◌, ◌≤◌, map, take}
use Rattle.std.specs.Int.Digits.{number_from_digits}
use Rattle.layout.specs.Bytes.{worth_of}
use Rattle.layout.specs.Slots.{number, holds, Passes}
use Rattle.fields.proofs.number.whole.Given as goal

abbrev pub invariant-loop-place : goal.invariant-loop-place
invariant-loop-place g l =
    (l.digits ≤ l.place)
    × (l.digits ≡ l.place → Passes (holds (number g.row.BASE g.row.COUNT 0 0) l.line) l.place
    × (l.value ≡ number_from_digits g.row.BASE (map worth_of (take l.place l.line)))
    × (l.value < g.row.BASE ^ l.place))
