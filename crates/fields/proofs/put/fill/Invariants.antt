use Rattle.std.proofs.Common.{◌≡◌, ◌-◌, ◌/◌, ◌^◌, ◌++◌, length, take}
use Rattle.layout.specs.Digits.{digit_bytes}
use Rattle.fields.proofs.put.fill.Given as goal

-- the digits from the place on are written, and what is left stands for those before it
abbrev pub invariant-loop-place : goal.invariant-loop-place
invariant-loop-place l =
    (l.part ≡ take l.place l.initial.part ++ digit_bytes l.base (length l.initial.part - l.place) l.value)
    × (l.left ≡ l.value / l.base ^ (length l.initial.part - l.place))
