use Rattle.std.proofs.Common.{◌≡◌, ◌^◌, ◌<◌, take}
use Rattle.std.specs.Int.Digits.{number_from_digits}
use Rattle.layout.specs.Slots.{holds, after_space, Passes}
use Rattle.fields.specs.Slots.{text_slot}
use Rattle.fields.proofs.text.TextField.scan.Given as goal

abbrev pub invariant-loop-place : goal.invariant-loop-place
invariant-loop-place l =
    Passes (holds (text_slot l.self) l.line) l.place
    × (l.value ≡ number_from_digits 256 (take l.place l.line))
    × (l.value < 256 ^ l.place)
    × (l.spaced ≡ after_space l.line l.place)
