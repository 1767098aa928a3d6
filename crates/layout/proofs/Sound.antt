-- What the laws ask of a slot: the base has digits and letters enough, the range fits the digits, and a text its width.
use Rattle.std.proofs.Common.{◌^◌, Bool, true, ◌&&◌, ltb, leb}
use Rattle.layout.specs.Slots.{Slot, number, text, choice}

abbrev pub sound : Slot → Bool
sound (number base count low high) = leb 2 base && (leb base 36 && ltb high (base ^ count))
sound (text class least w whole) = leb least w && leb w whole
sound (choice letters) = true
