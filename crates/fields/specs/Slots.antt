-- The slot that a field of digits, or a padded field, is.
use Rattle.std.specs.Prelude.{ℕ}
use Rattle.layout.specs.Slots.{Slot, number, text}
use Rattle.fields.specs.declared.numeral.Number.{Number}
use Rattle.fields.specs.declared.padded.Text.{Text}

abbrev pub number_slot : (base count : ℕ) → Number base count → Slot
number_slot base count f = number base count f.low f.high

abbrev pub text_slot : Text → Slot
text_slot f = text f.class f.least f.width f.whole
