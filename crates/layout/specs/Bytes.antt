-- The classes of bytes, and what a byte is worth as a base 36 digit.
use Rattle.std.specs.Prelude.{ℕ, ◌+◌, ◌-◌, Bool, true, false, cond, ◌&&◌, ◌||◌, ◌==◌, nat_le, nat_lt}
use Rattle.layout.specs.declared.byte_class.ByteClass.{ByteClass}
use Rattle.layout.specs.declared.byte_class.ByteClass.TheVariants as byte
use Rattle.layout.specs.declared.class.Class.{Class}
use Rattle.layout.specs.declared.class.Class.TheVariants.{Graphic, Letter}

-- 0 to 9
abbrev pub is_digit : ℕ → Bool
is_digit x = nat_le 48 x && nat_le x 57

-- A to Z
abbrev pub is_letter : ℕ → Bool
is_letter x = nat_le 65 x && nat_le x 90

-- printable, and not a space
abbrev pub is_graphic : ℕ → Bool
is_graphic x = nat_le 33 x && nat_le x 126

-- the space too
abbrev pub is_printable : ℕ → Bool
is_printable x = x == 32 || is_graphic x

abbrev pub is_of : Class → ℕ → Bool
is_of Graphic x = is_graphic x
is_of Letter x = is_letter x

-- the class of a byte
unfoldable pub class_of : ℕ → ByteClass
class_of x =
    cond (is_digit x) byte.Digit
    (cond (is_letter x) byte.Letter
    (cond (is_graphic x) byte.Sign
    (cond (x == 32) byte.Space byte.Other)))

-- the class of the space
abbrev pub is_blank : ByteClass → Bool
is_blank byte.Digit = false
is_blank byte.Letter = false
is_blank byte.Sign = false
is_blank byte.Space = true
is_blank byte.Other = false

-- a text of one class has bytes of these
abbrev pub has_class : Class → ByteClass → Bool
has_class Graphic byte.Digit = true
has_class Graphic byte.Letter = true
has_class Graphic byte.Sign = true
has_class Graphic byte.Space = false
has_class Graphic byte.Other = false
has_class Letter byte.Digit = false
has_class Letter byte.Letter = true
has_class Letter byte.Sign = false
has_class Letter byte.Space = false
has_class Letter byte.Other = false

-- 0 to 9 are worth 0 to 9, A to Z 10 to 35; any other byte has the worth 36, which is no digit's
unfoldable pub worth_of : ℕ → ℕ
worth_of x = cond (is_digit x) (x - 48) (cond (is_letter x) (x - 55) 36)

-- the byte that stands for a digit of a base: up to base 36 a digit or a letter, above it the byte itself
unfoldable pub byte_within : ℕ → ℕ → ℕ
byte_within base d = cond (nat_le base 36) (cond (nat_lt d 10) (48 + d) (55 + d)) d
