-- The mixed bits of a key, and its tag.
use Rattle.std.specs.Prelude.{ℕ, ◌+◌, ◌*◌, ◌/◌, ◌%◌, ◌^◌}

-- The bits of a key, mixed: its product with the odd number next to the golden section of 2^64.
-- Keys that end alike come far apart.
unfoldable pub mixed : ℕ → ℕ
mixed k = k * 11400714819323198485 % 2 ^ 64

-- Seven bits of the mixed key. No tag is 0.
unfoldable pub tag_of : ℕ → ℕ
tag_of k = 128 + mixed k / 2 ^ 34 % 128
