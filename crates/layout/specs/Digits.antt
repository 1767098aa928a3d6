-- The digits of a number in a base, as many as asked for, the highest first. `number_from_digits` of the library is the way back.
use Rattle.std.specs.Prelude.{ℕ, zero, suc, ◌/◌, ◌%◌, ◌^◌, List, [], ◌∷◌, map}
use Rattle.layout.specs.Bytes.{byte_within}

unfoldable pub digits : ℕ → ℕ → ℕ → List ℕ
digits b zero v = []
digits b (suc n) v = v / b ^ n % b ∷ digits b n v

-- the bytes that stand for them
unfoldable pub digit_bytes : ℕ → ℕ → ℕ → List ℕ
digit_bytes b n v = map (byte_within b) (digits b n v)
