-- Where the search for a key starts: of n slots, the home of the key k.
use Rattle.std.specs.Prelude.{ℕ, ◌+◌, ◌*◌, ◌/◌, ◌%◌, ◌^◌, ◌==◌, cond, min}
use Rattle.std.specs.Int.Count.{count_leading_zeros}
use Rattle.hashed_store.specs.Mixing.{mixed}

-- the key modulo the number of slots; 0 where there is no slot
abbrev pub modulo : ℕ → ℕ → ℕ
modulo n k = cond (n == 0) 0 (k % n)

-- The point of the key k, of 2^64. 128 keys in a row come near one another, a slot or less apart
-- where there are n slots, so that the records of rising IDs share pages of memory; each such row
-- comes elsewhere.
unfoldable pub point : ℕ → ℕ → ℕ
point n k = (mixed (k / 128) + k % 128 * 2 ^ min (count_leading_zeros 64 n) 63) % 2 ^ 64

-- as far among the slots as the key's point is below 2^64
unfoldable pub spread : ℕ → ℕ → ℕ
spread n k = point n k * n / 2 ^ 64
