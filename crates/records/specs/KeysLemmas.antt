-- A record is kept by a number of 64 bits.
use Rattle.std.specs.Prelude.{ℕ, ◌%◌, ◌^◌, ◌<◌}
use Rattle.std.proofs.Common.{arith}

pub narrow : (n : ℕ) → n % 2 ^ 64 < 2 ^ 64
narrow n = omega arith
