-- Homes are slots.
use Rattle.std.specs.Prelude.{ℕ, ◌*◌, ◌/◌, ◌^◌, ◌<◌}
use Rattle.std.proofs.Common.{arith}
use Rattle.std.proofs.lemmas.Bool.{ne_eqb}
use Rattle.std.proofs.Math.Nat.{div-lt_iff_lt-mul, mul-lt-mul_of_pos_right, mod-lt}
use Rattle.hashed_store.specs.Homes.{modulo, point, spread}

pub modulo_inside : (n k : ℕ) → 0 < n → modulo n k < n
modulo_inside n k some = rw (ne_eqb n 0 (λ e. omega arith)) (mod-lt k some)

point_below : (n k : ℕ) → point n k < 2 ^ 64
unfolding point
point_below n k = omega arith

-- a share of n slots is one of them
share_below : (m n : ℕ) → m < 2 ^ 64 → 0 < n → m * n / 2 ^ 64 < n
share_below m n small some =
    (div-lt_iff_lt-mul (omega arith)).1 (let h =
    mul-lt-mul_of_pos_right {k = n} small some in omega arith)

pub spread_inside : (n k : ℕ) → 0 < n → spread n k < n
unfolding spread
spread_inside n k some = share_below (point n k) n (point_below n k) some
