-- The laws of values: a value is its worth, and a sum that stops at the greatest value may be taken in any order.
use Rattle.std.specs.Prelude.{◌≡◌, ℕ, ◌+◌, ◌^◌, ◌<◌}
use Rattle.std.proofs.Common.{arith}
use mathlib.Core.HLevel.{is_prop→PathP}
use Rattle.std.proofs.Math.Bridge.{le_prop}
use Rattle.records.specs.declared.value.Value.{Value}
use Rattle.records.specs.Values.{worth, stopped, Parts, valued, joined}

-- two proofs of a bound are one, so the parts are all that a value holds
pub same_parts : (v w : Value) → v.high ≡ w.high → v.low ≡ w.low → v ≡ w
same_parts v w h l =
    λ i. record {
      high = h i;
      low = l i;
      small = is_prop→PathP (λ j. l j < 10 ^ 16) (λ j. le_prop) v.small w.small i;
      fits = is_prop→PathP (λ j. h j < 2 ^ 64) (λ j. le_prop) v.fits w.fits i;
    }

pub is_valued : (v : Value) (n : ℕ) → Parts v (stopped n) → v ≡ valued n
is_valued v n e = same_parts v (valued n) e.upper e.lower

pub same-worth : (v w : Value) → worth v ≡ worth w → v ≡ w
same-worth v w e = same_parts v w (omega arith) (omega arith)

pub worth-valued : (n : ℕ) → worth (valued n) ≡ stopped n
worth-valued n = omega arith

pub worth-joined : (v w : Value) → worth (joined v w) ≡ stopped (worth v + worth w)
worth-joined v w = worth-valued (worth v + worth w)

-- a part of a sum may be stopped before the rest is added
pub joined-valued : (m n : ℕ) → joined (valued m) (valued n) ≡ valued (m + n)
joined-valued m n =
    same-worth _ _ (omega (arith, worth-joined (valued m) (valued n), worth-valued m, worth-valued n, worth-valued (m + n)))

pub associative : (u v w : Value) → joined (joined u v) w ≡ joined u (joined v w)
associative u v w =
    same-worth _ _
    (omega (arith, worth-joined (joined u v) w, worth-joined u v, worth-joined u (joined v w), worth-joined v w))

pub commutative : (v w : Value) → joined v w ≡ joined w v
commutative v w = same-worth _ _ (omega (arith, worth-joined v w, worth-joined w v))

pub neutral : (v : Value) → joined (valued 0) v ≡ v
neutral v = same-worth _ _ (omega (arith, worth-joined (valued 0) v, worth-valued 0))
