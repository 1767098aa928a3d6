-- Totals are equal where their numbers are, and adding them keeps a tally's laws.
use Rattle.std.specs.Prelude.{◌≡◌, ◌+◌, ◌^◌, ◌<◌, min}
use Rattle.std.proofs.Common.{ap, arith, add_comm}
use mathlib.Core.HLevel.{is_prop→PathP}
use Rattle.std.proofs.Math.Bridge.{le_prop}
use Rattle.tally.specs.declared.total.Total.{Total}
use Rattle.tally.specs.Totals.{greatest_total, total_of, together}

pub same_total : (x y : Total) → x.number ≡ y.number → x ≡ y
same_total x y e = λ i. record {
  number = e i;
  fits = is_prop→PathP (λ j. e j < 2 ^ 64) (λ j. le_prop) x.fits y.fits i;
}

pub associative : (x y z : Total) → together (together x y) z ≡ together x (together y z)
associative x y z =
    same_total _ _ (let e : min (min (x.number + y.number) greatest_total + z.number) greatest_total ≡ min (x.number + min (y.number + z.number) greatest_total) greatest_total = omega arith in e)

pub commutative : (x y : Total) → together x y ≡ together y x
commutative x y = ap total_of (add_comm x.number y.number)

pub neutral : (x : Total) → together (total_of 0) x ≡ x
neutral x =
    let fits = x.fits in
    same_total _ _ (let e : min (min 0 greatest_total + x.number) greatest_total ≡ x.number = omega arith in e)
