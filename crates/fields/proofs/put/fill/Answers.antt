use Rattle.std.proofs.Common.{◌≡◌, ◌+◌, ◌-◌, length, sym, pow-suc, div-one, add-one, arith}
use native.Mathlib.Nat.{div-div-eq-div-mul, pow-zero}
use Rattle.std.proofs.lemmas.List.{append-nil}
use Rattle.std.proofs.Math.Seq.{take-length}
use Rattle.layout.proofs.Writing.{digit_bytes-none, digits_before}
use Rattle.fields.proofs.put.fill.Goals as goal

pub loop-place-init : goal.loop-place-init
loop-place-init c =
    let none : length c.args.part.now - length c.args.part.now ≡ 0 = omega arith in (
      rw (none, digit_bytes-none c.args.base c.args.value, append-nil) (sym (take-length c.args.part.now)),
      rw (none, pow-zero, div-one),
    )

pub loop-place-preserved : goal.loop-place-preserved
loop-place-preserved c =
    let next : length c.args.part.now - (c.loop-place.place - 1) ≡ length c.args.part.now - c.loop-place.place + 1 = omega arith in (
      rw (c.loop-place.invariant.0, c.byte_in.ensures, c.loop-place.invariant.1)
          (digits_before c.args.part.now c.args.base c.args.value c.loop-place.place (c.loop-place.place - 1) (omega arith) (omega arith)),
      rw (c.loop-place.invariant.1, div-div-eq-div-mul, next, add-one, pow-suc),
    )
