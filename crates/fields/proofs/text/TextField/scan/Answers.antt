use Rattle.std.proofs.Common.{◌≡◌, ℕ, ◌-◌, Bool, cond, not, ◌&&◌, eqb, leb, List, length, get_or, take, Ok, sym, ap, ◌∙◌, add-one, arith, lit<}
use native.Mathlib.Nat.{pow-le-pow_right}
use Rattle.std.proofs.lemmas.Int.Digits.{number_more, number_after_append}
use Rattle.std.proofs.lemmas.List.{length-take}
use Rattle.layout.specs.declared.byte_class.ByteClass.{ByteClass}
use Rattle.layout.specs.Bytes.{class_of, has_class, is_blank}
use Rattle.layout.specs.Slots.{after_space, keeps, value_of}
use Rattle.layout.proofs.Classes.{class-blank, class-has}
use Rattle.layout.proofs.Digits.{push-lt}
use Rattle.layout.proofs.Reading.{scan-stops, scan-passes}
use Rattle.layout.proofs.Scanning.{passes-step, stops-here, stops-short, in-front, front-short}
use Rattle.fields.specs.declared.padded.Text.{Text}
use Rattle.fields.specs.Slots.{text_slot}
use Rattle.fields.proofs.text.TextField.scan.Goals as goal

-- whether the byte at a place fits is the field's rule there
byte-keeps : (f : Text) (xs : List ℕ) (j x : ℕ) (class : ByteClass) (spaced fits : Bool) → x ≡ get_or xs j 0 → class ≡ class_of x → spaced ≡ after_space xs j → fits ≡ (cond (is_blank class) (leb f.least j) (has_class f.class class && not spaced)) → keeps (text_slot f) xs j ≡ fits
byte-keeps f xs j x class spaced fits here is before e = rw (e, is, before, class-blank x, class-has f.class x, here)

pub returns-then-not-fits : goal.returns-then-not-fits
returns-then-not-fits c =
    let here = in-front _ _ _ c.front-held.ensures c.loop-place.place c.loop-place-test.true in
    scan-stops _ _ _ (stops-here (text_slot c.args.self) c.args.line.now _ _ here.0 c.loop-place.invariant.0 (byte-keeps c.args.self c.args.line.now c.loop-place.place _ _ _ _ here.2 (ap (λ r. r.class) c.look_up.ensures) c.loop-place.invariant.3 c.if-not-fits.ensures))

pub loop-place-preserved : goal.loop-place-preserved
loop-place-preserved c =
    let here = in-front _ _ _ c.front-held.ensures c.loop-place.place c.loop-place-test.true in (
      passes-step (text_slot c.args.self) c.args.line.now _ c.loop-place.invariant.0 here.1 (byte-keeps c.args.self c.args.line.now c.loop-place.place _ _ _ _ here.2 (ap (λ r. r.class) c.look_up.ensures) c.loop-place.invariant.3 c.if-not-fits.ensures),
      rw (number_more 256 _ _ here.1, ← c.loop-place.invariant.1, here.2),
      rw here.2 (push-lt 256 _ _ _ c.loop-place.invariant.2 (c.type_inv.line c.loop-place.place).fits),
      rw add-one (c.is_space-spaced.ensures ∙ ap (λ r. is_blank r.class) c.look_up.ensures ∙ class-blank _ ∙ ap (λ b. eqb b 32) here.2),
    )

pub returns-then-held-self : goal.returns-then-held-self
returns-then-held-self c =
    let whole : c.loop-place.place ≡ length c.front-held.result.now = omega arith in
    scan-stops _ _ _ (stops-short (text_slot c.args.self) c.args.line.now _ _ c.if-held-self.true (rw whole at c.loop-place.invariant.0) (front-short _ _ _ c.front-held.ensures c.if-held-self.true))

pub filled-requires : goal.filled-requires
filled-requires c =
    let size = ap length c.front-held.ensures ∙ length-take c.args.self.width c.args.line.now in
    let room = pow-le-pow_right {n = 256} (lit< tt) {i = c.loop-place.place} {j = 8 - (c.args.self.whole - c.args.self.width)} (omega (arith, size)) in
    (omega arith, omega arith)

pub returns : goal.returns
unfolding value_of
returns c =
    let size = ap length c.front-held.ensures ∙ length-take c.args.self.width c.args.line.now in
    let same : c.loop-place.place ≡ c.args.self.width = omega (arith, size) in
    let value = rw same at c.loop-place.invariant.1 in
    scan-passes (text_slot c.args.self) c.args.line.now (rw same at c.loop-place.invariant.0)
    ∙ ap Ok (sym (rw value at c.filled.ensures ∙ sym (number_after_append 256 0 (take c.args.self.width c.args.line.now) _)))
