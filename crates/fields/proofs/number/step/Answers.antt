use Rattle.std.proofs.Common.{◌≡◌, length, Ok, sym, ap, ◌∙◌, arith}
use Rattle.std.proofs.lemmas.List.{length-take}
use mir.Facts.{Fits-bits}
use Rattle.std.proofs.lemmas.Bool.{lt-ltb, le-ltb}
use Rattle.layout.specs.Bytes.{worth_of}
use Rattle.layout.specs.Slots.{number, value_of}
use Rattle.layout.proofs.Digits.{push-lt}
use Rattle.layout.proofs.Reading.{scan-stops, scan-passes}
use Rattle.layout.proofs.Scanning.{number_more, push-fits, passes-step, stops-here, stops-short, in-front, front-short}
use Rattle.fields.proofs.number.step.Goals as goal

pub returns-then-digit : goal.returns-then-digit
returns-then-digit g c low high =
    let here = in-front _ _ _ c.front-held.ensures c.loop-place.place c.loop-place-test.true in
    scan-stops _ _ _ (stops-here (number g.row.BASE g.row.COUNT 0 0) c.args.line.now _ _ here.0 c.loop-place.invariant.0 (le-ltb _ _ (rw ((c.from-digit.ensures ∙ ap (λ r. r.worth) c.look_up.ensures) ∙ ap worth_of here.2) at c.if-digit.true)))

pub overflow_mul-value : goal.overflow_mul-value
overflow_mul-value g c =
    let here = in-front _ _ _ c.front-held.ensures c.loop-place.place c.loop-place-test.true in
    let below = push-fits _ _ g.row.COUNT _ _ c.loop-place.invariant.2 c.if-digit.false here.0 c.requires.1 in
    Fits-bits 64 tt (omega arith)

pub overflow_add-value : goal.overflow_add-value
overflow_add-value g c =
    let here = in-front _ _ _ c.front-held.ensures c.loop-place.place c.loop-place-test.true in
    Fits-bits 64 tt (push-fits _ _ g.row.COUNT _ _ c.loop-place.invariant.2 c.if-digit.false here.0 c.requires.1)

pub loop-place-preserved : goal.loop-place-preserved
loop-place-preserved g c =
    let here = in-front _ _ _ c.front-held.ensures c.loop-place.place c.loop-place-test.true in
    let worth = (c.from-digit.ensures ∙ ap (λ r. r.worth) c.look_up.ensures) ∙ ap worth_of here.2 in (
      passes-step (number g.row.BASE g.row.COUNT 0 0) c.args.line.now _ c.loop-place.invariant.0 here.1 (lt-ltb _ _ (rw worth at c.if-digit.false)),
      rw (number_more _ worth_of _ _ here.1, ← c.loop-place.invariant.1, worth),
      push-lt _ _ _ _ c.loop-place.invariant.2 c.if-digit.false,
    )

pub returns-then-held : goal.returns-then-held
returns-then-held g c low high =
    let whole : c.loop-place.place ≡ length c.front-held.result.now = omega arith in
    scan-stops _ _ _ (stops-short (number g.row.BASE g.row.COUNT 0 0) c.args.line.now _ _ c.if-held.true (rw whole at c.loop-place.invariant.0) (front-short _ _ _ c.front-held.ensures c.if-held.true))

pub returns : goal.returns
unfolding value_of
returns g c low high =
    let size = ap length c.front-held.ensures ∙ length-take g.row.COUNT c.args.line.now in
    let same : c.loop-place.place ≡ g.row.COUNT = omega (arith, size) in
    scan-passes (number g.row.BASE g.row.COUNT low high) c.args.line.now (rw same at c.loop-place.invariant.0) ∙ ap Ok (sym (rw same at c.loop-place.invariant.1))
