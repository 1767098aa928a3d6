use Rattle.std.proofs.Common.{◌≡◌, ℕ, ◌+◌, ◌*◌, ◌%◌, ◌^◌, ◌<◌, ◌≤◌, Bool, true, false, ltb, get_or, take, Ok, refl, sym, ap, ◌∙◌, arith}
use mir.Val.{bool_byte}
use native.Mathlib.Numerals.{unary_clauses}
use Rattle.std.proofs.lemmas.Bool.{ltb-true}
use Rattle.layout.specs.Bytes.{worth_of}
use Rattle.layout.specs.Slots.{number, value_of}
use Rattle.layout.proofs.Digits.{push-lt}
use Rattle.layout.proofs.Reading.{scan-passes}
use Rattle.layout.proofs.Scanning.{number_more, push-fits, passes-step, in-front}
use Rattle.fields.proofs.number.whole.Goals as goal

-- one more at most is counted for a byte, and only for a digit
counted : (b : Bool) (n i : ℕ) → n ≤ i → (n + bool_byte b ≤ i + 1) × (n + bool_byte b ≡ i + 1 → (b ≡ true) × (n ≡ i))
counted true n i le = (omega arith, λ e. (refl, omega arith))
counted false n i le = (omega arith, λ e. absurd (omega arith))

-- what fits its type does not wrap
unwrapped : (x d : ℕ) → x + d < 2 ^ 64 → (x % 2 ^ 64 + d) % 2 ^ 64 ≡ x + d
unwrapped x d fits = omega arith

pub loop-place-preserved : goal.loop-place-preserved
loop-place-preserved g c =
    let size : c.from.result ≡ g.row.COUNT = c.from.ensures in
    let front : c.in_ok-held.held.now ≡ take g.row.COUNT c.args.line.now = rw (← size) (simp unary_clauses at c.in_ok-held.ensures.lookup.0.2) in
    let here = in-front _ _ _ front c.loop-place.place c.loop-place-test.true in
    let digit : c.from-digit.result ≡ worth_of (get_or c.args.line.now c.loop-place.place 0) = c.from-digit.ensures ∙ ap (λ r. r.worth) c.look_up.ensures ∙ ap worth_of here.2 in
    let one = counted (ltb c.from-digit.result g.row.BASE) c.loop-place.digits c.loop-place.place c.loop-place.invariant.0 in
    rw c.from-digits.ensures (
      one.0,
      λ all.
          let own = one.1 all in
          let was = c.loop-place.invariant.1 own.1 in
          let below = ltb-true _ _ own.0 in
          let fits = push-fits _ _ g.row.COUNT _ _ was.2 below here.0 c.requires.1 in
          let exact = unwrapped (c.loop-place.value * g.row.BASE) c.from-digit.result fits in (
            passes-step (number g.row.BASE g.row.COUNT 0 0) c.args.line.now _ was.0 here.1 (rw (← digit) own.0),
            rw (exact, number_more _ worth_of _ _ here.1, ← was.1, digit) refl,
            rw exact (push-lt _ _ _ _ was.2 below),
          ),
    )

pub returns-then-digits : goal.returns-then-digits
unfolding value_of
returns-then-digits g c low high =
    let size : c.from.result ≡ g.row.COUNT = c.from.ensures in
    let whole : c.loop-place.place ≡ g.row.COUNT = omega (arith, size, c.in_ok-held.ensures.lookup.0) in
    let own = c.loop-place.invariant.1 (c.if-digits.true ∙ sym whole) in
    scan-passes (number g.row.BASE g.row.COUNT low high) c.args.line.now (rw whole at own.0) ∙ ap Ok (sym (rw whole at own.1))
