use Rattle.std.proofs.Common.{◌≡◌, ◌++◌, take, None, Some, Ok, Err, Result, rules}
use Rattle.std.specs.Prelude.{OnErr}
use Rattle.capture.specs.Held.{held}
use Rattle.capture.specs.Splits.{after_end, before_end}
use Rattle.capture.proofs.Cutting.{unended-on}
use Rattle.lines.proofs.Piecing.{listed-none, listed-line, stopped-line, stopped-later}
use Rattle.lines.proofs.listing.Listing.take.Goals as goal

pub invariant_of-self : goal.invariant_of-self
invariant_of-self g c = record {
  unended = rw (c.extend.ensures, c.split_line.ensures.first) (unended-on (held c.loop-next.self.line) c.loop-next.rest.now c.loop-next.self.unended);
}

pub returns-in_default-clause-says : goal.returns-in_default-clause-says
returns-in_default-clause-says g c =
    let none : after_end c.loop-next.rest.now ≡ None = search rules in
    c.loop-next.invariant.1 (held c.extend.new.self) c.loop-next.self.totals (g.W.Write.contents c.loop-next.output)
    (rw (c.extend.ensures, c.split_line.ensures.first) (listed-none (held c.loop-next.self.line) c.loop-next.rest.now c.loop-next.self.totals (g.W.Write.contents c.loop-next.output) c.loop-next.self.unended none))

pub loop-next-preserved : goal.loop-next-preserved
loop-next-preserved g c =
    let begun = held c.loop-next.self.line in
    let rest = c.loop-next.rest.now in
    let next = c.in-Some.next.now in
    let line = held c.extend.new.self in
    let ends : after_end rest ≡ Some next = search rules in
    let is-line : line ≡ take 255 (begun ++ before_end rest) = rw c.split_line.ensures.first at c.extend.ensures in (
      λ even. c.end_line.ensures.even (c.loop-next.invariant.0 even),
      λ left u is others.
          c.loop-next.invariant.1 left u is
          (listed-line begun rest next left line c.loop-next.self.totals c.end_line.new.self.totals u (g.W.Write.contents c.loop-next.output) (g.W.Write.contents c.end_line.new.output) is
          c.loop-next.self.unended ends is-line c.end_line.ensures.counts c.in_ok-end_line.ensures.says (rw c.end_line.ensures.line at others)),
      λ left u later.
          c.loop-next.invariant.2 left u
          (stopped-later begun rest next left line c.loop-next.self.totals c.end_line.new.self.totals u
          c.loop-next.self.unended ends is-line c.end_line.ensures.counts (rw c.end_line.ensures.line at later)),
    )

when-err : {T E : Type 0} {P : Type 0} (r : Result T E) → P → OnErr r P
when-err (Ok x) p = tt
when-err (Err e) p = p

pub returns-in_err-end_line-clause-stops : goal.returns-in_err-end_line-clause-stops
returns-in_err-end_line-clause-stops g c =
    let begun = held c.loop-next.self.line in
    let rest = c.loop-next.rest.now in
    let line = held c.extend.new.self in
    let left = held c.end_line.new.self.line in
    let ends : after_end rest ≡ Some c.in-Some.next.now = search rules in
    let is-line : line ≡ take 255 (begun ++ before_end rest) = rw c.split_line.ensures.first at c.extend.ensures in
    when-err c.from_residual.result
    (c.loop-next.invariant.2 left c.end_line.new.self.totals
    (stopped-line begun rest c.in-Some.next.now left line c.loop-next.self.totals c.end_line.new.self.totals c.loop-next.self.unended ends is-line c.end_line.ensures.line c.end_line.ensures.counts))
