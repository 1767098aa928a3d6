use Rattle.std.proofs.Common.{◌++◌, take, sym, subst, ap}
use Rattle.std.specs.Io.KnownBytes.{Appends}
use Rattle.capture.specs.Held.{held}
use Rattle.day_lines.specs.Texts.{answer_line}
use Rattle.day_lines.proofs.Putting.{taken_one, cutting_on, cutting_ends}
use Rattle.day_lines.proofs.taking.take_piece.Goals as goal

pub loop-end-preserved : goal.loop-end-preserved
loop-end-preserved g c none =
    let was = g.W.Write.contents c.loop-end.output in
    let is = g.W.Write.contents c.tell.new.output in
    let begun = held c.loop-end.begun in
    let line = take 255 (begun ++ c.in-Some.end.now) in
    let put = c.put in
    cutting_on c.args.shown (held c.args.begun.now) c.args.piece.now begun c.loop-end.rest.now (g.W.Write.contents c.args.output.now) was c.args.seen.now c.loop-end.seen c.args.ledger.now c.loop-end.ledger
    (c.loop-end.invariant none) line (held put.new.begun) c.in-Some.next.now is put.new.seen put.new.ledger (sym c.in-Some.ensures.1)
    (ap (λ e. take 255 (begun ++ e)) c.in-Some.ensures.0) put.ensures.clears
    (taken_one c.args.shown line was is c.loop-end.seen put.new.seen c.loop-end.ledger put.new.ledger put.ensures.counts put.ensures.leaves
    (subst (λ a. Appends was is (answer_line c.args.shown put.new.seen.lines.lines a)) put.ensures.says c.in_ok-tell.ensures))

pub returns : goal.returns
returns g c none =
    cutting_ends c.args.shown (held c.args.begun.now) c.args.piece.now (held c.loop-end.begun) c.loop-end.rest.now (g.W.Write.contents c.args.output.now) (g.W.Write.contents c.loop-end.output)
    c.args.seen.now c.loop-end.seen c.args.ledger.now c.loop-end.ledger (c.loop-end.invariant none) (held c.extend.new.self) (sym c.in_default.ensures) c.extend.ensures
