use Rattle.std.proofs.Common.{◌++◌, [], take, sym, subst}
use Rattle.std.proofs.lemmas.Result.{on_ok_weaker}
use Rattle.std.specs.Io.KnownBytes.{Appends}
use Rattle.capture.specs.Held.{held}
use Rattle.day_lines.specs.Texts.{answer_line}
use Rattle.day_lines.proofs.Putting.{taken_one, begun_alone}
use Rattle.day_lines.proofs.taking.take_last.Goals as goal

pub returns : goal.returns
returns g c =
    let was = g.W.Write.contents c.args.output.now in
    let is = g.W.Write.contents c.tell.new.output in
    let put = c.put in
    rw (begun_alone c.args.begun.now (sym c.if-is_empty.ensures)) (on_ok_weaker c.tell.result (λ told.
    taken_one c.args.shown (take 255 (held c.args.begun.now ++ [])) was is c.args.seen.now put.new.seen c.args.ledger.now put.new.ledger put.ensures.counts put.ensures.leaves
    (subst (λ a. Appends was is (answer_line c.args.shown put.new.seen.lines.lines a)) put.ensures.says told)) c.tell.ensures)
