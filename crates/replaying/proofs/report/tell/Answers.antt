use Rattle.std.proofs.Common.{length}
use Rattle.replaying.proofs.Reporting.{told}
use Rattle.replaying.proofs.report.tell.Goals as goal

pub returns : goal.returns
returns g c =
    told c.close.result (g.R.Read.remaining c.args.input.now) (g.W.Write.contents c.args.output.now) (g.W.Write.contents c.take_lines.new.output) (g.W.Write.contents c.close.new.output)
    c.args.shown.now (length c.args.places.now) c.args.ledger.now c.take_lines.new.ledger c.in_ok-seen.seen
    c.in_ok-seen.ensures.says c.in_ok-seen.ensures.leaves c.in_ok-seen.ensures.seen c.close.ensures
