use Rattle.std.proofs.Common.{refl, arith}
use Rattle.day_lines.proofs.Printing.{showing_starts, showing_on, showing_ends}
use Rattle.replaying.specs.Texts.{times_line, counts_text}
use Rattle.replaying.proofs.report.show_counts.Goals as goal

pub loop-number-init : goal.loop-number-init
loop-number-init g c = showing_starts counts_text (g.W.Write.contents c.args.output.now) c.args.counts.now

pub loop-number-preserved : goal.loop-number-preserved
loop-number-preserved g c =
    showing_on counts_text (g.W.Write.contents c.args.output.now) (g.W.Write.contents c.loop-number.output) c.args.counts.now c.loop-number.number c.loop-number.invariant times_line
    (λ _ _. refl) (g.W.Write.contents c.show_times.new.output) _ (omega arith) c.in_ok-show_times.ensures

pub returns : goal.returns
returns g c =
    showing_ends counts_text (g.W.Write.contents c.args.output.now) (g.W.Write.contents c.loop-number.output) c.args.counts.now c.loop-number.number c.loop-number.invariant refl (omega arith)
