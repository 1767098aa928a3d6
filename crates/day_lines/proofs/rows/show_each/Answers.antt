use Rattle.std.proofs.Common.{refl, arith}
use Rattle.day_lines.specs.Texts.{row_line, rows_text}
use Rattle.day_lines.proofs.Printing.{showing_starts, showing_on, showing_ends}
use Rattle.day_lines.proofs.rows.show_each.Goals as goal

pub loop-row-init : goal.loop-row-init
loop-row-init g c = showing_starts (λ _. rows_text c.args.averaged) (g.W.Write.contents c.args.output.now) c.args.rows.now

pub loop-row-preserved : goal.loop-row-preserved
loop-row-preserved g c =
    showing_on (λ _. rows_text c.args.averaged) (g.W.Write.contents c.args.output.now) (g.W.Write.contents c.loop-row.output) c.args.rows.now c.loop-row.row-index c.loop-row.invariant (λ _. row_line c.args.averaged)
    (λ _ _. refl) (g.W.Write.contents c.show.new.output) _ (omega arith) c.in_ok-show.ensures

pub returns : goal.returns
returns g c =
    showing_ends (λ _. rows_text c.args.averaged) (g.W.Write.contents c.args.output.now) (g.W.Write.contents c.loop-row.output) c.args.rows.now c.loop-row.row-index c.loop-row.invariant refl (omega arith)
