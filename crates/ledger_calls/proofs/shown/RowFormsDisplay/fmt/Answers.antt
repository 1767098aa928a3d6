use Rattle.std.proofs.Common.{◌++◌, codes, arith, get_or, rules}
use Rattle.std.proofs.Output.{has_written_append, has_written_of_eq}
use Rattle.day_forms.specs.Texts.{row_text}
use Rattle.day_rules.specs.Rows.{new_row}
use Rattle.ledger_calls.proofs.Listing.{one-more, no-more}
use Rattle.ledger_calls.proofs.shown.RowFormsDisplay.fmt.Goals as goal

pub loop-row-preserved : goal.loop-row-preserved
loop-row-preserved g c = λ plain.
    let so_far = c.loop-row.invariant plain in
    let rows = c.args.self.now.0.now in
    (so_far.0 ++ (codes " " ++ row_text (get_or rows c.loop-row.row-index (new_row 0))), has_written_append _ _ _ _ _ _ so_far.1 (search rules), one-more so_far.0 rows c.loop-row.row-index so_far.2 (new_row 0) (omega arith))

pub returns-clause-writes : goal.returns-clause-writes
returns-clause-writes g c = λ plain _.
    let so_far = c.loop-row.invariant plain in
    has_written_of_eq _ _ _ _ _ (no-more so_far.0 c.args.self.now.0.now c.loop-row.row-index so_far.2 (omega arith)) so_far.1
