use Rattle.std.proofs.Common.{arith, rules}
use Rattle.std.proofs.lemmas.List.FromFn.{get_or-map-range_with_len}
use Rattle.layout.specs.Bytes.{class_of, worth_of}
use Rattle.fields.specs.Rows.{row_of}
use Rattle.fields.proofs.table.look_up.Goals as goal

pub returns : goal.returns
unfolding class_of worth_of
returns c = get_or-map-range_with_len row_of 0 256 c.args.byte c.args.byte _ (search rules) (omega arith)
