use Rattle.std.proofs.Common.{arith}
use Rattle.day_rules.proofs.Placing.{blank-behind, listed}
use Rattle.day_rules.proofs.first_rows.FirstRows.of.Goals as goal

pub invariant_of-result : goal.invariant_of-result
invariant_of-result c = blank-behind c.min-count.result c.args.rows.now c.copy_from_slice.new.self (omega arith) c.copy_from_slice.ensures.after

pub returns : goal.returns
returns c = listed c.min-count.result c.args.rows.now c.copy_from_slice.new.self (omega arith) c.copy_from_slice.ensures.after
