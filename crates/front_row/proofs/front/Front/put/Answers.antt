use Rattle.std.proofs.Common.{rules}
use Rattle.front_row.proofs.Agreement.{after-insert, after-replace}
use Rattle.front_row.proofs.front.Front.put.Goals as goal

pub returns-clause-inserted : goal.returns-clause-inserted
returns-clause-inserted c = after-insert c.args.order _ _ (search rules)

pub returns-clause-replaced : goal.returns-clause-replaced
returns-clause-replaced c = after-replace c.args.order _ _ (search rules)
