use Rattle.std.proofs.Common.{rules}
use Rattle.front_row.proofs.Agreement.{after-remove}
use Rattle.front_row.proofs.front.Front.remove.Goals as goal

pub returns-then-is_some-clause-agrees : goal.returns-then-is_some-clause-agrees
returns-then-is_some-clause-agrees c = after-remove c.args.key _ _ (search rules)

pub returns-else-is_some-clause-agrees : goal.returns-else-is_some-clause-agrees
returns-else-is_some-clause-agrees c = after-remove c.args.key _ _ (search rules)
