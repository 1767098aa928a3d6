use Rattle.std.proofs.Common.{refl}
use Rattle.front_row.proofs.Agreement.{after-clear}
use Rattle.front_row.proofs.front.Front.clear.Goals as goal

pub returns-clause-agrees : goal.returns-clause-agrees
returns-clause-agrees c = after-clear _ refl
