use Rattle.std.proofs.Common.{rules}
use Rattle.store_calls.proofs.Saying.{says_opened}
use Rattle.store_calls.proofs.opening.open_over.Goals as goal

pub returns-then-front : goal.returns-then-front
returns-then-front g c = says_opened _ _ _ _ _ _ _ _ c.limit.result _ _ _ (search rules) (search rules) (search rules) c.in_ok-show.ensures.says c.serve.ensures

pub returns-else-front : goal.returns-else-front
returns-else-front g c = says_opened _ _ _ _ _ _ _ _ c.limit.result _ _ _ (search rules) (search rules) (search rules) c.in_ok-show.ensures.says c.serve-else-front.ensures
