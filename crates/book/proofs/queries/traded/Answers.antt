use Rattle.std.proofs.Common.{◌∙◌}
use Rattle.book.proofs.Sums.{turnover-joined}
use Rattle.book.proofs.queries.traded.Goals as goal

pub returns : goal.returns
returns g c ready = c.walk.ensures.says ready ∙ turnover-joined _
