use Rattle.std.proofs.Common.{◌∙◌}
use Rattle.book.proofs.Sums.{picked_depth}
use Rattle.book.proofs.queries.measure_depth.Goals as goal

pub returns : goal.returns
returns g c ready = c.walk.ensures.says ready ∙ picked_depth _ _
