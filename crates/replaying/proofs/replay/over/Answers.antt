use Rattle.std.proofs.Common.{rules}
use Rattle.replaying.proofs.Reporting.{of_day}
use Rattle.replaying.proofs.replay.over.Goals as goal

pub returns-then-options : goal.returns-then-options
returns-then-options g c = of_day _ _ _ _ _ c.args.options.now.shown _ _ (search rules) c.keep.ensures
