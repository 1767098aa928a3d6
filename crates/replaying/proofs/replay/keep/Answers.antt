use Rattle.std.proofs.Common.{rules}
use Rattle.replaying.proofs.Reporting.{of_day}
use Rattle.replaying.proofs.replay.keep.Goals as goal

pub returns : goal.returns
returns g c = of_day _ _ _ _ _ c.args.options.now.shown _ _ (search rules) c.report.ensures
