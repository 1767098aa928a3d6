use Rattle.std.proofs.Common.{rules}
use Rattle.replaying.proofs.Reporting.{whole}
use Rattle.replaying.proofs.replay.replay.Goals as goal

pub returns-in-Row : goal.returns-in-Row
returns-in-Row g c = whole _ _ _ _ _ c.args.options.now (search rules) c.over_rows.ensures

pub returns-in-Hashed : goal.returns-in-Hashed
returns-in-Hashed g c = whole _ _ _ _ _ c.args.options.now (search rules) c.over_slots.ensures

pub returns : goal.returns
returns g c = whole _ _ _ _ _ c.args.options.now (search rules) c.over_slots-in-Spread.ensures
