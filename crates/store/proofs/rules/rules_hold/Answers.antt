use Rattle.store.proofs.Ruling.{rules}
use Rattle.store.proofs.rules.rules_hold.Goals as goal

pub returns : goal.returns
returns g c = rules g.R.Record.key
