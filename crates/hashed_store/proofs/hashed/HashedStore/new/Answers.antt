use Rattle.std.proofs.Common.{length}
use Rattle.hashed_store.proofs.Placing.{blank_ready, blank_empty}
use Rattle.hashed_store.proofs.hashed.HashedStore.new.Goals as goal

pub returns-clause-ready : goal.returns-clause-ready
returns-clause-ready g c = rw c.new.ensures (blank_ready g.H.Home.home g.met.H.Home.inside g.R.Record.key (length c.args.rows.now))

pub returns-clause-empty : goal.returns-clause-empty
returns-clause-empty g c = rw c.new.ensures (blank_empty g.H.Home.home g.met.H.Home.inside g.R.Record.key (length c.args.rows.now))
