use Rattle.std.proofs.Common.{arith}
use Rattle.store.proofs.Listing.{listing-starts, listing-on, listed_more, listing-ends}
use Rattle.store.proofs.clients.list_by_key.Goals as goal

pub loop-place-init : goal.loop-place-init
loop-place-init g c ready rising room = listing-starts g.R.Record.key g.met.R.Record.narrow (g.S.Store.model c.args.store.now).rows _

pub loop-place-preserved : goal.loop-place-preserved
loop-place-preserved g c ready rising room =
    listing-on g.R.Record.key g.met.R.Record.narrow (g.S.Store.model c.args.store.now).rows _ _ _ (c.loop-place.invariant ready rising room) (omega arith)
    rising (omega arith) c.in-Some.item (c.in-Some.ensures ready) c.next_key-key.result c.next_key-key.ensures

pub returns-in_default : goal.returns-in_default
returns-in_default g c ready rising room =
    absurd (listed_more g.R.Record.key g.met.R.Record.narrow (g.S.Store.model c.args.store.now).rows _ _ _ (c.loop-place.invariant ready rising room) (omega arith) (c.in_default.ensures ready))

pub returns : goal.returns
returns g c ready rising room =
    listing-ends g.R.Record.key (g.S.Store.model c.args.store.now).rows c.loop-place.row c.loop-place.key _ c.loop-place.place-index (omega arith) (omega arith) (c.loop-place.invariant ready rising room)
