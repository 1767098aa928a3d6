use Rattle.std.proofs.Common.{◌≤◌, length}
use Rattle.store.specs.Lists.{Rising}
use Rattle.store.proofs.Listing.{Listing}
use Rattle.store.proofs.clients.list_by_key.Given as goal

abbrev pub invariant-loop-place : goal.invariant-loop-place
invariant-loop-place g l =
    let rows = (g.S.Store.model l.store).rows in
    g.S.Store.ready l.store → Rising g.R.Record.key rows → length l.initial.row ≤ length rows → Listing g.R.Record.key rows l.row l.key l.place-index
