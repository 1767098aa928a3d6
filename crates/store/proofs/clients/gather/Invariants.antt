use Rattle.std.proofs.Common.{◌≡◌, ◌++◌, take}
use Rattle.store.proofs.clients.gather.Given as goal

abbrev pub invariant-loop-place : goal.invariant-loop-place
invariant-loop-place g l = g.S.Store.ready l.store → take l.place-index l.row ++ g.S.Store.ahead l.store l.next ≡ g.S.Store.ahead l.store 0
