use Rattle.std.proofs.Common.{refl, length-set, arith}
use Rattle.store.proofs.Walking.{seen}
use Rattle.store.proofs.Gathering.{gathered_more, gathered-all}
use Rattle.store.proofs.clients.gather.Goals as goal

pub loop-place-preserved : goal.loop-place-preserved
loop-place-preserved g c ready =
    gathered_more _ c.loop-place.row c.loop-place.place-index _ (c.loop-place.invariant ready) (omega arith) c.in-Some.visit.record _
    (seen _ _ c.in-Some.visit _ (c.in-Some.ensures ready) c.in-Some-next.is)

pub returns-in_default-next : goal.returns-in_default-next
returns-in_default-next g c ready size =
    let written = gathered_more _ c.loop-place.row c.loop-place.place-index _ (c.loop-place.invariant ready) (omega arith) c.in-Some.visit.record _
    (seen _ _ c.in-Some.visit _ (c.in-Some.ensures ready) c.in_default-next.is) in
    let long = length-set c.loop-place.row c.loop-place.place-index c.in-Some.visit.record in
    gathered-all _ _ _ _ written (omega arith) refl
