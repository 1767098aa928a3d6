use Rattle.std.proofs.Common.{◌≡◌, ◌<◌, length}
use Rattle.store.specs.Lists.{sorted}
use Rattle.hashed_store.specs.Holes.{Holed}
use Rattle.hashed_store.specs.Slots.{held}
use Rattle.hashed_store.proofs.Straying.{straying}
use Rattle.hashed_store.proofs.close.close.Given as goal

abbrev pub invariant-loop-place : goal.invariant-loop-place
invariant-loop-place g l =
    (length l.slots ≡ length l.initial.slots) × (l.hole < length l.slots)
    × (Holed g.H.Home.home g.R.Record.key l.initial.slots l.reach l.initial.hole
    → Holed g.H.Home.home g.R.Record.key l.slots l.reach l.hole × (sorted g.R.Record.key (held l.slots) ≡ sorted g.R.Record.key (held l.initial.slots))
    × (length (held l.slots) ≡ length (held l.initial.slots)))

abbrev pub decreases-loop-place : goal.decreases-loop-place
decreases-loop-place g l = straying g.H.Home.home g.R.Record.key (length l.initial.slots) 0 l.slots
