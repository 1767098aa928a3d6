-- The stores before this one are printed.
use Rattle.std.proofs.Common.{◌≡◌, false, flat_map, length, take}
use Rattle.std.specs.Io.KnownBytes.{Appends}
use Rattle.churn.specs.Runs.{store_text}
use Rattle.churn.proofs.run.Bench.run_stores.Given as goal

abbrev pub invariant-loop-store : goal.invariant-loop-store
invariant-loop-store g l =
    l.self.asked.now.timed ≡ false
    → Appends (g.W.Write.contents l.initial.output) (g.W.Write.contents l.output)
    (flat_map (store_text l.self.asked.now (length l.initial.live))
    (take l.store-index l.stores))
