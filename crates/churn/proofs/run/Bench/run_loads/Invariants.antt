-- The loads before this one are printed.
use Rattle.std.proofs.Common.{◌≡◌, false, flat_map, length, take}
use Rattle.std.specs.Io.KnownBytes.{Appends}
use Rattle.churn.specs.Runs.{load_line}
use Rattle.churn.proofs.run.Bench.run_loads.Given as goal

abbrev pub invariant-loop-load : goal.invariant-loop-load
invariant-loop-load g l = record {
  limit : (g.S.Store.model l.store).limit ≡ (g.S.Store.model l.initial.store).limit;
  printed :
      l.self.asked.now.timed ≡ false
      → Appends (g.W.Write.contents l.initial.output) (g.W.Write.contents l.output)
      (flat_map
      (load_line (g.S.Store.model l.initial.store).limit (length l.initial.live)
      l.self.asked.now.sizes.pairs)
      (take l.load-index l.loads));
}
