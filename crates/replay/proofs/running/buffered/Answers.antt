use Rattle.std.proofs.KnownBytes.{prepend_known-nil}
use Rattle.replay.proofs.running.buffered.Goals as goal

pub returns : goal.returns
returns g c =
    rw (c.in_ok-with_capacity.ensures.capacity, c.in_ok-with_capacity.ensures.empty, c.in_ok-with_capacity.ensures.inner) (prepend_known-nil (g.R.Read.remaining c.args.input))
