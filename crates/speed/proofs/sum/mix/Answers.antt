use Rattle.std.proofs.Common.{rules}
use Rattle.speed.specs.Checksum.{mixed}
use Rattle.speed.proofs.sum.mix.Goals as goal

pub returns : goal.returns
unfolding mixed
returns c = search rules
