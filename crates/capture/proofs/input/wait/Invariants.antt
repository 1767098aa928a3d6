use Rattle.std.specs.Io.KnownBytes.{Keeps}
use Rattle.capture.proofs.input.wait.Given as goal

-- no byte is taken
abbrev pub invariant-loop : goal.invariant-loop
invariant-loop g l = Keeps (g.R.Read.remaining l.initial.input) (g.R.Read.remaining l.input)
