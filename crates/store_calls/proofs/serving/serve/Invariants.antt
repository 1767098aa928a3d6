-- The store stays ready, and what was printed and what is to come is what was to be printed.
use Rattle.store_calls.specs.Runs.{said_on}
use Rattle.capture.specs.Sessions.{Says}
use Rattle.store_calls.proofs.serving.serve.Given as goal

abbrev pub invariant-loop : goal.invariant-loop
invariant-loop g l = g.A.Answers.ready l.store
    × Says (g.R.Read.remaining l.initial.input) (g.R.Read.remaining l.input) (g.W.Write.contents l.initial.output) (g.W.Write.contents l.output)
    (said_on l.initial.count.lines (g.A.Answers.stored l.initial.store)) (said_on l.count.lines (g.A.Answers.stored l.store))
