-- What was printed and what is to come is what was to be printed.
use Rattle.store_calls.specs.Runs.{opening_text}
use Rattle.capture.specs.Sessions.{Says}
use Rattle.store_calls.proofs.running.open_each.Given as goal

abbrev pub invariant-loop : goal.invariant-loop
invariant-loop g l =
    Says (g.R.Read.remaining l.initial.input) (g.R.Read.remaining l.input) (g.W.Write.contents l.initial.output) (g.W.Write.contents l.output)
    (opening_text l.initial.next l.initial.count.lines) (opening_text l.next l.count.lines)
