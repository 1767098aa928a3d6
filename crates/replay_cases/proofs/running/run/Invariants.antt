-- The command lines so far are shown.
use Rattle.options.specs.declared.usage.TheConstants.{USAGE}
use Rattle.replay_cases.proofs.Cases.{Showing}
use Rattle.replay_cases.proofs.running.run.Given as goal

abbrev pub invariant-loop-command : goal.invariant-loop-command
invariant-loop-command g l = Showing (λ command. command.now) USAGE.now l.day (g.W.Write.contents l.initial.output) (g.W.Write.contents l.output) l.last.items l.commands l.command-index
