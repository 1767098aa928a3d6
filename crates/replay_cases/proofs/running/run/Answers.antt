use Rattle.std.proofs.Common.{arith}
use Rattle.options.specs.declared.usage.TheConstants.{USAGE}
use Rattle.replay_cases.proofs.Cases.{showing_on}
use Rattle.replay_cases.proofs.running.run.Goals as goal

pub loop-command-preserved : goal.loop-command-preserved
loop-command-preserved g c =
    showing_on (λ command. command.now) USAGE.now c.args.day.now (g.W.Write.contents c.args.output.now) (g.W.Write.contents c.loop-command.output)
    c.loop-command.last.items c.args.commands.now c.loop-command.command-index c.loop-command.invariant (g.W.Write.contents c.show_case.new.output) _
    c.in_ok-last.last.items (omega arith) c.in_ok-last.ensures.shown (rw c.as_slice.ensures.value at c.in_ok-last.ensures.says)
