use Rattle.day.proofs.Printed.{all_said}
use Rattle.day.proofs.running.run.Goals as goal

pub returns : goal.returns
returns g c = all_said c.run_over.result (g.R.Read.remaining c.args.input.now) (g.W.Write.contents c.args.output.now) _ c.run_over.ensures
