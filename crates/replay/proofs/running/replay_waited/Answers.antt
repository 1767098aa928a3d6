use Rattle.std.proofs.lemmas.Result.{on_ok_weaker}
use Rattle.capture.proofs.Reading.{kept-known}
use Rattle.replay.proofs.running.replay_waited.Goals as goal

pub returns : goal.returns
returns g c = on_ok_weaker c.replay.result (λ said. kept-known (g.R.Read.remaining c.args.input.now) (g.R.Read.remaining c.wait.new.input) _ c.in_ok-wait.ensures.keeps said) c.replay.ensures
