use Rattle.capture.specs.Lines.{lines_of}
use Rattle.ledger_calls.specs.Runs.{HasLaws}
use Rattle.ledger_calls.proofs.Lawful.{has-laws, whatever}
use Rattle.ledger_calls.proofs.running.run.Goals as goal

pub returns-clause-laws : goal.returns-clause-laws
returns-clause-laws g c = whatever (λ bytes. HasLaws (lines_of bytes)) (λ bytes. has-laws (lines_of bytes)) (g.R.Read.remaining c.args.input.now)
