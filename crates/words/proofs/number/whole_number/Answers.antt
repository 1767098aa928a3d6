use Rattle.std.proofs.Common.{◌∙◌}
use Rattle.words.proofs.Lone.{number-alone}
use Rattle.words.proofs.number.whole_number.Goals as goal

pub returns : goal.returns
returns c = c.number.ensures ∙ number-alone c.args.line.now
