use Rattle.forms.proofs.Legible.{id_legible}
use Rattle.forms.proofs.text.IdText.is_legible.Goals as goal

pub returns-clause-ids : goal.returns-clause-ids
returns-clause-ids c = c.is_text.ensures.1 (rw c.digits.ensures (id_legible c.args.self.0))
