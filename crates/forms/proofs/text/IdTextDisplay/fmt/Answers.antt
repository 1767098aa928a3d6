use Rattle.forms.proofs.Legible.{id_legible}
use Rattle.forms.proofs.text.IdTextDisplay.fmt.Goals as goal

pub unreachable-requires : goal.unreachable-requires
unreachable-requires g c = c.in-Err.ensures (rw c.digits.ensures (id_legible c.args.self.now.0))
