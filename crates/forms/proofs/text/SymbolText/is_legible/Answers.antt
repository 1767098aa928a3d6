use Rattle.forms.proofs.Legible.{symbol_legible}
use Rattle.forms.proofs.text.SymbolText.is_legible.Goals as goal

pub returns-clause-symbols : goal.returns-clause-symbols
returns-clause-symbols c p given = c.is_text.ensures.1 (rw c.letters.ensures (symbol_legible c.args.self.0 p given))
