use Rattle.std.proofs.Common.{[], ◌∷◌, sym, ◌∙◌, arith}
use Rattle.layout.proofs.Reading.{scan-empty, scan-mark, scan-unmarked}
use Rattle.fields.proofs.mark.MarkField.scan.Goals as goal

pub returns-then-byte-self : goal.returns-then-byte-self
returns-then-byte-self c =
    let held = c.in-Some.ensures.item.3 in
    scan-mark c.args.self.letter c.args.line.now held.0 (sym (held.1 0) ∙ c.if-byte-self.true)

pub returns-else-byte-self : goal.returns-else-byte-self
returns-else-byte-self c = scan-unmarked c.args.self.letter c.args.line.now (λ e. c.if-byte-self.false (c.in-Some.ensures.item.3.1 0 ∙ e))

pub returns-in_default : goal.returns-in_default
returns-in_default c = scan-empty (c.args.self.letter ∷ []) c.args.line.now (omega (arith, c.in_default.ensures.item.3))
