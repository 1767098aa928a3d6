use Rattle.std.proofs.Common.{false, refl, lit≤}
use Rattle.std.proofs.lemmas.Bool.{both_ways}
use Rattle.messages.proofs.Laws.{same_line, no_line}
use Rattle.lines.proofs.rewriting.comes_back.Goals as goal

pub returns-in-Ok : goal.returns-in-Ok
returns-in-Ok c =
    let same = same_line c.args.message.now _ _ c.in-Ok.size c.in-Ok.ensures.promise c.args.line.now in
    let test = c.is_front.ensures in
    (λ e. same.0 (test.0 e), λ l. test.1 (same.1 l))

pub returns-in-Err : goal.returns-in-Err
returns-in-Err c = (
  (λ e. absurd (both_ways false refl e)),
  (λ l. absurd (no_line c.args.message.now _ _ c.in-Err.field-0 c.in-Err.ensures.promise (lit≤ tt) c.args.line.now l)),
)
