use Rattle.std.proofs.Common.{Some, rules}
use Rattle.capture.specs.Held.{held}
use Rattle.store_calls.specs.Runs.{said_on, opening_text}
use Rattle.capture.proofs.Saying.{says_line}
use Rattle.store_calls.proofs.serving.serve.Goals as goal

pub returns-in-Some : goal.returns-in-Some
returns-in-Some g c =
    says_line _ _ _ _ _ _ c.in_ok-next_line.field-0 (held c.next_line.new.line) (said_on c.args.count.now.lines (g.A.Answers.stored c.args.store))
    (said_on c.loop.count.lines (g.A.Answers.stored c.loop.store)) (opening_text (Some c.in-Some.opening) c.answer.new.count.lines)
    (search rules) c.loop.invariant.1 c.in_ok-next_line.ensures.lines c.in_ok-next_line.ensures.rest
    (rw (c.in-Some.is, c.parse.ensures, c.line.ensures) at c.in_ok-opening.ensures.says)

pub loop-preserved : goal.loop-preserved
loop-preserved g c = (
  c.answer.ensures.still,
  says_line _ _ _ _ _ _ c.in_ok-next_line.field-0 (held c.next_line.new.line) (said_on c.args.count.now.lines (g.A.Answers.stored c.args.store))
      (said_on c.loop.count.lines (g.A.Answers.stored c.loop.store)) (said_on c.answer.new.count.lines (g.A.Answers.stored c.answer.new.store))
      (search rules) c.loop.invariant.1 c.in_ok-next_line.ensures.lines c.in_ok-next_line.ensures.rest
      (rw (c.in_default.is, c.parse.ensures, c.line.ensures) at c.in_ok-opening.ensures.says),
)
