use Rattle.std.proofs.Common.{Some}
use Rattle.store_calls.specs.Runs.{opening_text}
use Rattle.capture.proofs.Saying.{says_both}
use Rattle.store_calls.proofs.running.open_each.Goals as goal

pub loop-preserved : goal.loop-preserved
loop-preserved g c =
    says_both _ _ _ _ _ _ (opening_text c.args.first c.args.count.lines) (opening_text (Some c.in-Some.opening) c.loop.count.lines)
    (opening_text c.in_ok-next.next c.open.new.count.lines) (rw c.in-Some.is at c.loop.invariant) c.in_ok-next.ensures
