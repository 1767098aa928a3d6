use Rattle.std.proofs.Common.{◌≡◌, ◌≤◌, arith, min, length, length-take, refl}
use Rattle.day_rules.specs.Calls.{call_of, call_answer, call_left}
use Rattle.ledger.proofs.Running.{goes-on, answers-end, day-end}
use Rattle.ledger.proofs.ledger.Ledger.call_each.Goals as goal

pub loop-place-init : goal.loop-place-init
loop-place-init g c = record { answers = refl; day = refl }

pub loop-place-preserved : goal.loop-place-preserved
loop-place-preserved g c =
    let size = length-take c.min-count.result c.args.answers.now in
    goes-on call_answer call_left call_of c.args.self.now c.args.calls.now _ _ c.loop-place.place c.loop-place.self c.loop-place.answer-items
    (omega arith) (omega arith) c.loop-place.invariant c.call.result c.call.new.self c.call.ensures.says c.call.ensures.leaves

pub returns : goal.returns
returns g c =
    let count = c.min-count.result in
    let least : count ≡ min (length c.args.calls.now) (length c.args.answers.now) = omega arith in
    let taken = length-take count c.args.answers.now in
    let size : length c.loop-place.answer-items ≡ count = omega arith in
    let left : count ≤ c.loop-place.place = omega arith in
    record {
      count = least;
      answers = answers-end call_answer call_left call_of c.args.self.now c.args.calls.now c.args.answers.now count least c.loop-place.place c.loop-place.self c.loop-place.answer-items left size c.loop-place.invariant;
      leaves = day-end call_answer call_left call_of c.args.self.now c.args.calls.now c.args.answers.now count least c.loop-place.place c.loop-place.self c.loop-place.answer-items left size c.loop-place.invariant;
    }
