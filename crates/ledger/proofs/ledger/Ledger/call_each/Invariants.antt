use Rattle.std.proofs.Common.{map, take}
use Rattle.day_rules.specs.Calls.{call_of, call_answer, call_left}
use Rattle.ledger.proofs.Running.{Running}
use Rattle.ledger.proofs.ledger.Ledger.call_each.Given as goal

abbrev pub invariant-loop-place : goal.invariant-loop-place
invariant-loop-place g l = Running call_answer call_left l.fn.self (map call_of l.calls) (take l.count l.fn.answers) l.place l.self l.answer-items
