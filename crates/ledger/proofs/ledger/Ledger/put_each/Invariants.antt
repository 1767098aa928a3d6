use Rattle.std.proofs.Common.{map, take}
use Rattle.day_rules.specs.Rules.{answer, next}
use Rattle.ledger.proofs.Running.{Running}
use Rattle.ledger.proofs.ledger.Ledger.put_each.Given as goal

abbrev pub invariant-loop-place : goal.invariant-loop-place
invariant-loop-place g l = Running answer next l.fn.self (map (λ line. line.now) l.lines) (take l.count l.fn.answers) l.place l.self l.answer-items
