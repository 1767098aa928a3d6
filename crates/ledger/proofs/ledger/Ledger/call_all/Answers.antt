use Rattle.std.proofs.Common.{map}
use Rattle.day_rules.specs.Calls.{call_of}
use Rattle.ledger.proofs.Running.{calls_logged}
use Rattle.ledger.proofs.ledger.Ledger.call_all.Goals as goal

pub returns-clause-logged : goal.returns-clause-logged
returns-clause-logged g c log h =
    let called = c.call_each.ensures in
    calls_logged log c.args.self.now c.call_each.new.self (map call_of c.args.calls.now) c.args.answers.now c.call_each.new.answers called.answers called.leaves h
