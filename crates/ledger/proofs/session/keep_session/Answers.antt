use Rattle.std.proofs.Common.{map}
use Rattle.day_rules.specs.Calls.{call_of}
use Rattle.day_rules.specs.Laws.{LogLaws}
use Rattle.day_rules.proofs.Logs.{every_log}
use Rattle.ledger.specs.Runs.{log_of}
use Rattle.ledger.proofs.session.keep_session.Goals as goal

pub returns : goal.returns
returns g c =
    let kept = c.open_and_call.ensures in
    let laws : LogLaws (log_of (map call_of c.args.calls.now) c.open_and_call.new.answers) c.open_and_call.result = every_log _ _ kept.logged in
    record {
      answers = kept.answers;
      leaves = kept.leaves;
      logged = kept.logged;
      shares_balance = laws.shares_balance;
      orders_add_up = laws.orders_add_up;
      turnover_adds_up = laws.turnover_adds_up;
      none_broken_twice = laws.none_broken_twice;
      answers_add_up = laws.answers_add_up;
      laws = laws;
    }
