use Rattle.std.proofs.Common.{◌∷◌, ap}
use Rattle.day_rules.specs.declared.answer.Answer.TheVariants as answers
use Rattle.day_rules.specs.Laws.{LogLaws}
use Rattle.day_rules.specs.Log.{Log, Logged, line_put}
use Rattle.day_rules.proofs.Judged.{refused-when-due}
use Rattle.ledger.proofs.Adding.{after_line, refusal_keeps}
use Rattle.ledger.proofs.ledger.Ledger.put.Goals as goal

pub returns : goal.returns
returns g c =
    let took = c.take_line.ensures in
    let laws : (log : Log) → Logged log c.args.self.now → LogLaws (line_put c.args.line.now c.take_line.result ∷ log) c.take_line.new.self = λ log h. after_line c.args.line.now log c.args.self.now c.take_line.new.self c.take_line.result h took.says took.leaves in
    record {
      says = took.says;
      leaves = took.leaves;
      due = λ n d. rw took.says (refused-when-due c.args.line.now c.args.self.now n d);
      refused = refusal_keeps c.args.line.now c.args.self.now c.take_line.new.self c.take_line.result took.says took.leaves;
      logged = λ log h. (c.args.self.now, h, ap answers.Line took.says, took.leaves);
      shares_balance = λ log h. (laws log h).shares_balance;
      orders_add_up = λ log h. (laws log h).orders_add_up;
      turnover_adds_up = λ log h. (laws log h).turnover_adds_up;
      answers_add_up = λ log h. (laws log h).answers_add_up;
      none_broken_twice = λ log h. (laws log h).none_broken_twice;
    }
