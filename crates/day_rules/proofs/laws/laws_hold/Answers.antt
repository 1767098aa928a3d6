use Rattle.day_rules.proofs.Judged.{refused-when-due}
use Rattle.day_rules.proofs.Logs.{every_log}
use Rattle.day_rules.proofs.Refusing.{refused-unchanged}
use Rattle.day_rules.proofs.laws.laws_hold.Goals as goal

pub returns : goal.returns
returns c = record { every_log = every_log; refused = refused-unchanged; due = refused-when-due }
