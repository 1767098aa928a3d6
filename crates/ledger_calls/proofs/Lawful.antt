-- What is said to lines one after the other adds up.
use Rattle.std.proofs.Common.{ℕ, List, [], ◌∷◌, Some, None, Option, IfSome, refl, arith}
use Rattle.day_rules.specs.Calls.{Call}
use Rattle.day_rules.specs.Days.{Day}
use Rattle.day_rules.specs.Log.{Log, IsOpening, Logged}
use Rattle.day_rules.proofs.Logs.{every_log}
use Rattle.ledger_calls.specs.declared.opening.Opening.{Opening}
use Rattle.ledger_calls.specs.Openings.{opening_of}
use Rattle.ledger_calls.specs.Questions.{call_made}
use Rattle.ledger_calls.specs.Replies.{answered, left_by, said_to, day_left}
use Rattle.ledger_calls.specs.Runs.{then_said, log_said, day_said, day_opened, HasOpenedLaws, HasLaws}

line-logged : (call : Option Call) (log : Log) (d : Day) → Logged log d → Logged (then_said call (answered call d) log) (left_by call d)
line-logged None log d h = h
line-logged (Some c) log d h = (d, h, refl, refl)

lines-logged : (lines : List (List ℕ)) (log : Log) (d : Day) → Logged log d → Logged (log_said log lines d) (day_said lines d)
lines-logged [] log d h = h
lines-logged (line ∷ lines) log d h = lines-logged lines (then_said (call_made line) (said_to line d) log) (day_left line d) (line-logged (call_made line) log d h)

opens : (o : Opening) → IsOpening (day_opened o)
opens o = record { orders = refl; executions = refl; symbols = refl; accepted = refl; day_limit = omega arith }

opened-laws : (o : Option Opening) (lines : List (List ℕ)) → HasOpenedLaws o lines
opened-laws None lines = tt
opened-laws (Some o) lines = every_log (log_said [] lines (day_opened o)) (day_said lines (day_opened o)) (lines-logged lines [] (day_opened o) (opens o))

pub has-laws : (lines : List (List ℕ)) → HasLaws lines
unfolding HasLaws
has-laws [] = tt
has-laws (line ∷ lines) = opened-laws (opening_of line) lines

pub whatever : {X : Type 0} (P : X → Type 0) → ((x : X) → P x) → (known : Option X) → IfSome known P
whatever P holds None = tt
whatever P holds (Some x) = holds x
