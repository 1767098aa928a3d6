-- What a message is answered and leaves, the day limit and the count aside.
use Rattle.std.specs.Prelude.{Ok, Err, Result}
use Rattle.messages.specs.declared.fault.MessageFault.{MessageFault}
use Rattle.messages.specs.declared.message.Message.{Message}
use Rattle.day_rules.specs.declared.fault.LedgerFault.{LedgerFault}
use Rattle.day_rules.specs.declared.fault.LedgerFault.TheVariants.{Message as of_message}
use Rattle.day_rules.specs.declared.outcome.Outcome.{Outcome}
use Rattle.day_rules.specs.Days.{Day}
use Rattle.day_rules.specs.Events.{Event}
use Rattle.day_rules.specs.Rules.{allowed, outcome, after, or_refused, or_same}

abbrev pub answered : Event → Day → Result Outcome LedgerFault
answered event d = or_refused (allowed event d) (outcome event d)

abbrev pub followed : Event → Day → Day
followed event d = or_same (allowed event d) (after event d) d

-- what a line is read as, a refusal as the ledger's
abbrev pub or_unread : Result Message MessageFault → Result Message LedgerFault
or_unread (Ok m) = Ok m
or_unread (Err e) = Err (of_message e)
