-- A refused line changes nothing.
use Rattle.std.proofs.Common.{◌≡◌, Ok, Err, Result, refl}
use Rattle.messages.specs.declared.fault.MessageFault.{MessageFault}
use Rattle.messages.specs.declared.message.Message.{Message}
use Rattle.messages.specs.Telling.{line_message}
use Rattle.day_rules.specs.declared.fault.LedgerFault.{LedgerFault}
use Rattle.day_rules.specs.declared.outcome.Outcome.{Outcome}
use Rattle.day_rules.specs.Days.{Day}
use Rattle.day_rules.specs.Events.{event_of}
use Rattle.day_rules.specs.Laws.{RefusedUnchanged}
use Rattle.day_rules.specs.Rules.{permitted, outcome, after, counted, or_refused, or_same, message_answer, message_after, answer, next}

unpermitted : (p : Result (Unit {0}) LedgerFault) (a : Outcome) (changed d : Day) (f : LedgerFault) → or_refused p a ≡ Err f → or_same p changed d ≡ d
unpermitted (Ok u) a changed d f e = cc
unpermitted (Err g) a changed d f e = refl

unread : (r : Result Message MessageFault) (d : Day) (f : LedgerFault) → message_answer r d ≡ Err f → message_after r d ≡ d
unread (Ok m) d f e = unpermitted (permitted (event_of m) d) (outcome (event_of m) d) (counted (after (event_of m) d)) d f e
unread (Err g) d f e = refl

pub refused-unchanged : RefusedUnchanged
unfolding answer next
refused-unchanged line d f e = unread (line_message line) d f e
