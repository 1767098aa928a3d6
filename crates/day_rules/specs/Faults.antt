-- Each refusal's number, and what it carries.
use Rattle.std.specs.Prelude.{ℕ, List, []}
use Rattle.messages.specs.Faults.{number_of, carried_of}
use Rattle.day_rules.specs.declared.fault.StoreName.{StoreName}
use Rattle.day_rules.specs.declared.fault.LedgerFault.{LedgerFault}
use Rattle.day_rules.specs.declared.fault.LedgerFault.TheVariants.{Message, Resting, Absent, Excess, Repeated, Unmatched, Broken, Full, Closed}

abbrev pub refusal_number : LedgerFault → ℕ
refusal_number (Message fault) = number_of fault
refusal_number Resting = 6
refusal_number Absent = 7
refusal_number Excess = 8
refusal_number Repeated = 9
refusal_number Unmatched = 10
refusal_number Broken = 11
refusal_number (Full name) = 12
refusal_number Closed = 13

-- What a refusal carries: a letter, a byte, offsets; or the name of a store.
pub data Carried : Type 0 where
  numbers : List ℕ → Carried
  store : StoreName → Carried

abbrev pub refusal_carried : LedgerFault → Carried
refusal_carried (Message fault) = numbers (carried_of fault)
refusal_carried Resting = numbers []
refusal_carried Absent = numbers []
refusal_carried Excess = numbers []
refusal_carried Repeated = numbers []
refusal_carried Unmatched = numbers []
refusal_carried Broken = numbers []
refusal_carried (Full name) = store name
refusal_carried Closed = numbers []
