-- The greatest number of a refusal is 14.
use Rattle.std.proofs.Common.{◌<◌, arith}
use Rattle.layout.specs.declared.fault.FieldFault.TheVariants.{Byte, Range}
use Rattle.messages.specs.declared.fault.MessageFault.{MessageFault}
use Rattle.messages.specs.declared.fault.MessageFault.TheVariants.{Cut, Unknown, Length, Field, Buffer}
use Rattle.messages.specs.Faults.{number_of}
use Rattle.day_rules.specs.declared.fault.LedgerFault.{LedgerFault}
use Rattle.day_rules.specs.declared.fault.LedgerFault.TheVariants.{Message, Resting, Absent, Excess, Repeated, Unmatched, Broken, Full, Closed}
use Rattle.day_rules.specs.Faults.{refusal_number}

fault-small : (f : MessageFault) → number_of f < 15
fault-small Cut = omega arith
fault-small (Unknown byte) = omega arith
fault-small (Length letter) = omega arith
fault-small (Field (Byte spot)) = omega arith
fault-small (Field (Range spot)) = omega arith
fault-small Buffer = omega arith

pub number_small : (f : LedgerFault) → refusal_number f < 15
number_small (Message f) = fault-small f
number_small Resting = omega arith
number_small Absent = omega arith
number_small Excess = omega arith
number_small Repeated = omega arith
number_small Unmatched = omega arith
number_small Broken = omega arith
number_small (Full name) = omega arith
number_small Closed = omega arith
