-- What the reading and the writing call promise.
use Rattle.std.specs.Prelude.{◌≡◌, ℕ, ◌+◌, ◌≤◌, ◌↔◌, List, [], ◌∷◌, ◌++◌, length, take, drop, Ok, Err, Result}
use Rattle.layout.specs.Slots.{Spells}
use Rattle.messages.specs.declared.fault.MessageFault.{MessageFault}
use Rattle.messages.specs.declared.message.Message.{Message}
use Rattle.messages.specs.Layouts.{short_symbol, long_symbol}
use Rattle.messages.specs.Lines.{written}
use Rattle.messages.specs.Refusals.{LaidOut, Due, WriteDue, Refuses}
use Rattle.messages.specs.Telling.{line_message}

-- Of what reading the line xs answered.
pub record Reading (xs : List ℕ) (r : Result Message MessageFault) : Type 0 where
  -- it is read as a message if and only if it is laid out so
  pub laid : (m : Message) → (r ≡ Ok m) ↔ LaidOut xs m
  -- writing that message gives the line
  pub again : (m : Message) → r ≡ Ok m → written m ≡ xs
  -- where it is refused, no message is laid out so
  pub none : (e : MessageFault) → r ≡ Err e → (m : Message) → LaidOut xs m → ⊥
  -- each refusal is given in its own case, and in that case only
  pub refused : (n : ℕ) (vs : List ℕ) → Refuses r n vs ↔ Due xs n vs

-- Of what writing the message m from the place on answered, and of what the buffer held before and after.
pub record Writing (m : Message) (place : ℕ) (buf after : List ℕ) (r : Result ℕ MessageFault) : Type 0 where
  -- what was written is the one line that is laid out as the message; the answer is its length, and every other byte stays
  pub line :
      (n : ℕ) → r ≡ Ok n →
      LaidOut (written m) m × (n ≡ length (written m)) × (place + n ≤ length buf)
      × (after ≡ take place buf ++ (written m ++ drop (place + n) buf))
  pub only : (xs : List ℕ) → LaidOut xs m → xs ≡ written m
  -- reading it gives the message
  pub back : (n : ℕ) → r ≡ Ok n → line_message (written m) ≡ Ok m
  -- a refusal changes nothing
  pub kept : (e : MessageFault) → r ≡ Err e → after ≡ buf
  -- each refusal is given in its own case, and in that case only
  pub refused : (n : ℕ) (vs : List ℕ) → Refuses r n vs ↔ WriteDue m place (length buf) n vs

-- A symbol has one number in its short and in its long form, and another symbol has another.
abbrev pub SymbolsAgree : Type 0
SymbolsAgree = (p q : List ℕ) (v w : ℕ) → Spells short_symbol p v → Spells long_symbol q w → (v ≡ w) ↔ (q ≡ p ++ (32 ∷ 32 ∷ []))
