-- What a line says is as narrow as its fields.
use Rattle.std.proofs.Common.{◌≡◌, ℕ, true, suc, ◌+◌, ◌-◌, ◌^◌, ◌<◌, ◌≤◌, List, [], ◌∷◌, ◌++◌, length, get_or, replicate, Ok, Err, Result, refl, sym, subst, arith}
use Rattle.std.specs.Int.Digits.{AllBelowBase}
use Rattle.std.proofs.ByRecursion.{All-append}
use Rattle.std.proofs.lemmas.Int.Digits.{number_lt}
use Rattle.std.proofs.lemmas.List.{length-append, length-replicate}
use Rattle.layout.specs.Slots.{Slot, number, text, choice, is_one_of, Spells}
use Rattle.layout.specs.Fields.{Field, Laid}
use Rattle.layout.proofs.Padding.{under-padded}
use Rattle.messages.specs.declared.fault.MessageFault.{MessageFault}
use Rattle.messages.specs.declared.message.Message.{Message}
use Rattle.messages.specs.Layouts.{layout_of}
use Rattle.messages.specs.Lines.{line_read}
use Rattle.messages.specs.Telling.{message_of, as_message, line_message}
use Rattle.messages.specs.Types.{MessageType, SymbolClear, AddShort, AddLong, OrderExecuted, OrderCancel, TradeShort, TradeLong, TradeBreak}
use Rattle.messages.proofs.Judging.{Judged, judged}
use Rattle.day_rules.specs.Events.{event_of}
use Rattle.day_rules.proofs.Standing.{EventFits}

-- how small and how great a number that a slot spells can be, or one of which letters
abbrev pub Bounded : Slot → ℕ → Type 0
Bounded (number base count low high) v = (low ≤ v) × (v ≤ high)
Bounded (text class least w whole) v = v < 256 ^ (w + (whole - w))
Bounded (choice letters) v = is_one_of letters v ≡ true

bounded : (s : Slot) (p : List ℕ) (v : ℕ) → Spells s p v → Bounded s v
bounded (number base count low high) p v h = (h.least, h.most)
bounded (text class least w whole) p v h =
    let pad = replicate (whole - w) 32 in
    let under : AllBelowBase 256 p = subst (AllBelowBase 256) (sym h.split) (under-padded class h.name h.spaces h.inside) in
    let size : length (p ++ pad) ≡ w + (whole - w) = simp (length-append, length-replicate, h.size) in
    rw (← h.value, ← size) (number_lt 256 (p ++ pad) (All-append (λ d. d < 256) p pad under (under-padded class [] (whole - w) tt)))
bounded (choice letters) p v h = h.member

-- each field's value, by place
abbrev pub Within : List Field → (ℕ → ℕ) → Type 0
Within [] at_place = Unit {0}
Within (f ∷ fs) at_place = Bounded f.slot (at_place 0) × Within fs (λ i. at_place (suc i))

pub within : (fs : List Field) (xs vs : List ℕ) → Laid fs xs vs → Within fs (λ i. get_or vs i 0)
within [] xs vs l = tt
within (f ∷ fs) xs [] l = absurd l
within (f ∷ fs) xs (v ∷ vs) l = (bounded f.slot _ v l.0, within fs xs vs l.1)

narrow : (t : MessageType) (vs : List ℕ) → Within (layout_of t) (λ i. get_or vs i 0) → EventFits (event_of (message_of (t, vs)))
narrow SymbolClear vs h = h.1.1.0
narrow AddShort vs h = let b = h.1.1 in record { id = omega arith; symbol = b.1.1.1.0; price = b.1.1.1.1.0.1; shares = b.1.1.0.1; least = b.1.1.0.0 }
narrow AddLong vs h = let b = h.1.1 in record { id = omega arith; symbol = b.1.1.1.0; price = b.1.1.1.1.0.1; shares = b.1.1.0.1; least = b.1.1.0.0 }
narrow OrderExecuted vs h = let b = h.1.1 in (omega arith, b.1.0.1, omega arith)
narrow OrderCancel vs h = omega arith
narrow TradeShort vs h = let b = h.1.1 in (record { id = omega arith; symbol = b.1.1.1.0; price = b.1.1.1.1.0.1; shares = b.1.1.0.1 }, refl)
narrow TradeLong vs h = let b = h.1.1 in (record { id = omega arith; symbol = b.1.1.1.0; price = b.1.1.1.1.0.1; shares = b.1.1.0.1 }, refl)
narrow TradeBreak vs h = omega arith

judged_fits : (xs : List ℕ) (r : Result (MessageType × List ℕ) MessageFault) (m : Message) → Judged xs r → as_message r ≡ Ok m → EventFits (event_of m)
judged_fits xs (Err e) m j is = cc
judged_fits xs (Ok p) m j is =
    let same : message_of p ≡ m = cc in
    subst (λ n. EventFits (event_of n)) same (narrow p.0 p.1 (within (layout_of p.0) xs p.1 j.1))

pub line-fits : (line : List ℕ) (m : Message) → line_message line ≡ Ok m → EventFits (event_of m)
unfolding line_message
line-fits line m is = judged_fits line (line_read line) m (judged line) is
