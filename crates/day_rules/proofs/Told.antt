-- A line that is read as a message is laid out as it, and the other way round.
use Rattle.std.proofs.Common.{◌≡◌, ℕ, suc, true, cond, eqb, List, [], ◌∷◌, length, get_or, Ok, Err, Result, refl, sym, ap, ◌∙◌, subst, ⊎_elim}
use Rattle.std.proofs.lemmas.Bool.{cases_Bool, eqb-true}
use Rattle.layout.specs.Slots.{is_one_of}
use Rattle.layout.specs.Fields.{Field, Laid}
use Rattle.messages.specs.declared.code.Side.TheVariants.{Buy, Sell}
use Rattle.messages.specs.declared.code.Display.TheVariants.{Quoted, Unquoted}
use Rattle.messages.specs.declared.code.Customer.TheVariants.{Retail, Blank}
use Rattle.messages.specs.declared.fault.MessageFault.{MessageFault}
use Rattle.messages.specs.declared.message.Message.{Message}
use Rattle.messages.specs.Codes.{side_letter, display_letter, customer_letter}
use Rattle.messages.specs.Faults.{number_of, carried_of}
use Rattle.messages.specs.Layouts.{length_of, layout_of}
use Rattle.messages.specs.Lines.{told, line_read}
use Rattle.messages.specs.Refusals.{LaidOut, Due}
use Rattle.messages.specs.Telling.{message_of, as_message, line_message}
use Rattle.messages.specs.Types.{MessageType, SymbolClear, AddShort, AddLong, OrderExecuted, OrderCancel, TradeShort, TradeLong, TradeBreak}
use Rattle.messages.proofs.Back.{message-read}
use Rattle.messages.proofs.Judging.{Judged, judged, laid-read}
use Rattle.day_rules.proofs.Fits.{Within, within}

-- a letter stands for what has that letter
one_letter : (a v : ℕ) → is_one_of (a ∷ []) v ≡ true → v ≡ a
one_letter a v m = ⊎_elim (λ t. eqb-true v a t) (λ f. let n = rw f at m in cc) (cases_Bool (eqb v a))

two_letters : {X : Type 0} (letter : X → ℕ) (x y : X) (v : ℕ) → is_one_of (letter x ∷ letter y ∷ []) v ≡ true → letter (cond (eqb v (letter x)) x y) ≡ v
two_letters letter x y v m =
    ⊎_elim
    (λ t. rw t (sym (eqb-true v (letter x) t)))
    (λ f. rw f (sym (one_letter (letter y) v (rw f at m))))
    (cases_Bool (eqb v (letter x)))

-- the values of the fields, by place
abbrev listed : List Field → (ℕ → ℕ) → List ℕ
listed [] at_place = []
listed (f ∷ fs) at_place = at_place 0 ∷ listed fs (λ i. at_place (suc i))

all_listed : (fs : List Field) (xs vs : List ℕ) → Laid fs xs vs → listed fs (λ i. get_or vs i 0) ≡ vs
all_listed [] xs [] l = refl
all_listed [] xs (v ∷ vs) l = absurd l
all_listed (f ∷ fs) xs [] l = absurd l
all_listed (f ∷ fs) xs (v ∷ vs) l = ap (λ ws. v ∷ ws) (all_listed fs xs vs l.1)

-- the message of values that are within the fields tells them again
listed_again : (t : MessageType) (vs : List ℕ) → Within (layout_of t) (λ i. get_or vs i 0) → told (message_of (t, vs)) ≡ (t, listed (layout_of t) (λ i. get_or vs i 0))
listed_again SymbolClear vs h = rw (one_letter 115 (get_or vs 1 0) h.1.0) refl
listed_again AddShort vs h = let b = h.1.1 in
    rw (one_letter 65 (get_or vs 1 0) h.1.0, two_letters side_letter Buy Sell (get_or vs 3 0) b.1.0, two_letters display_letter Quoted Unquoted (get_or vs 7 0) b.1.1.1.1.1.0) refl
listed_again AddLong vs h = let b = h.1.1 in
    rw (one_letter 100 (get_or vs 1 0) h.1.0, two_letters side_letter Buy Sell (get_or vs 3 0) b.1.0, two_letters display_letter Quoted Unquoted (get_or vs 7 0) b.1.1.1.1.1.0, two_letters customer_letter Retail Blank (get_or vs 9 0) b.1.1.1.1.1.1.1.0) refl
listed_again OrderExecuted vs h = rw (one_letter 69 (get_or vs 1 0) h.1.0) refl
listed_again OrderCancel vs h = rw (one_letter 88 (get_or vs 1 0) h.1.0) refl
listed_again TradeShort vs h = rw (one_letter 80 (get_or vs 1 0) h.1.0, one_letter 66 (get_or vs 3 0) h.1.1.1.0) refl
listed_again TradeLong vs h = rw (one_letter 114 (get_or vs 1 0) h.1.0, one_letter 66 (get_or vs 3 0) h.1.1.1.0) refl
listed_again TradeBreak vs h = rw (one_letter 66 (get_or vs 1 0) h.1.0) refl

module _ (line : List ℕ) where
  told_again : (p : MessageType × List ℕ) → Laid (layout_of p.0) line p.1 → told (message_of p) ≡ p
  told_again (t, vs) l = listed_again t vs (within (layout_of t) line vs l) ∙ ap (λ ws. (t, ws)) (all_listed (layout_of t) line vs l)

  -- what reading answers is the message that the line is laid out as, or the refusal that is due
  abbrev pub IsRead : Result Message MessageFault → Type 0
  IsRead (Ok m) = LaidOut line m
  IsRead (Err e) = Due line (number_of e) (carried_of e)

  is_read : (r : Result (MessageType × List ℕ) MessageFault) → Judged line r → IsRead (as_message r)
  is_read (Ok p) j = subst (λ q. (length line ≡ length_of q.0) × Laid (layout_of q.0) line q.1) (sym (told_again p j.1)) j
  is_read (Err e) j = j

  pub message-is-read : IsRead (line_message line)
  unfolding line_message
  message-is-read = is_read (line_read line) (judged line)

  pub laid-message : (m : Message) → LaidOut line m → line_message line ≡ Ok m
  laid-message m l = message-read line (Ok m) (laid-read line m l)
