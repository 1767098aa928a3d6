-- Reading a line answers the message that it is laid out as, or the refusal that is due; and the other way round.
use Rattle.std.proofs.Common.{◌≡◌, ℕ, ◌≤◌, true, false, eqb, ltb, List, [], ◌∷◌, length, get_or, drop, Some, None, Ok, Err, Option, Result, sym, refl, ap, ◌∙◌, ⊎_elim, arith}
use Rattle.std.proofs.lemmas.List.{get_or-take, get_or-drop}
use Rattle.std.proofs.lemmas.Bool.{cases_Bool, eqb-true, eqb-false, eq-eqb, ne_eqb, ltb-true, ltb-false, lt-ltb, le-ltb, or_cases, both_ways}
use Rattle.layout.specs.declared.fault.FieldFault.{FieldFault}
use Rattle.layout.specs.Fields.{Laid, FirstFault, read_fields}
use Rattle.layout.proofs.Laying.{Outcomes, outcomes, reads-laid, reads-fault}
use Rattle.messages.specs.declared.fault.MessageFault.{MessageFault}
use Rattle.messages.specs.declared.fault.MessageFault.TheVariants.{Cut, Unknown, Length, Field as field}
use Rattle.messages.specs.declared.message.Message.{Message}
use Rattle.messages.specs.Types.{MessageType}
use Rattle.messages.specs.Faults.{number_of, carried_of}
use Rattle.messages.specs.Layouts.{letter_of, length_of, layout_of}
use Rattle.messages.specs.Lines.{types, type_among, told, tagged, read_row, read_of_kind, kind_read, line_read}
use Rattle.messages.specs.Refusals.{LaidOut, Due, cut, unknown, misfit, faulty}
use Rattle.messages.specs.Values.{type_of, values_of}
use Rattle.messages.proofs.Table.{row, letter-of, type-of, no-type}

module _ (xs : List ℕ) where
  abbrev pub Judged : Result (MessageType × List ℕ) MessageFault → Type 0
  Judged (Ok p) = (length xs ≡ length_of p.0) × Laid (layout_of p.0) xs p.1
  Judged (Err e) = Due xs (number_of e) (carried_of e)

  judged-row : (t : MessageType) → letter_of t ≡ get_or xs 8 0 → length xs ≡ length_of t → (r : Result (List ℕ) FieldFault) → Outcomes (letter_of t) xs (layout_of t) r → Judged (tagged t r)
  judged-row t letter size (Ok vs) l = (size, l)
  judged-row t letter size (Err e) l = faulty t letter size l

  judged-as : (t : MessageType) → letter_of t ≡ get_or xs 8 0 → length xs ≡ length_of t → Judged (read_of_kind t xs)
  unfolding read_row
  judged-as t letter size = judged-row t letter size (read_fields (letter_of t) (layout_of t) xs) (outcomes (letter_of t) xs 0 (layout_of t) (length_of t) (row t).tiles (omega arith))

  judged-kind : 9 ≤ length xs → (o : Option MessageType) → type_among types (get_or xs 8 0) ≡ o → Judged (kind_read xs o)
  judged-kind le None e = unknown le (λ t h. let z : ◌≡◌ {A = ℕ} 0 1 = let k = type-of (get_or xs 8 0) t h in cc in omega arith)
  judged-kind le (Some t) e =
      let letter = letter-of (get_or xs 8 0) t e in
      ⊎_elim
      (λ same. rw same (judged-as t letter (eqb-true (length xs) (length_of t) same)))
      (λ other. rw other (rw (← letter) (misfit t le letter (eqb-false (length xs) (length_of t) other))))
      (cases_Bool (eqb (length xs) (length_of t)))

  pub judged : Judged (line_read xs)
  judged =
      ⊎_elim
      (λ short. rw short (cut (ltb-true (length xs) 9 short)))
      (λ held. rw held (judged-kind (ltb-false (length xs) 9 held) (type_among types (get_or xs 8 0)) refl))
      (cases_Bool (ltb (length xs) 9))

  -- byte 8 of what is laid out so is the letter
  letter-laid : (t : MessageType) (vs : List ℕ) → Laid (layout_of t) xs vs → letter_of t ≡ get_or xs 8 0
  letter-laid t [] l = absurd l
  letter-laid t (v ∷ []) l = absurd l.1
  letter-laid t (v ∷ w ∷ vs) l =
      let mark = l.1.0 in
      let is : w ≡ letter_of t = ⊎_elim (λ e. eqb-true w (letter_of t) e) (λ e. absurd (both_ways false refl e)) (or_cases (eqb w (letter_of t)) false mark.member) in
      sym is ∙ sym (ap (λ p. get_or p 0 0) mark.alone) ∙ get_or-take 1 (drop 8 xs) 0 0 (omega arith) ∙ get_or-drop 8 xs 0 0

  -- a line of a kind's length with its letter is read as that kind
  read-kind : (t : MessageType) → letter_of t ≡ get_or xs 8 0 → length xs ≡ length_of t → line_read xs ≡ read_of_kind t xs
  read-kind t letter size =
      let long = (row t).long in
      let held : ltb (length xs) 9 ≡ false = le-ltb (length xs) 9 (omega arith) in
      let same : eqb (length xs) (length_of t) ≡ true = eq-eqb (length xs) (length_of t) size in
      rw (held, type-of (get_or xs 8 0) t letter, same)

  pub laid-read : (m : Message) → LaidOut xs m → line_read xs ≡ Ok (told m)
  unfolding read_row
  laid-read m l =
      let t = type_of m in
      read-kind t (letter-laid t (values_of m) l.1) l.0
      ∙ ap (tagged t) (reads-laid (letter_of t) xs 0 (layout_of t) (length_of t) (row t).tiles (omega (arith, l.0)) (values_of m) l.1)

  -- the refusal that is due is the one that is answered
  abbrev pub Refused : ℕ → List ℕ → Type 0
  Refused n vs = (e : MessageFault) × (line_read xs ≡ Err e) × (number_of e ≡ n) × (carried_of e ≡ vs)

  refused-field : (t : MessageType) → letter_of t ≡ get_or xs 8 0 → length xs ≡ length_of t → {e : FieldFault} → FirstFault (letter_of t) xs (layout_of t) e → line_read xs ≡ Err (field e)
  unfolding read_row
  refused-field t letter size h = read-kind t letter size ∙ ap (tagged t) (reads-fault (letter_of t) xs 0 (layout_of t) (length_of t) (row t).tiles (omega arith) h)

  pub due-refused : {n : ℕ} {vs : List ℕ} → Due xs n vs → Refused n vs
  due-refused (cut short) = let e = lt-ltb (length xs) 9 short in (Cut, rw e, refl, refl)
  due-refused (unknown held none) = let e = le-ltb (length xs) 9 held in (Unknown (get_or xs 8 0), rw (e, no-type (get_or xs 8 0) none), refl, refl)
  due-refused (misfit t held letter other) =
      let e = le-ltb (length xs) 9 held in
      (Length (get_or xs 8 0), rw (e, type-of (get_or xs 8 0) t letter, ne_eqb (length xs) (length_of t) other), refl, ap (λ b. b ∷ []) (sym letter))
  due-refused (faulty {e = e} t letter size h) = (field e, refused-field t letter size h, refl, refl)
