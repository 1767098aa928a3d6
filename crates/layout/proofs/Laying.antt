-- The laws of a layout, by induction over its fields: reading answers what is laid out so, or the first fault.
use Rattle.std.proofs.Common.{◌≡◌, ℕ, ◌+◌, ◌≤◌, Bool, true, ◌&&◌, eqb, ltb, List, [], ◌∷◌, length, take, drop, Ok, Err, Result, sym, refl, ap, ◌∙◌, subst, ⊎_elim, arith}
use Rattle.std.proofs.lemmas.List.{take_all, length-take-le, length-drop, drop-drop}
use Rattle.std.proofs.lemmas.Bool.{and_parts, and_right, eqb-true, lt-ltb, cases_Bool}
use Rattle.layout.specs.declared.fault.FieldFault.{FieldFault}
use Rattle.layout.specs.declared.fault.FieldFault.TheVariants.{Byte, Range}
use Rattle.layout.specs.Slots.{Slot, width, Spells, keeps, Passes, value_of, in_range, scan_slot, ranged, read_slot, spot, origin}
use Rattle.layout.specs.Fields.{Field, part, Laid, BreaksAt, OutOfRange, FirstFault, byte, range, later, before, then_read, read_fields}
use Rattle.layout.proofs.Reading.{Found, scan-found, scan-part, scan-passes, scan-stops}
use Rattle.layout.proofs.Sound.{sound}
use Rattle.layout.proofs.Spelling.{Lawful, lawful, holds-all, keeps-all}

-- the fields are sound and follow one another without a gap, from o to the end
abbrev pub tiled : ℕ → List Field → ℕ → Bool
tiled o [] end = eqb o end
tiled o (f ∷ fs) end = eqb f.offset o && (sound f.slot && tiled (o + width f.slot) fs end)

pub record Next (o : ℕ) (f : Field) (fs : List Field) (end : ℕ) : Type 0 where
  pub start : f.offset ≡ o
  pub laws : Lawful f.slot
  pub rest : tiled (o + width f.slot) fs end ≡ true

pub next : (o : ℕ) (f : Field) (fs : List Field) (end : ℕ) → tiled o (f ∷ fs) end ≡ true → Next o f fs end
next o f fs end e =
    let a = and_parts (eqb f.offset o) (sound f.slot && tiled (o + width f.slot) fs end) e in
    let b = and_parts (sound f.slot) (tiled (o + width f.slot) fs end) a.1 in
    record { start = eqb-true f.offset o a.0; laws = lawful f.slot b.0; rest = b.1 }

pub tiled-le : (o : ℕ) (fs : List Field) (end : ℕ) → tiled o fs end ≡ true → o ≤ end
tiled-le o [] end e = let same = eqb-true o end e in omega arith
tiled-le o (f ∷ fs) end e = let more = tiled-le (o + width f.slot) fs end (next o f fs end e).rest in omega arith

-- One field at the front of ys.
module _ (s : Slot) (laws : Lawful s) (letter offset : ℕ) (ys : List ℕ) (within : width s ≤ length ys) where
  size : length (take (width s) ys) ≡ width s
  size = length-take-le (width s) ys within

  all_own : take (width s) (take (width s) ys) ≡ take (width s) ys
  all_own = take_all (width s) (take (width s) ys) (omega (arith, size))

  pub reads-spelled : (v : ℕ) → Spells s (take (width s) ys) v → read_slot s letter offset ys ≡ Ok (v, drop (width s) ys)
  reads-spelled v h =
      let walk = scan-passes s (take (width s) ys) (holds-all s (take (width s) ys) (width s) (omega (arith, size)) (laws.passes _ v h)) in
      let found : scan_slot s ys ≡ Ok v = scan-part s ys within ∙ walk ∙ ap (λ q. Ok (value_of s q)) all_own ∙ ap Ok (laws.value _ v h) in
      rw (found, laws.inside _ v h)

  pub reads-break : (i : ℕ) → BreaksAt s (take (width s) ys) i → read_slot s letter offset ys ≡ Err (Byte (spot letter offset i))
  reads-break i h =
      let q = take (width s) ys in
      let found : scan_slot s ys ≡ Err i = scan-part s ys within ∙ scan-stops s q i (h.0, holds-all s q i (omega (arith, size, h.0)) h.1, and_right (ltb i (length q)) (keeps s q i) h.2) in
      rw found

  pub reads-out : OutOfRange s (take (width s) ys) → read_slot s letter offset ys ≡ Err (Range (origin letter offset))
  reads-out h =
      let q = take (width s) ys in
      let found : scan_slot s ys ≡ Ok (value_of s q) = scan-part s ys within ∙ scan-passes s q (holds-all s q (width s) (omega (arith, size)) h.0) ∙ ap (λ p. Ok (value_of s p)) all_own in
      rw (found, h.1)

  -- what the answer says of the field's bytes
  abbrev pub Answers : Result (ℕ × List ℕ) FieldFault → Type 0
  Answers (Ok p) = Spells s (take (width s) ys) p.0 × (p.1 ≡ drop (width s) ys)
  Answers (Err (Byte at)) = (i : ℕ) × (at ≡ spot letter offset i) × BreaksAt s (take (width s) ys) i
  Answers (Err (Range at)) = (at ≡ origin letter offset) × OutOfRange s (take (width s) ys)

  answers-range : (v : ℕ) → Passes (keeps s (take (width s) ys)) (width s) → value_of s (take (width s) ys) ≡ v → Answers (ranged s letter offset ys (Ok v))
  answers-range v pass value =
      ⊎_elim
      (λ e. rw e (subst (Spells s (take (width s) ys)) value (laws.spells _ size pass (rw value e)), refl))
      (λ e. rw e (refl, (pass, rw value e)))
      (cases_Bool (in_range s v))

  answers-found : (r : Result ℕ ℕ) → Found s (take (width s) ys) r → Answers (ranged s letter offset ys r)
  answers-found (Ok v) h = answers-range v (keeps-all s _ (width s) h.0) (ap (value_of s) (sym all_own) ∙ h.1)
  answers-found (Err i) h =
      let here : ltb i (length (take (width s) ys)) ≡ true = lt-ltb i _ (omega (arith, size, h.0)) in
      (i, refl, (h.0, keeps-all s _ i h.1, rw here at h.2))

  pub answers : Answers (read_slot s letter offset ys)
  answers = rw (scan-part s ys within) (answers-found (scan_slot s (take (width s) ys)) (scan-found s (take (width s) ys)))

-- All fields of a line xs, from o on.
module _ (letter : ℕ) (xs : List ℕ) where
  abbrev pub Outcomes : List Field → Result (List ℕ) FieldFault → Type 0
  Outcomes fs (Ok vs) = Laid fs xs vs
  Outcomes fs (Err e) = FirstFault letter xs fs e

  outcomes-before : (f : Field) (fs : List Field) (v : ℕ) → Spells f.slot (part f xs) v → (r : Result (List ℕ) FieldFault) → Outcomes fs r → Outcomes (f ∷ fs) (before v r)
  outcomes-before f fs v h (Ok vs) l = (h, l)
  outcomes-before f fs v h (Err e) l = later v h l

  outcomes-then : (f : Field) (fs : List Field) (laws : Lawful f.slot) (within : width f.slot ≤ length (drop f.offset xs)) (r : Result (ℕ × List ℕ) FieldFault) → Answers f.slot laws letter f.offset (drop f.offset xs) within r → Outcomes fs (read_fields letter fs (drop (width f.slot) (drop f.offset xs))) → Outcomes (f ∷ fs) (then_read r (read_fields letter fs))
  outcomes-then f fs laws within (Ok p) a l = outcomes-before f fs p.0 a.0 (read_fields letter fs p.1) (rw a.1 l)
  outcomes-then f fs laws within (Err (Byte at)) a l = rw a.1 (byte a.0 a.2)
  outcomes-then f fs laws within (Err (Range at)) a l = rw a.0 (range a.1)

  pub outcomes : (o : ℕ) (fs : List Field) (end : ℕ) → tiled o fs end ≡ true → end ≤ length xs → Outcomes fs (read_fields letter fs (drop o xs))
  outcomes o [] end e le = tt
  outcomes o (f ∷ fs) end e le =
      let n = next o f fs end e in
      let past = tiled-le (o + width f.slot) fs end n.rest in
      let within : width f.slot ≤ length (drop f.offset xs) = simp length-drop (omega (arith, n.start)) in
      let rest : drop (width f.slot) (drop f.offset xs) ≡ drop (o + width f.slot) xs = drop-drop (width f.slot) f.offset xs ∙ ap (λ k. drop (k + width f.slot) xs) n.start in
      subst (λ k. Outcomes (f ∷ fs) (read_fields letter (f ∷ fs) (drop k xs))) n.start
      (outcomes-then f fs n.laws within (read_slot f.slot letter f.offset (drop f.offset xs)) (answers f.slot n.laws letter f.offset (drop f.offset xs) within) (rw rest (outcomes (o + width f.slot) fs end n.rest le)))

  -- what is laid out so is read
  pub reads-laid : (o : ℕ) (fs : List Field) (end : ℕ) → tiled o fs end ≡ true → end ≤ length xs → (vs : List ℕ) → Laid fs xs vs → read_fields letter fs (drop o xs) ≡ Ok vs
  reads-laid o [] end e le [] l = refl
  reads-laid o [] end e le (v ∷ vs) l = absurd l
  reads-laid o (f ∷ fs) end e le [] l = absurd l
  reads-laid o (f ∷ fs) end e le (v ∷ vs) l =
      let n = next o f fs end e in
      let past = tiled-le (o + width f.slot) fs end n.rest in
      let within : width f.slot ≤ length (drop f.offset xs) = simp length-drop (omega (arith, n.start)) in
      let rest : drop (width f.slot) (drop f.offset xs) ≡ drop (o + width f.slot) xs = drop-drop (width f.slot) f.offset xs ∙ ap (λ k. drop (k + width f.slot) xs) n.start in
      let here = reads-spelled f.slot n.laws letter f.offset (drop f.offset xs) within v l.0 in
      let more = reads-laid (o + width f.slot) fs end n.rest le vs l.1 in
      rw (← n.start, here, rest, more)

  -- the first fault is the one that reading answers
  fault-step : (f : Field) (fs : List Field) (laws : Lawful f.slot) → width f.slot ≤ length (drop f.offset xs) → ((e : FieldFault) → FirstFault letter xs fs e → read_fields letter fs (drop (width f.slot) (drop f.offset xs)) ≡ Err e) → {e : FieldFault} → FirstFault letter xs (f ∷ fs) e → read_fields letter (f ∷ fs) (drop f.offset xs) ≡ Err e
  fault-step f fs laws within more (byte i b) = rw (reads-break f.slot laws letter f.offset (drop f.offset xs) within i b)
  fault-step f fs laws within more (range b) = rw (reads-out f.slot laws letter f.offset (drop f.offset xs) within b)
  fault-step f fs laws within more {e} (later v b h) = rw (reads-spelled f.slot laws letter f.offset (drop f.offset xs) within v b, more e h)

  pub reads-fault : (o : ℕ) (fs : List Field) (end : ℕ) → tiled o fs end ≡ true → end ≤ length xs → {e : FieldFault} → FirstFault letter xs fs e → read_fields letter fs (drop o xs) ≡ Err e
  reads-fault o [] end t le h = elim h [ ]
  reads-fault o (f ∷ fs) end t le h =
      let x = next o f fs end t in
      let past = tiled-le (o + width f.slot) fs end x.rest in
      let within : width f.slot ≤ length (drop f.offset xs) = simp length-drop (omega (arith, x.start)) in
      let rest : drop (width f.slot) (drop f.offset xs) ≡ drop (o + width f.slot) xs = drop-drop (width f.slot) f.offset xs ∙ ap (λ k. drop (k + width f.slot) xs) x.start in
      rw (← x.start) (fault-step f fs x.laws within (λ e g. rw rest (reads-fault (o + width f.slot) fs end x.rest le g)) h)
