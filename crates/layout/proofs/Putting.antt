-- The laws of writing a layout, by induction over its fields.
use Rattle.std.proofs.Common.{◌≡◌, ℕ, ◌+◌, ◌≤◌, true, false, List, [], ◌∷◌, ◌++◌, length, take, drop, Ok, Err, Result, sym, refl, ap, ◌∙◌, ⊎_elim, append_assoc, arith, take-append-drop}
use Rattle.std.proofs.lemmas.List.{take_at, drop_at, length-append, drop-drop}
use Rattle.std.proofs.lemmas.Bool.{eqb-true, cases_Bool, both_ways}
use Rattle.layout.specs.declared.fault.FieldFault.{FieldFault}
use Rattle.layout.specs.declared.fault.FieldFault.TheVariants.{Byte, Range}
use Rattle.layout.specs.Slots.{Slot, width, Spells, givable, spell, over, check_slot, origin}
use Rattle.layout.specs.Fields.{Field, part, Laid, FirstUngiven, here, later, check_fields, then_check, line_of, put_fields}
use Rattle.layout.proofs.Laying.{tiled, next, tiled-le}
use Rattle.layout.proofs.Spelling.{Lawful}
use Rattle.layout.proofs.Writing.{take-over, drop-over, length_over}

-- the values are as many as the fields
abbrev pub Each : List Field → List ℕ → Type 0
Each [] [] = Unit {0}
Each [] (v ∷ vs) = ⊥
Each (f ∷ fs) [] = ⊥
Each (f ∷ fs) (v ∷ vs) = Each fs vs

-- the line is as long as the fields are wide
pub length-line : (o : ℕ) (fs : List Field) (end : ℕ) → tiled o fs end ≡ true → (vs : List ℕ) → Each fs vs → o + length (line_of fs vs) ≡ end
length-line o [] end e [] m = let same = eqb-true o end e in omega arith
length-line o [] end e (v ∷ vs) m = absurd m
length-line o (f ∷ fs) end e [] m = absurd m
length-line o (f ∷ fs) end e (v ∷ vs) m =
    let n = next o f fs end e in
    let more = length-line (o + width f.slot) fs end n.rest vs m in
    simp length-append (omega (arith, n.laws.long v))

-- writing what is laid out so gives the line
pub line-laid : (xs : List ℕ) (o : ℕ) (fs : List Field) (end : ℕ) → tiled o fs end ≡ true → (vs : List ℕ) → Laid fs xs vs → line_of fs vs ++ drop end xs ≡ drop o xs
line-laid xs o [] end e [] l = rw (eqb-true o end e)
line-laid xs o [] end e (v ∷ vs) l = absurd l
line-laid xs o (f ∷ fs) end e [] l = absurd l
line-laid xs o (f ∷ fs) end e (v ∷ vs) l =
    let n = next o f fs end e in
    let more = line-laid xs (o + width f.slot) fs end n.rest vs l.1 in
    let first : spell f.slot v ≡ take (width f.slot) (drop o xs) = n.laws.again _ v l.0 ∙ ap (λ k. take (width f.slot) (drop k xs)) n.start in
    let rest : drop (o + width f.slot) xs ≡ drop (width f.slot) (drop o xs) = sym (drop-drop (width f.slot) o xs) in
    append_assoc (spell f.slot v) (line_of fs vs) (drop end xs) ∙ rw (more, first, rest) (take-append-drop (width f.slot) (drop o xs))

-- the check passes just where some line gives the values; then the line of the values does
checks : (f : Field) (letter v : ℕ) (rest : Result (Unit {0}) FieldFault) → givable f.slot v ≡ true → then_check (check_slot f.slot letter f.offset v) rest ≡ rest
checks f letter v rest e = rw e

pub laid-checks : (letter : ℕ) (xs : List ℕ) (o : ℕ) (fs : List Field) (end : ℕ) → tiled o fs end ≡ true → (vs : List ℕ) → Laid fs xs vs → check_fields letter fs vs ≡ Ok tt
laid-checks letter xs o [] end e vs l = refl
laid-checks letter xs o (f ∷ fs) end e [] l = refl
laid-checks letter xs o (f ∷ fs) end e (v ∷ vs) l =
    let n = next o f fs end e in
    checks f letter v (check_fields letter fs vs) (n.laws.given _ v l.0) ∙ laid-checks letter xs (o + width f.slot) fs end n.rest vs l.1

-- what the check answers, of values as many as the fields
module _ (letter : ℕ) where
  abbrev pub Checked : List Field → List ℕ → Result (Unit {0}) FieldFault → Type 0
  Checked fs vs (Ok u) = (o : ℕ) (end : ℕ) → tiled o fs end ≡ true → (xs post : List ℕ) → drop o xs ≡ line_of fs vs ++ post → Laid fs xs vs
  Checked fs vs (Err (Byte at)) = ⊥
  Checked fs vs (Err (Range at)) = (at.letter ≡ letter) × FirstUngiven fs vs at.offset

  checked-more : (f : Field) (fs : List Field) (v : ℕ) (vs : List ℕ) → Lawful f.slot → givable f.slot v ≡ true → (r : Result (Unit {0}) FieldFault) → Checked fs vs r → Checked (f ∷ fs) (v ∷ vs) r
  checked-more f fs v vs laws e (Ok u) h = λ o end t xs post line.
      let n = next o f fs end t in
      let whole : drop o xs ≡ spell f.slot v ++ (line_of fs vs ++ post) = line ∙ append_assoc (spell f.slot v) (line_of fs vs) post in
      let own : part f xs ≡ spell f.slot v = rw (n.start, whole) (take_at (spell f.slot v) (line_of fs vs ++ post) (width f.slot) (laws.long v)) in
      let rest : drop (o + width f.slot) xs ≡ line_of fs vs ++ post = sym (drop-drop (width f.slot) o xs) ∙ rw whole (drop_at (spell f.slot v) (line_of fs vs ++ post) (width f.slot) (laws.long v)) in
      (rw own (laws.gives v e), h (o + width f.slot) end n.rest xs post rest)
  checked-more f fs v vs laws e (Err (Byte at)) h = h
  checked-more f fs v vs laws e (Err (Range at)) h = (h.0, later (spell f.slot v) (laws.gives v e) h.1)

  pub checked : (o : ℕ) (fs : List Field) (end : ℕ) → tiled o fs end ≡ true → (vs : List ℕ) → Each fs vs → Checked fs vs (check_fields letter fs vs)
  checked o [] end e [] m = λ o end t xs post line. tt
  checked o [] end e (v ∷ vs) m = absurd m
  checked o (f ∷ fs) end e [] m = absurd m
  checked o (f ∷ fs) end e (v ∷ vs) m =
      let n = next o f fs end e in
      ⊎_elim
      (λ ok. rw (checks f letter v (check_fields letter fs vs) ok) (checked-more f fs v vs n.laws ok (check_fields letter fs vs) (checked (o + width f.slot) fs end n.rest vs m)))
      (λ bad. rw bad (refl, here (λ p h. both_ways (givable f.slot v) bad (n.laws.given p v h))))
      (cases_Bool (givable f.slot v))

-- the fields written one by one are the line written whole
pub put-line : (o : ℕ) (fs : List Field) (end : ℕ) → tiled o fs end ≡ true → (vs : List ℕ) → Each fs vs → (room : List ℕ) → end ≤ length room → put_fields fs vs room ≡ take o room ++ (line_of fs vs ++ drop end room)
put-line o [] end e [] m room le = rw (← eqb-true o end e) (sym (take-append-drop o room))
put-line o [] end e (v ∷ vs) m room le = absurd m
put-line o (f ∷ fs) end e [] m room le = absurd m
put-line o (f ∷ fs) end e (v ∷ vs) m room le =
    let n = next o f fs end e in
    let p = spell f.slot v in
    let size : length p ≡ width f.slot = n.laws.long v in
    let past = tiled-le (o + width f.slot) fs end n.rest in
    let fits : o + length p ≤ length room = omega arith in
    let held : end ≤ length (over o p room) = rw (length_over o p room fits) le in
    let more = put-line (o + width f.slot) fs end n.rest vs m (over o p room) held in
    let before : take (o + width f.slot) (over o p room) ≡ take o room ++ p = rw (← size) (take-over o p room fits) in
    let after : drop end (over o p room) ≡ drop end room = drop-over o p room fits end (omega arith) in
    rw (n.start, more, before, after) (append_assoc (take o room) p (line_of fs vs ++ drop end room) ∙ ap (λ ys. take o room ++ ys) (sym (append_assoc p (line_of fs vs) (drop end room))))

-- the first field that no bytes spell is the one that the check answers
ungiven : (s : Slot) → Lawful s → (v : ℕ) → ((p : List ℕ) → Spells s p v → ⊥) → givable s v ≡ false
ungiven s laws v none = ⊎_elim (λ e. absurd (none (spell s v) (laws.gives v e))) (λ e. e) (cases_Bool (givable s v))

check-step : (letter : ℕ) (f : Field) (fs : List Field) → Lawful f.slot → ((vs : List ℕ) (e : ℕ) → FirstUngiven fs vs e → check_fields letter fs vs ≡ Err (Range (origin letter e))) → {vs : List ℕ} {e : ℕ} → FirstUngiven (f ∷ fs) vs e → check_fields letter (f ∷ fs) vs ≡ Err (Range (origin letter e))
check-step letter f fs laws more (here {v = v} none) = rw (ungiven f.slot laws v none)
check-step letter f fs laws more (later {v = v} {o = o} {vs = vs} p h rest) = checks f letter v (check_fields letter fs vs) (laws.given p v h) ∙ more vs o rest

pub check-ungiven : (letter o : ℕ) (fs : List Field) (end : ℕ) → tiled o fs end ≡ true → {vs : List ℕ} {e : ℕ} → FirstUngiven fs vs e → check_fields letter fs vs ≡ Err (Range (origin letter e))
check-ungiven letter o [] end t h = elim h [ ]
check-ungiven letter o (f ∷ fs) end t h = let x = next o f fs end t in check-step letter f fs x.laws (λ vs e g. check-ungiven letter (o + width f.slot) fs end x.rest g) h
