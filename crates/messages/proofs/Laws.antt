-- The promises of reading and writing, of whatever answers as the definitions do.
use Rattle.std.proofs.Common.{◌≡◌, ℕ, ◌+◌, ◌-◌, ◌<◌, ◌≤◌, leb, ◌↔◌, List, [], ◌∷◌, ◌++◌, length, take, drop, Ok, Err, Result, sym, refl, ap, ◌∙◌, subst, ⊎_elim, arith, MatchResult}
use borrow.Rule.Slice.PartMut.{put_mid}
use Rattle.std.proofs.lemmas.List.{append-nil, drop_all, drop-drop, length-drop, take_rest, take_at}
use Rattle.std.proofs.lemmas.Bool.{cases_Bool, leb-true, leb-false}
use Rattle.layout.specs.declared.fault.FieldFault.{FieldFault}
use Rattle.layout.specs.declared.fault.FieldFault.TheVariants.{Byte, Range}
use Rattle.layout.specs.declared.fault.Spot.{Spot}
use Rattle.layout.specs.Fields.{Field, FirstUngiven, put_fields}
use Rattle.layout.specs.Slots.{origin, over}
use Rattle.messages.specs.declared.fault.MessageFault.{MessageFault}
use Rattle.messages.specs.declared.fault.MessageFault.TheVariants.{Field as field}
use Rattle.messages.specs.declared.message.Message.{Message}
use Rattle.messages.specs.Faults.{number_of, carried_of}
use Rattle.messages.specs.Layouts.{letter_of, length_of, layout_of}
use Rattle.messages.specs.Lines.{told, line_read, written, checked, fitted, placed}
use Rattle.messages.specs.Promises.{Reading, Writing}
use Rattle.messages.specs.Refusals.{LaidOut, Due, WriteDue, range, buffer}
use Rattle.messages.specs.Types.{MessageType}
use Rattle.messages.specs.Values.{type_of, values_of}
use Rattle.layout.proofs.Putting.{line-laid, length-line, put-line, laid-checks, check-ungiven, Checked, checked as check-answers}
use Rattle.layout.proofs.Writing.{over-within}
use Rattle.messages.proofs.Back.{told-apart, message-read}
use Rattle.messages.proofs.Judging.{Judged, judged, laid-read, due-refused}
use Rattle.messages.proofs.Table.{row, each}

never : {X Y : Type 0} {x : X} {y : Y} → ◌≡◌ {A = Result X Y} (Ok x) (Err y) → ⊥
never e = let z : ◌≡◌ {A = ℕ} 0 1 = cc in omega arith

ok-inj : {X Y : Type 0} {x y : X} → ◌≡◌ {A = Result X Y} (Ok x) (Ok y) → x ≡ y
ok-inj e = cc

err-inj : {X Y : Type 0} {x y : Y} → ◌≡◌ {A = Result X Y} (Err x) (Err y) → x ≡ y
err-inj e = cc

-- what is laid out so is the line that writing gives
pub written-laid : (xs : List ℕ) (m : Message) → LaidOut xs m → written m ≡ xs
written-laid xs m l =
    let whole = line-laid xs 0 (layout_of (type_of m)) (length_of (type_of m)) (row (type_of m)).tiles (values_of m) l.1 in
    let none : drop (length_of (type_of m)) xs ≡ [] = drop_all (length_of (type_of m)) xs (omega (arith, l.0)) in
    sym (append-nil (written m)) ∙ ap (λ ys. written m ++ ys) (sym none) ∙ whole

module _ (xs : List ℕ) where
  laid-told : (m : Message) → line_read xs ≡ Ok (told m) → LaidOut xs m
  laid-told m e = subst (Judged xs) e (judged xs)

  due-told : (f : MessageFault) → line_read xs ≡ Err f → Due xs (number_of f) (carried_of f)
  due-told f e = subst (Judged xs) e (judged xs)

  pub reading : (r : Result Message MessageFault) → MatchResult r (λ m. line_read xs ≡ Ok (told m)) (λ f. line_read xs ≡ Err f) → Reading xs r
  reading (Ok k) h = record {
    laid = λ m. (
      (λ e. subst (LaidOut xs) (ok-inj e) (laid-told k h)),
      (λ l. ap Ok (told-apart k m (ok-inj (sym h ∙ laid-read xs m l)))),
    );
    again = λ m e. subst (λ n. written n ≡ xs) (ok-inj e) (written-laid xs k (laid-told k h));
    none = λ f e. absurd (never e);
    refused = λ n vs. (λ e. absurd e, λ d. let q = due-refused xs d in absurd (never (sym h ∙ q.1)));
  }
  reading (Err f) h = record {
    laid = λ m. ((λ e. absurd (never (sym e))), λ l. absurd (never (sym (laid-read xs m l) ∙ h)));
    again = λ m e. absurd (never (sym e));
    none = λ g e m l. never (sym (laid-read xs m l) ∙ h);
    refused = λ n vs. (
      (λ e. subst (λ k. Due xs k vs) e.0 (subst (Due xs (number_of f)) e.1 (due-told f h))),
      (λ d. let q = due-refused xs d in let same = err-inj (sym q.1 ∙ h) in (ap number_of (sym same) ∙ q.2, ap carried_of (sym same) ∙ q.3)),
    );
  }

module _ (m : Message) (place : ℕ) (buf : List ℕ) where
  size : length (written m) ≡ length_of (type_of m)
  size = let whole = length-line 0 (layout_of (type_of m)) (length_of (type_of m)) (row (type_of m)).tiles (values_of m) (each m) in omega arith

  -- a line that is laid out so passes the check, and a field that no line gives does not
  laid-passes : (xs : List ℕ) → LaidOut xs m → checked m ≡ Ok tt
  laid-passes xs l = laid-checks (letter_of (type_of m)) xs 0 (layout_of (type_of m)) (length_of (type_of m)) (row (type_of m)).tiles (values_of m) l.1

  ungiven-fails : {o : ℕ} → FirstUngiven (layout_of (type_of m)) (values_of m) o → checked m ≡ Err (Range (origin (letter_of (type_of m)) o))
  ungiven-fails h = check-ungiven (letter_of (type_of m)) 0 (layout_of (type_of m)) (length_of (type_of m)) (row (type_of m)).tiles h

  -- what is due where the check passed, and where it failed
  due-passed : checked m ≡ Ok tt → {n : ℕ} {vs : List ℕ} → WriteDue m place (length buf) n vs → (n ≡ 14) × (vs ≡ []) × (length buf < place + length_of (type_of m))
  due-passed e (range h) = absurd (never (sym e ∙ ungiven-fails h))
  due-passed e (buffer xs l lt) = (refl, refl, omega (arith, l.0))

  due-failed : (at : Spot) → checked m ≡ Err (Range at) → {n : ℕ} {vs : List ℕ} → WriteDue m place (length buf) n vs → (5 ≡ n) × (at.letter ∷ at.offset ∷ [] ≡ vs)
  due-failed at e (range h) = let same = err-inj (sym e ∙ ungiven-fails h) in (refl, ap (λ f. carried_of (field f)) same)
  due-failed at e (buffer xs l lt) = absurd (never (sym (laid-passes xs l) ∙ e))

  only-line : (xs : List ℕ) → LaidOut xs m → xs ≡ written m
  only-line xs l = sym (written-laid xs m l)

  fits-end : (n : ℕ) → LaidOut (written m) m → place + length_of (type_of m) ≤ length buf → length_of (type_of m) ≡ n → LaidOut (written m) m × (n ≡ length (written m)) × (place + n ≤ length buf) × (over place (written m) buf ≡ take place buf ++ (written m ++ drop (place + n) buf))
  fits-end n l le e =
      let long = size in
      let same : n ≡ length (written m) = sym e ∙ sym long in
      (l, same, omega arith, rw same (over-within place (written m) buf (omega arith)))

  passed : checked m ≡ Ok tt → LaidOut (written m) m → Writing m place buf (placed m place buf (Ok tt)) (fitted m place (length buf) (Ok tt))
  passed e l =
      ⊎_elim
      (λ in'. let le = leb-true (place + length_of (type_of m)) (length buf) in' in rw in' (record {
        line = λ n h. fits-end n l le (ok-inj h);
        only = only-line;
        back = λ n h. message-read (written m) (Ok m) (laid-read (written m) m l);
        kept = λ f h. absurd (never h);
        refused = λ n vs. (λ h. absurd h, λ d. let q = due-passed e d in omega (arith, q.2));
      }))
      (λ out. let lt = leb-false (place + length_of (type_of m)) (length buf) out in rw out (record {
        line = λ n h. absurd (never (sym h));
        only = only-line;
        back = λ n h. absurd (never (sym h));
        kept = λ f h. refl;
        refused = λ n vs. (
          (λ h. subst (λ k. WriteDue m place (length buf) k vs) h.0 (subst (WriteDue m place (length buf) 14) h.1 (buffer (written m) l (omega (arith, size))))),
          (λ d. let q = due-passed e d in (sym q.0, sym q.1)),
        );
      }))
      (cases_Bool (leb (place + length_of (type_of m)) (length buf)))

  failed : (at : Spot) → checked m ≡ Err (Range at) → at.letter ≡ letter_of (type_of m) → FirstUngiven (layout_of (type_of m)) (values_of m) at.offset → Writing m place buf (placed m place buf (Err (Range at))) (fitted m place (length buf) (Err (Range at)))
  failed at e named first = record {
    line = λ n h. absurd (never (sym h));
    only = only-line;
    back = λ n h. absurd (never (sym h));
    kept = λ f h. refl;
    refused = λ n vs. (
      (λ h. subst (λ k. WriteDue m place (length buf) k vs) h.0 (subst (WriteDue m place (length buf) 5) h.1 (rw named (range first)))),
      (λ d. due-failed at e d),
    );
  }

  writing-at : (c : Result (Unit {0}) FieldFault) → checked m ≡ c → Checked (letter_of (type_of m)) (layout_of (type_of m)) (values_of m) c → Writing m place buf (placed m place buf c) (fitted m place (length buf) c)
  writing-at (Ok u) e h = passed e (size, h 0 (length_of (type_of m)) (row (type_of m)).tiles (written m) [] (sym (append-nil (written m))))
  writing-at (Err (Byte at)) e h = absurd h
  writing-at (Err (Range at)) e h = failed at e h.0 h.1

  pub writing : (after : List ℕ) (r : Result ℕ MessageFault) → r ≡ fitted m place (length buf) (checked m) → after ≡ placed m place buf (checked m) → Writing m place buf after r
  writing after r says leaves =
      rw (says, leaves) (writing-at (checked m) refl (check-answers (letter_of (type_of m)) 0 (layout_of (type_of m)) (length_of (type_of m)) (row (type_of m)).tiles (values_of m) (each m)))

-- the fields written over the part of a buffer that starts at a place are the line written over the buffer there
pub put-over : (m : Message) (place : ℕ) (buf part : List ℕ) → place + length_of (type_of m) ≤ length buf → part ≡ put_fields (layout_of (type_of m)) (values_of m) (take (length buf - place) (drop place buf)) → put_mid place (length buf - place) buf part ≡ over place (written m) buf
put-over m place buf part fits e =
    let long = size m place buf in
    let held : length_of (type_of m) ≤ length (drop place buf) = simp length-drop (omega arith) in
    let whole = put-line 0 (layout_of (type_of m)) (length_of (type_of m)) (row (type_of m)).tiles (values_of m) (each m) (drop place buf) held in
    let none : drop (length buf - place) (drop place buf) ≡ [] = drop_all (length buf - place) (drop place buf) (simp length-drop (omega arith)) in
    let now : part ≡ written m ++ drop (place + length (written m)) buf = e ∙ rw (take_rest buf place, whole, long, drop-drop) in
    rw (none, append-nil, now) (sym (over-within place (written m) buf (omega arith)))

-- the same by the row of the message's kind, and by what it says
pub put-told : (m : Message) (t : MessageType) (vs : List ℕ) → told m ≡ (t, vs) → (fs : List Field) → fs ≡ layout_of t → (n : ℕ) → n ≡ length_of t → (place : ℕ) (buf part : List ℕ) → place + n ≤ length buf → part ≡ put_fields fs vs (take (length buf - place) (drop place buf)) → put_mid place (length buf - place) buf part ≡ over place (written m) buf
put-told m t vs e fs laid n sized place buf part fits put =
    let kind : type_of m ≡ t = ap (λ p. p.0) e in
    let says : values_of m ≡ vs = ap (λ p. p.1) e in
    put-over m place buf part (rw (kind, ← sized) fits) (rw (kind, says, ← laid) put)

-- What stands at the front of a buffer after writing is a line of the message just where it is laid out so.
module _ (m : Message) (buf after : List ℕ) where
  pub same_line : (n : ℕ) → Writing m 0 buf after (Ok n) → (xs : List ℕ) → ((length xs ≡ n) × (xs ≡ take n after)) ↔ LaidOut xs m
  same_line n w xs =
      let done = w.line n refl in
      let front : take n after ≡ written m = rw done.3 (take_at (written m) (drop (0 + n) buf) n (sym done.1)) in (
        (λ h. subst (λ ys. LaidOut ys m) (sym (h.1 ∙ front)) done.0),
        (λ l. let is = w.only xs l in (ap length is ∙ sym done.1, is ∙ sym front)),
      )

  -- and a buffer longer than the lines of every kind has room for it
  pub no_line : (e : MessageFault) → Writing m 0 buf after (Err e) → 64 ≤ length buf → (xs : List ℕ) → LaidOut xs m → ⊥
  no_line e w room xs l =
      let d = (w.refused (number_of e) (carried_of e)).0 (refl, refl) in
      let late = (due-passed m 0 buf (laid-passes m 0 buf xs l) d).2 in
      let most = (row (type_of m)).short in
      omega arith
