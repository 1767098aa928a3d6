-- Lines that are put and printed one after the other.
use Rattle.std.proofs.Common.{◌≡◌, ℕ, Bool, List, [], ◌∷◌, ◌++◌, ◌≤◌, length, drop, take, Option, Some, None, IfSome, Result, sym, refl, ap, subst, ◌∙◌, arith, append_assoc, append-nil, take_all, ◌==◌, false, take-append-drop, ne_eqb}
use Rattle.std.specs.Io.{StartsWith}
use Rattle.std.specs.Io.KnownBytes.{Appends}
use Rattle.std.proofs.KnownBytes.{Appends-nil, Appends-trans}
use Rattle.capture.specs.declared.buffer.LineBuffer.{LineBuffer}
use Rattle.capture.specs.Begun.{IsUnended}
use Rattle.capture.specs.Held.{held}
use Rattle.capture.specs.Lines.{lines_of}
use Rattle.capture.specs.Splits.{before_end, after_end}
use Rattle.capture.proofs.Cutting.{front-kept, line-alone, line-cut, unended-front}
use Rattle.capture.proofs.Reading.{held-fits, unended-both}
use Rattle.day_rules.specs.declared.fault.LedgerFault.{LedgerFault}
use Rattle.day_rules.specs.declared.outcome.Outcome.{Outcome}
use Rattle.day_rules.specs.Days.{Day}
use Rattle.day_rules.specs.Lines.{day_after, answers_to}
use Rattle.day_rules.specs.Rules.{answer, next}
use Rattle.day_lines.specs.declared.seen.Seen.{Seen}
use Rattle.day_lines.specs.Seen.{none_seen, one_seen, all_seen, IsSeen}
use Rattle.day_lines.specs.Takings.{Taken, begun_line, Cut}
use Rattle.day_lines.specs.Texts.{answer_line, answers_text}
use Rattle.day_lines.proofs.Counting.{all_counted}

-- Some lines and then others.

texts-join : (shown : Bool) (xs ys : List (List ℕ)) (s : Seen) (d : Day)
    → answers_text shown s.lines.lines (xs ++ ys) d ≡ answers_text shown s.lines.lines xs d ++ answers_text shown (all_seen (answers_to xs d) s).lines.lines ys (day_after xs d)
texts-join shown [] ys s d = refl
texts-join shown (x ∷ xs) ys s d =
    let one = one_seen (answer x d) s in
    let said = answer_line shown one.lines.lines (answer x d) in
    ap (λ t. said ++ t) (texts-join shown xs ys one (next x d))
    ∙ sym (append_assoc said (answers_text shown one.lines.lines xs (next x d)) (answers_text shown (all_seen (answers_to xs (next x d)) one).lines.lines ys (day_after xs (next x d))))

seen-join : (xs ys : List (List ℕ)) (s : Seen) (d : Day) → all_seen (answers_to (xs ++ ys) d) s ≡ all_seen (answers_to ys (day_after xs d)) (all_seen (answers_to xs d) s)
seen-join [] ys s d = refl
seen-join (x ∷ xs) ys s d = seen-join xs ys (one_seen (answer x d) s) (next x d)

day-join : (xs ys : List (List ℕ)) (d : Day) → day_after (xs ++ ys) d ≡ day_after ys (day_after xs d)
day-join [] ys d = refl
day-join (x ∷ xs) ys d = day-join xs ys (next x d)

pub taken_none : (shown : Bool) (was : Option (List ℕ)) (s : Seen) (d : Day) → Taken shown [] was was s s d d
taken_none shown was s d = record { printed = Appends-nil was; seen = refl; day = refl }

pub taken_both : (shown : Bool) (xs ys : List (List ℕ)) (was between is : Option (List ℕ)) (s m t : Seen) (d e f : Day) → Taken shown xs was between s m d e → Taken shown ys between is m t e f
    → Taken shown (xs ++ ys) was is s t d f
taken_both shown xs ys was between is s m t d e f first second =
    let others : Appends between is (answers_text shown (all_seen (answers_to xs d) s).lines.lines ys (day_after xs d)) =
    subst (λ day. Appends between is (answers_text shown (all_seen (answers_to xs d) s).lines.lines ys day)) first.day
    (subst (λ n. Appends between is (answers_text shown n.lines.lines ys e)) first.seen second.printed) in record {
      printed = subst (Appends was is) (sym (texts-join shown xs ys s d)) (Appends-trans was between is _ _ first.printed others);
      seen = second.seen ∙ ap (λ day. all_seen (answers_to ys day) m) first.day ∙ ap (all_seen (answers_to ys (day_after xs d))) first.seen ∙ sym (seen-join xs ys s d);
      day = second.day ∙ ap (day_after ys) first.day ∙ sym (day-join xs ys d);
    }

pub taken_one : (shown : Bool) (line : List ℕ) (was is : Option (List ℕ)) (s t : Seen) (d e : Day) → t ≡ one_seen (answer line d) s → e ≡ next line d
    → Appends was is (answer_line shown t.lines.lines (answer line d)) → Taken shown (line ∷ []) was is s t d e
taken_one shown line was is s t d e counts leaves says = record {
  printed =
      subst (λ n. Appends was is (answer_line shown n.lines.lines (answer line d) ++ [])) counts
      (subst (Appends was is) (sym (append-nil (answer_line shown t.lines.lines (answer line d)))) says);
  seen = counts;
  day = leaves;
}

-- A piece of the input.

-- some lines are put, this much of a line is begun, and the rest of the piece is to come
pub record Cutting (shown : Bool) (begun piece now rest : List ℕ) (was is : Option (List ℕ)) (s t : Seen) (d e : Day) : Type 0 where
  pub lines : List (List ℕ)
  pub taken : Taken shown lines was is s t d e
  pub cut : (more : List ℕ) → lines_of (begun ++ (piece ++ more)) ≡ lines ++ lines_of (now ++ (rest ++ more))
  pub unended : IsUnended now

module _ (shown : Bool) (begun piece now rest : List ℕ) (was is : Option (List ℕ)) (s t : Seen) (d e : Day) (c : Cutting shown begun piece now rest was is s t d e) where
  -- a line ends
  pub cutting_on : (line cleared next : List ℕ) (is' : Option (List ℕ)) (u : Seen) (f : Day) → Some next ≡ after_end rest → line ≡ take 255 (now ++ before_end rest) → cleared ≡ []
      → Taken shown (line ∷ []) is is' t u e f → Cutting shown begun piece cleared next was is' s u d f
  cutting_on line cleared next is' u f ends is_line empty taken = record {
    lines = c.lines ++ (line ∷ []);
    taken = taken_both shown c.lines (line ∷ []) was is is' s t u d e f c.taken taken;
    cut = λ more.
        c.cut more ∙ ap (λ ls. c.lines ++ ls) (line-cut now rest more next c.unended (sym ends) ∙ (λ i. sym is_line i ∷ lines_of (sym empty i ++ (next ++ more))))
        ∙ sym (append_assoc c.lines (line ∷ []) (lines_of (cleared ++ (next ++ more))));
    unended = rw empty refl;
  }

  -- no line ends
  pub cutting_ends : (left : List ℕ) → None ≡ after_end rest → left ≡ take 255 (now ++ rest) → Cut shown begun piece left was is s t d e
  cutting_ends left none is_left =
      let whole : IsUnended (now ++ rest) = unended-both now rest c.unended (sym none) in record {
        lines = c.lines;
        taken = c.taken;
        cut = λ more.
            c.cut more
            ∙ ap (λ ls. c.lines ++ ls)
            (ap lines_of (sym (append_assoc now rest more)) ∙ sym (front-kept (now ++ rest) more whole) ∙ ap (λ l. lines_of (l ++ more)) (sym is_left));
        unended = subst IsUnended (sym is_left) (unended-front 255 (now ++ rest) whole);
      }

-- The whole input.

-- these lines are put, this much of a line is begun, and these bytes are to come
pub record Putting (shown : Bool) (coming was is : Option (List ℕ)) (bytes begun : List ℕ) (s : Seen) (d e : Day) : Type 0 where
  pub rest : List ℕ
  pub left : coming ≡ Some rest
  pub lines : List (List ℕ)
  pub taken : Taken shown lines was is none_seen s d e
  pub cut : lines_of bytes ≡ lines ++ lines_of (begun ++ rest)
  pub unended : IsUnended begun

pub putting_starts : (shown : Bool) (coming was : Option (List ℕ)) (begun : List ℕ) (s : Seen) (d : Day) → s ≡ none_seen → begun ≡ [] → IfSome coming (λ bytes. Putting shown coming was was bytes begun s d d)
putting_starts shown None was begun s d none empty = tt
putting_starts shown (Some xs) was begun s d none empty = record {
  rest = xs;
  left = refl;
  lines = [];
  taken = subst (λ n. Taken shown [] was was none_seen n d d) (sym none) (taken_none shown was none_seen d);
  cut = ap (λ b. lines_of (b ++ xs)) (sym empty);
  unended = rw empty refl;
}

module _ (shown : Bool) (coming was is : Option (List ℕ)) (bytes begun : List ℕ) (s : Seen) (d e : Day) (p : Putting shown coming was is bytes begun s d e) where
  pub putting_on : (later is' : Option (List ℕ)) (piece now : List ℕ) (t : Seen) (f : Day) → StartsWith p.rest piece → later ≡ Some (drop (length piece) p.rest)
      → (IsUnended begun → Cut shown begun piece now is is' s t e f) → Putting shown later was is' bytes now t d f
  putting_on later is' piece now t f shown_piece left taken =
      let c = taken p.unended in
      let others = drop (length piece) p.rest in
      let parts : p.rest ≡ piece ++ others = sym (take-append-drop (length piece) p.rest) ∙ ap (λ x. x ++ others) shown_piece in record {
        rest = others;
        left = left;
        lines = p.lines ++ c.lines;
        taken = taken_both shown p.lines c.lines was is is' none_seen s t d e f p.taken c.taken;
        cut =
            p.cut ∙ ap (λ ls. p.lines ++ ls) (ap (λ r. lines_of (begun ++ r)) parts ∙ c.cut others)
            ∙ sym (append_assoc p.lines c.lines (lines_of (now ++ others)));
        unended = c.unended;
      }

  pub putting_ends : (is' : Option (List ℕ)) (t : Seen) (f : Day) → p.rest ≡ [] → lines_of begun ≡ begun_line begun → Taken shown (begun_line begun) is is' s t e f
      → Taken shown (lines_of bytes) was is' none_seen t d f
  putting_ends is' t f none last taken =
      subst (λ ls. Taken shown ls was is' none_seen t d f)
      (sym (p.cut ∙ ap (λ ls. p.lines ++ ls) (ap (λ r. lines_of (begun ++ r)) none ∙ ap lines_of (append-nil begun) ∙ last)))
      (taken_both shown p.lines (begun_line begun) was is is' none_seen s t d e f p.taken taken)

pub all_told : (answers : List (Result Outcome LedgerFault)) (t : Seen) → t ≡ all_seen answers none_seen → IsSeen t answers
all_told answers t e = subst (λ s. IsSeen s answers) (sym e) (all_counted answers)

begun_all : (begun : List ℕ) → IsUnended begun → length begun ≤ 255 → lines_of begun ≡ begun_line begun
begun_all [] none fits = refl
begun_all (x ∷ xs) none fits = let some = ne_eqb (length (x ∷ xs)) 0 (λ e. omega arith) in rw some (line-alone (x ∷ xs) none fits some)

pub begun_held : (b : LineBuffer) → IsUnended (held b) → lines_of (held b) ≡ begun_line (held b)
begun_held b none = begun_all (held b) none (held-fits b)

-- a line that was begun and goes on with nothing
pub begun_alone : (b : LineBuffer) → (length (held b) == 0) ≡ false → begun_line (held b) ≡ take 255 (held b ++ []) ∷ []
begun_alone b some =
    let fits = take_all 255 (held b) (held-fits b) in
    rw (some, append-nil, fits) refl
