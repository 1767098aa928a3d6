-- Parts that print one after the other.
use Rattle.std.proofs.Common.{◌≡◌, ℕ, Bool, true, false, MatchBool, List, [], ◌∷◌, ◌++◌, Option, Some, IfSome, None, refl, sym, ap, ◌∙◌, append_assoc}
use Rattle.std.specs.Io.BufRead.{DropsThrough, drop_through}
use Rattle.std.proofs.KnownBytes.{Appends-nil, Appends-trans}
use Rattle.capture.specs.Lines.{lines_of}
use Rattle.capture.specs.Sessions.{Prints, Says}
use Rattle.capture.proofs.Reading.{known-weaker, known-at}

-- nothing is printed yet
pub says_first : (before was : Option (List ℕ)) (due : List (List ℕ) → List ℕ) → Says before before was was due due
says_first None was due = tt
says_first (Some bytes) was due = record { rest = bytes; left = refl; printed = []; appends = Appends-nil was; whole = refl }

-- one part after the other
pub says_both : (before between coming was then is : Option (List ℕ)) (due later last : List (List ℕ) → List ℕ)
    → Says before between was then due later → Says between coming then is later last → Says before coming was is due last
says_both before between coming was then is due later last first second =
    known-weaker before _ _ (λ bytes p. let q = known-at between p.rest _ p.left second in record {
      rest = q.rest;
      left = q.left;
      printed = p.printed ++ q.printed;
      appends = Appends-trans was then is p.printed q.printed p.appends q.appends;
      whole = append_assoc p.printed q.printed (last (lines_of q.rest)) ∙ ap (λ text. p.printed ++ text) q.whole ∙ p.whole;
    }) first

-- what is printed of a line that was read
says_read : (before coming was is : Option (List ℕ)) (line : List ℕ) (due later : List (List ℕ) → List ℕ)
    → IfSome before (λ bytes. lines_of bytes ≡ line ∷ lines_of (drop_through 10 bytes)) → DropsThrough before coming 10
    → Prints was is (λ lines. due (line ∷ lines)) later → Says before coming was is due later
says_read None coming was is line due later cut left p = tt
says_read (Some bytes) coming was is line due later cut left p = record {
  rest = drop_through 10 bytes;
  left = left;
  printed = p.printed;
  appends = p.appends;
  whole = p.whole (lines_of (drop_through 10 bytes)) ∙ ap due (sym cut);
}

-- a part, and then one more line if there is one
pub says_line : (before between coming was then is : Option (List ℕ)) (there : Bool) (line : List ℕ) (due later last : List (List ℕ) → List ℕ)
    → there ≡ true → Says before between was then due later
    → IfSome between (λ bytes. MatchBool there (lines_of bytes ≡ line ∷ lines_of (drop_through 10 bytes)) (lines_of bytes ≡ []))
    → DropsThrough between coming 10 → Prints then is (λ lines. later (line ∷ lines)) last → Says before coming was is due last
says_line before between coming was then is false line due later last on first cut left p = cc
says_line before between coming was then is true line due later last on first cut left p =
    says_both before between coming was then is due later last first (says_read between coming then is line later last cut left p)
