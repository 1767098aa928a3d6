-- Lines that are said to one after the other.
use Rattle.std.proofs.Common.{◌≡◌, ℕ, List, [], ◌∷◌, ◌++◌, Option, Some, None, IfSome, sym, refl, ap, ◌∙◌, append_assoc}
use Rattle.std.specs.Io.KnownBytes.{Appends}
use Rattle.std.specs.Io.BufRead.{drop_through}
use Rattle.std.proofs.KnownBytes.{Appends-nil, Appends-trans}
use Rattle.capture.specs.Counts.{more}
use Rattle.capture.specs.Lines.{lines_of}
use Rattle.day_rules.specs.Days.{Day}
use Rattle.day_forms.specs.Texts.{numbered_line}
use Rattle.ledger_calls.specs.Replies.{said_to, day_left}
use Rattle.ledger_calls.specs.Runs.{said_on}
use Rattle.ledger_calls.specs.Texts.{said_text}

-- so many lines are answered, and these bytes are to come
pub record Saying (coming was is : Option (List ℕ)) (bytes : List ℕ) (from n : ℕ) (first now : Day) : Type 0 where
  pub rest : List ℕ
  pub left : coming ≡ Some rest
  pub printed : List ℕ
  pub appends : Appends was is printed
  pub text : printed ++ said_on n (lines_of rest) now ≡ said_on from (lines_of bytes) first

pub saying_starts : (coming was : Option (List ℕ)) (n : ℕ) (first : Day) → IfSome coming (λ bytes. Saying coming was was bytes n n first first)
saying_starts None was n first = tt
saying_starts (Some xs) was n first = record { rest = xs; left = refl; printed = []; appends = Appends-nil was; text = refl }

module _ (coming was is : Option (List ℕ)) (bytes : List ℕ) (from n : ℕ) (first now : Day) (p : Saying coming was is bytes from n first now) where
  pub saying_on : (later is' : Option (List ℕ)) (line : List ℕ) → lines_of p.rest ≡ line ∷ lines_of (drop_through 10 p.rest)
      → later ≡ Some (drop_through 10 p.rest) → Appends is is' (numbered_line (more n) (said_text (said_to line now)))
      → Saying later was is' bytes from (more n) first (day_left line now)
  saying_on later is' line cut left printed =
      let said = numbered_line (more n) (said_text (said_to line now)) in
      let others = said_on (more n) (lines_of (drop_through 10 p.rest)) (day_left line now) in record {
        rest = drop_through 10 p.rest;
        left = left;
        printed = p.printed ++ said;
        appends = Appends-trans was is is' p.printed said p.appends printed;
        text = append_assoc p.printed said others ∙ ap (λ ls. p.printed ++ said_on n ls now) (sym cut) ∙ p.text;
      }
