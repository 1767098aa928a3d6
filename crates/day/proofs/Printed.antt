-- All rows are printed, since there are as many places as rows are held at most.
use Rattle.std.proofs.Common.{◌≡◌, ℕ, true, false, List, ◌++◌, Ok, Err, Option, Result, OnOk, IfSome, ap, subst}
use Rattle.std.specs.Io.KnownBytes.{Appends}
use Rattle.capture.specs.Lines.{lines_of}
use Rattle.capture.proofs.Reading.{known-weaker}
use Rattle.day_rules.specs.Days.{opened, greatest_limit}
use Rattle.day_lines.specs.Texts.{answers_text, rows_text}
use Rattle.day_lines.proofs.Places.{all_rows}
use Rattle.day.specs.Texts.{printed, day_text}

all_printed : (bytes : List ℕ) → printed 16 (opened 64 64 16 greatest_limit) bytes ≡ day_text bytes
all_printed bytes =
    ap (λ rows. answers_text true 0 (lines_of bytes) (opened 64 64 16 greatest_limit) ++ rows_text false rows) (all_rows (lines_of bytes) 64 64 16 greatest_limit)

pub all_said : {E : Type 0} (r : Result (Unit {0}) E) (known was is : Option (List ℕ))
    → OnOk r (IfSome known (λ bytes. Appends was is (printed 16 (opened 64 64 16 greatest_limit) bytes))) → OnOk r (IfSome known (λ bytes. Appends was is (day_text bytes)))
all_said (Err f) known was is said = tt
all_said (Ok u) known was is said = known-weaker known _ _ (λ bytes h. subst (Appends was is) (all_printed bytes) h) said
