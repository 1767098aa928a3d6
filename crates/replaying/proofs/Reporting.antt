-- All that a report has.
use Rattle.std.proofs.Common.{◌≡◌, ℕ, List, ◌++◌, length, Ok, Err, Option, Some, None, Result, OnOk, IfSome, ap, subst, ◌∙◌}
use Rattle.std.specs.Io.KnownBytes.{Appends}
use Rattle.std.proofs.KnownBytes.{Appends-trans}
use Rattle.capture.specs.Counts.{at_most}
use Rattle.capture.specs.Lines.{lines_of}
use Rattle.day_rules.specs.Days.{Day}
use Rattle.day_rules.specs.Lines.{day_after, answers_to}
use Rattle.day_rules.specs.Questions.{rows_in}
use Rattle.day_lines.specs.declared.seen.Seen.{Seen}
use Rattle.day_lines.specs.Seen.{IsSeen}
use Rattle.day_lines.specs.Texts.{answers_text}
use Rattle.day_lines.proofs.Places.{all_rows}
use Rattle.options.specs.declared.options.Options.{Options}
use Rattle.options.specs.declared.options.Shown.{Shown}
use Rattle.replaying.specs.Texts.{closing, closing_of, printed, day_of, room_printed, replay_text}

-- one text and then another
pub both : {E : Type 0} (r : Result (Unit {0}) E) (was between is : Option (List ℕ)) (x y : List ℕ) → Appends was between x → OnOk r (Appends between is y) → OnOk r (Appends was is (x ++ y))
both (Ok u) was between is x y first second = Appends-trans was between is x y first second
both (Err e) was between is x y first second = tt

-- the answers and then what the day came to, where the input is known
pub told : {E : Type 0} (r : Result (Unit {0}) E) (known was between is : Option (List ℕ)) (shown : Shown) (most : ℕ) (d now : Day) (s : Seen)
    → IfSome known (λ bytes. Appends was between (answers_text shown.answers 0 (lines_of bytes) d)) → IfSome known (λ bytes. now ≡ day_after (lines_of bytes) d)
    → IfSome known (λ bytes. IsSeen s (answers_to (lines_of bytes) d)) → OnOk r (Appends between is (closing (rows_in most now) shown.book s.lines.lines s.refusals.counts now))
    → OnOk r (IfSome known (λ bytes. Appends was is (printed most shown d bytes)))
told (Err e) known was between is shown most d now s says leaves seen closes = tt
told (Ok u) None was between is shown most d now s says leaves seen closes = tt
told (Ok u) (Some bytes) was between is shown most d now s says leaves seen closes =
    let answers = answers_to (lines_of bytes) d in
    let later = day_after (lines_of bytes) d in
    let same : closing (rows_in most now) shown.book s.lines.lines s.refusals.counts now ≡ closing_of (rows_in most later) shown.book answers later =
    ap (λ lines. closing (rows_in most now) shown.book lines s.refusals.counts now) seen.lines
    ∙ ap (λ counts. closing (rows_in most now) shown.book (at_most (length answers)) counts now) seen.refusals
    ∙ ap (λ day. closing_of (rows_in most day) shown.book answers day) leaves in
    Appends-trans was between is (answers_text shown.answers 0 (lines_of bytes) d) (closing_of (rows_in most later) shown.book answers later) says (subst (Appends between is) same closes)

-- of a day that is the same
pub of_day : {E : Type 0} (r : Result (Unit {0}) E) (known was is : Option (List ℕ)) (most : ℕ) (shown : Shown) (d e : Day) → d ≡ e
    → OnOk r (IfSome known (λ bytes. Appends was is (printed most shown d bytes))) → OnOk r (IfSome known (λ bytes. Appends was is (printed most shown e bytes)))
of_day r known was is most shown d e same = subst (λ day. OnOk r (IfSome known (λ bytes. Appends was is (printed most shown day bytes)))) same

-- with as many places as rows are held at most, all rows are printed
pub whole : {E : Type 0} (r : Result (Unit {0}) E) (known was is : Option (List ℕ)) (most : ℕ) (o : Options) → most ≡ o.room.symbols
    → OnOk r (IfSome known (λ bytes. Appends was is (room_printed most o bytes))) → OnOk r (IfSome known (λ bytes. Appends was is (replay_text o bytes)))
whole (Err e) known was is most o enough said = tt
whole (Ok u) None was is most o enough said = tt
whole (Ok u) (Some bytes) was is most o enough said =
    let lines = lines_of bytes in
    let later = day_after lines (day_of o) in
    let rows : rows_in most later ≡ later.symbols.rows =
    ap (λ n. rows_in n later) enough ∙ all_rows lines o.room.orders o.room.executions o.room.symbols o.room.day_limit in
    subst (Appends was is)
    (ap (λ rs. answers_text o.shown.answers 0 lines (day_of o) ++ closing_of rs o.shown.book (answers_to lines (day_of o)) later) rows) said
