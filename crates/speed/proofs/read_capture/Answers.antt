use Rattle.std.proofs.Common.{◌≡◌, ◌<◌, [], length, Some, None, sym, ap, ◌∙◌}
use Rattle.std.proofs.lemmas.Option.{MatchOption-at_some, MatchOption-at_none}
use Rattle.capture.specs.Splits.{before_end, after_end}
use Rattle.speed.specs.Checksum.{after_bytes}
use Rattle.speed.proofs.Walk.{onward, walk-line}
use Rattle.speed.proofs.read_capture.Goals as goal

pub returns-in_default : goal.returns-in_default
returns-in_default c =
    let rest = c.loop-more.rest.now in
    let none = MatchOption-at_none (after_end rest ≡ None) (λ x. (after_end rest ≡ Some x.now) × (length x.now < length rest)) c.in_default.is c.split_line.ensures.second in
    sym (c.loop-more.invariant ∙ walk-line c.loop-more.sum rest ∙ ap (onward c.loop-more.sum (before_end rest)) none)

pub loop-more-preserved : goal.loop-more-preserved
loop-more-preserved c =
    let rest = c.loop-more.rest.now in
    let some = (MatchOption-at_some (after_end rest ≡ None) (λ x. (after_end rest ≡ Some x.now) × (length x.now < length rest)) c.in-Some.more c.in-Some.is c.split_line.ensures.second).0 in
    let added = rw c.split_line.ensures.first at c.add_line-sum.ensures in
    c.loop-more.invariant ∙ walk-line c.loop-more.sum rest ∙ ap (onward c.loop-more.sum (before_end rest)) some
    ∙ ap (λ n. after_bytes n [] c.in-Some.more.now) (sym added)
