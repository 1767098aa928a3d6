use Rattle.std.proofs.Common.{◌≡◌, ◌+◌, map, drop, length, sym, ap, ◌∙◌, arith}
use Rattle.options.specs.Requests.{read_to_end, unless_wrong, words_read}
use Rattle.options.proofs.Onward.{reads_one, reads_none}
use Rattle.options.proofs.reading.read_words.Goals as goal

pub returns-in-Err : goal.returns-in-Err
returns-in-Err c =
    let words = c.args.words.now in
    let place = c.loop-place.place in
    let found = sym c.word.ensures ∙ c.in-Err.is in
    sym (ap (λ r. unless_wrong place r (λ next. words_read (place + 1) (drop (place + 1) (map (λ word. word.now) words)) next)) found)
    ∙ sym (reads_one (λ word. word.now) words place c.loop-place.reading _ (omega arith)) ∙ c.loop-place.invariant

pub loop-place-preserved : goal.loop-place-preserved
loop-place-preserved c =
    let words = c.args.words.now in
    let place = c.loop-place.place in
    let found = sym c.word.ensures ∙ c.in-Ok.is in
    sym (ap (λ r. unless_wrong place r (λ next. words_read (place + 1) (drop (place + 1) (map (λ word. word.now) words)) next)) found)
    ∙ sym (reads_one (λ word. word.now) words place c.loop-place.reading _ (omega arith)) ∙ c.loop-place.invariant

pub returns : goal.returns
returns c =
    let words = c.args.words.now in
    let place = c.loop-place.place in
    let last : length words ≡ place = omega arith in
    c.end.ensures ∙ ap (λ n. read_to_end n c.loop-place.reading) last ∙ sym (reads_none (λ word. word.now) words place c.loop-place.reading (omega arith)) ∙ c.loop-place.invariant
