use Rattle.std.proofs.Common.{◌≡◌, eqb, ne_eqb, refl}
use Rattle.std.proofs.lemmas.List.Sums.{position_or_len_is}
use Rattle.words.proofs.Cutting.{space_at, words-cut}
use Rattle.words.proofs.cut.cut.Goals as goal

pub returns : goal.returns
returns c =
    let xs = c.args.bytes.now in
    let said = c.word_end.ensures in
    let end : space_at xs ≡ c.word_end.result =
    position_or_len_is (λ x. eqb x 32) xs c.word_end.result 0 said.within (λ k l. ne_eqb _ 32 (said.before k l)) (λ l. rw (said.found l) refl) in
    rw (c.split_at.ensures.front, c.split_at.ensures.back, ← end) (words-cut xs)
