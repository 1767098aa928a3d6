use Rattle.std.proofs.Common.{◌≡◌, ◌+◌, ◌∷◌, ℕ, take, drop, eqb, ne_eqb, refl, sym, ap, subst, ◌∙◌, arith}
use Rattle.std.proofs.lemmas.List.{take_rest}
use Rattle.std.proofs.lemmas.List.Sums.{position_or_len_is}
use Rattle.words.specs.Words.{words, words_after}
use Rattle.words.proofs.Cutting.{space_at, words-cut, words_after-space, words_after-end}
use Rattle.words.proofs.cut.next_word.Goals as goal

pub returns-then-end-bytes-clause-words : goal.returns-then-end-bytes-clause-words
returns-then-end-bytes-clause-words c =
    let xs = c.args.bytes.now in
    let n = c.word_end-end.result in
    let said = c.word_end-end.ensures in
    let end : space_at xs ≡ n = position_or_len_is (λ x. eqb x 32) xs n 0 said.within (λ k l. ne_eqb _ 32 (said.before k l)) (λ l. rw (said.found l) refl) in
    let P : ℕ → Type 0 = λ m. words xs ≡ take m xs ∷ words_after (drop m xs) in
    let rest = words_after-space xs n c.if-end-bytes.true (said.found c.if-end-bytes.true) ∙ ap words (sym (take_rest xs (n + 1))) in
    subst P end (words-cut xs) ∙ ap (λ ws. take n xs ∷ ws) rest

pub returns-else-end-bytes-clause-words : goal.returns-else-end-bytes-clause-words
returns-else-end-bytes-clause-words c =
    let xs = c.args.bytes.now in
    let n = c.word_end-end.result in
    let said = c.word_end-end.ensures in
    let end : space_at xs ≡ n = position_or_len_is (λ x. eqb x 32) xs n 0 said.within (λ k l. ne_eqb _ 32 (said.before k l)) (λ l. rw (said.found l) refl) in
    let P : ℕ → Type 0 = λ m. words xs ≡ take m xs ∷ words_after (drop m xs) in
    subst P end (words-cut xs) ∙ ap (λ ws. take n xs ∷ ws) (words_after-end xs n (omega arith))
