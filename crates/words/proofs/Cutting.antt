-- The words of a line, from the place of its first space.
use Rattle.std.proofs.Common.{◌≡◌, ℕ, ◌+◌, ◌<◌, ◌≤◌, length, slice_index, get_or, sym, subst, ◌∙◌, eqb, Bool, true, false, List, [], ◌∷◌, take, drop, Some, None, Option, MatchOption, is_some, not, refl, ap, one-add, ⊎_elim}
use Rattle.std.specs.List.{position_or_len}
use Rattle.std.proofs.lemmas.Bool.{cases_Bool}
use Rattle.std.proofs.lemmas.List.{drop_all}
use Rattle.std.proofs.Math.Seq.{drop-cons}
use native.Mathlib.Numerals.{unary_clauses}
use Rattle.words.specs.Words.{onto, words, words_after, no_more}

-- where the first space is, or how many bytes there are
abbrev pub space_at : List ℕ → ℕ
space_at xs = position_or_len (λ x. eqb x 32) xs

pub words-cut : (xs : List ℕ) → words xs ≡ take (space_at xs) xs ∷ words_after (drop (space_at xs) xs)
unfolding words
words-cut [] = refl
words-cut (x ∷ xs) = ⊎_elim (λ e. rw e (rw e refl)) (λ e. rw e (rw (one-add (space_at xs)) (ap (onto x) (words-cut xs)))) (cases_Bool (eqb x 32))

-- the words behind a space, and behind the last byte
pub words_after-space : (xs : List ℕ) (n : ℕ) → n < length xs → slice_index xs n ≡ 32 → words_after (drop n xs) ≡ words (drop (n + 1) xs)
words_after-space xs n less is =
    let first : drop n xs ≡ get_or xs n 0 ∷ drop (n + 1) xs = simp unary_clauses (drop-cons xs n 0 less) in
    let P : ℕ → Type 0 = λ x. words_after (x ∷ drop (n + 1) xs) ≡ words (drop (n + 1) xs) in
    ap words_after first ∙ subst P (sym is) refl

pub words_after-end : (xs : List ℕ) (n : ℕ) → length xs ≤ n → words_after (drop n xs) ≡ []
words_after-end xs n over = ap words_after (drop_all n xs over)

-- no word stands where there is no space
pub ends-is : {X : Type 0} (v : X → List ℕ) (ws : List (List ℕ)) (o : Option X) (none : Bool) → is_some o ≡ not none
    → MatchOption o (ws ≡ []) (λ x. ws ≡ words (v x)) → none ≡ no_more ws
ends-is v ws None true e h = rw h refl
ends-is v ws None false e h = cc
ends-is v ws (Some x) true e h = cc
ends-is v ws (Some x) false e h = rw (h, words-cut (v x)) refl
