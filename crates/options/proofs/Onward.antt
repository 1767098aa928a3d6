-- Words that are read one after the other.
use Rattle.std.proofs.Common.{◌≡◌, ℕ, ◌+◌, ◌<◌, ◌≤◌, List, ◌∷◌, length, map, get_or, drop, sym, ap, ◌∙◌, arith}
use Rattle.std.proofs.lemmas.List.{drop-map, drop_all, length-map}
use Rattle.std.proofs.Math.Seq.{drop-cons}
use native.Mathlib.Numerals.{unary_clauses}
use Rattle.options.specs.declared.request.Reading.{Reading}
use Rattle.options.specs.Requests.{one_read, read_to_end, unless_wrong, words_read}

module _ {X : Type 0} (text : X → List ℕ) (words : List X) (n : ℕ) (r : Reading) where
  -- the word at the place, and then the others
  pub reads_one : (default : X) → n < length words
      → words_read n (drop n (map text words)) r ≡ unless_wrong n (one_read n (text (get_or words n default)) r) (λ next. words_read (n + 1) (drop (n + 1) (map text words)) next)
  unfolding words_read
  reads_one default more =
      let first : drop n words ≡ get_or words n default ∷ drop (n + 1) words = simp unary_clauses (drop-cons words n default more) in
      let split : drop n (map text words) ≡ text (get_or words n default) ∷ drop (n + 1) (map text words) =
      drop-map text n words ∙ ap (map text) first ∙ ap (λ ws. text (get_or words n default) ∷ ws) (sym (drop-map text (n + 1) words)) in
      ap (λ ws. words_read n ws r) split

  pub reads_none : length words ≤ n → words_read n (drop n (map text words)) r ≡ read_to_end n r
  unfolding words_read
  reads_none over = ap (λ ws. words_read n ws r) (drop_all n (map text words) (let l = length-map words text in omega arith))
