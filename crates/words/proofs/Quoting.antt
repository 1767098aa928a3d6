-- Bytes that are written one after the other.
use Rattle.std.proofs.Common.{◌≡◌, ℕ, ◌+◌, ◌<◌, ◌≤◌, List, ◌∷◌, ◌++◌, length, get_or, drop, sym, ap, ◌∙◌, append_assoc, append-nil}
use Rattle.std.proofs.lemmas.List.{drop_all}
use Rattle.std.proofs.Math.Seq.{drop-cons}
use native.Mathlib.Numerals.{unary_clauses}
use Rattle.words.specs.Quotes.{byte_text, bytes_text}

module _ (done bytes : List ℕ) (n : ℕ) (so_far : done ++ bytes_text (drop n bytes) ≡ bytes_text bytes) where
  pub one-more : n < length bytes → done ++ byte_text (get_or bytes n 0) ++ bytes_text (drop (n + 1) bytes) ≡ bytes_text bytes
  unfolding bytes_text
  one-more more =
      let first : drop n bytes ≡ get_or bytes n 0 ∷ drop (n + 1) bytes = simp unary_clauses (drop-cons bytes n 0 more) in
      append_assoc done (byte_text (get_or bytes n 0)) (bytes_text (drop (n + 1) bytes)) ∙ ap (λ bs. done ++ bytes_text bs) (sym first) ∙ so_far

  pub no-more : length bytes ≤ n → done ≡ bytes_text bytes
  unfolding bytes_text
  no-more over = sym (append-nil done) ∙ ap (λ bs. done ++ bytes_text bs) (sym (drop_all n bytes over)) ∙ so_far
