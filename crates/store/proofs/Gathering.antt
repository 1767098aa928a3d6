-- Writing the records into a row as a store's own order has them: what is written, with what is to come, is all.
use Rattle.std.proofs.Common.{◌≡◌, ℕ, ◌+◌, ◌<◌, List, [], ◌∷◌, ◌++◌, length, take, set, append_assoc, append-nil, sym, ap, ◌∙◌, arith}
use Rattle.std.proofs.lemmas.List.{take_more_set, take_all, length-take}

module _ {X : Type 0} (all row : List X) (filled : ℕ) (coming : List X) (so_far : take filled row ++ coming ≡ all) where
  -- one record more is written
  pub gathered_more : filled < length row → (r : X) (rest : List X) → coming ≡ r ∷ rest → take (filled + 1) (set row filled r) ++ rest ≡ all
  gathered_more room r rest e =
      rw (take_more_set row filled r room) (append_assoc (take filled row) (r ∷ []) rest ∙ ap (λ z. take filled row ++ z) (sym e) ∙ so_far)

  -- nothing is to come
  pub gathered-all : length row ≡ length all → coming ≡ [] → row ≡ all
  gathered-all size none =
      let written : take filled row ≡ all = sym (append-nil (take filled row)) ∙ ap (λ z. take filled row ++ z) (sym none) ∙ so_far in
      let long = ap length written in
      let taken = length-take filled row in
      sym (take_all filled row (omega arith)) ∙ written
