-- A pass that moves the records that stay down over those that a test picks.
use Rattle.std.proofs.Common.{◌≡◌, ℕ, ◌+◌, ◌<◌, ◌≤◌, Bool, true, false, List, [], ◌∷◌, ◌++◌, length, get_or, take, drop, set, sym, ap, ◌∙◌, arith}
use Rattle.std.proofs.lemmas.List.{take_more, take_more_set, drop_more, drop-set-lt}
use Rattle.store.specs.Lists.{others}
use Rattle.store.proofs.Sweeps.{others-more_picked, others-more_kept}

-- after i rows: those that stay are the first k of ys, and from i on ys is as it was
pub record Swept {X : Type 0} (p : X → Bool) (xs ys : List X) (k i : ℕ) : Type 0 where
  pub behind : k ≤ i
  pub front : take k ys ≡ others p (take i xs)
  pub rest : drop i ys ≡ drop i xs

module _ {X : Type 0} (p : X → Bool) (xs ys : List X) (k i : ℕ) (x : X) (long : length ys ≡ length xs) (inside : i < length xs) (h : Swept p xs ys k i) (read : x ≡ get_or ys i x) where
  one-more : take (i + 1) xs ≡ take i xs ++ (x ∷ [])
  one-more =
      let rest = h.rest in
      let was = drop_more xs i x inside in
      let is = drop_more ys i x (omega arith) in
      let taken = take_more xs i x inside in
      cc

  after : drop (i + 1) ys ≡ drop (i + 1) xs
  after =
      let rest = h.rest in
      let was = drop_more xs i x inside in
      let is = drop_more ys i x (omega arith) in
      cc

  pub swept-out : p x ≡ true → Swept p xs ys k (i + 1)
  swept-out t =
      let low = h.behind in
      record { behind = omega arith; front = h.front ∙ sym (ap (others p) one-more ∙ others-more_picked p (take i xs) x t); rest = after }

  pub swept-down : p x ≡ false → Swept p xs (set ys k x) (k + 1) (i + 1)
  swept-down t =
      let low = h.behind in
      record {
        behind = omega arith;
        front =
            take_more_set ys k x (omega arith) ∙ ap (λ l. l ++ (x ∷ [])) h.front
            ∙ sym (ap (others p) one-more ∙ others-more_kept p (take i xs) x t);
        rest = drop-set-lt (i + 1) ys k x (omega arith) ∙ after;
      }
