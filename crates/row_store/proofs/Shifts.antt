-- The records from a place on moved up or down by one.
use Rattle.std.proofs.Common.{◌≡◌, ℕ, suc, ◌+◌, ◌-◌, ◌<◌, ◌≤◌, List, [], ◌∷◌, ◌++◌, length, get_or, take, drop, set, sym, ap, ◌∙◌, add-one, arith, length-append, length-drop}
use lib.Seq.{take-set-lt}
use Rattle.std.specs.List.{insert, remove, copy_within}
use Rattle.std.proofs.lemmas.List.{append_assoc, drop-take, drop_more, get_or-drop, get_or-take, get_or_append_left, length-take-le, set-append_left, take-take, take_more_set}
use Rattle.std.proofs.lemmas.List.Edits.{take-paste, drop-paste, paste_none, paste_more}

module _ {X : Type 0} (xs : List X) (n i : ℕ) where
  behind : (j : ℕ) → j ≤ n → drop j (take n xs) ≡ take (n - j) (drop j xs)
  behind j l = ap (λ m. drop j (take m xs)) (let e : n ≡ j + (n - j) = omega arith in e) ∙ drop-take j (n - j) xs

  -- up, and the record x put in
  pub moved-up : (x : X) → i ≤ n → n < length xs → take (n + 1) (set (copy_within xs i n (i + 1)) i x) ≡ insert (take n xs) i x
  moved-up x l m =
      let moved = copy_within xs i n (i + 1) in
      let back = take (n - i) (drop i xs) in
      let room = length-drop i xs in
      let size = length-take-le (i + 1) xs (omega arith) in
      let end : n + 1 ≡ i + 1 + (n - i) = omega arith in
      let inside = take-set-lt (n + 1) moved i x (omega arith) in
      let pasted = ap (λ k. take k moved) end ∙ take-paste xs (i + 1) (drop i xs) (n - i) (omega arith) (omega arith) in
      let left = set-append_left (take (i + 1) xs) back i x (omega arith) in
      let last = sym (take-set-lt (i + 1) xs i x (omega arith)) ∙ take_more_set xs i x (omega arith) in
      let joined = append_assoc (take i xs) (x ∷ []) back in
      let same = behind i l in
      let front = take-take i n xs l in
      cc

  -- down over the one in the place
  pub moved-down : i < n → n ≤ length xs → take (n - 1) (copy_within xs (i + 1) n i) ≡ remove (take n xs) i
  moved-down l m =
      let room = length-drop (i + 1) xs in
      let end : n - 1 ≡ i + (n - (i + 1)) = omega arith in
      let pasted = take-paste xs i (drop (i + 1) xs) (n - (i + 1)) (omega arith) (omega arith) in
      let back = behind (i + 1) (omega arith) in
      let front = take-take i n xs (omega arith) in
      let one = add-one i in
      cc

module _ {X : Type 0} (xs : List X) where
  -- a turn of the loop that moves them up, from the last to the first
  pub none_up : (n : ℕ) → xs ≡ copy_within xs n n (n + 1)
  none_up n = let none : n - n ≡ 0 = omega arith in rw none (paste_none xs (n + 1) (drop n xs))

  pub one_up : (ys : List X) (n f : ℕ) (x : X) → f < n → n < length xs → ys ≡ copy_within xs (f + 1) n (f + 1 + 1) → x ≡ get_or ys f x → set ys (f + 1) x ≡ copy_within xs f n (f + 1)
  one_up ys n f x l m e read =
      let front = take (f + 1 + 1) xs in
      let back = take (n - (f + 1)) (drop (f + 1) xs) in
      let past = drop (f + 1 + 1 + (n - (f + 1))) xs in
      let size = length-take-le (f + 1 + 1) xs (omega arith) in
      let both = length-append front back in
      let same : x ≡ get_or xs f x =
      read ∙ ap (λ t. get_or t f x) e ∙ get_or_append_left (front ++ back) past x f (omega arith) ∙ get_or_append_left front back x f (omega arith)
      ∙ get_or-take (f + 1 + 1) xs f x (omega arith) in
      let outer = set-append_left (front ++ back) past (f + 1) x (omega arith) in
      let inner = set-append_left front back (f + 1) x (omega arith) in
      let last = sym (take-set-lt (f + 1 + 1) xs (f + 1) x (omega arith)) ∙ take_more_set xs (f + 1) x (omega arith) in
      let joined = append_assoc (take (f + 1) xs) (x ∷ []) back in
      let moved : take (n - f) (drop f xs) ≡ x ∷ back =
      ap (λ k. take k (drop f xs)) (let k : n - f ≡ suc (n - (f + 1)) = omega arith in k) ∙ ap (take (suc (n - (f + 1)))) (drop_more xs f x (omega arith)) ∙ ap (λ y. y ∷ back) (sym same) in
      let end : f + 1 + (n - f) ≡ f + 1 + 1 + (n - (f + 1)) = omega arith in
      cc

  -- and of the one that moves them down, from the first to the last
  pub none_down : (p : ℕ) → xs ≡ copy_within xs (p + 1) (p + 1) p
  none_down p = let none : p + 1 - (p + 1) ≡ 0 = omega arith in rw none (paste_none xs p (drop (p + 1) xs))

  pub one_down : (ys : List X) (p i : ℕ) (x : X) → p ≤ i → i + 1 < length xs → ys ≡ copy_within xs (p + 1) (i + 1) p → x ≡ get_or ys (i + 1) x → set ys i x ≡ copy_within xs (p + 1) (i + 1 + 1) p
  one_down ys p i x l m e read =
      let j = i - p in
      let from = drop (p + 1) xs in
      let count : i + 1 - (p + 1) ≡ j = omega arith in
      let next : i + 1 + 1 - (p + 1) ≡ j + 1 = omega arith in
      let place : p + j ≡ i = omega arith in
      let there : p + 1 + j ≡ i + 1 = omega arith in
      let room = length-drop (p + 1) xs in
      let rest = drop-paste xs p from j (omega arith) (omega arith) in
      let now = get_or-drop i ys 1 x in
      let was = get_or-drop i xs 1 x in
      let source = get_or-drop (p + 1) xs j x in
      let more = paste_more xs p from j x (omega arith) (omega arith) in
      cc
