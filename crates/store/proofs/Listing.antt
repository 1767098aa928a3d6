-- Going from key to key, and writing what is found into the part of a row that it fills: the
-- records below the key are written, those at or above it still to come.
use Rattle.std.proofs.Common.{◌≡◌, ℕ, ◌+◌, ◌-◌, ◌^◌, ◌<◌, ◌≤◌, min, List, [], ◌∷◌, ◌++◌, length, Some, None, take, set, sym, refl, ap, ◌∙◌, append_assoc, arith, length-append, take_at}
use Rattle.std.proofs.lemmas.List.{take_more_set, take_all}
use Rattle.store.specs.Lists.{Each, Rising, first_from}
use Rattle.store.proofs.Each.{Lower, Higher, each-join, each-so}
use Rattle.store.proofs.Keyed.{from_at, higher-back}

-- so far: the records that are written, those to come, the key to go on from, and the turns taken
pub record Listing {X : Type 0} (key : X → ℕ) (rows part : List X) (k turns : ℕ) : Type 0 where
  pub done : List X
  pub coming : List X
  pub whole : done ++ coming ≡ rows
  pub counted : length done ≡ turns
  pub below : 0 < length coming → Lower key k done
  pub from : Each (λ x. k ≤ key x) coming
  pub written : take turns part ≡ done

module _ {X : Type 0} (key : X → ℕ) (narrow : (x : X) → key x < 2 ^ 64) (rows : List X) where
  each-zero : (xs : List X) → Each (λ x. 0 ≤ key x) xs
  each-zero [] = tt
  each-zero (x ∷ xs) = (omega arith, each-zero xs)

  pub listing-starts : (part : List X) → Listing key rows part 0 0
  listing-starts part = record {
    done = [];
    coming = rows;
    whole = refl;
    counted = refl;
    below = λ h. tt;
    from = each-zero rows;
    written = refl;
  }

  module _ (part : List X) (k turns : ℕ) (s : Listing key rows part k turns) (more : turns < length rows) where
    -- the record that comes next is the first from the key on
    next-of : (coming : List X) → s.coming ≡ coming → (r : X) × (rest : List X) × (s.coming ≡ r ∷ rest) × (first_from key k rows ≡ Some r)
    next-of [] e =
        let a = sym (length-append s.done s.coming) ∙ ap length s.whole in
        let b = ap length e in
        let c = s.counted in
        absurd (omega arith)
    next-of (r ∷ rest) e =
        let below = s.below (rw e (omega arith)) in
        (r, rest, e, ap (first_from key k) (sym s.whole ∙ ap (λ z. s.done ++ z) e) ∙ from_at key k s.done r rest below (rw e at s.from).0)

    pub listed_more : None ≡ first_from key k rows → ⊥
    listed_more none = let n = next-of s.coming refl in let f = n.3 in cc

    -- one record more is written; the next key is one above it, unless that passes 64 bits
    module _ (up : Rising key rows) (room : turns < length part) (r : X) (found : Some r ≡ first_from key k rows) (next : ℕ) (above : next ≡ min (key r + 1) (2 ^ 64 - 1)) where
      rest : List X
      unfolding next-of
      rest = (next-of s.coming refl).1

      split : s.coming ≡ r ∷ rest
      unfolding rest
      split = let n = next-of s.coming refl in let e = n.2 in let f = n.3 in cc

      so_far : s.done ++ (r ∷ rest) ≡ rows
      so_far = ap (λ z. s.done ++ z) (sym split) ∙ s.whole

      at-or-above : k ≤ key r
      at-or-above = (rw split at s.from).0

      below-it : Lower key k s.done
      below-it = s.below (rw split (omega arith))

      behind : Higher key (key r) rest
      behind = higher-back key s.done r rest (rw so_far up)

      one_below : (zs : List X) → 0 < length zs → Higher key (key r) zs → key r + 1 < 2 ^ 64
      one_below [] h b = absurd (omega arith)
      one_below (z ∷ zs) h b = let n = narrow z in let l = b.0 in omega arith

      lower-now : 0 < length rest → Lower key next (s.done ++ (r ∷ []))
      lower-now h =
          let kr = at-or-above in
          let e = one_below rest h behind in
          each-join (λ x. key x < next) s.done (r ∷ [])
          (each-so (λ x. key x < k) (λ x. key x < next) (λ x l. omega arith) s.done below-it)
          (omega arith, tt)

      pub listing-on : Listing key rows (set part turns r) next (turns + 1)
      listing-on = record {
        done = s.done ++ (r ∷ []);
        coming = rest;
        whole = append_assoc s.done (r ∷ []) rest ∙ so_far;
        counted = length-append s.done (r ∷ []) ∙ (let c = s.counted in omega arith);
        below = lower-now;
        from = each-so (λ x. key r < key x) (λ x. next ≤ key x) (λ x l. omega arith) rest behind;
        written = take_more_set part turns r room ∙ ap (λ t. t ++ (r ∷ [])) s.written;
      }

-- the part is full
pub listing-ends : {X : Type 0} (key : X → ℕ) (rows part : List X) (k n turns : ℕ) → length part ≡ n → turns ≡ n → Listing key rows part k turns → part ≡ take n rows
listing-ends key rows part k n turns size all l =
    sym (take_all turns part (omega arith)) ∙ l.written ∙ sym (take_at l.done l.coming turns l.counted)
    ∙ ap (take turns) l.whole ∙ ap (λ t. take t rows) all
