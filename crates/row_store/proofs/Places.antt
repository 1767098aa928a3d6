-- A list cut at the place of a key: what is in front, the record, and what is behind.
use Rattle.std.proofs.Common.{◌≡◌, ℕ, zero, suc, ◌+◌, ◌<◌, ◌≤◌, true, false, ◌⊎◌, List, [], ◌∷◌, ◌++◌, length, get_or, take, drop, set, is_some, Some, None, Option, Ok, Err, Result, sym, refl, ap, subst, ⊎_elim, arith}
use denote.Bor.{Bor}
use Rattle.std.specs.List.{slice_get, insert, remove}
use Rattle.std.specs.Option.{option_copied, option_and_then}
use Rattle.std.specs.Result.{result_ok}
use Rattle.std.specs.Slice.{IsItemAt}
use Rattle.std.proofs.lemmas.List.{take-append-drop, take_more, drop_all, drop-append-le, length-take, length-take-le, set_split}
use Rattle.std.proofs.lemmas.Grind.{common_steps}
use Rattle.std.proofs.lemmas.Option.{gets, slice_get_read}
use Rattle.std.proofs.lemmas.Bool.{le-leb}
use Rattle.store.specs.Lists.{Rising, lookup, holds, first_from, placed, replaced, without}
use Rattle.store.proofs.Each.{Absent, Lower, Higher, each-join, each-so, absent-lower, absent-higher}
use Rattle.store.proofs.Keyed.{lookup_absent, holds-absent, lookup-at, without-absent, without_at, replaced-absent, replaced-at, placed-between, from_past, from_at, lower-front, rising-in, rising-out, rising-exchanged}
use Rattle.row_store.specs.Places.{Stands, Goes, Sought}

module _ {X : Type 0} where
  pub cut : (xs : List X) (i : ℕ) (x : X) → slice_get xs i ≡ Some x → xs ≡ take i xs ++ (x ∷ drop (suc i) xs)
  cut [] i x e = cc
  cut (y ∷ xs) zero x e = cc
  cut (y ∷ xs) (suc i) x e = ap (λ t. y ∷ t) (cut xs i x e)

  -- what a read answers
  pub read-at : (xs : List X) (i : ℕ) (r : Option (Bor X)) → IsItemAt xs i r → option_copied r ≡ slice_get xs i
  read-at xs i None h = grind (arith, common_steps, gets, h)
  read-at xs i (Some x) h = grind (arith, common_steps, gets, h)

  nth_drop : (xs : List X) (i : ℕ) → slice_get xs i ≡ slice_get (drop i xs) 0
  nth_drop [] zero = refl
  nth_drop [] (suc i) = refl
  nth_drop (x ∷ xs) zero = refl
  nth_drop (x ∷ xs) (suc i) = nth_drop xs i

module _ {X : Type 0} (key : X → ℕ) where
  -- one more record is met: its key is lower or higher than the one sought
  pub lower-more : (k : ℕ) (xs : List X) (i : ℕ) (x : X) → i < length xs → x ≡ get_or xs i x → key x < k → Rising key xs → Lower key k (take (i + 1) xs)
  lower-more k xs i x l e u h =
      let n = slice_get_read xs (length xs) i x refl l e in
      let below : Lower key (key x) (take i xs) = lower-front key (take i xs) x (drop (suc i) xs) (subst (Rising key) (cut xs i x n) h) in
      let front : Lower key k (take i xs) = each-so (λ y. key y < key x) (λ y. key y < k) (λ y m. omega arith) (take i xs) below in
      rw (take_more xs i x l) (rw (sym e) (each-join (λ y. key y < k) (take i xs) (x ∷ []) front (u, tt)))

  pub higher-more : (k : ℕ) (xs : List X) (i p : ℕ) (x : X) → i < length xs → p ≤ i → x ≡ get_or xs i x → k < key x → Higher key k (drop p (take i xs)) → Higher key k (drop p (take (i + 1) xs))
  higher-more k xs i p x l m e u h =
      let long : p ≤ length (take i xs) = rw (length-take-le i xs (omega arith)) m in
      rw (take_more xs i x l) (rw (drop-append-le p (take i xs) (get_or xs i x ∷ []) long) (rw (sym e) (each-join (λ y. k < key y) (drop p (take i xs)) (x ∷ []) h (u, tt))))

  pub none-behind : (k : ℕ) (xs : List X) (i : ℕ) → Higher key k (drop i (take i xs))
  none-behind k xs i = rw (drop_all i (take i xs) (rw (length-take i xs) (omega arith))) tt

  module _ (k : ℕ) (xs : List X) (i : ℕ) where
    -- where the key stands
    pub found : Stands key k xs i → Rising key xs → lookup key k xs ≡ slice_get xs i
    found s h =
        let e = cut xs i s.item s.here in
        let below = lower-front key (take i xs) s.item (drop (suc i) xs) (subst (Rising key) e h) in
        let l = lookup-at key (take i xs) s.item (drop (suc i) xs) (absent-lower key (key s.item) (take i xs) below) in
        cc

    pub held-where-found : Stands key k xs i → Rising key xs → holds key k xs ≡ true
    held-where-found s h = let e = found s h in let n = s.here in cc (ap is_some e)

    from_found : Stands key k xs i → Rising key xs → first_from key k xs ≡ slice_get xs i
    from_found s h =
        let e = cut xs i s.item s.here in
        let same = s.same in
        let below = lower-front key (take i xs) s.item (drop (suc i) xs) (subst (Rising key) e h) in
        let l = from_at key (key s.item) (take i xs) s.item (drop (suc i) xs) below (omega arith) in
        cc

    -- where it is missing
    absent : Goes key k xs i → Rising key xs → Absent key k xs
    absent s h =
        subst (Absent key k) (take-append-drop i xs)
        (each-join (λ x. key x ≡ k → ⊥) (take i xs) (drop i xs) (absent-lower key k (take i xs) (s.lower h)) (absent-higher key k (drop i xs) (s.higher h)))

    pub missing : Goes key k xs i → Rising key xs → lookup key k xs ≡ None
    missing s h = lookup_absent key k xs (absent s h)

    first-higher : (back : List X) → Higher key k back → first_from key k back ≡ slice_get back 0
    first-higher [] u = refl
    first-higher (x ∷ back) u = let l : k < key x = u.0 in rw (le-leb k (key x) (omega arith)) refl

    from-missing : Goes key k xs i → Rising key xs → first_from key k xs ≡ slice_get xs i
    from-missing s h =
        let e = take-append-drop i xs in
        let p = from_past key k (take i xs) (drop i xs) (s.lower h) in
        let f = first-higher (drop i xs) (s.higher h) in
        let n = nth_drop xs i in
        cc

    pub not-held : Goes key k xs i → Rising key xs → holds key k xs ≡ false
    not-held s h = holds-absent key k xs (absent s h)

    pub without-found : Stands key k xs i → Rising key xs → without key k xs ≡ remove xs i
    without-found s h =
        let e = cut xs i s.item s.here in
        let same = s.same in
        let below = lower-front key (take i xs) s.item (drop (suc i) xs) (subst (Rising key) e h) in
        let w = without_at key (take i xs) s.item (drop (suc i) xs) (absent-lower key (key s.item) (take i xs) below) in
        cc

    pub without-missing : Goes key k xs i → Rising key xs → without key k xs ≡ xs
    without-missing s h = without-absent key k xs (absent s h)

    pub rising-removed : Stands key k xs i → Rising key xs → Rising key (remove xs i)
    rising-removed s h =
        rising-out key (take i xs) s.item (drop (suc i) xs) (subst (Rising key) (cut xs i s.item s.here) h)

  module _ (k : ℕ) (xs : List X) where
    -- what the calls read from a search's answer
    pub looked-up : (r : Result ℕ ℕ) → Sought key k xs r → Rising key xs → lookup key k xs ≡ option_and_then (slice_get xs) (result_ok r)
    looked-up (Ok j) s h = found k xs j s h
    looked-up (Err j) s h = missing k xs j s h

    pub place-found : (r : Result ℕ ℕ) (i : ℕ) → Some i ≡ result_ok r → Sought key k xs r → Stands key k xs i
    place-found (Ok j) i e s = let same : j ≡ i = cc in subst (Stands key k xs) same s
    place-found (Err j) i e s = cc

    pub from-sought : (r : Result ℕ ℕ) (i : ℕ) → (r ≡ Ok i) ⊎ (r ≡ Err i) → Sought key k xs r → Rising key xs → first_from key k xs ≡ slice_get xs i
    from-sought r i w s h =
        ⊎_elim
        (λ e. from_found k xs i (subst (Sought key k xs) e s) h)
        (λ e. from-missing k xs i (subst (Sought key k xs) e s) h)
        w

  module _ (r : X) (xs : List X) (i : ℕ) where
    pub replaced-found : Stands key (key r) xs i → Rising key xs → replaced key r xs ≡ set xs i r
    replaced-found s h =
        let e = cut xs i s.item s.here in
        let same = s.same in
        let below = lower-front key (take i xs) s.item (drop (suc i) xs) (subst (Rising key) e h) in
        let apart = absent-lower key (key r) (take i xs) (subst (λ k. Lower key k (take i xs)) same below) in
        let w = replaced-at key r (take i xs) s.item (drop (suc i) xs) same apart in
        let v = set_split xs i r s.inside in
        cc

    pub replaced-missing : Goes key (key r) xs i → Rising key xs → replaced key r xs ≡ xs
    replaced-missing s h = replaced-absent key r xs (absent (key r) xs i s h)

    pub rising-set : Stands key (key r) xs i → Rising key xs → Rising key (set xs i r)
    rising-set s h =
        let up = subst (Rising key) (cut xs i s.item s.here) h in
        subst (Rising key) (sym (set_split xs i r s.inside)) (rising-exchanged key r (take i xs) s.item (drop (suc i) xs) s.same up)

    pub placed-missing : Goes key (key r) xs i → Rising key xs → placed key r xs ≡ insert xs i r
    placed-missing s h =
        let e = take-append-drop i xs in
        let p = placed-between key r (take i xs) (drop i xs) (s.lower h) (s.higher h) in
        cc

    pub rising-inserted : Goes key (key r) xs i → Rising key xs → Rising key (insert xs i r)
    rising-inserted s h =
        rising-in key r (take i xs) (drop i xs) (subst (Rising key) (sym (take-append-drop i xs)) h) (s.lower h) (s.higher h)
