-- Rows of which the first n hold records, after a change.
use Rattle.std.proofs.Common.{◌≡◌, ℕ, ◌+◌, ◌-◌, ◌<◌, ◌≤◌, false, List, length, get_or, take, drop, set, Some, None, Ok, Err, Result, sym, refl, ◌∙◌, subst, arith, length-drop}
use lib.Seq.{take-set-lt}
use Rattle.std.specs.List.{copy_within}
use Rattle.std.specs.Result.{result_ok}
use Rattle.std.proofs.lemmas.List.{get_or-take, length-take-le, length-set}
use Rattle.std.proofs.lemmas.List.Edits.{length-paste}
use Rattle.std.proofs.lemmas.Option.{slice_get_read}
use Rattle.std.proofs.lemmas.Bool.{le-leb, lt-leb}
use Rattle.store.specs.Lists.{Rising, lookup, holds}
use Rattle.store.specs.Models.{insert_says, inserted, replace_says, replacing, removing}
use Rattle.store.specs.declared.refusal.InsertRefusal.TheVariants.{Taken, Full}
use Rattle.store.specs.declared.refusal.ReplaceRefusal.TheVariants.{Missing}
use Rattle.store.proofs.ModelsLemmas.{same-model}
use Rattle.row_store.specs.Places.{Stands, Goes, Sought}
use Rattle.row_store.specs.Rows.{InOrder, Changed}
use Rattle.row_store.proofs.Places.{held-where-found, not-held, found, missing, replaced-found, replaced-missing, rising-set, placed-missing, rising-inserted, without-found, without-missing, rising-removed}
use Rattle.row_store.proofs.Shifts.{moved-up, moved-down}

module _ {X : Type 0} (key : X → ℕ) (n : ℕ) (xs : List X) (h : InOrder key n xs) where
  moved-length : (from to : ℕ) → to + (n - from) ≤ length xs → length (copy_within xs from n to) ≡ length xs
  moved-length from to l =
      let rest = length-drop from xs in
      let most = h.0 in
      length-paste xs to (drop from xs) (n - from) l (omega arith)

  module _ (r : X) where
    -- insert
    pub taken : (i : ℕ) → Stands key (key r) (take n xs) i → Changed key (insert_says key r) (inserted key r) (Err Taken) n n xs xs
    taken i s =
        let held = held-where-found key (key r) (take n xs) i s h.1 in
        record { says = rw held refl; leaves = rw held refl; still = h }

    module _ (i : ℕ) (s : Goes key (key r) (take n xs) i) where
      free : holds key (key r) (take n xs) ≡ false
      free = not-held key (key r) (take n xs) i s h.1

      size : length (take n xs) ≡ n
      size = length-take-le n xs h.0

      pub full : length xs ≤ n → Changed key (insert_says key r) (inserted key r) (Err Full) n n xs xs
      full l =
          let at-limit = le-leb (length xs) (length (take n xs)) (let e = size in omega arith) in
          record { says = rw (free, at-limit) refl; leaves = rw (free, at-limit) refl; still = h }

      pub put-in : n < length xs → Changed key (insert_says key r) (inserted key r) (Ok tt) n (n + 1) xs (set (copy_within xs i n (i + 1)) i r)
      put-in l =
          let room = lt-leb (length xs) (length (take n xs)) (let e = size in omega arith) in
          let upto = s.inside in
          let e = size in
          let rows = moved-up xs n i r (omega arith) l in
          let long = length-set (copy_within xs i n (i + 1)) i r ∙ moved-length i (i + 1) (omega arith) in
          record {
            says = rw (free, room) refl;
            leaves = rw (free, room) (same-model _ _ (rows ∙ sym (placed-missing key r (take n xs) i s h.1)) long);
            still = (rw long (omega arith), subst (Rising key) (sym rows) (rising-inserted key r (take n xs) i s h.1));
          }

    -- replace
    pub replaced : (i : ℕ) → Stands key (key r) (take n xs) i → Changed key (replace_says key r) (replacing key r) (Ok tt) n n xs (set xs i r)
    replaced i s =
        let inside = s.inside in
        let size = length-take-le n xs h.0 in
        let rows = take-set-lt n xs i r (omega arith) in
        let long = length-set xs i r in
        record {
          says = rw (held-where-found key (key r) (take n xs) i s h.1) refl;
          leaves = same-model _ _ (rows ∙ sym (replaced-found key r (take n xs) i s h.1)) long;
          still = (rw long h.0, subst (Rising key) (sym rows) (rising-set key r (take n xs) i s h.1));
        }

    pub absent : (i : ℕ) → Goes key (key r) (take n xs) i → Changed key (replace_says key r) (replacing key r) (Err Missing) n n xs xs
    absent i s = record {
      says = rw (not-held key (key r) (take n xs) i s h.1) refl;
      leaves = same-model _ _ (sym (replaced-missing key r (take n xs) i s h.1)) refl;
      still = h;
    }

  -- remove
  module _ (k : ℕ) where
    pub taken-out : (i : ℕ) (x : X) → Stands key k (take n xs) i → x ≡ get_or xs i x → Changed key (λ m. lookup key k m.rows) (removing key k) (Some x) n (n - 1) xs (copy_within xs (i + 1) n i)
    taken-out i x s e =
        let inside = s.inside in
        let size = length-take-le n xs h.0 in
        let low : i < n = omega arith in
        let rows = moved-down xs n i low h.0 in
        let long = moved-length (i + 1) i (omega arith) in
        record {
          says = sym (found key k (take n xs) i s h.1 ∙ slice_get_read (take n xs) _ i x refl inside (e ∙ sym (get_or-take n xs i x low)));
          leaves = same-model _ _ (rows ∙ sym (without-found key k (take n xs) i s h.1)) long;
          still = (rw long (omega arith), subst (Rising key) (sym rows) (rising-removed key k (take n xs) i s h.1));
        }

    pub unheld : (r : Result ℕ ℕ) → None ≡ result_ok r → Sought key k (take n xs) r → Changed key (λ m. lookup key k m.rows) (removing key k) None n n xs xs
    unheld (Ok i) e s = cc
    unheld (Err i) e s = record {
      says = sym (missing key k (take n xs) i s h.1);
      leaves = same-model _ _ (sym (without-missing key k (take n xs) i s h.1)) refl;
      still = h;
    }
