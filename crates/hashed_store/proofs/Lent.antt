-- The slots that lent memory makes, read and written.
use Rattle.std.proofs.Common.{◌≡◌, ℕ, zero, suc, ◌<◌, inl, inr, ⊎_elim, eqb, true, false, List, [], ◌∷◌, length, set, replicate, refl, ap, ◌∙◌, arith, Some, None, get_or}
use Rattle.std.proofs.lemmas.Bool.{eq-eqb, ne_eqb}
use Rattle.hashed_store.specs.Lent.{slots_of, Tagged}
use Rattle.hashed_store.specs.Mixing.{tag_of}
use Rattle.hashed_store.specs.Slots.{slot_at, Other}

tag_used : (k : ℕ) → eqb (tag_of k) 0 ≡ false
unfolding tag_of
tag_used k = ne_eqb _ 0 (λ e. absurd (omega arith))

module _ {X : Type 0} where
  pub below_tags : (ts : List ℕ) (rs : List X) (i : ℕ) → i < length (slots_of ts rs) → i < length ts
  below_tags [] rs i h = absurd (omega arith)
  below_tags (t ∷ ts) [] i h = absurd (omega arith)
  below_tags (t ∷ ts) (r ∷ rs) zero h = omega arith
  below_tags (t ∷ ts) (r ∷ rs) (suc i) h = omega (arith, below_tags ts rs i (omega arith))

  pub below_rows : (ts : List ℕ) (rs : List X) (i : ℕ) → i < length (slots_of ts rs) → i < length rs
  below_rows [] rs i h = absurd (omega arith)
  below_rows (t ∷ ts) [] i h = absurd (omega arith)
  below_rows (t ∷ ts) (r ∷ rs) zero h = omega arith
  below_rows (t ∷ ts) (r ∷ rs) (suc i) h = omega (arith, below_rows ts rs i (omega arith))

  pub used_slot : (ts : List ℕ) (rs : List X) (i : ℕ) (r : X) → i < length (slots_of ts rs)
      → eqb (get_or ts i 0) 0 ≡ false → Some (get_or rs i r) ≡ slot_at (slots_of ts rs) i
  used_slot [] rs i r h e = absurd (omega arith)
  used_slot (t ∷ ts) [] i r h e = absurd (omega arith)
  used_slot (t ∷ ts) (x ∷ rs) zero r h e = rw e refl
  used_slot (t ∷ ts) (x ∷ rs) (suc i) r h e = used_slot ts rs i r (omega arith) e

  pub empty_slot : (ts : List ℕ) (rs : List X) (i : ℕ) → i < length (slots_of ts rs)
      → eqb (get_or ts i 0) 0 ≡ true → None ≡ slot_at (slots_of ts rs) i
  empty_slot [] rs i h e = absurd (omega arith)
  empty_slot (t ∷ ts) [] i h e = absurd (omega arith)
  empty_slot (t ∷ ts) (x ∷ rs) zero h e = rw e refl
  empty_slot (t ∷ ts) (x ∷ rs) (suc i) h e = empty_slot ts rs i (omega arith) e

  pub filled_slots : (ts : List ℕ) (rs : List X) (i k : ℕ) (r : X)
      → slots_of (set ts i (tag_of k)) (set rs i r) ≡ set (slots_of ts rs) i (Some r)
  filled_slots [] rs i k r = refl
  filled_slots (u ∷ ts) [] zero k r = refl
  filled_slots (u ∷ ts) [] (suc i) k r = refl
  filled_slots (u ∷ ts) (x ∷ rs) zero k r = rw (tag_used k) refl
  filled_slots (u ∷ ts) (x ∷ rs) (suc i) k r = ap (λ ss. slot_at (slots_of (u ∷ []) (x ∷ [])) 0 ∷ ss) (filled_slots ts rs i k r)

  pub emptied_slots : (ts : List ℕ) (rs : List X) (i : ℕ)
      → slots_of (set ts i 0) rs ≡ set (slots_of ts rs) i None
  emptied_slots [] rs i = refl
  emptied_slots (u ∷ ts) [] zero = refl
  emptied_slots (u ∷ ts) [] (suc i) = refl
  emptied_slots (u ∷ ts) (x ∷ rs) zero = refl
  emptied_slots (u ∷ ts) (x ∷ rs) (suc i) = ap (λ ss. slot_at (slots_of (u ∷ []) (x ∷ [])) 0 ∷ ss) (emptied_slots ts rs i)

  pub blank_slots : (n : ℕ) (rs : List X) → n ≡ length rs
      → slots_of (replicate n 0) rs ≡ replicate (length rs) None
  blank_slots zero [] e = refl
  blank_slots zero (x ∷ rs) e = absurd (omega arith)
  blank_slots (suc n) [] e = absurd (omega arith)
  blank_slots (suc n) (x ∷ rs) e = ap (λ ss. None ∷ ss) (blank_slots n rs (omega arith))

  -- as many tags as rows, and each stays that of its row, or 0
  module _ (key : X → ℕ) where
    even_tagged : (ts : List ℕ) (rs : List X) → Tagged key ts rs → length ts ≡ length rs
    even_tagged [] [] h = refl
    even_tagged [] (r ∷ rs) h = absurd h
    even_tagged (t ∷ ts) [] h = absurd h
    even_tagged (t ∷ ts) (r ∷ rs) h = ap suc (even_tagged ts rs h.1)

    pub length_slots : (ts : List ℕ) (rs : List X) → Tagged key ts rs
        → length rs ≡ length (slots_of ts rs)
    length_slots [] [] h = refl
    length_slots [] (r ∷ rs) h = absurd h
    length_slots (t ∷ ts) [] h = absurd h
    length_slots (t ∷ ts) (r ∷ rs) h = ap suc (length_slots ts rs h.1)

    pub blank_tags : (ts : List ℕ) (rs : List X) → Tagged key ts rs
        → slots_of (replicate (length ts) 0) rs ≡ replicate (length (slots_of ts rs)) None
    blank_tags ts rs h = blank_slots (length ts) rs (even_tagged ts rs h) ∙ ap (λ n. replicate n None) (length_slots ts rs h)

    pub tagged_blank : (n : ℕ) (rs : List X) → n ≡ length rs → Tagged key (replicate n 0) rs
    tagged_blank zero [] e = tt
    tagged_blank zero (x ∷ rs) e = absurd (omega arith)
    tagged_blank (suc n) [] e = absurd (omega arith)
    tagged_blank (suc n) (x ∷ rs) e = (inl refl, tagged_blank n rs (omega arith))

    pub tagged_cleared : (ts : List ℕ) (rs : List X) → Tagged key ts rs
        → Tagged key (replicate (length ts) 0) rs
    tagged_cleared ts rs h = tagged_blank (length ts) rs (even_tagged ts rs h)

    pub tagged_filled : (ts : List ℕ) (rs : List X) (i : ℕ) (r : X) → Tagged key ts rs
        → Tagged key (set ts i (tag_of (key r))) (set rs i r)
    tagged_filled [] [] i r h = tt
    tagged_filled [] (x ∷ rs) i r h = absurd h
    tagged_filled (u ∷ ts) [] i r h = absurd h
    tagged_filled (u ∷ ts) (x ∷ rs) zero r h = (inr refl, h.1)
    tagged_filled (u ∷ ts) (x ∷ rs) (suc i) r h = (h.0, tagged_filled ts rs i r h.1)

    pub tagged_emptied : (ts : List ℕ) (rs : List X) (i : ℕ) → Tagged key ts rs
        → Tagged key (set ts i 0) rs
    tagged_emptied [] [] i h = tt
    tagged_emptied [] (x ∷ rs) i h = absurd h
    tagged_emptied (u ∷ ts) [] i h = absurd h
    tagged_emptied (u ∷ ts) (x ∷ rs) zero h = (inl refl, h.1)
    tagged_emptied (u ∷ ts) (x ∷ rs) (suc i) h = (h.0, tagged_emptied ts rs i h.1)

    -- of a tag that is not the key's, the row is another's
    pub tagged_other : (ts : List ℕ) (rs : List X) (i k : ℕ) → i < length (slots_of ts rs)
        → Tagged key ts rs → eqb (get_or ts i 0) 0 ≡ false → (get_or ts i 0 ≡ tag_of k → ⊥)
        → Other key k (slot_at (slots_of ts rs) i)
    tagged_other [] rs i k lt h e ne = absurd (omega arith)
    tagged_other (t ∷ ts) [] i k lt h e ne = absurd (omega arith)
    tagged_other (t ∷ ts) (x ∷ rs) zero k lt h e ne = rw e (λ same. ⊎_elim (λ z. let none = eq-eqb t 0 z in cc) (λ own. ne (own ∙ ap tag_of same)) h.0)
    tagged_other (t ∷ ts) (x ∷ rs) (suc i) k lt h e ne = tagged_other ts rs i k (omega arith) h.1 e ne
