-- A word is a field's value just where the field spells that value so.
use Rattle.std.proofs.Common.{◌≡◌, ℕ, ◌-◌, ◌↔◌, eqb, leb, List, length, take, replicate, Some, None, Ok, Err, Option, Result, sym, refl, ap, ◌∙◌, subst, ⊎_elim, arith}
use Rattle.std.proofs.lemmas.Bool.{cases_Bool, eqb-true, eq-eqb, leb-false}
use Rattle.std.proofs.lemmas.List.{take_all, length-append}
use Rattle.layout.specs.Slots.{Slot, width, Spells, in_range, value_of, scan_slot}
use Rattle.layout.proofs.Reading.{Found, scan-found, scan-passes}
use Rattle.layout.proofs.Spelling.{Lawful, lawful, holds-all, keeps-all}
use Rattle.messages.specs.Layouts.{identifier, long_symbol}
use Rattle.keys.specs.Keys.{ranged, whole, id_of, padded, symbol_of}

never : {X : Type 0} {x : X} → ◌≡◌ {A = Option X} None (Some x) → ⊥
never e = let z : ◌≡◌ {A = ℕ} 0 1 = cc in omega arith

some-inj : {X : Type 0} {x y : X} → ◌≡◌ {A = Option X} (Some x) (Some y) → x ≡ y
some-inj e = cc

module _ (s : Slot) (laws : Lawful s) (p : List ℕ) (v : ℕ) where
  all_own : length p ≡ width s → take (width s) p ≡ p
  all_own size = take_all (width s) p (omega arith)

  found-spells : length p ≡ width s → (r : Result ℕ ℕ) → Found s p r → ranged s r ≡ Some v → Spells s p v
  found-spells size (Err i) h e = absurd (never e)
  found-spells size (Ok u) h e =
      let value : value_of s p ≡ u = ap (value_of s) (sym (all_own size)) ∙ h.1 in
      ⊎_elim
      (λ ok.
      let same : u ≡ v = some-inj (rw ok at e) in
      subst (Spells s p) (value ∙ same) (laws.spells p size (keeps-all s p (width s) h.0) (rw value ok)))
      (λ out. absurd (never (rw out at e)))
      (cases_Bool (in_range s u))

  spells-ranged : Spells s p v → ranged s (scan_slot s p) ≡ Some v
  spells-ranged h =
      let size = laws.size p v h in
      let walk : scan_slot s p ≡ Ok v = scan-passes s p (holds-all s p (width s) (omega arith) (laws.passes p v h)) ∙ ap Ok (ap (value_of s) (all_own size) ∙ laws.value p v h) in
      rw (walk, laws.inside p v h)

  pub whole-spells : (whole s p ≡ Some v) ↔ Spells s p v
  whole-spells = (
    (λ e. ⊎_elim
        (λ yes. found-spells (eqb-true (length p) (width s) yes) (scan_slot s p) (scan-found s p) (rw yes at e))
        (λ no. absurd (never (rw no at e)))
        (cases_Bool (eqb (length p) (width s)))),
    (λ h. rw (eq-eqb (length p) (width s) (laws.size p v h)) (spells-ranged h)),
  )

pub id-spells : (w : List ℕ) (v : ℕ) → (id_of w ≡ Some v) ↔ Spells identifier w v
id-spells w v = whole-spells identifier (lawful identifier refl) w v

-- a longer word is no symbol's field
pub symbol-spells : (w : List ℕ) (v : ℕ) → (symbol_of w ≡ Some v) ↔ Spells long_symbol (padded w) v
symbol-spells w v =
    let both = whole-spells long_symbol (lawful long_symbol refl) (padded w) v in
    ⊎_elim
    (λ short. rw short both)
    (λ long.
    let more = leb-false (length w) 8 long in
    rw long ((λ e. absurd (never e)), (λ h. let size : length (padded w) ≡ 8 = h.size in let sum = length-append w (replicate (8 - length w) 32) in absurd (omega arith))))
    (cases_Bool (leb (length w) 8))
