-- A walk through the records in a store's own order.
use Rattle.std.proofs.Common.{◌≡◌, ℕ, suc, ◌+◌, ◌-◌, ◌≤◌, List, [], ◌∷◌, map, length, Some, Option, sym, refl, ap, ◌∙◌, arith}
use mathlib.Core.List.Permᴰ
use mathlib.Core.List.{Permᴰ}
use Rattle.std.proofs.lemmas.List.{nil_from_length}
use Rattle.tally.specs.Joining.{joined_all, JoinedInEveryOrder}
use Rattle.store.specs.declared.visit.Visit.{Visit}
use Rattle.store.specs.Visits.{Visited, rest}
use Rattle.tally.proofs.Laws.{joined-permuted, neutral-right, in-every-order}

pub permuted-length : {X : Type 0} {xs ys : List X} → Permᴰ xs ys → length xs ≡ length ys
permuted-length Permᴰ.nil = refl
permuted-length (Permᴰ.cons e p) = ap suc (permuted-length p)
permuted-length (Permᴰ.swap e f) = refl
permuted-length (Permᴰ.trans p q) = permuted-length p ∙ permuted-length q

-- what a visit saw: the record, and then what is to come from where it says to go on
pub seen : {X : Type 0} (ahead : ℕ → List X) (p : ℕ) (v : Visit X) (next : Option ℕ) → Visited ahead p (Some v) → v.next ≡ next → ahead p ≡ v.record ∷ rest ahead next
seen ahead p v next met e = met ∙ ap (λ o. v.record ∷ rest ahead o) e

-- what was met, with what is to come, is the whole
pub record Walked {X M : Type 0} (given : X → M) (none : M) (joining : M → M → M) (rows coming : List X) (met : M) (left : ℕ) : Type 0 where
  pub total : joining met (joined_all none joining (map given coming)) ≡ joined_all none joining (map given rows)
  pub count : left ≡ length coming

module _ {X M : Type 0} (given : X → M) (none : M) (joining : M → M → M)
    (associative : (x y z : M) → joining (joining x y) z ≡ joining x (joining y z))
    (commutative : (x y : M) → joining x y ≡ joining y x)
    (neutral : (x : M) → joining none x ≡ x) (rows : List X) where
  pub walk-starts : (coming : List X) (left : ℕ) → Permᴰ coming rows → left ≡ length rows → Walked given none joining rows coming none left
  walk-starts coming left p e = record {
    total = neutral _ ∙ joined-permuted none joining associative commutative neutral (Permᴰ.map given p);
    count = e ∙ sym (permuted-length p);
  }

  pub walk-on : (coming rest : List X) (r : X) (met : M) (left less : ℕ) → coming ≡ r ∷ rest → left ≡ less + 1 → Walked given none joining rows coming met left
      → Walked given none joining rows rest (joining met (given r)) less
  walk-on coming rest r met left less e f w = record {
    total = associative met (given r) (joined_all none joining (map given rest)) ∙ ap (λ xs. joining met (joined_all none joining (map given xs))) (sym e) ∙ w.total;
    count = let a = w.count in let b = ap length e in omega arith;
  }

  pub walk_ends : (coming : List X) (met : M) (left : ℕ) → coming ≡ [] → Walked given none joining rows coming met left → JoinedInEveryOrder none joining (map given rows) met
  walk_ends coming met left e w =
      in-every-order none joining associative commutative neutral _ _
      (sym (ap (λ xs. joining met (joined_all none joining (map given xs))) e ∙ neutral-right none joining associative commutative neutral met) ∙ w.total)

  pub walk-done : (coming : List X) (met : M) (left : ℕ) → left ≤ 0 → Walked given none joining rows coming met left → JoinedInEveryOrder none joining (map given rows) met
  walk-done coming met left h w = walk_ends coming met left (nil_from_length coming (let a = w.count in omega arith)) w

  -- where nothing can follow the record r
  pub walk-last : (coming : List X) (r : X) (met : M) (left : ℕ) → coming ≡ r ∷ [] → Walked given none joining rows coming met left → JoinedInEveryOrder none joining (map given rows) (joining met (given r))
  walk-last coming r met left e w =
      walk_ends [] (joining met (given r)) (left - 1) refl (walk-on coming [] r met left (left - 1) e (let a = w.count in let b = ap length e in omega arith) w)
