-- What a store is: a list of records with rising keys, and a limit. What each call answers and leaves.
use Rattle.std.specs.Prelude.{ℕ, Bool, cond, List, [], length, Ok, Err, Result, nat_le}
use Rattle.store.specs.declared.refusal.InsertRefusal.{InsertRefusal}
use Rattle.store.specs.declared.refusal.InsertRefusal.TheVariants.{Taken, Full}
use Rattle.store.specs.declared.refusal.ReplaceRefusal.{ReplaceRefusal}
use Rattle.store.specs.declared.refusal.ReplaceRefusal.TheVariants.{Missing}
use Rattle.store.specs.Lists.{holds, placed, replaced, without, others}

pub record Model (X : Type 0) : Type 0 where
  pub rows : List X
  pub limit : ℕ

-- the same store with other records: no call changes the limit
abbrev pub holding : {X : Type 0} → List X → Model X → Model X
holding xs m = record m { rows = xs }

-- insert: taken if the key is held, then full if the count is at or above the limit
abbrev pub insert_says : {X : Type 0} → (X → ℕ) → X → Model X → Result (Unit {0}) InsertRefusal
insert_says key r m =
    cond (holds key (key r) m.rows) (Err Taken) (cond (nat_le m.limit (length m.rows)) (Err Full) (Ok tt))

abbrev pub inserted : {X : Type 0} → (X → ℕ) → X → Model X → Model X
inserted key r m =
    cond (holds key (key r) m.rows) m (cond (nat_le m.limit (length m.rows)) m (holding (placed key r m.rows) m))

-- replace: missing if the key is not held
abbrev pub replace_says : {X : Type 0} → (X → ℕ) → X → Model X → Result (Unit {0}) ReplaceRefusal
replace_says key r m = cond (holds key (key r) m.rows) (Ok tt) (Err Missing)

abbrev pub replacing : {X : Type 0} → (X → ℕ) → X → Model X → Model X
replacing key r m = holding (replaced key r m.rows) m

-- remove
abbrev pub removing : {X : Type 0} → (X → ℕ) → ℕ → Model X → Model X
removing key k m = holding (without key k m.rows) m

-- removing all that a test picks
abbrev pub sweeping : {X : Type 0} → (X → Bool) → Model X → Model X
sweeping p m = holding (others p m.rows) m

abbrev pub emptied : {X : Type 0} → Model X → Model X
emptied m = holding [] m
