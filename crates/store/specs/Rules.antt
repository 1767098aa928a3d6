-- What the calls of a store come to, in words of what is found: with `determined`, these rules
-- alone fix the list, and each says what becomes of the limit.
use Rattle.std.specs.Prelude.{◌≡◌, ℕ, ◌+◌, ◌<◌, ◌≤◌, Bool, cond, List, length, Some, None, Ok, Err, Option, ◌≢◌}
use Rattle.store.specs.declared.refusal.InsertRefusal.TheVariants.{Taken, Full}
use Rattle.store.specs.declared.refusal.ReplaceRefusal.TheVariants.{Missing}
use Rattle.store.specs.Lists.{Rising, lookup, first_from}
use Rattle.store.specs.Models.{Model, insert_says, inserted, replace_says, replacing, removing, sweeping, emptied}

-- every key but k is found as before, the keys rise, and the limit is the same
pub record OthersStay {X : Type 0} (key : X → ℕ) (k : ℕ) (before after : Model X) : Type 0 where
  pub others : (j : ℕ) → (j ≢ k) → lookup key j after.rows ≡ lookup key j before.rows
  pub rising : Rising key after.rows
  pub limit : after.limit ≡ before.limit

-- the record r is found under its key, and the rest is as before
pub record Stored {X : Type 0} (key : X → ℕ) (r : X) (before after : Model X) (more : ℕ) : Type 0 where
  pub found : lookup key (key r) after.rows ≡ Some r
  pub rest : OthersStay key (key r) before after
  pub count : length after.rows ≡ length before.rows + more

-- nothing is found under the key k, and the rest is as before
pub record Gone {X : Type 0} (key : X → ℕ) (k : ℕ) (before after : Model X) : Type 0 where
  pub none : lookup key k after.rows ≡ None
  pub rest : OthersStay key k before after

-- what was found, unless the test picks it
abbrev pub unless_picked : {X : Type 0} → (X → Bool) → Option X → Option X
unless_picked p None = None
unless_picked p (Some x) = cond (p x) None (Some x)

-- Under each key is found what was found there, unless the test picks it: so no key is new. The
-- keys rise, and the limit is the same.
pub record Swept {X : Type 0} (key : X → ℕ) (p : X → Bool) (before after : Model X) : Type 0 where
  pub found : (k : ℕ) → lookup key k after.rows ≡ unless_picked p (lookup key k before.rows)
  pub rising : Rising key after.rows
  pub limit : after.limit ≡ before.limit

-- nothing is found, none is counted, and the limit is the same
pub record Emptied {X : Type 0} (key : X → ℕ) (before after : Model X) : Type 0 where
  pub none : (k : ℕ) → lookup key k after.rows ≡ None
  pub rising : Rising key after.rows
  pub count : length after.rows ≡ 0
  pub limit : after.limit ≡ before.limit

-- r is found, at or above k, and no record that is found at or above k has a lower key
pub record Least {X : Type 0} (key : X → ℕ) (k : ℕ) (xs : List X) (r : X) : Type 0 where
  pub found : lookup key (key r) xs ≡ Some r
  pub from : k ≤ key r
  pub least : (x : X) → lookup key (key x) xs ≡ Some x → k ≤ key x → key r ≤ key x

-- each call of a store whose keys rise
pub record Rules {X : Type 0} (key : X → ℕ) : Type 0 where
  pub insert : (m : Model X) (r : X) → Rising key m.rows → insert_says key r m ≡ Ok tt → Stored key r m (inserted key r m) 1
  pub taken : (m : Model X) (r x : X) → lookup key (key r) m.rows ≡ Some x → (insert_says key r m ≡ Err Taken) × (inserted key r m ≡ m)
  pub full : (m : Model X) (r : X) → lookup key (key r) m.rows ≡ None → m.limit ≤ length m.rows → (insert_says key r m ≡ Err Full) × (inserted key r m ≡ m)
  pub room : (m : Model X) (r : X) → lookup key (key r) m.rows ≡ None → length m.rows < m.limit → insert_says key r m ≡ Ok tt
  pub replace : (m : Model X) (r x : X) → Rising key m.rows → lookup key (key r) m.rows ≡ Some x → (replace_says key r m ≡ Ok tt) × Stored key r m (replacing key r m) 0
  pub missing : (m : Model X) (r : X) → lookup key (key r) m.rows ≡ None → (replace_says key r m ≡ Err Missing) × (replacing key r m ≡ m)
  pub remove : (m : Model X) (k : ℕ) → Rising key m.rows → Gone key k m (removing key k m)
  pub sweep : (m : Model X) (p : X → Bool) → Rising key m.rows → Swept key p m (sweeping p m)
  pub empty : (m : Model X) → Emptied key m (emptied m)
  pub from : (xs : List X) (k : ℕ) (r : X) → Rising key xs → first_from key k xs ≡ Some r → Least key k xs r
  pub none : (xs : List X) (k : ℕ) → first_from key k xs ≡ None → (x : X) → lookup key (key x) xs ≡ Some x → key x < k
  pub determined : (xs ys : List X) → Rising key xs → Rising key ys → ((k : ℕ) → lookup key k xs ≡ lookup key k ys) → xs ≡ ys
