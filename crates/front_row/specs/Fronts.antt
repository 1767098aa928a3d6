-- What stands in front of a store: sixteen places with an order or none each, an order at its key's remainder.
use Rattle.std.specs.Prelude.{◌≡◌, ℕ, ◌%◌, Bool, cond, List, map, replicate, is_some, is_ok, Some, None, Option, Result, ◌==◌, slice_index_or, slice_set}
use Rattle.records.specs.declared.order.Order.{Order}
use Rattle.records.specs.Keys.{order_key}
use Rattle.store.specs.Lists.{lookup}
use Rattle.store.specs.Models.{Model}

-- what a place holds, if its key is k
abbrev pub matching : ℕ → Option Order → Option Order
matching k None = None
matching k (Some o) = cond (order_key o == k) (Some o) None

-- the order that stands in front under the key k
abbrev pub standing : List (Option Order) → ℕ → Option Order
standing places k = matching k (slice_index_or places (k % 16) None)

-- an order put at its place, whatever stood there
abbrev pub fronted : Order → List (Option Order) → List (Option Order)
fronted o places = slice_set places (order_key o % 16) (Some o)

-- the same, if the store below took the order
abbrev pub taken : {E : Type 0} → Result (Unit {0}) E → Order → List (Option Order) → List (Option Order)
taken answer o places = cond (is_ok answer) (fronted o places) places

-- the place of the key k left empty, if it is k that stands there
abbrev pub unfronted : ℕ → List (Option Order) → List (Option Order)
unfronted k places = cond (is_some (standing places k)) (slice_set places (k % 16) None) places

-- all places empty
abbrev pub cleared : List (Option Order)
cleared = replicate 16 None

-- a place left empty, if the test picks what it holds
abbrev pub swept_place : (Order → Bool) → Option Order → Option Order
swept_place p None = None
swept_place p (Some o) = cond (p o) None (Some o)

-- all places left empty whose order the test picks
abbrev pub swept : (Order → Bool) → List (Option Order) → List (Option Order)
swept p places = map (swept_place p) places

-- what stands in front is what the list of all orders has under the same key
unfoldable pub Agrees : List (Option Order) → List Order → Type 0
Agrees places rows = (k : ℕ) (o : Order) → standing places k ≡ Some o → lookup order_key k rows ≡ Some o

-- what agrees with the store below before a change of it agrees after the change
abbrev pub Follows : (Model Order → Model Order → Type 0) → List (Option Order) → List (Option Order) → Type 0
Follows change before after = (m n : Model Order) → change m n → Agrees before m.rows → Agrees after n.rows

-- what is answered for the key k, if anything, is what the list has under it
abbrev pub Backed : List Order → ℕ → Option Order → Type 0
Backed rows k None = Unit {0}
Backed rows k (Some o) = Some o ≡ lookup order_key k rows
