-- What a run prints where no times are asked for. The sizes give it, whatever the store: how many
-- orders there is room for, how many live, and how many pairs are removed and added.
use Rattle.std.specs.Prelude.{ℕ, ◌-◌, ◌%◌, ◌==◌, Bool, false, true, List, [], ◌∷◌, ◌++◌, codes, flat_map, length, min}
use Rattle.options.specs.declared.options.Stores.{Stores}
use Rattle.words.specs.declared.kind.Kind.TheVariants.{Row, Hashed, Spread}
use Rattle.records.specs.declared.order.Order.{Order}
use Rattle.store.specs.Models.{Model, sweeping}
use Rattle.tally.specs.Totals.{greatest_total}
use Rattle.churn.specs.declared.arguments.Arguments.{Arguments}
use Rattle.churn.specs.declared.counts.Counts.{Counts}
use Rattle.churn.specs.declared.load.Load.{Load}
use Rattle.churn.specs.declared.load.Load.TheVariants.{Gaps, Queue, Rising, Scattered}
use Rattle.churn.specs.Arguments.{chosen}
use Rattle.churn.specs.Counts.{Progress, churned, come_to, counts_text, filled, none_counted}
use Rattle.churn.specs.Loads.{begun}
use Rattle.churn.specs.Names.{load_name, store_name}

-- a sweep takes the order out
abbrev pub is_even : Order → Bool
is_even o = o.id % 2 == 0

-- how many are met in a walk, as far as a total goes
abbrev pub walk_count : Model Order → ℕ
walk_count m = min (length m.rows) greatest_total

-- with what is met in a walk, how many a sweep takes out, what is met after it, and what is met
-- when all is emptied
abbrev pub with_walks : Model Order → Counts → Counts
with_walks m c = record c {
  met = walk_count m;
  swept = walk_count m - length (sweeping is_even m).rows;
  kept = walk_count (sweeping is_even m);
  left = 0;
}

-- a store of so many records at most, with none in it
abbrev pub none_held : (limit : ℕ) → Model Order
none_held limit = record { rows = []; limit = limit }

-- a load over such a store, once orders are added until so many live, or could
abbrev pub load_filled : Load → (limit live : ℕ) → Progress
load_filled load limit live =
    filled live (come_to none_counted (begun load) [] (none_held limit))

-- and once so many are removed and as many added
unfoldable pub load_churned : Load → (limit live pairs : ℕ) → Progress
load_churned load limit live pairs = churned pairs (load_filled load limit live)

-- what is counted of a load, to its last walk
unfoldable pub load_counts : Load → (limit live pairs : ℕ) → Counts
load_counts load limit live pairs =
    let end = load_churned load limit live pairs in with_walks end.store end.counts

-- counts behind the load that they are of
abbrev pub counts_line : Load → Counts → List ℕ
counts_line load counts =
    codes "("
    ++ (load_name load ++ (codes " " ++ (counts_text counts ++ (codes ")" ++ (10 ∷ [])))))

abbrev pub load_line : (limit live pairs : ℕ) → Load → List ℕ
load_line limit live pairs load = counts_line load (load_counts load limit live pairs)

abbrev pub store_line : Stores → List ℕ
store_line store = codes "(store " ++ (store_name store ++ (codes ")" ++ (10 ∷ [])))

abbrev pub every_load : List Load
every_load = Gaps ∷ (Queue ∷ (Rising ∷ (Scattered ∷ [])))

abbrev pub every_store : List Stores
every_store =
    record { kind = Row; front = false }
    ∷ (record { kind = Hashed; front = false }
    ∷ (record { kind = Spread; front = false }
    ∷ (record { kind = Row; front = true }
    ∷ (record { kind = Hashed; front = true }
    ∷ (record { kind = Spread; front = true } ∷ [])))))

-- a line for each load that is asked for
abbrev pub loads_text : Arguments → (limit live : ℕ) → List ℕ
loads_text asked limit live =
    flat_map (load_line limit live asked.sizes.pairs) (chosen asked.load every_load)

-- a store's name, and its loads
abbrev pub store_text : Arguments → (live : ℕ) → Stores → List ℕ
store_text asked live store = store_line store ++ loads_text asked asked.sizes.slots live

-- all that is printed, store by store
abbrev pub run_text : Arguments → List ℕ
run_text asked =
    flat_map (store_text asked asked.sizes.live) (chosen asked.store every_store)
