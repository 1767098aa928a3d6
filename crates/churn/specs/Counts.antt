-- The orders of the loads, and what is counted of adds and removes.
use Rattle.std.specs.Prelude.{ℕ, zero, suc, ◌+◌, ◌*◌, ◌%◌, ◌^◌, ◌==◌, cond, List, [], ◌∷◌, ◌++◌, Some, None, Ok, Err, Option, Result, bit_and, codes, decimal}
use Rattle.messages.specs.declared.code.Display.{Display}
use Rattle.messages.specs.declared.code.Display.TheVariants.{Quoted, Unquoted}
use Rattle.messages.specs.declared.code.Side.{Side}
use Rattle.messages.specs.declared.code.Side.TheVariants.{Buy, Sell}
use Rattle.records.specs.declared.order.Order.{Order}
use Rattle.records.specs.Keys.{order_key}
use Rattle.store.specs.declared.refusal.InsertRefusal.{InsertRefusal}
use Rattle.store.specs.Lists.{lookup}
use Rattle.store.specs.Models.{Model, insert_says, inserted, removing}
use Rattle.churn.specs.declared.counts.Counts.{Counts}
use Rattle.churn.specs.declared.feed.Feed.{Feed}
use Rattle.churn.specs.Loads.{dead_id, exchanged, id_taken, live_after, next_id, next_to}

-- an order whose every field follows from its ID
abbrev pub order_of : (id : ℕ) → Order
order_of id = record {
  id = id;
  symbol = id % 2 ^ 13;
  price = id % 2 ^ 20;
  shares = id % 2 ^ 10;
  side = cond (id % 2 == 0) Buy Sell;
  display = cond (bit_and id 2 == 0) Quoted Unquoted;
}

-- the numbers of the sum for the two enums
abbrev pub side_number : Side → ℕ
side_number Buy = 1
side_number Sell = 2

abbrev pub display_number : Display → ℕ
display_number Quoted = 4
display_number Unquoted = 8

-- the sum with one order more, in 64 bits
unfoldable pub mixed : (sum : ℕ) → Order → ℕ
mixed sum o =
    (sum * 31 + o.id + o.symbol + o.price + o.shares + side_number o.side
    + display_number o.display)
    % 2 ^ 64

-- at first
abbrev pub none_counted : Counts
none_counted = record {
  added = 0;
  refused = 0;
  removed = 0;
  missed = 0;
  sum = 0;
  met = 0;
  swept = 0;
  kept = 0;
  left = 0;
}

-- one add more, by what the store answers to it
abbrev pub insert_counted : Result (Unit {0}) InsertRefusal → Counts → Counts
insert_counted (Ok _) c = record c { added = next_to c.added }
insert_counted (Err _) c = record c { refused = next_to c.refused }

-- one remove more, by the order that it gives
abbrev pub remove_counted : Option Order → Counts → Counts
remove_counted (Some o) c = record c { removed = next_to c.removed; sum = mixed c.sum o }
remove_counted None c = record c { missed = next_to c.missed }

-- how far a load has come: what is counted, the feed, the IDs that live, and what the store holds
pub record Progress : Type 0 where
  pub counts : Counts
  pub feed : Feed
  pub live : List ℕ
  pub store : Model Order

-- the same by its parts
abbrev pub come_to : Counts → Feed → List ℕ → Model Order → Progress
come_to counts feed live store =
    record { counts = counts; feed = feed; live = live; store = store }

-- with the order of an ID added
abbrev pub with_added : (id : ℕ) → Progress → Progress
with_added id p = record p {
  counts = insert_counted (insert_says order_key (order_of id) p.store) p.counts;
  store = inserted order_key (order_of id) p.store;
}

-- with the order of an ID removed
abbrev pub with_removed : (id : ℕ) → Progress → Progress
with_removed id p = record p {
  counts = remove_counted (lookup order_key id p.store.rows) p.counts;
  store = removing order_key id p.store;
}

-- with the next ID added, which lives behind the others
unfoldable pub one_filled : Progress → Progress
one_filled p =
    with_added (next_id p.feed)
    (record p { feed = id_taken p.feed; live = p.live ++ (next_id p.feed ∷ []) })

-- so many are added
abbrev pub filled : (count : ℕ) → Progress → Progress
filled zero p = p
filled (suc n) p = one_filled (filled n p)

-- with an ID in the place of another among those that live, that other removed, and the ID added
abbrev pub with_exchanged : (id : ℕ) → Progress → Progress
with_exchanged id p =
    with_added id
    (with_removed (dead_id p.feed p.live id)
    (record p { feed = exchanged p.feed p.live; live = live_after p.feed p.live id }))

-- with one removed and the next ID added
unfoldable pub one_churned : Progress → Progress
one_churned p = with_exchanged (next_id p.feed) (record p { feed = id_taken p.feed })

-- so many times
abbrev pub churned : (pairs : ℕ) → Progress → Progress
churned zero p = p
churned (suc n) p = one_churned (churned n p)

-- what adds and removes came to
abbrev pub called_text : Counts → List ℕ
called_text c =
    codes "(added "
    ++ (decimal c.added
    ++ (codes ") (refused "
    ++ (decimal c.refused
    ++ (codes ") (removed "
    ++ (decimal c.removed
    ++ (codes ") (missed "
    ++ (decimal c.missed ++ (codes ") (sum " ++ (decimal c.sum ++ codes ")")))))))))

-- what walks met
abbrev pub walked_text : Counts → List ℕ
walked_text c =
    codes "(met "
    ++ (decimal c.met
    ++ (codes ") (swept "
    ++ (decimal c.swept
    ++ (codes ") (kept "
    ++ (decimal c.kept ++ (codes ") (left " ++ (decimal c.left ++ codes ")")))))))

-- how counts are shown
unfoldable pub counts_text : Counts → List ℕ
counts_text c = called_text c ++ (codes " " ++ walked_text c)
