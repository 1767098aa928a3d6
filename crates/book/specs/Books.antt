-- What rests and what has traded, said of lists of records.
use Rattle.std.specs.Prelude.{◌≡◌, ℕ, ◌≤◌, max, min, Bool, true, false, cond, List, [], ◌∷◌, length, Some, None, Option, ◌==◌, ◌⊎◌}
use Rattle.messages.specs.declared.code.Side.{Side}
use Rattle.messages.specs.declared.code.Side.TheVariants.{Buy, Sell}
use Rattle.tally.specs.Totals.{total_of}
use Rattle.store.specs.Lists.{Each, those, sum}
use Rattle.records.specs.declared.order.Order.{Order}
use Rattle.records.specs.declared.symbol_row.SymbolRow.{SymbolRow}
use Rattle.records.specs.Keys.{row_worth}
use Rattle.records.specs.Values.{valued}
use Rattle.book.specs.declared.book.Book.{Book}
use Rattle.book.specs.declared.depth.Depth.{Depth}
use Rattle.book.specs.declared.turnover.Turnover.{Turnover}

-- the order is of that symbol
abbrev pub is_of : ℕ → Order → Bool
is_of symbol o = o.symbol == symbol

-- the two sides are the same
abbrev pub same_side : Side → Side → Bool
same_side Buy Buy = true
same_side Buy Sell = false
same_side Sell Buy = false
same_side Sell Sell = true

-- the order is of that symbol and of that side
abbrev pub rests_on : ℕ → Side → Order → Bool
rests_on symbol side o = cond (is_of symbol o) (same_side o.side side) false

-- how many orders there are, and their shares together
abbrev pub depth_of : List Order → Depth
depth_of os = record { orders = total_of (length os); shares = total_of (sum (λ o. o.shares) os) }

-- the better of two prices: the greater to buy, the less to sell
abbrev pub better : Side → ℕ → ℕ → ℕ
better Buy p q = max p q
better Sell p q = min p q

-- of two prices that may be missing, the better, or the one that is there
abbrev pub better_of : Side → Option ℕ → Option ℕ → Option ℕ
better_of side None y = y
better_of side (Some p) None = Some p
better_of side (Some p) (Some q) = Some (better side p q)

-- the side that buys, or the other
abbrev pub side_of : Bool → Side
side_of true = Buy
side_of false = Sell

-- the best price of the orders, none of no orders
abbrev pub best_of : Side → List Order → Option ℕ
best_of side [] = None
best_of side (o ∷ os) = better_of side (Some o.price) (best_of side os)

-- the depth and the best price of a symbol's orders on a side
abbrev pub book_of : ℕ → Side → List Order → Book
book_of symbol side os =
    record { depth = depth_of (those (rests_on symbol side) os); best = best_of side (those (rests_on symbol side) os) }

-- the shares of all rows, and what they traded for
abbrev pub turnover_of : List SymbolRow → Turnover
turnover_of rs = record { volume = total_of (sum (λ r. r.volume) rs); value = valued (sum row_worth rs) }

-- p is one of the prices
abbrev pub Among : ℕ → List ℕ → Type 0
Among p [] = ⊥
Among p (q ∷ qs) = (p ≡ q) ⊎ Among p qs

-- p is no worse than q
abbrev pub NoWorse : Side → ℕ → ℕ → Type 0
NoWorse Buy p q = q ≤ p
NoWorse Sell p q = p ≤ q

-- the best of the prices: none only of no prices, else one of them to which none is better
abbrev pub IsBest : Side → List ℕ → Option ℕ → Type 0
IsBest side prices None = prices ≡ []
IsBest side prices (Some p) = Among p prices × Each (NoWorse side p) prices
