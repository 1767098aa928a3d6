-- What the tallies come to over a list.
use Rattle.std.proofs.Common.{◌≡◌, ℕ, suc, ◌+◌, Bool, cond, List, [], ◌∷◌, map, length, Some, None, refl, ap, ◌∙◌, arith}
use Rattle.messages.specs.declared.code.Side.{Side}
use Rattle.tally.proofs.Pairing.{both-joined}
use Rattle.tally.specs.declared.both.Both.{Both}
use Rattle.tally.specs.Joining.{joined_all}
use Rattle.tally.specs.Pairs.{pairwise}
use Rattle.tally.specs.Totals.{total_of, together}
use Rattle.tally.specs.TotalsLemmas.{same_total, neutral}
use Rattle.store.proofs.Picking.{picked-joined}
use Rattle.store.specs.Lists.{those, sum}
use Rattle.records.specs.declared.order.Order.{Order}
use Rattle.records.specs.declared.symbol_row.SymbolRow.{SymbolRow}
use Rattle.records.specs.Keys.{row_worth}
use Rattle.records.specs.Values.{valued, joined}
use Rattle.records.specs.ValuesLemmas.{joined-valued}
use Rattle.book.specs.declared.best.Best.{Best}
use Rattle.book.specs.declared.depth.Depth.{Depth}
use Rattle.book.specs.declared.turnover.Turnover.{Turnover}
use Rattle.book.specs.Books.{better_of, best_of, depth_of, turnover_of}

totals-stop : (m n : ℕ) → together (total_of m) (total_of n) ≡ total_of (m + n)
totals-stop m n = same_total _ _ (omega arith)

one-more : (n : ℕ) → together (total_of 1) (total_of n) ≡ total_of (suc n)
one-more n = same_total _ _ (omega arith)

-- the tally of depths
abbrev depth_with : Depth → Depth → Depth
depth_with x y = record { orders = together x.orders y.orders; shares = together x.shares y.shares }

abbrev depth_given : Order → Depth
depth_given o = record { orders = total_of 1; shares = total_of o.shares }

pub depth-joined : (os : List Order) → joined_all (depth_of []) depth_with (map depth_given os) ≡ depth_of os
depth-joined [] = refl
depth-joined (o ∷ os) =
    ap (depth_with (depth_given o)) (depth-joined os)
    ∙ (λ i. record { orders = one-more (length os) i; shares = totals-stop o.shares (sum (λ o. o.shares) os) i })

-- of the orders that a test picks
pub picked_depth : (p : Order → Bool) (os : List Order) → joined_all (depth_of []) depth_with (map (λ o. cond (p o) (depth_given o) (depth_of [])) os) ≡ depth_of (those p os)
picked_depth p os =
    picked-joined p depth_given (depth_of []) depth_with (λ x i. record { orders = neutral x.orders i; shares = neutral x.shares i }) os
    ∙ depth-joined (those p os)

-- the tally of turnovers
abbrev turnover_with : Turnover → Turnover → Turnover
turnover_with x y = record { volume = together x.volume y.volume; value = joined x.value y.value }

abbrev turnover_given : SymbolRow → Turnover
turnover_given r = record { volume = total_of r.volume; value = valued (row_worth r) }

pub turnover-joined : (rs : List SymbolRow) → joined_all (turnover_of []) turnover_with (map turnover_given rs) ≡ turnover_of rs
turnover-joined [] = refl
turnover-joined (r ∷ rs) =
    ap (turnover_with (turnover_given r)) (turnover-joined rs)
    ∙ (λ i. record { volume = totals-stop r.volume (sum (λ r. r.volume) rs) i; value = joined-valued (row_worth r) (sum row_worth rs) i })

-- the tally of best prices
module _ {B : ℕ} (side : Side) where
  abbrev best_none : Best B
  best_none = record { price = None }

  abbrev best_with : Best B → Best B → Best B
  best_with x y = record { price = better_of side x.price y.price }

  abbrev best_given : Order → Best B
  best_given o = record { price = Some o.price }

  best-joined : (os : List Order) → joined_all best_none best_with (map best_given os) ≡ record { price = best_of side os }
  best-joined [] = refl
  best-joined (o ∷ os) = ap (best_with (best_given o)) (best-joined os)

  -- both in one walk, of the orders that a test picks
  abbrev both_none : Both Depth (Best B)
  both_none = record { first = depth_of []; second = best_none }

  abbrev both_given : Order → Both Depth (Best B)
  both_given o = record { first = depth_given o; second = best_given o }

  pub book-joined : (p : Order → Bool) (os : List Order) → joined_all both_none (pairwise depth_with best_with) (map (λ o. cond (p o) (both_given o) both_none) os) ≡ record { first = depth_of (those p os); second = record { price = best_of side (those p os) } }
  book-joined p os =
      picked-joined p both_given both_none (pairwise depth_with best_with) (λ x i. record { first = record { orders = neutral x.first.orders i; shares = neutral x.first.shares i }; second = x.second }) os
      ∙ both-joined (depth_of []) depth_with depth_given best_none best_with best_given (those p os)
      ∙ (λ i. record { first = depth-joined (those p os) i; second = best-joined (those p os) i })
