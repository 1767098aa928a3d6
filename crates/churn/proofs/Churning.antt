-- Parts of a load come to the whole, and none of it changes the store's limit.
use Rattle.std.proofs.Common.{◌≡◌, ℕ, zero, suc, ◌+◌, ◌-◌, ◌≤◌, Bool, true, false, cond, List, [], Option, length, nat_le, refl, ap, subst, ◌∙◌, arith}
use Rattle.std.specs.Io.KnownBytes.{Appends}
use Rattle.records.specs.declared.order.Order.{Order}
use Rattle.records.specs.Keys.{order_key}
use Rattle.store.specs.Lists.{holds, placed}
use Rattle.store.specs.Models.{Model, holding, inserted, removing}
use Rattle.churn.specs.declared.counts.Counts.{Counts}
use Rattle.churn.specs.declared.feed.Feed.{Feed}
use Rattle.churn.specs.declared.load.Load.{Load}
use Rattle.churn.specs.Counts.{Progress, churned, come_to, filled, none_counted, one_churned, one_filled, order_of}
use Rattle.churn.specs.Loads.{begun, dead_id, id_taken, next_id}
use Rattle.churn.specs.Runs.{load_churned, load_counts, load_filled, none_held, with_walks}

churned-sum : (a b : ℕ) (p : Progress) → churned a (churned b p) ≡ churned (a + b) p
churned-sum zero b p = ap (λ n. churned n p) (let e : b ≡ 0 + b = omega arith in e)
churned-sum (suc a) b p =
    ap one_churned (churned-sum a b p)
    ∙ ap (λ n. churned n p) (let e : suc (a + b) ≡ suc a + b = omega arith in e)

-- a part more
pub churn_goes_on : (pairs left part : ℕ) (p q r : Progress) → left ≤ pairs → part ≤ left
    → q ≡ churned (pairs - left) p → r ≡ churned part q → r ≡ churned (pairs - (left - part)) p
churn_goes_on pairs left part p q r inside fits before one =
    one ∙ ap (churned part) before ∙ churned-sum part (pairs - left) p
    ∙ ap (λ n. churned n p)
    (let e : part + (pairs - left) ≡ pairs - (left - part) = omega arith in e)

-- an order that is refused leaves the store, and one that is taken its limit
same-limit : (a b : Bool) (m n : Model Order) → n.limit ≡ m.limit
    → (cond a m (cond b m n)).limit ≡ m.limit
same-limit true b m n same = refl
same-limit false true m n same = refl
same-limit false false m n same = same

inserted-limit : (o : Order) (m : Model Order) → (inserted order_key o m).limit ≡ m.limit
inserted-limit o m =
    same-limit (holds order_key (order_key o) m.rows) (nat_le m.limit (length m.rows)) m
    (holding (placed order_key o m.rows) m) refl

one_filled-limit : (p : Progress) → (one_filled p).store.limit ≡ p.store.limit
unfolding one_filled
one_filled-limit p = inserted-limit (order_of (next_id p.feed)) p.store

one_churned-limit : (p : Progress) → (one_churned p).store.limit ≡ p.store.limit
unfolding one_churned
one_churned-limit p =
    inserted-limit (order_of (next_id p.feed))
    (removing order_key (dead_id (id_taken p.feed) p.live (next_id p.feed)) p.store)

pub filled-limit : (n : ℕ) (p : Progress) → (filled n p).store.limit ≡ p.store.limit
filled-limit zero p = refl
filled-limit (suc n) p = one_filled-limit (filled n p) ∙ filled-limit n p

pub churned-limit : (n : ℕ) (p : Progress) → (churned n p).store.limit ≡ p.store.limit
churned-limit zero p = refl
churned-limit (suc n) p = one_churned-limit (churned n p) ∙ churned-limit n p

-- a load that begins with nothing
pub filled_from : (load : Load) (limit live : ℕ) (counts : Counts) (feed : Feed) (m : Model Order)
    (p : Progress) → counts ≡ none_counted → feed ≡ begun load → m ≡ none_held limit
    → p ≡ filled live (come_to counts feed [] m) → p ≡ load_filled load limit live
filled_from load limit live counts feed m p none new empty fills =
    fills ∙ (λ i. filled live (come_to (none i) (new i) [] (empty i)))

-- all its parts, and the walks behind them
module _ (load : Load) (limit live pairs left : ℕ) (start end : Progress)
    (fills : start ≡ load_filled load limit live)
    (churns : end ≡ churned (pairs - left) start) (none : left ≤ 0) where
  ends : end ≡ load_churned load limit live pairs
  unfolding load_churned
  ends =
      churns ∙ ap (λ n. churned n start) (let e : pairs - left ≡ pairs = omega arith in e)
      ∙ ap (churned pairs) fills

  pub load_counted : with_walks end.store end.counts ≡ load_counts load limit live pairs
  unfolding load_counts
  load_counted = ap (λ p. with_walks p.store p.counts) ends

  pub load_limit : end.store.limit ≡ limit
  load_limit =
      ap (λ p. p.store.limit) churns ∙ churned-limit (pairs - left) start
      ∙ ap (λ p. p.store.limit) fills ∙ filled-limit live _

-- what is printed of counts, where nothing was printed before
pub said_after : {W : Type 0} (contents : W → Option (List ℕ)) (was then is : W)
    (text : Counts → List ℕ) {counts wanted : Counts} → then ≡ was → counts ≡ wanted
    → Appends (contents then) (contents is) (text counts)
    → Appends (contents was) (contents is) (text wanted)
said_after contents was then is text {wanted = wanted} silent same says =
    subst (λ w. Appends (contents w) (contents is) (text wanted)) silent
    (subst (λ k. Appends (contents then) (contents is) (text k)) same says)
