-- What is answered to a call, and what is held and stands in front after it.
use Rattle.std.specs.Prelude.{ℕ, Bool, true, false, List, length, is_some, Some, None, Ok, Err, Option, Result, option_map}
use Rattle.messages.specs.declared.code.Display.TheVariants.{Quoted}
use Rattle.messages.specs.declared.code.Side.TheVariants.{Buy}
use Rattle.records.specs.declared.order.Order.{Order}
use Rattle.store.specs.declared.refusal.InsertRefusal.{InsertRefusal}
use Rattle.store.specs.declared.refusal.InsertRefusal.TheVariants as insert_refusal
use Rattle.store.specs.declared.refusal.ReplaceRefusal.{ReplaceRefusal}
use Rattle.store.specs.declared.refusal.ReplaceRefusal.TheVariants as replace_refusal
use Rattle.store.specs.Lists.{lookup, first_from}
use Rattle.store.specs.Models.{Model, insert_says, inserted, replace_says, replacing, removing, emptied}
use Rattle.records.specs.Keys.{order_key}
use Rattle.front_row.specs.Fronts.{standing, taken, unfronted, cleared}
use Rattle.calls.specs.declared.call.Call.{Call}
use Rattle.calls.specs.declared.call.Call.TheVariants.{Insert, Find, From, Replace, Remove, Stands, Count, Limit, Empty}
use Rattle.calls.specs.declared.reply.Reply.{Reply}
use Rattle.calls.specs.declared.reply.Reply.TheVariants.{Done, Taken, Full, Missing, Found, Nothing, Counted, Limited, Standing, Absent, NoFront, NoneOpen}

-- what a store holds, and the places in front of it where it has a front
pub record Stored : Type 0 where
  pub model : Model Order
  pub front : Option (List (Option Order))

-- the order of a call: the fields that it does not give are always the same
abbrev pub order_of : ℕ → ℕ → Order
order_of k n = record { id = k; symbol = 0; side = Buy; price = 0; shares = n; display = Quoted }

abbrev pub insert_reply : Result (Unit {0}) InsertRefusal → Reply
insert_reply (Ok _) = Done
insert_reply (Err insert_refusal.Taken) = Taken
insert_reply (Err insert_refusal.Full) = Full

abbrev pub replace_reply : Result (Unit {0}) ReplaceRefusal → Reply
replace_reply (Ok _) = Done
replace_reply (Err replace_refusal.Missing) = Missing

-- an order is shown by its key and its shares
abbrev pub found_reply : Option Order → Reply
found_reply (Some o) = Found o.id o.shares
found_reply None = Nothing

abbrev pub front_reply : Option Bool → Reply
front_reply (Some true) = Standing
front_reply (Some false) = Absent
front_reply None = NoFront

-- whether a key stands in front
abbrev pub stands : ℕ → List (Option Order) → Bool
stands k places = is_some (standing places k)

-- what a store answers
abbrev pub reply_of : Call → Stored → Reply
reply_of (Insert k n) s = insert_reply (insert_says order_key (order_of k n) s.model)
reply_of (Find k) s = found_reply (lookup order_key k s.model.rows)
reply_of (From k) s = found_reply (first_from order_key k s.model.rows)
reply_of (Replace k n) s = replace_reply (replace_says order_key (order_of k n) s.model)
reply_of (Remove k) s = found_reply (lookup order_key k s.model.rows)
reply_of (Stands k) s = front_reply (option_map (stands k) s.front)
reply_of Count s = Counted (length s.model.rows)
reply_of Limit s = Limited s.model.limit
reply_of Empty s = Done

-- what is answered, where no store need be open
abbrev pub reply_to : Call → Option Stored → Reply
reply_to call None = NoneOpen
reply_to call (Some s) = reply_of call s

-- what the store holds afterwards: questions leave it as it was
abbrev pub model_after : Call → Model Order → Model Order
model_after (Insert k n) m = inserted order_key (order_of k n) m
model_after (Find k) m = m
model_after (From k) m = m
model_after (Replace k n) m = replacing order_key (order_of k n) m
model_after (Remove k) m = removing order_key k m
model_after (Stands k) m = m
model_after Count m = m
model_after Limit m = m
model_after Empty m = emptied m

-- what stands in front afterwards, where the store held this before
abbrev pub front_after : Call → Model Order → List (Option Order) → List (Option Order)
front_after (Insert k n) m places = taken (insert_says order_key (order_of k n) m) (order_of k n) places
front_after (Find k) m places = places
front_after (From k) m places = places
front_after (Replace k n) m places = taken (replace_says order_key (order_of k n) m) (order_of k n) places
front_after (Remove k) m places = unfronted k places
front_after (Stands k) m places = places
front_after Count m places = places
front_after Limit m places = places
front_after Empty m places = cleared

abbrev pub stored_after : Call → Stored → Stored
stored_after call s = record { model = model_after call s.model; front = option_map (front_after call s.model) s.front }
