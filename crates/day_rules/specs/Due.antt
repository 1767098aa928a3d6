-- When each refusal of a ledger is due: its number, and what it carries.
use Rattle.std.specs.Prelude.{◌≡◌, ℕ, ◌<◌, ◌≤◌, ◌↔◌, List, length, Some, None, Ok, Err, Result, true}
use Rattle.messages.specs.declared.message.Message.{Message}
use Rattle.messages.specs.Refusals.{LaidOut, Due}
use Rattle.records.specs.declared.order.Order.{Order}
use Rattle.records.specs.declared.execution.Execution.{Execution}
use Rattle.store.specs.Models.{Model}
use Rattle.day_rules.specs.declared.fault.LedgerFault.{LedgerFault}
use Rattle.day_rules.specs.declared.fault.LedgerFault.TheVariants as fault
use Rattle.day_rules.specs.declared.fault.StoreName.TheVariants.{Order as order_store, Execution as execution_store, Symbol as symbol_store}
use Rattle.day_rules.specs.Days.{Day}
use Rattle.day_rules.specs.Events.{Event, adds, executes, cancels, trades, breaks, event_of}
use Rattle.day_rules.specs.Faults.{Carried, numbers, refusal_number, refusal_carried}
use Rattle.day_rules.specs.Rules.{order_in, execution_in, row_in, answer}

-- the store holds as many as its limit allows, or more
abbrev pub IsFull : {X : Type 0} → Model X → Type 0
IsFull m = m.limit ≤ length m.rows

abbrev pub HasRoom : {X : Type 0} → Model X → Type 0
HasRoom m = length m.rows < m.limit

-- an order of so many shares or more rests under the Order ID
pub record Rests (d : Day) (id shares : ℕ) : Type 0 where
  pub order : Order
  pub found : order_in id d ≡ Some order
  pub enough : shares ≤ order.shares

-- Storing an execution or trade of the symbol, under the Execution ID.
pub data StoringDue (d : Day) (execution symbol : ℕ) : ℕ → Carried → Type 0 where
  repeated :
      {e : Execution} → execution_in execution d ≡ Some e →
      StoringDue d execution symbol (refusal_number fault.Repeated) (refusal_carried fault.Repeated)
  full :
      execution_in execution d ≡ None → IsFull d.executions →
      StoringDue d execution symbol
      (refusal_number (fault.Full execution_store)) (refusal_carried (fault.Full execution_store))
  full_rows :
      execution_in execution d ≡ None → HasRoom d.executions →
      row_in symbol d ≡ None → IsFull d.symbols →
      StoringDue d execution symbol
      (refusal_number (fault.Full symbol_store)) (refusal_carried (fault.Full symbol_store))

-- Taking shares off an order.
pub data TakingDue (d : Day) (id shares : ℕ) : ℕ → Carried → Type 0 where
  absent :
      order_in id d ≡ None →
      TakingDue d id shares (refusal_number fault.Absent) (refusal_carried fault.Absent)
  excess :
      {o : Order} → order_in id d ≡ Some o → o.shares < shares →
      TakingDue d id shares (refusal_number fault.Excess) (refusal_carried fault.Excess)

-- Of what a message asks, while the day limit is not reached. A clear is never refused.
pub data EventDue (d : Day) : Event → ℕ → Carried → Type 0 where
  resting :
      {o x : Order} → order_in o.id d ≡ Some x →
      EventDue d (adds o) (refusal_number fault.Resting) (refusal_carried fault.Resting)
  full :
      {o : Order} → order_in o.id d ≡ None → IsFull d.orders →
      EventDue d (adds o)
      (refusal_number (fault.Full order_store)) (refusal_carried (fault.Full order_store))
  full_rows :
      {o : Order} → order_in o.id d ≡ None → HasRoom d.orders →
      row_in o.symbol d ≡ None → IsFull d.symbols →
      EventDue d (adds o)
      (refusal_number (fault.Full symbol_store)) (refusal_carried (fault.Full symbol_store))
  executing :
      {id shares execution n : ℕ} {c : Carried} → TakingDue d id shares n c →
      EventDue d (executes id shares execution) n c
  storing :
      {id shares execution n : ℕ} {c : Carried} (r : Rests d id shares) →
      StoringDue d execution r.order.symbol n c → EventDue d (executes id shares execution) n c
  cancelling :
      {id shares n : ℕ} {c : Carried} → TakingDue d id shares n c →
      EventDue d (cancels id shares) n c
  trading :
      {e : Execution} {n : ℕ} {c : Carried} → StoringDue d e.id e.symbol n c →
      EventDue d (trades e) n c
  unmatched :
      {execution : ℕ} → execution_in execution d ≡ None →
      EventDue d (breaks execution)
      (refusal_number fault.Unmatched) (refusal_carried fault.Unmatched)
  broken :
      {execution : ℕ} {e : Execution} → execution_in execution d ≡ Some e → e.broken ≡ true →
      EventDue d (breaks execution) (refusal_number fault.Broken) (refusal_carried fault.Broken)

-- Of a line.
pub data LineDue (line : List ℕ) (d : Day) : ℕ → Carried → Type 0 where
  -- it is no message: as reading it refuses it
  unread : {n : ℕ} {vs : List ℕ} → Due line n vs → LineDue line d n (numbers vs)
  -- as many messages as the day limit were accepted
  closed :
      (m : Message) → LaidOut line m → d.day_limit ≤ d.accepted →
      LineDue line d (refusal_number fault.Closed) (refusal_carried fault.Closed)
  -- what it asks is refused
  refused :
      {n : ℕ} {c : Carried} (m : Message) → LaidOut line m → d.accepted < d.day_limit →
      EventDue d (event_of m) n c → LineDue line d n c

-- the answer is a refusal of that number that carries that
abbrev pub Refuses : {X : Type 0} → Result X LedgerFault → ℕ → Carried → Type 0
Refuses (Ok a) n c = ⊥
Refuses (Err e) n c = (refusal_number e ≡ n) × (refusal_carried e ≡ c)

-- Each refusal is given in its own case, and in that case only.
abbrev pub RefusedWhenDue : Type 0
RefusedWhenDue = (line : List ℕ) (d : Day) (n : ℕ) (c : Carried) → Refuses (answer line d) n c ↔ LineDue line d n c
