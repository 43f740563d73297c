-- A link in memory: its meaning, what it is still to hand out, the calls that it is ordered to refuse, and whether
-- memory ran out.
use Rattle.std.specs.Prelude.{◌≡◌, ◌⊎◌, ◌≢◌, ℕ, Bool, if◌then◌else◌, Option, None, Some, List, reverse, Result, IsTrue, IsErr, OnOk}
use Rattle.pp_terms.specs.format.Traffic.{Record, LinkState}
use Rattle.pp_outside.specs.Faults.{counted}
use Rattle.pp_outside.specs.Orders as orders
use Rattle.pp_outside.specs.Orders.{is_link_call, is_due, after_one}
use Rattle.pp_outside.specs.Arrivals.{Arrivals}
use Rattle.pp_outside.specs.Records.{told_of}
use Rattle.pp_outside.specs.declared.call.Call.{Call}
use Rattle.pp_outside.specs.declared.memory_link.MemoryLink.{MemoryLink}

-- the records in order, the oldest first
abbrev pub in_order : MemoryLink → List Record
in_order link = told_of link.records

abbrev pub state_of : MemoryLink → LinkState
state_of link = record {
  traffic = Some (reverse (in_order link));
  faults = link.faults;
  nexts = link.nexts;
  bound = None;
}

-- what it is still to hand out
abbrev pub arrivals_of : MemoryLink → Arrivals
arrivals_of link = link.events

-- of the order of a call, if one stands, how many calls of its kind pass before the one that is refused
abbrev pub order_of : MemoryLink → Call → Option ℕ
order_of link call = if is_link_call call then orders.order_of link.orders call else None

-- the next call of this kind is to be refused
abbrev pub is_ordered : MemoryLink → Call → Bool
is_ordered link call = is_due (order_of link call)

-- a call found no memory
abbrev pub is_short : MemoryLink → Bool
is_short link = link.short

-- One call fewer passes before the order of this call, or it is used up; the others stay; each refusal is counted once.
pub record Spends {T E : Type 0} (old : MemoryLink) (call : Call) (result : Result T E) (new : MemoryLink) : Type 0 where
  pub spent : order_of new call ≡ after_one (order_of old call)
  pub others : (other : Call) → other ≢ call → order_of new other ≡ order_of old other
  pub faults : (state_of new).faults ≡ counted (state_of old).faults result

-- A call is refused on order, and else only where it found no memory.
pub record MayRunShort {T E : Type 0} (old : MemoryLink) (call : Call) (result : Result T E) (new : MemoryLink) : Type 0 where
  pub ok : OnOk result (is_short new ≡ is_short old)
  pub ordered : IsTrue (is_ordered old call) → IsErr result × (is_short new ≡ is_short old)
  pub cause : IsErr result → IsTrue (is_ordered old call) ⊎ IsTrue (is_short new)
  pub stays : IsTrue (is_short old) → IsTrue (is_short new)
