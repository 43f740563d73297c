-- What was done over a link in memory since some time before.
use Rattle.std.specs.Prelude.{◌≡◌, ◌⊎◌, ℕ, ◌+◌, Option, None, [], IsTrue}
use Rattle.pp_outside.specs.Arrivals.{Arrivals}
use Rattle.pp_outside.specs.MemoryLink.{state_of, arrivals_of, order_of, is_short}
use Rattle.pp_outside.specs.declared.call.Call.{Call}
use Rattle.pp_outside.specs.declared.call.Call.TheVariants.{Bind, Next, Send}
use Rattle.pp_outside.specs.declared.memory_link.MemoryLink.{MemoryLink}
use Rattle.pp_watch.specs.Used.{used, stands, IsLater, gained}

-- a link in memory at that time: what it was still to hand out, how many of its calls were refused, and the orders of its calls
pub record LinkBefore : Type 0 where
  pub arrivals : Arrivals
  pub faults : ℕ
  pub ordered : Call → Option ℕ

abbrev pub as_before : MemoryLink → LinkBefore
as_before link = record { arrivals = arrivals_of link; faults = (state_of link).faults; ordered = order_of link }

abbrev pub blank_link : LinkBefore
blank_link = record { arrivals = record { coming = []; last = 0 }; faults = 0; ordered = λ call. None }

-- how often an order of that call was used up
abbrev pub used_of : Call → LinkBefore → MemoryLink → ℕ
used_of call before link = used (stands (before.ordered call)) (stands (order_of link call))

-- As many calls were refused as orders were used up, and no order is new. Where nothing was to come nothing came.
pub record HasSent (before : LinkBefore) (link : MemoryLink) : Type 0 where
  pub ordered : (call : Call) → IsLater (before.ordered call) (order_of link call)
  pub faults : (state_of link).faults
      ≡ gained before.faults (used_of Bind before link + used_of Next before link + used_of Send before link)
  pub idle : before.arrivals.coming ≡ [] → arrivals_of link ≡ before.arrivals

-- This is so unless some call found no memory.
abbrev pub IsSince : LinkBefore → MemoryLink → Type 0
IsSince before link = IsTrue (is_short link) ⊎ HasSent before link
