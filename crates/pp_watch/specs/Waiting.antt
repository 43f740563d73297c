-- A wait over a link in memory.
use Rattle.std.specs.Prelude.{◌≡◌, ◌≢◌, ℕ, ◌≤◌, Bool, true, false, Option, Some, None, List, [], ◌∷◌, ◌++◌, length, Result, IsOk, IsErr, IfOk}
use Rattle.pp_terms.specs.format.Traffic as traffic
use Rattle.pp_terms.specs.format.Traffic.{Record}
use Rattle.pp_outside.specs.Faults.{counted}
use Rattle.pp_outside.specs.MemoryLink.{state_of, arrivals_of, order_of}
use Rattle.pp_outside.specs.Orders.{after_one}
use Rattle.pp_outside.specs.Outside.{address_of, record_of, DoesNext}
use Rattle.pp_outside.specs.declared.call.Call.{Call}
use Rattle.pp_outside.specs.declared.call.Call.TheVariants.{Next}
use Rattle.pp_outside.specs.declared.link.Address.{Address}
use Rattle.pp_outside.specs.declared.link.Event.{Event}
use Rattle.pp_outside.specs.declared.link.LinkFault.{LinkFault}
use Rattle.pp_outside.specs.declared.memory_link.MemoryLink.{MemoryLink}
use denote.Ref.{Bor}

-- the bytes of what comes fit a buffer
abbrev pub FitsBuffer : Option (Address × Bor (List ℕ)) → Type 0
FitsBuffer None = Unit {0}
FitsBuffer (Some came) = length came.1.now ≤ 65536

-- the record of what comes at a moment
abbrev pub record_at : ℕ → Option (Address × Bor (List ℕ)) → Record
record_at clock None = traffic.Quiet clock
record_at clock (Some came) = traffic.Received clock (address_of came.0) came.1.now

-- What was expected is to come now, behind what was.
pub record HasExpected (clock : ℕ) (came : Option (Address × Bor (List ℕ))) (old new : MemoryLink) : Type 0 where
  pub arrivals : arrivals_of new ≡ record (arrivals_of old) { coming = (arrivals_of old).coming ++ record_at clock came ∷ [] }
  pub state : state_of new ≡ state_of old
  pub orders : (call : Call) → order_of new call ≡ order_of old call

-- Where the wait wasn't ordered to fail it came to what was to come. Nothing is to come afterwards, and one wait fewer
-- passes before its order, or that is used up.
pub record HasWaited (is_deaf : Bool) (clock : ℕ) (came : Option (Address × Bor (List ℕ))) (old new : MemoryLink) (buffer : List ℕ)
    (event : Result Event LinkFault) : Type 0 where
  pub does : DoesNext (state_of old) buffer event (state_of new)
  pub heard : is_deaf ≡ false → IsOk event
  pub deaf : is_deaf ≡ true → IsErr event
  pub heard_it : IfOk event (λ e. record_of e buffer ≡ record_at clock came)
  pub idle : (arrivals_of new).coming ≡ []
  pub spent : order_of new Next ≡ after_one (order_of old Next)
  pub others : (call : Call) → call ≢ Next → order_of new call ≡ order_of old call
  pub faults : (state_of new).faults ≡ counted (state_of old).faults event
