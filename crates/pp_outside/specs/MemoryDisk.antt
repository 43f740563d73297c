-- A disk in memory: its meaning, the calls that it is ordered to refuse, and whether memory ran out.
use Rattle.std.specs.Prelude.{◌≡◌, ◌⊎◌, ◌≢◌, ◌↔◌, ℕ, Bool, true, false, if◌then◌else◌, Option, None, List, length, Result, IsTrue, IsErr, IfOk, OnOk, OnErr}
use Rattle.pp_terms.specs.disk.Disk.{History, DiskState, IsRead, pends, after_write, settled}
use Rattle.pp_terms.specs.disk.Calls.{history_of, attached}
use Rattle.pp_outside.specs.Faults.{counted}
use Rattle.pp_outside.specs.Orders as orders
use Rattle.pp_outside.specs.Orders.{is_disk_call, is_due, after_one}
use Rattle.pp_outside.specs.declared.call.Call.{Call}
use Rattle.pp_outside.specs.declared.call.Call.TheVariants.{Attach, Len, Read, Write, Sync}
use Rattle.pp_outside.specs.declared.memory_disk.MemoryDisk.{MemoryDisk}

abbrev pub is_read : Call → Bool
is_read Read = true
is_read _ = false

-- The disk is honest and tells its contents, which are those of all its calls.
abbrev pub state_of : MemoryDisk → DiskState
state_of disk = record {
  tells = true;
  honest = true;
  history = history_of disk.log;
  faults = disk.faults;
  hard = disk.hard;
}

-- of the order of a call, if one stands, how many calls of its kind pass before the one that is refused
abbrev pub order_of : MemoryDisk → Call → Option ℕ
order_of disk call = if is_disk_call call then orders.order_of disk.orders call else None

-- the next call of this kind is to be refused
abbrev pub is_ordered : MemoryDisk → Call → Bool
is_ordered disk call = is_due (order_of disk call)

-- a call found no memory
abbrev pub is_short : MemoryDisk → Bool
is_short disk = disk.short

-- its range is pending with its bytes, and reads stay
abbrev pub after_refused_write : History → ℕ → List ℕ → History
after_refused_write h place bytes = record h { epoch = pends h.epoch place bytes }

-- One call fewer passes before the order of this call, or it is used up; the others stay. Each refusal is counted, by
-- one count only where it is a read's.
pub record Spends {T E : Type 0} (old : MemoryDisk) (call : Call) (result : Result T E) (new : MemoryDisk) : Type 0 where
  pub spent : order_of new call ≡ after_one (order_of old call)
  pub others : (other : Call) → other ≢ call → order_of new other ≡ order_of old other
  pub faults : (state_of new).faults ≡ counted (state_of old).faults result
  pub hard : (state_of new).hard ≡ (if is_read call then (state_of old).hard else counted (state_of old).hard result)

-- A call is refused on order, and never else.
pub record FailsOnOrder {T E : Type 0} (old : MemoryDisk) (call : Call) (result : Result T E) (new : MemoryDisk) : Type 0 where
  pub exact : IsErr result ↔ IsTrue (is_ordered old call)
  pub short : is_short new ≡ is_short old
  pub spends : Spends old call result new

-- memory ran out, and what is on the disk stays
abbrev pub RunsShort : MemoryDisk → MemoryDisk → Type 0
RunsShort old new = ((state_of new).history ≡ (state_of old).history) × IsTrue (is_short new)

-- A call is refused on order, and else only where memory ran out.
pub record MayRunShort {T E : Type 0} (old : MemoryDisk) (call : Call) (result : Result T E) (new : MemoryDisk) : Type 0 where
  pub ok : OnOk result (is_short new ≡ is_short old)
  pub cause : IsErr result → IsTrue (is_ordered old call) ⊎ RunsShort old new
  pub short : IsTrue (is_short old) → IsTrue (is_short new)
  pub spends : Spends old call result new

-- Of an attachment that was refused above it is noted, and nothing else is changed.
pub record NotesAttachment (old new : MemoryDisk) : Type 0 where
  pub state : state_of new ≡ record (state_of old) { history = attached (state_of old).history (state_of old).history }
  pub orders : (call : Call) → order_of new call ≡ order_of old call
  pub short : is_short new ≡ is_short old

-- What each call does, exactly.
pub record Attaches {E : Type 0} (old : MemoryDisk) (result : Result (Unit {0}) E) (new : MemoryDisk) : Type 0 where
  pub history : (state_of new).history ≡ attached (state_of old).history (state_of old).history
  pub fails : FailsOnOrder old Attach result new

pub record Measures {E : Type 0} (old : MemoryDisk) (result : Result ℕ E) (new : MemoryDisk) : Type 0 where
  pub history : (state_of new).history ≡ (state_of old).history
  pub length : IfOk result (λ n. n ≡ length (state_of old).history.reads)
  pub fails : FailsOnOrder old Len result new

pub record Reads {E : Type 0} (old : MemoryDisk) (place : ℕ) (before : List ℕ) (result : Result (Unit {0}) E) (into : List ℕ)
    (new : MemoryDisk) : Type 0 where
  pub history : (state_of new).history ≡ (state_of old).history
  pub filled : OnOk result (IsRead (state_of old).history.reads place into)
  pub refused : OnErr result (into ≡ before)
  pub fails : FailsOnOrder old Read result new

-- On order the write is pending and not done, so that a crash may do it.
pub record Writes {E : Type 0} (old : MemoryDisk) (place : ℕ) (bytes : List ℕ) (result : Result (Unit {0}) E)
    (new : MemoryDisk) : Type 0 where
  pub done : OnOk result ((state_of new).history ≡ after_write (state_of old).history place bytes)
  pub ordered : IsTrue (is_ordered old Write) → IsErr result
      × ((((state_of new).history ≡ after_refused_write (state_of old).history place bytes) × (is_short new ≡ is_short old))
      ⊎ RunsShort old new)
  pub short : MayRunShort old Write result new

pub record Syncs {E : Type 0} (old : MemoryDisk) (result : Result (Unit {0}) E) (new : MemoryDisk) : Type 0 where
  pub done : OnOk result ((state_of new).history ≡ settled (state_of old).history (state_of old).history.reads)
  pub refused : OnErr result ((state_of new).history ≡ (state_of old).history)
  pub ordered : IsTrue (is_ordered old Sync) → IsErr result × (is_short new ≡ is_short old)
  pub short : MayRunShort old Sync result new
