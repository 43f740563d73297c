-- What was done to a disk in memory since some time before.
use Rattle.std.specs.Prelude.{◌≡◌, ◌⊎◌, ℕ, ◌+◌, Option, None, List, [], IsTrue}
use Rattle.std.specs.List.{AllByRecursion}
use Rattle.pp_terms.specs.disk.Disk.{History, fresh}
use Rattle.pp_terms.specs.disk.Calls.{Did, attached, replay}
use Rattle.pp_outside.specs.MemoryDisk.{state_of, order_of, is_short}
use Rattle.pp_outside.specs.declared.call.Call.{Call}
use Rattle.pp_outside.specs.declared.call.Call.TheVariants.{Attach, Len, Read, Write, Sync}
use Rattle.pp_outside.specs.declared.memory_disk.MemoryDisk.{MemoryDisk}
use Rattle.pp_world.specs.DiskCalls.{IsCall, refused_writes}
use Rattle.pp_watch.specs.Used.{used, stands, IsLater, gained}

-- a disk in memory at that time: its history, how many of its calls were refused, all and those but readings, and the
-- orders of its calls
pub record DiskBefore : Type 0 where
  pub history : History
  pub faults : ℕ
  pub hard : ℕ
  pub ordered : Call → Option ℕ

abbrev pub as_before : MemoryDisk → DiskBefore
as_before disk = record {
  history = (state_of disk).history;
  faults = (state_of disk).faults;
  hard = (state_of disk).hard;
  ordered = order_of disk;
}

abbrev pub blank_disk : DiskBefore
blank_disk = record { history = fresh []; faults = 0; hard = 0; ordered = λ call. None }

-- how often an order of that call was used up
abbrev pub used_of : Call → DiskBefore → MemoryDisk → ℕ
used_of call before disk = used (stands (before.ordered call)) (stands (order_of disk call))

-- how many calls were refused on order, but readings
abbrev pub hard_of : DiskBefore → MemoryDisk → ℕ
hard_of before disk = used_of Attach before disk + used_of Len before disk + used_of Write before disk + used_of Sync before disk

-- The disk gained these calls, none of which is a crash, wherever it was attached. As many were refused as orders were used up, and no
-- order is new.
pub record HasDone (before : DiskBefore) (disk : MemoryDisk) : Type 0 where
  pub calls : List Did
  pub made : attached before.history (state_of disk).history ≡ attached before.history (replay before.history calls)
  pub are_calls : AllByRecursion IsCall calls
  pub ordered : (call : Call) → IsLater (before.ordered call) (order_of disk call)
  pub writes : refused_writes calls ≡ used_of Write before disk
  pub faults : (state_of disk).faults ≡ gained before.faults (used_of Read before disk + hard_of before disk)
  pub hard : (state_of disk).hard ≡ gained before.hard (hard_of before disk)

-- This is so unless some call found no memory.
abbrev pub IsSince : DiskBefore → MemoryDisk → Type 0
IsSince before disk = IsTrue (is_short disk) ⊎ HasDone before disk
