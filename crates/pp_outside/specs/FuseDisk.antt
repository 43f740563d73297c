-- A disk that passes so many calls to the one behind it, and refuses each call from then on.
use Rattle.std.specs.Prelude.{◌≡◌, ℕ, ◌-◌, ◌<◌, true, if◌then◌else◌, Result, IsErr}
use Rattle.pp_terms.specs.disk.Disk.{DiskState}
use Rattle.pp_outside.specs.Faults.{counted}
use Rattle.pp_outside.specs.MemoryDisk as memory_disk
use Rattle.pp_outside.specs.MemoryDisk.{is_read}
use Rattle.pp_outside.specs.declared.call.Call.{Call}
use Rattle.pp_outside.specs.declared.fuse_disk.FuseDisk.{FuseDisk}
use Rattle.pp_outside.specs.declared.memory_disk.MemoryDisk.{MemoryDisk}

-- the disk behind it
abbrev pub inner_of : FuseDisk → MemoryDisk
inner_of disk = disk.inner

-- how many calls are still to pass
abbrev pub calls_of : FuseDisk → ℕ
calls_of disk = disk.calls

-- The disk is honest and tells: its history is that of the disk behind it, and its counts have its own refusals too.
abbrev pub state_of : FuseDisk → DiskState
state_of disk = record {
  tells = true;
  honest = true;
  history = (memory_disk.state_of (inner_of disk)).history;
  faults = disk.faults;
  hard = disk.hard;
}

-- One call fewer is left, where one was, and where none was the call is refused. Each refusal is counted, whether its own
-- or that of the disk behind it, by one count only where it is a read's.
pub record Burns {T E : Type 0} (old : FuseDisk) (call : Call) (result : Result T E) (new : FuseDisk) : Type 0 where
  pub calls : calls_of new ≡ calls_of old - 1
  pub spent : calls_of old ≡ 0 → IsErr result
  pub faults : (state_of new).faults ≡ counted (state_of old).faults result
  pub hard : (state_of new).hard ≡ (if is_read call then (state_of old).hard else counted (state_of old).hard result)

-- While calls are left the first holds, and from then on the second.
pub record Passes (disk : FuseDisk) (first later : Type 0) : Type 0 where
  pub passed : 0 < calls_of disk → first
  pub refused : calls_of disk ≡ 0 → later
