-- A disk that lies about one byte: it tells nothing and promises nothing.
use Rattle.std.specs.Prelude.{◌≡◌, ℕ, ◌+◌, ◌-◌, ◌<◌, Bool, false, ◌&&◌, ◌==◌, nat_le, nat_lt, if◌then◌else◌, bit_xor, [], List, length, slice_index, IsTrue}
use Rattle.pp_terms.specs.disk.Disk.{DiskState, IsRead, fresh}
use Rattle.pp_outside.specs.MemoryDisk as memory_disk
use Rattle.pp_outside.specs.declared.memory_disk.MemoryDisk.{MemoryDisk}
use Rattle.pp_outside.specs.declared.lying_disk.LyingDisk.{LyingDisk}

-- the disk behind it
abbrev pub inner_of : LyingDisk → MemoryDisk
inner_of disk = disk.inner

-- where it lies
abbrev pub place_of : LyingDisk → ℕ
place_of disk = disk.place

-- what it changes there, by exclusive or
abbrev pub mask_of : LyingDisk → ℕ
mask_of disk = disk.mask

-- how many readings of that place are still to be true
abbrev pub passes_of : LyingDisk → ℕ
passes_of disk = disk.passed

abbrev pub state_of : LyingDisk → DiskState
state_of disk = record {
  tells = false;
  honest = false;
  history = fresh [];
  faults = (inner_of disk).faults;
  hard = (inner_of disk).hard;
}

-- a range of this size covers the place where it lies
abbrev pub covers : LyingDisk → ℕ → ℕ → Bool
covers disk from size = nat_le from (place_of disk) && nat_lt (place_of disk) (from + size)

-- the byte at this place, falsified where the disk lies
abbrev pub falsified : LyingDisk → ℕ → ℕ → ℕ
falsified disk place byte = if place == place_of disk then bit_xor byte (mask_of disk) else byte

-- What a reading that is not refused gives: what the disk behind it holds, but for the one byte where it lies. It lies
-- in a reading of that place once the true ones are used up.
pub record Shows (disk : LyingDisk) (from : ℕ) (bytes into : List ℕ) : Type 0 where
  pub true_first : IsTrue (nat_lt 0 (passes_of disk)) → IsRead bytes from into
  pub then_false : passes_of disk ≡ 0 → (k : ℕ) → k < length into
      → slice_index into k ≡ falsified disk (from + k) (slice_index bytes (from + k))

-- one true reading less, where it covers the place
abbrev pub passes_after : LyingDisk → ℕ → ℕ → ℕ
passes_after disk from size = if covers disk from size then passes_of disk - 1 else passes_of disk

-- all but the disk behind it and the count of readings stays
pub record LiesOn (old new : LyingDisk) : Type 0 where
  pub place : place_of new ≡ place_of old
  pub mask : mask_of new ≡ mask_of old

abbrev pub reads_of : LyingDisk → List ℕ
reads_of disk = (memory_disk.state_of (inner_of disk)).history.reads
