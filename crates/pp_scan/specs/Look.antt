-- Calls that only read a disk, and a sync before them.
use Rattle.std.specs.Prelude.{◌≡◌, ◌⊎◌, ◌≤◌, Result}
use Rattle.pp_terms.specs.Count.{HasCause}
use Rattle.pp_terms.specs.disk.Disk.{DiskState, History, IsKnown, moment_of, settled}

-- Nothing changed but the counts of faults.
pub record KeepsAll (old new : DiskState) : Type 0 where
  pub tells : new.tells ≡ old.tells
  pub honest : new.honest ≡ old.honest
  pub same : new.history ≡ old.history
  pub faults : old.faults ≤ new.faults
  pub hard : old.hard ≤ new.hard

pub record OnlyReads {T E : Type 0} (old : DiskState) (result : Result T E) (new : DiskState) : Type 0 where
  pub keeps : KeepsAll old new
  pub cause : HasCause old.faults new.faults result

-- what was written is on the disk
abbrev pub synced : History → History
synced h = settled h h.reads

-- At most one sync was done, and nothing else.
abbrev pub SyncsAtMost : History → History → Type 0
SyncsAtMost old new = (new ≡ old) ⊎ (new ≡ synced old)

-- A sync, and then readings: afterwards all is as it was, where the sync was refused, or all that was written is on the disk.
pub record OnlySyncs (old new : DiskState) : Type 0 where
  pub tells : new.tells ≡ old.tells
  pub honest : new.honest ≡ old.honest
  pub later : moment_of old.history ≤ moment_of new.history
  pub either : IsKnown old → SyncsAtMost old.history new.history
  pub faults : old.faults ≤ new.faults
  pub hard : old.hard ≤ new.hard
