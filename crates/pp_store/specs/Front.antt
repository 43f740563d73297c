-- What was written is synced, and then bytes at the front of the file are written and synced.
use Rattle.std.specs.Prelude.{◌≡◌, ℕ, ◌≤◌, List, Result, OnOk}
use Rattle.pp_terms.specs.Count.{HasCause}
use Rattle.pp_terms.specs.disk.Disk.{DiskState, History, IsKnown, IsRefusedWrite, moment_of, after_write}
use Rattle.pp_scan.specs.Look.{synced}
use Rattle.pp_store.specs.Keep.{kept}

-- What a disk may be left as: the first sync was refused, or the write of the bytes, or the sync after that, or all was done.
pub data Leaves (bytes : List ℕ) (old : History) : History → Type 0 where
  unsynced : (new : History) → new ≡ old → Leaves bytes old new
  front_refused : (new : History) → IsRefusedWrite (synced old) 0 bytes new → Leaves bytes old new
  front_unsynced : (new : History) → new ≡ after_write (synced old) 0 bytes → Leaves bytes old new
  front_kept : (new : History) → new ≡ kept (synced old) 0 bytes → Leaves bytes old new

pub record DoesFront {E : Type 0} (bytes : List ℕ) (old : DiskState) (result : Result (Unit {0}) E) (new : DiskState) : Type 0 where
  pub tells : new.tells ≡ old.tells
  pub honest : new.honest ≡ old.honest
  pub later : moment_of old.history ≤ moment_of new.history
  pub done : IsKnown old → OnOk result (new.history ≡ kept (synced old.history) 0 bytes)
  pub leaves : IsKnown old → Leaves bytes old.history new.history
  pub cause : HasCause old.faults new.faults result
  pub hard_cause : HasCause old.hard new.hard result
