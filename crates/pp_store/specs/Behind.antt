-- Writes behind the header of a store, before a sync.
use Rattle.std.specs.Prelude.{◌≡◌, ℕ, ◌+◌, ◌<◌, ◌≤◌, List, length, slice_index, Result, OnOk}
use Rattle.pp_terms.specs.Count.{HasCause}
use Rattle.pp_terms.specs.disk.Store.{Has}
use Rattle.pp_terms.specs.disk.Disk.{DiskState, History, IsKnown, Throughout, moment_of, written}
use Rattle.pp_store.specs.Keep.{SameAttachment}

-- Nothing but writes behind the header was done, and refused ones among them: what stood in front of it stands on.
pub record IsBehind (old new : History) : Type 0 where
  pub past : new.past ≡ old.past
  pub attachment : SameAttachment old new
  pub header : (k : ℕ) → k < 64 → slice_index new.reads k ≡ slice_index old.reads k
  pub front : (moment at : ℕ) (bytes : List ℕ) → at + length bytes ≤ 64 → Throughout old moment (Has at bytes)
      → Throughout new moment (Has at bytes)

pub record KeepsBehind (old new : DiskState) : Type 0 where
  pub tells : new.tells ≡ old.tells
  pub honest : new.honest ≡ old.honest
  pub later : moment_of old.history ≤ moment_of new.history
  pub behind : IsKnown old → IsBehind old.history new.history
  pub faults : old.faults ≤ new.faults
  pub hard : old.hard ≤ new.hard

pub record DoesBehind {T E : Type 0} (old : DiskState) (result : Result T E) (new : DiskState) : Type 0 where
  pub keeps : KeepsBehind old new
  pub cause : HasCause old.faults new.faults result
  pub hard_cause : HasCause old.hard new.hard result

-- One piece was written there, or its write was refused.
pub record DoesPut {T E : Type 0} (old : DiskState) (place : ℕ) (bytes : List ℕ) (result : Result T E) (new : DiskState) : Type 0 where
  pub does : DoesBehind old result new
  pub put : IsKnown old → OnOk result (new.history.reads ≡ written old.history.reads place bytes)
