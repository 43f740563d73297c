-- What a write and then a sync do to a disk.
use Rattle.std.specs.Prelude.{◌≡◌, ◌⊎◌, ℕ, ◌≤◌, List, Result, OnOk, OnErr}
use Rattle.pp_terms.specs.Count.{HasCause}
use Rattle.pp_terms.specs.disk.Disk.{DiskState, History, IsKnown, IsRefusedWrite, moment_of, written, after_write, settled}

-- These bytes were written at this place, and all that was written is on the disk.
abbrev pub kept : History → ℕ → List ℕ → History
kept h place bytes = settled (after_write h place bytes) (written h.reads place bytes)

pub record DoesKeep {E : Type 0} (old : DiskState) (place : ℕ) (bytes : List ℕ) (result : Result (Unit {0}) E)
    (new : DiskState) : Type 0 where
  pub tells : new.tells ≡ old.tells
  pub honest : new.honest ≡ old.honest
  pub later : moment_of old.history ≤ moment_of new.history
  pub done : IsKnown old → OnOk result (new.history ≡ kept old.history place bytes)
  pub refused : IsKnown old → OnErr result
      (IsRefusedWrite old.history place bytes new.history ⊎ (new.history ≡ after_write old.history place bytes))
  pub cause : HasCause old.faults new.faults result
  pub hard_cause : HasCause old.hard new.hard result

-- the last attachment is the same, and there was no other
pub record SameAttachment (old new : History) : Type 0 where
  pub start : new.start ≡ old.start
  pub first : new.first ≡ old.first
  pub found : new.found ≡ old.found
  pub names : new.names ≡ old.names

-- What every import keeps, whatever it answers.
pub record KeepsDisk (old new : DiskState) : Type 0 where
  pub tells : new.tells ≡ old.tells
  pub honest : new.honest ≡ old.honest
  pub later : moment_of old.history ≤ moment_of new.history
  pub attachment : IsKnown old → SameAttachment old.history new.history
  pub faults : old.faults ≤ new.faults
  pub hard : old.hard ≤ new.hard
