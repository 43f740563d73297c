-- Under which premises a run promises completeness: nothing is claimed of a disk that lies or that refused to write, and what
-- a device refused can be missing.
use Rattle.std.specs.Prelude.{ℕ, ◌+◌, ◌-◌, ◌^◌, ◌<◌}
use Rattle.pp_terms.specs.Count.{HasRisen}
use Rattle.pp_terms.specs.command.Stream.{SinkState}
use Rattle.pp_terms.specs.disk.Disk.{DiskState, IsKnown}
use Rattle.pp_terms.specs.disk.Sound.{BeganSound}
use Rattle.pp_terms.specs.format.Descriptor.{Descriptor}
use Rattle.pp_terms.specs.format.Traffic.{LinkState}

-- the devices of a run at one time
pub record Devices : Type 0 where
  pub disk : DiskState
  pub link : LinkState
  pub sink : SinkState

-- a count didn't rise
abbrev pub IsCalm : ℕ → ℕ → Type 0
IsCalm before now = HasRisen before now → ⊥

-- The disk is honest and tells, and refused nothing but readings.
pub record IsWilling (old new : DiskState) : Type 0 where
  pub known : IsKnown old
  pub hard : IsCalm old.hard new.hard

-- Besides, every image was sound when the store was attached, so that its open gates can be believed.
pub record IsSteady (d : Descriptor) (old new : DiskState) : Type 0 where
  pub willing : IsWilling old new
  pub began : BeganSound d new.history

-- Neither count stands at the greatest number, so both say how far they rose.
pub record CountsTell (new : Devices) : Type 0 where
  pub disk : new.disk.faults < 2 ^ 64 - 1
  pub link : new.link.faults < 2 ^ 64 - 1

-- how often the disk and the link refused something
abbrev pub refusals : (old new : Devices) → ℕ
refusals old new = (new.disk.faults - old.disk.faults) + (new.link.faults - old.link.faults)
