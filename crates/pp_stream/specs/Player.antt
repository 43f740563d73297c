-- What is meant by a player, and by one with its devices.
use Rattle.std.specs.Prelude.{ℕ, ◌+◌, min}
use Rattle.pp_terms.specs.disk.Disk.{DiskState}
use Rattle.pp_terms.specs.command.Stream.{SinkState}

-- How many chunks the content has, how many of them from the base on are to be asked for, and the base: the first that isn't
-- written.
pub record PlayerState : Type 0 where
  pub chunks : ℕ
  pub window : ℕ
  pub base : ℕ

-- chunks below this number are to be asked for
abbrev pub limit_of : PlayerState → ℕ
limit_of p = min (p.base + p.window) p.chunks

-- A player with the disk that is read and the sink that is written to, at one time.
pub record Feed : Type 0 where
  pub player : PlayerState
  pub disk : DiskState
  pub sink : SinkState

abbrev pub feed : PlayerState → DiskState → SinkState → Feed
feed player disk sink = record { player = player; disk = disk; sink = sink }
