-- A turn of a peer that runs, as one of a peer of a world.
use Rattle.std.specs.Prelude.{◌≡◌, ℕ, ◌+◌, ◌^◌, ◌<◌, Bool, true, false, List, ◌∷◌, ◌++◌}
use Rattle.pp_terms.specs.format.Traffic.{Record}
use Rattle.pp_outside.specs.MemoryDisk as disks
use Rattle.pp_outside.specs.MemoryLink as links
use Rattle.pp_outside.specs.declared.memory_disk.MemoryDisk.{MemoryDisk}
use Rattle.pp_peer.specs.Standing.{Beginning}
use Rattle.pp_turns.specs.Promising.{Ended, HasTurned}
use Rattle.pp_turns.specs.Turning.{Post, Stops, post}
use Rattle.pp_watch.specs.Shown.{ShowsDisk}
use Rattle.pp_watch.specs.Turned as watched
use Rattle.pp_watch.specs.Waiting.{record_at}
use Rattle.pp_world.specs.Session.{Session}
use Rattle.pp_world.specs.Turn.{event_of, TakesTurn}
use Rattle.pp_world.specs.World.{PeerState}
use Rattle.pp_stage.specs.declared.acting.Devices.{Devices}
use Rattle.pp_stage.specs.declared.turning.Cue.{Cue}
use Rattle.pp_stage.specs.declared.turning.Running.{Running}
use Rattle.pp_stage.specs.declared.turning.Turned.{Turned}
use Rattle.pp_stage.specs.Shown.{ShowsRunning}

abbrev pub as_devices : Devices → watched.Devices
as_devices devices = record { disk = devices.disk; link = devices.link }

-- The peer of a world after a turn, and what its link gained. At most four more calls were refused, and waited for, than so many.
pub record ShowsTurn (clock : ℕ) (most : ℕ) (x : PeerState) (s : Session) (earlier : List Session) (t : Turned) : Type 0 where
  pub added : List Record
  pub after : PeerState
  pub later : Session
  pub takes : TakesTurn clock x added after
  pub sessions : after.sessions ≡ later ∷ earlier
  pub traffic : later.traffic ≡ added ++ s.traffic
  pub runs : after.is_running ≡ t.goes_on
  pub shows_disk : ShowsDisk (most + 4) t.disk after
  pub shows : ShowsRunning (most + 4) after t.running later

-- This holds of each peer of a world that the devices before show, where what comes is what a world says.
abbrev pub TurnsAs : Cue → MemoryDisk → Running → Turned → Type 0
TurnsAs cue disk running t =
    (most : ℕ) (x : PeerState) (s : Session) (earlier : List Session) → most + 4 < 2 ^ 64 → x.sessions ≡ s ∷ earlier
    → ShowsDisk most disk x → ShowsRunning most x running s → record_at cue.clock cue.came ≡ event_of cue.clock x.queue
    → ShowsTurn cue.clock most x s earlier t

-- ---- what a peer promises of its turns

-- a peer that runs, with its disk
abbrev pub post_of : Running → MemoryDisk → Post
post_of running disk = post running.peer (disks.state_of disk) (links.state_of running.link)

-- As many turns ended; or the last one didn't, since the disk refused something.
abbrev pub EndsOrStops : (goes_on : Bool) → Beginning → ℕ → Post → Post → Type 0
EndsOrStops true b taken first new = HasTurned Ended b taken first new
EndsOrStops false b taken first new = Stops b taken first new

-- Whatever turns went before, there is one more.
pub record KeepsPromises (goes_on : Bool) (old new : Post) : Type 0 where
  pub kept : (b : Beginning) (taken : ℕ) (first : Post) → HasTurned Ended b taken first old → EndsOrStops goes_on b (taken + 1) first new
