-- A session of a peer that goes on, over a disk on which what is announced lasts.
use Rattle.std.specs.Prelude.{◌≡◌, ℕ, ◌≤◌, true, Option, Some, None, List, [], ◌∷◌, length}
use Rattle.pp_terms.specs.disk.Calls.{Calls, history_of}
use Rattle.pp_terms.specs.disk.Disk.{IsImage, moment_of}
use Rattle.pp_terms.specs.format.Descriptor.{Descriptor}
use Rattle.pp_outside.specs.declared.memory_disk.MemoryDisk.{MemoryDisk}
use Rattle.pp_store.specs.Store.{is_committed}
use Rattle.pp_holding.specs.Holding.{AreTied}
use Rattle.pp_peer.specs.Standing.{Beginning}
use Rattle.pp_core.specs.Keeping.{IsKeeping}
use Rattle.pp_core.specs.Opening.{HasBegun}
use Rattle.pp_turns.specs.Promising.{Ended, HasTurned}
use Rattle.pp_turns.specs.Turning.{Post}
use Rattle.pp_sessions.specs.Sessions.{IsUnused, beginning_of}
use Rattle.pp_world.specs.Session.{Session, last_mark}
use Rattle.pp_world.specs.World.{reads_at}
use Rattle.pp_stage.specs.Turned.{post_of}
use Rattle.pp_stage.specs.declared.turning.Running.{Running}
use Rattle.pp_actor.specs.Keeping.{AllKeep, Part}
use Rattle.pp_actor.specs.Lasting.{AllLast, AreSettled, HasStood, IsLasting, IsSoundNow, KeepsOn, disk_before}

-- How a session began: its opening lost nothing. It has committed what stood in every image, and keeps its disk from then on.
pub record HasOpenedOver (d : Descriptor) (part : Part) (disk : Calls) (s : Session) (b : Beginning) (first : Post) : Type 0 where
  pub random : List ℕ
  pub begun : HasBegun d random part.asks part.dialled first.peer
  pub few : length part.dialled ≤ 16
  pub is : b ≡ beginning_of first
  pub keeps_on : KeepsOn d (history_of (disk_before disk s)) first.disk.history
  pub reads : first.disk.history.reads ≡ reads_at disk s.opened
  pub whole : IsImage first.disk.history.epoch first.disk.history.reads
  pub swarm : first.peer.parts.holding.store.descriptor ≡ d
  pub past : b.since ≤ moment_of first.disk.history
  pub taken : (i : ℕ) → HasStood d (history_of (disk_before disk s)) (moment_of (history_of (disk_before disk s))) i
      → is_committed first.peer.parts.holding.store i ≡ true
  pub kept : IsKeeping b.since first.peer first.disk []
  pub unused : IsUnused first.link
  -- no more was refused before
  pub faults : s.began.faults ≤ first.disk.faults
  pub hard : s.began.hard ≤ first.disk.hard

-- The newest mark of the session is of the disk as it is.
pub record IsMarked (disk : Calls) (s : Session) (now : Post) : Type 0 where
  pub calls : (last_mark s).calls ≡ length disk.done
  pub faults : (last_mark s).faults ≡ now.disk.faults
  pub hard : (last_mark s).hard ≡ now.disk.hard

-- Every image was sound as it began, and all earlier sessions lasted until then, and kept the promise of a run. It has taken its
-- turns since, and its book is the store's.
pub record IsGoing (d : Descriptor) (part : Part) (disk : Calls) (s : Session) (earlier : List Session) (now : Post) : Type 0 where
  pub began : s.began.calls ≤ length disk.done
  pub opened : s.opened.calls ≤ length disk.done
  pub sound : IsSoundNow d (history_of (disk_before disk s))
  pub all : AllLast d (disk_before disk s) earlier
  pub keep : AllKeep d part (disk_before disk s) earlier
  pub settled : AreSettled d earlier
  pub tied : AreTied now.peer.parts.holding
  pub marked : IsMarked disk s now
  pub b : Beginning
  pub first : Post
  pub opening : HasOpenedOver d part disk s b first
  pub turned : HasTurned Ended b (length s.turns) first now

-- The newest of these sessions goes on so.
abbrev pub IsGoingIn : Descriptor → Part → Calls → List Session → Post → Type 0
IsGoingIn d part disk [] now = ⊥
IsGoingIn d part disk (s ∷ earlier) now = IsGoing d part disk s earlier now

-- What is so of the sessions of a peer that may run, and of its disk.
abbrev pub LastsNow : Descriptor → Part → Calls → List Session → MemoryDisk → Option Running → Type 0
LastsNow d part calls sessions disk None = IsLasting d part calls sessions
LastsNow d part calls sessions disk (Some r) = IsGoingIn d part calls sessions (post_of r disk)
