-- An actor, as a peer of a world.
use Rattle.std.specs.Prelude.{◌≡◌, ℕ, ◌+◌, Bool, true, false, Option, Some, None, List, [], ◌∷◌, ◌++◌, length, reverse, IfSome}
use Rattle.pp_terms.specs.disk.Calls.{attached, history_of}
use Rattle.pp_terms.specs.disk.Disk.{fresh}
use Rattle.pp_terms.specs.format.Descriptor.{Descriptor}
use Rattle.pp_terms.specs.format.Traffic.{Record}
use Rattle.pp_tree.specs.Book.{entry}
use Rattle.pp_outside.specs.MemoryDisk as disks
use Rattle.pp_outside.specs.MemoryLink as links
use Rattle.pp_outside.specs.declared.memory_disk.MemoryDisk.{MemoryDisk}
use Rattle.pp_outside.specs.declared.memory_link.MemoryLink.{MemoryLink}
use Rattle.pp_watch.specs.Shown.{ShowsDisk}
use Rattle.pp_watch.specs.Waiting.{record_at}
use Rattle.pp_world.specs.Change.{MayOpen, MayTakeTurn}
use Rattle.pp_world.specs.Session.{Session}
use Rattle.pp_world.specs.Turn.{event_of}
use Rattle.pp_world.specs.World.{PeerState}
use Rattle.pp_actor.specs.declared.life.Life.{Life}
use Rattle.pp_actor.specs.declared.life.Remains.{Remains}
use Rattle.pp_stage.specs.declared.turning.Cue.{Cue}
use Rattle.pp_stage.specs.declared.turning.Running.{Running}
use Rattle.pp_stage.specs.declared.opening.Start.{Start}
use Rattle.pp_stage.specs.Opening.{Begins}
use Rattle.pp_stage.specs.Shown.{IsReady, ShowsRunning}
use Rattle.pp_replay.specs.declared.types.Role.{Role}
use Rattle.pp_actor.specs.Going.{LastsNow}
use Rattle.pp_actor.specs.Keeping.{Part}
use Rattle.pp_actor.specs.Starting.{IsSetFor, life_after, random_of}

-- What an actor is: its number, what it is opened with, its disk, the lives that are over, the oldest first, and what it is while it runs.
pub record ActorState : Type 0 where
  pub number : ℕ
  pub start : Start
  pub disk : MemoryDisk
  pub lives : List Life
  pub running : Option Running

-- the link of a peer that runs, and whether its next wait is ordered to fail
abbrev pub link_in : Option Running → Option MemoryLink
link_in None = None
link_in (Some r) = Some r.link

abbrev pub is_deaf : Option Running → Bool
is_deaf None = false
is_deaf (Some r) = r.is_deaf

-- A peer that runs may take a turn.
abbrev pub IsAwake : Option Running → Type 0
IsAwake None = Unit {0}
IsAwake (Some r) = IsReady r

-- ---- what it is told

abbrev pub part_of : ActorState → Part
part_of a = record { number = a.number; asks = a.start.asks; dialled = a.start.dialled.items }

-- An actor of that number and role.
pub record HasPart (number : ℕ) (role : Role) (a : ActorState) : Type 0 where
  pub is : a.number ≡ number
  pub set : IsSetFor role a.start

-- what it is opened with for its next life
abbrev pub next_start : ActorState → Start
next_start a = record a.start { random = random_of a.number (life_after (length a.lives)) }

-- ---- what a peer of a world is

-- The life is a session that is over.
pub record ShowsLife (life : Life) (s : Session) : Type 0 where
  pub traffic : (links.state_of life.link).traffic ≡ Some s.traffic
  pub refused : (links.state_of life.link).faults ≡ s.refused
  pub turns : (links.state_of life.link).nexts ≡ length s.turns
  pub book : entry life.book ≡ s.book

-- The lives are these sessions, both with the newest first.
abbrev pub ShowLives : List Life → List Session → Type 0
ShowLives [] [] = Unit {0}
ShowLives [] (s ∷ ss) = ⊥
ShowLives (life ∷ lives) [] = ⊥
ShowLives (life ∷ lives) (s ∷ ss) = ShowsLife life s × ShowLives lives ss

-- A peer that runs is in its newest session.
pub record IsPlaying (most : ℕ) (x : PeerState) (r : Running) (lives : List Life) : Type 0 where
  pub runs : x.is_running ≡ true
  pub session : Session
  pub earlier : List Session
  pub sessions : x.sessions ≡ session ∷ earlier
  pub shows : ShowsRunning most x r session
  pub over : ShowLives lives earlier

pub record IsIdle (x : PeerState) (lives : List Life) : Type 0 where
  pub stands : x.is_running ≡ false
  pub over : ShowLives lives x.sessions

abbrev pub ShowsNow : ℕ → PeerState → Option Running → List Life → Type 0
ShowsNow most x None lives = IsIdle x lives
ShowsNow most x (Some r) lives = IsPlaying most x r lives

-- The actor is the peer of this swarm, but for its queue. Of the calls of its disk, and of its link, at most so many were refused.
-- What it announced in any session lasts, and each that is over kept the promise of a run.
pub record ShowsActor (d : Descriptor) (most : ℕ) (a : ActorState) (x : PeerState) : Type 0 where
  pub disk : ShowsDisk most a.disk x
  pub now : ShowsNow most x a.running (reverse a.lives)
  pub lasts : LastsNow d (part_of a) x.disk x.sessions a.disk a.running

-- What is left of a peer is its disk, wherever that was attached, and its sessions.
pub record ShowsRemains (r : Remains) (x : PeerState) : Type 0 where
  pub unattached : x.disk.attached_at ≡ 0
  pub history : attached (fresh x.disk.image) (disks.state_of r.disk).history ≡ history_of x.disk
  pub over : ShowLives (reverse r.lives.items) x.sessions

-- ---- what happens to it

-- A peer may have opened its store.
pub record ActorOpens (d : Descriptor) (most : ℕ) (x : PeerState) (a : ActorState) : Type 0 where
  pub after : PeerState
  pub opens : MayOpen d x [] after
  pub shows : ShowsActor d (most + 4) a after

-- A peer that didn't run and now does has begun its next life, over what its disk had.
abbrev pub BeginsBy : Descriptor → (old new : ActorState) → Type 0
BeginsBy d old new =
    old.running ≡ None → IfSome new.running (λ r. Begins d (next_start old) (disks.state_of old.disk) (disks.state_of new.disk) r.peer)

-- What comes in a turn is what a world says.
abbrev pub Hears : Cue → PeerState → Type 0
Hears cue x = x.is_running ≡ true → record_at cue.clock cue.came ≡ event_of cue.clock x.queue

-- The link of an actor that runs has all that the peer's newest session carried.
abbrev pub HasGained : Option Running → List Record → List Session → Type 0
HasGained None added sessions = Unit {0}
HasGained (Some r) added [] = ⊥
HasGained (Some r) added (s ∷ ss) = (links.state_of r.link).traffic ≡ Some (added ++ s.traffic)

-- A peer may have taken a turn.
pub record ActorTurns (d : Descriptor) (clock : ℕ) (most : ℕ) (x : PeerState) (a : ActorState) : Type 0 where
  pub after : PeerState
  pub added : List Record
  pub takes : MayTakeTurn clock x added after
  pub gained : HasGained a.running added x.sessions
  pub shows : ShowsActor d (most + 4) a after
