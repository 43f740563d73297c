-- A session of a peer, from the opening of its store to the end of its turns: how it began, and as what its disk is seen at the end by
-- one to whom it was attached when the opening began.
use Rattle.std.specs.Prelude.{◌≡◌, ℕ, ◌≤◌, true, Option, Some, None, List, [], length, map}
use Rattle.pp_terms.specs.command.Stream.{SinkState}
use Rattle.pp_terms.specs.disk.Disk.{DiskState, History, IsKnown, moment_of}
use Rattle.pp_terms.specs.disk.Sound.{BeganSound}
use Rattle.pp_terms.specs.format.Descriptor.{Descriptor}
use Rattle.pp_terms.specs.format.Traffic.{LinkState, Record}
use Rattle.pp_traffic.specs.Keeping.{StoodThroughout, StandsSince}
use Rattle.pp_promises.specs.Premises.{Devices}
use Rattle.pp_promises.specs.Promises.{Task, Seeding, Fetching, Course}
use Rattle.pp_outside.specs.Outside.{address_of}
use Rattle.pp_outside.specs.declared.link.Address.{Address}
use Rattle.pp_avail.specs.declared.ranker.Rank.{Rank}
use Rattle.pp_tree.specs.Book.{entry, IsBookOf}
use Rattle.pp_store.specs.Store.{is_committed}
use Rattle.pp_peer.specs.Standing.{Beginning}
use Rattle.pp_core.specs.Keeping.{IsKeeping}
use Rattle.pp_core.specs.Opening.{HasBegun, beginning}
use Rattle.pp_turns.specs.Promising.{Ended, HasTurned}
use Rattle.pp_turns.specs.Turning.{Post, Stops}

-- ---- a session

-- What a peer is started with: the bytes from which its numbers of channels are drawn, in which order it asks for chunks, if it asks for
-- any, and whom it dials.
pub record Start : Type 0 where
  pub random : List ℕ
  pub asks : Option Rank
  pub dial : List Address

-- With what the peer was started; its disk when the opening began; the peer with its devices once it was opened, and at the end; how many
-- turns it took; and as what its disk is seen at the end.
pub record Session : Type 0 where
  pub start : Start
  pub old : DiskState
  pub first : Post
  pub last : Post
  pub taken : ℕ
  pub seen : History

-- ---- how it began

-- what was settled then
abbrev pub beginning_of : Post → Beginning
beginning_of p = beginning p.peer (moment_of p.disk.history)

-- Nothing came over the link or was sent, and no turn waited.
pub record IsUnused (link : LinkState) : Type 0 where
  pub traffic : link.traffic ≡ Some []
  pub nexts : link.nexts ≡ 0

-- A peer of the swarm has begun with this, has at most 16 addresses to dial, and its link is unused. Its disk is honest and tells, and
-- had refused no more before the opening.
pub record HasOpened (d : Descriptor) (start : Start) (old : DiskState) (first : Post) : Type 0 where
  pub begun : HasBegun d start.random start.asks start.dial first.peer
  pub few : length start.dial ≤ 16
  pub unused : IsUnused first.link
  pub known : IsKnown first.disk
  pub faults : old.faults ≤ first.disk.faults
  pub hard : old.hard ≤ first.disk.hard

-- ---- as what its disk is seen

-- A disk is seen with an attachment of its own, and else as it is. What stood in every image at that attachment was found by the
-- opening, and stood in each image that a crash could have left until the peer had begun; and where every image was sound then, the
-- peer keeps its disk since.
pub record IsSeenAs (d : Descriptor) (first last : Post) (seen : History) : Type 0 where
  pub reads : seen.reads ≡ last.disk.history.reads
  pub past : seen.past ≡ last.disk.history.past
  pub epoch : seen.epoch ≡ last.disk.history.epoch
  pub started : seen.start ≤ moment_of first.disk.history
  pub found : (i : ℕ) → StoodThroughout d seen i → is_committed first.peer.parts.holding.store i ≡ true
  pub stood : (i : ℕ) → StoodThroughout d seen i → StandsSince d first.disk.history seen.start i
  pub kept : BeganSound d seen → IsKeeping (moment_of first.disk.history) first.peer first.disk []

-- ---- the whole

-- The peer's book is rooted, as that of every peer is.
pub record IsSession (d : Descriptor) (s : Session) : Type 0 where
  pub opened : HasOpened d s.start s.old s.first
  pub seen_as : IsSeenAs d s.first s.last s.seen
  pub book : IsBookOf s.last.peer.parts.holding.store.descriptor s.last.peer.parts.holding.book

-- All its turns ended; or its disk refused a write or a sync in the last one.
abbrev pub HasEnded : Session → Type 0
HasEnded s = HasTurned Ended (beginning_of s.first) s.taken s.first s.last

abbrev pub HasStopped : Session → Type 0
HasStopped s = Stops (beginning_of s.first) s.taken s.first s.last

-- ---- as a run

-- a link that nothing has come over, and what counts of one at the end
abbrev pub new_link : LinkState
new_link = record { traffic = Some []; faults = 0; nexts = 0; bound = None }

abbrev pub seen_link : LinkState → LinkState
seen_link link = record { traffic = link.traffic; faults = link.faults; nexts = link.nexts; bound = None }

-- a disk that is honest and tells, and has seen this
abbrev pub seen_disk : DiskState → History → DiskState
seen_disk disk seen = record { tells = true; honest = true; history = seen; faults = disk.faults; hard = disk.hard }

-- the devices before and after, with any sink
abbrev pub devices_before : Session → SinkState → Devices
devices_before s sink = record { disk = s.old; link = new_link; sink = sink }

abbrev pub devices_after : Session → SinkState → Devices
devices_after s sink = record { disk = seen_disk s.last.disk s.seen; link = seen_link s.last.link; sink = sink }

-- what was asked of it
abbrev pub task_of : Option Rank → List Address → (turns : ℕ) → Task
task_of None dial turns = Seeding turns
task_of (Some order) dial turns = Fetching turns (map address_of dial)

abbrev pub task_in : Session → Task
task_in s = task_of s.start.asks s.start.dial s.taken

-- what it came to, where its link gained these records
abbrev pub course_of : Session → List Record → Course
course_of s added = record { book = entry s.last.peer.parts.holding.book; taken = s.taken; added = added }
