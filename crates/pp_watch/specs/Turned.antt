-- A turn over devices that were watched, and the peer of a world after it.
use Rattle.std.specs.Prelude.{◌≡◌, Bool, true, false, List, [], ◌∷◌}
use Rattle.std.specs.List.{AllByRecursion}
use Rattle.pp_terms.specs.Count.{HasRisen}
use Rattle.pp_terms.specs.disk.Calls.{Did}
use Rattle.pp_terms.specs.disk.Disk.{moment_of}
use Rattle.pp_terms.specs.format.Traffic.{Record, GainsRecords}
use Rattle.pp_terms.specs.tree.Book.{LookUp}
use Rattle.pp_outside.specs.MemoryDisk as disks
use Rattle.pp_outside.specs.MemoryLink as links
use Rattle.pp_outside.specs.declared.call.Call.TheVariants.{Send}
use Rattle.pp_outside.specs.declared.memory_disk.MemoryDisk.{MemoryDisk}
use Rattle.pp_outside.specs.declared.memory_link.MemoryLink.{MemoryLink}
use Rattle.pp_world.specs.Session.{Session}
use Rattle.pp_world.specs.Turn.{WentAt, queue_after_wait, with_turn}
use Rattle.pp_world.specs.World.{PeerState}
use Rattle.pp_watch.specs.Done as doings
use Rattle.pp_watch.specs.Sent as sendings
use Rattle.pp_watch.specs.Shown.{with_calls}

-- ---- what happened

-- a disk and a link
pub record Devices : Type 0 where
  pub disk : MemoryDisk
  pub link : MemoryLink

-- The link gained what was sent, at the disk's moment.
pub record GainsSent (old new : Devices) (sent : List Record) : Type 0 where
  pub gained : GainsRecords (links.state_of old.link).traffic sent (links.state_of new.link).traffic
  pub nexts : (links.state_of new.link).nexts ≡ (links.state_of old.link).nexts
  pub went : AllByRecursion (WentAt (moment_of (disks.state_of new.disk).history)) sent

-- A peer that doesn't go on sent nothing, and its disk refused a write or a sync.
abbrev pub StopsForCause : (goes_on : Bool) → (old new : Devices) → List Record → Type 0
StopsForCause true old new sent = Unit {0}
StopsForCause false old new sent = (sent ≡ []) × HasRisen (disks.state_of old.disk).hard (disks.state_of new.disk).hard

-- What a peer did with its devices behind a wait, if they found memory: which goes on or not.
pub record HasActed (goes_on : Bool) (old new : Devices) : Type 0 where
  pub done : doings.IsSince (doings.as_before old.disk) new.disk
  pub over : sendings.IsSince (sendings.as_before old.link) new.link
  pub sent : List Record
  pub gains : GainsSent old new sent
  pub stops : StopsForCause goes_on old new sent

-- ---- the peer after it

-- all but the sessions
abbrev pub with_devices : (goes_on : Bool) → List Did → Devices → PeerState → PeerState
with_devices goes_on calls to x = record (with_calls calls to.disk x) {
  orders = record (with_calls calls to.disk x).orders { send = links.is_ordered to.link Send; receive = false };
  is_running = goes_on;
  queue = queue_after_wait x;
}

-- with its newest session, whose link gained these records
abbrev pub after_turn : (goes_on : Bool) → List Did → Devices → List Record → LookUp → Session → List Session → PeerState → PeerState
after_turn goes_on calls to added book s earlier x =
    let y = with_devices goes_on calls to x in record y { sessions = with_turn s added book x y ∷ earlier }
