-- A world at one moment: its clock, and its peers, each with its disk, its queue and its sessions.
use Rattle.std.specs.Prelude.{ℕ, Bool, true, List, [], ◌∷◌, length, take}
use Rattle.pp_terms.specs.disk.Calls.{Calls, history_of}
use Rattle.pp_terms.specs.disk.Disk.{History, DiskState, moment_of}
use Rattle.pp_terms.specs.format.Traffic.{Address, V4}
use Rattle.pp_world.specs.Orders.{Orders}
use Rattle.pp_world.specs.Session.{Mark, Session}

-- A datagram that waits for a peer, with the address that it comes from, as is said.
pub record Queued : Type 0 where
  pub sender : Address
  pub bytes : List ℕ

-- The disk with all its calls, the oldest first, and how many of its calls were refused, all and those but readings;
-- the calls that are to fail; the queue, the oldest first; and the sessions, the newest first. A peer that runs is in
-- the newest.
pub record PeerState : Type 0 where
  pub disk : Calls
  pub faults : ℕ
  pub hard : ℕ
  pub orders : Orders
  pub is_running : Bool
  pub queue : List Queued
  pub sessions : List Session

-- The clock in microseconds, and the peers by their numbers, from 0 on.
pub record World : Type 0 where
  pub clock : ℕ
  pub peers : List PeerState

-- the address of peer p: 10.0.0.p:7000
abbrev pub address_of : ℕ → Address
address_of p = V4 (10 ∷ 0 ∷ 0 ∷ p ∷ []) 7000

-- ---- a disk at a mark

-- the disk after its first calls, as one that was attached when it had so many
abbrev pub disk_after : (attached calls : ℕ) → Calls → History
disk_after attached calls disk = history_of (record disk { done = take calls disk.done; attached_at = attached })

-- what reads give at the end of all calls; and at a mark
abbrev pub reads_of : PeerState → List ℕ
reads_of x = (history_of x.disk).reads

abbrev pub reads_at : Calls → Mark → List ℕ
reads_at disk mark = (disk_after 0 mark.calls disk).reads

-- the disk's moment at a mark
abbrev pub moment_at : Calls → Mark → ℕ
moment_at disk mark = moment_of (disk_after 0 mark.calls disk)

-- the disk after all its calls, with the beginning of a session's opening as its attachment
abbrev pub disk_since : Calls → Session → History
disk_since disk s = disk_after s.began.calls (length disk.done) disk

-- the disk at a mark, as a run that is that session alone sees it
abbrev pub disk_at : Calls → Session → Mark → DiskState
disk_at disk s mark = record {
  tells = true;
  honest = true;
  history = disk_after s.began.calls mark.calls disk;
  faults = mark.faults;
  hard = mark.hard;
}

-- the mark of where a peer is, whose link has so many records
abbrev pub mark_of : PeerState → (records : ℕ) → Mark
mark_of x records = record { calls = length x.disk.done; faults = x.faults; hard = x.hard; records = records }
