-- A session of a peer of a world as a run of its own, and what it promises.
use Rattle.std.specs.Prelude.{ℕ, Option, None, List, length}
use Rattle.std.specs.List.{AllByRecursion}
use Rattle.pp_terms.specs.disk.Calls.{Calls}
use Rattle.pp_terms.specs.disk.Disk.{DiskState}
use Rattle.pp_terms.specs.format.Descriptor.{Descriptor}
use Rattle.pp_terms.specs.format.Traffic.{LinkState}
use Rattle.pp_promises.specs.Premises.{Devices}
use Rattle.pp_promises.specs.Promises.{Course, Promises}
use Rattle.pp_outside.specs.declared.link.Address.{Address}
use Rattle.pp_avail.specs.declared.ranker.Rank.{Rank}
use Rattle.pp_sessions.specs.Sessions.{task_of}
use Rattle.pp_world.specs.Session.{Session, last_mark, link_of, new_link}
use Rattle.pp_world.specs.World.{disk_at}

-- What a peer is told at each of its openings: its number, in which order it asks, if it asks, and whom it dials.
pub record Part : Type 0 where
  pub number : ℕ
  pub asks : Option Rank
  pub dialled : List Address

-- devices of which none is a sink
abbrev pub devices_of : DiskState → LinkState → Devices
devices_of disk link = record { disk = disk; link = link; sink = record { taken = None; faults = 0 } }

-- what a session came to
abbrev pub course_of : Session → Course
course_of s = record { book = s.book; taken = length s.turns; added = s.traffic }

-- The session kept the promise of a run, with its own beginning, and a disk that was attached then.
abbrev pub KeptBy : Descriptor → Part → Calls → Session → Type 0
KeptBy d part disk s = Promises d (task_of part.asks part.dialled (length s.turns)) (devices_of (disk_at disk s s.began) new_link)
    (devices_of (disk_at disk s (last_mark s)) (link_of s)) (course_of s)

-- Each of these sessions did.
abbrev pub AllKeep : Descriptor → Part → Calls → List Session → Type 0
AllKeep d part disk sessions = AllByRecursion (KeptBy d part disk) sessions
