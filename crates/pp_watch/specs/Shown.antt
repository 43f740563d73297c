-- A disk and a link in memory as those of a peer of a world.
use Rattle.std.specs.Prelude.{◌≡◌, ℕ, ◌≤◌, None, Some, List, [], ◌++◌, length}
use Rattle.pp_terms.specs.disk.Disk.{fresh}
use Rattle.pp_terms.specs.disk.Calls.{Did, attached, history_of}
use Rattle.pp_outside.specs.MemoryDisk as disks
use Rattle.pp_outside.specs.MemoryLink as links
use Rattle.pp_outside.specs.declared.call.Call.TheVariants.{Attach, Len, Read, Write, Sync, Bind, Next, Send}
use Rattle.pp_outside.specs.declared.memory_disk.MemoryDisk.{MemoryDisk}
use Rattle.pp_outside.specs.declared.memory_link.MemoryLink.{MemoryLink}
use Rattle.pp_world.specs.Orders.{Orders}
use Rattle.pp_world.specs.Session.{Session}
use Rattle.pp_world.specs.World.{PeerState}
use Rattle.pp_watch.specs.Used.{order_if}

-- The disk is the peer's, wherever it was attached. Of its calls at most so many were refused, and readings, writes and syncs alone are
-- ever ordered to fail, and then the next one.
pub record ShowsDisk (most : ℕ) (disk : MemoryDisk) (x : PeerState) : Type 0 where
  pub unattached : x.disk.attached_at ≡ 0
  pub history : attached (fresh x.disk.image) (disks.state_of disk).history ≡ history_of x.disk
  pub faults : (disks.state_of disk).faults ≡ x.faults
  pub hard : (disks.state_of disk).hard ≡ x.hard
  pub few : x.faults ≤ most
  pub few_hard : x.hard ≤ most
  pub read : disks.order_of disk Read ≡ order_if x.orders.read
  pub write : disks.order_of disk Write ≡ order_if x.orders.write
  pub sync : disks.order_of disk Sync ≡ order_if x.orders.sync
  pub attach : disks.order_of disk Attach ≡ None
  pub len : disks.order_of disk Len ≡ None

-- The link is that of the peer's session, and nothing is to come over it. Of its calls at most so many were refused, and waits and
-- sendings alone are ever ordered to fail, and then the next one. It waited at most so many times.
pub record ShowsLink (most : ℕ) (link : MemoryLink) (orders : Orders) (s : Session) : Type 0 where
  pub traffic : (links.state_of link).traffic ≡ Some s.traffic
  pub faults : (links.state_of link).faults ≡ s.refused
  pub nexts : (links.state_of link).nexts ≡ length s.turns
  pub few : s.refused ≤ most
  pub few_turns : length s.turns ≤ most
  pub send : links.order_of link Send ≡ order_if orders.send
  pub receive : links.order_of link Next ≡ order_if orders.receive
  pub bind : links.order_of link Bind ≡ None
  pub idle : (links.arrivals_of link).coming ≡ []

-- the peer after calls of its disk, which is that one now
abbrev pub with_calls : List Did → MemoryDisk → PeerState → PeerState
with_calls calls disk x = record x {
  disk = record x.disk { done = x.disk.done ++ calls };
  faults = (disks.state_of disk).faults;
  hard = (disks.state_of disk).hard;
  orders = record x.orders {
    read = disks.is_ordered disk Read;
    write = disks.is_ordered disk Write;
    sync = disks.is_ordered disk Sync;
  };
}
