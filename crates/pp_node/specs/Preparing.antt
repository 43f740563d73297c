-- What is found and done before the first turn of a peer.
use Rattle.std.specs.Prelude.{◌≡◌, ◌⊎◌, ℕ, ◌<◌, ◌≤◌, true, List, [], length, Option, Result, Ok, Err}
use Rattle.pp_terms.specs.Count.{HasRisen}
use Rattle.pp_terms.specs.format.Descriptor.{Descriptor, chunks_of}
use Rattle.pp_terms.specs.disk.Disk.{DiskState, History, IsKnown, moment_of}
use Rattle.pp_terms.specs.disk.Image.{is_found}
use Rattle.pp_terms.specs.disk.Untouched.{IsFreshlyAttached}
use Rattle.pp_terms.specs.format.Traffic.{Address, LinkState, GainsAddress}
use Rattle.pp_terms.specs.disk.Sound.{BeganSound}
use Rattle.pp_traffic.specs.Keeping.{StoodThroughout}
use Rattle.pp_tree.specs.Book.{entry}
use Rattle.pp_scan.specs.Layers.{HasKnown}
use Rattle.pp_scan.specs.declared.scanning.ScanFault.{ScanFault}
use Rattle.pp_scan.specs.declared.scanning.ScanFault.TheVariants as scans
use Rattle.pp_store.specs.Store.{is_committed}
use Rattle.pp_store.specs.declared.findings.ProbeFault.{ProbeFault}
use Rattle.pp_store.specs.declared.findings.ProbeFault.TheVariants as probes
use Rattle.pp_peer.specs.Standing.{StandsFor}
use Rattle.pp_core.specs.Having.{HasHeld}
use Rattle.pp_core.specs.Keeping.{IsKeeping}
use Rattle.pp_core.specs.Opening.{HasBegun, beginning}
use Rattle.pp_core.specs.Peers.{PeerState}
use Rattle.pp_node.specs.Looking.{IsOf, IsOther}
use Rattle.pp_node.specs.declared.preparing.Peering.{Peering}
use Rattle.pp_node.specs.declared.preparing.SeedFault.{SeedFault}
use Rattle.pp_node.specs.declared.preparing.SeedFault.TheVariants.{NotAStore, Disk, Link, Memory}
use Rattle.pp_node.specs.declared.preparing.Ready.{Ready}

abbrev pub fault_of_probe : ProbeFault → SeedFault
fault_of_probe (probes.NotAStore at found want) = NotAStore at found want
fault_of_probe probes.Disk = Disk

abbrev pub fault_of_open : ScanFault → SeedFault
fault_of_open (scans.NotAStore at found want) = NotAStore at found want
fault_of_open scans.Disk = Disk
fault_of_open scans.Memory = Memory

-- Nothing was sent, and no datagram was waited for.
pub record IsUnsent (seen seen' : LinkState) : Type 0 where
  pub traffic : seen'.traffic ≡ seen.traffic
  pub nexts : seen'.nexts ≡ seen.nexts
  pub later : seen.faults ≤ seen'.faults

-- The file was empty or the descriptor's when it was attached. Exactly the chunks are committed that were found then, and each that
-- stood in every image then; and the peer keeps its disk from now on, if every image was sound then.
pub record IsFresh (d : Descriptor) (disk disk' : DiskState) (p : PeerState) : Type 0 where
  pub count : length p.parts.holding.store.committed ≡ chunks_of d
  pub started : IsKnown disk → disk'.history.start ≤ moment_of disk'.history
  pub begins : IsKnown disk → IsOf d disk'.history.found
  pub held : IsKnown disk → (i : ℕ) → i < chunks_of d → is_committed p.parts.holding.store i ≡ is_found d disk'.history.found i
  pub taken : IsKnown disk → (i : ℕ) → StoodThroughout d disk'.history i → is_committed p.parts.holding.store i ≡ true
  pub kept : IsKnown disk → BeganSound d disk'.history → IsKeeping (moment_of disk'.history) p disk' []

-- A peer has begun, and stands for no traffic yet.
pub record IsReady (w : Peering) (disk disk' : DiskState) (p : PeerState) (room : ℕ) : Type 0 where
  pub begun : HasBegun w.descriptor.now w.random w.asks w.dial.now.items p
  pub stands : StandsFor (beginning p (moment_of disk'.history)) 0 p.parts []
  pub fresh : IsFresh w.descriptor.now disk disk' p
  pub tells : disk'.tells ≡ disk.tells
  pub honest : disk'.honest ≡ disk.honest
  pub faults : disk.faults ≤ disk'.faults
  pub hard : disk.hard ≤ disk'.hard
  pub buffer : room ≡ 65536
  -- what a peer that fetches has is what it holds
  pub held : HasHeld p.parts
  -- its book has exactly the nodes that were known at the attachment
  pub knows : IsKnown disk → HasKnown w.descriptor.now disk'.history.found (entry p.parts.holding.book)

-- When each answer comes.
abbrev pub HasPrepared : Peering → DiskState → DiskState → LinkState → LinkState → Result Ready SeedFault → Type 0
HasPrepared w disk disk' seen seen' (Ok ready) = IsReady w disk disk' ready.peer (length ready.buffer.items)
HasPrepared w disk disk' seen seen' (Err (NotAStore at found want)) = IsOther w.descriptor.now at found want disk disk'
HasPrepared w disk disk' seen seen' (Err Disk) = HasRisen disk.faults disk'.faults
HasPrepared w disk disk' seen seen' (Err Link) =
    HasRisen seen.faults seen'.faults × (IsKnown disk → IsOf w.descriptor.now disk'.history.found)
HasPrepared w disk disk' seen seen' (Err Memory) = IsKnown disk → IsOf w.descriptor.now disk'.history.found

-- The same of the opening alone, which the link has no part in.
abbrev pub HasOpenedPeer : Peering → DiskState → DiskState → Result Ready SeedFault → Type 0
HasOpenedPeer w disk disk' (Ok ready) = IsReady w disk disk' ready.peer (length ready.buffer.items)
HasOpenedPeer w disk disk' (Err (NotAStore at found want)) = IsOther w.descriptor.now at found want disk disk'
HasOpenedPeer w disk disk' (Err Disk) = HasRisen disk.faults disk'.faults
HasOpenedPeer w disk disk' (Err Link) = ⊥
HasOpenedPeer w disk disk' (Err Memory) = IsKnown disk → IsOf w.descriptor.now disk'.history.found

-- What was done on the disk since the attachment, where no peer was made ready. Nothing was with a file of another, a refusal
-- to listen or no memory; and with a refusal of the disk only where the file was empty or the descriptor's.
abbrev pub LeavesDisk : Descriptor → History → Result Ready SeedFault → Type 0
LeavesDisk d h (Ok ready) = Unit {0}
LeavesDisk d h (Err (NotAStore at found want)) = IsFreshlyAttached h
LeavesDisk d h (Err Disk) = IsOf d h.found ⊎ IsFreshlyAttached h
LeavesDisk d h (Err Link) = IsFreshlyAttached h
LeavesDisk d h (Err Memory) = IsFreshlyAttached h

-- The link was bound to that address, unless it refused, or the store was refused before.
abbrev pub LeavesLink : Option (List Address) → Address → Option (List Address) → Result Ready SeedFault → Type 0
LeavesLink old listen new (Ok ready) = GainsAddress old listen new
LeavesLink old listen new (Err (NotAStore at found want)) = (new ≡ old) ⊎ GainsAddress old listen new
LeavesLink old listen new (Err Disk) = (new ≡ old) ⊎ GainsAddress old listen new
LeavesLink old listen new (Err Link) = new ≡ old
LeavesLink old listen new (Err Memory) = GainsAddress old listen new
