-- What a peer does in turns: each waits once for a datagram, takes what came, and sends what is due.
use Rattle.std.specs.Prelude.{◌≡◌, ℕ, ◌<◌, ◌≤◌, true, false, Some, None, List, []}
use Rattle.std.specs.List.{AllByRecursion, list_any}
use Rattle.pp_terms.specs.Count.{HasRisen, capped}
use Rattle.pp_terms.specs.disk.Disk.{DiskState, moment_of}
use Rattle.pp_terms.specs.format.Traffic.{LinkState, Record, GainsRecords}
use Rattle.pp_terms.specs.tree.Book.{LookUp}
use Rattle.pp_traffic.specs.Committed.{RequestsNone}
use Rattle.pp_traffic.specs.Tallied.{TookTurns}
use Rattle.pp_traffic.specs.Turns.{is_closing}
use Rattle.pp_promises.specs.Datagrams.{IsWhole}
use Rattle.pp_counts.specs.Counts.{no_counts}
use Rattle.pp_holding.specs.Holding.{stock_of}
use Rattle.pp_holding.specs.Stock.{Stock, Advances}
use Rattle.pp_peer.specs.Standing.{Beginning, Ledger, StandsFor}
use Rattle.pp_core.specs.Peers.{PeerState}
use Rattle.pp_core.specs.Having.{HasHeld}
use Rattle.pp_core.specs.Keeping.{IsKeeping}
use Rattle.pp_core.specs.Remembering.{KeepsWrote, StaysUnchoked, KeepsTold, HasNoTicket, KeepsAcks, HasNoRepeat}

-- a peer with its devices, at one time
pub record Post : Type 0 where
  pub peer : PeerState
  pub disk : DiskState
  pub link : LinkState

abbrev pub post : PeerState → DiskState → LinkState → Post
post peer disk link = record { peer = peer; disk = disk; link = link }

abbrev pub stock_in : Post → Stock
stock_in p = stock_of p.peer.parts.holding p.disk

-- A peer has begun and stands for no traffic yet; this was settled then.
pub record IsBegun (b : Beginning) (p : Post) : Type 0 where
  pub past : b.since ≤ moment_of p.disk.history
  pub stands : StandsFor b 0 p.peer.parts []
  pub counts : p.peer.parts.counts ≡ no_counts
  pub live : p.peer.parts.holding.store.live ≡ true
  pub wrote : KeepsWrote b.d p.peer.parts []
  pub unchoked : StaysUnchoked b.d p.peer.parts []
  pub told : KeepsTold b.d p.peer.parts []
  pub taken : HasNoTicket p.peer.parts
  pub unrepeated : HasNoRepeat p.peer.parts
  pub acks : (book : LookUp) → KeepsAcks b.d book p.peer.parts []
  pub held : HasHeld p.peer.parts

-- In so many turns of a peer that had begun the link gained these records, whatever ended the turns. Nothing that was held is lost,
-- what was announced stands on the disk where the peer kept its disk, and what was sent stands in the ledger.
pub record Went (b : Beginning) (taken : ℕ) (old new : Post) : Type 0 where
  pub past : b.since ≤ moment_of new.disk.history
  pub added : List Record
  pub gained : GainsRecords old.link.traffic added new.link.traffic
  pub took : TookTurns taken old.link new.link added
  pub bound : new.link.bound ≡ old.link.bound
  pub later : old.link.faults ≤ new.link.faults
  pub advances : Advances (stock_in old) (stock_in new)
  pub whole : AllByRecursion (IsWhole b.d) added
  pub asks_none : old.peer.parts.fetching ≡ None → RequestsNone b.d added
  pub ledger : Ledger b new.peer.parts added
  pub keeps : IsKeeping b.since old.peer old.disk [] → IsKeeping b.since new.peer new.disk added
  pub turns : new.peer.parts.counts.turns ≡ capped taken
  pub receive_faults : new.peer.parts.counts.receive_faults ≡ capped took.refused

-- The disk refused nothing that was to be kept: the peer stands for the records, but for so much that was refused, and goes on.
pub record TakesTurns (b : Beginning) (taken : ℕ) (old new : Post) : Type 0 where
  pub went : Went b taken old new
  pub refused : ℕ
  pub stands : StandsFor b refused new.peer.parts went.added
  pub live : new.peer.parts.holding.store.live ≡ true
  pub idle : old.peer.parts.fetching ≡ None → new.peer.parts.fetching ≡ None

-- The disk refused a write or a sync of the last of so many turns, and nothing was sent after that. No channel was closed, as far as the
-- link tells.
pub record Stops (b : Beginning) (taken : ℕ) (old new : Post) : Type 0 where
  pub went : Went b taken old new
  pub some : 0 < taken
  pub hard : HasRisen old.disk.hard new.disk.hard
  pub closes_none : (before : List Record) → old.link.traffic ≡ Some before → list_any (is_closing b.d) went.added ≡ false
