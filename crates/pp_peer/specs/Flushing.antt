-- What a peer sends, step by step.
use Rattle.std.specs.Prelude.{◌≡◌, ℕ, ◌+◌, ◌≤◌, None, List, ◌++◌}
use Rattle.std.specs.List.{AllByRecursion}
use Rattle.pp_terms.specs.disk.Disk.{DiskState, moment_of}
use Rattle.pp_terms.specs.format.Descriptor.{Descriptor}
use Rattle.pp_terms.specs.format.Messages.{Message}
use Rattle.pp_terms.specs.format.Traffic.{Address, Record, Sent, LinkState, GainsRecords}
use Rattle.pp_traffic.specs.Committed.{RequestsNone}
use Rattle.pp_counts.specs.declared.counts.Counts.{Counts}
use Rattle.pp_draft.specs.Datagrams.{IsDatagram}
use Rattle.pp_scan.specs.Look.{KeepsAll}
use Rattle.pp_peer.specs.declared.parts.Parts.{Parts}
use Rattle.pp_peer.specs.Standing.{Beginning, StandsFor}

-- a peer with its devices
pub record Scene : Type 0 where
  pub parts : Parts
  pub link : LinkState
  pub disk : DiskState

-- A datagram of a channel's number and messages, of at most 16,384 bytes, was sent at the disk's moment.
pub record IsOurs (d : Descriptor) (moment : ℕ) (r : Record) : Type 0 where
  pub receiver : Address
  pub bytes : List ℕ
  pub is : r ≡ Sent moment receiver bytes
  pub channel : ℕ
  pub messages : List Message
  pub written : IsDatagram d channel messages bytes

-- A peer that doesn't fetch goes on so, and asked for nothing.
pub record Seeds (old new : Parts) (added : List Record) : Type 0 where
  pub fetching : new.fetching ≡ None
  pub asks : RequestsNone old.seats.descriptor added

-- The counts of turns and of waits that were refused stand as they were.
pub record KeepsWaits (old new : Counts) : Type 0 where
  pub turns : new.turns ≡ old.turns
  pub receive_faults : new.receive_faults ≡ old.receive_faults

-- The link gained these records, and the peer, which stood for what the link carried, stands for it with them, but for so much that
-- was refused or couldn't be read. What it holds is as it was, and of the disk nothing was done but readings.
pub record Flushes (refused : ℕ) (old new : Scene) : Type 0 where
  pub added : List Record
  pub gained : GainsRecords old.link.traffic added new.link.traffic
  pub nexts : new.link.nexts ≡ old.link.nexts
  pub bound : new.link.bound ≡ old.link.bound
  pub later : old.link.faults ≤ new.link.faults
  pub ours : AllByRecursion (IsOurs old.parts.seats.descriptor (moment_of old.disk.history)) added
  pub seeds : old.parts.fetching ≡ None → Seeds old.parts new.parts added
  pub waits : KeepsWaits old.parts.counts new.parts.counts
  pub reads : KeepsAll old.disk new.disk
  pub holding : new.parts.holding ≡ old.parts.holding
  pub swarm : new.parts.seats.descriptor ≡ old.parts.seats.descriptor
  pub moment : new.parts.seats.moment ≡ old.parts.seats.moment
  pub stands : (b : Beginning) (most : ℕ) (past : List Record) → b.since ≤ moment_of old.disk.history
      → StandsFor b most old.parts past
      → StandsFor b (most + refused) new.parts (added ++ past)
