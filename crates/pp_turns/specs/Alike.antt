-- A link that several share, and what one of them sees of it.
use Rattle.std.specs.Prelude.{◌≡◌, ℕ, ◌+◌, ◌≤◌, Some, List, ◌++◌}
use Rattle.std.specs.List.{AllByRecursion}
use Rattle.pp_terms.specs.disk.Disk.{moment_of}
use Rattle.pp_terms.specs.format.Traffic.{LinkState, Record, GainsRecords}
use Rattle.pp_peer.specs.Flushing.{IsOurs}
use Rattle.pp_peer.specs.Standing.{Beginning, StandsFor}
use Rattle.pp_turns.specs.Turning.{Post}

-- While a link went from one state to the next, another gained the same records. It refused as often, none of its waits returned, and it
-- was bound to no address; it tells its traffic only where the first does.
pub record GainsAlike (old new seen seen' : LinkState) : Type 0 where
  pub gained : (added : List Record) → GainsRecords old.traffic added new.traffic → GainsRecords seen.traffic added seen'.traffic
  pub tells : (before : List Record) → seen.traffic ≡ Some before → (all : List Record) × (old.traffic ≡ Some all)
  pub nexts : seen'.nexts ≡ seen.nexts
  pub bound : seen'.bound ≡ seen.bound
  pub before : seen.faults ≡ old.faults
  pub after : seen'.faults ≡ new.faults

-- The link gained datagrams of the peer's swarm, each sent at the disk's moment, maybe refused something, and nothing else.
pub record Carries (old new : Post) : Type 0 where
  pub added : List Record
  pub gained : GainsRecords old.link.traffic added new.link.traffic
  pub ours : AllByRecursion (IsOurs old.peer.parts.seats.descriptor (moment_of old.disk.history)) added
  pub nexts : new.link.nexts ≡ old.link.nexts
  pub bound : new.link.bound ≡ old.link.bound
  pub later : old.link.faults ≤ new.link.faults
  -- a peer that stood for what the link carried stands for it with them, but for so much that was refused
  pub refused : ℕ
  pub stands : (b : Beginning) (most : ℕ) (past : List Record) → b.since ≤ moment_of old.disk.history
      → StandsFor b most old.peer.parts past → StandsFor b (most + refused) new.peer.parts (added ++ past)
