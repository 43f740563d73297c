-- What a peer does in a turn, and when it closes.
use Rattle.std.specs.Prelude.{◌≡◌, ℕ, ◌+◌, ◌≤◌, Option, Some, None, List, [], ◌++◌}
use Rattle.pp_terms.specs.disk.Disk.{DiskState, moment_of}
use Rattle.pp_terms.specs.format.Traffic.{Record, LinkState}
use Rattle.pp_counts.specs.Counts.{after_note}
use Rattle.pp_counts.specs.declared.note.Note.TheVariants as notes
use Rattle.pp_fetching.specs.Fetching.{FetchState}
use Rattle.pp_peer.specs.declared.parts.Parts.{Parts}
use Rattle.pp_peer.specs.Standing.{Beginning, StandsFor}
use Rattle.pp_peer.specs.Flushing.{Scene, Flushes}
use Rattle.pp_peer.specs.Greeting.{Parting}
use Rattle.pp_peer.specs.Sending.{SendsAll}
use Rattle.pp_core.specs.Peers.{PeerState}
use Rattle.pp_core.specs.Keeping.{IsKeeping}

-- the parts of a peer with its devices
abbrev pub scene : Parts → LinkState → DiskState → Scene
scene p link disk = record { parts = p; link = link; disk = disk }

-- the parts once all tickets were taken
abbrev pub without_tickets : Parts → Parts
without_tickets p = record p { holding = record p.holding { queue = record p.holding.queue { tickets = []; repeats = [] } } }

-- Whatever the peer stood for and kept, it stands for it with these records and keeps it, but for so much that was refused.
pub record Goes (refused : ℕ) (added : List Record) (old new : PeerState) (disk left : DiskState) : Type 0 where
  pub stands : (b : Beginning) (most : ℕ) (past : List Record) → b.since ≤ moment_of disk.history → StandsFor b most old.parts past
      → StandsFor b (most + refused) new.parts (added ++ past)
  pub keeps : (b : Beginning) (most since : ℕ) (past : List Record) → b.since ≤ moment_of disk.history → StandsFor b most old.parts past
      → IsKeeping since old disk past → IsKeeping since new left (added ++ past)

-- All that was due went, and then what came was acknowledged.
pub record Sends (refused : ℕ) (old new : PeerState) (link later : LinkState) (disk left : DiskState) : Type 0 where
  pub sent : Parts
  pub sends : SendsAll old.dials new.dials old.speaker new.speaker refused (scene old.parts link disk) (scene sent later left)
  pub flushes : Flushes refused (scene old.parts link disk) (scene sent later left)
  pub goes : Goes refused flushes.added old new disk left
  pub rest : new.parts ≡ without_tickets sent

-- A closing handshake went on each proven channel, and nothing else.
pub record Closes (old new : PeerState) (link later : LinkState) (disk : DiskState) : Type 0 where
  pub parting : Parting 64 (scene old.parts link disk) (scene new.parts later disk)
  pub goes : Goes 0 parting.flushes.added old new disk disk
  pub rest : new ≡ record old { parts = new.parts }

-- A wait was refused, and was counted.
abbrev pub after_refusal : PeerState → PeerState
after_refusal p = record p { parts = record p.parts { counts = after_note notes.ReceiveFault (after_note notes.Turn p.parts.counts) } }

-- A peer that fetches asks for chunks below a limit alone.
abbrev pub limited : ℕ → Option FetchState → Option FetchState
limited limit None = None
limited limit (Some f) = Some (record f { want = record f.want { limit = limit } })

abbrev pub with_limit : ℕ → Parts → Parts
with_limit limit p = record p { fetching = limited limit p.fetching }
