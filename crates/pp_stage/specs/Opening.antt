-- An opening of a peer's store, as one of a peer of a world.
use Rattle.std.specs.Prelude.{◌≡◌, ℕ, ◌+◌, ◌^◌, ◌<◌, true, Option, Some, None, List, [], ◌∷◌}
use Rattle.pp_terms.specs.disk.Disk.{DiskState, History, Throughout, moment_of}
use Rattle.pp_terms.specs.disk.Image.{StandsIn}
use Rattle.pp_terms.specs.disk.Sound.{IsSound}
use Rattle.pp_terms.specs.format.Descriptor.{Descriptor}
use Rattle.pp_terms.specs.format.Traffic.{LinkState}
use Rattle.pp_outside.specs.declared.memory_disk.MemoryDisk.{MemoryDisk}
use Rattle.pp_scan.specs.Scan.{IsScanned}
use Rattle.pp_store.specs.Sound.{StaysSound}
use Rattle.pp_store.specs.Store.{GoesOn, is_committed}
use Rattle.pp_tree.specs.Book.{entry}
use Rattle.pp_core.specs.Keeping.{IsKeeping}
use Rattle.pp_core.specs.Opening.{HasBegun, beginning}
use Rattle.pp_core.specs.Peers.{PeerState as Peer}
use Rattle.pp_turns.specs.Turning.{IsBegun, post}
use Rattle.pp_watch.specs.Shown.{ShowsDisk}
use Rattle.pp_world.specs.Opening.{Opens, FailsToOpen}
use Rattle.pp_world.specs.Session.{Session, new_link}
use Rattle.pp_world.specs.World.{PeerState}
use Rattle.pp_stage.specs.declared.opening.Start.{Start}
use Rattle.pp_stage.specs.declared.turning.Running.{Running}
use Rattle.pp_stage.specs.Shown.{ShowsRunning}

-- ---- the peer that was opened

-- A peer of this swarm has begun so, and stands for no traffic. It has committed exactly the chunks, and knows the digests, that an opening
-- finds in what reads gave; where that was sound, it keeps its disk from then on. A chunk that stood in every image is committed.
pub record Begins (d : Descriptor) (start : Start) (old new : DiskState) (p : Peer) : Type 0 where
  pub begun : HasBegun d start.random start.asks start.dialled.items p
  pub is_begun : IsBegun (beginning p (moment_of new.history)) (post p new new_link)
  pub scanned : IsScanned d old (entry p.parts.holding.book) p.parts.holding.store.committed
  pub kept : IsSound d old.history.reads → IsKeeping (moment_of new.history) p new []
  pub taken : (i : ℕ) → Throughout old.history (moment_of old.history) (λ image. StandsIn d image i)
      → is_committed p.parts.holding.store i ≡ true

-- Whatever an opening came to: what stood in every image goes on standing, and images that were sound stay so.
pub record LosesNothing (d : Descriptor) (old new : History) : Type 0 where
  pub stands : GoesOn d old new
  pub sound : StaysSound d old new

-- ---- the peer of a world

-- Its store was opened, and its newest session begins. At most four more calls were refused than so many.
pub record HasOpened (d : Descriptor) (most : ℕ) (x : PeerState) (disk : MemoryDisk) (r : Running) : Type 0 where
  pub after : PeerState
  pub session : Session
  pub opens : Opens d x after
  pub sessions : after.sessions ≡ session ∷ x.sessions
  pub traffic : session.traffic ≡ []
  pub shows_disk : ShowsDisk (most + 4) disk after
  pub shows : ShowsRunning (most + 4) after r session

-- The opening was refused, and no session begins. At most four more calls were refused than so many.
pub record WasRefused (d : Descriptor) (most : ℕ) (x : PeerState) (disk : MemoryDisk) : Type 0 where
  pub after : PeerState
  pub fails : FailsToOpen d x after
  pub shows_disk : ShowsDisk (most + 4) disk after

abbrev pub OpensTo : Descriptor → ℕ → PeerState → MemoryDisk → Option Running → Type 0
OpensTo d most x disk None = WasRefused d most x disk
OpensTo d most x disk (Some r) = HasOpened d most x disk r

-- This holds of each peer of a world that the disk before shows.
abbrev pub OpensAs : Descriptor → (old new : MemoryDisk) → Option Running → Type 0
OpensAs d old new running =
    (most : ℕ) (x : PeerState) → most + 4 < 2 ^ 64 → ShowsDisk most old x → OpensTo d most x new running
