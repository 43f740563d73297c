-- A peer that runs over devices in memory, as a peer of a world.
use Rattle.std.specs.Prelude.{◌≡◌, ℕ, true, []}
use Rattle.pp_tree.specs.Book.{entry}
use Rattle.pp_outside.specs.MemoryLink.{arrivals_of, order_of}
use Rattle.pp_outside.specs.declared.call.Call.TheVariants.{Next}
use Rattle.pp_world.specs.Session.{Session}
use Rattle.pp_world.specs.World.{PeerState}
use Rattle.pp_watch.specs.Shown.{ShowsLink}
use Rattle.pp_watch.specs.Used.{order_if}
use Rattle.pp_stage.specs.declared.turning.Running.{Running}

-- Nothing is to come over its link, it is told whether the next wait is ordered to fail and no later one is, and its store may be
-- written to.
pub record IsReady (r : Running) : Type 0 where
  pub idle : (arrivals_of r.link).coming ≡ []
  pub deaf : order_of r.link Next ≡ order_if r.is_deaf
  pub live : r.peer.parts.holding.store.live ≡ true

-- Its link is that of the session, and it knows what the session does.
pub record ShowsRunning (most : ℕ) (x : PeerState) (r : Running) (s : Session) : Type 0 where
  pub link : ShowsLink most r.link x.orders s
  pub deaf : r.is_deaf ≡ x.orders.receive
  pub book : entry r.peer.parts.holding.book ≡ s.book
