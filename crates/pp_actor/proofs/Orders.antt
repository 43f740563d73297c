-- Calls of an actor's devices that are ordered to fail.
use Rattle.std.proofs.Common.{◌≡◌, ◌≢◌, ℕ, Bool, true, false, None, Some, List, refl, sym, ◌∙◌, ap, subst}
use Rattle.std.specs.Prelude.{if◌then◌else◌}
use Rattle.pp_terms.specs.disk.Calls.{attached}
use Rattle.pp_terms.specs.disk.Disk.{DiskState, fresh}
use Rattle.pp_terms.specs.format.Descriptor.{Descriptor}
use Rattle.pp_terms.specs.format.Traffic.{LinkState}
use Rattle.pp_tree.specs.Book.{entry}
use Rattle.pp_outside.specs.Arrivals.{Arrivals}
use Rattle.pp_outside.specs.MemoryDisk as disks
use Rattle.pp_outside.specs.MemoryLink as links
use Rattle.pp_outside.specs.declared.call.Call.{Call}
use Rattle.pp_outside.specs.declared.call.Call.TheVariants as calls
use Rattle.pp_outside.specs.declared.memory_disk.MemoryDisk.{MemoryDisk}
use Rattle.pp_core.specs.Peers.{PeerState as Peer}
use Rattle.pp_turns.specs.Turning.{post}
use Rattle.pp_watch.specs.Used.{order_if}
use Rattle.pp_world.specs.Change.{while_running, with_failing}
use Rattle.pp_world.specs.Orders.{Orders}
use Rattle.pp_world.specs.Schedule.{Read, Write, Sync, Send, Receive}
use Rattle.pp_world.specs.World.{PeerState}
use Rattle.pp_actor.specs.Actor.{ActorState, ShowsActor}
use Rattle.pp_actor.specs.Going.{IsGoingIn}
use Rattle.pp_actor.specs.declared.life.Life.{Life}
use Rattle.pp_stage.specs.declared.opening.Start.{Start}
use Rattle.pp_stage.specs.declared.turning.Running.{Running}

-- A peer that doesn't run stays as it is, and one that runs changes.
pub idle_stays : (d : Descriptor) (most : ℕ) (a : ActorState) (x : PeerState) (change : PeerState → PeerState) → x.is_running ≡ false → ShowsActor d most a x
    → ShowsActor d most a (while_running change x)
idle_stays d most a x change stands shows = subst (ShowsActor d most a) (sym (ap (λ (b : Bool). if b then change x else x) stands)) shows

changes : (d : Descriptor) (most : ℕ) (a : ActorState) (x : PeerState) (change : PeerState → PeerState) → x.is_running ≡ true → ShowsActor d most a (change x)
    → ShowsActor d most a (while_running change x)
changes d most a x change runs shows = subst (ShowsActor d most a) (sym (ap (λ (b : Bool). if b then change x else x) runs)) shows

-- ---- the disk

module _ (d : Descriptor) (most number : ℕ) (start : Start) (old new : MemoryDisk) (lives : List Life) (r : Running) (x : PeerState) (state : disks.state_of new ≡ disks.state_of old)
    (shows : ShowsActor d most (record { number = number; start = start; disk = old; lives = lives; running = Some r }) x) where
  -- with other orders of the disk
  ordered : (orders : Orders) → orders.send ≡ x.orders.send → orders.receive ≡ x.orders.receive → disks.order_of new calls.Read ≡ order_if orders.read
      → disks.order_of new calls.Write ≡ order_if orders.write → disks.order_of new calls.Sync ≡ order_if orders.sync → disks.order_of new calls.Attach ≡ None
      → disks.order_of new calls.Len ≡ None → ShowsActor d most (record { number = number; start = start; disk = new; lives = lives; running = Some r }) (record x { orders = orders })
  ordered orders send receive read write sync attach len = record {
    disk = record {
      unattached = shows.disk.unattached;
      history = ap (λ (s : DiskState). attached (fresh x.disk.image) s.history) state ∙ shows.disk.history;
      faults = ap (λ (s : DiskState). s.faults) state ∙ shows.disk.faults;
      hard = ap (λ (s : DiskState). s.hard) state ∙ shows.disk.hard;
      few = shows.disk.few;
      few_hard = shows.disk.few_hard;
      read = read;
      write = write;
      sync = sync;
      attach = attach;
      len = len;
    };
    now = record {
      runs = shows.now.runs;
      session = shows.now.session;
      earlier = shows.now.earlier;
      sessions = shows.now.sessions;
      shows = record {
        link = record {
          traffic = shows.now.shows.link.traffic;
          faults = shows.now.shows.link.faults;
          nexts = shows.now.shows.link.nexts;
          few = shows.now.shows.link.few;
          few_turns = shows.now.shows.link.few_turns;
          send = shows.now.shows.link.send ∙ sym (ap order_if send);
          receive = shows.now.shows.link.receive ∙ sym (ap order_if receive);
          bind = shows.now.shows.link.bind;
          idle = shows.now.shows.link.idle;
        };
        deaf = shows.now.shows.deaf ∙ sym receive;
        book = shows.now.shows.book;
      };
      over = shows.now.over;
    };
    lasts = subst (IsGoingIn d (record { number = number; asks = start.asks; dialled = start.dialled.items }) x.disk x.sessions) (sym (ap (λ (s : DiskState). post r.peer s (links.state_of r.link)) state)) shows.lasts;
  }

  pub fails_read : disks.order_of new calls.Read ≡ Some 0 → ((other : Call) → other ≢ calls.Read → disks.order_of new other ≡ disks.order_of old other)
      → ShowsActor d most (record { number = number; start = start; disk = new; lives = lives; running = Some r }) (while_running (with_failing Read) x)
  fails_read is others = changes d most (record { number = number; start = start; disk = new; lives = lives; running = Some r }) x (with_failing Read) shows.now.runs
      (ordered (record x.orders { read = true }) refl refl is
      (others calls.Write (λ e. cc) ∙ shows.disk.write) (others calls.Sync (λ e. cc) ∙ shows.disk.sync)
      (others calls.Attach (λ e. cc) ∙ shows.disk.attach) (others calls.Len (λ e. cc) ∙ shows.disk.len))

  pub fails_write : disks.order_of new calls.Write ≡ Some 0 → ((other : Call) → other ≢ calls.Write → disks.order_of new other ≡ disks.order_of old other)
      → ShowsActor d most (record { number = number; start = start; disk = new; lives = lives; running = Some r }) (while_running (with_failing Write) x)
  fails_write is others = changes d most (record { number = number; start = start; disk = new; lives = lives; running = Some r }) x (with_failing Write) shows.now.runs
      (ordered (record x.orders { write = true }) refl refl
      (others calls.Read (λ e. cc) ∙ shows.disk.read) is (others calls.Sync (λ e. cc) ∙ shows.disk.sync)
      (others calls.Attach (λ e. cc) ∙ shows.disk.attach) (others calls.Len (λ e. cc) ∙ shows.disk.len))

  pub fails_sync : disks.order_of new calls.Sync ≡ Some 0 → ((other : Call) → other ≢ calls.Sync → disks.order_of new other ≡ disks.order_of old other)
      → ShowsActor d most (record { number = number; start = start; disk = new; lives = lives; running = Some r }) (while_running (with_failing Sync) x)
  fails_sync is others = changes d most (record { number = number; start = start; disk = new; lives = lives; running = Some r }) x (with_failing Sync) shows.now.runs
      (ordered (record x.orders { sync = true }) refl refl
      (others calls.Read (λ e. cc) ∙ shows.disk.read) (others calls.Write (λ e. cc) ∙ shows.disk.write) is
      (others calls.Attach (λ e. cc) ∙ shows.disk.attach) (others calls.Len (λ e. cc) ∙ shows.disk.len))

-- ---- the link

module _ (d : Descriptor) (most number : ℕ) (start : Start) (disk : MemoryDisk) (lives : List Life) (old new : Running) (x : PeerState)
    (state : links.state_of new.link ≡ links.state_of old.link) (events : links.arrivals_of new.link ≡ links.arrivals_of old.link)
    (peer : new.peer ≡ old.peer) (shows : ShowsActor d most (record { number = number; start = start; disk = disk; lives = lives; running = Some old }) x) where
  -- with other orders of the link
  linked : (orders : Orders) → orders.read ≡ x.orders.read → orders.write ≡ x.orders.write → orders.sync ≡ x.orders.sync
      → links.order_of new.link calls.Send ≡ order_if orders.send → links.order_of new.link calls.Next ≡ order_if orders.receive
      → links.order_of new.link calls.Bind ≡ None → new.is_deaf ≡ orders.receive
      → ShowsActor d most (record { number = number; start = start; disk = disk; lives = lives; running = Some new }) (record x { orders = orders })
  linked orders read write sync send receive bind deaf = record {
    disk = record {
      unattached = shows.disk.unattached;
      history = shows.disk.history;
      faults = shows.disk.faults;
      hard = shows.disk.hard;
      few = shows.disk.few;
      few_hard = shows.disk.few_hard;
      read = shows.disk.read ∙ sym (ap order_if read);
      write = shows.disk.write ∙ sym (ap order_if write);
      sync = shows.disk.sync ∙ sym (ap order_if sync);
      attach = shows.disk.attach;
      len = shows.disk.len;
    };
    now = record {
      runs = shows.now.runs;
      session = shows.now.session;
      earlier = shows.now.earlier;
      sessions = shows.now.sessions;
      shows = record {
        link = record {
          traffic = ap (λ (l : LinkState). l.traffic) state ∙ shows.now.shows.link.traffic;
          faults = ap (λ (l : LinkState). l.faults) state ∙ shows.now.shows.link.faults;
          nexts = ap (λ (l : LinkState). l.nexts) state ∙ shows.now.shows.link.nexts;
          few = shows.now.shows.link.few;
          few_turns = shows.now.shows.link.few_turns;
          send = send;
          receive = receive;
          bind = bind;
          idle = ap (λ (a : Arrivals). a.coming) events ∙ shows.now.shows.link.idle;
        };
        deaf = deaf;
        book = ap (λ p. entry p.parts.holding.book) peer ∙ shows.now.shows.book;
      };
      over = shows.now.over;
    };
    lasts = subst (IsGoingIn d (record { number = number; asks = start.asks; dialled = start.dialled.items }) x.disk x.sessions) (sym (ap (λ (p : Peer). post p (disks.state_of disk) (links.state_of new.link)) peer
        ∙ ap (λ (l : LinkState). post old.peer (disks.state_of disk) l) state)) shows.lasts;
  }

  pub fails_send : links.order_of new.link calls.Send ≡ Some 0
      → ((other : Call) → other ≢ calls.Send → links.order_of new.link other ≡ links.order_of old.link other) → new.is_deaf ≡ old.is_deaf
      → ShowsActor d most (record { number = number; start = start; disk = disk; lives = lives; running = Some new }) (while_running (with_failing Send) x)
  fails_send is others deaf = changes d most (record { number = number; start = start; disk = disk; lives = lives; running = Some new }) x (with_failing Send) shows.now.runs
      (linked (record x.orders { send = true }) refl refl refl is (others calls.Next (λ e. cc) ∙ shows.now.shows.link.receive)
      (others calls.Bind (λ e. cc) ∙ shows.now.shows.link.bind) (deaf ∙ shows.now.shows.deaf))

  pub fails_receive : links.order_of new.link calls.Next ≡ Some 0
      → ((other : Call) → other ≢ calls.Next → links.order_of new.link other ≡ links.order_of old.link other) → new.is_deaf ≡ true
      → ShowsActor d most (record { number = number; start = start; disk = disk; lives = lives; running = Some new }) (while_running (with_failing Receive) x)
  fails_receive is others deaf = changes d most (record { number = number; start = start; disk = disk; lives = lives; running = Some new }) x (with_failing Receive) shows.now.runs
      (linked (record x.orders { receive = true }) refl refl refl (others calls.Send (λ e. cc) ∙ shows.now.shows.link.send) is
      (others calls.Bind (λ e. cc) ∙ shows.now.shows.link.bind) deaf)
