-- What happens to an actor, as to a peer of a world.
use Rattle.std.proofs.Common.{◌≡◌, ◌⊎◌, inl, inr, ℕ, ◌+◌, ◌^◌, ◌<◌, ◌≤◌, Bool, true, false, Option, Some, None, List, [], ◌∷◌, ◌++◌, refl, sym, ◌∙◌, ap, subst, arith}
use Rattle.std.specs.Prelude.{is_some, length, IfSome, reverse, MatchBool, Result, Ok, Err, IsOk, OnOk}
use Rattle.std.specs.declared.alloc.AllocError.{AllocError}
use Rattle.std.proofs.lemmas.List.{reverse-append}
use Rattle.pp_terms.specs.disk.Calls.{Calls, attached, crash_image, history_of}
use Rattle.pp_terms.specs.disk.Disk.{fresh, settled}
use Rattle.pp_terms.specs.format.Descriptor.{Descriptor}
use Rattle.pp_terms.specs.format.Traffic.{Record}
use Rattle.pp_tree.specs.Book.{BookState, entry}
use Rattle.pp_avail.specs.declared.ranker.Rank.{Rank}
use Rattle.pp_outside.specs.declared.link.Address.{Address}
use Rattle.pp_outside.specs.MemoryDisk as disks
use Rattle.pp_outside.specs.MemoryLink as links
use Rattle.pp_outside.specs.declared.call.Call.{Call}
use Rattle.pp_outside.specs.declared.memory_disk.MemoryDisk.{MemoryDisk}
use Rattle.pp_outside.specs.declared.memory_link.MemoryLink.{MemoryLink}
use Rattle.pp_holding.specs.Holding.{AreTied}
use Rattle.pp_turns.specs.Turning.{Post}
use Rattle.pp_watch.specs.Shown.{ShowsDisk}
use Rattle.pp_watch.specs.Used.{order_if}
use Rattle.pp_watch.proofs.Openings.{crashed}
use Rattle.pp_world.specs.Change.{MayOpen, MayTakeTurn, Stays, with_crash, with_stop}
use Rattle.pp_world.specs.Opening.{FailsToOpen, Opens, new_session}
use Rattle.pp_world.specs.Session.{Session}
use Rattle.pp_world.specs.Survival.{KeepsAnnounced}
use Rattle.pp_world.specs.Turn.{TakesTurn, with_turn}
use Rattle.pp_world.specs.World.{PeerState}
use Rattle.pp_world.specs.Worlds.{idle}
use Rattle.pp_actor.specs.Actor.{ActorState, ActorOpens, ActorTurns, HasGained, Hears, IsPlaying, ShowLives, ShowsActor, ShowsLife, ShowsNow, ShowsRemains, part_of}
use Rattle.pp_stage.specs.Opening.{Begins, HasOpened, LosesNothing, OpensAs, WasRefused}
use Rattle.pp_stage.specs.Shown.{ShowsRunning}
use Rattle.pp_stage.specs.Turned.{KeepsPromises, ShowsTurn, TurnsAs, post_of}
use Rattle.pp_stage.specs.declared.opening.Start.{Start}
use Rattle.pp_actor.specs.Going.{IsGoingIn, LastsNow}
use Rattle.pp_actor.specs.Keeping.{AllKeep, Part}
use Rattle.pp_actor.specs.Lasting.{AllLast, IsSoundNow}
use Rattle.pp_actor.proofs.Begins.{crashed_lasts, opened_lasts, refused_lasts, stop_lasts, stopped_lasts, turn_lasts}
use Rattle.pp_actor.proofs.Keeping.{IsSeen}
use Rattle.pp_actor.proofs.Lasting.{survive}
use Rattle.pp_actor.specs.declared.life.Life.{Life}
use Rattle.pp_actor.specs.declared.life.Remains.{Remains}
use Rattle.pp_stage.specs.declared.turning.Cue.{Cue}
use Rattle.pp_stage.specs.declared.turning.Running.{Running}
use Rattle.pp_stage.specs.declared.turning.Turned.{Turned}

-- ---- answers

pub if_ok : {P : Type 0} (r : Result (Unit {0}) AllocError) → (IsOk r → P) → OnOk r P
if_ok (Ok u) makes = makes refl
if_ok (Err e) makes = tt

pub none_of : (o : Option Running) → is_some o ≡ false → o ≡ None
none_of None is = refl
none_of (Some r) is = cc

pub some_of : (o : Option Running) → is_some o ≡ true → (r : Running) × (o ≡ Some r)
some_of None is = cc
some_of (Some r) is = (r, refl)

-- ---- what is shown

-- The disk shown for a peer is that of one with the same disk, counts and orders of the disk.
pub same_disk : (most : ℕ) (disk : MemoryDisk) (x y : PeerState) → y.disk ≡ x.disk → y.faults ≡ x.faults → y.hard ≡ x.hard → y.orders ≡ x.orders
    → ShowsDisk most disk x → ShowsDisk most disk y
same_disk most disk x y is faults hard orders shows = record {
  unattached = ap (λ (c : Calls). c.attached_at) is ∙ shows.unattached;
  history = ap (λ (c : Calls). attached (fresh c.image) (disks.state_of disk).history) is ∙ shows.history ∙ sym (ap history_of is);
  faults = shows.faults ∙ sym faults;
  hard = shows.hard ∙ sym hard;
  few = (let few = shows.few in omega (arith, few, faults));
  few_hard = (let few = shows.few_hard in omega (arith, few, hard));
  read = shows.read ∙ sym (ap (λ o. order_if o.read) orders);
  write = shows.write ∙ sym (ap (λ o. order_if o.write) orders);
  sync = shows.sync ∙ sym (ap (λ o. order_if o.sync) orders);
  attach = shows.attach;
  len = shows.len;
}

pub more_refused : (most more : ℕ) (disk : MemoryDisk) (x : PeerState) → ShowsDisk most disk x → ShowsDisk (most + more) disk x
more_refused most more disk x shows = record {
  unattached = shows.unattached;
  history = shows.history;
  faults = shows.faults;
  hard = shows.hard;
  few = (let few = shows.few in omega (arith, few));
  few_hard = (let few = shows.few_hard in omega (arith, few));
  read = shows.read;
  write = shows.write;
  sync = shows.sync;
  attach = shows.attach;
  len = shows.len;
}

more_running : (most more : ℕ) (x : PeerState) (r : Running) (s : Session) → ShowsRunning most x r s → ShowsRunning (most + more) x r s
more_running most more x r s shows = record {
  link = record {
    traffic = shows.link.traffic;
    faults = shows.link.faults;
    nexts = shows.link.nexts;
    few = (let few = shows.link.few in omega (arith, few));
    few_turns = (let few = shows.link.few_turns in omega (arith, few));
    send = shows.link.send;
    receive = shows.link.receive;
    bind = shows.link.bind;
    idle = shows.link.idle;
  };
  deaf = shows.deaf;
  book = shows.book;
}

more_now : (most more : ℕ) (x : PeerState) (o : Option Running) (lives : List Life) → ShowsNow most x o lives → ShowsNow (most + more) x o lives
more_now most more x None lives now = now
more_now most more x (Some r) lives now = record {
  runs = now.runs;
  session = now.session;
  earlier = now.earlier;
  sessions = now.sessions;
  shows = more_running most more x r now.session now.shows;
  over = now.over;
}

pub more_shown : (d : Descriptor) (most more : ℕ) (a : ActorState) (x : PeerState) → ShowsActor d most a x → ShowsActor d (most + more) a x
more_shown d most more a x shows = record {
  disk = more_refused most more a.disk x shows.disk;
  now = more_now most more x a.running (reverse a.lives) shows.now;
  lasts = shows.lasts;
}

-- ---- what it is told

abbrev part_in : ℕ → Start → Part
part_in number start = record { number = number; asks = start.asks; dialled = start.dialled.items }

-- whatever bytes it is opened with
same_part : (number : ℕ) (before start : Start) → start.asks ≡ before.asks → start.dialled.items ≡ before.dialled.items
    → part_in number start ≡ part_in number before
same_part number before start asks dialled =
    ap (λ (o : Option Rank). record { number = number; asks = o; dialled = start.dialled.items }) asks
    ∙ ap (λ (l : List Address). record { number = number; asks = before.asks; dialled = l }) dialled

same_head : {A : Type 0} (x y : A) (xs ys : List A) → x ∷ xs ≡ y ∷ ys → x ≡ y
same_head x y xs ys is = cc

-- ---- a life that ends

-- the book of a peer that runs is its store's
pub tied_now : (d : Descriptor) (part : Part) (disk : Calls) (sessions : List Session) (now : Post) → IsGoingIn d part disk sessions now
    → AreTied now.peer.parts.holding
tied_now d part disk [] now going = absurd going
tied_now d part disk (s ∷ earlier) now going = going.tied

pub seen_so : (most : ℕ) (disk : MemoryDisk) (x : PeerState) (r : Running) (s : Session) → AreTied r.peer.parts.holding → ShowsRunning most x r s
    → IsSeen s (post_of r disk)
seen_so most disk x r s tied shows = record {
  traffic = shows.link.traffic;
  faults = shows.link.faults;
  nexts = shows.link.nexts;
  book = shows.book;
  rooted = tied.book_is;
}

pub ended : (most : ℕ) (x : PeerState) (r : Running) (s : Session) (life : Life) → life.link ≡ r.link → life.book ≡ r.peer.parts.holding.book
    → ShowsRunning most x r s → ShowsLife life s
ended most x r s life link book shows = record {
  traffic = ap (λ (l : MemoryLink). (links.state_of l).traffic) link ∙ shows.link.traffic;
  refused = ap (λ (l : MemoryLink). (links.state_of l).faults) link ∙ shows.link.faults;
  turns = ap (λ (l : MemoryLink). (links.state_of l).nexts) link ∙ shows.link.nexts;
  book = ap (λ (b : BookState). entry b) book ∙ shows.book;
}

-- one more life is over
pub one_over : (lives : List Life) (life : Life) (s : Session) (earlier sessions : List Session) → ShowsLife life s → ShowLives (reverse lives) earlier
    → sessions ≡ s ∷ earlier → ShowLives (reverse (lives ++ life ∷ [])) sessions
one_over lives life s earlier sessions shows over is =
    subst (λ (ls : List Life). ShowLives ls sessions) (sym (reverse-append lives (life ∷ [])))
    (subst (ShowLives (life ∷ reverse lives)) (sym is) (shows, over))

-- ---- a peer that was never started

pub idles : (d : Descriptor) (most : ℕ) (number : ℕ) (start : Start) (disk : MemoryDisk) (calls : Calls) → ShowsDisk most disk (idle calls) → IsSoundNow d (history_of calls)
    → ShowsActor d most (record { number = number; start = start; disk = disk; lives = []; running = None }) (idle calls)
idles d most number start disk calls shows sound =
    record { disk = shows; now = record { stands = refl; over = tt }; lasts = record { sound = sound; all = tt; keep = tt; settled = record { closes_none = tt; knows = tt } } }

-- ---- a stop

pub stops_idle : (d : Descriptor) (most : ℕ) (number : ℕ) (start : Start) (disk : MemoryDisk) (lives : List Life) (x : PeerState)
    → ShowsActor d most (record { number = number; start = start; disk = disk; lives = lives; running = None }) x
    → ShowsActor d most (record { number = number; start = start; disk = disk; lives = lives; running = None }) (with_stop x)
stops_idle d most number start disk lives x shows = record {
  disk = same_disk most disk x (with_stop x) refl refl refl refl shows.disk;
  now = record { stands = refl; over = shows.now.over };
  lasts = shows.lasts;
}

pub stops : (d : Descriptor) (most : ℕ) (number : ℕ) (start : Start) (disk : MemoryDisk) (lives : List Life) (r : Running) (life : Life) (x : PeerState) → life.link ≡ r.link
    → life.book ≡ r.peer.parts.holding.book → ShowsActor d most (record { number = number; start = start; disk = disk; lives = lives; running = Some r }) x
    → ShowsActor d most (record { number = number; start = start; disk = disk; lives = lives ++ life ∷ []; running = None }) (with_stop x)
stops d most number start disk lives r life x link book shows = record {
  disk = same_disk most disk x (with_stop x) refl refl refl refl shows.disk;
  now = record {
    stands = refl;
    over = one_over lives life shows.now.session shows.now.earlier x.sessions (ended most x r shows.now.session life link book shows.now.shows)
        shows.now.over shows.now.sessions;
  };
  lasts = stop_lasts d (part_in number start) most disk x shows.now.session shows.now.earlier r shows.disk shows.now.sessions
      (seen_so most disk x r shows.now.session (tied_now d (part_in number start) x.disk x.sessions (post_of r disk) shows.lasts) shows.now.shows) shows.lasts;
}

-- ---- a crash, behind a stop

pub crashes : (d : Descriptor) (most pick : ℕ) (number : ℕ) (start : Start) (old new : MemoryDisk) (lives : List Life) (running : Option Running) (x : PeerState)
    → disks.state_of new ≡ record (disks.state_of old) { history = settled (disks.state_of old).history (crash_image pick (disks.state_of old).history.epoch) }
    → ((call : Call) → disks.order_of new call ≡ disks.order_of old call)
    → ShowsActor d most (record { number = number; start = start; disk = old; lives = lives; running = running }) (with_stop x)
    → ShowsActor d most (record { number = number; start = start; disk = new; lives = lives; running = running }) (with_crash pick x)
crashes d most pick number start old new lives running x state orders shows = record {
  disk = same_disk most new (with_crash pick (with_stop x)) (with_crash pick x) refl refl refl refl
      (crashed most pick old new (with_stop x) shows.disk state orders);
  now = of running shows.now;
  lasts = last running shows.now shows.lasts;
}
  where
    last : (o : Option Running) → ShowsNow most (with_stop x) o (reverse lives) → LastsNow d (part_in number start) x.disk x.sessions old o
        → LastsNow d (part_in number start) (with_crash pick x).disk x.sessions new o
    last None now lasts = crashed_lasts d (part_in number start) pick x lasts
    last (Some r) now lasts = (let never = now.runs in cc)

    of : (o : Option Running) → ShowsNow most (with_stop x) o (reverse lives) → ShowsNow most (with_crash pick x) o (reverse lives)
    of None now = record { stands = refl; over = now.over }
    of (Some r) now = (let never = now.runs in cc)

-- ---- an opening

abbrev no_records : List Record
no_records = []

-- what may happen to a peer that doesn't run, and to one that does
may_open : (d : Descriptor) (x after : PeerState) → x.is_running ≡ false → Opens d x after ⊎ FailsToOpen d x after → MayOpen d x [] after
may_open d x after stands is =
    subst (λ (b : Bool). MatchBool b (Stays x [] after) ((Opens d x after ⊎ FailsToOpen d x after) × (no_records ≡ []))) (sym stands) (is, refl)

is_open : (d : Descriptor) (x : PeerState) → x.is_running ≡ true → MayOpen d x [] x
is_open d x runs = subst (λ (b : Bool). MatchBool b (Stays x [] x) ((Opens d x x ⊎ FailsToOpen d x x) × (no_records ≡ []))) (sym runs) (refl, refl)

pub stays_idle : (clock : ℕ) (x : PeerState) → x.is_running ≡ false → MayTakeTurn clock x [] x
stays_idle clock x stands = subst (λ (b : Bool). MatchBool b (TakesTurn clock x [] x) (Stays x [] x)) (sym stands) (refl, refl)

may_turn : (clock : ℕ) (x : PeerState) (added : List Record) (after : PeerState) → x.is_running ≡ true → TakesTurn clock x added after
    → MayTakeTurn clock x added after
may_turn clock x added after runs takes = subst (λ (b : Bool). MatchBool b (TakesTurn clock x added after) (Stays x added after)) (sym runs) takes

pub opens : (d : Descriptor) (most : ℕ) (number : ℕ) (before start : Start) (old new : MemoryDisk) (lives : List Life) (running : Option Running) → OpensAs d old new running
    → LosesNothing d (disks.state_of old).history (disks.state_of new).history
    → IfSome running (λ r. Begins d start (disks.state_of old) (disks.state_of new) r.peer) → IfSome running (λ r. AreTied r.peer.parts.holding)
    → start.asks ≡ before.asks → start.dialled.items ≡ before.dialled.items → length before.dialled.items ≤ 16
    → (x : PeerState) → most + 4 < 2 ^ 64 → ShowsActor d most (record { number = number; start = before; disk = old; lives = lives; running = None }) x
    → ActorOpens d most x (record { number = number; start = start; disk = new; lives = lives; running = running })
opens d most number before start old new lives None makes loses begins tied asks dialled few x low shows =
    let is : WasRefused d most x new = makes most x low shows.disk in record {
      after = is.after;
      opens = may_open d x is.after shows.now.stands (inr is.fails);
      shows = record {
        disk = is.shows_disk;
        now = record { stands = is.fails.stopped; over = subst (ShowLives (reverse lives)) (sym is.fails.same) shows.now.over };
        lasts = subst (λ (p : Part). LastsNow d p is.after.disk is.after.sessions new None) (sym (same_part number before start asks dialled))
            (refused_lasts d (part_in number before) most (most + 4) old new x is.after shows.disk is.shows_disk is.fails.calls loses is.fails.same
            shows.lasts);
      };
    }
opens d most number before start old new lives (Some r) makes loses begins tied asks dialled few x low shows =
    let is : HasOpened d most x new r = makes most x low shows.disk in record {
      after = is.after;
      opens = may_open d x is.after shows.now.stands (inl is.opens);
      shows = record {
        disk = is.shows_disk;
        now = record {
          runs = is.opens.runs;
          session = is.session;
          earlier = x.sessions;
          sessions = is.sessions;
          shows = is.shows;
          over = shows.now.over;
        };
        lasts = subst (λ (p : Part). LastsNow d p is.after.disk is.after.sessions new (Some r)) (sym (same_part number before start asks dialled))
            (opened_lasts d (part_in number before) most (most + 4) old new x is.after shows.disk is.shows_disk is.opens.calls loses start r
            begins asks dialled few is.opens.book (record {
              traffic = is.shows.link.traffic ∙ ap (λ (rs : List Record). Some rs) is.traffic;
              nexts = is.shows.link.nexts ∙ ap (λ (s : Session). length s.turns) (same_head is.session (new_session x is.after is.opens.book) x.sessions x.sessions
                  (sym is.sessions ∙ is.opens.is));
            }) tied shows.lasts is.opens.is);
      };
    }

-- a peer that runs isn't opened
pub stays_open : (d : Descriptor) (most : ℕ) (a : ActorState) (r : Running) (x : PeerState) → a.running ≡ Some r → ShowsActor d most a x → ActorOpens d most x a
stays_open d most a r x is shows =
    let now : IsPlaying most x r (reverse a.lives) = subst (λ (o : Option Running). ShowsNow most x o (reverse a.lives)) is shows.now in
    record { after = x; opens = is_open d x now.runs; shows = more_shown d most 4 a x shows }

-- ---- a turn

pub idles_on : (d : Descriptor) (clock most number : ℕ) (start : Start) (disk : MemoryDisk) (lives : List Life) (x : PeerState)
    → ShowsActor d most (record { number = number; start = start; disk = disk; lives = lives; running = None }) x
    → ActorTurns d clock most x (record { number = number; start = start; disk = disk; lives = lives; running = None })
idles_on d clock most number start disk lives x shows = record {
  after = x;
  added = [];
  takes = stays_idle clock x shows.now.stands;
  gained = tt;
  shows = more_shown d most 4 (record { number = number; start = start; disk = disk; lives = lives; running = None }) x shows;
}

module _ (d : Descriptor) (cue : Cue) (most number : ℕ) (start : Start) (disk : MemoryDisk) (lives : List Life) (r : Running) (t : Turned) (makes : TurnsAs cue disk r t)
    (keeps : KeepsPromises t.goes_on (post_of r disk) (post_of t.running t.disk)) (tied : AreTied t.running.peer.parts.holding) (x : PeerState)
    (low : most + 4 < 2 ^ 64) (shows : ShowsActor d most (record { number = number; start = start; disk = disk; lives = lives; running = Some r }) x) (hears : Hears cue x) where
  abbrev s : Session
  s = shows.now.session

  turned : ShowsTurn cue.clock most x s shows.now.earlier t
  turned = makes most x s shows.now.earlier low shows.now.sessions shows.disk shows.now.shows (hears shows.now.runs)

  pub goes_on : t.goes_on ≡ true → ActorTurns d cue.clock most x (record { number = number; start = start; disk = t.disk; lives = lives; running = Some t.running })
  goes_on on = record {
    after = turned.after;
    added = turned.added;
    takes = may_turn cue.clock x turned.added turned.after shows.now.runs turned.takes;
    gained = subst (HasGained (Some t.running) turned.added) (sym shows.now.sessions) (turned.shows.link.traffic ∙ ap (λ (rs : List Record). Some rs) turned.traffic);
    shows = record {
      disk = turned.shows_disk;
      now = record {
        runs = turned.runs ∙ on;
        session = turned.later;
        earlier = shows.now.earlier;
        sessions = turned.sessions;
        shows = turned.shows;
        over = shows.now.over;
      };
      lasts = turn_lasts d (part_in number start) (most + 4) cue.clock t.disk x turned.after turned.added turned.shows_disk turned.takes t.running (post_of r disk) t.goes_on keeps
          tied shows.lasts on;
    };
  }

  -- the session that a world has and that which the turn made
  same_later : turned.later ≡ with_turn turned.takes.session turned.added turned.takes.book x turned.after
  same_later = same_head turned.later (with_turn turned.takes.session turned.added turned.takes.book x turned.after) shows.now.earlier turned.takes.earlier
      (sym turned.sessions ∙ turned.takes.is)

  pub stops_then : (life : Life) → life.link ≡ t.running.link → life.book ≡ t.running.peer.parts.holding.book → t.goes_on ≡ false
      → ActorTurns d cue.clock most x (record { number = number; start = start; disk = t.disk; lives = lives ++ life ∷ []; running = None })
  stops_then life link book off = record {
    after = turned.after;
    added = turned.added;
    takes = may_turn cue.clock x turned.added turned.after shows.now.runs turned.takes;
    gained = tt;
    shows = record {
      disk = turned.shows_disk;
      now = record {
        stands = turned.runs ∙ off;
        over = one_over lives life turned.later shows.now.earlier turned.after.sessions
            (ended (most + 4) turned.after t.running turned.later life link book turned.shows) shows.now.over turned.sessions;
      };
      lasts = stopped_lasts d (part_in number start) (most + 4) cue.clock t.disk x turned.after turned.added turned.shows_disk turned.takes t.running (post_of r disk) t.goes_on keeps
          tied shows.lasts off (subst (λ (later : Session). IsSeen later (post_of t.running t.disk)) same_later
          (seen_so (most + 4) t.disk turned.after t.running turned.later tied turned.shows));
    };
  }

-- ---- its end

pub remains : (d : Descriptor) (most : ℕ) (a : ActorState) (x : PeerState) (r : Remains) → r.disk ≡ a.disk → r.lives.items ≡ a.lives → ShowsActor d most a (with_stop x) → ShowsRemains r x
remains d most a x r disk lives shows = record {
  unattached = shows.disk.unattached;
  history = ap (λ (m : MemoryDisk). attached (fresh x.disk.image) (disks.state_of m).history) disk ∙ shows.disk.history;
  over = subst (λ (ls : List Life). ShowLives (reverse ls) x.sessions) (sym lives) (over a.running shows.now);
}
  where
    over : (o : Option Running) → ShowsNow most (with_stop x) o (reverse a.lives) → ShowLives (reverse a.lives) x.sessions
    over None now = now.over
    over (Some running) now = (let never = now.runs in cc)

pub survives : (d : Descriptor) (most : ℕ) (a : ActorState) (x : PeerState) → ShowsActor d most a (with_stop x) → KeepsAnnounced d x
survives d most a x shows = survive d x.disk x.sessions (of a.running shows.now shows.lasts)
  where
    of : (o : Option Running) → ShowsNow most (with_stop x) o (reverse a.lives) → LastsNow d (part_of a) x.disk x.sessions a.disk o → AllLast d x.disk x.sessions
    of None now lasts = lasts.all
    of (Some running) now lasts = (let never = now.runs in cc)

pub runs : (d : Descriptor) (most : ℕ) (a : ActorState) (x : PeerState) → ShowsActor d most a (with_stop x) → AllKeep d (part_of a) x.disk x.sessions
runs d most a x shows = of a.running shows.now shows.lasts
  where
    of : (o : Option Running) → ShowsNow most (with_stop x) o (reverse a.lives) → LastsNow d (part_of a) x.disk x.sessions a.disk o
        → AllKeep d (part_of a) x.disk x.sessions
    of None now lasts = lasts.keep
    of (Some running) now lasts = (let never = now.runs in cc)
