-- What a run of a peer promises, from what it does.
use Rattle.std.proofs.Common.{◌≡◌, inl, inr, ⊎_elim, ℕ, ◌+◌, ◌<◌, ◌≤◌, ◌-◌, zero, suc, map, Bool, true, false, Some, None, Option, List, [], ◌∷◌, ◌++◌, length, refl, sym, ◌∙◌, ap, subst, arith}
use Rattle.std.specs.List.{AllByRecursion, list_any}
use Rattle.std.proofs.lemmas.Bool.{cases_lt}
use Rattle.std.proofs.lemmas.List.{length-map}
use Rattle.pp_terms.specs.Count.{HasRisen, capped}
use Rattle.pp_terms.specs.command.Report.{disk_fault_line}
use Rattle.pp_terms.specs.disk.Disk.{DiskState, Epoch, IsImage, IsKnown, GainsName, Throughout, moment_of}
use Rattle.pp_terms.specs.disk.Image.{StandsIn, holds, is_found}
use Rattle.pp_terms.specs.disk.Sound.{IsSound, BeganSound}
use Rattle.pp_terms.specs.format.Descriptor.{Descriptor, chunks_of}
use Rattle.pp_terms.specs.format.Messages.{Datagram}
use Rattle.pp_terms.specs.format.Traffic.{LinkState, Record, GainsRecords, GainsAddress}
use Rattle.pp_terms.proofs.Knowing.{known_on}
use Rattle.pp_terms.proofs.Risings.{risen_more, risen_less}
use Rattle.pp_traffic.specs.Committed.{is_in, AreCommitted, RequestsNone}
use Rattle.pp_traffic.specs.Keeping.{EachAnnounced, StoodThroughout, StandsSince}
use Rattle.pp_traffic.specs.Life.{closes}
use Rattle.pp_traffic.specs.Meter.{lets_send}
use Rattle.pp_traffic.specs.Serving.{ServesAll}
use Rattle.pp_traffic.specs.Tallied.{TookTurns, IsTallied}
use Rattle.pp_traffic.specs.Past.{EachRecord}
use Rattle.pp_traffic.specs.Turns.{is_closing, AtEndsOfTurnsBut, AtEndsBut}
use Rattle.pp_promises.specs.Datagrams.{IsWhole, PlansAll}
use Rattle.pp_promises.specs.Missing.{IsComplete, IsFirstMissing}
use Rattle.pp_promises.specs.Announced.{AcknowledgesFirst, AcknowledgesAll, TellsOfHeld, TellsAll}
use Rattle.pp_promises.specs.Answered.{LetsIn, LetsInBut, ChokesNone, KeepsUp, KeepsUpBut}
use Rattle.pp_promises.specs.Asked.{DialsBut}
use Rattle.pp_promises.specs.Premises.{IsCalm, IsWilling, IsSteady, CountsTell, refusals}
use Rattle.pp_promises.specs.Served.{LeavesFew, ServesBut}
use Rattle.pp_promises.specs.Stored.{StoresAll}
use Rattle.pp_counts.specs.Counts.{tally_of}
use Rattle.pp_outside.specs.Outside.{address_of}
use Rattle.pp_avail.specs.declared.ranker.Rank.{Rank}
use Rattle.pp_tree.specs.Book.{BookState, entry, IsBookOf}
use Rattle.pp_lives.specs.declared.lives.Far.{Far}
use Rattle.pp_paths.specs.Judge.{KeepsEntries}
use Rattle.pp_store.specs.Store.{StoreState, is_committed, is_held}
use Rattle.pp_holding.specs.Holding.{HoldingState}
use Rattle.pp_holding.proofs.Advancing.{advances_none}
use Rattle.pp_peer.specs.Dialling.{undialled}
use Rattle.pp_peer.specs.Greeting.{IsFarewell, fars_of}
use Rattle.pp_peer.specs.Greeting as farewells
use Rattle.pp_peer.specs.Standing.{Beginning}
use Rattle.pp_core.specs.Keeping.{IsThere, IsKeeping}
use Rattle.pp_core.specs.Offering.{FetchesAll, AsksOrHolds}
use Rattle.pp_core.specs.Opening.{WantsIf, beginning}
use Rattle.pp_core.specs.Peers.{PeerState}
use Rattle.pp_core.specs.Promising.{IsFoundIn}
use Rattle.pp_core.specs.Storing.{StoresIn}
use Rattle.pp_core.specs.Turning.{limited, with_limit}
use Rattle.pp_core.proofs.Dialled.{misses_more, dials_but}
use Rattle.pp_core.proofs.Keeping.{kept_on}
use Rattle.pp_core.proofs.Firsts.{begun_acks, begun_unrepeated}
use Rattle.pp_core.proofs.LatelySent.{begun_wrote}
use Rattle.pp_core.proofs.Remembered.{begun_keeps, begun_taken}
use Rattle.pp_core.proofs.Unchoked.{begun_unchoked, chokes_none, close_chokes_none}
use Rattle.pp_node.specs.Looking.{IsOf, Lasts}
use Rattle.pp_node.specs.Outside.{Outside}
use Rattle.pp_node.specs.Preparing.{IsUnsent, IsFresh, IsReady}
use Rattle.pp_node.specs.Promising.{IsClosed, HasRun, IsStopped, LeavesFile, Binds, devices_of, IsKeptTo, PeerEnds, DialsAsTold, AsksAsOffered}
use Rattle.pp_node.specs.Seeding.{words_of, dials_of, set_of, HasEvery}
use Rattle.pp_node.specs.Status.{number_of}
use Rattle.pp_node.specs.Text.{Says}
use Rattle.pp_turns.specs.Taking.{Ends}
use Rattle.pp_turns.specs.Turning.{Post, post, stock_in, IsBegun, Went, TakesTurns}
use Rattle.pp_node.specs.declared.preparing.Peering.{Peering}
use Rattle.pp_node.specs.declared.status.Status.{Status}
use Rattle.pp_turns.specs.Promising.{Ended, faults_of, Tells, FailsFew, IsTelling, IsCalmLink, HasDialled}
use Rattle.pp_turns.proofs.Between.{begun_limited}
use Rattle.pp_turns.proofs.Promising.{each_read, fails_at_most, in_turns_closed}
use Rattle.pp_turns.proofs.Steps.{each_announced, turns_closed}

-- ---- a peer that was made ready

-- What holds once it was: it has begun, and stands for no traffic yet.
pub record WasReady (w : Peering) (old new : Outside) (opened : DiskState) (listens : LinkState) (first : PeerState) : Type 0 where
  pub begun : IsBegun (beginning first (moment_of opened.history)) (post first opened listens)
  pub swarm : first.parts.holding.store.descriptor ≡ w.descriptor.now
  pub idle : w.asks ≡ None → first.parts.fetching ≡ None
  pub dials : first.dials ≡ map undialled w.dial.now.items
  pub fresh : IsFresh w.descriptor.now old.disk opened first
  pub tells : opened.tells ≡ old.disk.tells
  pub honest : opened.honest ≡ old.disk.honest
  pub faults : old.disk.faults ≤ opened.faults
  pub hard : old.disk.hard ≤ opened.hard
  pub unsent : IsUnsent old.link listens
  pub bound : GainsAddress old.link.bound (words_of w).listen listens.bound
  pub lasts : IsKnown old.disk → Lasts w.descriptor.now opened.history
  pub named : IsKnown old.disk → GainsName old.disk.history.names w.store.now opened.history.names
  pub unread : new.source ≡ old.source

module _ (w : Peering) (old new : Outside) (opened : DiskState) (listens : LinkState) (first : PeerState) where
  pub was_ready : (len : ℕ) → IsReady w old.disk opened first len → IsUnsent old.link listens
      → GainsAddress old.link.bound (words_of w).listen listens.bound → (IsKnown old.disk → Lasts w.descriptor.now opened.history)
      → (IsKnown old.disk → GainsName old.disk.history.names w.store.now opened.history.names) → new.source ≡ old.source
      → WasReady w old new opened listens first
  was_ready len ready unsent bound lasts named unread =
      let d = w.descriptor.now in
      record {
        begun = record {
          past = omega arith;
          stands = ready.stands;
          counts = ready.begun.counts;
          live = ready.begun.holding.live;
          wrote = begun_wrote (beginning first (moment_of opened.history)).d d w.random w.asks w.dial.now.items first ready.begun;
          unchoked = begun_unchoked (beginning first (moment_of opened.history)).d d w.random w.asks w.dial.now.items first ready.begun;
          told = begun_keeps (beginning first (moment_of opened.history)).d d w.random w.asks w.dial.now.items first ready.begun;
          taken = begun_taken d w.random w.asks w.dial.now.items first ready.begun;
          unrepeated = begun_unrepeated d w.random w.asks w.dial.now.items first ready.begun;
          acks = begun_acks (beginning first (moment_of opened.history)).d d w.random w.asks w.dial.now.items first ready.begun;
          held = ready.held;
        };
        swarm = ready.begun.holding.descriptor;
        idle = λ none. subst (λ (o : Option Rank). WantsIf (chunks_of d) (is_committed first.parts.holding.store) o first.parts.fetching) none ready.begun.fetching;
        dials = ready.begun.dials;
        fresh = ready.fresh;
        tells = ready.tells;
        honest = ready.honest;
        faults = ready.faults;
        hard = ready.hard;
        unsent = unsent;
        bound = bound;
        lasts = lasts;
        named = named;
        unread = unread;
      }

  -- A peer that asks for chunks below a number alone was made ready, too.
  pub was_limited : (limit : ℕ) → WasReady w old new opened listens first
      → WasReady w old new opened listens (record first { parts = with_limit limit first.parts })
  was_limited limit r = record {
    begun = begun_limited limit (beginning first (moment_of opened.history)) (post first opened listens) r.begun;
    swarm = r.swarm;
    idle = λ none. ap (limited limit) (r.idle none);
    dials = r.dials;
    fresh = record {
      count = r.fresh.count;
      started = r.fresh.started;
      begins = r.fresh.begins;
      held = r.fresh.held;
      taken = r.fresh.taken;
      kept = λ known began. kept_on (moment_of opened.history) first (record first { parts = with_limit limit first.parts }) opened opened []
          (advances_none (stock_in (post first opened listens))) (r.fresh.kept known began);
    };
    tells = r.tells;
    honest = r.honest;
    faults = r.faults;
    hard = r.hard;
    unsent = r.unsent;
    bound = r.bound;
    lasts = r.lasts;
    named = r.named;
    unread = r.unread;
  }

-- A peer's book at the end.
pub record HasBook (last : PeerState) (book : BookState) : Type 0 where
  pub book_is : book ≡ last.parts.holding.book
  pub rooted : IsBookOf last.parts.holding.store.descriptor book

farewell_closes : (d : Descriptor) (moment : ℕ) (fars : ℕ → Option Far) (r : Record) → IsFarewell d moment fars r → is_closing d r ≡ true
farewell_closes d moment fars r f =
    subst (λ (x : Record). is_closing d x ≡ true) (sym f.is) (ap (λ (x : Datagram). closes x.messages.read) f.written.read)

farewells_close : (d : Descriptor) (moment : ℕ) (fars : ℕ → Option Far) (xs : List Record) → AllByRecursion (IsFarewell d moment fars) xs
    → AllByRecursion (λ r. is_closing d r ≡ true) xs
farewells_close d moment fars [] all = tt
farewells_close d moment fars (r ∷ xs) all = (farewell_closes d moment fars r all.0, farewells_close d moment fars xs all.1)

module _ (w : Peering) (old new : Outside) (opened : DiskState) (listens : LinkState) (first : PeerState)
    (r : WasReady w old new opened listens first) where
  abbrev pub d : Descriptor
  d = w.descriptor.now

  abbrev pub b : Beginning
  b = beginning first (moment_of opened.history)

  abbrev pub start : Post
  start = post first opened listens

  pub has_begun : IsBegun b start
  has_begun = r.begun

  pub d_is : b.d ≡ d
  d_is = r.swarm

  pub known_then : IsKnown old.disk → IsKnown opened
  known_then = known_on old.disk opened r.tells r.honest

  module _ (taken : ℕ) (last : PeerState) (t : Went b taken start (post last new.disk new.link)) (k : HasBook last new.book) where
    pub known_before : IsKnown new.disk → IsKnown old.disk
    known_before known =
        known_on opened old.disk (sym r.tells) (sym r.honest) (known_on new.disk opened (sym t.advances.disk.tells) (sym t.advances.disk.honest) known)

    pub last_d : last.parts.holding.store.descriptor ≡ d
    last_d = t.advances.descriptor ∙ d_is

    pub first_same : IsKnown old.disk → new.disk.history.first ≡ opened.history.first
    first_same known = (t.advances.disk.attachment (known_then known)).first

    pub start_same : IsKnown old.disk → new.disk.history.start ≡ opened.history.start
    start_same known = (t.advances.disk.attachment (known_then known)).start

    pub found_same : IsKnown old.disk → new.disk.history.found ≡ opened.history.found
    found_same known = (t.advances.disk.attachment (known_then known)).found

    pub began_then : IsKnown old.disk → BeganSound d new.disk.history → BeganSound d opened.history
    began_then known began = subst (λ (e : Epoch). (image : List ℕ) → IsImage e image → IsSound d image) (first_same known) began

    pub stood_then : IsKnown old.disk → (i : ℕ) → StoodThroughout d new.disk.history i → StoodThroughout d opened.history i
    stood_then known i stood = subst (λ (e : Epoch). (image : List ℕ) → IsImage e image → StandsIn d image i) (first_same known) stood

    pub keeping : IsKnown old.disk → BeganSound d new.disk.history → IsKeeping b.since last new.disk t.added
    keeping known began = t.keeps (r.fresh.kept known (began_then known began))

    pub lasts_now : IsKnown old.disk → Lasts d new.disk.history
    lasts_now known = record {
      stood = λ i stood. subst (λ (m : ℕ). StandsSince d new.disk.history m i) (sym (start_same known))
          (subst (λ (x : Descriptor). (moment : ℕ) → moment ≤ moment_of opened.history → Throughout opened.history moment (λ image. StandsIn x image i)
          → Throughout new.disk.history moment (λ image. StandsIn x image i)) d_is
          (t.advances.goes_on (known_then known) i (r.fresh.taken known i (stood_then known i stood)))
          opened.history.start (r.fresh.started known) ((r.lasts known).stood i (stood_then known i stood)));
      sound = λ began. subst (λ (m : ℕ). Throughout new.disk.history m (IsSound d)) (sym (start_same known))
          (subst (λ (x : Descriptor). (moment : ℕ) → moment ≤ moment_of opened.history → Throughout opened.history moment (IsSound x)
          → Throughout new.disk.history moment (IsSound x)) d_is
          (t.advances.sound b.since (r.fresh.kept known (began_then known began)).kept)
          opened.history.start (r.fresh.started known) ((r.lasts known).sound (began_then known began)));
    }

    pub announced_now : IsKnown old.disk → BeganSound d new.disk.history → EachAnnounced d (StandsSince d new.disk.history) t.added
    announced_now known began =
        subst (λ (x : Descriptor). EachAnnounced x (StandsSince x new.disk.history) t.added) last_d
        (each_announced last.parts.holding.store.descriptor (IsThere last new.disk) (StandsSince last.parts.holding.store.descriptor new.disk.history)
        (λ moment i at. at.stands) t.added (keeping known began).announced)

    pub rooted_now : IsBookOf d new.book
    rooted_now = subst (λ (x : Descriptor). IsBookOf x new.book) last_d k.rooted

    pub took_now : TookTurns taken old.link new.link t.added
    took_now = record {
      nexts = λ some. t.took.nexts some ∙ ap (λ (n : ℕ). capped (n + taken)) r.unsent.nexts;
      still = λ none. t.took.still none ∙ r.unsent.nexts;
      refused = t.took.refused;
      each = t.took.each;
      why = ⊎_elim (λ none. inl none) (λ risen. inr (risen_less old.link.faults listens.faults new.link.faults r.unsent.later risen)) t.took.why;
    }

    pub asks_none_now : w.asks ≡ None → RequestsNone d t.added
    asks_none_now none = subst (λ (x : Descriptor). RequestsNone x t.added) d_is
        (t.asks_none (r.idle none))

    pub begins_now : IsKnown old.disk → IsOf d new.disk.history.found
    begins_now known = subst (IsOf d) (sym (found_same known)) (r.fresh.begins known)

    abbrev pub peer_ends : (status : Status) → Binds status (words_of w).listen old.link new.link → LeavesFile status old new → PeerEnds (number_of status) (words_of w) old new
    peer_ends status bound leaves = record {
      status = status;
      number = refl;
      added = t.added;
      gained = subst (λ (o : Option (List Record)). GainsRecords o t.added new.link.traffic) r.unsent.traffic t.gained;
      serves = subst (λ (x : BookState). ServesAll d (entry x) (lets_send d.chunk) t.added) (sym k.book_is)
          (subst (λ (x : Descriptor). ServesAll x (entry last.parts.holding.book) (lets_send x.chunk) t.added) d_is t.ledger.served);
      plans = subst (λ (x : Descriptor). PlansAll x (lets_send x.chunk) t.added) d_is t.ledger.plans;
      whole = subst (λ (x : Descriptor). AllByRecursion (IsWhole x) t.added) d_is t.whole;
      keeps = λ known. record { held = (lasts_now known).stood; announced = announced_now known };
      lasts = lasts_now;
      named = λ known. subst (λ (o : Option (List (List ℕ))). GainsName old.disk.history.names w.store.now o)
          (sym (t.advances.disk.attachment (known_then known)).names) (r.named known);
      bound = bound;
      leaves = leaves;
      unread = r.unread;
      rooted = inr rooted_now;
    }

    pub bound_now : GainsAddress old.link.bound (words_of w).listen new.link.bound
    bound_now = subst (GainsAddress old.link.bound (words_of w).listen) (sym t.bound) r.bound

    -- ---- the turns were taken

    pub committed_now : (i : ℕ) → is_committed first.parts.holding.store i ≡ true → is_in (set_of last) i ≡ true
    committed_now i at = t.advances.committed i at

    pub are_now : length (set_of last) ≡ chunks_of last.parts.holding.store.descriptor → AreCommitted d new.disk t.added (set_of last)
    are_now sized = record {
      size = sized ∙ ap chunks_of last_d;
      announced = subst (λ (x : Descriptor). EachAnnounced x (λ moment i. is_in (set_of last) i ≡ true) t.added) d_is
          (each_announced b.d (λ moment i. (is_in (set_of last) i ≡ true) × (b.since ≤ moment)) (λ moment i. is_in (set_of last) i ≡ true)
          (λ moment i of_it. of_it.0) t.added t.ledger.announced);
      stand = λ known began i at. subst (λ (x : Descriptor). StandsSince x new.disk.history (moment_of new.disk.history) i) last_d
          ((keeping (known_before known) began).kept.stands i at);
      kept = λ known i stood. committed_now i (r.fresh.taken (known_before known) i (stood_then (known_before known) i stood));
    }

    pub tallied_now : IsTallied (tally_of last.parts.counts) taken t.added
    tallied_now = record {
      turns = t.turns;
      datagrams = t.ledger.tied.datagrams;
      sent = t.ledger.tied.sent;
      short = t.ledger.tied.short;
      receive_faults = let all = t.took.each in let is = t.receive_faults in omega (arith, all, is);
    }

    abbrev pub run_now : (n : ℕ) → taken ≡ n → length (set_of last) ≡ chunks_of last.parts.holding.store.descriptor → IsClosed d old new t.added
        → HasRun (words_of w) n old new t.added
    run_now n is sized closed = record {
      committed = set_of last;
      tally = tally_of last.parts.counts;
      are = are_now sized;
      found = λ known i within at. committed_now i (r.fresh.held known i within
          ∙ subst (λ (bytes : List ℕ). is_found d bytes i ≡ true) (found_same known) at);
      begins = begins_now;
      took = subst (λ (m : ℕ). TookTurns m old.link new.link t.added) is took_now;
      tallied = subst (λ (m : ℕ). IsTallied (tally_of last.parts.counts) m t.added) is tallied_now;
      closed = closed;
      rooted = rooted_now;
    }

    pub stopped_now : taken ≤ w.turns → 0 < taken → HasRisen opened.hard new.disk.hard → Says disk_fault_line old.sink new.sink
        → IsStopped (words_of w) old new t.added
    stopped_now within some hard said = record {
      taken = taken;
      some = some;
      within = within;
      took = took_now;
      hard = risen_less old.disk.hard opened.hard new.disk.hard r.hard hard;
      begins = begins_now;
      said = said;
      rooted = rooted_now;
    }

  -- where the disk refused something that was to be kept nothing is promised
  pub unwilling : HasRisen opened.hard new.disk.hard → IsWilling old.disk new.disk → ⊥
  unwilling hard willing = willing.hard (risen_less old.disk.hard opened.hard new.disk.hard r.hard hard)

  pub unkept : (added : List Record) → HasRisen opened.hard new.disk.hard → IsKeptTo d old new added
  unkept added hard = record {
    stores = λ steady. absurd (unwilling hard steady.willing);
    serves_owed = λ before tells steady counts. absurd (unwilling hard steady.willing);
    keeps_up = λ before tells willing counts. absurd (unwilling hard willing);
    lets_in = λ before tells willing counts. absurd (unwilling hard willing);
    chokes_none = λ before tells willing. absurd (unwilling hard willing);
    tells = λ before tells steady calm. absurd (unwilling hard steady.willing);
    acknowledges = λ before tells steady calm. absurd (unwilling hard steady.willing);
  }

  -- ---- and the channels closed

  module _ (most : ℕ) (fetches : Bool) (last : PeerState) (e : Ends b most fetches start (post last new.disk new.link)) where
    abbrev pub taken_in : ℕ
    taken_in = e.takes.taken

    pub closed_turns : (t : TakesTurns b taken_in start (post last new.disk new.link)) × (t.went.added ≡ e.closes.parting.flushes.added ++ e.takes.some.turns.turns.went.added)
    closed_turns = turns_closed taken_in b start e.mid (post last new.disk new.link) e.disk e.closes e.takes.some.turns.turns

    unfoldable pub went_closed : Went b taken_in start (post last new.disk new.link)
    went_closed = closed_turns.0.went

    mid_d : e.mid.peer.parts.seats.descriptor ≡ d
    mid_d = e.takes.some.turns.turns.stands.seats.swarm ∙ d_is

    pub is_closed : IsClosed d old new went_closed.added
    unfolding went_closed
    is_closed = record {
      turned = e.takes.some.turns.turns.went.added;
      last = e.closes.parting.flushes.added;
      behind = closed_turns.1;
      closing = subst (λ (x : Descriptor). AllByRecursion (λ y. is_closing x y ≡ true) e.closes.parting.flushes.added) mid_d
          (farewells_close e.mid.peer.parts.seats.descriptor (moment_of e.mid.disk.history) (fars_of e.mid.peer.parts) e.closes.parting.flushes.added
          e.closes.parting.others);
      beginning = b;
      swarm = d_is;
      refused = e.takes.some.turns.turns.refused;
      peer = e.mid.peer.parts;
      stands = e.takes.some.turns.turns.stands;
      each = λ seat far within is_far proven. ⊎_elim
          (λ closed. inl (subst (λ (s : DiskState). farewells.IsClosed d (moment_of s.history) far e.closes.parting.flushes.added) (sym e.disk)
          (subst (λ (x : Descriptor). farewells.IsClosed x (moment_of e.mid.disk.history) far e.closes.parting.flushes.added) mid_d closed)))
          (λ risen. inr (risen_less old.link.faults e.mid.link.faults new.link.faults
          (let h1 = r.unsent.later in let h2 = e.takes.some.turns.turns.went.later in omega (arith, h1, h2)) risen))
          (e.closes.parting.each seat far within is_far proven);
    }

    pub turned_is : is_closed.turned ≡ e.takes.some.turns.turns.went.added
    unfolding is_closed
    turned_is = refl

    -- what was committed when the turns ended is committed
    pub store_same : last.parts.holding.store ≡ e.mid.peer.parts.holding.store
    store_same = ap (λ (h : HoldingState). h.store) e.closes.parting.flushes.holding

    pub early_now : taken_in < most → HasEvery (set_of last)
    early_now lt = subst (λ (s : StoreState). HasEvery s.committed) (sym store_same) (e.takes.early lt).1

    pub all_taken : (fetches ≡ true → HasEvery (set_of last) → ⊥) → taken_in ≡ most
    all_taken never = ⊎_elim
        (λ lt. absurd (never (e.takes.early lt).0 (early_now lt)))
        (λ le. let within = e.takes.within in omega (arith, within, le))
        (cases_lt taken_in most)

    last_sized : length (set_of last) ≡ chunks_of d
    last_sized = e.sized ∙ ap chunks_of (went_closed.advances.descriptor ∙ d_is)

    pub complete_now : HasEvery (set_of last) → IsComplete d (set_of last)
    complete_now all i within = all i (subst (λ (n : ℕ). i < n) (sym last_sized) within)

    pub missing_now : (i : ℕ) → i < length (set_of last) → is_in (set_of last) i ≡ false → ((k : ℕ) → k < i → is_in (set_of last) k ≡ true)
        → IsFirstMissing d (set_of last) i
    missing_now i within missing before = record { below = subst (λ (n : ℕ). i < n) last_sized within; missing = missing; none_before = before }

    -- ---- what was promised

    abbrev turned : List Record
    turned = e.takes.some.turns.turns.went.added

    abbrev closing : List Record
    closing = e.closes.parting.flushes.added

    closes_all : AllByRecursion (λ y. is_closing d y ≡ true) closing
    closes_all = subst (λ (x : Descriptor). AllByRecursion (λ y. is_closing x y ≡ true) closing) mid_d
        (farewells_close e.mid.peer.parts.seats.descriptor (moment_of e.mid.disk.history) (fars_of e.mid.peer.parts) closing e.closes.parting.others)

    stores_closed : EachRecord (StoresIn d (entry last.parts.holding.book) last.parts.holding.store) (closing ++ turned)
    stores_closed = behind closing e.closes.parting.others
      where
        before : EachRecord (StoresIn d (entry last.parts.holding.book) last.parts.holding.store) turned
        before = subst (λ (x : Descriptor). EachRecord (StoresIn x (entry last.parts.holding.book) last.parts.holding.store) turned) d_is
            (subst (λ (h : HoldingState). EachRecord (StoresIn b.d (entry h.book) h.store) turned) (sym e.closes.parting.flushes.holding)
            e.takes.some.turns.keeps.stores)

        behind : (xs : List Record) → AllByRecursion (IsFarewell e.mid.peer.parts.seats.descriptor (moment_of e.mid.disk.history) (fars_of e.mid.peer.parts)) xs
            → EachRecord (StoresIn d (entry last.parts.holding.book) last.parts.holding.store) (xs ++ turned)
        behind [] all = before
        behind (x ∷ xs) all = (
          subst (λ (y : Record). StoresIn d (entry last.parts.holding.book) last.parts.holding.store (xs ++ turned) y) (sym all.0.is)
              (λ life i bytes brings proof. absurd (let never = brings.comes in cc)),
          behind xs all.1,
        )

    module _ (k : HasBook last new.book) where
      -- what is held in the store is in what the disk reads
      pub held_now : IsSteady d old.disk new.disk → (i : ℕ) → is_held last.parts.holding.store i ≡ true → holds d new.disk.history.reads i ≡ true
      held_now steady i is = subst (λ (x : Descriptor). holds x new.disk.history.reads i ≡ true)
          (went_closed.advances.descriptor ∙ d_is)
          ((keeping taken_in last went_closed k steady.willing.known steady.began).kept.holds closed_turns.0.live i is).held

      stores_now : IsSteady d old.disk new.disk → StoresAll d (entry new.book) new.disk.history.reads went_closed.added
      unfolding went_closed
      stores_now steady = subst (λ (rs : List Record). StoresAll d (entry new.book) new.disk.history.reads rs) (sym closed_turns.1)
          (subst (λ (x : BookState). StoresAll d (entry x) new.disk.history.reads (closing ++ turned)) (sym k.book_is)
          (each_read d (entry last.parts.holding.book) last.parts.holding.store new.disk.history.reads (held_now steady) (closing ++ turned)
          stores_closed))

      -- nothing closed a channel before the turns ended
      unclosed : (before : List Record) → old.link.traffic ≡ Some before → list_any (is_closing d) turned ≡ false
      unclosed before tells = subst (λ (x : Descriptor). list_any (is_closing x) turned ≡ false) d_is
          (e.takes.some.turns.keeps.closes_none before (r.unsent.traffic ∙ tells))

      -- what both counts rose by in the run is no less than what they rose by in its turns
      disk_same : e.mid.disk.faults ≡ new.disk.faults
      disk_same = sym (ap (λ (x : DiskState). x.faults) e.disk)

      link_later : e.mid.link.faults ≤ new.link.faults
      link_later = e.closes.parting.flushes.later

      abbrev most_failed : ℕ
      most_failed = refusals (devices_of old) (devices_of new)

      within_refusals : faults_of e.mid ≤ faults_of start + most_failed
      within_refusals =
          let listened = r.unsent.later in
          let opened_later = r.faults in
          omega (arith, disk_same, link_later, listened, opened_later)

      mid_tells : CountsTell (devices_of new) → Tells e.mid
      mid_tells counts = record {
        link = (let low = counts.link in omega (arith, low, link_later));
        disk = (let low = counts.disk in omega (arith, low, disk_same));
      }

      -- what fails at the ends of few turns fails at the ends of no more in the whole traffic
      ends_closed : (P : List Record → Type 0) (before : List Record) → old.link.traffic ≡ Some before → FailsFew Ended start e.mid P turned
          → AtEndsBut most_failed d P went_closed.added
      unfolding went_closed
      ends_closed P before tells few =
          subst (λ (rs : List Record). AtEndsBut most_failed d P rs) (sym closed_turns.1)
          (subst (λ (rs : List Record). AtEndsOfTurnsBut most_failed P rs)
          (sym (in_turns_closed d closing turned closes_all (unclosed before tells)))
          (fails_at_most few.0 most_failed P turned
          (let sum = few.1 in let within = within_refusals in omega (arith, sum, within)) few.2))

      found_now : IsSteady d old.disk new.disk → IsFoundIn b new.disk.history
      found_now steady i stood = r.fresh.taken steady.willing.known i
          (stood_then taken_in last went_closed k steady.willing.known i
          (subst (λ (x : Descriptor). StoodThroughout x new.disk.history i) d_is stood))

      served_now : (before : List Record) → old.link.traffic ≡ Some before → IsSteady d old.disk new.disk → CountsTell (devices_of new)
          → ServesBut most_failed d (lets_send d.chunk) new.disk.history went_closed.added
      served_now before tells steady counts =
          subst (λ (x : Descriptor). AtEndsBut most_failed d (LeavesFew most_failed x (lets_send x.chunk) new.disk.history) went_closed.added) d_is
          (ends_closed (LeavesFew most_failed b.d (lets_send b.d.chunk) new.disk.history) before tells
          (e.takes.some.turns.keeps.serves telling new.disk.history (found_now steady) most_failed within_refusals))
        where
          telling : IsTelling b start e.mid
          telling = record {
            keeping = r.fresh.kept steady.willing.known (began_then taken_in last went_closed k steady.willing.known steady.began);
            tells = mid_tells counts;
          }

      kept_up_now : (before : List Record) → old.link.traffic ≡ Some before → IsWilling old.disk new.disk → CountsTell (devices_of new)
          → KeepsUpBut most_failed d went_closed.added
      kept_up_now before tells willing counts = subst (λ (x : Descriptor). AtEndsBut most_failed d (KeepsUp x) went_closed.added) d_is
          (ends_closed (KeepsUp b.d) before tells
          (e.takes.some.turns.keeps.keeps_up before (r.unsent.traffic ∙ tells) (mid_tells counts)))

      let_in_now : (before : List Record) → old.link.traffic ≡ Some before → IsWilling old.disk new.disk → CountsTell (devices_of new)
          → LetsInBut most_failed d went_closed.added
      let_in_now before tells willing counts = subst (λ (x : Descriptor). AtEndsBut most_failed d (LetsIn x) went_closed.added) d_is
          (ends_closed (LetsIn b.d) before tells
          (e.takes.some.turns.keeps.lets_in before (r.unsent.traffic ∙ tells) (mid_tells counts)))

      unchoked_now : (before : List Record) → old.link.traffic ≡ Some before → IsWilling old.disk new.disk → ChokesNone most_failed d went_closed.added
      unfolding went_closed
      unchoked_now before tells willing = subst (λ (rs : List Record). ChokesNone most_failed d rs) (sym closed_turns.1)
          (close_chokes_none most_failed d e.mid.peer last e.mid.link new.link e.mid.disk e.closes mid_d turned
          (subst (λ (x : Descriptor). ChokesNone most_failed x turned) d_is
          (chokes_none most_failed b.d e.mid.peer.parts turned (e.takes.some.turns.keeps.unchoked before (r.unsent.traffic ∙ tells)))))

      calm_turns : IsCalm old.link.faults new.link.faults → IsCalmLink start e.mid
      calm_turns calm risen = calm (risen_more old.link.faults e.mid.link.faults new.link.faults link_later
          (risen_less old.link.faults listens.faults e.mid.link.faults r.unsent.later risen))

      tells_now : (before : List Record) → old.link.traffic ≡ Some before → IsSteady d old.disk new.disk → IsCalm old.link.faults new.link.faults
          → TellsAll d new.disk.history went_closed.added
      unfolding went_closed
      tells_now before tells steady calm = subst (λ (x : Descriptor). AtEndsBut 0 d (TellsOfHeld x new.disk.history) went_closed.added) d_is
          (subst (λ (rs : List Record). AtEndsBut 0 d (TellsOfHeld b.d new.disk.history) rs) (sym closed_turns.1)
          (subst (λ (rs : List Record). AtEndsOfTurnsBut 0 (TellsOfHeld b.d new.disk.history) rs)
          (sym (in_turns_closed d closing turned closes_all (unclosed before tells)))
          (e.takes.some.turns.keeps.tells before (r.unsent.traffic ∙ tells) (calm_turns calm) new.disk.history (found_now steady))))

      -- the book is that of the turns
      book_same : new.book ≡ e.mid.peer.parts.holding.book
      book_same = k.book_is ∙ ap (λ (h : HoldingState). h.book) e.closes.parting.flushes.holding

      acknowledges_now : (before : List Record) → old.link.traffic ≡ Some before → IsSteady d old.disk new.disk
          → IsCalm old.link.faults new.link.faults → AcknowledgesAll d (entry new.book) went_closed.added
      unfolding went_closed
      acknowledges_now before tells steady calm =
          subst (λ (x : Descriptor). AtEndsBut 0 d (AcknowledgesFirst x (entry new.book)) went_closed.added) d_is
          (subst (λ (rs : List Record). AtEndsBut 0 d (AcknowledgesFirst b.d (entry new.book)) rs) (sym closed_turns.1)
          (subst (λ (rs : List Record). AtEndsOfTurnsBut 0 (AcknowledgesFirst b.d (entry new.book)) rs)
          (sym (in_turns_closed d closing turned closes_all (unclosed before tells)))
          (e.takes.some.turns.keeps.acknowledges before (r.unsent.traffic ∙ tells) (calm_turns calm) (entry new.book)
          (subst (λ (x : BookState). KeepsEntries (entry e.mid.peer.parts.holding.book) (entry x)) (sym book_same)
          (λ layer offset digest here. here)))))

      pub kept_to_now : IsKeptTo d old new went_closed.added
      kept_to_now = record {
        stores = stores_now;
        serves_owed = served_now;
        keeps_up = kept_up_now;
        lets_in = let_in_now;
        chokes_none = unchoked_now;
        tells = tells_now;
        acknowledges = acknowledges_now;
      }

      pub asked_now : FetchesAll b.d first.parts → AsksAsOffered d old new went_closed.added
      asked_now fetches before tells steady counts =
          subst (λ (x : Descriptor). AtEndsBut most_failed d (AsksOrHolds x (chunks_of x) (λ i. holds d new.disk.history.reads i)) went_closed.added) d_is
          (ends_closed (AsksOrHolds b.d (chunks_of b.d) (λ i. holds d new.disk.history.reads i)) before tells
          (e.takes.some.turns.keeps.asks fetches (mid_tells counts) (λ i. holds d new.disk.history.reads i)
          (λ i is. held_now steady i (subst (λ (s : StoreState). is_held s i ≡ true) (sym store_same) is))))

      pub dialled_now : DialsAsTold d (dials_of w) old new went_closed.added
      unfolding went_closed
      dialled_now few some before tells willing counts = of taken_in refl
        where
          length_is : length (dials_of w) ≡ length w.dial.now.items
          length_is = length-map w.dial.now.items address_of

          dialled : (n : ℕ) → taken_in ≡ suc n → HasDialled b w.dial.now.items start e.mid turned
          dialled n is = e.takes.some.turns.dials w.dial.now.items r.dials (omega (arith, length_is, few)) before (r.unsent.traffic ∙ tells)
              (mid_tells counts) (suc n) (omega (arith, is))

          dials : HasDialled b w.dial.now.items start e.mid turned → DialsBut most_failed b.d (dials_of w) (closing ++ turned)
          dials h = subst (λ (rs : List Record). DialsBut most_failed b.d (dials_of w) (closing ++ rs)) (sym h.behind)
              (dials_but most_failed b.d (dials_of w) closing h.rest h.turn
              (subst (λ (x : Descriptor). AllByRecursion (λ y. is_closing x y ≡ true) closing) (sym d_is) closes_all)
              (subst (λ (rs : List Record). list_any (is_closing b.d) rs ≡ false) h.behind
              (e.takes.some.turns.keeps.closes_none before (r.unsent.traffic ∙ tells)))
              h.one
              (misses_more (faults_of e.mid - faults_of start) most_failed b.d (dials_of w) h.turn
              (let within = within_refusals in omega (arith, within)) h.misses))

          of : (n : ℕ) → taken_in ≡ n → DialsBut most_failed d (dials_of w) went_closed.added
          of zero is = absurd (let still = (took_now taken_in last went_closed k).still is in omega (arith, still, some))
          of (suc n) is = subst (λ (rs : List Record). DialsBut most_failed d (dials_of w) rs) (sym closed_turns.1)
              (subst (λ (x : Descriptor). DialsBut most_failed x (dials_of w) (closing ++ turned)) d_is (dials (dialled n is)))
