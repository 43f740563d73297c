-- How a run of `play` ends, from how its turns do.
use Rattle.std.proofs.Common.{◌≡◌, inl, inr, ⊎_elim, ℕ, ◌<◌, ◌≤◌, Bool, true, false, ◌||◌, Option, Some, None, List, [], ◌∷◌, length, take, Err, refl, sym, ◌∙◌, ap, subst, arith}
use Rattle.std.specs.Prelude.{is_some}
use Rattle.std.specs.List.{AllByRecursion, list_any}
use Rattle.std.proofs.lemmas.Bool.{cases_lt, false≢true}
use Rattle.std.proofs.lemmas.List.Folds.{list_any-append}
use Rattle.pp_terms.specs.Count.{HasRisen}
use Rattle.pp_terms.specs.disk.Disk.{DiskState, History, IsKnown, IsRead, moment_of}
use Rattle.pp_terms.specs.disk.Image.{holds}
use Rattle.pp_terms.specs.disk.Store.{chunk_place}
use Rattle.pp_terms.specs.format.Descriptor.{Descriptor, chunks_of}
use Rattle.pp_terms.specs.format.Messages.{Datagram}
use Rattle.pp_terms.specs.format.Traffic.{LinkState, Record}
use Rattle.pp_terms.specs.tree.Book.{IsBacked}
use Rattle.pp_terms.specs.tree.Content.{chunk_length}
use Rattle.pp_terms.proofs.Knowing.{known_on}
use Rattle.pp_terms.proofs.Risings.{risen_less}
use Rattle.pp_traffic.specs.Committed.{is_in}
use Rattle.pp_traffic.specs.Turns.{is_closing}
use Rattle.pp_promises.specs.Premises.{IsCalm, IsSteady}
use Rattle.pp_tree.specs.Book.{BookState, entry}
use Rattle.pp_avail.specs.declared.ranker.Rank.{Rank}
use Rattle.pp_store.specs.Store.{is_committed, is_held}
use Rattle.pp_holding.specs.Holding.{HoldingState}
use Rattle.pp_peer.specs.Greeting.{IsFarewell, fars_of}
use Rattle.pp_peer.specs.Standing.{Beginning}
use Rattle.pp_core.specs.Offering.{AsksOrHolds, reaches, requests_from, RequestsBelow}
use Rattle.pp_core.specs.Opening.{WantsIf, HasBegun}
use Rattle.pp_core.specs.Peers.{PeerState}
use Rattle.pp_core.specs.Turning.{with_limit}
use Rattle.pp_turns.specs.Taking.{Ends}
use Rattle.pp_turns.specs.Turning.{post, Went}
use Rattle.pp_stream.specs.Played.{HasPlayed}
use Rattle.pp_stream.specs.Player.{PlayerState, limit_of}
use Rattle.pp_stream.specs.Steps.{HasNext, HasNone}
use Rattle.pp_stream.specs.declared.player.PlayFault.TheVariants as faults
use Rattle.pp_playback.specs.Turns.{Stand, stand, holding_in, HasWritten, AsksWithin, HasGone, Halts, StartsAt, PlaysOn, StopsIn}
use Rattle.pp_playback.specs.Turns as shows
use Rattle.pp_playback.specs.declared.playing.PlayStop.{PlayStop}
use Rattle.pp_playback.specs.declared.playing.PlayStop.TheVariants.{Broken, Unwritten}
use Rattle.pp_node.specs.Outside.{Outside}
use Rattle.pp_node.specs.Playing.{limit_at, IsPlayed, HasPlayedOut, IsHalted, IsDamaged, PlayEnds, status_of_fault, status_of_stop, player_of, IsJudged, ClosesOut, ShowsTo, HasShown}
use Rattle.pp_node.specs.Preparing.{IsUnsent, HasPrepared, LeavesDisk, LeavesLink}
use Rattle.pp_node.specs.Promising.{HasRun}
use Rattle.pp_node.specs.Seeding.{words_of, dials_of}
use Rattle.pp_node.specs.Status.{number_of}
use Rattle.pp_node.specs.declared.preparing.Peering.{Peering}
use Rattle.pp_node.specs.declared.preparing.SeedFault.{SeedFault}
use Rattle.pp_node.specs.declared.preparing.SeedFault.TheVariants as fault
use Rattle.pp_node.specs.declared.status.Status.{Status}
use Rattle.pp_node.specs.declared.status.Status.TheVariants.{Done, Usage, NotAStore, Incomplete, DiskFault, LinkFault, SourceFault, SinkFault, NotEmpty, ContentSize, Schedule, Memory, Damaged, AuditNo, Recording, NoLife, TooLarge, Shape}
use Rattle.pp_node.proofs.Endings.{Leaves, unsent_run, unturned, left_done, left_incomplete, left_sink, left_disk, left_damaged}
use Rattle.pp_node.proofs.Peers.{WasReady, was_limited, HasBook, b, d_is, known_then, last_d, began_then, took_now, begins_now, rooted_now, peer_ends, bound_now, run_now, went_closed, closed_turns, is_closed, turned_is, kept_to_now, dialled_now, held_now}

-- ---- closing handshakes ask for nothing

farewell_asks : (d : Descriptor) (moment n : ℕ) (fars : ℕ → _) (r : Record) → IsFarewell d moment fars r → requests_from d n r ≡ false
farewell_asks d moment n fars r f =
    subst (λ (x : Record). requests_from d n x ≡ false) (sym f.is) (ap (λ (x : Datagram). reaches n x.messages.read) f.written.read)

farewells_ask : (d : Descriptor) (moment n : ℕ) (fars : ℕ → _) (xs : List Record) → AllByRecursion (IsFarewell d moment fars) xs → RequestsBelow d n xs
farewells_ask d moment n fars [] all = refl
farewells_ask d moment n fars (r ∷ xs) all = λ i. farewell_asks d moment n fars r all.0 i || farewells_ask d moment n fars xs all.1 i

module _ (w : Peering) (window : ℕ) (old new : Outside) (opened : DiskState) (listens : LinkState) (first : PeerState)
    (r : WasReady w old new opened listens first) (origin : PlayerState) (origin_is : origin ≡ record { chunks = chunks_of w.descriptor.now; window = window; base = 0 })
    (last : PeerState) (player : PlayerState) (k : HasBook last new.book) where
  abbrev d : Descriptor
  d = w.descriptor.now

  abbrev beginning : Beginning
  beginning = b w old new opened listens first r

  abbrev begin : Stand
  begin = stand (post first opened listens) origin old.sink

  abbrev end : Stand
  end = stand (post last new.disk new.link) player new.sink

  traffic_then : (before : List Record) → old.link.traffic ≡ Some before → listens.traffic ≡ Some before
  traffic_then before is = r.unsent.traffic ∙ is

  -- ---- what the sink gained

  chunks_are : player ≡ record origin { base = player.base } → player.chunks ≡ chunks_of d
  chunks_are is = ap (λ (p : PlayerState). p.chunks) is ∙ ap (λ (p : PlayerState). p.chunks) origin_is

  limit_is : player ≡ record origin { base = player.base } → limit_of player ≡ limit_at d window player.base
  limit_is is =
      let all = chunks_are is in
      let far : player.window ≡ window = ap (λ (p : PlayerState). p.window) is ∙ ap (λ (p : PlayerState). p.window) origin_is in
      omega (arith, all, far)

  asks_now : (added : List Record) → player ≡ record origin { base = player.base } → ((before : List Record) → listens.traffic ≡ Some before → RequestsBelow beginning.d (limit_of player) added)
      → (before : List Record) → old.link.traffic ≡ Some before → RequestsBelow d (limit_at d window player.base) added
  asks_now added is asks before tells = subst (λ (n : ℕ). RequestsBelow d n added) (limit_is is)
      (subst (λ (x : Descriptor). RequestsBelow x (limit_of player) added) (d_is w old new opened listens first r) (asks before (traffic_then before tells)))

  module _ (taken : ℕ) (t : Went beginning taken begin.post end.post) where
    played_now : (more : List ℕ) → HasPlayed last.parts.holding.store.descriptor (entry last.parts.holding.book) player.base old.sink new.sink more
        → HasPlayed d (entry new.book) player.base old.sink new.sink more
    played_now more played = subst (λ (x : BookState). HasPlayed d (entry x) player.base old.sink new.sink more) (sym k.book_is)
        (subst (λ (x : Descriptor). HasPlayed x (entry last.parts.holding.book) player.base old.sink new.sink more)
        (last_d w old new opened listens first r taken last t k) played)

    is_played : (more : List ℕ) → HasWritten begin end more → ((before : List Record) → listens.traffic ≡ Some before → RequestsBelow beginning.d (limit_of player) t.added)
        → IsPlayed (words_of w) window player.base old new t.added more
    is_played more written asks = record {
      within = (let all = chunks_are written.player in let within = written.within in omega (arith, all, within));
      played = played_now more written.played;
      asks = asks_now t.added written.player asks;
    }

    halted : taken ≤ w.turns → (more : List ℕ) → HasWritten begin end more
        → ((before : List Record) → listens.traffic ≡ Some before → RequestsBelow beginning.d (limit_of player) t.added)
        → ((before : List Record) → listens.traffic ≡ Some before → list_any (is_closing beginning.d) t.added ≡ false)
        → IsHalted (words_of w) window player.base old new t.added more
    halted within more written asks unclosed = record {
      taken = taken;
      within = within;
      took = took_now w old new opened listens first r taken last t k;
      begins = begins_now w old new opened listens first r taken last t k;
      played = is_played more written asks;
      unclosed = λ before tells. subst (λ (x : Descriptor). list_any (is_closing x) t.added ≡ false) (d_is w old new opened listens first r)
          (unclosed before (traffic_then before tells));
      rooted = rooted_now w old new opened listens first r taken last t k;
    }

    next_within : HasNext last.parts.holding player → player ≡ record origin { base = player.base } → player.base < chunks_of d
    next_within next is = let all = chunks_are is in let within = next.within in omega (arith, all, within)

  -- ---- a fault ended it

  module _ (s : StopsIn beginning w.turns begin end Broken) where
    pub broken_ends : PlayEnds (number_of DiskFault) (words_of w) window (dials_of w) old new
    broken_ends = record {
      run = peer_ends w old new opened listens first r s.taken last s.plays.stops.went k DiskFault
          (inr (bound_now w old new opened listens first r s.taken last s.plays.stops.went k)) (left_disk old new);
      ends = inr (inl (record {
        base = player.base;
        halted = halted s.taken s.plays.stops.went s.within [] s.plays.written s.plays.asks s.plays.stops.closes_none;
        hard = risen_less old.disk.hard opened.hard new.disk.hard r.hard s.plays.stops.hard;
      }));
    }

  module _ (taken : ℕ) (within : taken ≤ w.turns) (more : List ℕ) (h : Halts beginning taken begin end more) where
    abbrev went : Went beginning taken begin.post end.post
    went = h.1.turns.turns.went

    halted_so : IsHalted (words_of w) window player.base old new went.added more
    halted_so = halted taken went within more h.1.written h.1.asks h.1.turns.keeps.closes_none

  module _ (s : StopsIn beginning w.turns begin end (Unwritten faults.Disk)) where
    pub unread_ends : PlayEnds (number_of DiskFault) (words_of w) window (dials_of w) old new
    unread_ends = record {
      run = peer_ends w old new opened listens first r s.taken last s.plays.0.1.turns.turns.went k DiskFault
          (inr (bound_now w old new opened listens first r s.taken last s.plays.0.1.turns.turns.went k)) (left_disk old new);
      ends = inr (inr (record {
        base = player.base;
        within = next_within s.taken s.plays.0.1.turns.turns.went s.plays.1 s.plays.0.1.written.player;
        halted = halted_so s.taken s.within [] s.plays.0;
        risen = risen_less old.disk.faults opened.faults new.disk.faults r.faults s.plays.2;
      }));
    }

  module _ (s : StopsIn beginning w.turns begin end (Unwritten faults.Sink)) where
    abbrev cut : Halts beginning s.taken begin end (take s.plays.0.count s.plays.0.piece)
    cut = s.plays.0.halts

    pub cut_ends : PlayEnds (number_of SinkFault) (words_of w) window (dials_of w) old new
    cut_ends = record {
      run = peer_ends w old new opened listens first r s.taken last cut.1.turns.turns.went k SinkFault
          (bound_now w old new opened listens first r s.taken last cut.1.turns.turns.went k) (left_sink old new);
      ends = record {
        base = player.base;
        within = next_within s.taken cut.1.turns.turns.went s.plays.1 cut.1.written.player;
        piece = s.plays.0.piece;
        backed = subst (λ (x : BookState). IsBacked d (entry x) player.base s.plays.0.piece) (sym k.book_is)
            (subst (λ (x : Descriptor). IsBacked x (entry last.parts.holding.book) player.base s.plays.0.piece)
            (last_d w old new opened listens first r s.taken last cut.1.turns.turns.went k) s.plays.0.chunk);
        count = s.plays.0.count;
        short = s.plays.0.short;
        halted = halted_so s.taken s.within (take s.plays.0.count s.plays.0.piece) cut;
        risen = s.plays.0.risen;
      };
    }

  module _ (chunk : ℕ) (found kept : List ℕ) (s : StopsIn beginning w.turns begin end (Unwritten (faults.Damaged chunk found kept))) where
    abbrev gone : Went beginning s.taken begin.post end.post
    gone = s.plays.0.1.turns.turns.went

    is_damaged : shows.IsDamagedAt beginning begin end chunk found kept → IsDamaged (words_of w) window old new gone.added
    is_damaged m =
        let same = last_d w old new opened listens first r s.taken last gone k in
        record {
          base = player.base;
          within = next_within s.taken gone s.plays.1 s.plays.0.1.written.player;
          halted = halted_so s.taken s.within [] s.plays.0;
          bytes = m.damaged.bytes;
          found = found;
          kept = kept;
          size = subst (λ (i : ℕ). length m.damaged.bytes ≡ chunk_length d.size d.chunk i) m.here
              (subst (λ (x : Descriptor). length m.damaged.bytes ≡ chunk_length x.size x.chunk chunk) same m.damaged.size);
          found_is = m.damaged.found_is;
          kept_is = ap (λ (x : BookState). entry x 0 player.base) k.book_is ∙ ap (λ (i : ℕ). entry last.parts.holding.book 0 i) (sym m.here) ∙ m.damaged.kept_is;
          differ = m.damaged.differ;
          read = λ known. subst (λ (h : History). IsRead h.reads (chunk_place d.chunk player.base) m.damaged.bytes) (sym m.since.same)
              (subst (λ (i : ℕ). IsRead m.then.history.reads (chunk_place d.chunk i) m.damaged.bytes) m.here
              (subst (λ (x : Descriptor). IsRead m.then.history.reads (chunk_place x.chunk chunk) m.damaged.bytes) same
              (m.damaged.read (known_on new.disk m.then (sym m.since.tells) (sym m.since.honest)
              (known_on opened new.disk gone.advances.disk.tells gone.advances.disk.honest (known_then w old new opened listens first r known))))));
          never = λ known began. m.never (r.fresh.kept known (began_then w old new opened listens first r s.taken last gone k known began));
        }

    pub damaged_ends : PlayEnds (number_of Damaged) (words_of w) window (dials_of w) old new
    damaged_ends = record {
      run = peer_ends w old new opened listens first r s.taken last gone k Damaged
          (bound_now w old new opened listens first r s.taken last gone k) (left_damaged old new);
      ends = is_damaged s.plays.2;
    }

  stopped_ends : (stop : PlayStop) → StopsIn beginning w.turns begin end stop → PlayEnds (number_of (status_of_stop stop)) (words_of w) window (dials_of w) old new
  stopped_ends Broken s = broken_ends s
  stopped_ends (Unwritten faults.Disk) s = unread_ends s
  stopped_ends (Unwritten faults.Sink) s = cut_ends s
  stopped_ends (Unwritten (faults.Damaged chunk found kept)) s = damaged_ends chunk found kept s

  -- ---- the turns ended

  module _ (c : ClosesOut beginning w.turns begin end) where
    abbrev most : ℕ
    most = c.plays.taken

    abbrev e : Ends beginning most false begin.post end.post
    e = record {
      mid = c.mid.post;
      takes = record {
        taken = most;
        within = omega arith;
        some = record { turns = c.plays.goes.gone.turns; needed = λ some asked. absurd (false≢true asked) };
        early = λ lt. absurd (omega (arith, lt));
      };
      closes = c.closes;
      disk = c.disk;
      sized = c.sized;
    }

    abbrev closed : Went beginning most begin.post end.post
    closed = went_closed w old new opened listens first r most false last e

    holding_same : last.parts.holding ≡ c.mid.post.peer.parts.holding
    holding_same = c.closes.parting.flushes.holding

    written : HasWritten begin end []
    written =
        let m = c.plays.goes.gone.written in
        record {
          played = subst (λ (p : PlayerState). HasPlayed last.parts.holding.store.descriptor (entry last.parts.holding.book) p.base old.sink new.sink []) (sym c.player)
              (subst (λ s. HasPlayed last.parts.holding.store.descriptor (entry last.parts.holding.book) c.mid.player.base old.sink s []) (sym c.sink)
              (subst (λ (h : HoldingState). HasPlayed h.store.descriptor (entry h.book) c.mid.player.base old.sink c.mid.sink []) (sym holding_same) m.played));
          committed = λ i low. subst (λ (h : HoldingState). is_in h.store.committed i ≡ true) (sym holding_same)
              (m.committed i (subst (λ (p : PlayerState). i < p.base) c.player low));
          player = subst (λ (p : PlayerState). p ≡ record origin { base = p.base }) (sym c.player) m.player;
          within = subst (λ (p : PlayerState). p.base ≤ p.chunks) (sym c.player) m.within;
          later = subst (λ s. old.sink.faults ≤ s.faults) (sym c.sink) m.later;
        }

    asks_closed : (before : List Record) → listens.traffic ≡ Some before → RequestsBelow beginning.d (limit_of player) closed.added
    unfolding went_closed
    asks_closed before tells = subst (λ (rs : List Record). RequestsBelow beginning.d (limit_of player) rs)
        (sym (closed_turns w old new opened listens first r most false last e).1)
        (list_any-append (requests_from beginning.d (limit_of player)) c.closes.parting.flushes.added c.plays.goes.gone.turns.turns.went.added
        ∙ ap (λ (x : Bool). x || list_any (requests_from beginning.d (limit_of player)) c.plays.goes.gone.turns.turns.went.added)
        (subst (λ (x : Descriptor). RequestsBelow x (limit_of player) c.closes.parting.flushes.added) c.plays.goes.gone.turns.turns.stands.seats.swarm
        (farewells_ask c.mid.post.peer.parts.seats.descriptor (moment_of c.mid.post.disk.history) (limit_of player) (fars_of c.mid.post.peer.parts)
        c.closes.parting.flushes.added c.closes.parting.others))
        ∙ subst (λ (p : PlayerState). RequestsBelow beginning.d (limit_of p) c.plays.goes.gone.turns.turns.went.added) (sym c.player)
        (c.plays.goes.gone.asks before tells))

    abbrev has : HasRun (words_of w) most old new closed.added
    has = run_now w old new opened listens first r most last closed k most refl c.sized (is_closed w old new opened listens first r most false last e)

    asked_last : (before : List Record) → old.link.traffic ≡ Some before → IsSteady d old.disk new.disk → IsCalm old.link.faults new.link.faults
        → AsksOrHolds d (limit_at d window player.base) (λ i. holds d new.disk.history.reads i) has.closed.turned
    asked_last before tells steady calm =
        subst (λ (rs : List Record). AsksOrHolds d (limit_at d window player.base) (λ i. holds d new.disk.history.reads i) rs)
        (sym (turned_is w old new opened listens first r most false last e))
        (subst (λ (n : ℕ). AsksOrHolds d n (λ i. holds d new.disk.history.reads i) c.plays.goes.gone.turns.turns.went.added) (limit_is written.player)
        (subst (λ (x : Descriptor). AsksOrHolds x (limit_of player) (λ i. holds d new.disk.history.reads i) c.plays.goes.gone.turns.turns.went.added)
        (d_is w old new opened listens first r)
        (c.plays.goes.gone.turns.keeps.asked (λ risen. calm (calm_all risen)) (limit_of player)
        (c.plays.goes.limit ∙ ap (λ (p : PlayerState). Some (limit_of p)) (sym c.player))
        inside (λ i. holds d new.disk.history.reads i)
        (λ i is. held_now w old new opened listens first r most false last e k steady i
        (subst (λ (h : HoldingState). is_held h.store i ≡ true) (sym holding_same) is)))))
      where
        inside : limit_of player ≤ chunks_of beginning.d
        inside = let all = chunks_are written.player in let same = ap chunks_of (d_is w old new opened listens first r) in omega (arith, all, same)

        calm_all : HasRisen listens.faults c.mid.post.link.faults → HasRisen old.link.faults new.link.faults
        calm_all risen below =
            let low = r.unsent.later in
            let high = c.closes.parting.flushes.later in
            let between = c.plays.goes.gone.turns.turns.went.later in
            let more : listens.faults < c.mid.post.link.faults = risen (omega (arith, below, low, high)) in
            omega (arith, more, low, high)

    abbrev out : HasPlayedOut (words_of w) window player.base (dials_of w) old new closed.added
    out = record {
      taken = most;
      within = c.plays.within;
      run = has;
      played = is_played most closed [] written asks_closed;
      written = λ i low. written.committed i low;
      kept_to = kept_to_now w old new opened listens first r most false last e k;
      dials = dialled_now w old new opened listens first r most false last e k;
      asks = asked_last;
    }

    closed_ends : (status : Status) → IsJudged status player → PlayEnds (number_of status) (words_of w) window (dials_of w) old new
    closed_ends Done all = record {
      run = peer_ends w old new opened listens first r most last closed k Done
          (bound_now w old new opened listens first r most last closed k) (left_done old new);
      ends = subst (λ (n : ℕ). HasPlayedOut (words_of w) window n (dials_of w) old new closed.added) (all ∙ chunks_are written.player) out;
    }
    closed_ends Incomplete low = record {
      run = peer_ends w old new opened listens first r most last closed k Incomplete
          (bound_now w old new opened listens first r most last closed k) (left_incomplete old new);
      ends = record {
        base = player.base;
        within = (let all = chunks_are written.player in omega (arith, all, low));
        out = out;
        all = (let within = c.plays.within in ⊎_elim
            (λ lt. absurd (let whole = c.plays.early lt in
            let same : player.base ≡ c.mid.player.base = ap (λ (p : PlayerState). p.base) c.player in
            let few : player.chunks ≡ c.mid.player.chunks = ap (λ (p : PlayerState). p.chunks) c.player in omega (arith, whole, same, few, low)))
            (λ le. omega (arith, within, le)) (cases_lt most w.turns));
        absent = absent c.plays.goes.none;
      };
    }
      where
        absent : HasNone (holding_in c.mid) c.mid.player → is_in last.parts.holding.store.committed player.base ≡ false
        absent none = ⊎_elim
            (λ whole. absurd (
            let same : player.base ≡ c.mid.player.base = ap (λ (p : PlayerState). p.base) c.player in
            let few : player.chunks ≡ c.mid.player.chunks = ap (λ (p : PlayerState). p.chunks) c.player in omega (arith, whole, same, few, low)))
            (λ not_there. subst (λ (p : PlayerState). is_in last.parts.holding.store.committed p.base ≡ false) (sym c.player)
            (subst (λ (h : HoldingState). is_in h.store.committed c.mid.player.base ≡ false) (sym holding_same) not_there)) none
    closed_ends Usage judged = absurd judged
    closed_ends NotAStore judged = absurd judged
    closed_ends DiskFault judged = absurd judged
    closed_ends LinkFault judged = absurd judged
    closed_ends SourceFault judged = absurd judged
    closed_ends SinkFault judged = absurd judged
    closed_ends NotEmpty judged = absurd judged
    closed_ends ContentSize judged = absurd judged
    closed_ends Schedule judged = absurd judged
    closed_ends Memory judged = absurd judged
    closed_ends Damaged judged = absurd judged
    closed_ends AuditNo judged = absurd judged
    closed_ends Recording judged = absurd judged
    closed_ends NoLife judged = absurd judged
    closed_ends TooLarge judged = absurd judged
    closed_ends Shape judged = absurd judged

  pub shown_ends : (status : Status) → ShowsTo status beginning w.turns begin end → PlayEnds (number_of status) (words_of w) window (dials_of w) old new
  shown_ends status shown = ⊎_elim
      (λ c. closed_ends c.0 status c.1)
      (λ s. subst (λ (x : Status). PlayEnds (number_of x) (words_of w) window (dials_of w) old new) (sym s.1) (stopped_ends s.0 s.2))
      shown

-- ---- turns

-- Turns keep of how many chunks the content is.
pub chunks_kept : (b : Beginning) (most : ℕ) (old first mid : Stand) → StartsAt old first → PlaysOn b most first mid → mid.player.chunks ≡ old.player.chunks
chunks_kept b _ old first mid starts plays = ap (λ (p : PlayerState). p.chunks) plays.goes.gone.written.player ∙ ⊎_elim
    (λ same. ap (λ (s : Stand). s.player.chunks) same)
    (λ other. ap (λ (s : Stand). s.player.chunks) other.1) starts

-- ---- a peer that was made ready

-- a peer that fetches keeps what it wants
pub fetches_some : (w : Peering) (p : PeerState) → HasBegun w.descriptor.now w.random w.asks w.dial.now.items p → is_some w.asks ≡ true
    → is_some p.parts.fetching ≡ true
fetches_some w p begun some = of w.asks begun.fetching some
  where
    of : (o : Option Rank) → WantsIf (chunks_of w.descriptor.now) (is_committed p.parts.holding.store) o p.parts.fetching → is_some o ≡ true
        → is_some p.parts.fetching ≡ true
    of None wants some = absurd (false≢true some)
    of (Some order) wants some = ap is_some wants.1

module _ (w : Peering) (window : ℕ) (old new : Outside) (opened : DiskState) (listens : LinkState) (first : PeerState)
    (r : WasReady w old new opened listens first) (fetches : is_some first.parts.fetching ≡ true) where
  abbrev origin_is : player_of first window ≡ record { chunks = chunks_of w.descriptor.now; window = window; base = 0 }
  origin_is = ap (λ (x : Descriptor). record { chunks = chunks_of x; window = window; base = 0 }) r.swarm

  abbrev begins : Stand
  begins = stand (post first opened listens) (player_of first window) old.sink

  pub show_ends : (status : Status) → HasShown status (b w old new opened listens first r) w.turns begins new.disk new.link new.book new.sink
      → PlayEnds (number_of status) (words_of w) window (dials_of w) old new
  show_ends status h =
      let shown = h.shows (record { begun = r.begun; fetches = fetches; of = refl; base = refl }) in
      let k : HasBook h.last new.book = record { book_is = h.book_is; rooted = h.rooted } in
      ⊎_elim
      (λ same. shown_ends w window old new opened listens first r (player_of first window) origin_is h.last h.player k status
      (subst (λ (s : Stand). ShowsTo status (b w old new opened listens first r) w.turns s (stand (post h.last new.disk new.link) h.player new.sink)) same shown.2))
      (λ other. shown_ends w window old new opened listens (record first { parts = with_limit other.0 first.parts })
      (was_limited w old new opened listens first other.0 r) (player_of first window) origin_is h.last h.player k status
      (subst (λ (s : Stand). ShowsTo status (b w old new opened listens first r) w.turns s (stand (post h.last new.disk new.link) h.player new.sink)) other.1 shown.2))
      shown.1

-- ---- no peer was made ready

module _ (w : Peering) (window : ℕ) (old new : Outside) (leaves : Leaves w old new) (silent : new.sink ≡ old.sink) (unsent : IsUnsent old.link new.link) where
  pub unplayed : (f : SeedFault) → HasPrepared w old.disk new.disk old.link new.link (Err f)
      → (IsKnown old.disk → LeavesDisk w.descriptor.now new.disk.history (Err f)) → LeavesLink old.link.bound (words_of w).listen new.link.bound (Err f)
      → PlayEnds (number_of (status_of_fault f)) (words_of w) window (dials_of w) old new
  unplayed (fault.NotAStore at found want) is kept bound = record {
    run = unsent_run w old new leaves NotAStore unsent bound (record { other = λ e. kept; unbound = λ e. let never : NotAStore ≡ LinkFault = e in cc; no_memory = λ e. let never : NotAStore ≡ Memory = e in cc });
    ends = (record { at = at; found = found; want = want; other = is; said = silent }, unturned w old new leaves unsent);
  }
  unplayed fault.Disk is kept bound = record {
    run = unsent_run w old new leaves DiskFault unsent bound (left_disk old new);
    ends = inl (record { refused = record { risen = is; compared = kept }; said = silent }, unturned w old new leaves unsent);
  }
  unplayed fault.Link is kept bound = record {
    run = unsent_run w old new leaves LinkFault unsent bound (record { other = λ e. let never : LinkFault ≡ NotAStore = e in cc; unbound = λ e. kept; no_memory = λ e. let never : LinkFault ≡ Memory = e in cc });
    ends = (record { risen = is.0; begins = is.1; said = silent }, unturned w old new leaves unsent);
  }
  unplayed fault.Memory is kept bound = record {
    run = unsent_run w old new leaves Memory unsent bound (record { other = λ e. let never : Memory ≡ NotAStore = e in cc; unbound = λ e. let never : Memory ≡ LinkFault = e in cc; no_memory = λ e. kept });
    ends = (record { begins = is; silent = silent }, unturned w old new leaves unsent);
  }
