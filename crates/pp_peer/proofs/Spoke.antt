-- Notes go on a channel, and the peer stands for them.
use Rattle.std.proofs.Common.{◌≡◌, ◌≢◌, ◌⊎◌, inl, inr, ⊎_elim, ℕ, ◌+◌, ◌≤◌, eqb, Bool, true, false, cond, ◌&&◌, Option, Some, None, List, [], ◌++◌, length, refl, sym, ◌∙◌, ap, subst, arith}
use Rattle.std.specs.Prelude.{slice_index_or, nat_lt, is_some}
use Rattle.std.specs.List.{AllByRecursion, list_any}
use Rattle.std.proofs.Math.ListN.{set}
use Rattle.std.proofs.lemmas.Bool.{and_parts, eqb-true, eqb-false, cases_Bool}
use Rattle.std.proofs.lemmas.Option.{same_Some}
use Rattle.pp_terms.specs.Count.{capped}
use Rattle.pp_terms.specs.disk.Disk.{DiskState, moment_of}
use Rattle.pp_terms.specs.format.Descriptor.{Descriptor, chunks_of}
use Rattle.pp_terms.specs.format.Traffic.{Record, LinkState}
use Rattle.pp_terms.specs.tree.Range.{Span, has}
use Rattle.pp_traffic.specs.Committed.{requests}
use Rattle.pp_requests.specs.declared.asking.Asking.{Asking}
use Rattle.pp_counts.specs.declared.counts.Counts.{Counts}
use Rattle.pp_store.specs.Store.{is_committed}
use Rattle.pp_channels.specs.Seats.{Seats, channel_at}
use Rattle.pp_lives.specs.Fars.{far_of}
use Rattle.pp_lives.specs.Sending.{with_datagram}
use Rattle.pp_lives.specs.declared.lives.Far.{Far}
use Rattle.pp_holding.specs.Holding.{HoldingState}
use Rattle.pp_fetching.specs.Fetching.{FetchState}
use Rattle.pp_fetching.specs.Owners.{awaits, AreOwned}
use Rattle.pp_seat.specs.Seats.{SeatState}
use Rattle.pp_desk.specs.declared.steps.Delivered.{Delivered}
use Rattle.pp_desk.specs.Delivers.{Way, At, none_delivered}
use Rattle.pp_seats.specs.Standing.{SeatsState, Setting}
use Rattle.pp_seats.specs.Standing as seats
use Rattle.pp_seats.specs.Sending.{HoldsAnnounced, MaySay, requested, FitAll, with_told, way_of, with_sent, opening_at, Speaks}
use Rattle.pp_seats.proofs.Lists.{get_set_there, get_set_other}
use Rattle.pp_seats.proofs.Outgoing.{far_is}
use Rattle.pp_seats.proofs.Handshakes.{marked_sent}
use Rattle.pp_agenda.specs.Laws.{are_cancelling, IsPlaced, MaySpeak}
use Rattle.pp_agenda.proofs.Agreeing.{may_be_said, exchanges_all, cancels_all}
use Rattle.pp_peer.specs.declared.parts.Parts.{Parts}
use Rattle.pp_peer.specs.declared.speaking.Hearer.{Hearer}
use Rattle.pp_peer.specs.declared.speaking.Speaker.{Speaker}
use Rattle.pp_peer.specs.Standing.{Beginning, setting, own_at, own_in, asked_of, Fetches, StandsFor}
use Rattle.pp_peer.specs.Flushing.{IsOurs, Seeds, Flushes}
use Rattle.pp_peer.specs.Speaking.{may_ask, PicksFrom, Picks, AreCancels, Fills, Says, SettlesIn, Settles}
use Rattle.pp_peer.proofs.Asked.{Grown}
use Rattle.pp_peer.proofs.Greeted.{marked_fars}
use Rattle.pp_peer.proofs.Owning.{room_fits, picks_are_fit, noted_after, owned_after}
use Rattle.pp_peer.proofs.Plainly.{IsBare, CountsMany, ledger_bare}
use Rattle.pp_peer.proofs.Went.{Went, went_by, own_by}

-- no number of another peer is forgotten
pub sent_fars : (t : Seats) (k : ℕ) (opens : Bool) (sent at seat : ℕ) (far : Far) → far_of (channel_at t k) ≡ Some far
    → far_of (channel_at (with_sent t k opens sent at) seat) ≡ None → far_of (channel_at t seat) ≡ None
sent_fars t k opens sent at seat far is e = of (nat_lt 0 sent) e
  where
    of : (b : Bool) → far_of (channel_at (cond b (with_datagram t k opens at) t) seat) ≡ None → far_of (channel_at t seat) ≡ None
    of true e =
        let f = far_is (channel_at t k) far is in
        marked_fars t (with_datagram t k opens at) k f.channel f.there (marked_sent t k f.channel opens at f.there) seat e
    of false e = e

module _ (hearer : Hearer) (picks cancels : List Span) (speaker left : Speaker) (p0 p1 p2 p3 : Parts) (picked : Picks speaker.order hearer.seat picks p0 p1)
    (are_cancels : AreCancels hearer.seat cancels p1) (fills : Fills hearer picks p1 speaker left) (delivered : Delivered) (link later : LinkState) (disk : DiskState)
    (says : Says hearer.seat left.agenda (moment_of disk.history) delivered p1 p2 link later) (settles : Settles hearer.seat picks cancels p2 p3)
    (placed : IsPlaced (chunks_of p0.seats.descriptor) fills.due) where
  abbrev k : ℕ
  k = hearer.seat

  abbrev sp : Speaks k left.agenda (moment_of disk.history) delivered p1.seats p2.seats link later
  sp = says.speaks

  abbrev w : Way
  w = way_of p1.seats sp.far (moment_of disk.history)

  abbrev rs : List Record
  rs = sp.added

  abbrev from : At
  from = record { seat = sp.before; link = link; so_far = none_delivered }

  abbrev to : At
  to = record { seat = sp.after; link = later; so_far = delivered }

  seats_1 : p1.seats ≡ p0.seats
  seats_1 = ap (λ (p : Parts). p.seats) picked.rest

  seats_3 : p3.seats ≡ p2.seats
  seats_3 = ap (λ (p : Parts). p.seats) settles.rest

  holding_1 : p1.holding ≡ p0.holding
  holding_1 = ap (λ (p : Parts). p.holding) picked.rest

  holding_3 : p3.holding ≡ p0.holding
  holding_3 = ap (λ (p : Parts). p.holding) settles.rest ∙ ap (λ (p : Parts). p.holding) says.rest ∙ holding_1

  -- the same seat by its two names
  same : sp.before ≡ fills.known
  same = same_Some sp.before fills.known (sym sp.there ∙ fills.there)

  own_before : own_in p0.seats.seats k ≡ sp.before.own
  own_before = ap (λ (s : SeatsState). own_in s.seats k) (sym seats_1) ∙ ap own_at sp.there

  messages : p2.seats.seats ≡ set p1.seats.seats k sp.after
  messages = ap (λ (s : SeatsState). s.seats) sp.is

  own_after : own_in p3.seats.seats k ≡ sp.after.own
  own_after = ap (λ (s : SeatsState). own_in s.seats k) seats_3 ∙ ap (λ (xs : List SeatState). own_in xs k) messages
      ∙ ap own_at (get_set_there p1.seats.seats k sp.after sp.before sp.there)

  own_other : (n : ℕ) → n ≢ k → own_in p3.seats.seats n ≡ own_in p0.seats.seats n
  own_other n ne = ap (λ (s : SeatsState). own_in s.seats n) seats_3 ∙ ap (λ (xs : List SeatState). own_in xs n) messages
      ∙ ap own_at (get_set_other p1.seats.seats k n sp.after ne) ∙ ap (λ (s : SeatsState). own_in s.seats n) seats_1

  went : Went w left.agenda from to rs
  went = subst (λ (xs : List Record). Went w left.agenda from to xs) (sym sp.added_are) (went_by (opening_at p1.seats k) w left.agenda from to refl sp.goes)

  counts_many : CountsMany (length rs) p0.counts p3.counts
  counts_many = record {
    datagrams = ap (λ (p : Parts). p.counts.datagrams) settles.rest ∙ ap (λ (p : Parts). p.counts.datagrams) says.rest ∙ ap (λ (p : Parts). p.counts.datagrams) picked.rest;
    short = ap (λ (p : Parts). p.counts.short) settles.rest ∙ ap (λ (p : Parts). p.counts.short) says.rest ∙ ap (λ (p : Parts). p.counts.short) picked.rest;
    sent = ap (λ (p : Parts). p.counts.sent) settles.rest ∙ ap (λ (p : Parts). p.counts.sent) says.rest
        ∙ ap (λ (c : Counts). capped (c.sent + delivered.sent)) (ap (λ (p : Parts). p.counts) picked.rest)
        ∙ ap (λ (n : ℕ). capped (p0.counts.sent + n)) went.sent;
  }

  fit : AreOwned (asked_of p0.fetching) (own_in p0.seats.seats) → FitAll fills.due.requests.now fills.known.own
  fit owned =
      subst (λ (s : SeatState). FitAll fills.due.requests.now s.own) same
      (subst (λ (xs : List Span). FitAll xs sp.before.own) (sym fills.asked_for)
      (subst (λ (own : List Asking). FitAll picks own) own_before
      (picks_are_fit (may_ask picked.known) speaker.order k picked.room picks p0.fetching p1.fetching (own_in p0.seats.seats) owned
      (subst (λ (own : List Asking). picked.room + length own ≤ 32) (sym (ap own_at picked.there))
      (room_fits picked.known.stopped picked.known.own picked.room picked.room_is picked.few)) picked.picks_from)))

  may : AreOwned (asked_of p0.fetching) (own_in p0.seats.seats) → MaySpeak p0.seats.descriptor (is_committed p0.holding.store) fills.known left.agenda
  may owned = may_be_said p0.seats.descriptor (is_committed p0.holding.store) fills.known fills.due left.agenda (record { placed = placed; fit = fit owned })
      (λ i. ap (λ (xs : List Bool). slice_index_or xs i false) (sym (fills.committed ∙ ap (λ (h : HoldingState). h.store.committed) holding_1))) fills.agenda

  -- ---- of whom each chunk is asked then

  requested_are : (b : Bool) (i : ℕ) → has (cond b fills.due.requests.now []) i ≡ true → has picks i ≡ true
  requested_are true i at = ap (λ (xs : List Span). has xs i) (sym fills.asked_for) ∙ at
  requested_are false i at = absurd cc

  asks : (i : ℕ) → has (requested (left.agenda)) i ≡ true → has picks i ≡ true
  asks i at = requested_are fills.known.proven i
      (ap (λ (xs : List Span). has xs i) (sym (exchanges_all fills.known fills.due left.agenda fills.agenda).asks) ∙ at)

  both_true : (a b : Bool) → a ≡ true → b ≡ true → (a && b) ≡ true
  both_true a b ea eb = ap (λ (x : Bool). x && b) ea ∙ eb

  drops : (i : ℕ) → are_cancelling (left.agenda) i ≡ true → has cancels i ≡ true
  drops i at =
      let is = sym (cancels_all fills.known fills.due left.agenda fills.agenda i) ∙ at in
      let parts = and_parts (awaits fills.known.own i) (slice_index_or fills.due.committed.now i false)
      (and_parts fills.known.proven (awaits fills.known.own i && slice_index_or fills.due.committed.now i false) is).1 in
      are_cancels.each i ∙ both_true (awaits (own_in p1.seats.seats k) i) (is_committed p1.holding.store i)
      (ap (λ (own : List Asking). awaits own i) (ap own_at fills.there) ∙ parts.0)
      (ap (λ (xs : List Bool). slice_index_or xs i false) (sym fills.committed) ∙ parts.1)

  grown : AreOwned (asked_of p0.fetching) (own_in p0.seats.seats) → Grown (λ i. has picks i ≡ true) (λ i. has cancels i ≡ true) [] sp.before.own sp.after.own
  grown owned =
      let said = may owned in
      own_by (opening_at p1.seats k) w left.agenda from to sp.goes (λ i. has picks i ≡ true) (λ i. has cancels i ≡ true) said.may.first
      (subst (λ (s : SeatState). FitAll (requested left.agenda) s.own) (sym same) said.may.fit) asks drops

  settled : SettlesIn (own_in p3.seats.seats k) picks cancels p1.fetching p3.fetching
  settled = subst (λ (o : SeatsState). SettlesIn (own_in o.seats k) picks cancels p1.fetching p3.fetching) (sym seats_3)
      (subst (λ (o : Option FetchState). SettlesIn (own_in p2.seats.seats k) picks cancels o p3.fetching) (ap (λ (p : Parts). p.fetching) says.rest) settles.settles)

  far_kept : (n : ℕ) → far_of (channel_at p3.seats.table n) ≡ None → far_of (channel_at p1.seats.table n) ≡ None
  far_kept n far = sent_fars p1.seats.table k (is_some (opening_at p1.seats k)) delivered.sent p1.seats.moment n sp.far sp.is_far
      (sym (ap (λ (s : SeatsState). far_of (channel_at s.table n)) (seats_3 ∙ sp.is)) ∙ far)

  idle : Fetches p0 → (n : ℕ) → far_of (channel_at p3.seats.table n) ≡ None → (eqb n k ≡ true) ⊎ (eqb n k ≡ false) → own_in p3.seats.seats n ≡ []
  idle f n far (inl here) =
      let e : None ≡ Some sp.far = sym (far_kept n far) ∙ ap (λ (m : ℕ). far_of (channel_at p1.seats.table m)) (eqb-true n k here) ∙ sp.is_far in absurd cc
  idle f n far (inr apart) = own_other n (eqb-false n k apart)
      ∙ f.idle n (ap (λ (s : SeatsState). far_of (channel_at s.table n)) (sym seats_1) ∙ far_kept n far)

  fetches : Fetches p0 → Fetches p3
  fetches f =
      let g = grown f.owned in
      record {
        owned = owned_after k picks cancels (asked_of p0.fetching) (asked_of p3.fetching) (own_in p0.seats.seats) (own_in p3.seats.seats) f.owned (record {
          elsewhere = own_other;
          more_are = λ i e. ⊎_elim (λ was. inl (ap (λ (own : List Asking). awaits own i) own_before ∙ was)) (λ it. inr it)
              (g.more_are i (ap (λ (own : List Asking). awaits own i) (sym own_after) ∙ e));
          fewer_are = λ i e. ⊎_elim (λ is. inl (ap (λ (own : List Asking). awaits own i) own_after ∙ is)) (λ it. inr it)
              (g.fewer_are i (ap (λ (own : List Asking). awaits own i) (sym own_before) ∙ e));
          awaited = λ i at. ap (λ (s : SeatsState). awaits (own_in s.seats k) i) (sym seats_1)
              ∙ (and_parts (awaits (own_in p1.seats.seats k) i) (is_committed p1.holding.store i) (sym (are_cancels.each i) ∙ at)).0;
          noted = λ i. noted_after (may_ask picked.known) speaker.order k picked.room picks cancels (own_in p3.seats.seats k) p0.fetching p1.fetching p3.fetching i
              picked.picks_from settled;
        });
        idle = λ n far. idle f n far (cases_Bool (eqb n k));
      }

  -- ---- the whole

  stands_1 : (x : Setting) (most : ℕ) (past : List Record) → seats.StandsFor x most p0.seats past → seats.StandsFor x most p1.seats past
  stands_1 x most past h = subst (λ (s : SeatsState). seats.StandsFor x most s past) (sym seats_1) h

  abbrev told : Beginning → (ℕ → ℕ → Bool) → Setting
  told b known_of = with_told k left.agenda (setting b known_of)

  may_here : (held : ℕ → Bool) → MaySpeak p0.seats.descriptor held fills.known left.agenda → MaySay held left.agenda sp.before
  may_here held m = subst (λ (s : SeatState). MaySay held left.agenda s) (sym same) m.may

  holds_then : (b : Beginning) (most : ℕ) (past : List Record) (h : StandsFor b most p0 past)
      → HoldsAnnounced (told b h.known_of) (is_committed p0.holding.store) (rs ++ past)
  holds_then b most past h = sp.announced (setting b h.known_of) most past (is_committed p0.holding.store) (stands_1 (setting b h.known_of) most past h.seats) h.holds
      (may_here (is_committed p0.holding.store) (may h.fetches.owned))

  stands : (b : Beginning) (most : ℕ) (past : List Record) → b.since ≤ moment_of disk.history → StandsFor b most p0 past
      → StandsFor b (most + delivered.refused) p3 (rs ++ past)
  stands b most past since h =
      let then = holds_then b most past h in
      record {
        ledger = ledger_bare b p0 p3 (moment_of disk.history) rs past
            (subst (λ (d : Descriptor). AllByRecursion (IsBare d (moment_of disk.history)) rs) (ap (λ (s : SeatsState). s.descriptor) seats_1 ∙ h.seats.swarm) went.bare)
            holding_3 counts_many then.announced since h.ledger;
        known_of = (told b h.known_of).known_of;
        seats = subst (λ (s : SeatsState). seats.StandsFor (told b h.known_of) (most + delivered.refused) s (rs ++ past)) (sym seats_3)
            (sp.stands (setting b h.known_of) most past (is_committed p0.holding.store) (stands_1 (setting b h.known_of) most past h.seats) h.holds
            (may_here (is_committed p0.holding.store) (may h.fetches.owned)));
        holds = subst (λ (y : HoldingState). HoldsAnnounced (told b h.known_of) (is_committed y.store) (rs ++ past)) (sym holding_3) then;
        fetches = fetches h.fetches;
      }

  -- ---- a peer that doesn't fetch

  none_picked : (may : Bool) (old new : Option FetchState) → old ≡ None → PicksFrom may speaker.order k picked.room picks old new → (picks ≡ []) × (new ≡ None)
  none_picked true None new e p = p
  none_picked true (Some f) new e p = absurd cc
  none_picked false old new e p = (p.0, p.1 ∙ e)

  none_settled : (mid new : Option FetchState) → mid ≡ None → SettlesIn (own_in p2.seats.seats k) picks cancels mid new → new ≡ None
  none_settled None new e s = s
  none_settled (Some f) new e s = absurd cc

  none_due : (b : Bool) → picks ≡ [] → cond b fills.due.requests.now [] ≡ []
  none_due true e = fills.asked_for ∙ e
  none_due false e = refl

  seeds : p0.fetching ≡ None → Seeds p0 p3 rs
  seeds none =
      let none_1 = none_picked (may_ask picked.known) p0.fetching p1.fetching none picked.picks_from in
      record {
        fetching = none_settled p2.fetching p3.fetching (ap (λ (p : Parts). p.fetching) says.rest ∙ none_1.1) settles.settles;
        asks = ap (λ (s : SeatsState). list_any (requests s.descriptor) rs) (sym seats_1)
            ∙ went.asks_none ((exchanges_all fills.known fills.due left.agenda fills.agenda).asks ∙ none_due fills.known.proven none_1.0);
      }

  pub spoke_flushes : Flushes delivered.refused (record { parts = p0; link = link; disk = disk }) (record { parts = p3; link = later; disk = disk })
  spoke_flushes =
      record {
        added = rs;
        gained = sp.gained;
        nexts = went.nexts;
        bound = went.bound;
        later = went.later;
        ours = subst (λ (d : Descriptor). AllByRecursion (IsOurs d (moment_of disk.history)) rs) (ap (λ (s : SeatsState). s.descriptor) seats_1)
            went.ours;
        seeds = seeds;
        waits = record {
          turns = ap (λ (p : Parts). p.counts.turns) settles.rest ∙ ap (λ (p : Parts). p.counts.turns) says.rest ∙ ap (λ (p : Parts). p.counts.turns) picked.rest;
          receive_faults = ap (λ (p : Parts). p.counts.receive_faults) settles.rest ∙ ap (λ (p : Parts). p.counts.receive_faults) says.rest
              ∙ ap (λ (p : Parts). p.counts.receive_faults) picked.rest;
        };
        reads = record { tells = refl; honest = refl; same = refl; faults = omega arith; hard = omega arith };
        holding = holding_3;
        swarm = ap (λ (s : SeatsState). s.descriptor) (seats_3 ∙ sp.is) ∙ ap (λ (s : SeatsState). s.descriptor) seats_1;
        moment = ap (λ (s : SeatsState). s.moment) (seats_3 ∙ sp.is) ∙ ap (λ (s : SeatsState). s.moment) seats_1;
        stands = stands;
      }
