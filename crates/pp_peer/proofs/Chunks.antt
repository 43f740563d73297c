-- A chunk that goes out, or doesn't, and what a peer stands for then.
use Rattle.std.proofs.Common.{◌≡◌, ⊎_elim, ℕ, ◌+◌, ◌≤◌, eqb, Bool, true, false, cond, ◌||◌, Option, Some, None, List, [], ◌∷◌, refl, sym, ◌∙◌, ap, subst, arith}
use Rattle.std.specs.Prelude.{slice_index_or, is_some}
use Rattle.std.specs.List.{slice_get}
use Rattle.std.proofs.Math.ListN.{set}
use Rattle.std.proofs.lemmas.Bool.{both_ways, cases_Bool, eqb-true, eqb-false}
use Rattle.pp_terms.specs.disk.Disk.{DiskState, History, moment_of}
use Rattle.pp_terms.specs.format.Traffic.{Record, Sent, LinkState}
use Rattle.pp_terms.specs.format.Descriptor.{Descriptor}
use Rattle.pp_terms.specs.format.Messages as plain
use Rattle.pp_terms.specs.tree.Book.{LookUp}
use Rattle.pp_terms.specs.tree.Tree.{Node}
use Rattle.pp_terms.proofs.Risings.{gains_nothing}
use Rattle.pp_tree.specs.Book.{BookState, entry}
use Rattle.pp_traffic.specs.Keeping.{announces, EachAnnounced}
use Rattle.pp_traffic.specs.Committed.{has_request}
use Rattle.pp_traffic.specs.Meter.{lets_send}
use Rattle.pp_traffic.specs.Serving.{ServesAll}
use Rattle.pp_traffic.specs.Laws.{plan}
use Rattle.pp_promises.specs.Served.{is_announced}
use Rattle.pp_requests.specs.declared.asking.Asking.{Asking}
use Rattle.pp_plan.specs.Told.{knows}
use Rattle.pp_counts.specs.declared.counts.Counts.{Counts}
use Rattle.pp_outside.specs.Outside.{address_of}
use Rattle.pp_channels.specs.Seats.{Seats, channel_at}
use Rattle.pp_channels.specs.declared.channel.Channel.{Channel}
use Rattle.pp_lives.specs.Fars.{far_of}
use Rattle.pp_lives.specs.Reading.{is_waiting}
use Rattle.pp_lives.specs.Sending.{with_datagram}
use Rattle.pp_lives.specs.declared.lives.Far.{Far}
use Rattle.pp_lives.proofs.Changing.{changed_is}
use Rattle.pp_scan.specs.Look.{KeepsAll}
use Rattle.pp_store.specs.Store.{StoreState, is_committed}
use Rattle.pp_draft.specs.Datagrams.{delivery}
use Rattle.pp_draft.specs.declared.chunk.Unread.{Unread}
use Rattle.pp_draft.specs.declared.chunk.Unread.TheVariants as unread
use Rattle.pp_holding.specs.Holding.{HoldingState}
use Rattle.pp_fetching.specs.Fetching.{FetchState}
use Rattle.pp_fetching.specs.Owners.{awaits}
use Rattle.pp_seat.specs.Seats.{SeatState}
use Rattle.pp_seats.specs.declared.serving.Served.{Served}
use Rattle.pp_seats.specs.declared.serving.Served.TheVariants as outcomes
use Rattle.pp_seats.specs.Standing.{SeatsState, Setting}
use Rattle.pp_seats.specs.Standing as seats
use Rattle.pp_seats.specs.Sending.{HoldsAnnounced}
use Rattle.pp_seats.specs.Serving.{Serving, SendsChunk}
use Rattle.pp_seats.proofs.Lists.{get_set_there, get_set_other}
use Rattle.pp_seats.proofs.Outgoing.{far_is}
use Rattle.pp_peer.specs.declared.parts.Parts.{Parts}
use Rattle.pp_peer.specs.Standing.{Beginning, setting, own_at, own_in, asked_of, Fetches, Ledger, StandsFor}
use Rattle.pp_peer.specs.Flushing.{KeepsWaits, Scene, Flushes}
use Rattle.pp_peer.specs.Taking.{after_some}
use Rattle.pp_peer.specs.Serving.{counted, given_up, ChangesOneSeat}
use Rattle.pp_peer.proofs.Flushed.{CountsSent, ledger_sent}

-- ---- own requests

-- The own requests of each seat stay, and no peer's number is forgotten.
pub record KeepsOwn (old new : SeatsState) : Type 0 where
  pub own : (seat : ℕ) → own_in new.seats seat ≡ own_in old.seats seat
  pub far : (seat : ℕ) → far_of (channel_at new.table seat) ≡ None → far_of (channel_at old.table seat) ≡ None

pub fetches_on : (old new : Parts) → KeepsOwn old.seats new.seats → new.fetching ≡ old.fetching → Fetches old → Fetches new
fetches_on old new keeps same f = record {
  owned = record {
    owner = f.owned.owner;
    noted = subst (λ (o : Option FetchState). (i : ℕ) → slice_index_or (asked_of o) i false ≡ is_some (f.owned.owner i)) (sym same) f.owned.noted;
    each = λ seat i. ap (λ (own : List Asking). awaits own i) (keeps.own seat) ∙ f.owned.each seat i;
  };
  idle = λ seat e. keeps.own seat ∙ f.idle seat (keeps.far seat e);
}

own_set : (list : List SeatState) (k seat : ℕ) (before after : SeatState) → slice_get list k ≡ Some before → after.own ≡ before.own
    → own_in (set list k after) seat ≡ own_in list seat
own_set list k seat before after there same = ⊎_elim
    (λ here.
    ap (own_in (set list k after)) (eqb-true seat k here) ∙ ap own_at (get_set_there list k after before there) ∙ same
    ∙ sym (ap own_at there) ∙ sym (ap (own_in list) (eqb-true seat k here)))
    (λ apart. ap own_at (get_set_other list k seat after (eqb-false seat k apart)))
    (cases_Bool (eqb seat k))

seen : (waits : Bool) (far : Far) → waits ≡ false → cond waits None (Some far) ≡ None → ⊥
seen true far known e = cc
seen false far known e = cc

pub far_sent : (t : Seats) (k at seat : ℕ) (c : Channel) → channel_at t k ≡ Some c → is_waiting c ≡ false
    → far_of (channel_at (with_datagram t k false at) seat) ≡ None → far_of (channel_at t seat) ≡ None
far_sent t k at seat c there known e =
    let change = changed_is t k c (λ x. record x { wrote = at }) there in ⊎_elim
    (λ here. absurd (seen (is_waiting c) _ known (sym (ap far_of (ap (channel_at (with_datagram t k false at)) (eqb-true seat k here) ∙ change.there)) ∙ e)))
    (λ apart. ap far_of (sym (change.others seat (eqb-false seat k apart))) ∙ e)
    (cases_Bool (eqb seat k))

pub keeps_set : (old new : SeatsState) (k : ℕ) (before after : SeatState) → slice_get old.seats k ≡ Some before → after.own ≡ before.own
    → new ≡ record old { seats = set old.seats k after } → KeepsOwn old new
keeps_set old new k before after there same is = record {
  own = λ seat. ap (λ (p : SeatsState). own_in p.seats seat) is ∙ own_set old.seats k seat before after there same;
  far = λ seat e. ap (λ (p : SeatsState). far_of (channel_at p.table seat)) (sym is) ∙ e;
}

keeps_sent : (old new : SeatsState) (k : ℕ) (far : Far) (before after : SeatState) → far_of (channel_at old.table k) ≡ Some far
    → slice_get old.seats k ≡ Some before → after.own ≡ before.own
    → new ≡ record old { table = with_datagram old.table k false old.moment; seats = set old.seats k after } → KeepsOwn old new
keeps_sent old new k far before after is_far there same is =
    let f = far_is (channel_at old.table k) far is_far in
    record {
      own = λ seat. ap (λ (p : SeatsState). own_in p.seats seat) is ∙ own_set old.seats k seat before after there same;
      far = λ seat e. far_sent old.table k old.moment seat f.channel f.there f.known (ap (λ (p : SeatsState). far_of (channel_at p.table seat)) (sym is) ∙ e);
    }

-- ---- nothing was sent

-- The counts that the records tell stay.
record CountsStay (old new : Counts) : Type 0 where
  datagrams : new.datagrams ≡ old.datagrams
  short : new.short ≡ old.short
  sent : new.sent ≡ old.sent

ledger_same : (b : Beginning) (old new : Parts) (past : List Record) → new.holding ≡ old.holding → CountsStay old.counts new.counts → Ledger b old past → Ledger b new past
ledger_same b old new past same counts l = record {
  swarm = ap (λ (h : HoldingState). h.store.descriptor) same ∙ l.swarm;
  served = subst (λ (h : HoldingState). ServesAll b.d (entry h.book) (lets_send b.d.chunk) past) (sym same) l.served;
  plans = l.plans;
  announced = subst (λ (h : HoldingState). EachAnnounced b.d (λ moment i. (is_committed h.store i ≡ true) × (b.since ≤ moment)) past) (sym same) l.announced;
  tied = record { datagrams = counts.datagrams ∙ l.tied.datagrams; short = counts.short ∙ l.tied.short; sent = counts.sent ∙ l.tied.sent };
}

-- What a call leaves of the other parts.
pub record Rests (served : Served) (old new : Parts) : Type 0 where
  pub holding : new.holding ≡ old.holding
  pub fetching : new.fetching ≡ old.fetching
  pub counts : new.counts ≡ after_some (counted served) old.counts

-- The seats changed, and the link was sent nothing.
record Unsent (refused : ℕ) (old new : Scene) : Type 0 where
  traffic : new.link.traffic ≡ old.link.traffic
  nexts : new.link.nexts ≡ old.link.nexts
  bound : new.link.bound ≡ old.link.bound
  later : old.link.faults ≤ new.link.faults
  reads : KeepsAll old.disk new.disk
  holding : new.parts.holding ≡ old.parts.holding
  fetching : new.parts.fetching ≡ old.parts.fetching
  counts : CountsStay old.parts.counts new.parts.counts
  swarm : new.parts.seats.descriptor ≡ old.parts.seats.descriptor
  moment : new.parts.seats.moment ≡ old.parts.seats.moment
  own : KeepsOwn old.parts.seats new.parts.seats
  waits : KeepsWaits old.parts.counts new.parts.counts
  stands : (x : Setting) (most : ℕ) (past : List Record) → seats.StandsFor x most old.parts.seats past
      → HoldsAnnounced x (is_committed old.parts.holding.store) past → seats.StandsFor x (most + refused) new.parts.seats past

flushes_unsent : (refused : ℕ) (old new : Scene) → Unsent refused old new → Flushes refused old new
flushes_unsent refused old new u = record {
  added = [];
  gained = gains_nothing old.link.traffic new.link.traffic u.traffic;
  nexts = u.nexts;
  bound = u.bound;
  later = u.later;
  ours = tt;
  seeds = λ none. record { fetching = u.fetching ∙ none; asks = refl };
  waits = u.waits;
  reads = u.reads;
  holding = u.holding;
  swarm = u.swarm;
  moment = u.moment;
  stands = λ b most past since h. record {
    ledger = ledger_same b old.parts new.parts past u.holding u.counts h.ledger;
    known_of = h.known_of;
    seats = u.stands (setting b h.known_of) most past h.seats h.holds;
    holds = subst (λ (s : HoldingState). HoldsAnnounced (setting b h.known_of) (is_committed s.store) past) (sym u.holding) h.holds;
    fetches = fetches_on old.parts new.parts u.own u.fetching h.fetches;
  };
}

keeps_none : (disk left : DiskState) → left ≡ disk → KeepsAll disk left
keeps_none disk left same = subst (λ (s : DiskState). KeepsAll disk s) (sym same)
    (record { tells = refl; honest = refl; same = refl; faults = omega arith; hard = omega arith })

no_more : (x : Setting) (most : ℕ) (p : SeatsState) (past : List Record) → seats.StandsFor x most p past → seats.StandsFor x (most + 0) p past
no_more x most p past h = subst (λ (n : ℕ). seats.StandsFor x n p past) zero_more h
  where
    zero_more : most ≡ most + 0
    zero_more = omega arith

-- ---- a chunk was sent

delivery_silent : (book : LookUp) (nodes : List Node) (chunk at : ℕ) (bytes : List ℕ) (i : ℕ) → announces i (delivery book nodes chunk at bytes) ≡ false
delivery_silent book [] chunk at bytes i = refl
delivery_silent book (n ∷ ns) chunk at bytes i = delivery_silent book ns chunk at bytes i

delivery_asks_none : (book : LookUp) (nodes : List Node) (chunk at : ℕ) (bytes : List ℕ) → has_request (delivery book nodes chunk at bytes) ≡ false
delivery_asks_none book [] chunk at bytes = refl
delivery_asks_none book (n ∷ ns) chunk at bytes = delivery_asks_none book ns chunk at bytes

module _ (k : ℕ) (old new : Parts) (link later : LinkState) (disk left : DiskState) (rests : Rests outcomes.Sent old new)
    (s : SendsChunk k old.holding.store (entry old.holding.book) old.seats new.seats link later disk left) where
  abbrev r : Record
  r = Sent (moment_of left.history) (address_of s.far.address) s.datagram

  silent : (d : Descriptor) (i : ℕ) → old.seats.descriptor ≡ d → announces i (plain.datagram d.method d.chunk s.datagram).messages.read ≡ false
  silent d i e = subst (λ (y : Descriptor). announces i (plain.datagram y.method y.chunk s.datagram).messages.read ≡ false) e
      (ap (λ (g : plain.Datagram). announces i g.messages.read) s.written.read
      ∙ delivery_silent (entry old.holding.book) (plan s.before.told.chunks (knows s.before.told) s.chunk) s.chunk old.seats.moment s.bytes i)

  counts_sent : CountsSent old.counts new.counts
  counts_sent = record {
    datagrams = ap (λ (c : Counts). c.datagrams) rests.counts;
    short = ap (λ (c : Counts). c.short) rests.counts;
    sent = ap (λ (c : Counts). c.sent) rests.counts;
  }

  holds_sent : (x : Setting) (past : List Record) → old.seats.descriptor ≡ x.d → HoldsAnnounced x (is_committed old.holding.store) past
      → HoldsAnnounced x (is_committed new.holding.store) (r ∷ past)
  holds_sent x past swarm h = subst (λ (y : HoldingState). HoldsAnnounced x (is_committed y.store) (r ∷ past)) (sym rests.holding) (record {
    found = h.found;
    announced = λ i e. h.announced i (sym (ap (λ (b : Bool). b || is_announced x.d i past) (silent x.d i swarm)) ∙ e);
    known = h.known;
  })

  stands_sent : (b : Beginning) (most : ℕ) (past : List Record) → b.since ≤ moment_of disk.history → StandsFor b most old past → StandsFor b (most + 0) new (r ∷ past)
  stands_sent b most past since h = record {
    ledger = ledger_sent b old new (moment_of left.history) (address_of s.far.address) s.datagram past rests.holding counts_sent
        (s.serves (setting b h.known_of) most past h.seats) (s.plans (setting b h.known_of) most past h.seats)
        (λ i e. absurd (both_ways _ (silent b.d i h.seats.swarm) e))
        (subst (λ (y : History). b.since ≤ moment_of y) (sym s.reads.looks.same) since) h.ledger;
    known_of = h.known_of;
    seats = no_more (setting b h.known_of) most new.seats (r ∷ past) (s.stands (setting b h.known_of) most past h.seats);
    holds = holds_sent (setting b h.known_of) past h.seats.swarm h.holds;
    fetches = fetches_on old new
        (keeps_sent old.seats new.seats k s.far s.before s.after s.may.is_far s.may.there (ap (λ (y : SeatState). y.own) s.exact) s.is)
        rests.fetching h.fetches;
  }

  flushes_sent : Flushes 0 (record { parts = old; link = link; disk = disk }) (record { parts = new; link = later; disk = left })
  flushes_sent = record {
    added = r ∷ [];
    gained = s.sends.outcome;
    nexts = s.sends.nexts;
    bound = s.sends.bound;
    later = s.sends.later;
    ours = (
      record {
        receiver = address_of s.far.address;
        bytes = s.datagram;
        is = ap (λ (n : ℕ). Sent n (address_of s.far.address) s.datagram) (ap (λ (h : History). moment_of h) s.reads.looks.same);
        channel = s.far.number;
        messages = delivery (entry old.holding.book) (plan s.before.told.chunks (knows s.before.told) s.chunk) s.chunk old.seats.moment s.bytes;
        written = s.written;
      },
      tt,
    );
    seeds = λ none. record {
      fetching = rests.fetching ∙ none;
      asks = ap (λ (x : Bool). x || false) (ap (λ (g : plain.Datagram). has_request g.messages.read) s.written.read
          ∙ delivery_asks_none (entry old.holding.book) (plan s.before.told.chunks (knows s.before.told) s.chunk) s.chunk old.seats.moment s.bytes);
    };
    waits = record { turns = ap (λ (c : Counts). c.turns) rests.counts; receive_faults = ap (λ (c : Counts). c.receive_faults) rests.counts };
    reads = s.reads.looks;
    holding = rests.holding;
    swarm = ap (λ (p : SeatsState). p.descriptor) s.is;
    moment = ap (λ (p : SeatsState). p.moment) s.is;
    stands = stands_sent;
  }

-- ---- whatever became of it

stay_waits : (served : Served) (old new : Parts) → Rests served old new → KeepsWaits old.counts (after_some (counted served) old.counts) → KeepsWaits old.counts new.counts
stay_waits served old new rests stay = subst (λ (c : Counts). KeepsWaits old.counts c) (sym rests.counts) stay

stay_counts : (served : Served) (old new : Parts) → Rests served old new → CountsStay old.counts (after_some (counted served) old.counts) → CountsStay old.counts new.counts
stay_counts served old new rests stay = subst (λ (c : Counts). CountsStay old.counts c) (sym rests.counts) stay

pub flushes_served : (k : ℕ) (served : Served) (old new : Parts) (link later : LinkState) (disk left : DiskState) → Rests served old new
    → Serving k old.holding.store (entry old.holding.book) served old.seats new.seats link later disk left
    → Flushes (given_up served) (record { parts = old; link = link; disk = disk }) (record { parts = new; link = later; disk = left })
flushes_served k outcomes.Done old new link later disk left rests s = flushes_unsent 0 _ _ (record {
  traffic = ap (λ (l : LinkState). l.traffic) s.1;
  nexts = ap (λ (l : LinkState). l.nexts) s.1;
  bound = ap (λ (l : LinkState). l.bound) s.1;
  later = (let e = ap (λ (l : LinkState). l.faults) s.1 in omega (arith, e));
  reads = keeps_none disk left s.2;
  holding = rests.holding;
  fetching = rests.fetching;
  counts = stay_counts outcomes.Done old new rests (record { datagrams = refl; short = refl; sent = refl });
  waits = stay_waits outcomes.Done old new rests (record { turns = refl; receive_faults = refl });
  swarm = ap (λ (p : SeatsState). p.descriptor) s.0;
  moment = ap (λ (p : SeatsState). p.moment) s.0;
  own = record {
    own = λ seat. ap (λ (p : SeatsState). own_in p.seats seat) s.0;
    far = λ seat e. ap (λ (p : SeatsState). far_of (channel_at p.table seat)) (sym s.0) ∙ e;
  };
  stands = λ x most past h holds. subst (λ (p : SeatsState). seats.StandsFor x (most + 0) p past) (sym s.0) (no_more x most old.seats past h);
})
flushes_served k outcomes.Passed old new link later disk left rests s = flushes_unsent 0 _ _ (record {
  traffic = ap (λ (l : LinkState). l.traffic) s.0;
  nexts = ap (λ (l : LinkState). l.nexts) s.0;
  bound = ap (λ (l : LinkState). l.bound) s.0;
  later = (let e = ap (λ (l : LinkState). l.faults) s.0 in omega (arith, e));
  reads = keeps_none disk left s.1;
  holding = rests.holding;
  fetching = rests.fetching;
  counts = stay_counts outcomes.Passed old new rests (record { datagrams = refl; short = refl; sent = refl });
  waits = stay_waits outcomes.Passed old new rests (record { turns = refl; receive_faults = refl });
  swarm = ap (λ (p : SeatsState). p.descriptor) s.2.is;
  moment = ap (λ (p : SeatsState). p.moment) s.2.is;
  own = keeps_set old.seats new.seats k s.2.before s.2.after s.2.may.there (ap (λ (y : SeatState). y.own) s.2.exact) s.2.is;
  stands = λ x most past h holds. no_more x most new.seats past (s.2.stands x most past h holds);
})
flushes_served k outcomes.Sent old new link later disk left rests s = flushes_sent k old new link later disk left rests s
flushes_served k outcomes.Refused old new link later disk left rests s = flushes_unsent 1 _ _ (record {
  traffic = s.2.traffic;
  nexts = s.2.nexts;
  bound = s.2.bound;
  later = s.2.grows;
  reads = s.3.looks;
  holding = rests.holding;
  fetching = rests.fetching;
  counts = stay_counts outcomes.Refused old new rests (record { datagrams = refl; short = refl; sent = refl });
  waits = stay_waits outcomes.Refused old new rests (record { turns = refl; receive_faults = refl });
  swarm = ap (λ (p : SeatsState). p.descriptor) s.4.is;
  moment = ap (λ (p : SeatsState). p.moment) s.4.is;
  own = keeps_set old.seats new.seats k s.4.before s.4.after s.4.may.there (ap (λ (y : SeatState). y.own) s.4.exact) s.4.is;
  stands = λ x most past h holds. s.4.stands x most past h;
})
flushes_served k (outcomes.Unread why) old new link later disk left rests s = flushes_unsent 1 _ _ (record {
  traffic = ap (λ (l : LinkState). l.traffic) s.2;
  nexts = ap (λ (l : LinkState). l.nexts) s.2;
  bound = ap (λ (l : LinkState). l.bound) s.2;
  later = (let e = ap (λ (l : LinkState). l.faults) s.2 in omega (arith, e));
  reads = s.3.looks;
  holding = rests.holding;
  fetching = rests.fetching;
  counts = stay_counts (outcomes.Unread why) old new rests (unread_stay why);
  waits = stay_waits (outcomes.Unread why) old new rests (unread_waits why);
  swarm = ap (λ (p : SeatsState). p.descriptor) s.4.is;
  moment = ap (λ (p : SeatsState). p.moment) s.4.is;
  own = keeps_set old.seats new.seats k s.4.before s.4.after s.4.may.there (ap (λ (y : SeatState). y.own) s.4.exact) s.4.is;
  stands = λ x most past h holds. s.4.stands x most past h;
})
  where
    unread_stay : (u : Unread) → CountsStay old.counts (after_some (counted (outcomes.Unread u)) old.counts)
    unread_stay unread.Absent = record { datagrams = refl; short = refl; sent = refl }
    unread_stay unread.Disk = record { datagrams = refl; short = refl; sent = refl }
    unread_stay unread.Damaged = record { datagrams = refl; short = refl; sent = refl }

    unread_waits : (u : Unread) → KeepsWaits old.counts (after_some (counted (outcomes.Unread u)) old.counts)
    unread_waits unread.Absent = record { turns = refl; receive_faults = refl }
    unread_waits unread.Disk = record { turns = refl; receive_faults = refl }
    unread_waits unread.Damaged = record { turns = refl; receive_faults = refl }

-- the records that the link gained by it
abbrev pub added_by : (k : ℕ) (served : Served) (store : StoreState) (book : LookUp) (old new : SeatsState) (link later : LinkState) (disk left : DiskState)
    → Serving k store book served old new link later disk left → List Record
added_by k outcomes.Sent store book old new link later disk left s = Sent (moment_of left.history) (address_of s.far.address) s.datagram ∷ []
added_by k served store book old new link later disk left s = []

pub served_added : (k : ℕ) (served : Served) (old new : Parts) (link later : LinkState) (disk left : DiskState) (rests : Rests served old new)
    → (s : Serving k old.holding.store (entry old.holding.book) served old.seats new.seats link later disk left)
    → (flushes_served k served old new link later disk left rests s).added
    ≡ added_by k served old.holding.store (entry old.holding.book) old.seats new.seats link later disk left s
unfolding flushes_served flushes_unsent flushes_sent
served_added k outcomes.Done old new link later disk left rests s = refl
served_added k outcomes.Passed old new link later disk left rests s = refl
served_added k outcomes.Sent old new link later disk left rests s = refl
served_added k outcomes.Refused old new link later disk left rests s = refl
served_added k (outcomes.Unread why) old new link later disk left rests s = refl

-- with the store and the book by other names
pub serving_of : (k : ℕ) (served : Served) (store given : StoreState) (book lent : BookState) (old new : SeatsState) (link later : LinkState) (disk left : DiskState)
    → given ≡ store → lent ≡ book → Serving k given (entry lent) served old new link later disk left → Serving k store (entry book) served old new link later disk left
serving_of k served store given book lent old new link later disk left same_store same_book s =
    subst (λ (x : StoreState). Serving k x (entry book) served old new link later disk left) same_store
    (subst (λ (x : BookState). Serving k given (entry x) served old new link later disk left) same_book s)

far_stays : (t : Seats) (k at seat : ℕ) (c : Channel) → channel_at t k ≡ Some c → far_of (channel_at (with_datagram t k false at) seat) ≡ far_of (channel_at t seat)
far_stays t k at seat c there =
    let change = changed_is t k c (λ x. record x { wrote = at }) there in ⊎_elim
    (λ here.
    ap far_of (ap (channel_at (with_datagram t k false at)) (eqb-true seat k here) ∙ change.there)
    ∙ sym (ap far_of (ap (channel_at t) (eqb-true seat k here) ∙ there)))
    (λ apart. ap far_of (change.others seat (eqb-false seat k apart)))
    (cases_Bool (eqb seat k))

one_set : (k : ℕ) (old new : SeatsState) (after : SeatState) → new ≡ record old { seats = set old.seats k after } → ChangesOneSeat k old new
one_set k old new after is = record {
  far = λ other. ap (λ (p : SeatsState). far_of (channel_at p.table other)) is;
  others = λ other ne. ap (λ (p : SeatsState). slice_get p.seats other) is ∙ get_set_other old.seats k other after ne;
}

pub one_served : (k : ℕ) (served : Served) (store : StoreState) (book : LookUp) (old new : SeatsState) (link later : LinkState) (disk left : DiskState)
    → Serving k store book served old new link later disk left → ChangesOneSeat k old new
one_served k outcomes.Done store book old new link later disk left s = record {
  far = λ other. ap (λ (p : SeatsState). far_of (channel_at p.table other)) s.0;
  others = λ other ne. ap (λ (p : SeatsState). slice_get p.seats other) s.0;
}
one_served k outcomes.Passed store book old new link later disk left s = one_set k old new s.2.after s.2.is
one_served k outcomes.Sent store book old new link later disk left s =
    let f = far_is (channel_at old.table k) s.far s.may.is_far in
    record {
      far = λ other. ap (λ (p : SeatsState). far_of (channel_at p.table other)) s.is ∙ far_stays old.table k old.moment other f.channel f.there;
      others = λ other ne. ap (λ (p : SeatsState). slice_get p.seats other) s.is ∙ get_set_other old.seats k other s.after ne;
    }
one_served k outcomes.Refused store book old new link later disk left s = one_set k old new s.4.after s.4.is
one_served k (outcomes.Unread why) store book old new link later disk left s = one_set k old new s.4.after s.4.is
