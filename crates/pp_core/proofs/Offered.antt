-- What a flush asks for, in the words of the promises.
use Rattle.std.proofs.Common.{◌≡◌, ◌⊎◌, inl, inr, ⊎_elim, ℕ, ◌+◌, ◌<◌, ◌≤◌, eqb, Bool, true, false, not, ◌&&◌, ◌||◌, Option, Some, None, List, [], ◌∷◌, ◌++◌, length, map, refl, sym, ◌∙◌, ap, subst, arith}
use Rattle.std.specs.Prelude.{is_some, nat_lt, slice_get, slice_index_or}
use Rattle.std.specs.List.{list_any}
use Rattle.std.proofs.lemmas.Bool.{and_parts, false≢true, lt-ltb, ltb-true, or_left}
use Rattle.std.proofs.lemmas.Option.{same_Some}
use Rattle.pp_terms.specs.Count.{HasRisen}
use Rattle.pp_terms.specs.disk.Disk.{DiskState, moment_of}
use Rattle.pp_terms.specs.format.Descriptor.{Descriptor, chunks_of}
use Rattle.pp_terms.specs.format.Traffic.{Record, LinkState}
use Rattle.pp_terms.proofs.Risings.{risen_more, risen_less}
use Rattle.pp_traffic.specs.Life.{Life}
use Rattle.pp_traffic.specs.Plain.{IsPlainNow}
use Rattle.pp_traffic.specs.Story.{Line, story}
use Rattle.pp_traffic.proofs.Awaited.{plain_began}
use Rattle.pp_promises.specs.Asked.{MayBeAsked, asks_for, named_count}
use Rattle.pp_promises.specs.Batches.{is_in, is_pending}
use Rattle.pp_promises.specs.OwnSide.{is_named, is_offered}
use Rattle.pp_promises.specs.ReadStory.{read_story}
use Rattle.pp_promises.proofs.ReadStories.{plains_are_read}
use Rattle.pp_avail.specs.Offers as offers
use Rattle.pp_avail.specs.declared.ranker.Rank.{Rank}
use Rattle.pp_outside.specs.Arrivals.{IsEvent}
use Rattle.pp_outside.specs.Outside.{record_of}
use Rattle.pp_outside.specs.declared.link.Address.{Address}
use Rattle.pp_outside.specs.declared.link.Event.{Event}
use Rattle.pp_peer.specs.Events.{Absorbs}
use Rattle.pp_fetching.specs.Fetching.{FetchState}
use Rattle.pp_fetching.specs.Owners.{awaits}
use Rattle.pp_requests.specs.declared.asking.Asking.{Asking}
use Rattle.pp_requests.specs.Moments.{asked_at}
use Rattle.pp_store.specs.Store.{is_committed, is_held}
use Rattle.pp_channels.specs.Seats.{channel_at}
use Rattle.pp_holding.specs.Holding.{HoldingState, batch_of, is_queued, HasWaiting}
use Rattle.pp_holding.specs.Queue.{pending_of}
use Rattle.pp_holding.specs.declared.queue.Waiting.{Waiting}
use Rattle.pp_lives.specs.Fars.{far_of}
use Rattle.pp_lives.specs.Standing.{Stands, HasSeat}
use Rattle.pp_lives.proofs.Own.{stands_of}
use Rattle.pp_seat.specs.Lines.{is_asked_at, is_named_at}
use Rattle.pp_seat.specs.Seats.{SeatState}
use Rattle.pp_seats.specs.Standing.{SeatsState}
use Rattle.pp_peer.specs.declared.parts.Parts.{Parts}
use Rattle.pp_peer.specs.Delivering.{IsServedAt}
use Rattle.pp_peer.specs.Flushing.{Scene}
use Rattle.pp_peer.specs.Greeting.{offers_of}
use Rattle.pp_peer.specs.Sending.{SendsAll}
use Rattle.pp_peer.specs.Serving.{IsServed}
use Rattle.pp_peer.specs.Speaking.{most_of}
use Rattle.pp_peer.specs.Standing.{Beginning, IsWhole, asked_of, own_at, own_in, StandsFor}
use Rattle.pp_peer.proofs.Dialled.{IsDialling, all_dialling}
use Rattle.pp_core.specs.Asking.{OffersNone}
use Rattle.pp_core.specs.Having.{HasHeld, HasJust}
use Rattle.pp_core.specs.Offering.{OffersHeard, limit_of, FetchesAll, KeepsOffers, AsksOrHolds}
use Rattle.pp_core.specs.Opening.{HasBegun, WantsIf}
use Rattle.pp_core.specs.Peers.{PeerState}
use Rattle.pp_core.specs.Turning.{scene, after_refusal, Sends}
use Rattle.pp_core.proofs.Asking.{HadAll}
use Rattle.pp_core.proofs.Askable.{IsAskable, askable}
use Rattle.pp_core.proofs.FewNamed.{few_named}
use Rattle.pp_core.proofs.Filling.{IsFull, MayAskAt, turns_leave}
use Rattle.pp_core.proofs.Flushes.{in_set, lets_go}
use Rattle.pp_core.proofs.Coming.{absorbs_heard, none_heard}
use Rattle.pp_core.proofs.Haves.{flush_heard, refusal_heard}
use Rattle.pp_core.proofs.Having.{had_of, wanted_had, absorbs_held, flush_held}
use Rattle.pp_core.proofs.Limits.{flush_limit}
use Rattle.pp_core.proofs.Named.{named_later, named_then, noted_asked}
use Rattle.pp_core.proofs.PlainBefore.{plain_then}
use Rattle.pp_core.proofs.Rooms.{Alike, slots_alike, most_at, most_in, IsOwned}
use Rattle.pp_core.proofs.Served.{risen_or}
use Rattle.pp_core.proofs.Staying.{flush_came, dials_messages}
use Rattle.pp_core.proofs.Turned.{owned_alike}

-- ---- what is held

queued_in : (waiting : List Waiting) (i : ℕ) → list_any (λ p. eqb p.chunk i) (map pending_of waiting) ≡ is_queued waiting i
queued_in [] i = refl
queued_in (w ∷ waiting) i = λ t. eqb w.ticket.chunk i || queued_in waiting i t

-- What is committed or waits is held.
pub in_held : (h : HoldingState) (i : ℕ) → HasWaiting h.store h.queue.waiting → is_in (batch_of h) i ≡ true → is_held h.store i ≡ true
in_held h i waits e = ap (λ (x : Bool). slice_index_or h.store.committed i false || x) (sym (queued_in h.queue.waiting i ∙ waits.each i)) ∙ e

-- a fetching peer has what is committed
had_all : (p : Parts) → HasHeld p → HadAll (had_of p.fetching) (is_committed p.holding.store)
had_all p h = of p.fetching h
  where
    of : (o : Option FetchState) → ((f : FetchState) → o ≡ Some f → HasJust f.want.had (batch_of p.holding))
        → HadAll (had_of o) (is_committed p.holding.store)
    of None h = tt
    of (Some f) h = λ i at.
        let just = h f refl in
        just.each i (let lt = in_set p.holding.store.committed i at in let size = just.size in omega (arith, lt, size))
        ∙ or_left (is_committed p.holding.store i) (is_pending (batch_of p.holding) i) at

-- ---- what was asked for

had_or_asked : (a b had asked offers : Bool) → ((((a && b) && not had) && not asked) && offers) ≡ false → a ≡ true → b ≡ true → offers ≡ true
    → (had ≡ true) ⊎ (asked ≡ true)
had_or_asked true true true asked offers e x y z = inl refl
had_or_asked true true false true offers e x y z = inr refl
had_or_asked true true false false true e x y z = absurd cc
had_or_asked true true false false false e x y z = absurd cc
had_or_asked true false had asked offers e x y z = absurd cc
had_or_asked false b had asked offers e x y z = absurd cc

-- what a seat was before chunks were served
served_state : (o p : Option SeatState) (s : SeatState) → IsServedAt o p → p ≡ Some s
    → (was : SeatState) × (o ≡ Some was) × (most_of was ≡ most_of s) × (was.own ≡ s.own)
served_state None p s served there = let x : None ≡ Some s = sym served ∙ there in absurd cc
served_state (Some was) p s served there =
    let same = same_Some served.0 s (sym served.1 ∙ there) in (
      was,
      refl,
      sym (ap most_of served.2) ∙ ap most_of same,
      sym (ap (λ (x : SeatState). x.own) served.2) ∙ ap (λ (x : SeatState). x.own) same,
    )

-- A chunk that is awaited was asked for at some moment.
awaited_at : (own : List Asking) (i : ℕ) → awaits own i ≡ true → (moment : ℕ) × (asked_at own i ≡ Some moment)
awaited_at own i e = of (asked_at own i) refl e
  where
    of : (m : Option ℕ) → asked_at own i ≡ m → is_some m ≡ true → (moment : ℕ) × (asked_at own i ≡ Some moment)
    of None is e = absurd (false≢true e)
    of (Some moment) is e = (moment, is)

-- What a fetching peer knows before a flush and after it, and below which number it wants chunks.
pub record IsAsking (b : Beginning) (old new : PeerState) : Type 0 where
  pub had : HasHeld old.parts
  pub waits : HasWaiting new.parts.holding.store new.parts.holding.queue.waiting
  pub held : HasHeld new.parts
  pub fetching : FetchState
  pub is_fetching : new.parts.fetching ≡ Some fetching
  pub limit : ℕ
  pub wants : fetching.want.limit ≡ limit
  pub inside : limit ≤ chunks_of b.d

module _ (refused : ℕ) (old new : PeerState) (link later : LinkState) (disk left : DiskState) (course : Sends refused old new link later disk left)
    (b : Beginning) (most : ℕ) (past : List Record) (since : b.since ≤ moment_of disk.history) (stands : StandsFor b most old.parts past)
    (is : IsAsking b old new) (heard : OffersHeard b.d new.parts (course.flushes.added ++ past)) where
  abbrev records : List Record
  records = course.flushes.added ++ past

  abbrev f : FetchState
  f = is.fetching

  abbrev s : SendsAll old.dials new.dials old.speaker new.speaker refused (scene old.parts link disk) (scene course.sent later left)
  s = course.sends

  abbrev start : Scene
  start = scene s.given link disk

  dialling : IsDialling start s.dialled
  dialling = all_dialling old.dials new.dials start s.dials_all.0 s.dialled s.dials_all.1 s.dials_all.2

  slots : Alike s.dialled.parts s.turned
  slots = slots_alike s.dialled.parts s.turned s.turns

  messages : s.dialled.parts.seats.seats ≡ s.given.seats.seats
  messages = dials_messages old.dials new.dials start s.dialled s.dials_all

  then : StandsFor b (most + refused) new.parts records
  then = course.goes.stands b most past since stands

  seats_same : new.parts.seats ≡ course.sent.seats
  seats_same = ap (λ (p : Parts). p.seats) course.rest

  fetching_same : new.parts.fetching ≡ s.said.parts.fetching
  fetching_same = ap (λ (p : Parts). p.fetching) course.rest ∙ ap (λ (p : Parts). p.fetching) s.only

  -- ---- as the seats' turns begin

  same_fetching : s.turned.fetching ≡ s.given.fetching
  same_fetching = slots.fetching ∙ ap (λ (p : Parts). p.fetching) dialling.only

  own_given : (n : ℕ) → own_in s.turned.seats.seats n ≡ own_in s.given.seats.seats n
  own_given n = slots.own n ∙ ap (λ (xs : List SeatState). own_in xs n) messages

  owned : IsOwned s.turned
  owned = owned_alike s.given s.turned own_given same_fetching
      (s.gives_up.stands b most past (s.drops.stands b most past stands)).fetches.owned

  holding : s.turned.holding ≡ old.parts.holding
  holding = slots.holding ∙ dialling.flushes.holding ∙ ap (λ (p : Parts). p.holding) s.gives_up.rest ∙ ap (λ (p : Parts). p.holding) s.drops.rest

  had : HadAll (had_of s.turned.fetching) (is_committed s.turned.holding.store)
  had = subst (λ (h : HoldingState). HadAll (had_of s.turned.fetching) (is_committed h.store)) (sym holding)
      (subst (λ (o : Option (List Bool)). HadAll o (is_committed old.parts.holding.store))
      (sym (ap had_of same_fetching ∙ wanted_had s.given.fetching s.dropped.fetching s.gives_up.wanted
      ∙ wanted_had s.dropped.fetching old.parts.fetching s.drops.wanted))
      (had_all old.parts is.had))

  -- ---- a channel that may be asked

  module _ (life : Life) (may : MayBeAsked b.d life records) (a : IsAskable b.d new.parts life records) where
    there_sent : channel_at course.sent.seats.table a.seat ≡ Some a.channel
    there_sent = ap (λ (x : SeatsState). channel_at x.table a.seat) (sym seats_same) ∙ a.there

    was : (was : SeatState) × (slice_get s.said.parts.seats.seats a.seat ≡ Some was) × (most_of was ≡ most_of a.state) × (was.own ≡ a.state.own)
    was = served_state (slice_get s.said.parts.seats.seats a.seat) (slice_get course.sent.seats.seats a.seat) a.state
        (s.serves.alone.states a.seat) (ap (λ (x : SeatsState). slice_get x.seats a.seat) (sym seats_same) ∙ a.state_there)

    own_said : own_in s.said.parts.seats.seats a.seat ≡ a.state.own
    own_said = ap own_at was.1 ∙ was.3

    most_said : most_in s.said.parts.seats.seats a.seat ≡ 32
    most_said = ap most_at was.1 ∙ was.2 ∙ a.most

    may_said : MayAskAt a.seat s.said.parts
    may_said = record {
      far = a.far;
      is_far = sym (s.serves.far a.seat) ∙ ap (λ (x : SeatsState). far_of (channel_at x.table a.seat)) (sym seats_same) ∙ a.is_far;
      begun = a.begun;
      may = subst (λ (n : ℕ). 0 < n) (sym most_said) (omega arith);
    }

    -- the channel was there before, and was plain
    plain : IsPlainNow b.d life past
    plain = plain_then refused old new link later disk left course b most past since stands life may.plain may.heard

    hs : HasSeat old.parts.seats.table stands.seats.lives life
    hs = stands.seats.standing.plains.plain life plain

    seat_is : a.seat ≡ hs.seat
    seat_is =
        let came = flush_came a.seat old.dials new.dials old.speaker new.speaker refused (scene old.parts link disk) (scene course.sent later left)
        s a.low in
        let e = came.channel a.channel there_sent a.of_life.known in
        let st : Stands b.d hs.channel life past = stands_of b.d (channel_at old.parts.seats.table hs.seat) (stands.seats.lives hs.seat) hs.channel life past
        (stands.seats.standing.seated.each hs.seat) hs.there hs.lives_there in
        stands.seats.standing.seated.are.differ a.seat hs.seat e.0 hs.channel e.1 hs.there (e.4 ∙ sym a.of_life.local ∙ st.local)

    asked_named : (i moment : ℕ) (lines : List Line) → is_asked_at (chunks_of b.d) i moment lines ≡ true
        → (i < chunks_of b.d) × (is_named i lines ≡ true)
    asked_named i moment lines e =
        let parts = and_parts (nat_lt i (chunks_of b.d)) (is_named_at i moment lines) e in
        (ltb-true i (chunks_of b.d) parts.0, named_then i moment lines parts.1)

    -- what was awaited there before was named
    old_named : (i : ℕ) → awaits (own_in old.parts.seats.seats a.seat) i ≡ true
        → (i < chunks_of b.d) × (is_named i (read_story b.d life records) ≡ true)
    old_named i e = of (slice_get old.parts.seats.seats hs.seat) refl
        (ap (λ (n : ℕ). awaits (own_in old.parts.seats.seats n) i) (sym seat_is) ∙ e)
      where
        of : (o : Option SeatState) → slice_get old.parts.seats.seats hs.seat ≡ o → awaits (own_at o) i ≡ true
            → (i < chunks_of b.d) × (is_named i (read_story b.d life records) ≡ true)
        of None there e = absurd (false≢true e)
        of (Some known) there e =
            let at = awaited_at known.own i e in
            let followed = stands.seats.follow hs.seat hs.channel life known hs.there hs.known hs.lives_there there in
            let it = asked_named i at.0 (read_story b.d life past) (followed.follows.own.named i at.0 at.1) in (
              it.0,
              named_later b.d old.parts.seats.descriptor life i (moment_of disk.history) course.flushes.added past course.flushes.ours
                  (plain_began b.d life past past plain) it.1,
            )

    -- and so is what is awaited now
    new_named : (i : ℕ) → awaits a.state.own i ≡ true → (i < chunks_of b.d) × (is_named i (read_story b.d life records) ≡ true)
    new_named i e = let at = awaited_at a.state.own i e in asked_named i at.0 (read_story b.d life records) (a.named i at.0 at.1)

    -- What was awaited as the turns began was awaited before the flush.
    own_begun : (i : ℕ) → awaits (own_in s.turned.seats.seats a.seat) i ≡ true
        → awaits (own_in old.parts.seats.seats a.seat) i ≡ true
    own_begun i e = ⊎_elim
        (λ kept. ap (λ (own : List Asking). awaits own i) (sym (ap own_at kept.messages)) ∙ dropped)
        (λ over. absurd (false≢true (ap (λ (own : List Asking). awaits own i) (sym over.1.own) ∙ dropped)))
        (s.drops.each a.seat a.low)
      where
        dropped : awaits (own_in s.dropped.seats.seats a.seat) i ≡ true
        dropped = lets_go s.dropped.seats.moment (slice_get s.dropped.seats.seats a.seat) (slice_get s.given.seats.seats a.seat) (s.gives_up.each a.seat) i
            (ap (λ (own : List Asking). awaits own i) (sym (own_given a.seat)) ∙ e)

    -- a channel with room was not filled
    not_full : IsFull a.seat s.turned s.said.parts → ⊥
    not_full full =
        let count = few_named (λ i. is_named i (read_story b.d life records)) (chunks_of b.d) (own_in s.turned.seats.seats a.seat) full.picks
        full.rises full.runs full.fresh (λ i e. old_named i (own_begun i e))
        (λ i at. new_named i (ap (λ (own : List Asking). awaits own i) (sym own_said) ∙ full.awaited i at)) in
        let room = subst (λ (lines : List Line). named_count (chunks_of b.d) lines < 32) (sym (plains_are_read b.d life records may.plain)) may.room in
        let all = full.full in
        omega (arith, count, room, all, most_said)

    -- a chunk that is offered where nothing is left to ask for
    chunk_asked : OffersNone a.seat new.parts → (i : ℕ) → i < is.limit → is_offered i (story b.d life records) ≡ true
        → (list_any (asks_for b.d i) records ≡ true) ⊎ (is_held new.parts.holding.store i ≡ true)
    chunk_asked none i low offered = ⊎_elim
        (λ had. inr (in_held new.parts.holding i is.waits (sym ((is.held f is.is_fetching).each i within) ∙ had)))
        (λ asked. inl (noted_asked b (most + refused) new.parts records then i
        (ap (λ (o : Option FetchState). slice_index_or (asked_of o) i false) is.is_fetching ∙ asked)))
        (had_or_asked (nat_lt i (length f.want.had)) (nat_lt i f.want.limit) (slice_index_or f.want.had i false)
        (slice_index_or f.want.asked i false) (offers.has f.offers a.seat i) (none f is.is_fetching i)
        (lt-ltb i (length f.want.had) within)
        (lt-ltb i f.want.limit (let wants = is.wants in omega (arith, low, wants)))
        (ap (λ (o : Option FetchState). offers_of o a.seat i) (sym is.is_fetching)
        ∙ heard life (inl may.plain) a.seat a.channel a.there a.of_life (ap is_some is.is_fetching) i (let inside = is.inside in omega (arith, low, inside))
        (ap (is_offered i) (plains_are_read b.d life records may.plain) ∙ offered)))
      where
        within : i < length f.want.had
        within =
            let size = (is.held f is.is_fetching).size ∙ is.waits.committed_size in
            let same = ap chunks_of then.ledger.swarm in
            let inside = is.inside in
            omega (arith, low, size, same, inside)

    channel_asked : (HasRisen link.faults later.faults → ⊥) → (i : ℕ) → i < is.limit → is_offered i (story b.d life records) ≡ true
        → (list_any (asks_for b.d i) records ≡ true) ⊎ (is_held new.parts.holding.store i ≡ true)
    channel_asked unrisen i low offered = ⊎_elim
        (λ nothing. chunk_asked (λ g e. nothing g (sym fetching_same ∙ e)) i low offered)
        (λ rest. ⊎_elim
        (λ risen. absurd (unrisen (risen_more link.faults s.said.link.faults later.faults s.serves.flushes.later
        (risen_less link.faults s.dialled.link.faults s.said.link.faults dialling.flushes.later risen))))
        (λ full. absurd (not_full full))
        rest)
        (turns_leave a.seat 64 s.unsaid s.speaks.gathered new.speaker (record s.dialled { parts = s.turned }) s.said s.speaks.turns a.low owned had
        may_said)

  -- On each channel that may be asked each chunk below the limit that it offers was asked for, or is held, unless the link refused a datagram.
  pub turn_asks : AsksOrHolds b.d is.limit (λ i. is_held new.parts.holding.store i) records ⊎ HasRisen link.faults later.faults
  turn_asks = ⊎_elim
      (λ risen. inr risen)
      (λ none. inl (λ life may i low offered.
      channel_asked life may (askable b (most + refused) new.parts records then ends life may) none i low offered))
      (risen_or link.faults later.faults)
    where
      ends : (n : ℕ) → n < 64 → IsServed new.parts.seats n
      ends n lt = subst (λ (x : SeatsState). IsServed x n) (sym seats_same) (s.serves.ends n lt)

-- ---- what a fetch keeps for it

limit_there : (o : Option FetchState) (n : ℕ) → limit_of o ≡ Some n → (f : FetchState) × (o ≡ Some f) × (f.want.limit ≡ n)
limit_there None n e = absurd cc
limit_there (Some f) n e = (f, refl, same_Some f.want.limit n e)

-- A peer that begins keeps what others offer: nothing.
pub begun_offers : (d : Descriptor) (p : Parts) → HasHeld p → KeepsOffers d p []
begun_offers d p held = record { held = held; heard = none_heard d p }

-- A peer that begins to fetch asks for all that it lacks.
pub begun_fetches : (d : Descriptor) (random : List ℕ) (asks : Option Rank) (dial : List Address) (p : PeerState) → HasBegun d random asks dial p
    → is_some asks ≡ true → FetchesAll d p.parts
begun_fetches d random asks dial p begun some = of asks begun.fetching some
  where
    of : (o : Option Rank) → WantsIf (chunks_of d) (is_committed p.parts.holding.store) o p.parts.fetching → is_some o ≡ true → FetchesAll d p.parts
    of None w some = absurd (false≢true some)
    of (Some order) w some = ap limit_of w.1 ∙ ap (λ (n : ℕ). Some n) w.2.limit

-- A wait that was refused keeps it,
pub refused_offers : (d : Descriptor) (p : PeerState) (past : List Record) → KeepsOffers d p.parts past → KeepsOffers d (after_refusal p).parts past
refused_offers d p past k = record { held = k.held; heard = refusal_heard d p past k.heard }

-- an event does,
pub absorbs_offers : (b : Beginning) (most : ℕ) (past : List Record) (old new : Parts) → StandsFor b most old past → IsWhole old → (event : Event)
    (bytes : List ℕ) → IsEvent event bytes → Absorbs event bytes old new → KeepsOffers b.d old past → KeepsOffers b.d new (record_of event bytes ∷ past)
absorbs_offers b most past old new stands whole event bytes fits a k = record {
  held = absorbs_held event bytes old new a k.held;
  heard = absorbs_heard b most past old new stands whole event bytes fits a k.heard;
}

-- and so does a flush, which leaves the limit
pub sends_limit : (refused : ℕ) (old new : PeerState) (link later : LinkState) (disk left : DiskState) → Sends refused old new link later disk left
    → limit_of new.parts.fetching ≡ limit_of old.parts.fetching
sends_limit refused old new link later disk left course =
    ap (λ (p : Parts). limit_of p.fetching) course.rest
    ∙ flush_limit old.dials new.dials old.speaker new.speaker refused (scene old.parts link disk) (scene course.sent later left) course.sends

-- and asks for what is offered.
module _ (refused : ℕ) (old new : PeerState) (link later : LinkState) (disk left : DiskState) (course : Sends refused old new link later disk left)
    (b : Beginning) (most : ℕ) (past : List Record) (since : b.since ≤ moment_of disk.history) (stands : StandsFor b most old.parts past)
    (keeps : KeepsOffers b.d old.parts past) where
  pub flush_offers : KeepsOffers b.d new.parts (course.flushes.added ++ past)
  flush_offers = record {
    held = flush_held old.dials new.dials old.speaker new.speaker refused (scene old.parts link disk) (scene course.sent later left) new.parts
        course.sends course.flushes.holding course.rest keeps.held;
    heard = flush_heard refused old new link later disk left course b most past since stands keeps.heard;
  }

  waiting_then : HasWaiting old.parts.holding.store old.parts.holding.queue.waiting → HasWaiting new.parts.holding.store new.parts.holding.queue.waiting
  waiting_then waits = subst (λ (p : Parts). HasWaiting p.holding.store p.holding.queue.waiting) (sym course.rest)
      (subst (λ (h : HoldingState). HasWaiting h.store h.queue.waiting) (sym course.flushes.holding) waits)

  pub flush_asks_all : (n : ℕ) → HasWaiting old.parts.holding.store old.parts.holding.queue.waiting
      → limit_of old.parts.fetching ≡ Some n → n ≤ chunks_of b.d
      → (others : ℕ → Bool) → ((i : ℕ) → is_held new.parts.holding.store i ≡ true → others i ≡ true)
      → AsksOrHolds b.d n others (course.flushes.added ++ past) ⊎ HasRisen link.faults later.faults
  flush_asks_all n waits is inside others contains = ⊎_elim
      (λ asks. inl (λ life may i low offered. ⊎_elim
      (λ it. inl it)
      (λ held_there. inr (contains i held_there))
      (asks life may i low offered)))
      (λ risen. inr risen)
      (turn_asks refused old new link later disk left course b most past since stands (record {
        had = keeps.held;
        waits = waiting_then waits;
        held = flush_offers.held;
        fetching = there.0;
        is_fetching = there.1;
        limit = n;
        wants = there.2;
        inside = inside;
      }) flush_offers.heard)
    where
      there : (f : FetchState) × (new.parts.fetching ≡ Some f) × (f.want.limit ≡ n)
      there = limit_there new.parts.fetching n (sends_limit refused old new link later disk left course ∙ is)
