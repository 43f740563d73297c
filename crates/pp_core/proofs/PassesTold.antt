-- What was told by HAVE on plain channels is below the cursors of their seats.
use Rattle.std.proofs.Common.{◌≡◌, ⊎_elim, ℕ, ◌<◌, ◌≤◌, leb, true, false, ◌&&◌, Option, Some, None, List, [], ◌∷◌, ◌++◌, length, sym, ◌∙◌, ap, subst, arith}
use Rattle.std.specs.Prelude.{is_some, slice_get}
use Rattle.std.specs.List.{AllByRecursion}
use Rattle.std.specs.Int.{w32, from_be_bytes}
use Rattle.std.proofs.Math.ListN.{take}
use Rattle.std.proofs.lemmas.Bool.{both_ways, cases_eq, cases_lt, false≢true, or_right, or_cases, and_parts}
use Rattle.std.proofs.lemmas.Option.{same_Some}
use Rattle.pp_terms.specs.Count.{HasRisen}
use Rattle.pp_terms.specs.disk.Disk.{DiskState, moment_of}
use Rattle.pp_terms.specs.format.Descriptor.{Descriptor}
use Rattle.pp_terms.specs.format.Traffic.{Record, LinkState}
use Rattle.pp_traffic.specs.Asking.{is_heard}
use Rattle.pp_traffic.specs.Awaiting.{IsReplyOfPeer}
use Rattle.pp_traffic.specs.Life.{Life, comes_on}
use Rattle.pp_traffic.specs.Past.{read, comes_from, is_number, some_since}
use Rattle.pp_traffic.specs.Plain.{IsPlainNow}
use Rattle.pp_traffic.proofs.Awaited.{plain_up_to, plain_grows}
use Rattle.pp_traffic.proofs.Standing.{found_since, stands_since}
use Rattle.pp_promises.specs.Announced.{tells_of, was_told_of}
use Rattle.pp_outside.specs.Arrivals.{IsEvent}
use Rattle.pp_outside.specs.Outside.{address_of, record_of}
use Rattle.pp_outside.specs.declared.link.Address.{Address}
use Rattle.pp_outside.specs.declared.link.Event.{Event}
use Rattle.pp_outside.specs.declared.link.Event.TheVariants as events
use Rattle.pp_avail.specs.declared.ranker.Rank.{Rank}
use Rattle.pp_channels.specs.Seats.{Seats, channel_at}
use Rattle.pp_channels.specs.declared.channel.Channel.{Channel}
use Rattle.pp_lives.specs.Arriving.{is_waiting_at, Arrives}
use Rattle.pp_lives.specs.Reading.{is_waiting}
use Rattle.pp_lives.specs.Standing.{Stands, HasSeat}
use Rattle.pp_lives.specs.declared.arriving.Arrival.{Arrival}
use Rattle.pp_lives.specs.declared.arriving.Arrival.TheVariants as arrivals
use Rattle.pp_lives.proofs.Own.{stands_of}
use Rattle.pp_lives.proofs.Plainly.{awaits_none}
use Rattle.pp_seat.specs.Seats.{SeatState}
use Rattle.pp_peer.specs.declared.parts.Parts.{Parts}
use Rattle.pp_peer.specs.Events.{TakesEvent, Absorbs}
use Rattle.pp_peer.specs.Standing.{Beginning, StandsFor}
use Rattle.pp_core.specs.Remembering.{PassesTold}
use Rattle.pp_core.specs.Opening.{HasBegun}
use Rattle.pp_core.specs.Peers.{PeerState}
use Rattle.pp_core.specs.Turning.{after_refusal, Sends}
use Rattle.pp_core.proofs.AbsorbsTold.{same_seat, cursor_there, is_event_of, WasOnSeat, was_on_seat}
use Rattle.pp_core.proofs.Before.{free_none}
use Rattle.pp_core.proofs.Cursors.{cursor_at, begins_seat, arrival_of, absorbs_cursor}
use Rattle.pp_core.proofs.LatelySent.{none_begun}
use Rattle.pp_core.proofs.PlainBefore.{heard_before, plain_then}
use Rattle.pp_core.proofs.StaysTold.{WasBefore, seat_before}
use Rattle.pp_core.proofs.TellsBelow.{flush_untold}
use Rattle.pp_core.proofs.Untold.{IsUntold}

-- of a peer that has begun, and once a wait was refused
pub begun_passes : (d swarm : Descriptor) (random : List ℕ) (asks : Option Rank) (dial : List Address) (p : PeerState)
    → HasBegun swarm random asks dial p → PassesTold d p.parts []
begun_passes d swarm random asks dial p h n i c life s there plain address local messages told =
    absurd (none_begun swarm random asks dial p h n c there)

pub refused_passes : (d : Descriptor) (p : PeerState) (past : List Record) → PassesTold d p.parts past → PassesTold d (after_refusal p).parts past
refused_passes d p past passes = passes

-- ---- records

-- what was told of so was told on a channel that had been heard
told_heard : (d : Descriptor) (life : Life) (i : ℕ) (past : List Record) → was_told_of d life i past ≡ true → is_heard d life past ≡ true
told_heard d life i [] e = absurd (false≢true e)
told_heard d life i (r ∷ past) e =
    or_right (leb life.opening (length past) && comes_on d life r) (is_heard d life past) (⊎_elim
    (λ here. (and_parts (tells_of d life i r) (is_heard d life past) here).1)
    (λ earlier. told_heard d life i past earlier)
    (or_cases (tells_of d life i r && is_heard d life past) (was_told_of d life i past) e))

-- an event tells of nothing
event_untold : (d : Descriptor) (life : Life) (i : ℕ) (event : Event) (bytes : List ℕ) (past : List Record)
    → was_told_of d life i (record_of event bytes ∷ past) ≡ true → was_told_of d life i past ≡ true
event_untold d life i (events.Datagram sender len at) bytes past e = e
event_untold d life i (events.Quiet at) bytes past e = e

-- nor do such records
told_earlier : (d : Descriptor) (life : Life) (i : ℕ) (rs past : List Record) → AllByRecursion (IsUntold d life i) rs
    → was_told_of d life i (rs ++ past) ≡ true → was_told_of d life i past ≡ true
told_earlier d life i [] past all e = e
told_earlier d life i (r ∷ rs) past all e = ⊎_elim
    (λ here. absurd (both_ways (tells_of d life i r) all.0 (and_parts (tells_of d life i r) (is_heard d life (rs ++ past)) here).0))
    (λ earlier. told_earlier d life i rs past all.1 earlier)
    (or_cases (tells_of d life i r && is_heard d life (rs ++ past)) (was_told_of d life i (rs ++ past)) e)

-- nothing was heard on a dial that awaits its reply
pub awaits_unheard : (d : Descriptor) (life : Life) (r : Record) (past : List Record) → IsReplyOfPeer d life r past → is_heard d life past ≡ true → ⊥
awaits_unheard d life r past reply heard =
    let s = found_since (comes_on d life) life.opening past heard in
    both_ways (some_since (comes_from life.address) 0 past) (awaits_none d life past reply.0 reply.1)
    (stands_since (comes_from life.address) 0 past (record {
      after = s.after;
      here = s.here;
      before = s.before;
      split = s.split;
      place = omega arith;
      passes = (and_parts (comes_from life.address s.here) (is_number life.local (read d s.here).channel) s.passes).0;
    }))

-- ---- seats that begin

-- a seat whose channel was there before it began waited for its reply
begins_waiting : (d : Descriptor) (t : Seats) (sender : Address) (now : ℕ) (bytes : List ℕ) (result : Arrival) (new : Seats) (n : ℕ)
    → begins_seat result ≡ Some n → Arrives d t sender now bytes result new → (c : Channel) → channel_at t n ≡ Some c → is_waiting c ≡ true
begins_waiting d t sender now bytes (arrivals.Opened seat next) new n begins a c there = ⊎_elim
    (λ here. absurd (both_ways (is_some (channel_at t seat)) (free_none t seat (a.zero here).does.1)
    (ap (λ (m : ℕ). is_some (channel_at t m)) (same_Some seat n begins) ∙ ap is_some there)))
    (λ apart. absurd (a.other apart).does.1.does)
    (cases_eq (from_be_bytes w32 (take 4 bytes)) 0)
begins_waiting d t sender now bytes (arrivals.Replied seat) new n begins a c there = ⊎_elim
    (λ here. absurd (a.zero here).does.2)
    (λ apart.
    let h = a.other apart in
    ap is_waiting_at (sym there) ∙ ap (λ (m : ℕ). is_waiting_at (channel_at t m)) (sym (same_Some seat n begins) ∙ h.does.1.does.0) ∙ h.does.0)
    (cases_eq (from_be_bytes w32 (take 4 bytes)) 0)
begins_waiting d t sender now bytes result new n begins a c there = let x : None ≡ Some n = begins in absurd cc

event_waiting : (event : Event) (bytes : List ℕ) (old mid : Parts) (t : TakesEvent event bytes old mid) (n : ℕ)
    → begins_seat (arrival_of event bytes old mid t) ≡ Some n → (c : Channel) → channel_at old.seats.table n ≡ Some c → is_waiting c ≡ true
event_waiting (events.Datagram sender len at) bytes old mid t n begins c there =
    begins_waiting old.seats.descriptor old.seats.table sender t.mid.seats.moment bytes t.arrival t.mid.seats.table n begins t.arrives c there
event_waiting (events.Quiet at) bytes old mid t n begins c there = let x : None ≡ Some n = begins in absurd cc

-- ---- what comes

-- It stays so when something comes,
pub absorb_passes : (b : Beginning) (most : ℕ) (past : List Record) (event : Event) (bytes : List ℕ) (old new : Parts)
    → Absorbs event bytes old new → IsEvent event bytes → StandsFor b most old past → StandsFor b most new (record_of event bytes ∷ past)
    → PassesTold b.d old past → PassesTold b.d new (record_of event bytes ∷ past)
absorb_passes b most past event bytes old new a fits stands then passes n i c life s there plain address local messages told = ⊎_elim
    before
    (λ reply. absurd (awaits_unheard b.d life (record_of event bytes) past reply (told_heard b.d life i past was_told)))
    ((plain_grows.up_to b.d life (record_of event bytes) past).0 (plain_up_to b.d life (record_of event bytes) past (is_event_of event bytes) plain))
  where
    was_told : was_told_of b.d life i past ≡ true
    was_told = event_untold b.d life i event bytes past told

    was : WasOnSeat n c old
    was = was_on_seat b most past event bytes old new a stands then n c life there local plain

    known : IsPlainNow b.d life past → is_waiting was.channel ≡ false
    known plain_old =
        let hs = stands.seats.standing.plains.plain life plain_old in
        let same : hs.seat ≡ n = same_seat b.d old.seats.table stands.seats.lives past stands.seats.standing n was.channel life was.there
        (local ∙ sym was.local) hs in
        let one : hs.channel ≡ was.channel = same_Some hs.channel was.channel
        (sym hs.there ∙ ap (λ (k : ℕ). channel_at old.seats.table k) same ∙ was.there) in
        ap is_waiting (sym one) ∙ hs.known

    before : IsPlainNow b.d life past → i < s.cursor
    before plain_old = ⊎_elim
        (λ zero_is. absurd (both_ways (is_waiting was.channel) (known plain_old)
        (event_waiting event bytes old a.mid a.takes n zero_is.0 was.channel was.there)))
        (λ stays.
        let x = cursor_there (slice_get old.seats.seats n) s.cursor (sym stays.1 ∙ ap cursor_at messages) in
        let low = passes n i was.channel life x.0 was.there plain_old (address ∙ ap address_of (sym was.address)) (local ∙ sym was.local) x.1 was_told in
        let same = x.2 in
        omega (arith, low, same))
        (absorbs_cursor event bytes old new a n)

-- ---- a flush

module _ (refused : ℕ) (old new : PeerState) (link later : LinkState) (disk left : DiskState) (course : Sends refused old new link later disk left)
    (b : Beginning) (most : ℕ) (past before : List Record) (since : b.since ≤ moment_of disk.history) (stands : StandsFor b most old.parts past)
    (carries : link.traffic ≡ Some before) (none : HasRisen link.faults later.faults → ⊥) (passes : PassesTold b.d old.parts past) where
  abbrev added : List Record
  added = course.flushes.added

  module _ (n i : ℕ) (c : Channel) (life : Life) (s : SeatState) (there : channel_at course.sent.seats.table n ≡ Some c)
      (plain : IsPlainNow b.d life (added ++ past)) (address : life.address ≡ address_of c.address) (local : life.local ≡ c.local)
      (messages : slice_get course.sent.seats.seats n ≡ Some s) (told : was_told_of b.d life i (added ++ past) ≡ true) where
    w : WasBefore n c s old.parts course.sends.turned
    w = seat_before refused old new link later disk left course b most past before since stands carries none n c life there plain address local
        s messages

    heard_now : is_heard b.d life (added ++ past) ≡ true
    heard_now = told_heard b.d life i (added ++ past) told

    plain_old : IsPlainNow b.d life past
    plain_old = plain_then refused old new link later disk left course b most past since stands life plain heard_now

    abbrev hs : HasSeat old.parts.seats.table stands.seats.lives life
    hs = stands.seats.standing.plains.plain life plain_old

    lives_there : stands.seats.lives n ≡ Some life
    lives_there = ap stands.seats.lives (sym (same_seat b.d old.parts.seats.table stands.seats.lives past stands.seats.standing n w.on.channel life
        w.on.there (local ∙ w.on.alike.local) hs)) ∙ hs.lives_there

    st : Stands b.d w.on.channel life past
    st = stands_of b.d (channel_at old.parts.seats.table n) (stands.seats.lives n) w.on.channel life past (stands.seats.standing.seated.each n) w.on.there
        lives_there

    proven : w.state.proven ≡ true
    proven = (stands.seats.follow n w.on.channel life w.state w.on.there w.on.known lives_there w.messages).follows.proven
        ∙ heard_before b.d old.parts.seats.descriptor (moment_of disk.history) life added past course.flushes.ours heard_now

    untold : s.cursor ≤ i → AllByRecursion (IsUntold b.d life i) added
    untold high = flush_untold refused old new link later disk left course b most past before stands carries none n i w.on.channel life w.on.there
        (st.remote w.on.known).0 st.address w.kept
        (λ y at. let same = ap (λ (x : SeatState). x.cursor) (same_Some y s (sym at ∙ messages)) in omega (arith, same, high))

    seat_passes : i < s.cursor
    seat_passes = ⊎_elim
        (λ (lt : i < s.cursor). lt)
        (λ (high : s.cursor ≤ i). absurd (
        let low = passes n i w.on.channel life w.state w.on.there plain_old (address ∙ ap address_of w.on.alike.address) (local ∙ w.on.alike.local) w.messages
        (told_earlier b.d life i added past (untold high) told) in
        let grows = w.cursor proven in
        omega (arith, low, grows, high)))
        (cases_lt i s.cursor)

  -- and by a flush in which the link refused no datagram.
  pub flush_passes : PassesTold b.d new.parts (added ++ past)
  flush_passes = subst (λ (p : Parts). PassesTold b.d p (added ++ past)) (sym course.rest)
      (λ n i c life s there plain address local messages told. seat_passes n i c life s there plain address local messages told)
