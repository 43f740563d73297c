-- What was told on plain channels stays told through a flush.
use Rattle.std.proofs.Common.{◌≡◌, ◌⊎◌, inl, inr, ⊎_elim, ℕ, ◌+◌, ◌<◌, ◌≤◌, min, Bool, true, false, not, ◌&&◌, Option, Some, None, List, [], ◌∷◌, ◌++◌, length, get_or, eqb, refl, sym, ◌∙◌, ap, subst, arith}
use Rattle.std.specs.Prelude.{slice_get, unwrap_or}
use Rattle.std.specs.List.{AllByRecursion, list_any}
use Rattle.std.proofs.lemmas.Bool.{cases_Bool, cases_lt, both_ways, false≢true, cond-false, or_left, or_cases, and_parts, eqb-true}
use Rattle.std.proofs.lemmas.Option.{same_Some}
use Rattle.pp_terms.specs.Count.{HasRisen}
use Rattle.pp_terms.specs.disk.Disk.{DiskState, moment_of}
use Rattle.pp_terms.specs.format.Descriptor.{Descriptor}
use Rattle.pp_terms.specs.format.Traffic.{Record, LinkState}
use Rattle.pp_terms.specs.tree.Range.{Span, has, IsRunsFrom}
use Rattle.pp_terms.proofs.Risings.{risen_more, risen_less}
use Rattle.pp_traffic.specs.Life.{Life}
use Rattle.pp_traffic.specs.Past.{is_at, some_since, goes_to}
use Rattle.pp_traffic.specs.Plain.{concerns, greets_once, IsPlainNow}
use Rattle.pp_traffic.specs.Story.{story}
use Rattle.pp_traffic.proofs.Awaited.{plain_began}
use Rattle.pp_traffic.proofs.Plains.{plain_answered}
use Rattle.pp_promises.specs.Announced.{tells_of, is_told_of}
use Rattle.pp_promises.specs.OwnSide.{has_in}
use Rattle.pp_outside.specs.Outside.{address_of}
use Rattle.pp_outside.specs.declared.link.Address as addresses
use Rattle.pp_avail.specs.declared.ranker.Rank.{Rank}
use Rattle.pp_store.specs.Store.{is_committed}
use Rattle.pp_channels.specs.Seats.{Seats, channel_at, is_begun, is_dialled}
use Rattle.pp_channels.specs.Timing.{handshake_due, is_greeted, is_over, is_over_in}
use Rattle.pp_channels.specs.declared.channel.Channel.{Channel}
use Rattle.pp_channels.specs.declared.channel.State.{State}
use Rattle.pp_channels.specs.declared.channel.State.TheVariants.{Greeted, Proven}
use Rattle.pp_holding.specs.Holding.{HoldingState}
use Rattle.pp_lives.specs.Fars.{far_of}
use Rattle.pp_lives.specs.Reading.{is_waiting, is_proven}
use Rattle.pp_lives.specs.Standing.{Stands, StandsAt, Standing}
use Rattle.pp_lives.specs.declared.lives.Far.{Far}
use Rattle.pp_lives.proofs.Arrivals.{none_passes}
use Rattle.pp_lives.proofs.Own.{stands_of}
use Rattle.pp_news.specs.News.{has_chunk, AreRunsOf}
use Rattle.pp_seat.specs.Seats.{SeatState}
use Rattle.pp_desk.specs.Delivers.{none_delivered}
use Rattle.pp_desk.specs.Steps.{cursor_after}
use Rattle.pp_seats.specs.Reading.{is_due_at}
use Rattle.pp_seats.specs.Sending.{opening_at, way_of, tells_note, Speaks}
use Rattle.pp_seats.specs.Standing.{SeatsState}
use Rattle.pp_seats.proofs.Lists.{get_set_there}
use Rattle.pp_seats.proofs.Outgoing.{IsFar, far_is}
use Rattle.pp_agenda.proofs.Agreeing.{covers_news}
use Rattle.pp_peer.specs.declared.parts.Parts.{Parts}
use Rattle.pp_peer.specs.Delivering.{IsServedAt}
use Rattle.pp_peer.specs.Flushing.{Scene, IsOurs}
use Rattle.pp_peer.specs.Greeting.{StaysBut, Drops, HasNoneOver}
use Rattle.pp_peer.specs.Sending.{SendsAll}
use Rattle.pp_peer.specs.Speaking.{SetsBackTo, SpeaksOn, SpeaksTo, TurnsIf}
use Rattle.pp_peer.specs.Standing.{Beginning, StandsFor}
use Rattle.pp_peer.proofs.Ending.{far_stays}
use Rattle.pp_core.specs.Remembering.{ToldAll}
use Rattle.pp_core.specs.Peers.{PeerState}
use Rattle.pp_core.specs.Telling.{Tells, end_of, HasOne}
use Rattle.pp_core.specs.Opening.{HasBegun}
use Rattle.pp_core.specs.Turning.{after_refusal, scene, Sends}
use Rattle.pp_core.proofs.Before.{before_turns, slots_kept}
use Rattle.pp_core.proofs.Choked.{kept_from}
use Rattle.pp_core.proofs.Delivered.{said_one, have_says}
use Rattle.pp_core.proofs.Fars.{dials_far, dropped_far}
use Rattle.pp_core.proofs.Kept.{StateKept, Kept, kept_twice}
use Rattle.pp_core.proofs.Lately.{IsAlike, alike_waits, alike_twice, alike_same, but_from, Stayed, stayed_but, wrote_alike}
use Rattle.pp_core.proofs.LatelySent.{none_begun, begun_life, spoken_from}
use Rattle.pp_core.proofs.Leaving.{lives_at}
use Rattle.pp_core.proofs.Links.{Grows, grows_twice}
use Rattle.pp_core.proofs.Passed.{goes_cursor, agenda_passes, passes_tell, none_below}
use Rattle.pp_core.proofs.PlainBefore.{plain_gone, goes_since, fresh_before}
use Rattle.pp_core.proofs.Rooms.{greets_unknown, goes_risen}
use Rattle.pp_core.proofs.Served.{in_list, known_far, plain_begun}
use Rattle.pp_core.proofs.Spoken.{SeatTurn, IsSpoken, notes_reach, cursor_first, holding_then}
use Rattle.pp_core.proofs.Telling.{ToldBelow, have_tells, story_tells}
use Rattle.pp_core.proofs.Turns.{HasTurn, has_turn, attends_kept}
use Rattle.pp_core.proofs.Untold.{after_grows}
use Rattle.pp_core.proofs.Writing.{known_number, answered_shows, answered_waits}

-- ---- what was told

-- so it is on those that are proven
pub all_below : (d : Descriptor) (p : Parts) (past : List Record) → ToldAll d p past → ToldBelow d p past
all_below d p past told n i c life s there plain address local messages proven held low free =
    told n i c life s there plain address local messages held low free

-- of a peer that has begun, and once a wait was refused
pub begun_told : (d swarm : Descriptor) (random : List ℕ) (asks : Option Rank) (dial : List addresses.Address) (p : PeerState)
    → HasBegun swarm random asks dial p → ToldAll d p.parts []
begun_told d swarm random asks dial p h n i c life s there plain address local messages held low free =
    absurd (none_begun swarm random asks dial p h n c there)

pub refused_told : (d : Descriptor) (p : PeerState) (past : List Record) → ToldAll d p.parts past → ToldAll d (after_refusal p).parts past
refused_told d p past told = told

-- ---- the channel of a plain life

-- The channel has the life, whose peer is known and to whom this peer's handshake was sent.
pub record IsHeld (d : Descriptor) (c : Channel) (life : Life) (past : List Record) : Type 0 where
  pub known : is_waiting c ≡ false
  pub stands : Stands d c life past
  pub begun : is_begun c.opening ≡ true

pub seat_held : (d : Descriptor) (t : Seats) (lives : ℕ → Option Life) (past : List Record) → Standing d t lives past
    → (n : ℕ) (c : Channel) (life : Life) → channel_at t n ≡ Some c → life.local ≡ c.local → IsPlainNow d life past → IsHeld d c life past
seat_held d t lives past standing n c life there local plain =
    let hs = standing.plains.plain life plain in
    let st = stands_of d (channel_at t hs.seat) (lives hs.seat) hs.channel life past (standing.seated.each hs.seat) hs.there hs.lives_there in
    let one : n ≡ hs.seat = standing.seated.are.differ n hs.seat c hs.channel there hs.there (sym local ∙ st.local) in
    let same : hs.channel ≡ c = same_Some hs.channel c (sym hs.there ∙ ap (λ (k : ℕ). channel_at t k) (sym one) ∙ there) in
    let here : Stands d c life past = subst (λ (x : Channel). Stands d x life past) same st in
    record {
      known = ap is_waiting (sym same) ∙ hs.known;
      stands = here;
      begun = here.goes.has_begun ∙ plain_begun d life past plain;
    }

-- ---- small things

served_cursor : (o p : Option SeatState) (s : SeatState) → IsServedAt o p → p ≡ Some s
    → (x : SeatState) × (o ≡ Some x) × (s.cursor ≡ x.cursor)
served_cursor None p s served there = let x : None ≡ Some s = sym served ∙ there in absurd cc
served_cursor (Some x) p s served there =
    let is = same_Some served.0 s (sym served.1 ∙ there) in
    (x, refl, ap (λ (y : SeatState). y.cursor) (sym is) ∙ ap (λ (y : SeatState). y.cursor) served.2)

over_marked : (now : ℕ) (state : State) (c : Channel) (mark : Bool) → is_over_in state now (record c { shadowed = mark }) ≡ is_over_in state now c
over_marked now Greeted c mark = refl
over_marked now Proven c mark = refl

over_stays : (now : ℕ) (o p : Option Channel) → StaysBut o p → is_over now p ≡ is_over now o
over_stays now None p s = ap (is_over now) s
over_stays now (Some c) p s = ap (is_over now) s.1 ∙ over_marked now c.state c s.0

-- no channel is dropped whose peer is known afterwards
lasts_then : (n : ℕ) (old dropped : Parts) (far : Far) → n < 64 → Drops old dropped → HasNoneOver dropped
    → far_of (channel_at dropped.seats.table n) ≡ Some far → is_over old.seats.moment (channel_at old.seats.table n) ≡ false
lasts_then n old dropped far low d none is = ⊎_elim
    (λ stays. sym (over_stays old.seats.moment (channel_at old.seats.table n) (channel_at dropped.seats.table n) stays.channel)
    ∙ ap (λ (m : ℕ). is_over m (channel_at dropped.seats.table n)) (sym d.moment)
    ∙ none_passes (is_over dropped.seats.moment) dropped.seats.table.channels n refl none)
    (λ over. let x : None ≡ Some far = ap far_of (sym over.1.channel) ∙ is in absurd cc)
    (d.each n low)

-- a record of the peer's stands before those that this peer sent then
at_low : (test : Record → Bool) (place : ℕ) (past : List Record) → is_at test place past ≡ true → place < length past
at_low test place [] e = absurd (false≢true e)
at_low test place (r ∷ past) e = ⊎_elim
    (λ here. let same = eqb-true place (length past) (and_parts (eqb place (length past)) (test r) here).0 in omega (arith, same))
    (λ later. let low = at_low test place past later in omega (arith, low))
    (or_cases (eqb place (length past) && test r) (is_at test place past) e)

at_before : (test : Record → Bool) (place : ℕ) (other : Descriptor) (moment : ℕ) (rs past : List Record) → AllByRecursion (IsOurs other moment) rs
    → ((r : Record) → IsOurs other moment r → test r ≡ false) → is_at test place (rs ++ past) ≡ true → is_at test place past ≡ true
at_before test place other moment [] past all not_ours e = e
at_before test place other moment (r ∷ rs) past all not_ours e = ⊎_elim
    (λ here. absurd (both_ways (test r) (not_ours r all.0) (and_parts (eqb place (length (rs ++ past))) (test r) here).1))
    (λ later. at_before test place other moment rs past all.1 not_ours later)
    (or_cases (eqb place (length (rs ++ past)) && test r) (is_at test place (rs ++ past)) e)

-- a channel that the other peer opened was opened before this peer sent something
opened_before : (d other : Descriptor) (moment : ℕ) (life : Life) (rs past : List Record) → AllByRecursion (IsOurs other moment) rs
    → life.is_dialled ≡ false → IsPlainNow d life (rs ++ past) → life.opening < length past
opened_before d other moment life rs past all answered plain =
    at_low (greets_once d life) life.opening past (at_before (greets_once d life) life.opening other moment rs past all
    (λ r ours. ap (λ (x : Record). greets_once d life x) ours.is) (plain_answered d life (rs ++ past) answered plain).opened)

-- where the cursor may have been set back on a channel that isn't proven, no new chunk is below it
back_low : (news : List Span) (seat : ℕ) (a b : Parts) (x y : SeatState) → IsRunsFrom 0 news → SetsBackTo false false news seat a b
    → slice_get a.seats.seats seat ≡ Some x → slice_get b.seats.seats seat ≡ Some y
    → (y.cursor ≤ x.cursor) × ((i : ℕ) → i < y.cursor → has news i ≡ false)
back_low [] seat a b x y runs s one two =
    let e : y ≡ x = same_Some y x (sym two ∙ ap (λ (p : Parts). slice_get p.seats.seats seat) s ∙ one) in
    ((let same = ap (λ (z : SeatState). z.cursor) e in omega (arith, same)), λ i lt. refl)
back_low (z ∷ zs) seat a b x y runs s one two =
    let r = s.0 in
    let e : r.before ≡ x = same_Some r.before x (sym r.there ∙ one) in
    let f : y ≡ r.after = same_Some y r.after (sym two ∙ ap (λ (p : SeatsState). slice_get p.seats seat) r.is
    ∙ get_set_there a.seats.seats seat r.after r.before r.there) in
    let g : y.cursor ≡ min x.cursor z.first = ap (λ (k : SeatState). k.cursor) (f ∙ r.exact)
    ∙ ap (λ (k : SeatState). min k.cursor z.first) e in (
      omega (arith, g),
      λ i lt. none_below z.first i (z ∷ zs) (omega arith, runs.1, runs.2) (omega (arith, lt, g)),
    )

-- ---- a flush

-- A channel that is known and begun once all was sent, as it was before.
pub record WasOn (n : ℕ) (c : Channel) (old : Parts) : Type 0 where
  pub channel : Channel
  pub there : channel_at old.seats.table n ≡ Some channel
  pub known : is_waiting channel ≡ false
  pub alike : IsAlike channel c

-- The seat of a channel that is known and begun once all was sent, as it was before, and when slots had been turned. Where it was proven
-- its cursor didn't go back.
pub record WasBefore (n : ℕ) (c : Channel) (s : SeatState) (old turned : Parts) : Type 0 where
  pub on : WasOn n c old
  pub state : SeatState
  pub messages : slice_get old.seats.seats n ≡ Some state
  pub kept : Kept n old turned
  pub cursor : state.proven ≡ true → state.cursor ≤ s.cursor

module _ (refused : ℕ) (old new : PeerState) (link later : LinkState) (disk left : DiskState) (course : Sends refused old new link later disk left)
    (b : Beginning) (most : ℕ) (past before : List Record) (since : b.since ≤ moment_of disk.history) (stands : StandsFor b most old.parts past)
    (carries : link.traffic ≡ Some before) (none : HasRisen link.faults later.faults → ⊥) where
  abbrev added : List Record
  added = course.flushes.added

  abbrev moment : ℕ
  moment = moment_of disk.history

  abbrev from : Scene
  from = scene old.parts link disk

  abbrev sends : SendsAll old.dials new.dials old.speaker new.speaker refused from (scene course.sent later left)
  sends = course.sends

  abbrev given : Scene
  given = record from { parts = sends.given }

  abbrev start : Scene
  start = record sends.dialled { parts = sends.turned }

  end : StandsFor b (most + refused) course.sent (added ++ past)
  end = course.flushes.stands b most past since stands

  module _ (n : ℕ) (c : Channel) (life : Life) (there : channel_at course.sent.seats.table n ≡ Some c)
      (plain : IsPlainNow b.d life (added ++ past)) (address : life.address ≡ address_of c.address) (local : life.local ≡ c.local) where
    below : n < 64
    below = let lt = in_list course.sent.seats.table.channels n c there in
        let size = end.seats.standing.seated.are.seats in
        omega (arith, lt, size)

    of_c : IsHeld b.d c life (added ++ past)
    of_c = seat_held b.d course.sent.seats.table end.seats.lives (added ++ past) end.seats.standing n c life there local plain

    h : HasTurn n sends.speaks.gathered new.speaker start sends.said
    h = has_turn n 64 sends.unsaid sends.speaks.gathered new.speaker start sends.said below sends.speaks.turns

    -- ---- behind the turn of the seat

    said_channel : (e : Channel) × (channel_at sends.said.parts.seats.table n ≡ Some e) × (is_begun e.opening ≡ true) × IsAlike e c
    said_channel = ⊎_elim
        (λ same. (c, sym same ∙ there, of_c.begun, alike_same c c refl))
        (λ w.
        let e : record w.channel { wrote = sends.said.parts.seats.moment } ≡ c =
        same_Some (record w.channel { wrote = sends.said.parts.seats.moment }) c (sym w.after ∙ there) in
        (w.channel, w.there, ap (λ (x : Channel). is_begun x.opening) e ∙ of_c.begun, wrote_alike w.channel c sends.said.parts.seats.moment e))
        (sends.serves.alone.channels n)

    last : Stayed (channel_at h.end.parts.seats.table n) said_channel.0
    last = stayed_but (channel_at h.end.parts.seats.table n) (channel_at sends.said.parts.seats.table n) h.after.kept.seats.channel
        said_channel.0 said_channel.1 said_channel.2

    last_alike : IsAlike last.was c
    last_alike = alike_twice last.was said_channel.0 c last.alike said_channel.3

    last_known : is_waiting last.was ≡ false
    last_known = sym (alike_waits last.was c last_alike) ∙ of_c.known

    -- What was due on the channel of the seat was said.
    was_said : (far : Far) × (far_of (channel_at h.begin.parts.seats.table n) ≡ Some far) × (greets : Bool)
        × SpeaksOn (record { seat = n; far = far; greets = greets }) h.refused h.middle h.left h.begin h.end
    was_said = of (far_of (channel_at h.begin.parts.seats.table n)) refl h.turn
      where
        end_far : Far
        end_far = record {
          address = last.was.address;
          number = unwrap_or last.was.remote 0;
          proven = is_proven last.was;
          begun = is_begun last.was.opening;
        }

        far_end : far_of (channel_at h.end.parts.seats.table n) ≡ Some end_far
        far_end = ap far_of last.there ∙ known_far (is_waiting last.was) end_far last_known

        of : (o : Option Far) → far_of (channel_at h.begin.parts.seats.table n) ≡ o → TurnsIf o n h.refused h.middle h.left h.begin h.end
            → (far : Far) × (far_of (channel_at h.begin.parts.seats.table n) ≡ Some far) × (greets : Bool)
            × SpeaksOn (record { seat = n; far = far; greets = greets }) h.refused h.middle h.left h.begin h.end
        of None is g =
            let x : None ≡ Some end_far = sym (greets_unknown n _ g.greeted h.begin.parts h.end.parts h.begin.link h.end.link g.greets is) ∙ far_end in
            absurd cc
        of (Some far) is (inl quiet) =
            let same : far ≡ end_far = same_Some far end_far (sym is
            ∙ ap (λ (p : Parts). far_of (channel_at p.seats.table n)) (sym quiet.silent.parts) ∙ far_end) in
            absurd (both_ways far.begun quiet.begun (ap (λ (x : Far). x.begun) same ∙ last.begun))
        of (Some far) is (inr spoke) = (far, is, spoke.0, spoke.1)

    -- ---- what was said there

    module _ (far : Far) (is_far : far_of (channel_at h.begin.parts.seats.table n) ≡ Some far) (greets : Bool)
        (spoke : SpeaksOn (record { seat = n; far = far; greets = greets }) h.refused h.middle h.left h.begin h.end) where
      begin_channel : (e : Channel) × (channel_at h.begin.parts.seats.table n ≡ Some e) × IsAlike e last.was
      begin_channel = spoken_from h.begin.parts.seats.descriptor h.begin.parts.seats.moment n far greets h.refused h.middle h.left h.begin h.end refl refl
          spoke last.was last.there

      dialled_far : far_of (channel_at sends.given.seats.table n) ≡ Some far
      dialled_far = dials_far n old.dials new.dials given sends.dialled sends.dials_all far
          (sym (far_stays (channel_at sends.dialled.parts.seats.table n) (channel_at sends.turned.seats.table n)
          (slots_kept n sends.dialled.parts sends.turned sends.turns).seats.channel)
          ∙ sym (far_stays (channel_at sends.turned.seats.table n) (channel_at h.begin.parts.seats.table n) h.before.kept.seats.channel) ∙ is_far)

      old_far : IsFar (channel_at old.parts.seats.table n) far
      old_far = far_is (channel_at old.parts.seats.table n) far
          (dropped_far n old.parts sends.dropped sends.given below sends.drops sends.gives_up far dialled_far)

      abbrev c0 : Channel
      c0 = old_far.channel

      lasts : is_over old.parts.seats.moment (Some c0) ≡ false
      lasts = ap (is_over old.parts.seats.moment) (sym old_far.there)
          ∙ lasts_then n old.parts sends.dropped far below sends.drops sends.none_over
          (ap (λ (p : Parts). far_of (channel_at p.seats.table n)) (sym sends.gives_up.rest) ∙ dialled_far)

      first : Kept n old.parts sends.turned × Grows link sends.dialled.link
      first = before_turns n c0 old.dials new.dials from sends.dropped sends.given sends.turned sends.dialled below old_far.there lasts sends.drops
          sends.gives_up sends.dials_all sends.turns

      kept : Kept n old.parts h.begin.parts
      kept = kept_twice n old.parts sends.turned h.begin.parts first.0 h.before.kept

      abbrev turn : SeatTurn n from later
      turn = record {
        refused = h.refused;
        speaker = h.middle;
        left = h.left;
        begin = h.begin;
        end = h.end;
        turn = h.turn;
        kept = kept;
        ranges = subst (λ (rs : List Span). AreRunsOf old.parts.holding.queue.tickets rs) (sym h.before.news)
            (subst (λ (x : HoldingState). AreRunsOf x.queue.tickets sends.speaks.gathered.news.ranges) first.0.holding sends.speaks.ranges);
        before = grows_twice link start.link h.begin.link first.1 h.before.grows;
        behind = grows_twice h.end.link sends.said.link later h.after.grows
            (record { added = sends.serves.flushes.added; gained = sends.serves.flushes.gained; faults = sends.serves.flushes.later });
      }

      abbrev says : IsSpoken n far from later
      says = record { turn = turn; is_far = is_far; greets = greets; speaks = spoke }

      abbrev to : SpeaksTo (record { seat = n; far = far; greets = greets }) h.refused h.middle h.left (record h.begin { parts = spoke.back })
          (record h.end { parts = spoke.said })
      to = spoke.speaks

      abbrev sp : Speaks n h.left.agenda (moment_of h.begin.disk.history) to.delivered to.picked.seats to.said.seats h.begin.link h.end.link
      sp = to.says.speaks

      -- the channel before the flush, and its seat
      old_alike : IsAlike c0 c
      old_alike =
          let e = but_from (channel_at old.parts.seats.table n) (channel_at h.begin.parts.seats.table n) kept.seats.channel
          begin_channel.0 begin_channel.1 in
          let same : e.was ≡ c0 = same_Some e.was c0 (sym e.there ∙ old_far.there) in
          alike_twice c0 last.was c (alike_twice c0 begin_channel.0 last.was
          (subst (λ (x : Channel). IsAlike x begin_channel.0) same e.alike) begin_channel.2) last_alike

      old_state : (x : SeatState) × (slice_get old.parts.seats.seats n ≡ Some x) × StateKept old.parts.seats.moment x spoke.sets_back.known
      old_state = kept_from old.parts.seats.moment (slice_get old.parts.seats.seats n) (slice_get h.begin.parts.seats.seats n)
          spoke.sets_back.known spoke.sets_back.there kept.seats.state

      abbrev s0 : SeatState
      s0 = old_state.0

      same_far : far ≡ end_of c0
      same_far = old_far.is
          ∙ ap (λ (k : ℕ). record { address = c0.address; number = k; proven = is_proven c0; begun = is_begun c0.opening })
          (sym (cond-false (is_waiting c0) 0 (unwrap_or c0.remote 0) old_far.known))

      -- ---- the cursor

      none_refused : to.delivered.refused ≡ 0
      none_refused = ⊎_elim
          (λ some. absurd (none (risen_more link.faults h.end.link.faults later.faults turn.behind.faults
          (risen_less link.faults h.begin.link.faults h.end.link.faults turn.before.faults (goes_risen _ _ h.left.agenda _ _ sp.goes refl some)))))
          (λ (no : to.delivered.refused ≤ 0). omega (arith, no))
          (cases_lt 0 to.delivered.refused)

      said_there : slice_get spoke.said.seats.seats n ≡ Some sp.after
      said_there = ap (λ (p : Parts). slice_get p.seats.seats n) to.settles.rest ∙ ap (λ (x : SeatsState). slice_get x.seats n) sp.is
          ∙ get_set_there to.picked.seats.seats n sp.after sp.before sp.there

      in_back : slice_get spoke.back.seats.seats n ≡ Some to.fills.known
      in_back = ap (λ (p : Parts). slice_get p.seats.seats n) (sym to.are_picked.rest) ∙ to.fills.there

      -- on a proven channel the cursor isn't set back
      known_still : spoke.sets_back.known.proven ≡ true → to.fills.known ≡ spoke.sets_back.known
      known_still proven =
          let sets : spoke.back ≡ h.begin.parts = subst (λ (p : Bool). SetsBackTo p greets h.middle.news.ranges n h.begin.parts spoke.back) proven
          spoke.sets_back.sets in
          same_Some to.fills.known spoke.sets_back.known
          (sym in_back ∙ ap (λ (p : Parts). slice_get p.seats.seats n) sets ∙ spoke.sets_back.there)

      -- ---- behind a handshake

      greeted : greets ≡ true → is_greeted c0.state ≡ true
      greeted is =
          let e = but_from (channel_at old.parts.seats.table n) (channel_at h.begin.parts.seats.table n) kept.seats.channel
          begin_channel.0 begin_channel.1 in
          let same : e.was ≡ c0 = same_Some e.was c0 (sym e.there ∙ old_far.there) in
          let due : handshake_due h.begin.parts.seats.moment begin_channel.0 ≡ true =
          ap (is_due_at h.begin.parts.seats.moment) (sym begin_channel.1) ∙ sym spoke.due ∙ is in
          ap (λ (x : Channel). is_greeted x.state) (sym same) ∙ ap is_greeted (sym e.alike.state)
          ∙ (and_parts (is_greeted begin_channel.0.state) _ due).0

      answered : greets ≡ true → is_dialled c0.opening ≡ false
      answered is = answered_waits (is_dialled c0.opening) (is_greeted c0.state) old_far.known (ap not (greeted is))

      unproven : greets ≡ true → s0.proven ≡ false
      unproven is =
          let at : StandsAt b.d (Some c0) (stands.seats.lives n) past =
          subst (λ (o : Option Channel). StandsAt b.d o (stands.seats.lives n) past) old_far.there (stands.seats.standing.seated.each n) in
          let l = lives_at b.d c0 (stands.seats.lives n) past at old_far.known in
          let so : Stands b.d c0 l.0 past = subst (λ (o : Option Life). StandsAt b.d (Some c0) o past) l.1 at in
          (stands.seats.follow n c0 l.0 s0 old_far.there old_far.known l.1 old_state.1).follows.proven
          ∙ answered_shows b.d l.0 past (so.dialled ∙ answered is) (sym so.goes.proven ∙ ap not (greeted is))

      -- ---- without one

      plain_then : greets ≡ false → IsPlainNow b.d life past
      plain_then is = ⊎_elim (λ then. then)
          (λ gone. absurd (both_ways (some_since (goes_to life.address) life.opening past) gone
          (goes_since b.d l.0 life past (l.1.address ∙ ap address_of (sym old_alike.address) ∙ sym address) (sym l.1.goes.has_begun ∙ begun)
          (fresh_before (concerns life.address) life.opening added past plain.fresh))))
          (plain_gone b.d old.parts.seats.descriptor moment life added past course.flushes.ours plain)
        where
          begun : is_begun c0.opening ≡ true
          begun = ap (λ (x : Far). x.begun) (sym old_far.is) ∙ spoke.begun is

          l : (l : Life) × Stands b.d c0 l past
          l = begun_life b.d c0 (stands.seats.lives n) past
              (subst (λ (o : Option Channel). StandsAt b.d o (stands.seats.lives n) past) old_far.there (stands.seats.standing.seated.each n)) begun

      opened_then : greets ≡ false → life.opening ≤ length past
      opened_then is = let lt = plain_began b.d life past past (plain_then is) in omega (arith, lt)

      has_ranges : (j : ℕ) → has h.middle.news.ranges j ≡ has_chunk old.parts.holding.queue.tickets j
      has_ranges = turn.ranges.same

      -- ---- with the seat as it is then

      module _ (s : SeatState) (messages : slice_get course.sent.seats.seats n ≡ Some s) where
        last_state : (y : SeatState) × (slice_get h.end.parts.seats.seats n ≡ Some y) × (s.cursor ≡ y.cursor)
        last_state =
            let x = served_cursor (slice_get sends.said.parts.seats.seats n) (slice_get course.sent.seats.seats n) s (sends.serves.alone.states n) messages in
            let y = kept_from h.end.parts.seats.moment (slice_get h.end.parts.seats.seats n) (slice_get sends.said.parts.seats.seats n) x.0 x.1
            h.after.kept.seats.state in
            (y.0, y.1, x.2 ∙ ap (λ (z : SeatState). z.cursor) y.2.rest)

        cursor_is : s.cursor ≡ cursor_after to.fills.known.cursor h.left.agenda
        cursor_is =
            let k = attends_kept n n _ spoke.said h.end.parts spoke.attends.attends in
            let z = kept_from spoke.said.seats.moment (slice_get spoke.said.seats.seats n) (slice_get h.end.parts.seats.seats n) last_state.0
            last_state.1 k.seats.state in
            last_state.2 ∙ ap (λ (x : SeatState). x.cursor) z.2.rest
            ∙ ap (λ (x : SeatState). x.cursor) (same_Some z.0 sp.after (sym z.1 ∙ said_there))
            ∙ goes_cursor (opening_at to.picked.seats n) (way_of to.picked.seats sp.far (moment_of h.begin.disk.history)) h.left.agenda
            (record { seat = sp.before; link = h.begin.link; so_far = none_delivered })
            (record { seat = sp.after; link = h.end.link; so_far = to.delivered }) sp.goes refl none_refused
            ∙ ap (λ (x : SeatState). cursor_after x.cursor h.left.agenda) (same_Some sp.before to.fills.known (sym sp.there ∙ to.fills.there))

        -- ---- what was told

        module _ (told : ToldAll b.d old.parts past) (i : ℕ) (held : is_committed course.sent.holding.store i ≡ true) (low : i < s.cursor) where
          abbrev goal : Type 0
          goal = is_told_of i (story b.d life (added ++ past)) ≡ true

          in_story : life.opening ≤ length past → (list_any (tells_of b.d life i) added ≡ true) ⊎ (is_told_of i (story b.d life past) ≡ true) → goal
          in_story le is = story_tells b.d old.parts.seats.descriptor moment i life added past course.flushes.ours le is

          -- what the agenda tells went
          now_told : life.opening ≤ length past → list_any (tells_note i) h.left.agenda ≡ true → goal
          now_told le some = ⊎_elim
              (λ t. in_story le (inl (have_tells b.d c0 life i added before link later carries course.flushes.gained
              (address ∙ ap address_of old_alike.address)
              (known_number (is_waiting c0) c0.remote life.remote old_far.known (sym old_alike.remote ∙ (of_c.stands.remote of_c.known).0))
              (subst (λ (x : Descriptor). Tells x (end_of c0) (HasOne (has_in i)) link later) stands.seats.swarm
              (subst (λ (x : Far). Tells old.parts.seats.descriptor x (HasOne (has_in i)) link later) same_far t)))))
              (λ risen. absurd (none risen))
              (notes_reach n far from later says (HasOne (has_in i)) (tells_note i)
              (said_one to.picked.seats.descriptor (tells_note i) (has_in i) (have_says to.picked.seats.descriptor i)) some)

          committed_then : get_or to.fills.due.committed.now i false ≡ true
          committed_then = ap (λ (xs : List Bool). get_or xs i false) to.fills.committed
              ∙ ap (λ (x : HoldingState). is_committed x.store i) (holding_then n far s0 from later old_state.1 says)
              ∙ ap (λ (x : HoldingState). is_committed x.store i) (sym course.flushes.holding) ∙ held

          passed : (i < to.fills.known.cursor) ⊎ (list_any (tells_note i) h.left.agenda ≡ true)
          passed = passes_tell (λ j. get_or to.fills.due.committed.now j false) i committed_then to.fills.known.cursor h.left.agenda
              (agenda_passes (λ j. get_or to.fills.due.committed.now j false) to.fills.known to.fills.due h.left.agenda (λ j. refl) to.fills.agenda)
              (let same = cursor_is in omega (arith, same, low))

          by_greeting : greets ≡ true → goal
          by_greeting is = ⊎_elim
              (λ (lt : i < to.fills.known.cursor). absurd (let zero_is = cursor_first n far s0 from later old_state.1 says is (unproven is) in
              omega (arith, lt, zero_is)))
              (now_told (let lt = opened_before b.d old.parts.seats.descriptor moment life added past course.flushes.ours
              (of_c.stands.dialled ∙ old_alike.dialled ∙ answered is) plain in omega (arith, lt)))
              passed

          committed_old : is_committed old.parts.holding.store i ≡ true
          committed_old = ap (λ (x : HoldingState). is_committed x.store i) (sym course.flushes.holding) ∙ held

          old_told : greets ≡ false → i < s0.cursor → has_chunk old.parts.holding.queue.tickets i ≡ false → goal
          old_told is lt free = in_story (opened_then is) (inr (told n i c0 life s0 old_far.there (plain_then is)
              (address ∙ ap address_of old_alike.address) (local ∙ old_alike.local) old_state.1 committed_old lt free))

          by_proven : greets ≡ false → s0.proven ≡ true → goal
          by_proven is proven =
              let same : to.fills.known ≡ spoke.sets_back.known = known_still (ap (λ (x : SeatState). x.proven) old_state.2.rest ∙ proven) in
              let cursor : to.fills.known.cursor ≡ s0.cursor = ap (λ (x : SeatState). x.cursor) (same ∙ old_state.2.rest) in
              let is_proven : to.fills.known.proven ≡ true = ap (λ (x : SeatState). x.proven) (same ∙ old_state.2.rest) ∙ proven in
              ⊎_elim
              (λ (lt : i < to.fills.known.cursor). ⊎_elim
              (λ new_one. now_told (opened_then is) (covers_news to.fills.known to.fills.due h.left.agenda to.fills.agenda is_proven
              (to.fills.tells ∙ or_left to.fills.known.proven greets is_proven) i
              (ap (λ (xs : List Span). has xs i) to.fills.news ∙ has_ranges i ∙ new_one) lt))
              (λ old_one. old_told is (omega (arith, lt, cursor)) old_one)
              (cases_Bool (has_chunk old.parts.holding.queue.tickets i)))
              (now_told (opened_then is))
              passed

          by_unproven : greets ≡ false → s0.proven ≡ false → goal
          by_unproven is unproven = ⊎_elim
              (λ (lt : i < to.fills.known.cursor).
              let same : spoke.sets_back.known.proven ≡ false = ap (λ (x : SeatState). x.proven) old_state.2.rest ∙ unproven in
              let sets = subst (λ (g : Bool). SetsBackTo false g h.middle.news.ranges n h.begin.parts spoke.back) is
              (subst (λ (p : Bool). SetsBackTo p greets h.middle.news.ranges n h.begin.parts spoke.back) same spoke.sets_back.sets) in
              let back = back_low h.middle.news.ranges n h.begin.parts spoke.back spoke.sets_back.known to.fills.known turn.ranges.runs sets
              spoke.sets_back.there in_back in
              let cursor : spoke.sets_back.known.cursor ≡ s0.cursor = ap (λ (x : SeatState). x.cursor) old_state.2.rest in
              let le = back.0 in
              old_told is (omega (arith, lt, le, cursor)) (sym (has_ranges i) ∙ back.1 i lt))
              (now_told (opened_then is))
              passed

          spoken_told : goal
          spoken_told = ⊎_elim
              by_greeting
              (λ is. ⊎_elim (by_proven is) (by_unproven is) (cases_Bool s0.proven))
              (cases_Bool greets)

    -- ---- the whole

    seat_told : (s : SeatState) → slice_get course.sent.seats.seats n ≡ Some s → ToldAll b.d old.parts past → (i : ℕ) → is_committed course.sent.holding.store i ≡ true → i < s.cursor
        → is_told_of i (story b.d life (added ++ past)) ≡ true
    seat_told s messages told i held low = spoken_told was_said.0 was_said.1 was_said.2 was_said.3 s messages told i held low

    -- the channel as it was before the flush, and the seat
    pub channel_before : WasOn n c old.parts
    channel_before =
        let o = old_far was_said.0 was_said.1 was_said.2 was_said.3 in
        record { channel = o.channel; there = o.there; known = o.known; alike = old_alike was_said.0 was_said.1 was_said.2 was_said.3 }

    pub seat_before : (s : SeatState) → slice_get course.sent.seats.seats n ≡ Some s → WasBefore n c s old.parts sends.turned
    seat_before s messages =
        let far = was_said.0 in
        let is = was_said.1 in
        let spoke = was_said.3 in
        let state = old_state far is was_said.2 spoke in
        record {
          on = channel_before;
          state = state.0;
          messages = state.1;
          kept = (first far is was_said.2 spoke).0;
          cursor = λ proven.
              let same = known_still far is was_said.2 spoke (ap (λ (x : SeatState). x.proven) state.2.rest ∙ proven) in
              let was = ap (λ (x : SeatState). x.cursor) (same ∙ state.2.rest) in
              let is = cursor_is far is was_said.2 spoke s messages in
              let grows = after_grows spoke.speaks.fills.known.cursor h.left.agenda in
              omega (arith, was, is, grows);
        }

  -- Each chunk that is committed and below the cursor was told of once all was sent.
  pub flush_told : ToldAll b.d old.parts past → ToldAll b.d new.parts (added ++ past)
  flush_told told = subst (λ (p : Parts). ToldAll b.d p (added ++ past)) (sym course.rest)
      (λ n i c life s there plain address local messages held low free. seat_told n c life there plain address local s messages told i held low)
