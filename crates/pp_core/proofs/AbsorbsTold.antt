-- What was told on plain channels stays told while something comes.
use Rattle.std.proofs.Common.{◌≡◌, ⊎_elim, ℕ, Bool, true, false, cond, ◌&&◌, Option, Some, None, List, ◌∷◌, length, take, refl, sym, ◌∙◌, ap, subst, arith}
use Rattle.std.specs.Prelude.{slice_get}
use Rattle.std.proofs.lemmas.Bool.{both_ways, false≢true, and_parts, and_from}
use Rattle.std.proofs.lemmas.List.{take_all}
use Rattle.std.proofs.lemmas.Option.{same_Some}
use Rattle.pp_terms.specs.format.Descriptor.{Descriptor}
use Rattle.pp_terms.specs.format.Traffic as traffic
use Rattle.pp_terms.specs.format.Traffic.{Record, Received}
use Rattle.pp_traffic.specs.Awaiting.{IsReplyOfPeer}
use Rattle.pp_traffic.specs.Life.{Life, begins_fitting, comes_on}
use Rattle.pp_traffic.specs.Past.{read, comes_from, is_event, is_number}
use Rattle.pp_traffic.specs.Plain.{IsPlainNow, IsPlainUpTo}
use Rattle.pp_traffic.specs.Story.{told}
use Rattle.pp_traffic.proofs.Awaited.{plain_began, plain_up_to, plain_grows}
use Rattle.pp_promises.specs.Announced.{is_told_of}
use Rattle.pp_promises.specs.OwnSide.{has_in}
use Rattle.pp_outside.specs.Arrivals.{IsEvent}
use Rattle.pp_outside.specs.Outside.{address_of, record_of}
use Rattle.pp_outside.specs.declared.link.Address.{Address}
use Rattle.pp_outside.specs.declared.link.Event.{Event}
use Rattle.pp_outside.specs.declared.link.Event.TheVariants as events
use Rattle.pp_channels.specs.Seats.{Seats, channel_at}
use Rattle.pp_channels.specs.declared.channel.Channel.{Channel}
use Rattle.pp_lives.specs.Arriving.{Arrives}
use Rattle.pp_lives.specs.Reading.{is_waiting}
use Rattle.pp_lives.specs.Standing.{HasSeat, HasDial, Standing}
use Rattle.pp_lives.specs.declared.arriving.Arrival.{Arrival}
use Rattle.pp_lives.specs.declared.arriving.Arrival.TheVariants as arrivals
use Rattle.pp_lives.proofs.Own.{stands_of}
use Rattle.pp_store.specs.Store.{is_committed}
use Rattle.pp_news.specs.News.{has_chunk}
use Rattle.pp_seat.specs.Seats.{SeatState}
use Rattle.pp_peer.specs.declared.parts.Parts.{Parts}
use Rattle.pp_peer.specs.Events.{TakesEvent, Absorbs}
use Rattle.pp_peer.specs.Standing.{Beginning, StandsFor}
use Rattle.pp_core.specs.Remembering.{ToldAll}
use Rattle.pp_core.proofs.Arriving.{on_its_seat}
use Rattle.pp_core.proofs.Cursors.{cursor_at, arrival_of, absorbs_cursor}
use Rattle.pp_core.proofs.LatelySent.{awaits_number}
use Rattle.pp_core.proofs.StaysTold.{seat_held}
use Rattle.pp_core.proofs.Stories.{event_finds}
use Rattle.pp_core.proofs.Telling.{is_told_found}
use Rattle.pp_core.proofs.Ticketed.{HasTicketRoom, absorbs_covered}
use Rattle.pp_core.proofs.Wrote.{event_wrote}

-- ---- the seat of a life

-- a channel of the life's number is on the life's seat
pub same_seat : (d : Descriptor) (t : Seats) (lives : ℕ → Option Life) (past : List Record) → Standing d t lives past → (n : ℕ) (c : Channel)
    (life : Life) → channel_at t n ≡ Some c → life.local ≡ c.local → (h : HasSeat t lives life) → h.seat ≡ n
same_seat d t lives past standing n c life there local h =
    let st = stands_of d (channel_at t h.seat) (lives h.seat) h.channel life past (standing.seated.each h.seat) h.there h.lives_there in
    standing.seated.are.differ h.seat n h.channel c h.there there (sym st.local ∙ local)

-- and so it is with a dial
pub dial_seat : (d : Descriptor) (t : Seats) (lives : ℕ → Option Life) (past : List Record) → Standing d t lives past → (n : ℕ) (c : Channel)
    (life : Life) → channel_at t n ≡ Some c → life.local ≡ c.local → (h : HasDial t lives life) → h.seat ≡ n
dial_seat d t lives past standing n c life there local h =
    let l = h.lives_there in
    let st = stands_of d (channel_at t h.seat) (lives h.seat) h.channel l.0 past (standing.seated.each h.seat) h.there l.1 in
    standing.seated.are.differ h.seat n h.channel c h.there there (sym st.local ∙ ap (λ (x : Life). x.local) (sym l.2) ∙ local)

reply_comes : (d : Descriptor) (life : Life) (r : Record) (past : List Record) → IsReplyOfPeer d life r past → comes_on d life r ≡ true
reply_comes d life r past reply =
    let it = read d r in
    let outer = and_parts (comes_from life.address r && is_number (cond life.is_dialled life.local 0) it.channel)
    (begins_fitting d life.is_dialled life.remote it.messages.read) reply.2 in
    let inner = and_parts (comes_from life.address r) (is_number (cond life.is_dialled life.local 0) it.channel) outer.0 in
    and_from (comes_from life.address r) (is_number life.local it.channel) inner.0
    (subst (λ (b : Bool). is_number (cond b life.local 0) it.channel ≡ true) reply.0 inner.1)

-- where the datagram is the reply to a dial, the seat of that is begun
replied_there : (d : Descriptor) (t new : Seats) (lives : ℕ → Option Life) (past : List Record) (sender : Address) (moment clock : ℕ)
    (bytes : List ℕ) (result : Arrival) (life : Life) → Standing d t lives past → Arrives d t sender clock bytes result new
    → IsPlainUpTo d life past (Received moment (address_of sender) bytes)
    → IsReplyOfPeer d life (Received moment (address_of sender) bytes) past → (n : ℕ) (c : Channel) → channel_at t n ≡ Some c
    → life.local ≡ c.local → result ≡ arrivals.Replied n
replied_there d t new lives past sender moment clock bytes result life standing arrives plain reply n c there local = ⊎_elim
    (λ heard.
    let dial = standing.plains.dial life reply.0 reply.1 in
    let same : heard.has.seat ≡ dial.seat = same_seat d t lives past standing n c life there local heard.has
    ∙ sym (dial_seat d t lives past standing n c life there local dial) in
    let one : heard.has.channel ≡ dial.channel = same_Some heard.has.channel dial.channel
    (sym heard.has.there ∙ ap (λ (k : ℕ). channel_at t k) same ∙ dial.there) in
    absurd (both_ways (is_waiting dial.channel) (ap is_waiting (sym one) ∙ heard.has.known) dial.waits))
    (λ replied. replied.is
    ∙ ap (λ (k : ℕ). arrivals.Replied k) (dial_seat d t lives past standing n c life there local replied.has))
    (on_its_seat d t new lives past sender moment clock bytes result life standing arrives plain
    (reply_comes d life (Received moment (address_of sender) bytes) past reply))

event_replied : (b : Beginning) (most : ℕ) (past : List Record) (event : Event) (bytes : List ℕ) (old mid : Parts) → IsEvent event bytes
    → StandsFor b most old past → (takes : TakesEvent event bytes old mid) → (life : Life)
    → IsPlainUpTo b.d life past (record_of event bytes) → IsReplyOfPeer b.d life (record_of event bytes) past
    → (n : ℕ) (c : Channel) → channel_at old.seats.table n ≡ Some c → life.local ≡ c.local
    → arrival_of event bytes old mid takes ≡ arrivals.Replied n
event_replied b most past (events.Datagram sender len at) bytes old mid fits stands takes life plain reply n c there local =
    let whole : take len bytes ≡ bytes = ap (λ (k : ℕ). take k bytes) fits.0 ∙ take_all (length bytes) bytes (omega arith) in
    replied_there b.d old.seats.table takes.mid.seats.table stands.seats.lives past sender at takes.mid.seats.moment bytes takes.arrival life
    stands.seats.standing
    (subst (λ (x : Descriptor). Arrives x old.seats.table sender takes.mid.seats.moment bytes takes.arrival takes.mid.seats.table)
    stands.seats.swarm takes.arrives)
    (subst (λ (xs : List ℕ). IsPlainUpTo b.d life past (Received at (address_of sender) xs)) whole plain)
    (subst (λ (xs : List ℕ). IsReplyOfPeer b.d life (Received at (address_of sender) xs) past) whole reply) n c there local
event_replied b most past (events.Quiet at) bytes old mid fits stands takes life plain reply n c there local =
    absurd (false≢true (reply_comes b.d life (traffic.Quiet at) past reply))

-- ---- the whole

pub cursor_there : (o : Option SeatState) (cursor : ℕ) → cursor_at o ≡ Some cursor → (s : SeatState) × (o ≡ Some s) × (s.cursor ≡ cursor)
cursor_there None cursor e = let x : None ≡ Some cursor = e in absurd cc
cursor_there (Some s) cursor e = (s, refl, same_Some s.cursor cursor e)

pub is_event_of : (event : Event) (bytes : List ℕ) → is_event (record_of event bytes) ≡ true
is_event_of (events.Datagram sender len at) bytes = refl
is_event_of (events.Quiet at) bytes = refl

-- The channel of a plain life, as it was before something came.
pub record WasOnSeat (n : ℕ) (c : Channel) (old : Parts) : Type 0 where
  pub channel : Channel
  pub there : channel_at old.seats.table n ≡ Some channel
  pub address : channel.address ≡ c.address
  pub local : channel.local ≡ c.local

pub was_on_seat : (b : Beginning) (most : ℕ) (past : List Record) (event : Event) (bytes : List ℕ) (old new : Parts) → Absorbs event bytes old new
    → StandsFor b most old past → StandsFor b most new (record_of event bytes ∷ past) → (n : ℕ) (c : Channel) (life : Life)
    → channel_at new.seats.table n ≡ Some c → life.local ≡ c.local → IsPlainNow b.d life (record_of event bytes ∷ past) → WasOnSeat n c old
was_on_seat b most past event bytes old new a stands then n c life there local plain =
    let held = seat_held b.d new.seats.table then.seats.lives (record_of event bytes ∷ past) then.seats.standing n c life there local plain in
    let was = event_wrote event bytes old a.mid (awaits_number b most old past stands) a.takes n c
    (ap (λ (p : Parts). channel_at p.seats.table n) (sym a.rest) ∙ there) held.begun in
    record { channel = was.0; there = was.1; address = was.3; local = was.4 }

-- Where no ticket is dropped, each chunk that is committed and below the cursor was told of once an event was absorbed.
pub absorb_told : (b : Beginning) (most : ℕ) (past : List Record) (event : Event) (bytes : List ℕ) (old new : Parts)
    → Absorbs event bytes old new → IsEvent event bytes → StandsFor b most old past → StandsFor b most new (record_of event bytes ∷ past)
    → HasTicketRoom old.seats.descriptor bytes old.holding → ToldAll b.d old past → ToldAll b.d new (record_of event bytes ∷ past)
absorb_told b most past event bytes old new a fits stands then room told n i c life s there plain address local messages held low free =
    ⊎_elim
    (λ zero_is. absurd (let e = same_Some 0 s.cursor (sym zero_is.1 ∙ ap cursor_at messages) in omega (arith, e, low)))
    (λ stays. ⊎_elim
    (λ before.
    let x = cursor_there (slice_get old.seats.seats n) s.cursor (sym stays.1 ∙ ap cursor_at messages) in
    let same = x.2 in
    event_finds (has_in i) (is_told_of i) (is_told_found i) b.d life event bytes past (let lt = plain_began b.d life past past before in omega (arith, lt))
    (told n i was.channel life x.0 was.there before (address ∙ ap address_of (sym was.address)) (local ∙ sym was.local) x.1 kept.0
    (omega (arith, low, same)) kept.1))
    (λ reply. absurd (stays.0 (event_replied b most past event bytes old a.mid fits stands a.takes life up_to reply n was.channel was.there
    (local ∙ sym was.local))))
    ((plain_grows.up_to b.d life (record_of event bytes) past).0 up_to))
    (absorbs_cursor event bytes old new a n)
  where
    up_to : IsPlainUpTo b.d life past (record_of event bytes)
    up_to = plain_up_to b.d life (record_of event bytes) past (is_event_of event bytes) plain

    was : WasOnSeat n c old
    was = was_on_seat b most past event bytes old new a stands then n c life there local plain

    kept : (is_committed old.holding.store i ≡ true) × (has_chunk old.holding.queue.tickets i ≡ false)
    kept = absorbs_covered i ((is_committed old.holding.store i ≡ true) × (has_chunk old.holding.queue.tickets i ≡ false)) bytes event old new a
        (λ is none. (is, none)) room held free
