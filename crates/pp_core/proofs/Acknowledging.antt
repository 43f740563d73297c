-- Each chunk that came first on a plain channel and is proven was acknowledged there, or its ticket waits.
use Rattle.std.proofs.Common.{◌≡◌, ◌⊎◌, inl, inr, ⊎_elim, ℕ, ◌+◌, ◌≤◌, leb, Bool, true, ◌&&◌, Some, List, [], ◌∷◌, ◌++◌, length, take, refl, sym, ◌∙◌, ap, subst, arith, append_assoc}
use Rattle.std.specs.List.{AllByRecursion, list_any}
use Rattle.std.proofs.lemmas.Bool.{both_ways, false≢true, or_left, or_right, and_parts}
use Rattle.pp_terms.specs.Count.{HasRisen}
use Rattle.pp_terms.specs.disk.Disk.{DiskState, moment_of}
use Rattle.pp_terms.specs.format.Descriptor.{Descriptor}
use Rattle.pp_terms.specs.format.Traffic as traffic
use Rattle.pp_terms.specs.format.Traffic.{Record, Received, LinkState}
use Rattle.pp_terms.specs.tree.Book.{LookUp}
use Rattle.pp_traffic.specs.Asking.{is_heard}
use Rattle.pp_traffic.specs.Life.{Life, comes_on}
use Rattle.pp_traffic.specs.Past.{read, comes_from, is_number, EachRecord}
use Rattle.pp_traffic.specs.Plain.{IsPlainNow}
use Rattle.pp_traffic.specs.Story.{said_in, story}
use Rattle.pp_traffic.proofs.Awaited.{plain_began, plain_up_to, plain_grows}
use Rattle.pp_traffic.proofs.Standing.{stands_since}
use Rattle.pp_promises.specs.Announced.{acknowledges, is_acknowledged, IsFirst, AcknowledgesFirst}
use Rattle.pp_promises.specs.LastTurn.{last_event, earlier, is_quiet}
use Rattle.pp_outside.specs.Outside.{address_of, record_of}
use Rattle.pp_outside.specs.declared.link.Event.{Event}
use Rattle.pp_outside.specs.declared.link.Event.TheVariants as events
use Rattle.pp_channels.specs.Seats.{channel_at}
use Rattle.pp_lives.specs.Reading.{is_waiting}
use Rattle.pp_lives.specs.Standing.{Stands, HasSeat}
use Rattle.pp_lives.proofs.Own.{stands_of}
use Rattle.pp_holding.specs.Holding.{HoldingState}
use Rattle.pp_holding.specs.Queue.{QueueState, empty_queue, released}
use Rattle.pp_holding.specs.declared.queue.Waiting.{Waiting}
use Rattle.pp_news.specs.News.{has_chunk, of_seat}
use Rattle.pp_peer.specs.declared.parts.Parts.{Parts}
use Rattle.pp_peer.specs.Events.{Absorbs}
use Rattle.pp_peer.specs.Flushing.{IsOurs}
use Rattle.pp_peer.specs.Standing.{Beginning, StandsFor}
use Rattle.pp_core.specs.Remembering.{is_ticket, AwaitsTicket, AwaitsFor, AwaitsAck}
use Rattle.pp_core.specs.Peers.{PeerState}
use Rattle.pp_core.specs.Telling.{Tells, end_of, HasOne, IsProven, is_new_from}
use Rattle.pp_core.specs.Turning.{after_refusal, scene, without_tickets, Sends}
use Rattle.pp_core.proofs.AbsorbsTold.{same_seat, is_event_of, WasOnSeat, was_on_seat}
use Rattle.pp_core.proofs.Awaited.{ticket_on}
use Rattle.pp_core.proofs.PassesTold.{awaits_unheard}
use Rattle.pp_core.proofs.Plain.{stands_there, proven_there}
use Rattle.pp_core.proofs.PlainBefore.{plain_then}
use Rattle.pp_core.proofs.Served.{risen_or}
use Rattle.pp_core.proofs.StaysTold.{WasOn, channel_before}
use Rattle.pp_core.proofs.Stories.{IsFound, story_finds, event_finds}
use Rattle.pp_core.proofs.Telling.{told_one, earlier_all}
use Rattle.pp_core.proofs.Told.{acknowledged}
use Rattle.pp_core.proofs.Writing.{known_number}

-- ---- what is to be acknowledged

-- of a peer that has begun, and once a wait was refused
pub begun_awaits : (d : Descriptor) (book : LookUp) (p : Parts) → AwaitsAck d book p []
begun_awaits d book p = tt

pub refused_awaits : (d : Descriptor) (book : LookUp) (p : PeerState) (past : List Record) → AwaitsAck d book p.parts past
    → AwaitsAck d book (after_refusal p).parts past
refused_awaits d book p past awaits = awaits

-- ---- each record

each_turned : (P Q : List Record → Record → Type 0) (newer past : List Record)
    → ((more : List Record) (r : Record) (before : List Record) → more ++ r ∷ before ≡ newer ++ past → P before r → Q before r)
    → EachRecord P past → EachRecord Q past
each_turned P Q newer [] by all = tt
each_turned P Q newer (r ∷ past) by all = (
  by newer r past refl all.0,
  each_turned P Q (newer ++ r ∷ []) past (λ more x before same p. by more x before (same ∙ append_assoc newer (r ∷ []) past) p) all.1,
)

each_behind : (Q : List Record → Record → Type 0) (d : Descriptor) (moment : ℕ) (rs past : List Record) → AllByRecursion (IsOurs d moment) rs
    → ((r : Record) (before : List Record) → IsOurs d moment r → Q before r) → EachRecord Q past → EachRecord Q (rs ++ past)
each_behind Q d moment [] past all by rest = rest
each_behind Q d moment (r ∷ rs) past all by rest = (by r (rs ++ past) all.0, each_behind Q d moment rs past all.1 by rest)

each_after : (P : List Record → Record → Type 0) (rs past : List Record) → EachRecord P (rs ++ past) → EachRecord P past
each_after P [] past all = all
each_after P (r ∷ rs) past all = each_after P rs past all.1

-- a chunk comes by no record of this peer
ours_not_first : (d other : Descriptor) (moment : ℕ) (book : LookUp) (life : Life) (before : List Record) (r : Record) (i : ℕ) (bytes : List ℕ)
    → IsOurs other moment r → IsFirst d book life before r i bytes → ⊥
ours_not_first d other moment book life before r i bytes ours first =
    both_ways (comes_from life.address r) (ap (λ (x : Record). comes_from life.address x) ours.is)
    (and_parts (comes_from life.address r) (is_number life.local (read d r).channel) first.brings.comes).0

-- the channel on which it came was heard
first_heard : (d : Descriptor) (book : LookUp) (life : Life) (more before whole : List Record) (r : Record) (i : ℕ) (bytes : List ℕ)
    → more ++ r ∷ before ≡ whole → IsFirst d book life before r i bytes → is_heard d life whole ≡ true
first_heard d book life more before whole r i bytes same first = stands_since (comes_on d life) life.opening whole (record {
  after = more;
  here = r;
  before = before;
  split = sym same;
  place = (let lt = plain_began d life (r ∷ before) before first.brings.plain in omega (arith, lt));
  passes = first.brings.comes;
})

heard_more : (d : Descriptor) (life : Life) (rs past : List Record) → is_heard d life past ≡ true → is_heard d life (rs ++ past) ≡ true
heard_more d life [] past e = e
heard_more d life (r ∷ rs) past e =
    or_right (leb life.opening (length (rs ++ past)) && comes_on d life r) (is_heard d life (rs ++ past)) (heard_more d life rs past e)

-- ---- the story

is_acked_found : (i : ℕ) → IsFound (acknowledges i) (is_acknowledged i)
is_acked_found i = record { said = λ at m before. refl; heard = λ at m before. refl; taken = λ at before. refl }

abbrev acks_of : Descriptor → Life → ℕ → Record → Bool
acks_of d life i r = list_any (acknowledges i) (said_in d life r)

-- ---- a flush

module _ (refused : ℕ) (old new : PeerState) (link later : LinkState) (disk left : DiskState) (course : Sends refused old new link later disk left)
    (b : Beginning) (most : ℕ) (past before : List Record) (since : b.since ≤ moment_of disk.history) (stands : StandsFor b most old.parts past)
    (carries : link.traffic ≡ Some before) (none : HasRisen link.faults later.faults → ⊥) (book : LookUp)
    (awaits : AwaitsAck b.d book old.parts past) where
  abbrev added : List Record
  added = course.flushes.added

  abbrev moment : ℕ
  moment = moment_of disk.history

  -- a ticket that was there is acknowledged
  module _ (life : Life) (plain : IsPlainNow b.d life past) (heard : is_heard b.d life past ≡ true) where
    abbrev hs : HasSeat old.parts.seats.table stands.seats.lives life
    hs = stands.seats.standing.plains.plain life plain

    there : Stands b.d hs.channel life past
    there = stands_there refused old new link later disk left course b most past stands life plain

    proven_first : IsProven hs.seat hs.channel old.parts
    proven_first = proven_there refused old new link later disk left course b most past stands life plain heard

    acks_now : (i : ℕ) → is_new_from hs.seat i old.parts ≡ true → list_any (acks_of b.d life i) added ≡ true
    acks_now i is = ⊎_elim
        (λ t. told_one b.d hs.channel life (acknowledges i) added before link later carries course.flushes.gained there.address
        (known_number (is_waiting hs.channel) hs.channel.remote life.remote hs.known (there.remote hs.known).0)
        (subst (λ (x : Descriptor). Tells x (end_of hs.channel) (HasOne (acknowledges i)) link later) stands.seats.swarm t))
        (λ risen. absurd (none risen))
        (acknowledged old.dials new.dials old.speaker new.speaker refused (scene old.parts link disk) (scene course.sent later left) course.sends
        hs.seat i hs.channel proven_first is)

  seat_awaits : (more : List Record) (r : Record) (prior : List Record) → more ++ r ∷ prior ≡ past → AwaitsFor b.d book old.parts past prior r
      → AwaitsFor b.d book (record old { parts = without_tickets course.sent }).parts (added ++ past) prior r
  seat_awaits more r prior same was n i c life bytes at plain address local first =
      let heard = first_heard b.d book life more prior past r i bytes same first in
      let plain_old = plain_then refused old new link later disk left course b most past since stands life plain (heard_more b.d life added past heard) in
      let w : WasOn n c old.parts = channel_before refused old new link later disk left course b most past before since stands carries none n c life at
      plain address local in
      let here = same_seat b.d old.parts.seats.table stands.seats.lives past stands.seats.standing n w.channel life w.there
      (local ∙ w.alike.local) (hs life plain_old heard) in
      let acks = λ (is : is_new_from n i old.parts ≡ true). story_finds (acknowledges i) (is_acknowledged i) (is_acked_found i) b.d old.parts.seats.descriptor moment life added past course.flushes.ours
      (let lt = plain_began b.d life past past plain_old in omega (arith, lt))
      (inl (acks_now life plain_old heard i (ap (λ (k : ℕ). is_new_from k i old.parts) here ∙ is))) in
      ⊎_elim
      (λ acked. inl (story_finds (acknowledges i) (is_acknowledged i) (is_acked_found i) b.d old.parts.seats.descriptor moment life added past course.flushes.ours
      (let lt = plain_began b.d life past past plain_old in omega (arith, lt)) (inr acked)))
      (λ ticket. ⊎_elim
      (λ waits. inr (inl (ap (λ (h : HoldingState). list_any (λ (x : Waiting). is_ticket n i x.ticket) h.queue.waiting) course.flushes.holding ∙ waits)))
      (λ given. inl (acks (⊎_elim
      (λ one. or_left (has_chunk (of_seat n old.parts.holding.queue.tickets) i) (has_chunk (of_seat n old.parts.holding.queue.repeats) i)
      (ticket_on n i old.parts.holding.queue.tickets one))
      (λ again. or_right (has_chunk (of_seat n old.parts.holding.queue.tickets) i) (has_chunk (of_seat n old.parts.holding.queue.repeats) i)
      (ticket_on n i old.parts.holding.queue.repeats again))
      given)))
      ticket)
      (was n i w.channel life bytes w.there plain_old (address ∙ ap address_of w.alike.address) (local ∙ w.alike.local) first)

  -- It stays so through a flush in which the link refused no datagram.
  pub flush_awaits : AwaitsAck b.d book new.parts (added ++ past)
  flush_awaits = subst (λ (p : Parts). AwaitsAck b.d book p (added ++ past)) (sym course.rest)
      (each_behind (AwaitsFor b.d book (without_tickets course.sent) (added ++ past)) old.parts.seats.descriptor moment added past course.flushes.ours
      (λ r prior ours n i c life bytes at plain address local first.
      absurd (ours_not_first b.d old.parts.seats.descriptor moment book life prior r i bytes ours first))
      (each_turned (AwaitsFor b.d book old.parts past) (AwaitsFor b.d book (without_tickets course.sent) (added ++ past)) [] past seat_awaits awaits))

-- ---- what comes

-- What had come before waits on once an event was absorbed, where each ticket does.
pub absorb_earlier : (b : Beginning) (most : ℕ) (past : List Record) (event : Event) (bytes : List ℕ) (old new : Parts)
    → Absorbs event bytes old new → StandsFor b most old past → StandsFor b most new (record_of event bytes ∷ past)
    → ((n i : ℕ) → AwaitsTicket n i old.holding.queue → AwaitsTicket n i new.holding.queue) → (book : LookUp)
    → AwaitsAck b.d book old past → EachRecord (AwaitsFor b.d book new (record_of event bytes ∷ past)) past
absorb_earlier b most past event bytes old new a stands then keeps book awaits =
    each_turned (AwaitsFor b.d book old past) (AwaitsFor b.d book new (record_of event bytes ∷ past)) [] past one awaits
  where
    one : (more : List Record) (r : Record) (prior : List Record) → more ++ r ∷ prior ≡ past → AwaitsFor b.d book old past prior r
        → AwaitsFor b.d book new (record_of event bytes ∷ past) prior r
    one more r prior same was n i c life text there plain address local first = ⊎_elim
        (λ plain_old. ⊎_elim
        (λ acked. inl (event_finds (acknowledges i) (is_acknowledged i) (is_acked_found i) b.d life event bytes past (let lt = plain_began b.d life past past plain_old in omega (arith, lt)) acked))
        (λ ticket. inr (keeps n i ticket))
        (was n i on.channel life text on.there plain_old (address ∙ ap address_of (sym on.address)) (local ∙ sym on.local) first))
        (λ reply. absurd (awaits_unheard b.d life (record_of event bytes) past reply (first_heard b.d book life more prior past r i text same first)))
        ((plain_grows.up_to b.d life (record_of event bytes) past).0
        (plain_up_to b.d life (record_of event bytes) past (is_event_of event bytes) plain))
      where
        on : WasOnSeat n c old
        on = was_on_seat b most past event bytes old new a stands then n c life there local plain

-- where nothing came all that waited was committed
quiet_released : (at : ℕ) (bytes : List ℕ) (old new : Parts) → Absorbs (events.Quiet at) bytes old new
    → new.holding.queue ≡ released old.holding.queue
quiet_released at bytes old new a = a.queue ∙ ap (λ (p : Parts). released p.holding.queue) a.takes

-- ---- a turn

last_all : (d : Descriptor) (at : ℕ) (rs past : List Record) → AllByRecursion (IsOurs d at) rs → last_event (rs ++ past) ≡ last_event past
last_all d at [] past all = refl
last_all d at (r ∷ rs) past all = ap (λ (x : Record). last_event (x ∷ (rs ++ past))) all.0.is ∙ last_all d at rs past all.1

-- where nothing waits no ticket does
none_awaits : (n i : ℕ) (q : QueueState) → q ≡ empty_queue → AwaitsTicket n i q → ⊥
none_awaits n i q is waits = of (subst (λ (x : QueueState). AwaitsTicket n i x) is waits)
  where
    of : AwaitsTicket n i empty_queue → ⊥
    of (inl e) = false≢true e
    of (inr (inl e)) = false≢true e
    of (inr (inr e)) = false≢true e

module _ (refused at : ℕ) (bytes : List ℕ) (old mid new : PeerState) (link later : LinkState) (disk left : DiskState)
    (a : Absorbs (events.Quiet at) bytes old.parts mid.parts) (course : Sends refused mid new link later disk left) (b : Beginning) (most : ℕ)
    (past before : List Record) (since : b.since ≤ moment_of disk.history) (then : StandsFor b most mid.parts (traffic.Quiet at ∷ past))
    (carries : link.traffic ≡ Some before) (book : LookUp) (awaits : AwaitsAck b.d book mid.parts (traffic.Quiet at ∷ past))
    (none : HasRisen link.faults later.faults → ⊥) where
  abbrev whole : List Record
  whole = course.flushes.added ++ traffic.Quiet at ∷ past

  -- an ACK of a chunk that came first went
  abbrev IsAcked : List Record → Record → Type 0
  IsAcked prior r = (life : Life) (i : ℕ) (text : List ℕ) → IsFirst b.d book life prior r i text → IsPlainNow b.d life whole
      → is_acknowledged i (story b.d life whole) ≡ true

  end : StandsFor b (most + refused) new.parts whole
  end = course.goes.stands b most (traffic.Quiet at ∷ past) since then

  queue_then : new.parts.holding.queue ≡ empty_queue
  queue_then = ap (λ (p : Parts). p.holding.queue) course.rest
      ∙ ap (λ (h : HoldingState). record h.queue { tickets = []; repeats = [] }) course.flushes.holding
      ∙ ap (λ (q : QueueState). record q { tickets = []; repeats = [] }) (quiet_released at bytes old.parts mid.parts a)

  is_acked : (more : List Record) (r : Record) (prior : List Record) → more ++ r ∷ prior ≡ past → AwaitsFor b.d book new.parts whole prior r
      → IsAcked prior r
  is_acked more r prior same was life i text first plain =
      let hs = end.seats.standing.plains.plain life plain in
      let st = stands_of b.d (channel_at new.parts.seats.table hs.seat) (end.seats.lives hs.seat) hs.channel life whole
      (end.seats.standing.seated.each hs.seat) hs.there hs.lives_there in
      ⊎_elim
      (λ acked. acked)
      (λ ticket. absurd (none_awaits hs.seat i new.parts.holding.queue queue_then ticket))
      (was hs.seat i hs.channel life text hs.there plain st.address st.local first)

  quiet_acknowledges : EachRecord IsAcked (earlier whole)
  quiet_acknowledges = subst (λ (rs : List Record). EachRecord IsAcked rs)
      (sym (earlier_all mid.parts.seats.descriptor (moment_of disk.history) course.flushes.added (traffic.Quiet at ∷ past) course.flushes.ours))
      (each_turned (AwaitsFor b.d book new.parts whole) IsAcked [] past is_acked
      (each_after (AwaitsFor b.d book new.parts whole) course.flushes.added (traffic.Quiet at ∷ past)
      (flush_awaits refused mid new link later disk left course b most (traffic.Quiet at ∷ past) before since then carries none book awaits)).1)

-- At the end of a turn in which nothing came, each chunk that came first on a plain channel, is proven and agrees with the book was
-- acknowledged there, unless the link refused a datagram.
pub turn_acknowledges : (refused : ℕ) (event : Event) (bytes : List ℕ) (old mid new : PeerState) (link later : LinkState) (disk left : DiskState)
    → Absorbs event bytes old.parts mid.parts → (course : Sends refused mid new link later disk left) → (b : Beginning) (most : ℕ)
    → (past before : List Record) → b.since ≤ moment_of disk.history → StandsFor b most mid.parts (record_of event bytes ∷ past)
    → link.traffic ≡ Some before → (book : LookUp) → AwaitsAck b.d book mid.parts (record_of event bytes ∷ past)
    → AcknowledgesFirst b.d book (course.flushes.added ++ record_of event bytes ∷ past) ⊎ HasRisen link.faults later.faults
turn_acknowledges refused (events.Datagram sender len at) bytes old mid new link later disk left a course b most past before since then carries book
    awaits = inl (λ quiet. absurd (false≢true (ap is_quiet (sym (last_all mid.parts.seats.descriptor (moment_of disk.history) course.flushes.added
    (Received at (address_of sender) (take len bytes) ∷ past) course.flushes.ours)) ∙ quiet)))
turn_acknowledges refused (events.Quiet at) bytes old mid new link later disk left a course b most past before since then carries book awaits =
    ⊎_elim
    (λ risen. inr risen)
    (λ none. inl (λ quiet. quiet_acknowledges refused at bytes old mid new link later disk left a course b most past before since then carries book
    awaits none))
    (risen_or link.faults later.faults)
