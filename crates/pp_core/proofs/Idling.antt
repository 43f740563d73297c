-- While every channel can have an upload slot each has one and nobody is to be choked, whatever comes.
use Rattle.std.proofs.Common.{◌≡◌, ◌≢◌, ◌⊎◌, inl, inr, ⊎_elim, ℕ, zero, suc, ◌+◌, ◌<◌, ◌≤◌, get_or, replicate, Bool, true, false, cond, not, Option, Some, None, option_map, List, [], ◌∷◌, length, take, refl, sym, ◌∙◌, ap, subst, arith}
use Rattle.std.specs.Prelude.{is_some, slice_get, slice_set, nat_lt}
use Rattle.std.specs.Int.{w32, from_be_bytes}
use Rattle.std.specs.List.{list_any}
use Rattle.std.proofs.Math.ListN.{set}
use Rattle.std.proofs.lemmas.Bool.{cases_Bool, cases_eq, cases_lt, both_ways, and_from, cond-true, lt-ltb, eq-eqb, false_from_ne_true}
use Rattle.std.proofs.lemmas.List.{length-set, length-replicate, get_or_past, get_or-replicate, get_or-set_other}
use Rattle.std.proofs.lemmas.Option.{slice_get-map}
use Rattle.pp_terms.specs.format.Descriptor.{Descriptor}
use Rattle.pp_terms.specs.format.Messages.{Messages}
use Rattle.pp_terms.specs.format.Traffic.{Record, Received}
use Rattle.pp_traffic.specs.Past.{read, is_number}
use Rattle.pp_traffic.specs.Life.{closes}
use Rattle.pp_traffic.specs.Plain.{is_handshake}
use Rattle.pp_promises.specs.Answered.{opens, openings}
use Rattle.pp_outside.specs.Arrivals.{IsEvent}
use Rattle.pp_outside.specs.Outside.{address_of, record_of}
use Rattle.pp_outside.specs.declared.link.Address.{Address}
use Rattle.pp_outside.specs.declared.link.Event.{Event}
use Rattle.pp_outside.specs.declared.link.Event.TheVariants as events
use Rattle.pp_requests.specs.Seats.{Seating, since, seat_count}
use Rattle.pp_channels.specs.Seats.{Seats, channel_at, closed, after_drop}
use Rattle.pp_lives.specs.Arriving.{contents, Arrives}
use Rattle.pp_lives.specs.declared.arriving.Arrival.{Arrival}
use Rattle.pp_lives.specs.declared.arriving.Arrival.TheVariants as arrivals
use Rattle.pp_lives.proofs.Arrivals.{number_read, contents_read}
use Rattle.pp_lives.proofs.Telling.{fitting_begins}
use Rattle.pp_avail.specs.declared.ranker.Rank.{Rank}
use Rattle.pp_seat.specs.Seats.{SeatState}
use Rattle.pp_seats.specs.Hearing.{ChangesSeat, Begins, BeginsShown, Prepares, looked_up}
use Rattle.pp_seats.specs.Standing.{SeatsState}
use Rattle.pp_seats.proofs.Lists.{get_set_other}
use Rattle.pp_peer.specs.declared.parts.Parts.{Parts}
use Rattle.pp_peer.specs.Standing.{Beginning, StandsFor}
use Rattle.pp_peer.specs.Greeting.{without_seat}
use Rattle.pp_peer.specs.Taking.{read_at}
use Rattle.pp_peer.specs.Messages.{before_close, Shuts, ReadsAll}
use Rattle.pp_peer.specs.Events.{with_slot, with_place, has_slot_for, seated, with_seated, with_channel, HearsProven, HearsArrival, TakesDatagram, after_datagram, TakesEvent, Absorbs}
use Rattle.pp_peer.proofs.Arrived.{datagram_is}
use Rattle.pp_peer.proofs.Slotted.{no_more}
use Rattle.pp_core.specs.Remembering.{known_in, known_at, owes_in, owes_at, HasSlots}
use Rattle.pp_core.specs.Opening.{HasBegun}
use Rattle.pp_core.specs.Peers.{PeerState}
use Rattle.pp_core.proofs.Before.{drop_in, closed_there}
use Rattle.pp_core.proofs.Counting.{fewer_within, fewer_but}
use Rattle.pp_core.proofs.Fars.{set_free}
use Rattle.pp_core.proofs.Knowing.{known_used, stays_known, SameKnown, BeginsAt, Knows, arrives_knows}
use Rattle.pp_core.proofs.Paths.{seat_after}
use Rattle.pp_core.proofs.Openings.{count_more, one_or_none, begins_any, has_opened}
use Rattle.pp_core.proofs.Unturned.{owes_set, KeepsTurns, turn_keeps}

-- ---- who has a slot

-- The slots stay, the other peers' numbers are known on the same seats, and the same is due there.
pub record StaysIdle (old new : Parts) : Type 0 where
  pub slots : new.slots ≡ old.slots
  pub known : (n : ℕ) → known_at new.seats.table n ≡ known_at old.seats.table n
  pub owes : (n : ℕ) → owes_at new.seats.seats n ≡ owes_at old.seats.seats n

pub stays_by : (old new : Parts) → new.seats ≡ old.seats → new.slots ≡ old.slots → StaysIdle old new
stays_by old new seats slots = record {
  slots = slots;
  known = λ n. ap (λ (p : SeatsState). known_at p.table n) seats;
  owes = λ n. ap (λ (p : SeatsState). owes_at p.seats n) seats;
}

pub stays_same : (old new : Parts) → new ≡ old → StaysIdle old new
stays_same old new same = stays_by old new (ap (λ (p : Parts). p.seats) same) (ap (λ (p : Parts). p.slots) same)

pub stays_twice : (a b c : Parts) → StaysIdle a b → StaysIdle b c → StaysIdle a c
stays_twice a b c one two = record {
  slots = two.slots ∙ one.slots;
  known = λ n. two.known n ∙ one.known n;
  owes = λ n. two.owes n ∙ one.owes n;
}

stays_turned : (old new : Parts) → KeepsTurns old new → StaysIdle old new
stays_turned old new k = record { slots = k.slots; known = λ n. ap (λ (t : Seats). known_at t n) k.table; owes = k.owes }

pub idle_after : (old new : Parts) → StaysIdle old new → HasSlots old → HasSlots new
idle_after old new s has = record {
  sized = (
    ap (λ (x : Seating). length x.slots) s.slots ∙ has.sized.0,
    ap (λ (x : Seating). length x.waiting) s.slots ∙ has.sized.1,
  );
  waits = λ n. ap (λ (x : Seating). since x.waiting n) s.slots ∙ has.waits n;
  slots = λ n e. s.known n ∙ has.slots n (sym (ap (λ (x : Seating). is_some (since x.slots n)) s.slots) ∙ e);
  idle = λ n e. s.owes n ∙ has.idle n (sym (s.known n) ∙ e);
}

-- ---- where a peer begins

none_size : {X : Type 0} (xs : List (Option X)) → xs ≡ replicate 64 None → length xs ≡ 64
none_size {X = X} xs is = ap length is ∙ length-replicate {A = Option X} 64 None

none_in : {X : Type 0} (xs : List (Option X)) → xs ≡ replicate 64 None → (n : ℕ) → get_or xs n None ≡ None
none_in xs is n = ⊎_elim
    (λ low. ap (λ ys. get_or ys n None) is ∙ get_or-replicate 64 n None None low)
    (λ high. get_or_past xs n None (let size = none_size xs is in omega (arith, size, high)))
    (cases_lt n 64)

pub begun_idle : (d : Descriptor) (random : List ℕ) (asks : Option Rank) (dial : List Address) (p : PeerState) → HasBegun d random asks dial p
    → HasSlots p.parts
begun_idle d random asks dial p h = record {
  sized = (none_size p.parts.slots.slots slots, none_size p.parts.slots.waiting waiting);
  waits = none_in p.parts.slots.waiting waiting;
  slots = λ n e. absurd (both_ways (is_some (since p.parts.slots.slots n)) (ap is_some (none_in p.parts.slots.slots slots n)) e);
  idle = λ n e. absurd (both_ways (known_at p.parts.seats.table n)
      (ap known_in (none_in p.parts.seats.table.channels (ap (λ (t : Seats). t.channels) h.seats.table) n)) e);
}
  where
    slots : p.parts.slots.slots ≡ replicate 64 None
    slots = ap (λ (x : Seating). x.slots) h.slots

    waiting : p.parts.slots.waiting ≡ replicate 64 None
    waiting = ap (λ (x : Seating). x.waiting) h.slots

-- ---- messages on a channel

set_none : {X : Type 0} (xs : List (Option X)) (k : ℕ) → get_or (set xs k None) k None ≡ None
set_none [] k = refl
set_none (x ∷ xs) zero = refl
set_none (x ∷ xs) (suc k) = set_none xs k

none_set : (xs : List (Option ℕ)) (k n : ℕ) → since xs n ≡ None → since (set xs k None) n ≡ None
none_set xs k n none = ⊎_elim
    (λ (here : n ≡ k). ap (since (set xs k None)) here ∙ set_none xs k)
    (λ ne. get_or-set_other xs k n None None ne ∙ none)
    (cases_eq n k)

pub closed_unknown : (t : Seats) (k : ℕ) → known_at (closed t k) k ≡ false
closed_unknown t k = ap known_in (drop_in (channel_at t k) (slice_set t.channels k None) k
    ∙ ap (after_drop (channel_at t k)) (set_free t.channels k))

-- a channel was dropped with all that was kept of it
shut_idle : (seat : ℕ) (old new : Parts) → Shuts seat old new → HasSlots old → HasSlots new
shut_idle seat old new c has = record {
  sized = (
    ap (λ (p : Parts). length p.slots.slots) c.rest ∙ length-set old.slots.slots seat None ∙ has.sized.0,
    ap (λ (p : Parts). length p.slots.waiting) c.rest ∙ length-set old.slots.waiting seat None ∙ has.sized.1,
  );
  waits = λ n. ap (λ (p : Parts). since p.slots.waiting n) c.rest ∙ none_set old.slots.waiting seat n (has.waits n);
  slots = λ n e. by_slot n (cases_eq n seat) (sym (ap (λ (p : Parts). is_some (since p.slots.slots n)) c.rest) ∙ e);
  idle = λ n e. by_known n (cases_eq n seat) (sym (ap (λ (t : Seats). known_at t n) table) ∙ e);
}
  where
    table : new.seats.table ≡ closed old.seats.table seat
    table = ap (λ (p : SeatsState). p.table) c.forgets.is

    by_slot : (n : ℕ) → (n ≡ seat) ⊎ (n ≡ seat → ⊥) → is_some (since (set old.slots.slots seat None) n) ≡ true → known_at new.seats.table n ≡ true
    by_slot n (inl here) e = absurd (both_ways (is_some (since (set old.slots.slots seat None) n))
        (ap (λ (m : ℕ). is_some (since (set old.slots.slots seat None) m)) here ∙ ap is_some (set_none old.slots.slots seat)) e)
    by_slot n (inr ne) e = ap (λ (t : Seats). known_at t n) table
        ∙ stays_known (channel_at old.seats.table n) (channel_at (closed old.seats.table seat) n) (closed_there old.seats.table seat n ne)
        ∙ has.slots n (sym (ap is_some (get_or-set_other old.slots.slots seat n None None ne)) ∙ e)

    by_known : (n : ℕ) → (n ≡ seat) ⊎ (n ≡ seat → ⊥) → known_at (closed old.seats.table seat) n ≡ true → owes_at new.seats.seats n ≡ false
    by_known n (inl here) e = absurd (both_ways (known_at (closed old.seats.table seat) n)
        (ap (λ (m : ℕ). known_at (closed old.seats.table seat) m) here ∙ closed_unknown old.seats.table seat) e)
    by_known n (inr ne) e = ap (λ (p : SeatsState). owes_at p.seats n) c.forgets.is
        ∙ owes_set old.seats.seats seat c.forgets.before (record c.forgets.before { own = [] }) c.forgets.there refl n
        ∙ has.idle n (sym (stays_known (channel_at old.seats.table n) (channel_at (closed old.seats.table seat) n)
        (closed_there old.seats.table seat n ne)) ∙ e)

reads_idle : (seat : ℕ) (d : Descriptor) (bytes : List ℕ) (start : ℕ) (old new : Parts) → ReadsAll seat d bytes start old new
    → HasSlots old → HasSlots new
reads_idle seat d bytes start old new r has =
    let heard = idle_after old r.mid (stays_turned old r.mid (turn_keeps seat (before_close (read_at d bytes start)) old r.mid r.in_turn)) has in
    ⊎_elim
    (λ shut. shut_idle seat r.mid new (r.shuts shut) heard)
    (λ stays. idle_after r.mid new
    (stays_by r.mid new (ap (λ (p : Parts). p.seats) (r.stays stays)) (ap (λ (p : Parts). p.slots) (r.stays stays))) heard)
    (cases_Bool (closes (read_at d bytes start)))

proven_idle : (sender : Address) (bare : Bool) (seat : ℕ) (bytes : List ℕ) (old new : Parts) → HearsProven sender bare seat bytes old new
    → HasSlots old → HasSlots new
proven_idle sender bare seat bytes old new h has =
    reads_idle seat h.mid.seats.descriptor bytes 4 h.mid new h.reads
    (idle_after old h.mid (stays_by old h.mid (ap (λ (p : Parts). p.seats) h.hears.rest) (ap (λ (p : Parts). p.slots) h.hears.rest)) has)

-- ---- what a datagram makes of its seat

-- A seat that begins with a slot owes nothing.
abbrev BeginsIdle : (slot : Bool) → Arrival → SeatsState → Type 0
BeginsIdle slot (arrivals.Opened seat next) p = slot ≡ true → owes_at p.seats seat ≡ false
BeginsIdle slot (arrivals.Replied seat) p = slot ≡ true → owes_at p.seats seat ≡ false
BeginsIdle slot _ p = Unit {0}

begins_idle_at : (d : Descriptor) (slot : Bool) (result : Arrival) (old new : SeatsState) → Prepares d slot result old new
    → BeginsIdle slot result new
begins_idle_at d slot (arrivals.Opened seat next) old new c = λ is.
    ap owes_in (seat_after seat (Begins d slot) old new c) ∙ c.changes.fresh.owes_is ∙ ap not is
begins_idle_at d slot (arrivals.Replied seat) old new c = λ is.
    ap owes_in (seat_after seat (BeginsShown d slot) old new c) ∙ ap (λ (s : SeatState). s.owes) c.changes.shown.exact
    ∙ c.changes.begins.fresh.owes_is ∙ ap not is
begins_idle_at d slot result old new c = tt

others_owe : (seat : ℕ) (P : SeatState → SeatState → Type 0) (seats : List SeatState) (old new : SeatsState) → old.seats ≡ seats
    → ChangesSeat seat P old new → (n : ℕ) → n ≢ seat → owes_at new.seats n ≡ owes_at seats n
others_owe seat P seats old new same c n ne = ap (λ (p : SeatsState). owes_at p.seats n) c.is
    ∙ ap owes_in (get_set_other old.seats seat n c.after ne) ∙ ap (λ (xs : List SeatState). owes_at xs n) same

-- a handshake that opens a channel is one for channel 0
opened_opens : (d : Descriptor) (t new : Seats) (sender : Address) (at now : ℕ) (bytes : List ℕ) (seat next : ℕ)
    → Arrives d t sender now bytes (arrivals.Opened seat next) new → opens d (Received at (address_of sender) bytes) ≡ true
opened_opens d t new sender at now bytes seat next a =
    let r : Record = Received at (address_of sender) bytes in
    ⊎_elim
    (λ here.
    let w = a.zero here in
    and_from (is_number 0 (read d r).channel) (list_any is_handshake (read d r).messages.read)
    (ap (is_number 0) (number_read d r bytes refl a.long) ∙ eq-eqb (from_be_bytes w32 (take 4 bytes)) 0 here)
    (ap (λ (m : Messages). list_any is_handshake m.read) (contents_read d bytes a.long)
    ∙ begins_any (contents d bytes).read (fitting_begins d false w.source (contents d bytes).read w.fitting)))
    (λ apart. absurd (a.other apart).does.1.does)
    (cases_eq (from_be_bytes w32 (take 4 bytes)) 0)

-- ---- a datagram

module _ (b : Beginning) (most : ℕ) (old new : Parts) (past : List Record) (stands : StandsFor b most old past) (sender : Address) (at : ℕ)
    (bytes : List ℕ) (t : TakesDatagram sender bytes at (after_datagram old) new)
    (few : openings b.d (Received at (address_of sender) bytes ∷ past) ≤ 8) (has : HasSlots old) where
  abbrev mid : Parts
  mid = t.mid

  slots_same : mid.slots ≡ old.slots
  slots_same = ap (λ (p : Parts). p.slots) t.rest

  opened_more : openings b.d (Received at (address_of sender) bytes ∷ past)
      ≡ cond (opens b.d (Received at (address_of sender) bytes)) 1 0 + openings b.d past
  opened_more = count_more (opens b.d) (Received at (address_of sender) bytes) past

  -- there is room for one more
  opened_room : opens b.d (Received at (address_of sender) bytes) ≡ true → seat_count old.slots.slots < 8
  opened_room is =
      let within = fewer_within old.slots.slots old.seats.table.channels (λ n e. known_used (channel_at old.seats.table n) (has.slots n e)) in
      let used = has_opened b most old past stands in
      let one = one_or_none true (opens b.d (Received at (address_of sender) bytes)) (λ e. is) in
      let more = opened_more in
      omega (arith, within, used, one, more, few)

  replied_room : (seat : ℕ) → known_at old.seats.table seat ≡ false → is_some (channel_at old.seats.table seat) ≡ true
      → seat_count old.slots.slots < 8
  replied_room seat unknown there =
      let within = fewer_but old.slots.slots old.seats.table.channels seat
      (λ n e. known_used (channel_at old.seats.table n) (has.slots n e))
      (false_from_ne_true (is_some (since old.slots.slots seat)) (λ some. both_ways (known_at old.seats.table seat) unknown (has.slots seat some)))
      there in
      let used = has_opened b most old past stands in
      let more = opened_more in
      omega (arith, within, used, more, few)

  -- where nothing begins
  mid_idle : SameKnown old.seats.table mid.seats.table → ((n : ℕ) → owes_at mid.seats.seats n ≡ owes_at old.seats.seats n) → HasSlots mid
  mid_idle known owes = idle_after old mid (record { slots = slots_same; known = known; owes = owes }) has

  -- where a seat begins
  module _ (seat : ℕ) (k : BeginsAt seat old.seats.table mid.seats.table) (room : seat_count old.slots.slots < 8)
      (first : t.slot ≡ true → owes_at mid.seats.seats seat ≡ false)
      (others : (n : ℕ) → n ≢ seat → owes_at mid.seats.seats n ≡ owes_at old.seats.seats n) where
    slot_is : t.slot ≡ true
    slot_is = t.free ∙ lt-ltb (seat_count old.slots.slots) 8 room

    seated_is : seated t.slot seat mid.seats.moment mid.slots ≡ with_slot seat mid.seats.moment (without_seat seat old.slots)
    seated_is = ap (λ (x : Seating). seated t.slot seat mid.seats.moment x) slots_same
        ∙ cond-true (has_slot_for t.slot (without_seat seat old.slots)) (with_slot seat mid.seats.moment (without_seat seat old.slots))
        (with_place seat mid.seats.moment (without_seat seat old.slots))
        (and_from t.slot (nat_lt (seat_count (set old.slots.slots seat None)) 8) slot_is
        (lt-ltb (seat_count (set old.slots.slots seat None)) 8 (let fewer = no_more old.slots.slots seat in omega (arith, room, fewer))))

    by_slot : (n : ℕ) → (n ≡ seat) ⊎ (n ≡ seat → ⊥)
        → is_some (since (set (set old.slots.slots seat None) seat (Some mid.seats.moment)) n) ≡ true → known_at mid.seats.table n ≡ true
    by_slot n (inl here) e = ap (known_at mid.seats.table) here ∙ k.known
    by_slot n (inr ne) e = k.others n ne ∙ has.slots n (sym (ap is_some
        (get_or-set_other (set old.slots.slots seat None) seat n (Some mid.seats.moment) None ne
        ∙ get_or-set_other old.slots.slots seat n None None ne)) ∙ e)

    by_known : (n : ℕ) → (n ≡ seat) ⊎ (n ≡ seat → ⊥) → known_at mid.seats.table n ≡ true → owes_at mid.seats.seats n ≡ false
    by_known n (inl here) e = ap (owes_at mid.seats.seats) here ∙ first slot_is
    by_known n (inr ne) e = others n ne ∙ has.idle n (sym (k.others n ne) ∙ e)

    begins_idle : (is_reply : Bool) → HasSlots (with_channel is_reply seat bytes (with_seated t.slot seat mid))
    begins_idle is_reply = record {
      sized = (
        ap (λ (x : Seating). length x.slots) seated_is ∙ length-set (set old.slots.slots seat None) seat (Some mid.seats.moment)
            ∙ length-set old.slots.slots seat None ∙ has.sized.0,
        ap (λ (x : Seating). length x.waiting) seated_is ∙ length-set (set old.slots.waiting seat None) seat None
            ∙ length-set old.slots.waiting seat None ∙ has.sized.1,
      );
      waits = λ n. ap (λ (x : Seating). since x.waiting n) seated_is
          ∙ none_set (set old.slots.waiting seat None) seat n (none_set old.slots.waiting seat n (has.waits n));
      slots = λ n e. by_slot n (cases_eq n seat) (sym (ap (λ (x : Seating). is_some (since x.slots n)) seated_is) ∙ e);
      idle = λ n e. by_known n (cases_eq n seat) e;
    }

  arrival_idle : (result : Arrival) → Arrives b.d old.seats.table sender mid.seats.moment bytes result mid.seats.table
      → Prepares old.seats.descriptor t.slot result (record mid.seats { seats = old.seats.seats }) mid.seats
      → Knows result old.seats.table mid.seats.table → BeginsIdle t.slot result mid.seats → HearsArrival result sender bytes t.slot mid new
      → HasSlots new
  arrival_idle (arrivals.Opened seat next) a m k i h =
      reads_idle seat mid.seats.descriptor bytes next (with_channel false seat bytes (with_seated t.slot seat mid)) new h
      (begins_idle seat k
      (opened_room (opened_opens b.d old.seats.table mid.seats.table sender at mid.seats.moment bytes seat next a)) i
      (others_owe seat (Begins old.seats.descriptor t.slot) old.seats.seats (record mid.seats { seats = old.seats.seats }) mid.seats refl m) false)
  arrival_idle (arrivals.Replied seat) a m k i h =
      proven_idle sender false seat bytes (with_channel true seat bytes (with_seated t.slot seat mid)) new h
      (begins_idle seat k.0 (replied_room seat k.0.unknown k.1) i
      (others_owe seat (BeginsShown old.seats.descriptor t.slot) old.seats.seats (record mid.seats { seats = old.seats.seats }) mid.seats refl m)
      true)
  arrival_idle (arrivals.Heard seat) a m k i h =
      proven_idle sender _ seat bytes mid new h
      (mid_idle k (λ n. ap (λ (p : SeatsState). owes_at p.seats n) m.is
      ∙ owes_set old.seats.seats seat m.before m.after m.there (ap (λ (s : SeatState). s.owes) m.changes.exact) n))
  arrival_idle result a m k i h =
      idle_after mid new (stays_same mid new h) (mid_idle k (λ n. ap (λ (p : SeatsState). owes_at p.seats n) m))

  datagram_idle : HasSlots new
  datagram_idle =
      let a = subst (λ (e : Descriptor). Arrives e old.seats.table sender mid.seats.moment bytes t.arrival mid.seats.table) stands.seats.swarm
      t.arrives in
      arrival_idle t.arrival a t.makes
      (arrives_knows b.d old.seats.table sender mid.seats.moment bytes mid.seats.table stands.seats.standing.seated.are t.arrival a)
      (begins_idle_at old.seats.descriptor t.slot t.arrival (record mid.seats { seats = old.seats.seats }) mid.seats t.makes) t.hears

-- ---- an event

looked_owes : (moment : ℕ) (o : Option SeatState) → owes_in (option_map (looked_up moment) o) ≡ owes_in o
looked_owes moment None = refl
looked_owes moment (Some s) = refl

-- While at most eight datagrams opened a channel each keeps its slot, whatever comes.
pub absorbs_idle : (event : Event) (bytes : List ℕ) (old new : Parts) → (a : Absorbs event bytes old new) → IsEvent event bytes
    → (b : Beginning) (most : ℕ) (past : List Record) → StandsFor b most old past
    → openings b.d (record_of event bytes ∷ past) ≤ 8 → HasSlots old → HasSlots new
absorbs_idle event bytes old new a fits b most past stands few has =
    idle_after a.mid new (record {
      slots = ap (λ (p : Parts). p.slots) a.rest;
      known = λ n. ap (λ (p : Parts). known_at p.seats.table n) a.rest;
      owes = λ n. ap (λ (p : Parts). owes_at p.seats.seats n) a.rest
          ∙ ap owes_in (slice_get-map (looked_up a.mid.seats.moment) a.mid.seats.seats n)
          ∙ looked_owes a.mid.seats.moment (slice_get a.mid.seats.seats n);
    })
    (of event fits a.takes few)
  where
    of : (e : Event) → IsEvent e bytes → (takes : TakesEvent e bytes old a.mid) → openings b.d (record_of e bytes ∷ past) ≤ 8 → HasSlots a.mid
    of (events.Datagram sender len at) fits takes few = datagram_idle b most old a.mid past stands sender at bytes takes
        (subst (λ (r : Record). openings b.d (r ∷ past) ≤ 8) (datagram_is (events.Datagram sender len at) bytes sender len at refl fits) few)
        has
    of (events.Quiet at) fits takes few = idle_after old a.mid (record {
      slots = ap (λ (p : Parts). p.slots) takes;
      known = λ n. ap (λ (p : Parts). known_at p.seats.table n) takes;
      owes = λ n. ap (λ (p : Parts). owes_at p.seats.seats n) takes;
    }) has
