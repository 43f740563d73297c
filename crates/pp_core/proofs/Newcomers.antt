-- A newcomer's datagram opens a channel, on which this peer's handshake is due.
use Rattle.std.proofs.Common.{◌≡◌, ⊎_elim, ℕ, ◌-◌, ◌<◌, ◌≤◌, eqb, ltb, Bool, true, false, ◌&&◌, ◌||◌, not, Option, Some, None, List, [], ◌∷◌, length, take, drop, refl, sym, ◌∙◌, ap, subst, arith}
use Rattle.std.specs.Prelude.{is_none, position}
use Rattle.std.specs.Int.{w32, from_be_bytes}
use Rattle.std.specs.List.{list_any}
use Rattle.std.proofs.lemmas.Bool.{cases_lt, both_ways, false≢true, and_parts, not-true, eqb-true, ltb-true, lt-leb}
use Rattle.std.proofs.lemmas.List.Quantifiers.{position-Some}
use Rattle.pp_terms.specs.format.Traffic as traffic
use Rattle.pp_terms.specs.format.Traffic.{Record, Received, same_address}
use Rattle.pp_terms.specs.format.Descriptor.{Descriptor}
use Rattle.pp_terms.specs.format.Messages.{Message, Handshake, WireKind, Messages}
use Rattle.pp_terms.proofs.MovedSteps.{channel_none}
use Rattle.pp_traffic.specs.Past.{read, is_number}
use Rattle.pp_traffic.specs.Life.{begins, closes, fits}
use Rattle.pp_traffic.specs.Plain.{is_handshake, concerns}
use Rattle.pp_traffic.specs.Prompt.{knocks, first_source, knocks_in, knocks_once}
use Rattle.pp_promises.specs.Answered.{openings, is_newcomer}
use Rattle.pp_outside.specs.Arrivals.{IsEvent}
use Rattle.pp_outside.specs.Outside.{address_of, record_of}
use Rattle.pp_outside.specs.declared.link.Address.{Address}
use Rattle.pp_outside.specs.declared.link.Event.{Event}
use Rattle.pp_outside.specs.declared.link.Event.TheVariants as events
use Rattle.pp_channels.specs.Seats.{Seats, channel_at, free_seat, has_remote, is_source, answered, with_channel}
use Rattle.pp_channels.specs.Timing.{handshake_due}
use Rattle.pp_channels.specs.declared.channel.Channel.{Channel}
use Rattle.pp_lives.specs.Arriving.{contents, is_unwelcome, Greets, Arrives}
use Rattle.pp_lives.specs.declared.arriving.Arrival.{Arrival}
use Rattle.pp_lives.specs.declared.arriving.Arrival.TheVariants as arrivals
use Rattle.pp_lives.proofs.Arrivals.{number_read, contents_read, there_of}
use Rattle.pp_lives.proofs.Changing.{IsMade, made_is}
use Rattle.pp_lives.proofs.Plainly.{fitting_source}
use Rattle.pp_lives.proofs.Sent.{same_is}
use Rattle.pp_peer.specs.declared.parts.Parts.{Parts}
use Rattle.pp_peer.specs.Standing.{Beginning, setting, StandsFor}
use Rattle.pp_peer.specs.Taking.{read_at}
use Rattle.pp_peer.specs.Messages.{before_close, ReadsAll}
use Rattle.pp_peer.specs.Events.{with_channel as with_made, with_seated, HearsArrival, TakesDatagram, after_datagram, Absorbs}
use Rattle.pp_peer.proofs.Arrived.{datagram_is}
use Rattle.pp_core.specs.Telling.{end_of, IsLasting}
use Rattle.pp_core.proofs.Openings.{has_opened, free_there}
use Rattle.pp_core.proofs.Seen.{channel_seen, seen_concerns}
use Rattle.pp_core.proofs.Unturned.{KeepsTurns, keeps_by, keeps_twice, turn_keeps}

-- ---- a newcomer

-- A datagram for channel 0 begins with a handshake that fits and has no other. No record concerns its sender, and fewer than 64
-- datagrams opened a channel.
pub record IsNewcomer (d : Descriptor) (sender : traffic.Address) (bytes : List ℕ) (past : List Record) : Type 0 where
  pub long : 4 ≤ length bytes
  pub for_zero : from_be_bytes w32 (take 4 bytes) ≡ 0
  pub knock : knocks d (contents d bytes).read ≡ true
  pub once : list_any is_handshake (drop 1 (contents d bytes).read) ≡ false
  pub fresh : list_any (concerns sender) past ≡ false
  pub few : openings d past < 64

newcomer_is : (d : Descriptor) (at : ℕ) (sender : traffic.Address) (bytes : List ℕ) (past : List Record)
    → is_newcomer d (Received at sender bytes) past ≡ true → IsNewcomer d sender bytes past
newcomer_is d at sender bytes past e =
    let r : Record = Received at sender bytes in
    let few = and_parts (knocks_in d r && knocks_once d r && not (list_any (concerns sender) past)) (ltb (openings d past) 64) e in
    let fresh = and_parts (knocks_in d r && knocks_once d r) (not (list_any (concerns sender) past)) few.0 in
    let once = and_parts (knocks_in d r) (knocks_once d r) fresh.0 in
    let first = and_parts (is_number 0 (read d r).channel) (knocks d (read d r).messages.read) once.0 in
    ⊎_elim
    (λ short. absurd (both_ways (is_number 0 (read d r).channel) (ap (is_number 0) (channel_none d bytes short)) first.0))
    (λ long. record {
      long = long;
      for_zero = eqb-true (from_be_bytes w32 (take 4 bytes)) 0 (sym (ap (is_number 0) (number_read d r bytes refl long)) ∙ first.0);
      knock = ap (λ (m : Messages). knocks d m.read) (sym (contents_read d bytes long)) ∙ first.1;
      once = ap (λ (m : Messages). list_any is_handshake (drop 1 m.read)) (sym (contents_read d bytes long))
          ∙ not-true (list_any is_handshake (drop 1 (read d r).messages.read)) once.1;
      fresh = not-true (list_any (concerns sender) past) fresh.1;
      few = ltb-true (openings d past) 64 few.1;
    })
    (cases_lt (length bytes) 4)

-- ---- its handshake is welcome

knock_begins : (d : Descriptor) (ms : List Message) → knocks d ms ≡ true → begins ms ≡ true
knock_begins d [] e = absurd (false≢true e)
knock_begins d (Handshake source options ∷ ms) e = refl
knock_begins d (_ ∷ ms) e = absurd (false≢true e)

fitting_welcome : (fitting closing : Bool) → fitting ≡ true → closing ≡ false → (false || not fitting || closing) ≡ false
fitting_welcome true false f c = refl
fitting_welcome true true f c = absurd (false≢true (sym c))
fitting_welcome false closing f c = absurd (false≢true f)

knock_welcome : (d : Descriptor) (fault : Option (ℕ × WireKind)) (ms : List Message) → knocks d ms ≡ true
    → is_unwelcome d (record { read = ms; fault = fault }) ≡ false
knock_welcome d fault [] e = absurd (false≢true e)
knock_welcome d None (Handshake source options ∷ ms) e =
    let parts = and_parts (fits d false options) (not (eqb source 0)) e in
    fitting_welcome (fits d false options) (eqb source 0) parts.0 (not-true (eqb source 0) parts.1)
knock_welcome d (Some (place, kind)) (Handshake source options ∷ ms) e =
    let parts = and_parts (fits d false options) (not (eqb source 0)) e in
    fitting_welcome (fits d false options) (eqb source 0) parts.0 (not-true (eqb source 0) parts.1)
knock_welcome d fault (_ ∷ ms) e = absurd (false≢true e)

-- ---- it opens a channel

-- A channel was made at a free seat, for the sender and its number, and the messages behind the first are to be read there.
pub record IsOpened (d : Descriptor) (t : Seats) (sender : Address) (now : ℕ) (bytes : List ℕ) (result : Arrival) (new : Seats) : Type 0 where
  pub seat : ℕ
  pub next : ℕ
  pub is : result ≡ arrivals.Opened seat next
  pub free : free_seat t ≡ Some seat
  pub source : ℕ
  pub source_is : source ≡ first_source (contents d bytes).read
  pub made : new ≡ with_channel (answered sender source now) t
  pub behind : read_at d bytes next ≡ drop 1 (contents d bytes).read

module _ (d : Descriptor) (t : Seats) (sender : Address) (now : ℕ) (bytes : List ℕ) (new : Seats)
    (apart : (seat : ℕ) (c : Channel) → channel_at t seat ≡ Some c → address_of c.address ≡ address_of sender → ⊥)
    (room : (k : ℕ) × (free_seat t ≡ Some k) × (k < 64)) (knock : knocks d (contents d bytes).read ≡ true) where
  no_source : (source k : ℕ) → position (is_source sender source) t.channels ≡ Some k → ⊥
  no_source source k e =
      let passes = (position-Some (is_source sender source) t.channels k None e).1 in
      let c = there_of (is_source sender source) (channel_at t k) refl passes in
      let parts = and_parts (has_remote source c.0.remote) (same_address (address_of c.0.address) (address_of sender))
      (ap (is_source sender source) (sym c.1) ∙ passes) in
      apart k c.0 c.1 (same_is (address_of c.0.address) (address_of sender) parts.1)

  greeted_opens : (result : Arrival) → Greets d t sender now bytes result new → IsOpened d t sender now bytes result new
  greeted_opens arrivals.NoGreeting g =
      absurd (both_ways (begins (contents d bytes).read) g.1 (knock_begins d (contents d bytes).read knock))
  greeted_opens arrivals.Unwelcome g =
      absurd (both_ways (is_unwelcome d (contents d bytes)) (knock_welcome d (contents d bytes).fault (contents d bytes).read knock) g.0)
  greeted_opens arrivals.Unseated g = absurd (let x : None ≡ Some room.0 = sym g.does.1 ∙ room.1 in cc)
  greeted_opens (arrivals.Opened seat next) g = record {
    seat = seat;
    next = next;
    is = refl;
    free = g.does.1;
    source = g.source;
    source_is = fitting_source d false g.source (contents d bytes).read g.fitting;
    made = g.does.3;
    behind = ap (read_at d bytes) g.does.2 ∙ ap (λ (m : Messages). m.read) g.behind;
  }
  greeted_opens result g = absurd (no_source g.source g.does.0 g.does.1)

  arrival_opens : (result : Arrival) → 4 ≤ length bytes → from_be_bytes w32 (take 4 bytes) ≡ 0 → Arrives d t sender now bytes result new
      → IsOpened d t sender now bytes result new
  arrival_opens arrivals.Short long for_zero a = absurd (omega (arith, long, a.0))
  arrival_opens result long for_zero a = greeted_opens result (a.zero for_zero)

-- ---- what is heard behind the handshake

no_closing : (ms : List Message) → list_any is_handshake ms ≡ false → closes ms ≡ false
no_closing [] e = refl
no_closing (Handshake source options ∷ ms) e = absurd (false≢true (sym e))
no_closing (_ ∷ ms) e = no_closing ms e

-- messages that close nothing leave the channels and the slots as they are
read_keeps : (seat : ℕ) (d : Descriptor) (bytes : List ℕ) (start : ℕ) (old new : Parts) → ReadsAll seat d bytes start old new
    → closes (read_at d bytes start) ≡ false → KeepsTurns old new
read_keeps seat d bytes start old new r none = keeps_twice old r.mid new
    (turn_keeps seat (before_close (read_at d bytes start)) old r.mid r.in_turn)
    (keeps_by r.mid new (ap (λ (p : Parts). p.seats) (r.stays none)) (ap (λ (p : Parts). p.slots) (r.stays none)))

-- ---- the whole

-- A seat has the channel that a newcomer's datagram opened; its time isn't over, and this peer's handshake is due there, to the number that
-- the newcomer gave.
pub record HasEntered (d : Descriptor) (sender : Address) (bytes : List ℕ) (p : Parts) : Type 0 where
  pub seat : ℕ
  pub channel : Channel
  pub lasting : IsLasting seat channel p
  pub due : handshake_due p.seats.moment channel ≡ true
  pub address : channel.address ≡ sender
  pub number : (end_of channel).number ≡ first_source (contents d bytes).read

module _ (b : Beginning) (most : ℕ) (old new : Parts) (past : List Record) (stands : StandsFor b most old past) (sender : Address)
    (len at : ℕ) (bytes : List ℕ) (a : Absorbs (events.Datagram sender len at) bytes old new)
    (n : IsNewcomer b.d (address_of sender) bytes past) where
  abbrev t : TakesDatagram sender bytes at (after_datagram old) a.mid
  t = a.takes

  abbrev now : ℕ
  now = t.mid.seats.moment

  opened : IsOpened b.d old.seats.table sender now bytes t.arrival t.mid.seats.table
  opened = arrival_opens b.d old.seats.table sender now bytes t.mid.seats.table
      (λ seat c there same. both_ways (list_any (concerns (address_of sender)) past) n.fresh
      (subst (λ (x : traffic.Address). list_any (concerns x) past ≡ true) same
      (seen_concerns b.d (address_of c.address) past
      (channel_seen (setting b stands.known_of) most old.seats past stands.seats seat c there))))
      (free_there old.seats.table stands.seats.standing.seated.are.seats
      (let used = has_opened b most old past stands in let few = n.few in omega (arith, used, few)))
      n.knock t.arrival n.long n.for_zero
      (subst (λ (e : Descriptor). Arrives e old.seats.table sender now bytes t.arrival t.mid.seats.table) stands.seats.swarm t.arrives)

  abbrev seat : ℕ
  seat = opened.seat

  made : IsMade old.seats.table t.mid.seats.table seat (answered sender opened.source now)
  made = subst (λ (x : Seats). IsMade old.seats.table x seat (answered sender opened.source now)) (sym opened.made)
      (made_is old.seats.table seat (answered sender opened.source now) (λ number. refl) stands.seats.standing.seated.are opened.free)

  abbrev channel : Channel
  channel = answered sender opened.source now made.number

  kept : KeepsTurns (with_made false seat bytes (with_seated t.slot seat t.mid)) a.mid
  kept = read_keeps seat t.mid.seats.descriptor bytes opened.next (with_made false seat bytes (with_seated t.slot seat t.mid)) a.mid
      (subst (λ (x : Arrival). HearsArrival x sender bytes t.slot t.mid a.mid) opened.is t.hears)
      (ap (λ (e : Descriptor). closes (read_at e bytes opened.next)) (t.swarm ∙ stands.seats.swarm) ∙ ap closes opened.behind
      ∙ no_closing (drop 1 (contents b.d bytes).read) n.once)

  there : channel_at new.seats.table seat ≡ Some channel
  there = ap (λ (p : Parts). channel_at p.seats.table seat) a.rest ∙ ap (λ (x : Seats). channel_at x seat) kept.table ∙ made.change.there

  moment : new.seats.moment ≡ now
  moment = ap (λ (p : Parts). p.seats.moment) a.rest ∙ kept.moment

  enters : HasEntered b.d sender bytes new
  enters = record {
    seat = seat;
    channel = channel;
    lasting = record {
      below = (let lt = (position-Some is_none old.seats.table.channels seat None opened.free).0 in
          let size = stands.seats.standing.seated.are.seats in
          omega (arith, lt, size));
      there = there;
      lasts = lt-leb 10000000 (new.seats.moment - now) (let same = moment in omega (arith, same));
    };
    due = refl;
    address = refl;
    number = opened.source_is;
  }

-- ---- an event

-- The record is a newcomer's datagram, for whose sender the channel is there, with a handshake due.
pub record IsEntry (d : Descriptor) (r : Record) (past : List Record) (p : Parts) : Type 0 where
  pub sender : Address
  pub at : ℕ
  pub bytes : List ℕ
  pub is : r ≡ Received at (address_of sender) bytes
  pub newcomer : IsNewcomer d (address_of sender) bytes past
  pub entered : HasEntered d sender bytes p

-- Each newcomer's is.
abbrev pub LetsEnter : Descriptor → Record → List Record → Parts → Type 0
LetsEnter d r past p = is_newcomer d r past ≡ true → IsEntry d r past p

pub absorbs_enters : (event : Event) (bytes : List ℕ) (old new : Parts) → Absorbs event bytes old new → IsEvent event bytes → (b : Beginning)
    (most : ℕ) (past : List Record) → StandsFor b most old past → LetsEnter b.d (record_of event bytes) past new
absorbs_enters (events.Quiet at) bytes old new a fits b most past stands e = absurd (false≢true e)
absorbs_enters (events.Datagram sender len at) bytes old new a fits b most past stands e =
    let is = datagram_is (events.Datagram sender len at) bytes sender len at refl fits in
    let n = newcomer_is b.d at (address_of sender) bytes past (subst (λ (r : Record). is_newcomer b.d r past ≡ true) is e) in
    record {
      sender = sender;
      at = at;
      bytes = bytes;
      is = is;
      newcomer = n;
      entered = enters b most old new past stands sender len at bytes a n;
    }
