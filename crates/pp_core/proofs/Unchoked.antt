-- While every channel has an upload slot no CHOKE goes.
use Rattle.std.proofs.Common.{◌≡◌, ◌≢◌, ◌⊎◌, inl, inr, ⊎_elim, ℕ, zero, suc, ◌≤◌, Bool, true, false, cond, ◌&&◌, ◌||◌, not, Option, Some, None, List, [], ◌∷◌, ◌++◌, length, refl, sym, ◌∙◌, ap, subst, arith}
use Rattle.std.specs.Prelude.{MatchBool, is_some, is_none, nat_lt}
use Rattle.std.specs.List.{AllByRecursion, list_any, slice_get}
use Rattle.std.proofs.Math.ListN.{set}
use Rattle.std.proofs.lemmas.Bool.{cases_eq, cases_lt, both_ways, false≢true}
use Rattle.std.proofs.lemmas.List.{get_or_past}
use Rattle.std.proofs.lemmas.List.Quantifiers.{position-Some}
use Rattle.std.proofs.lemmas.Option.{same_Some}
use Rattle.pp_terms.specs.disk.Disk.{DiskState, moment_of}
use Rattle.pp_terms.specs.format.Descriptor.{Descriptor}
use Rattle.pp_terms.specs.format.Messages as plain
use Rattle.pp_terms.specs.format.Traffic.{Record, LinkState}
use Rattle.pp_terms.specs.tree.Range.{Span}
use Rattle.pp_promises.specs.Answered.{is_choke, ChokesNone}
use Rattle.pp_outside.specs.Arrivals.{IsEvent}
use Rattle.pp_outside.specs.Outside.{address_of, record_of}
use Rattle.pp_outside.specs.declared.link.Address.{Address}
use Rattle.pp_outside.specs.declared.link.Event.{Event}
use Rattle.pp_outside.specs.declared.link.Event.TheVariants as events
use Rattle.pp_requests.specs.Seats.{since}
use Rattle.pp_channels.specs.Seats.{Seats, at_seat, channel_at, used_of, changed, closed, dialled, free_seat, with_channel_at, with_handshake}
use Rattle.pp_channels.specs.Timing.{is_greeted}
use Rattle.pp_channels.specs.declared.channel.Channel.{Channel}
use Rattle.pp_lives.specs.Fars.{far_of}
use Rattle.pp_lives.specs.Reading.{is_waiting}
use Rattle.pp_lives.specs.Sending.{with_datagram}
use Rattle.pp_lives.specs.declared.lives.Far.{Far}
use Rattle.pp_lives.proofs.Edits.{still_opened}
use Rattle.pp_draft.specs.Datagrams.{IsDatagram}
use Rattle.pp_draft.specs.Notes.{no_options}
use Rattle.pp_agenda.specs.Laws.{is_choke as is_choke_note, is_choke_due}
use Rattle.pp_agenda.proofs.Agreeing.{chokes_where_due}
use Rattle.pp_avail.specs.declared.ranker.Rank.{Rank}
use Rattle.pp_seat.specs.Seats.{SeatState}
use Rattle.pp_seat.specs.Turns.{due_turn}
use Rattle.pp_seat.specs.declared.service.Turn.{Turn}
use Rattle.pp_seat.specs.declared.service.Turn.TheVariants as turns
use Rattle.pp_desk.specs.Delivers.{none_delivered}
use Rattle.pp_seats.specs.Greeting.{with_dial}
use Rattle.pp_seats.specs.Sending.{with_sent, opening_at, way_of, Speaks}
use Rattle.pp_seats.specs.Standing.{SeatsState}
use Rattle.pp_seats.specs.Turning.{Rewinds}
use Rattle.pp_peer.specs.declared.dialling.Dial.{Dial}
use Rattle.pp_peer.specs.declared.dialling.DialState.{DialState}
use Rattle.pp_peer.specs.declared.dialling.DialState.TheVariants.{Seated}
use Rattle.pp_peer.specs.declared.parts.Parts.{Parts}
use Rattle.pp_peer.specs.declared.speaking.Speaker.{Speaker}
use Rattle.pp_peer.specs.Delivering.{IsServedAt, IsWritten}
use Rattle.pp_peer.specs.Dialling.{Tries, has_channel, is_due, noticed, after_dial, StepsDial, DialsEach, with_queue, DialsSuggested, DialsAll}
use Rattle.pp_peer.specs.Events.{Absorbs}
use Rattle.pp_peer.specs.Flushing.{Scene}
use Rattle.pp_peer.specs.Greeting.{IsGreeted, IsUntouched, Drops, LetsGoAt, GivesUp, IsFarewell}
use Rattle.pp_peer.specs.Sending.{SendsAll}
use Rattle.pp_peer.specs.Slotting.{GrantsInTurn, TurnsLongest, TurnsNone, TurnsSlots}
use Rattle.pp_peer.specs.Speaking.{SetsBackTo, SpeaksTo, was_choked, AttendsTo, SpeaksOn, TurnsIf, TurnsTo, TurnsBelow}
use Rattle.pp_peer.specs.Standing.{Beginning, StandsFor}
use Rattle.pp_core.specs.Remembering.{known_in, known_at, owes_in, owes_at, HasSlots, IsChokeless, StaysUnchoked}
use Rattle.pp_core.specs.Opening.{HasBegun}
use Rattle.pp_core.specs.Peers.{PeerState}
use Rattle.pp_core.specs.Turning.{scene, Sends, Closes, after_refusal, with_limit}
use Rattle.pp_core.proofs.Before.{made_there, closed_there}
use Rattle.pp_core.proofs.Chokeless.{chokeless_twice, all_chokeless, choke_test, notes_none, goes_owes}
use Rattle.pp_core.proofs.Idling.{StaysIdle, stays_by, stays_same, stays_twice, idle_after, begun_idle, closed_unknown, absorbs_idle}
use Rattle.pp_core.proofs.Knowing.{far_known, stays_known, SameKnown, known_changed}
use Rattle.pp_core.proofs.Openings.{openings_twice}
use Rattle.pp_core.proofs.Saying.{IsUnsaid, flush_says_none}
use Rattle.pp_core.proofs.Unsaid.{IsNotRead, none_read}
use Rattle.pp_core.proofs.Unturned.{owes_set}

-- ---- channels on which something went

known_datagram : (t : Seats) (k : ℕ) (opens : Bool) (now : ℕ) → SameKnown t (with_datagram t k opens now)
known_datagram t k true now n =
    known_changed (changed t k (λ c. record c { wrote = now })) k (λ c. record c { opening = with_handshake c.opening })
    (λ c there. ap (λ (b : Bool). b && is_greeted c.state) (still_opened c.opening)) n
    ∙ known_changed t k (λ c. record c { wrote = now }) (λ c there. refl) n
known_datagram t k false now n = known_changed t k (λ c. record c { wrote = now }) (λ c there. refl) n

known_sent : (t : Seats) (k : ℕ) (opens : Bool) (sent now : ℕ) → SameKnown t (with_sent t k opens sent now)
known_sent t k opens sent now n = of (nat_lt 0 sent)
  where
    of : (b : Bool) → known_at (cond b (with_datagram t k opens now) t) n ≡ known_at t n
    of true = known_datagram t k opens now n
    of false = refl

-- ---- a handshake alone

greeted_stays : (k moment : ℕ) (sent : Bool) (old new : Parts) (link later : LinkState) → IsGreeted k moment sent old new link later
    → StaysIdle old new
greeted_stays k moment true old new link later g = record {
  slots = ap (λ (p : Parts). p.slots) g.rest;
  known = λ n. ap (λ (p : SeatsState). known_at p.table n) g.greets.is ∙ known_datagram old.seats.table k true old.seats.moment n;
  owes = λ n. ap (λ (p : SeatsState). owes_at p.seats n) g.greets.is;
}
greeted_stays k moment false old new link later (inl g) =
    stays_by old new (ap (λ (p : Parts). p.seats) g.rest) (ap (λ (p : Parts). p.slots) g.rest)
greeted_stays k moment false old new link later (inr g) = stays_same old new g.same

-- ---- what is said on a channel

due_none : (s : SeatState) → s.owes ≡ false → due_turn s ≡ None
due_none s idle = ap (λ (b : Bool). cond b (cond (s.slot || not s.choked) (Some turns.Choke) (Some turns.Unchoke)) None) idle

unattended : (before after : Option Turn) → before ≡ None → was_choked before after ≡ false
unattended None after e = refl
unattended (Some turn) after e = absurd cc

not_attended : (k : ℕ) (b : Bool) (old new : Parts) → b ≡ false → AttendsTo b k old new → new ≡ old
not_attended k true old new e a = absurd (false≢true (sym e))
not_attended k false old new e a = a

rewinds_stays : (k to : ℕ) (old new : Parts) → Rewinds k to old.seats new.seats → new ≡ record old { seats = new.seats } → StaysIdle old new
rewinds_stays k to old new r rest = record {
  slots = ap (λ (p : Parts). p.slots) rest;
  known = λ n. ap (λ (p : SeatsState). known_at p.table n) r.is;
  owes = λ n. ap (λ (p : SeatsState). owes_at p.seats n) r.is
      ∙ owes_set old.seats.seats k r.before r.after r.there (ap (λ (s : SeatState). s.owes) r.exact) n;
}

back_stays : (k : ℕ) (proven greets : Bool) (news : List Span) (old new : Parts) → SetsBackTo proven greets news k old new → StaysIdle old new
back_stays k true greets news old new s = stays_same old new s
back_stays k false true news old new s = rewinds_stays k 0 old new s.0 s.1
back_stays k false false [] old new s = stays_same old new s
back_stays k false false (x ∷ xs) old new s = rewinds_stays k x.first old new s.0 s.1

module _ (k : ℕ) (far : Far) (greets : Bool) (refused : ℕ) (speaker left : Speaker) (a b : Scene)
    (s : SpeaksOn (record { seat = k; far = far; greets = greets }) refused speaker left a b) (has : HasSlots a.parts) where
  abbrev speech : SpeaksTo (record { seat = k; far = far; greets = greets }) refused speaker left (record a { parts = s.back })
      (record b { parts = s.said })
  speech = s.speaks

  abbrev sp : Speaks k left.agenda (moment_of a.disk.history) speech.delivered speech.picked.seats speech.said.seats a.link b.link
  sp = speech.says.speaks

  back : StaysIdle a.parts s.back
  back = back_stays k s.sets_back.known.proven greets speaker.news.ranges a.parts s.back s.sets_back.sets

  picked : StaysIdle a.parts speech.picked
  picked = stays_twice a.parts s.back speech.picked back
      (stays_by s.back speech.picked (ap (λ (p : Parts). p.seats) speech.are_picked.rest) (ap (λ (p : Parts). p.slots) speech.are_picked.rest))

  known : known_at a.parts.seats.table k ≡ true
  known = sym (picked.known k) ∙ far_known (channel_at speech.picked.seats.table k) sp.far sp.is_far

  before_idle : sp.before.owes ≡ false
  before_idle = sym (ap owes_in sp.there) ∙ picked.owes k ∙ has.idle k known

  fills_idle : speech.fills.known.owes ≡ false
  fills_idle = ap (λ (x : SeatState). x.owes) (sym (same_Some sp.before speech.fills.known (sym sp.there ∙ speech.fills.there))) ∙ before_idle

  none_noted : list_any is_choke_note left.agenda ≡ false
  none_noted = (chokes_where_due speech.fills.known speech.fills.due left.agenda speech.fills.agenda).chokes
      ∙ ap is_choke_due (due_none speech.fills.known fills_idle)

  after_idle : sp.after.owes ≡ false
  after_idle = goes_owes (opening_at speech.picked.seats k) (way_of speech.picked.seats sp.far (moment_of a.disk.history)) left.agenda
      (record { seat = sp.before; link = a.link; so_far = none_delivered })
      (record { seat = sp.after; link = b.link; so_far = speech.delivered }) sp.goes before_idle

  said : StaysIdle speech.picked speech.said
  said = record {
    slots = ap (λ (p : Parts). p.slots) speech.says.rest;
    known = λ n. ap (λ (p : SeatsState). known_at p.table n) sp.is
        ∙ known_sent speech.picked.seats.table k (is_some (opening_at speech.picked.seats k)) speech.delivered.sent speech.picked.seats.moment n;
    owes = λ n. ap (λ (p : SeatsState). owes_at p.seats n) sp.is
        ∙ owes_set speech.picked.seats.seats k sp.before sp.after sp.there (after_idle ∙ sym before_idle) n;
  }

  settled : StaysIdle speech.said s.said
  settled = stays_by speech.said s.said (ap (λ (p : Parts). p.seats) speech.settles.rest) (ap (λ (p : Parts). p.slots) speech.settles.rest)

  was_idle : s.known.owes ≡ false
  was_idle = sym (ap owes_in s.there) ∙ back.owes k ∙ has.idle k known

  still : b.parts ≡ s.said
  still = not_attended k _ s.said b.parts (unattended (due_turn s.known) (due_turn s.attends.known) (due_none s.known was_idle)) s.attends.attends

  spoken_stays : StaysIdle a.parts b.parts
  spoken_stays = stays_twice a.parts speech.picked b.parts picked (stays_twice speech.picked speech.said b.parts said
      (stays_twice speech.said s.said b.parts settled (stays_same s.said b.parts still)))

-- ---- the turns of all seats

turn_stays : (k refused : ℕ) (speaker left : Speaker) (a b : Scene) → TurnsTo k refused speaker left a b → HasSlots a.parts
    → StaysIdle a.parts b.parts
turn_stays k refused speaker left a b t has = of (far_of (channel_at a.parts.seats.table k)) t
  where
    of : (o : Option Far) → TurnsIf o k refused speaker left a b → StaysIdle a.parts b.parts
    of None g = greeted_stays k (moment_of a.disk.history) g.greeted a.parts b.parts a.link b.link g.greets
    of (Some far) (inl n) = stays_same a.parts b.parts n.silent.parts
    of (Some far) (inr s) = spoken_stays k far s.0 refused speaker left a b s.1 has

turns_stay : (n refused : ℕ) (speaker left : Speaker) (a b : Scene) → TurnsBelow n refused speaker left a b → HasSlots a.parts
    → StaysIdle a.parts b.parts
unfolding TurnsBelow
turns_stay zero refused speaker left a b t has = stays_same a.parts b.parts t.parts
turns_stay (suc k) refused speaker left a b t has =
    let one = turns_stay k t.0 speaker t.2 a t.3 t.4 has in
    stays_twice a.parts t.3.parts b.parts one (turn_stays k t.1 t.2 left t.3 b t.5 (idle_after a.parts t.3.parts one has))

-- no CHOKE is said meanwhile
none_choked : (d : Descriptor) → IsUnsaid d (list_any is_choke) HasSlots
none_choked d = record {
  kept = λ seat refused speaker left a b turn has. idle_after a.parts b.parts (turn_stays seat refused speaker left a b turn has) has;
  notes = λ seat refused far greets speaker left a b s has. notes_none d left.agenda (none_noted seat far greets refused speaker left a b s has);
}

-- where no seat waits no slot changes hands
none_turned : (old new : Parts) → HasSlots old → TurnsSlots old new → new ≡ old
none_turned old new has t = granted t.grants.0 t.grants.1 (first t.turned) ∙ first t.turned
  where
    first : TurnsLongest old t.mid ⊎ TurnsNone old t.mid → t.mid ≡ old
    first (inl l) = let w = l.due.waits in absurd (let x : None ≡ Some w.1 = sym (has.waits w.0) ∙ w.2 in cc)
    first (inr n) = n.same

    granted : (seats : List ℕ) → GrantsInTurn seats t.mid new → t.mid ≡ old → new ≡ t.mid
    granted [] g same = g.0
    granted (seat ∷ seats) g same = absurd (let x : None ≡ Some g.1.longest.moment =
        sym (ap (λ (p : Parts). since p.slots.waiting seat) same ∙ has.waits seat) ∙ g.1.longest.is_there in cc)

-- ---- what goes before

lets_owe : (now : ℕ) (o p : Option SeatState) → LetsGoAt now o p → owes_in p ≡ owes_in o
lets_owe now None p l = ap owes_in l
lets_owe now (Some s) p l = ap owes_in l.1 ∙ ap (λ (x : SeatState). x.owes) l.2.rest

gives_stays : (old new : Parts) → GivesUp old new → StaysIdle old new
gives_stays old new g = record {
  slots = ap (λ (p : Parts). p.slots) g.rest;
  known = λ n. ap (λ (p : Parts). known_at p.seats.table n) g.rest;
  owes = λ n. lets_owe old.seats.moment (slice_get old.seats.seats n) (slice_get new.seats.seats n) (g.each n);
}

-- no seat past the 64 has a channel
past_none : (t : Seats) (n : ℕ) → length t.channels ≡ 64 → 64 ≤ n → known_at t n ≡ false
past_none t n size high = ap known_in (get_or_past t.channels n None (omega (arith, size, high)))

-- Seats keep their slots while others are dropped.
module _ (old new : Parts) (d : Drops old new) (has : HasSlots old) (seats : length new.seats.table.channels ≡ 64) where
  sizes : (length new.slots.slots ≡ 64) × (length new.slots.waiting ≡ 64)
  sizes = (d.sizes.0 ∙ has.sized.0, d.sizes.1 ∙ has.sized.1)

  drop_waits : (n : ℕ) → since new.slots.waiting n ≡ None
  drop_waits n = ⊎_elim
      (λ low. ⊎_elim (λ (u : IsUntouched n old new). u.waits ∙ has.waits n) (λ over. over.1.waits) (d.each n low))
      (λ high. get_or_past new.slots.waiting n None (let size = sizes.1 in omega (arith, size, high)))
      (cases_lt n 64)

  drop_slots : (n : ℕ) → is_some (since new.slots.slots n) ≡ true → known_at new.seats.table n ≡ true
  drop_slots n e = ⊎_elim
      (λ low. ⊎_elim
      (λ (u : IsUntouched n old new). stays_known (channel_at old.seats.table n) (channel_at new.seats.table n) u.channel
      ∙ has.slots n (sym (ap is_some u.slot) ∙ e))
      (λ over. absurd (both_ways (is_some (since new.slots.slots n)) (ap is_some over.1.slot) e))
      (d.each n low))
      (λ high. absurd (both_ways (is_some (since new.slots.slots n))
      (ap is_some (get_or_past new.slots.slots n None (let size = sizes.0 in omega (arith, size, high)))) e))
      (cases_lt n 64)

  drop_idle : (n : ℕ) → known_at new.seats.table n ≡ true → owes_at new.seats.seats n ≡ false
  drop_idle n e = ⊎_elim
      (λ low. ⊎_elim
      (λ (u : IsUntouched n old new). ap owes_in u.messages
      ∙ has.idle n (sym (stays_known (channel_at old.seats.table n) (channel_at new.seats.table n) u.channel) ∙ e))
      (λ over. absurd (both_ways (known_at new.seats.table n) (ap known_in over.1.channel) e))
      (d.each n low))
      (λ high. absurd (both_ways (known_at new.seats.table n) (past_none new.seats.table n seats high) e))
      (cases_lt n 64)

  drops_idle : HasSlots new
  drops_idle = record { sized = sizes; waits = drop_waits; slots = drop_slots; idle = drop_idle }

-- ---- dials

set_unknown : (xs : List (Option Channel)) (k : ℕ) (c : Channel) → is_waiting c ≡ true → known_in (at_seat (set xs k (Some c)) k) ≡ false
set_unknown [] k c waits = refl
set_unknown (x ∷ xs) zero c waits = ap not waits
set_unknown (x ∷ xs) (suc k) c waits = set_unknown xs k c waits

none_unknown : (o : Option Channel) → is_none o ≡ true → known_in o ≡ false
none_unknown None e = refl
none_unknown (Some c) e = absurd (false≢true e)

module _ (to : Address) (old : SeatsState) (k : ℕ) (free : free_seat old.table ≡ Some k) where
  made : with_dial to old ≡ with_channel_at (Some k) (dialled to old.moment) old.table
  made = ap (λ (o : Option ℕ). with_channel_at o (dialled to old.moment) old.table) free

  unknown_before : known_at old.table k ≡ false
  unknown_before = none_unknown (channel_at old.table k) (position-Some is_none old.table.channels k None free).1

  -- a channel that is dialled isn't known yet
  known_made : SameKnown old.table (with_dial to old)
  known_made n = ap (λ (t : Seats). known_at t n) made ∙ ⊎_elim
      (λ (here : n ≡ k). ap (known_at (with_channel_at (Some k) (dialled to old.moment) old.table)) here
      ∙ set_unknown old.table.channels k _ refl ∙ sym unknown_before ∙ ap (known_at old.table) (sym here))
      (λ (ne : n ≢ k). ap known_in (made_there old.table k n (dialled to old.moment) ne))
      (cases_eq n k)

  known_dropped : SameKnown old.table (closed (with_dial to old) k)
  known_dropped n = ⊎_elim
      (λ (here : n ≡ k). ap (known_at (closed (with_dial to old) k)) here ∙ closed_unknown (with_dial to old) k
      ∙ sym unknown_before ∙ ap (known_at old.table) (sym here))
      (λ (ne : n ≢ k). stays_known (channel_at (with_dial to old) n) (channel_at (closed (with_dial to old) k) n)
      (closed_there (with_dial to old) k n ne) ∙ known_made n)
      (cases_eq n k)

  known_dialled : (sent : Bool) → SameKnown old.table (cond sent (with_datagram (with_dial to old) k true old.moment) (closed (with_dial to old) k))
  known_dialled true n = known_datagram (with_dial to old) k true old.moment n ∙ known_made n
  known_dialled false n = known_dropped n

tries_stays : (to : Address) (sent : Option Bool) (old new : Scene) → Tries to sent old new → StaysIdle old.parts new.parts
tries_stays to None old new t = stays_same old.parts new.parts t.1.same
tries_stays to (Some took) old new t = record {
  slots = ap (λ (p : Parts). p.slots) t.1.rest;
  known = λ n. ap (λ (p : SeatsState). known_at p.table n) t.1.dials.is ∙ known_dialled to old.parts.seats t.1.dials.seat t.1.dials.free took n;
  owes = λ n. ap (λ (p : SeatsState). owes_at p.seats n) t.1.dials.is;
}

same_stays : (old new : Scene) → new ≡ old → StaysIdle old.parts new.parts
same_stays old new same = stays_same old.parts new.parts (ap (λ (x : Scene). x.parts) same)

step_stays : (dial : Dial) (state : DialState) (old new : Scene) → StepsDial dial state old new → StaysIdle old.parts new.parts
step_stays dial state old new s = of (has_channel old.parts dial.address) (is_due old.parts.seats.moment dial.state) s
  where
    of : (b c : Bool) → MatchBool b ((new ≡ old) × (state ≡ Seated))
        (MatchBool c ((sent : Option Bool) × Tries dial.address sent old new × (state ≡ after_dial old.parts.seats.moment dial.state sent))
        ((new ≡ old) × (state ≡ noticed old.parts.seats.moment dial.state))) → StaysIdle old.parts new.parts
    of true c h = same_stays old new h.0
    of false true h = tries_stays dial.address h.0 old new h.1
    of false false h = same_stays old new h.0

each_stays : (dials lefts : List Dial) (old new : Scene) → DialsEach dials lefts old new → StaysIdle old.parts new.parts
each_stays [] [] old new e = same_stays old new e
each_stays [] (left ∷ lefts) old new e = absurd e
each_stays (dial ∷ dials) [] old new e = absurd e
each_stays (dial ∷ dials) (left ∷ lefts) old new e =
    stays_twice old.parts e.0.parts new.parts (step_stays dial left.state old e.0 e.2) (each_stays dials lefts e.0 new e.3)

suggested_stays : (queue : List Address) (old new : Scene) → DialsSuggested queue old new → StaysIdle old.parts new.parts
suggested_stays [] old new e = same_stays old new e
suggested_stays (address ∷ queue) old new e = of (nat_lt (used_of old.parts.seats.table) 32) (λ mid rest. suggested_stays queue mid new rest) e
  where
    of : (b : Bool) → ((mid : Scene) → DialsSuggested queue mid new → StaysIdle mid.parts new.parts)
        → MatchBool b ((sent : Option Bool) × (mid : Scene) × Tries address sent (with_queue queue old) mid × DialsSuggested queue mid new)
        (new ≡ old) → StaysIdle old.parts new.parts
    of true more h =
        stays_twice old.parts h.1.parts new.parts
        (stays_twice old.parts (with_queue queue old).parts h.1.parts (stays_by old.parts (with_queue queue old).parts refl refl)
        (tries_stays address h.0 (with_queue queue old) h.1 h.2))
        (more h.1 h.3)
    of false more h = same_stays old new h

dials_stay : (dials lefts : List Dial) (old new : Scene) → DialsAll dials lefts old new → StaysIdle old.parts new.parts
dials_stay dials lefts old new a =
    stays_twice old.parts a.0.parts new.parts (each_stays dials lefts old a.0 a.1) (suggested_stays a.0.parts.pex.queue a.0 new a.2)

-- ---- chunks that go

served_owes : (o p : Option SeatState) → IsServedAt o p → owes_in p ≡ owes_in o
served_owes None p s = ap owes_in s
served_owes (Some x) p s = ap owes_in s.1 ∙ ap (λ (y : SeatState). y.owes) s.2

served_known : (n : ℕ) (old new : SeatsState) (added : List Record)
    → (channel_at new.table n ≡ channel_at old.table n) ⊎ IsWritten n old new added → known_at new.table n ≡ known_at old.table n
served_known n old new added (inl same) = ap known_in same
served_known n old new added (inr w) = ap known_in w.after ∙ sym (ap known_in w.there)

-- ---- a flush

module _ (refused : ℕ) (old new : PeerState) (link later : LinkState) (disk left : DiskState) (course : Sends refused old new link later disk left)
    (b : Beginning) (most : ℕ) (past before : List Record) (stands : StandsFor b most old.parts past) (carries : link.traffic ≡ Some before)
    (has : HasSlots old.parts) where
  abbrev s : SendsAll old.dials new.dials old.speaker new.speaker refused (scene old.parts link disk) (scene course.sent later left)
  s = course.sends

  dialled_idle : HasSlots s.dialled.parts
  dialled_idle = idle_after s.dropped s.dialled.parts (stays_twice s.dropped s.given s.dialled.parts (gives_stays s.dropped s.given s.gives_up)
      (dials_stay old.dials new.dials (scene s.given link disk) s.dialled s.dials_all))
      (drops_idle old.parts s.dropped s.drops has (s.drops.stands b most past stands).seats.standing.seated.are.seats)

  turned_idle : HasSlots s.turned
  turned_idle = idle_after s.dialled.parts s.turned
      (stays_same s.dialled.parts s.turned (none_turned s.dialled.parts s.turned dialled_idle s.turns)) dialled_idle

  sent_stays : StaysIdle s.said.parts course.sent
  sent_stays = record {
    slots = ap (λ (p : Parts). p.slots) s.only;
    known = λ n. served_known n s.said.parts.seats course.sent.seats s.serves.flushes.added (s.serves.alone.channels n);
    owes = λ n. served_owes (slice_get s.said.parts.seats.seats n) (slice_get course.sent.seats.seats n) (s.serves.alone.states n);
  }

  pub flush_idle : HasSlots new.parts
  flush_idle = idle_after s.turned new.parts
      (stays_twice s.turned s.said.parts new.parts
      (turns_stay 64 s.unsaid s.speaks.gathered new.speaker (record s.dialled { parts = s.turned }) s.said s.speaks.turns turned_idle)
      (stays_twice s.said.parts course.sent new.parts sent_stays
      (stays_by course.sent new.parts (ap (λ (p : Parts). p.seats) course.rest) (ap (λ (p : Parts). p.slots) course.rest))))
      turned_idle

  pub flush_chokeless : IsChokeless b.d course.flushes.added
  flush_chokeless = all_chokeless b.d course.flushes.added
      (flush_says_none refused old new link later disk left course b most past before stands carries (list_any is_choke) (choke_test b.d) HasSlots
      (none_choked b.d) turned_idle)

-- ---- a run

event_chokeless : (d : Descriptor) (event : Event) (bytes : List ℕ) → IsChokeless d (record_of event bytes ∷ [])
event_chokeless d (events.Datagram sender len at) bytes = refl
event_chokeless d (events.Quiet at) bytes = refl

-- So it is where a peer begins.
pub begun_unchoked : (d swarm : Descriptor) (random : List ℕ) (asks : Option Rank) (dial : List Address) (p : PeerState)
    → HasBegun swarm random asks dial p → StaysUnchoked d p.parts []
begun_unchoked d swarm random asks dial p h few = record { has = begun_idle swarm random asks dial p h; none = refl }

-- It stays so while something comes.
pub absorbs_unchoked : (event : Event) (bytes : List ℕ) (old new : Parts) → (a : Absorbs event bytes old new) → IsEvent event bytes
    → (b : Beginning) (most : ℕ) (past : List Record) → StandsFor b most old past
    → StaysUnchoked b.d old past → StaysUnchoked b.d new (record_of event bytes ∷ past)
absorbs_unchoked event bytes old new a fits b most past stands was few =
    let more = openings_twice b.d (record_of event bytes ∷ []) past in
    let first = was (omega (arith, few, more)) in
    record {
      has = absorbs_idle event bytes old new a fits b most past stands few first.has;
      none = chokeless_twice b.d (record_of event bytes ∷ []) past (event_chokeless b.d event bytes) first.none;
    }

-- And so it does while something is sent.
pub flush_unchoked : (refused : ℕ) (old new : PeerState) (link later : LinkState) (disk left : DiskState)
    → (course : Sends refused old new link later disk left)
    → (b : Beginning) (most : ℕ) (past before : List Record) → StandsFor b most old.parts past → link.traffic ≡ Some before
    → StaysUnchoked b.d old.parts past → StaysUnchoked b.d new.parts (course.flushes.added ++ past)
flush_unchoked refused old new link later disk left course b most past before stands carries was few =
    let more = openings_twice b.d course.flushes.added past in
    let u = was (omega (arith, few, more)) in
    record {
      has = flush_idle refused old new link later disk left course b most past before stands carries u.has;
      none = chokeless_twice b.d course.flushes.added past
          (flush_chokeless refused old new link later disk left course b most past before stands carries u.has) u.none;
    }

-- A wait that was refused, and a new limit, change nothing of it.
pub refusal_unchokes : (d : Descriptor) (p : PeerState) (past : List Record) → StaysUnchoked d p.parts past
    → StaysUnchoked d (after_refusal p).parts past
refusal_unchokes d p past was few =
    let u = was few in record { has = idle_after p.parts (after_refusal p).parts (stays_by p.parts (after_refusal p).parts refl refl) u.has; none = u.none }

pub limit_unchokes : (limit : ℕ) (d : Descriptor) (p : Parts) (past : List Record) → StaysUnchoked d p past → StaysUnchoked d (with_limit limit p) past
limit_unchokes limit d p past was few =
    let u = was few in record { has = idle_after p (with_limit limit p) (stays_by p (with_limit limit p) refl refl) u.has; none = u.none }

-- So nobody is choked without need, whatever was refused.
pub chokes_none : (r : ℕ) (d : Descriptor) (p : Parts) (past : List Record) → StaysUnchoked d p past → ChokesNone r d past
chokes_none r d p past unchoked few = (unchoked (omega (arith, few))).none

-- ---- farewells

farewells_none : (d swarm : Descriptor) (moment : ℕ) (fars : ℕ → Option Far) (rs : List Record) → swarm ≡ d
    → AllByRecursion (IsFarewell swarm moment fars) rs → AllByRecursion (IsNotRead d (list_any is_choke)) rs
farewells_none d swarm moment fars [] same all = tt
farewells_none d swarm moment fars (r ∷ rs) same all =
    let f = all.0 in (
      subst (λ (x : Record). IsNotRead d (list_any is_choke) x) (sym f.is)
          (none_read d (list_any is_choke) moment f.far.number (address_of f.far.address) (plain.Handshake 0 no_options ∷ []) f.bytes
          (subst (λ (e : Descriptor). IsDatagram e f.far.number (plain.Handshake 0 no_options ∷ []) f.bytes) same f.written) refl),
      farewells_none d swarm moment fars rs same all.1,
    )

-- Nor do closing handshakes change it.
pub close_chokes_none : (r : ℕ) (d : Descriptor) (old new : PeerState) (link later : LinkState) (disk : DiskState)
    → (c : Closes old new link later disk) → old.parts.seats.descriptor ≡ d → (past : List Record) → ChokesNone r d past
    → ChokesNone r d (c.parting.flushes.added ++ past)
close_chokes_none r d old new link later disk c swarm past was few =
    let sum = openings_twice d c.parting.flushes.added past in
    chokeless_twice d c.parting.flushes.added past
    (all_chokeless d c.parting.flushes.added
    (farewells_none d old.parts.seats.descriptor (moment_of disk.history) _ c.parting.flushes.added swarm c.parting.others))
    (was (omega (arith, few, sum)))
