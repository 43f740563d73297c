-- What of a seat is kept until the turns begin.
use Rattle.std.proofs.Common.{◌≡◌, ◌≢◌, ◌⊎◌, inl, inr, ⊎_elim, ℕ, zero, suc, ◌<◌, Bool, true, false, cond, Option, Some, None, List, [], ◌∷◌, get_or, map, refl, sym, ◌∙◌, ap, subst}
use Rattle.std.specs.Prelude.{is_some, is_none, slice_index_or, slice_set, nat_lt, MatchBool}
use Rattle.std.specs.List.{slice_get}
use Rattle.std.proofs.Math.ListN.{set}
use Rattle.std.proofs.lemmas.Bool.{both_ways}
use Rattle.std.proofs.lemmas.List.Quantifiers.{position-Some}
use Rattle.std.proofs.lemmas.List.{get_or-set_other}
use Rattle.pp_terms.specs.disk.Disk.{moment_of}
use Rattle.pp_terms.specs.format.Traffic.{Sent, LinkState}
use Rattle.pp_terms.proofs.Risings.{gains_nothing}
use Rattle.pp_outside.specs.Outside.{address_of}
use Rattle.pp_outside.specs.declared.link.Address.{Address}
use Rattle.pp_channels.specs.Seats.{Seats, channel_at, closed, dialled, after_drop, free_seat, with_channel_at, used_of}
use Rattle.pp_channels.specs.Timing.{is_over}
use Rattle.pp_channels.specs.declared.channel.Channel.{Channel}
use Rattle.pp_lives.specs.Sending.{with_datagram}
use Rattle.pp_draft.specs.Posts as posts
use Rattle.pp_fetching.specs.Fetching.{FetchState}
use Rattle.pp_seat.specs.Seats.{SeatState}
use Rattle.pp_seats.specs.Standing.{SeatsState}
use Rattle.pp_seats.specs.Greeting.{Dials, with_dial}
use Rattle.pp_peer.specs.declared.dialling.Dial.{Dial}
use Rattle.pp_peer.specs.declared.dialling.DialState.{DialState}
use Rattle.pp_peer.specs.declared.dialling.DialState.TheVariants.{Seated}
use Rattle.pp_peer.specs.declared.parts.Parts.{Parts}
use Rattle.pp_peer.specs.Flushing.{Scene}
use Rattle.pp_peer.specs.Greeting.{wanted_of, StaysBut, IsUntouched, Drops, LetsGoAt, GivesUp}
use Rattle.pp_peer.specs.Dialling.{Tries, has_channel, is_due, noticed, after_dial, StepsDial, DialsEach, with_queue, DialsSuggested, DialsAll}
use Rattle.pp_peer.specs.Slotting.{TurnsLongest, TurnsNone, TurnsSlots}
use Rattle.pp_peer.proofs.Ending.{after_stays}
use Rattle.pp_core.proofs.Links.{Grows, grows_none, grows_twice}
use Rattle.pp_core.proofs.Kept.{StateAt, state_none, state_same, stays_same, datagram_there, SeatKept, seat_none, seat_turned, Kept, kept_none, kept_twice, kept_rest}
use Rattle.pp_core.proofs.Turns.{grants_kept}

-- A channel that is there is kept, with all of its seat.
abbrev pub Lives : ℕ → Parts → Parts → Type 0
Lives seat old new = is_some (channel_at old.seats.table seat) ≡ true → Kept seat old new

still_some : (o p : Option Channel) → StaysBut o p → is_some p ≡ is_some o
still_some None p s = ap is_some s
still_some (Some c) p s = ap is_some s.1

pub lives_twice : (seat : ℕ) (a b c : Parts) → Lives seat a b → Lives seat b c → Lives seat a c
lives_twice seat a b c one two some =
    let k = one some in
    kept_twice seat a b c k (two (still_some (channel_at a.seats.table seat) (channel_at b.seats.table seat) k.seats.channel ∙ some))

-- ---- channels whose time is over

wanted_some : (o : Option FetchState) → is_some (wanted_of o) ≡ is_some o
wanted_some None = refl
wanted_some (Some f) = refl

same_wanted : (old new : Option FetchState) → wanted_of new ≡ wanted_of old → is_some new ≡ is_some old
same_wanted old new same = sym (wanted_some new) ∙ ap is_some same ∙ wanted_some old

drops_kept : (seat : ℕ) (old new : Parts) → seat < 64 → is_over old.seats.moment (channel_at old.seats.table seat) ≡ false
    → Drops old new → Kept seat old new
drops_kept seat old new low lasts d = ⊎_elim
    (λ (u : IsUntouched seat old new). record {
      seats = record {
        swarm = d.swarm;
        moment = d.moment;
        channel = u.channel;
        state = state_same old.seats.moment (slice_get old.seats.seats seat) (slice_get new.seats.seats seat) u.messages;
      };
      holding = ap (λ (p : Parts). p.holding) d.rest;
      fetches = same_wanted old.fetching new.fetching d.wanted;
      table = ap (λ (p : Parts). p.pex.table) d.rest;
      question = u.question;
      proof = ap (λ (p : Parts). slice_index_or p.to_prove seat false) d.rest;
      supports = ap (λ (p : Parts). p.supports) d.rest;
    })
    (λ over. absurd (both_ways (is_over old.seats.moment (channel_at old.seats.table seat)) lasts over.0))
    (d.each seat low)

-- ---- requests that expired, or were lost

let_go : (now : ℕ) (o p : Option SeatState) → LetsGoAt now o p → StateAt now o p
let_go now None p l = l
let_go now (Some s) p l = (
  l.0,
  l.1,
  record {
    rest = l.2.rest ∙ ap (λ (due : Bool). record s { own = l.0.own; stopped = l.0.stopped; owes = due })
        (sym (ap (λ (x : SeatState). x.owes) l.2.rest));
    own = λ i. ⊎_elim (λ same. inl same) (λ gone. inr gone.0) (l.2.own i);
    owes = λ due. ap (λ (x : SeatState). x.owes) l.2.rest ∙ due;
  },
)

gives_kept : (seat : ℕ) (old new : Parts) → GivesUp old new → Kept seat old new
gives_kept seat old new g = record {
  seats = record {
    swarm = ap (λ (p : Parts). p.seats.descriptor) g.rest;
    moment = ap (λ (p : Parts). p.seats.moment) g.rest;
    channel = stays_same (channel_at old.seats.table seat) (channel_at new.seats.table seat)
        (ap (λ (p : Parts). channel_at p.seats.table seat) g.rest);
    state = let_go old.seats.moment (slice_get old.seats.seats seat) (slice_get new.seats.seats seat) (g.each seat);
  };
  holding = ap (λ (p : Parts). p.holding) g.rest;
  fetches = same_wanted old.fetching new.fetching g.wanted;
  table = ap (λ (p : Parts). p.pex.table) g.rest;
  question = ap (λ (p : Parts). slice_index_or p.questions seat false) g.rest;
  proof = ap (λ (p : Parts). slice_index_or p.to_prove seat false) g.rest;
  supports = ap (λ (p : Parts). p.supports) g.rest;
}

-- ---- dials

pub drop_in : (dropped : Option Channel) (xs : List (Option Channel)) (n : ℕ)
    → get_or (map (after_drop dropped) xs) n None ≡ after_drop dropped (get_or xs n None)
drop_in dropped [] n = refl
drop_in dropped (x ∷ xs) zero = refl
drop_in dropped (x ∷ xs) (suc n) = drop_in dropped xs n

pub closed_there : (t : Seats) (k n : ℕ) → n ≢ k → StaysBut (channel_at t n) (channel_at (closed t k) n)
closed_there t k n ne = after_stays (channel_at t k) (channel_at t n) (channel_at (closed t k) n)
    (drop_in (channel_at t k) (slice_set t.channels k None) n ∙ ap (after_drop (channel_at t k)) (get_or-set_other t.channels k n None None ne))

pub made_there : (t : Seats) (k n : ℕ) (make : ℕ → Channel) → n ≢ k → channel_at (with_channel_at (Some k) make t) n ≡ channel_at t n
made_there t k n make ne = get_or-set_other t.channels k n _ None ne

pub free_none : (t : Seats) (k : ℕ) → free_seat t ≡ Some k → is_some (channel_at t k) ≡ false
free_none t k free = of (channel_at t k) (position-Some is_none t.channels k None free).1
  where
    of : (o : Option Channel) → is_none o ≡ true → is_some o ≡ false
    of None e = refl
    of (Some c) e = absurd cc

dials_kept : (seat : ℕ) (to : Address) (moment : ℕ) (sent : Bool) (old new : SeatsState) (link later : LinkState)
    → Dials to moment sent old new link later
    → is_some (channel_at old.table seat) ≡ true → SeatKept seat old new
dials_kept seat to moment sent old new link later d some = of sent d.is
  where
    ne : seat ≢ d.seat
    ne is = both_ways (is_some (channel_at old.table d.seat)) (free_none old.table d.seat d.free)
        (ap (λ (n : ℕ). is_some (channel_at old.table n)) (sym is) ∙ some)

    there : channel_at (with_dial to old) seat ≡ channel_at old.table seat
    there = subst (λ (o : Option ℕ). channel_at (with_channel_at o (dialled to old.moment) old.table) seat ≡ channel_at old.table seat) (sym d.free)
        (made_there old.table d.seat seat (dialled to old.moment) ne)

    kept : (t : Seats) → new ≡ record old { table = t } → StaysBut (channel_at old.table seat) (channel_at t seat) → SeatKept seat old new
    kept t is stays = subst (λ (x : SeatsState). SeatKept seat old x) (sym is) (record {
      swarm = refl;
      moment = refl;
      channel = stays;
      state = state_none old.moment (slice_get old.seats seat);
    })

    of : (b : Bool) → new ≡ record old {
      table = cond b (with_datagram (with_dial to old) d.seat true old.moment)
          (closed (with_dial to old) d.seat);
    } → SeatKept seat old new
    of true is = kept (with_datagram (with_dial to old) d.seat true old.moment) is
        (stays_same (channel_at old.table seat) (channel_at (with_datagram (with_dial to old) d.seat true old.moment) seat)
        (datagram_there (with_dial to old) d.seat seat true old.moment ne ∙ there))
    of false is = kept (closed (with_dial to old) d.seat) is
        (subst (λ (o : Option Channel). StaysBut o (channel_at (closed (with_dial to old) d.seat) seat)) there
        (closed_there (with_dial to old) d.seat seat ne))

sends_grows : (to : _) (bytes : List ℕ) (moment : ℕ) (link later : LinkState) (sent : Bool)
    → posts.Sends to bytes moment link later sent → Grows link later
sends_grows to bytes moment link later true s = record { added = Sent moment to bytes ∷ []; gained = s.outcome; faults = s.later }
sends_grows to bytes moment link later false s =
    record { added = []; gained = gains_nothing link.traffic later.traffic s.outcome.0; faults = s.later }

-- What a step before the turns leaves of a seat and of the link.
pub record Goes (seat : ℕ) (old new : Scene) : Type 0 where
  pub lives : Lives seat old.parts new.parts
  pub messages : new.parts.seats.seats ≡ old.parts.seats.seats
  pub grows : Grows old.link new.link

pub goes_twice : (seat : ℕ) (a b c : Scene) → Goes seat a b → Goes seat b c → Goes seat a c
goes_twice seat a b c one two = record {
  lives = lives_twice seat a.parts b.parts c.parts one.lives two.lives;
  messages = two.messages ∙ one.messages;
  grows = grows_twice a.link b.link c.link one.grows two.grows;
}

goes_none : (seat : ℕ) (a b : Scene) → b ≡ a → Goes seat a b
goes_none seat a b same = record {
  lives = λ some. kept_none seat a.parts b.parts (ap (λ (s : Scene). s.parts) same);
  messages = ap (λ (s : Scene). s.parts.seats.seats) same;
  grows = grows_none a.link b.link (ap (λ (s : Scene). s.link) same);
}

tries_goes : (seat : ℕ) (to : Address) (sent : Option Bool) (old new : Scene) → Tries to sent old new → Goes seat old new
tries_goes seat to None old new t = record {
  lives = λ some. kept_none seat old.parts new.parts t.1.same;
  messages = ap (λ (p : Parts). p.seats.seats) t.1.same;
  grows = grows_none old.link new.link t.1.none.link_same;
}
tries_goes seat to (Some took) old new t = record {
  lives = λ some. kept_rest seat old.parts new.parts new.parts.seats old.parts.slots _ t.1.rest
      (dials_kept seat to (moment_of old.disk.history) took old.parts.seats new.parts.seats old.link new.link t.1.dials some);
  messages = ap (λ (x : SeatsState). x.seats) t.1.dials.is;
  grows = sends_grows (address_of to) t.1.dials.bytes (moment_of old.disk.history) old.link new.link took t.1.dials.sends;
}

steps_goes : (seat : ℕ) (dial : Dial) (state : DialState) (old new : Scene) → StepsDial dial state old new → Goes seat old new
steps_goes seat dial state old new s = of (has_channel old.parts dial.address) (is_due old.parts.seats.moment dial.state) s
  where
    of : (b c : Bool) → MatchBool b ((new ≡ old) × (state ≡ Seated))
        (MatchBool c ((sent : Option Bool) × Tries dial.address sent old new × (state ≡ after_dial old.parts.seats.moment dial.state sent))
        ((new ≡ old) × (state ≡ noticed old.parts.seats.moment dial.state))) → Goes seat old new
    of true c h = goes_none seat old new h.0
    of false true h = tries_goes seat dial.address h.0 old new h.1
    of false false h = goes_none seat old new h.0

each_goes : (seat : ℕ) (dials lefts : List Dial) (old new : Scene) → DialsEach dials lefts old new → Goes seat old new
each_goes seat [] [] old new d = goes_none seat old new d
each_goes seat [] (left ∷ lefts) old new d = absurd d
each_goes seat (dial ∷ dials) [] old new d = absurd d
each_goes seat (dial ∷ dials) (left ∷ lefts) old new d =
    goes_twice seat old d.0 new (steps_goes seat dial left.state old d.0 d.2) (each_goes seat dials lefts d.0 new d.3)

queue_goes : (seat : ℕ) (queue : List Address) (s : Scene) → Goes seat s (with_queue queue s)
queue_goes seat queue s = record {
  lives = λ some. record {
    seats = seat_none seat s.parts.seats s.parts.seats refl;
    holding = refl;
    fetches = refl;
    table = refl;
    question = refl;
    proof = refl;
    supports = refl;
  };
  messages = refl;
  grows = grows_none s.link s.link refl;
}

suggested_goes : (seat : ℕ) (queue : List Address) (old new : Scene) → DialsSuggested queue old new → Goes seat old new
suggested_goes seat [] old new d = goes_none seat old new d
suggested_goes seat (address ∷ queue) old new d = of (nat_lt (used_of old.parts.seats.table) 32)
    (λ mid rest. suggested_goes seat queue mid new rest) d
  where
    of : (b : Bool) → ((mid : Scene) → DialsSuggested queue mid new → Goes seat mid new)
        → MatchBool b ((sent : Option Bool) × (mid : Scene) × Tries address sent (with_queue queue old) mid × DialsSuggested queue mid new)
        (new ≡ old) → Goes seat old new
    of true more h = goes_twice seat old (with_queue queue old) new (queue_goes seat queue old)
        (goes_twice seat (with_queue queue old) h.1 new (tries_goes seat address h.0 (with_queue queue old) h.1 h.2) (more h.1 h.3))
    of false more h = goes_none seat old new h

pub dials_goes : (seat : ℕ) (dials lefts : List Dial) (old new : Scene) → DialsAll dials lefts old new → Goes seat old new
dials_goes seat dials lefts old new d =
    goes_twice seat old d.0 new (each_goes seat dials lefts old d.0 d.1) (suggested_goes seat d.0.parts.pex.queue d.0 new d.2)

-- ---- slots

longest_kept : (seat : ℕ) (old new : Parts) → TurnsLongest old new ⊎ TurnsNone old new → Kept seat old new
longest_kept seat old new (inl t) = kept_rest seat old new new.seats _ old.counts t.rest
    (seat_turned seat t.seat old.seats new.seats t.turns)
longest_kept seat old new (inr t) = kept_none seat old new t.same

pub slots_kept : (seat : ℕ) (old new : Parts) → TurnsSlots old new → Kept seat old new
slots_kept seat old new t = kept_twice seat old t.mid new (longest_kept seat old t.mid t.turned) (grants_kept seat t.mid new t.grants)

-- ---- all of it

pub before_turns : (seat : ℕ) (c : Channel) (dials lefts : List Dial) (old : Scene) (dropped given turned : Parts) (dialled : Scene) → seat < 64
    → channel_at old.parts.seats.table seat ≡ Some c → is_over old.parts.seats.moment (Some c) ≡ false → Drops old.parts dropped
    → GivesUp dropped given
    → DialsAll dials lefts (record old { parts = given }) dialled → TurnsSlots dialled.parts turned
    → Kept seat old.parts turned × Grows old.link dialled.link
before_turns seat c dials lefts old dropped given turned dialled low there lasts drops gives dialling slots =
    let one = kept_twice seat old.parts dropped given
    (drops_kept seat old.parts dropped low (ap (is_over old.parts.seats.moment) there ∙ lasts) drops) (gives_kept seat dropped given gives) in
    let goes = dials_goes seat dials lefts (record old { parts = given }) dialled dialling in
    let some = still_some (channel_at old.parts.seats.table seat) (channel_at given.seats.table seat) one.seats.channel ∙ ap is_some there in (
      kept_twice seat old.parts dialled.parts turned (kept_twice seat old.parts given dialled.parts one (goes.lives some))
          (slots_kept seat dialled.parts turned slots),
      goes.grows,
    )
