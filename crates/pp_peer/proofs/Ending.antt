-- Channels whose time is over, and what is kept of their seats.
use Rattle.std.proofs.Common.{◌≡◌, ◌≢◌, ◌⊎◌, inl, inr, ℕ, zero, suc, ◌<◌, ◌≤◌, eqb, Bool, true, false, not, ◌&&◌, Option, Some, None, List, [], ◌∷◌, get_or, length, refl, sym, ◌∙◌, ap, subst, arith}
use Rattle.std.specs.Prelude.{position}
use Rattle.std.specs.List.{slice_get}
use Rattle.std.proofs.Math.ListN.{set}
use Rattle.std.proofs.lemmas.Bool.{cases_eq, eq-eqb, false≢true}
use Rattle.std.proofs.lemmas.Bool.Decides.{nat_tests}
use Rattle.std.proofs.lemmas.List.{length-set, get_or-set_other}
use Rattle.std.proofs.lemmas.List.Quantifiers.{position-Some}
use Rattle.pp_terms.specs.format.Traffic.{Record}
use Rattle.pp_requests.specs.declared.asking.Asking.{Asking}
use Rattle.pp_requests.specs.Seats.{since}
use Rattle.pp_channels.specs.Seats.{Seats, channel_at, closed, after_drop, used_of}
use Rattle.pp_channels.specs.Timing.{is_over, is_over_in}
use Rattle.pp_channels.specs.declared.channel.State.{State}
use Rattle.pp_channels.specs.declared.channel.State.TheVariants.{Greeted, Proven}
use Rattle.pp_channels.specs.declared.channel.Channel.{Channel}
use Rattle.pp_channels.proofs.Seating.{used_less}
use Rattle.pp_lives.specs.Fars.{far_of}
use Rattle.pp_lives.proofs.Arrivals.{there_of}
use Rattle.pp_lives.proofs.Changing.{dropped_is, within}
use Rattle.pp_fetching.specs.Fetching.{FetchState}
use Rattle.pp_fetching.specs.Owners.{awaits}
use Rattle.pp_fetching.proofs.Owners.{tie_stays}
use Rattle.pp_avail.specs.Offers as offers
use Rattle.pp_holding.specs.Holding.{HoldingState}
use Rattle.pp_counts.specs.declared.counts.Counts.{Counts}
use Rattle.pp_store.specs.Store.{is_committed}
use Rattle.pp_seat.specs.Seats.{SeatState}
use Rattle.pp_seats.specs.Standing.{SeatsState, Setting}
use Rattle.pp_seats.specs.Standing as seats
use Rattle.pp_seats.specs.Sending.{HoldsAnnounced}
use Rattle.pp_seats.specs.Greeting.{Ends}
use Rattle.pp_seats.proofs.Lists.{get_set_there, get_set_other}
use Rattle.pp_peer.specs.declared.parts.Parts.{Parts}
use Rattle.pp_peer.specs.Standing.{Beginning, setting, asked_of, own_at, own_in, Fetches, Ledger, StandsFor}
use Rattle.pp_peer.specs.Greeting.{Releases, Clears, offers_of, wanted_of, StaysBut, IsUntouched, IsCleared, Drops}

-- ---- a channel, but for its mark

pub far_stays : (o p : Option Channel) → StaysBut o p → far_of p ≡ far_of o
far_stays None p s = ap far_of s
far_stays (Some c) p s = ap far_of s.1

over_marked : (now : ℕ) (state : State) (c : Channel) (mark : Bool) → is_over_in state now (record c { shadowed = mark }) ≡ is_over_in state now c
over_marked now Greeted c mark = refl
over_marked now Proven c mark = refl

over_stays : (moment : ℕ) (o p : Option Channel) → StaysBut o p → is_over moment p ≡ is_over moment o
over_stays moment None p s = ap (is_over moment) s
over_stays moment (Some c) p s = ap (is_over moment) s.1 ∙ over_marked moment c.state c s.0

stays_same : (o : Option Channel) → StaysBut o o
stays_same None = refl
stays_same (Some c) = (c.shadowed, refl)

stays_twice : (o p q : Option Channel) → StaysBut o p → StaysBut p q → StaysBut o q
stays_twice None p q one two = subst (λ (o : Option Channel). StaysBut o q) one two
stays_twice (Some c) p q one two = let t = subst (λ (o : Option Channel). StaysBut o q) one.1 two in (t.0, t.1)

free_stays : (o p : Option Channel) → StaysBut o p → o ≡ None → p ≡ None
free_stays o p s free = subst (λ (e : Option Channel). StaysBut e p) free s

pub after_stays : (dropped o p : Option Channel) → p ≡ after_drop dropped o → StaysBut o p
after_stays dropped None p e = e
after_stays dropped (Some d) p e = (_, e)

-- ---- the channel at a seat whose time is over

over_there : (moment : ℕ) (t : Seats) (k : ℕ) → position (is_over moment) t.channels ≡ Some k → (c : Channel) × (channel_at t k ≡ Some c)
over_there moment t k over = there_of (is_over moment) (channel_at t k) refl (position-Some (is_over moment) t.channels k None over).1

pub over_free : (p s : SeatsState) (k : ℕ) → Ends k p s → channel_at s.table k ≡ None
over_free p s k ends =
    let c = over_there p.moment p.table k ends.over in
    ap (λ (o : SeatsState). channel_at o.table k) ends.is ∙ (dropped_is p.table k c.0 c.1).free

pub over_fewer : (p s : SeatsState) (k : ℕ) → Ends k p s → used_of s.table < used_of p.table
over_fewer p s k ends =
    let c = over_there p.moment p.table k ends.over in
    let less = used_less p.table k c.0 c.1 (within p.table.channels k c.0 c.1) in
    let is : used_of s.table ≡ used_of (closed p.table k) = ap (λ (o : SeatsState). used_of o.table) ends.is in
    omega (arith, less, is)

over_others : (p s : SeatsState) (k n : ℕ) → n ≢ k → Ends k p s → StaysBut (channel_at p.table n) (channel_at s.table n)
over_others p s k n ne ends =
    let c = over_there p.moment p.table k ends.over in
    after_stays (Some c.0) (channel_at p.table n) (channel_at s.table n)
    (ap (λ (o : SeatsState). channel_at o.table n) ends.is ∙ (dropped_is p.table k c.0 c.1).others n ne)

-- ---- where nothing went, came or was stored

-- no count that the records tell changed
pub record CountsKept (old new : Counts) : Type 0 where
  pub datagrams : new.datagrams ≡ old.datagrams
  pub short : new.short ≡ old.short
  pub sent : new.sent ≡ old.sent

ledger_same : (b : Beginning) (old new : Parts) (past : List Record) → new.holding ≡ old.holding → CountsKept old.counts new.counts → Ledger b old past → Ledger b new past
ledger_same b old new past same counts l = record {
  swarm = ap (λ (h : HoldingState). h.store.descriptor) same ∙ l.swarm;
  served = (subst (λ (h : HoldingState). Ledger b (record old { holding = h }) past) (sym same) l).served;
  plans = l.plans;
  announced = (subst (λ (h : HoldingState). Ledger b (record old { holding = h }) past) (sym same) l).announced;
  tied = record {
    datagrams = counts.datagrams ∙ l.tied.datagrams;
    short = counts.short ∙ l.tied.short;
    sent = counts.sent ∙ l.tied.sent;
  };
}

pub stands_same : (b : Beginning) (most more : ℕ) (old new : Parts) (past : List Record) → new.holding ≡ old.holding → CountsKept old.counts new.counts
    → ((x : Setting) → seats.StandsFor x most old.seats past → seats.StandsFor x more new.seats past)
    → (Fetches old → Fetches new) → StandsFor b most old past → StandsFor b more new past
stands_same b most more old new past same counts seats fetches s = record {
  ledger = ledger_same b old new past same counts s.ledger;
  known_of = s.known_of;
  seats = seats (setting b s.known_of) s.seats;
  holds = subst (λ (h : HoldingState). HoldsAnnounced (setting b s.known_of) (is_committed h.store) past) (sym same) s.holds;
  fetches = fetches s.fetches;
}

-- ---- what a seat offered and asked for

pub released_asked : (k : ℕ) (own : List Asking) (f g : Option FetchState) → Releases k own f g
    → (i : ℕ) → get_or (asked_of g) i false ≡ (get_or (asked_of f) i false && not (awaits own i))
released_asked k own None g r i = ap (λ (o : Option FetchState). get_or (asked_of o) i false) r
released_asked k own (Some f) g r i = ap (λ (o : Option FetchState). get_or (asked_of o) i false) r.1 ∙ r.2.asked i

released_wanted : (k : ℕ) (own : List Asking) (f g : Option FetchState) → Releases k own f g → wanted_of g ≡ wanted_of f
released_wanted k own None g r = ap wanted_of r
released_wanted k own (Some f) g r = ap wanted_of r.1
    ∙ ap (λ (had : List Bool). wanted_of (Some (record f { want = record f.want { had = had; limit = r.0.want.limit } }))) r.2.had
    ∙ ap (λ (limit : ℕ). wanted_of (Some (record f { want = record f.want { limit = limit } }))) r.2.limit

released_here : (k : ℕ) (own : List Asking) (f g : Option FetchState) → Releases k own f g → (i : ℕ) → offers_of g k i ≡ false
released_here k own None g r i = ap (λ (o : Option FetchState). offers_of o k i) r
released_here k own (Some f) g r i = ap (λ (o : Option FetchState). offers_of o k i) r.1 ∙ r.2.offers k i
    ∙ ap (λ (b : Bool). not b && offers.has f.offers k i) (eq-eqb k k refl)

apart_test : (n k : ℕ) → n ≢ k → eqb n k ≡ false
apart_test n k ne = grind (arith, nat_tests)

released_other : (k n : ℕ) (own : List Asking) (f g : Option FetchState) → n ≢ k → Releases k own f g → (i : ℕ) → offers_of g n i ≡ offers_of f n i
released_other k n own None g ne r i = ap (λ (o : Option FetchState). offers_of o n i) r
released_other k n own (Some f) g ne r i = ap (λ (o : Option FetchState). offers_of o n i) r.1 ∙ r.2.offers n i
    ∙ ap (λ (b : Bool). not b && offers.has f.offers n i) (apart_test n k ne)

-- ---- one channel is dropped

set_default : {A : Type 0} (xs : List A) (k : ℕ) (d : A) → get_or (set xs k d) k d ≡ d
set_default [] k d = refl
set_default (x ∷ xs) zero d = refl
set_default (x ∷ xs) (suc k) d = set_default xs k d

module _ (p q : Parts) (s : SeatsState) (k : ℕ) (ends : Ends k p.seats s) (clears : Clears k (record p { seats = s }) q) where
  abbrev before : SeatState
  before = clears.forgets.before

  there : slice_get p.seats.seats k ≡ Some before
  there = sym (ap (λ (o : SeatsState). slice_get o.seats k) ends.is) ∙ clears.forgets.there

  messages : q.seats.seats ≡ set p.seats.seats k (record before { own = [] })
  messages = ap (λ (o : SeatsState). o.seats) clears.forgets.is ∙ ap (λ (o : SeatsState). set o.seats k (record before { own = [] })) ends.is

  table : q.seats.table ≡ s.table
  table = ap (λ (o : SeatsState). o.table) clears.forgets.is

  own_here : own_in q.seats.seats k ≡ []
  own_here = ap (λ (xs : List SeatState). own_in xs k) messages
      ∙ ap own_at (get_set_there p.seats.seats k (record before { own = [] }) before there)

  elsewhere : (n : ℕ) → n ≢ k → slice_get q.seats.seats n ≡ slice_get p.seats.seats n
  elsewhere n ne = ap (λ (xs : List SeatState). slice_get xs n) messages ∙ get_set_other p.seats.seats k n (record before { own = [] }) ne

  released : Releases k (own_in p.seats.seats k) p.fetching q.fetching
  released = subst (λ (o : SeatsState). Releases k (own_in o.seats k) p.fetching q.fetching) ends.is clears.releases

  channel_other : (n : ℕ) → n ≢ k → StaysBut (channel_at p.seats.table n) (channel_at q.seats.table n)
  channel_other n ne = subst (λ (t : Seats). StaysBut (channel_at p.seats.table n) (channel_at t n)) (sym table) (over_others p.seats s k n ne ends)

  fetches_cleared : Fetches p → Fetches q
  fetches_cleared f = record {
    owned = tie_stays.dropped k (asked_of p.fetching) (asked_of q.fetching) (own_in p.seats.seats) (own_in q.seats.seats) f.owned
        (λ n ne. ap own_at (elsewhere n ne)) own_here (released_asked k (own_in p.seats.seats k) p.fetching q.fetching released);
    idle = λ n far. of n far (cases_eq n k);
  }
    where
      of : (n : ℕ) → far_of (channel_at q.seats.table n) ≡ None → (n ≡ k) ⊎ (n ≡ k → ⊥) → own_in q.seats.seats n ≡ []
      of n far (inl is) = ap (own_in q.seats.seats) is ∙ own_here
      of n far (inr ne) = ap own_at (elsewhere n ne)
          ∙ f.idle n (sym (far_stays (channel_at p.seats.table n) (channel_at q.seats.table n) (channel_other n ne)) ∙ far)

  untouched : (n : ℕ) → n ≢ k → IsUntouched n p q
  untouched n ne = record {
    channel = channel_other n ne;
    messages = elsewhere n ne;
    slot = ap (λ (o : Parts). since o.slots.slots n) clears.rest ∙ get_or-set_other p.slots.slots k n None None ne;
    waits = ap (λ (o : Parts). since o.slots.waiting n) clears.rest ∙ get_or-set_other p.slots.waiting k n None None ne;
    offers = released_other k n (own_in p.seats.seats k) p.fetching q.fetching ne released;
    question = ap (λ (o : Parts). get_or o.questions n false) clears.rest ∙ get_or-set_other p.questions k n false false ne;
  }

  cleared : IsCleared k q
  cleared = record {
    channel = ap (λ (t : Seats). channel_at t k) table ∙ over_free p.seats s k ends;
    own = own_here;
    slot = ap (λ (o : Parts). since o.slots.slots k) clears.rest ∙ set_default p.slots.slots k None;
    waits = ap (λ (o : Parts). since o.slots.waiting k) clears.rest ∙ set_default p.slots.waiting k None;
    offers = released_here k (own_in p.seats.seats k) p.fetching q.fetching released;
    question = ap (λ (o : Parts). get_or o.questions k false) clears.rest ∙ set_default p.questions k false;
  }

  pub one_fewer : used_of q.seats.table < used_of p.seats.table
  one_fewer = let less = over_fewer p.seats s k ends in let same = ap used_of table in omega (arith, less, same)

  counts : CountsKept p.counts q.counts
  counts = record {
    datagrams = ap (λ (o : Parts). o.counts.datagrams) clears.rest;
    short = ap (λ (o : Parts). o.counts.short) clears.rest;
    sent = ap (λ (o : Parts). o.counts.sent) clears.rest;
  }

  pub drops_one : Drops p q
  drops_one = record {
    moment = ap (λ (o : SeatsState). o.moment) clears.forgets.is ∙ ap (λ (o : SeatsState). o.moment) ends.is;
    swarm = ap (λ (o : SeatsState). o.descriptor) clears.forgets.is ∙ ap (λ (o : SeatsState). o.descriptor) ends.is;
    turned = ap (λ (o : Parts). o.slots.turned) clears.rest;
    sizes = (
      ap (λ (o : Parts). length o.slots.slots) clears.rest ∙ length-set p.slots.slots k None,
      ap (λ (o : Parts). length o.slots.waiting) clears.rest ∙ length-set p.slots.waiting k None,
    );
    wanted = released_wanted k (own_in p.seats.seats k) p.fetching q.fetching released;
    rest = clears.rest
        ∙ ap (λ (o : Parts). record p { seats = q.seats; fetching = q.fetching; slots = o.slots; questions = o.questions }) (sym clears.rest);
    each = λ n lt. of n (cases_eq n k);
    stands = λ b most past h. stands_same b most most p q past (ap (λ (o : Parts). o.holding) clears.rest) counts
        (λ x h. clears.forgets.stands x most past (ends.stands x most past h)) fetches_cleared h;
  }
    where
      of : (n : ℕ) → (n ≡ k) ⊎ (n ≡ k → ⊥) → IsUntouched n p q ⊎ ((is_over p.seats.moment (channel_at p.seats.table n) ≡ true) × IsCleared n q)
      of n (inl is) = inr (
        ap (λ (m : ℕ). is_over p.seats.moment (channel_at p.seats.table m)) is
            ∙ (position-Some (is_over p.seats.moment) p.seats.table.channels k None ends.over).1,
        subst (λ (m : ℕ). IsCleared m q) (sym is) cleared,
      )
      of n (inr ne) = inl (untouched n ne)

-- There is no channel past the 64 seats of a peer that stands for its link's traffic.
pub drops_outside : (p : Parts) (s : SeatsState) (k : ℕ) → Ends k p.seats s → 64 ≤ k → Drops p (record p { seats = s })
drops_outside p s k ends past_all = record {
  moment = ap (λ (o : SeatsState). o.moment) ends.is;
  swarm = ap (λ (o : SeatsState). o.descriptor) ends.is;
  turned = refl;
  sizes = (refl, refl);
  wanted = refl;
  rest = refl;
  each = λ n lt. inl (let ne : n ≢ k = λ is. below n is lt in record {
    channel = over_others p.seats s k n ne ends;
    messages = ap (λ (o : SeatsState). slice_get o.seats n) ends.is;
    slot = refl;
    waits = refl;
    offers = λ i. refl;
    question = refl;
  });
  stands = λ b most past h. absurd (none h.seats.standing.seated.are.seats);
}
  where
    below : (n : ℕ) → n ≡ k → n < 64 → ⊥
    below n is lt = omega (arith, past_all)

    c : (c : Channel) × (channel_at p.seats.table k ≡ Some c)
    c = over_there p.seats.moment p.seats.table k ends.over

    none : length p.seats.table.channels ≡ 64 → ⊥
    none long = let lt = within p.seats.table.channels k c.0 c.1 in omega (arith, past_all)

-- ---- all of them

pub drops_none : (p : Parts) → Drops p p
drops_none p = record {
  moment = refl;
  swarm = refl;
  turned = refl;
  sizes = (refl, refl);
  wanted = refl;
  rest = refl;
  each = λ n lt. inl (record {
    channel = stays_same (channel_at p.seats.table n);
    messages = refl;
    slot = refl;
    waits = refl;
    offers = λ i. refl;
    question = refl;
  });
  stands = λ b most past h. h;
}

untouched_twice : (n : ℕ) (a b c : Parts) → IsUntouched n a b → IsUntouched n b c → IsUntouched n a c
untouched_twice n a b c one two = record {
  channel = stays_twice (channel_at a.seats.table n) (channel_at b.seats.table n) (channel_at c.seats.table n) one.channel two.channel;
  messages = two.messages ∙ one.messages;
  slot = two.slot ∙ one.slot;
  waits = two.waits ∙ one.waits;
  offers = λ i. two.offers i ∙ one.offers i;
  question = two.question ∙ one.question;
}

cleared_on : (n : ℕ) (b c : Parts) → IsCleared n b → IsUntouched n b c → IsCleared n c
cleared_on n b c one two = record {
  channel = free_stays (channel_at b.seats.table n) (channel_at c.seats.table n) two.channel one.channel;
  own = ap own_at two.messages ∙ one.own;
  slot = two.slot ∙ one.slot;
  waits = two.waits ∙ one.waits;
  offers = λ i. two.offers i ∙ one.offers i;
  question = two.question ∙ one.question;
}

pub drops_twice : (a b c : Parts) → Drops a b → Drops b c → Drops a c
drops_twice a b c one two = record {
  moment = two.moment ∙ one.moment;
  swarm = two.swarm ∙ one.swarm;
  turned = two.turned ∙ one.turned;
  sizes = (two.sizes.0 ∙ one.sizes.0, two.sizes.1 ∙ one.sizes.1);
  wanted = two.wanted ∙ one.wanted;
  rest = two.rest ∙ ap (λ (o : Parts). record o { seats = c.seats; fetching = c.fetching; slots = c.slots; questions = c.questions }) one.rest;
  each = λ n lt. of n (one.each n lt) (two.each n lt);
  stands = λ x most past h. two.stands x most past (one.stands x most past h);
}
  where
    of : (n : ℕ) → IsUntouched n a b ⊎ ((is_over a.seats.moment (channel_at a.seats.table n) ≡ true) × IsCleared n b)
        → IsUntouched n b c ⊎ ((is_over b.seats.moment (channel_at b.seats.table n) ≡ true) × IsCleared n c)
        → IsUntouched n a c ⊎ ((is_over a.seats.moment (channel_at a.seats.table n) ≡ true) × IsCleared n c)
    of n (inl u) (inl v) = inl (untouched_twice n a b c u v)
    of n (inl u) (inr v) = inr (
      sym (over_stays a.seats.moment (channel_at a.seats.table n) (channel_at b.seats.table n) u.channel)
          ∙ ap (λ (m : ℕ). is_over m (channel_at b.seats.table n)) (sym one.moment) ∙ v.0,
      v.1,
    )
    of n (inr u) (inl v) = inr (u.0, cleared_on n b c u.1 v)
    of n (inr u) (inr v) = absurd (false≢true (sym (ap (is_over b.seats.moment) u.1.channel) ∙ v.0))
