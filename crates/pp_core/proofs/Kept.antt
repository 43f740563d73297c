-- What is kept of a seat while other things are done.
use Rattle.std.proofs.Common.{◌≡◌, ◌≢◌, ◌⊎◌, inl, inr, ℕ, Bool, true, false, cond, Option, Some, None, refl, sym, ◌∙◌, ap, subst, ◌||◌, not}
use Rattle.std.specs.Prelude.{is_some, option_map, slice_index_or, slice_set, nat_lt}
use Rattle.std.specs.List.{slice_get}
use Rattle.std.proofs.Math.ListN.{set}
use Rattle.std.proofs.lemmas.Bool.{cases_eq}
use Rattle.std.proofs.lemmas.List.{get_or-set_other}
use Rattle.pp_requests.specs.declared.asking.Asking.{Asking}
use Rattle.pp_requests.specs.Moments.{entry_of}
use Rattle.pp_requests.specs.Seats.{Seating}
use Rattle.pp_counts.specs.declared.counts.Counts.{Counts}
use Rattle.pp_channels.specs.Seats.{Seats, channel_at, changed, with_handshake}
use Rattle.pp_channels.specs.declared.channel.Channel.{Channel}
use Rattle.pp_lives.specs.Sending.{with_datagram}
use Rattle.pp_seat.specs.Seats.{SeatState}
use Rattle.pp_seat.specs.Turns.{due_turn}
use Rattle.pp_seat.specs.declared.service.Turn.{Turn}
use Rattle.pp_seat.specs.declared.service.Turn.TheVariants.{Choke, Unchoke}
use Rattle.pp_seats.specs.Sending.{with_sent}
use Rattle.pp_seats.specs.Standing.{SeatsState}
use Rattle.pp_seats.specs.Turning.{Turns}
use Rattle.pp_seats.proofs.Lists.{get_set_there, get_set_other}
use Rattle.pp_peer.specs.declared.parts.Parts.{Parts}
use Rattle.pp_peer.specs.Greeting.{StaysBut, IsSpent}

-- ---- a seat's state

-- A seat is as it was, but for own requests that expired or were lost, and for CHOKE or UNCHOKE, which may become due.
pub record StateKept (now : ℕ) (old new : SeatState) : Type 0 where
  pub rest : new ≡ record old { own = new.own; stopped = new.stopped; owes = new.owes }
  pub own : (i : ℕ) → (entry_of new.own i ≡ entry_of old.own i) ⊎ IsSpent now (entry_of old.own i)
  pub owes : old.owes ≡ true → new.owes ≡ true

abbrev pub StateAt : ℕ → Option SeatState → Option SeatState → Type 0
StateAt now None new = new ≡ None
StateAt now (Some old) new = (left : SeatState) × (new ≡ Some left) × StateKept now old left

pub state_none : (now : ℕ) (o : Option SeatState) → StateAt now o o
state_none now None = refl
state_none now (Some s) = (s, refl, record { rest = refl; own = λ i. inl refl; owes = λ due. due })

pub state_same : (now : ℕ) (o p : Option SeatState) → p ≡ o → StateAt now o p
state_same now o p same = subst (λ (x : Option SeatState). StateAt now o x) (sym same) (state_none now o)

own_twice : (now : ℕ) (a b c : Option Asking) → (b ≡ a) ⊎ IsSpent now a → (c ≡ b) ⊎ IsSpent now b → (c ≡ a) ⊎ IsSpent now a
own_twice now a b c (inr x) two = inr x
own_twice now a b c (inl e) (inl f) = inl (f ∙ e)
own_twice now a b c (inl e) (inr x) = inr (subst (λ (o : Option Asking). IsSpent now o) e x)

pub state_twice : (now : ℕ) (o p q : Option SeatState) → StateAt now o p → StateAt now p q → StateAt now o q
state_twice now None p q one two = let t = subst (λ (x : Option SeatState). StateAt now x q) one two in t
state_twice now (Some s) p q one two =
    let t = subst (λ (x : Option SeatState). StateAt now x q) one.1 two in (
      t.0,
      t.1,
      record {
        rest = t.2.rest ∙ ap (λ (x : SeatState). record x { own = t.0.own; stopped = t.0.stopped; owes = t.0.owes }) one.2.rest;
        own = λ i. own_twice now (entry_of s.own i) (entry_of one.0.own i) (entry_of t.0.own i) (one.2.own i) (t.2.own i);
        owes = λ due. t.2.owes (one.2.owes due);
      },
    )

pub state_owes : (now : ℕ) (s left : SeatState) → left ≡ record s { owes = true } → StateKept now s left
state_owes now s left is = subst (λ (x : SeatState). StateKept now s x) (sym is) (record { rest = refl; own = λ i. inl refl; owes = λ due. refl })

owed : (b : Bool) (o : Option Turn) (turn : Turn) → cond b o None ≡ Some turn → b ≡ true
owed true o turn e = refl
owed false o turn e = absurd cc

-- what is due of CHOKE and UNCHOKE stays due
pub turn_stays : (now : ℕ) (s left : SeatState) (turn : Turn) → StateKept now s left → due_turn s ≡ Some turn → due_turn left ≡ Some turn
turn_stays now s left turn k due =
    let was = owed s.owes (cond (s.slot || not s.choked) (Some Choke) (Some Unchoke)) turn due in
    ap due_turn k.rest ∙ ap (λ (b : Bool). cond b (cond (s.slot || not s.choked) (Some Choke) (Some Unchoke)) None) (k.owes was ∙ sym was) ∙ due

-- ---- channels

pub stays_same : (o p : Option Channel) → p ≡ o → StaysBut o p
stays_same None p e = e
stays_same (Some c) p e = (c.shadowed, e)

pub stays_twice : (o p q : Option Channel) → StaysBut o p → StaysBut p q → StaysBut o q
stays_twice None p q one two = let t = subst (λ (x : Option Channel). StaysBut x q) one two in t
stays_twice (Some c) p q one two = let t = subst (λ (x : Option Channel). StaysBut x q) one.1 two in (t.0, t.1)

-- ---- what a datagram does to the channels

pub changed_there : (t : Seats) (k n : ℕ) (f : Channel → Channel) → n ≢ k → channel_at (changed t k f) n ≡ channel_at t n
changed_there t k n f ne = get_or-set_other t.channels k n (option_map f (channel_at t k)) None ne

pub datagram_there : (t : Seats) (k n : ℕ) (opens : Bool) (now : ℕ) → n ≢ k → channel_at (with_datagram t k opens now) n ≡ channel_at t n
datagram_there t k n true now ne =
    changed_there (changed t k (λ c. record c { wrote = now })) k n (λ c. record c { opening = with_handshake c.opening }) ne
    ∙ changed_there t k n (λ c. record c { wrote = now }) ne
datagram_there t k n false now ne = changed_there t k n (λ c. record c { wrote = now }) ne

pub sent_there : (t : Seats) (k n : ℕ) (opens : Bool) (sent now : ℕ) → n ≢ k → channel_at (with_sent t k opens sent now) n ≡ channel_at t n
sent_there t k n opens sent now ne = of (nat_lt 0 sent)
  where
    of : (b : Bool) → channel_at (cond b (with_datagram t k opens now) t) n ≡ channel_at t n
    of true = datagram_there t k n opens now ne
    of false = refl

-- ---- a seat of all seats

-- Of a seat the channel and the state are kept.
pub record SeatKept (seat : ℕ) (old new : SeatsState) : Type 0 where
  pub swarm : new.descriptor ≡ old.descriptor
  pub moment : new.moment ≡ old.moment
  pub channel : StaysBut (channel_at old.table seat) (channel_at new.table seat)
  pub state : StateAt old.moment (slice_get old.seats seat) (slice_get new.seats seat)

pub seat_none : (seat : ℕ) (p q : SeatsState) → q ≡ p → SeatKept seat p q
seat_none seat p q same = subst (λ (x : SeatsState). SeatKept seat p x) (sym same) (record {
  swarm = refl;
  moment = refl;
  channel = stays_same (channel_at p.table seat) (channel_at p.table seat) refl;
  state = state_none p.moment (slice_get p.seats seat);
})

pub seat_twice : (seat : ℕ) (a b c : SeatsState) → SeatKept seat a b → SeatKept seat b c → SeatKept seat a c
seat_twice seat a b c one two = record {
  swarm = two.swarm ∙ one.swarm;
  moment = two.moment ∙ one.moment;
  channel = stays_twice (channel_at a.table seat) (channel_at b.table seat) (channel_at c.table seat) one.channel two.channel;
  state = state_twice a.moment (slice_get a.seats seat) (slice_get b.seats seat) (slice_get c.seats seat) one.state
      (subst (λ (n : ℕ). StateAt n (slice_get b.seats seat) (slice_get c.seats seat)) one.moment two.state);
}

-- where another seat's channel and state change
pub seat_other : (seat k : ℕ) (old new : SeatsState) (table : Seats) (after : SeatState) → seat ≢ k
    → new ≡ record old { table = table; seats = slice_set old.seats k after }
    → channel_at table seat ≡ channel_at old.table seat → SeatKept seat old new
seat_other seat k old new table after ne is same = subst (λ (x : SeatsState). SeatKept seat old x) (sym is) (record {
  swarm = refl;
  moment = refl;
  channel = stays_same (channel_at old.table seat) (channel_at table seat) same;
  state = state_same old.moment (slice_get old.seats seat) (slice_get (slice_set old.seats k after) seat) (get_set_other old.seats k seat after ne);
})

pub seat_table : (seat : ℕ) (old new : SeatsState) (table : Seats) → new ≡ record old { table = table }
    → channel_at table seat ≡ channel_at old.table seat
    → SeatKept seat old new
seat_table seat old new table is same = subst (λ (x : SeatsState). SeatKept seat old x) (sym is) (record {
  swarm = refl;
  moment = refl;
  channel = stays_same (channel_at old.table seat) (channel_at table seat) same;
  state = state_none old.moment (slice_get old.seats seat);
})

-- where a turn becomes due, on whichever seat
pub seat_turned : (seat k : ℕ) (old new : SeatsState) → Turns k old new → SeatKept seat old new
seat_turned seat k old new t = of (cases_eq seat k)
  where
    here : seat ≡ k → StateAt old.moment (slice_get old.seats seat) (slice_get (slice_set old.seats k t.after) seat)
    here is = subst (λ (n : ℕ). StateAt old.moment (slice_get old.seats n) (slice_get (slice_set old.seats k t.after) n)) (sym is)
        (subst (λ (o : Option SeatState). StateAt old.moment o (slice_get (slice_set old.seats k t.after) k)) (sym t.there)
        (t.after, get_set_there old.seats k t.after t.before t.there, state_owes old.moment t.before t.after t.exact))

    of : (seat ≡ k) ⊎ (seat ≡ k → ⊥) → SeatKept seat old new
    of (inl is) = subst (λ (x : SeatsState). SeatKept seat old x) (sym t.is) (record {
      swarm = refl;
      moment = refl;
      channel = stays_same (channel_at old.table seat) (channel_at old.table seat) refl;
      state = here is;
    })
    of (inr ne) = seat_other seat k old new old.table t.after ne t.is refl

-- ---- a seat of a peer

-- Of a seat all is kept that what is told there depends on.
pub record Kept (seat : ℕ) (old new : Parts) : Type 0 where
  pub seats : SeatKept seat old.seats new.seats
  pub holding : new.holding ≡ old.holding
  pub fetches : is_some new.fetching ≡ is_some old.fetching
  pub table : new.pex.table ≡ old.pex.table
  pub question : slice_index_or new.questions seat false ≡ slice_index_or old.questions seat false
  pub proof : slice_index_or new.to_prove seat false ≡ slice_index_or old.to_prove seat false
  pub supports : new.supports ≡ old.supports

pub kept_none : (seat : ℕ) (p q : Parts) → q ≡ p → Kept seat p q
kept_none seat p q same = subst (λ (x : Parts). Kept seat p x) (sym same) (record {
  seats = seat_none seat p.seats p.seats refl;
  holding = refl;
  fetches = refl;
  table = refl;
  question = refl;
  proof = refl;
  supports = refl;
})

pub kept_twice : (seat : ℕ) (a b c : Parts) → Kept seat a b → Kept seat b c → Kept seat a c
kept_twice seat a b c one two = record {
  seats = seat_twice seat a.seats b.seats c.seats one.seats two.seats;
  holding = two.holding ∙ one.holding;
  fetches = two.fetches ∙ one.fetches;
  table = two.table ∙ one.table;
  question = two.question ∙ one.question;
  proof = two.proof ∙ one.proof;
  supports = two.supports ∙ one.supports;
}

-- where only the seats, the slots and the counts changed
pub kept_rest : (seat : ℕ) (old new : Parts) (seats : SeatsState) (slots : Seating) (counts : Counts)
    → new ≡ record old { seats = seats; slots = slots; counts = counts }
    → SeatKept seat old.seats new.seats → Kept seat old new
kept_rest seat old new seats slots counts rest kept = record {
  seats = kept;
  holding = ap (λ (p : Parts). p.holding) rest;
  fetches = ap (λ (p : Parts). is_some p.fetching) rest;
  table = ap (λ (p : Parts). p.pex.table) rest;
  question = ap (λ (p : Parts). slice_index_or p.questions seat false) rest;
  proof = ap (λ (p : Parts). slice_index_or p.to_prove seat false) rest;
  supports = ap (λ (p : Parts). p.supports) rest;
}
