-- A channel that stays while others are dropped, dialled or written to.
use Rattle.std.proofs.Common.{◌≡◌, ◌≢◌, ℕ, Bool, true, false, Option, Some, None, List, [], ◌∷◌, refl, sym, ◌∙◌, ap}
use Rattle.std.specs.Prelude.{option_map, position, is_none}
use Rattle.std.proofs.lemmas.Bool.{false≢true}
use Rattle.std.proofs.lemmas.List.{get_or-set_same, get_or-set_other}
use Rattle.std.proofs.lemmas.List.Quantifiers.{position-Some}
use Rattle.rand_chacha.specs.ChaCha.{next_word}
use Rattle.pp_channels.specs.Seats.{Seats, channel_at, changed, closed, free_seat, after_drop, with_channel, with_channel_at, number_from, with_handshake}
use Rattle.pp_channels.specs.Timing.{is_over, is_over_in}
use Rattle.pp_channels.specs.declared.channel.State.{State}
use Rattle.pp_channels.specs.declared.channel.State.TheVariants.{Greeted, Proven}
use Rattle.pp_channels.specs.declared.channel.Channel.{Channel}
use Rattle.pp_lives.specs.Sending.{with_datagram}
use Rattle.pp_lives.proofs.Arrivals.{there_of}
use Rattle.pp_lives.proofs.Changing.{dropped_is}
use Rattle.pp_learner.specs.Dialling.{Drops}

-- the channel is there, but maybe for the mark that another one of its address was dropped
pub record Still (c : Channel) (o : Option Channel) : Type 0 where
  pub mark : Bool
  pub is : o ≡ Some (record c { shadowed = mark })

pub still_there : (c : Channel) (o : Option Channel) → o ≡ Some c → Still c o
still_there c o there = record { mark = c.shadowed; is = there }

pub still_same : (c : Channel) (o p : Option Channel) → p ≡ o → Still c o → Still c p
still_same c o p same s = record { mark = s.mark; is = same ∙ s.is }

still_after : (c : Channel) (dropped o p : Option Channel) → p ≡ after_drop dropped o → Still c o → Still c p
still_after c dropped o p after s = record { mark = _; is = after ∙ ap (after_drop dropped) s.is }

pub still_dropped : (c e : Channel) (t : Seats) (seat other : ℕ) → channel_at t other ≡ Some e → seat ≢ other → Still c (channel_at t seat)
    → Still c (channel_at (closed t other) seat)
still_dropped c e t seat other there ne s = still_after c (Some e) (channel_at t seat) (channel_at (closed t other) seat) ((dropped_is t other e there).others seat ne) s

-- ---- channels whose time is over

pub over_there : (now : ℕ) (t : Seats) (k : ℕ) → position (is_over now) t.channels ≡ Some k → is_over now (channel_at t k) ≡ true
over_there now t k over = (position-Some (is_over now) t.channels k None over).1

marked_over : (now : ℕ) (c : Channel) (mark : Bool) → is_over now (Some (record c { shadowed = mark })) ≡ is_over now (Some c)
marked_over now c mark = by c.state
  where
    by : (state : State) → is_over_in state now (record c { shadowed = mark }) ≡ is_over_in state now c
    by Greeted = refl
    by Proven = refl

pub drops_still : (now : ℕ) (seats : List ℕ) (old new : Seats) (seat : ℕ) (c : Channel) → Drops now seats old new → is_over now (Some c) ≡ false
    → Still c (channel_at old seat) → Still c (channel_at new seat)
drops_still now [] old new seat c drops lasts s = still_same c (channel_at old seat) (channel_at new seat) (ap (λ (t : Seats). channel_at t seat) drops.0) s
drops_still now (k ∷ seats) old new seat c drops lasts s =
    let over = over_there now old k drops.0 in
    let e = there_of (is_over now) (channel_at old k) refl over in
    let apart : seat ≢ k = λ same. false≢true (sym lasts ∙ sym (ap (is_over now) (sym (ap (channel_at old) same) ∙ s.is) ∙ marked_over now c s.mark) ∙ over) in
    drops_still now seats (closed old k) new seat c drops.1 lasts (still_dropped c e.0 old seat k e.1 apart s)

-- ---- writing

pub changed_other : (t : Seats) (seat other : ℕ) (f : Channel → Channel) → other ≢ seat → channel_at (changed t seat f) other ≡ channel_at t other
changed_other t seat other f ne = get_or-set_other t.channels seat other (option_map f (channel_at t seat)) None ne

pub sent_other : (t : Seats) (seat other : ℕ) (handshake : Bool) (now : ℕ) → other ≢ seat → channel_at (with_datagram t seat handshake now) other ≡ channel_at t other
sent_other t seat other true now ne =
    changed_other (changed t seat (λ c. record c { wrote = now })) seat other (λ c. record c { opening = with_handshake c.opening }) ne
    ∙ changed_other t seat other (λ c. record c { wrote = now }) ne
sent_other t seat other false now ne = changed_other t seat other (λ c. record c { wrote = now }) ne

-- ---- dialling

-- a seat that is in use isn't free
pub used_apart : (t : Seats) (seat k : ℕ) (c : Channel) → Still c (channel_at t seat) → free_seat t ≡ Some k → seat ≢ k
used_apart t seat k c s free same =
    let none = (position-Some is_none t.channels k None free).1 in
    false≢true (ap is_none (sym s.is ∙ ap (channel_at t) same) ∙ none)

pub made_other : (t : Seats) (seat k : ℕ) (make : ℕ → Channel) → free_seat t ≡ Some k → seat ≢ k → channel_at (with_channel make t) seat ≡ channel_at t seat
made_other t seat k make free ne =
    ap (λ (o : Option ℕ). channel_at (with_channel_at o make t) seat) free
    ∙ get_or-set_other t.channels k seat (Some (make (number_from t.channels (next_word 10 t.numbers).0))) None ne

-- where a channel was made at a free seat, it is there
pub made_there : (t : Seats) (k : ℕ) (make : ℕ → Channel) → free_seat t ≡ Some k → (c : Channel) × (channel_at (with_channel make t) k ≡ Some c)
made_there t k make free =
    let first = position-Some is_none t.channels k None free in (
      make (number_from t.channels (next_word 10 t.numbers).0),
      ap (λ (o : Option ℕ). channel_at (with_channel_at o make t) k) free
          ∙ get_or-set_same t.channels k (Some (make (number_from t.channels (next_word 10 t.numbers).0))) None first.0,
    )
