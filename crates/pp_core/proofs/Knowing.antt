-- On which seats the other peer's number is known, once a datagram came.
use Rattle.std.proofs.Common.{◌≡◌, ◌≢◌, ⊎_elim, ℕ, Bool, true, false, not, ◌&&◌, Option, Some, None, option_map, List, take, refl, sym, ◌∙◌, ap, subst}
use Rattle.std.specs.Prelude.{is_some}
use Rattle.std.specs.Int.{w32, from_be_bytes}
use Rattle.std.proofs.lemmas.Bool.{cases_eq, false≢true, not_from_true, and_right}
use Rattle.pp_terms.specs.format.Descriptor.{Descriptor}
use Rattle.pp_outside.specs.declared.link.Address.{Address}
use Rattle.pp_channels.specs.Seats.{Seats, AreSeats, channel_at, changed, closed, answered, free_seat, is_dialled, unreplied, with_channel}
use Rattle.pp_channels.specs.Timing.{is_greeted}
use Rattle.pp_channels.specs.declared.channel.Channel.{Channel}
use Rattle.pp_channels.specs.declared.channel.State.TheVariants.{Proven}
use Rattle.pp_lives.specs.Arriving.{is_waiting_at, Arrives, Greets, Numbered}
use Rattle.pp_lives.specs.Fars.{far_of}
use Rattle.pp_lives.specs.Reading.{is_waiting}
use Rattle.pp_lives.specs.declared.arriving.Arrival.{Arrival}
use Rattle.pp_lives.specs.declared.arriving.Arrival.TheVariants as arrivals
use Rattle.pp_lives.specs.declared.lives.Far.{Far}
use Rattle.pp_lives.proofs.Changing.{made_is, changed_is, dropped_is}
use Rattle.pp_lives.proofs.Edits.{steady_again}
use Rattle.pp_peer.specs.Greeting.{StaysBut}
use Rattle.pp_seats.proofs.Outgoing.{far_is}
use Rattle.pp_core.specs.Remembering.{known_in, known_at}
use Rattle.pp_core.proofs.Before.{closed_there}
use Rattle.pp_core.proofs.Kept.{changed_there}
use Rattle.pp_core.proofs.Rooms.{at_changed}

-- ---- one seat

pub far_known : (o : Option Channel) (far : Far) → far_of o ≡ Some far → known_in o ≡ true
far_known o far e =
    let f = far_is o far e in
    ap known_in f.there ∙ ap not f.known

pub known_used : (o : Option Channel) → known_in o ≡ true → is_some o ≡ true
known_used None e = absurd (false≢true e)
known_used (Some c) e = refl

pub stays_known : (o p : Option Channel) → StaysBut o p → known_in p ≡ known_in o
stays_known None p s = ap known_in s
stays_known (Some c) p s = ap known_in s.1

waits_unknown : (o : Option Channel) → is_waiting_at o ≡ true → known_in o ≡ false
waits_unknown None e = absurd (false≢true e)
waits_unknown (Some c) e = not_from_true (is_waiting c) e

waits_used : (o : Option Channel) → is_waiting_at o ≡ true → is_some o ≡ true
waits_used None e = absurd (false≢true e)
waits_used (Some c) e = refl

-- ---- all seats

-- On the same seats it is known.
abbrev pub SameKnown : Seats → Seats → Type 0
SameKnown t new = (n : ℕ) → known_at new n ≡ known_at t n

known_same : (t new : Seats) → new ≡ t → SameKnown t new
known_same t new same n = ap (λ (x : Seats). known_at x n) same

known_on : (t mid new : Seats) → new ≡ mid → SameKnown t mid → SameKnown t new
known_on t mid new same k = subst (λ (x : Seats). SameKnown t x) (sym same) k

pub known_changed : (t : Seats) (k : ℕ) (f : Channel → Channel) → ((c : Channel) → channel_at t k ≡ Some c → is_waiting (f c) ≡ is_waiting c)
    → SameKnown t (changed t k f)
known_changed t k f keeps n = ⊎_elim
    (λ (here : n ≡ k). subst (λ (m : ℕ). known_at (changed t k f) m ≡ known_at t m) (sym here)
    (ap known_in (at_changed t.channels k f) ∙ of (channel_at t k) keeps))
    (λ (ne : n ≢ k). ap known_in (changed_there t k n f ne))
    (cases_eq n k)
  where
    of : (o : Option Channel) → ((c : Channel) → o ≡ Some c → is_waiting (f c) ≡ is_waiting c) → known_in (option_map f o) ≡ known_in o
    of None keeps = refl
    of (Some c) keeps = ap not (keeps c refl)

-- a channel whose other peer isn't known is dropped
known_closed : (t : Seats) (k : ℕ) (c : Channel) → channel_at t k ≡ Some c → known_at t k ≡ false → SameKnown t (closed t k)
known_closed t k c there unknown n = ⊎_elim
    (λ (here : n ≡ k). subst (λ (m : ℕ). known_at (closed t k) m ≡ known_at t m) (sym here)
    (ap known_in (dropped_is t k c there).free ∙ sym unknown))
    (λ (ne : n ≢ k). stays_known (channel_at t n) (channel_at (closed t k) n) (closed_there t k n ne))
    (cases_eq n k)

-- It becomes known on one seat alone, where it wasn't before.
pub record BeginsAt (seat : ℕ) (t new : Seats) : Type 0 where
  pub unknown : known_at t seat ≡ false
  pub known : known_at new seat ≡ true
  pub others : (n : ℕ) → n ≢ seat → known_at new n ≡ known_at t n

-- It does so where a channel is opened, and where one that is there is replied to.
abbrev pub Knows : Arrival → Seats → Seats → Type 0
Knows (arrivals.Opened seat next) t new = BeginsAt seat t new
Knows (arrivals.Replied seat) t new = BeginsAt seat t new × (is_some (channel_at t seat) ≡ true)
Knows _ t new = SameKnown t new

-- ---- a datagram

some_there : (o : Option Channel) → is_some o ≡ true → (c : Channel) × (o ≡ Some c)
some_there None e = absurd (false≢true e)
some_there (Some c) e = (c, refl)

module _ (d : Descriptor) (t : Seats) (sender : Address) (now : ℕ) (bytes : List ℕ) (new : Seats) (are : AreSeats t.channels) where
  opened_knows : (seat source : ℕ) → free_seat t ≡ Some seat → new ≡ with_channel (answered sender source now) t → BeginsAt seat t new
  opened_knows seat source free is =
      let m = made_is t seat (answered sender source now) (λ number. refl) are free in
      subst (λ (x : Seats). BeginsAt seat t x) (sym is) (record {
        unknown = ap known_in m.free;
        known = ap known_in m.change.there;
        others = λ n ne. ap known_in (m.change.others n ne);
      })

  greets_knows : (result : Arrival) → Greets d t sender now bytes result new → Knows result t new
  greets_knows arrivals.NoGreeting h = known_same t new h.2
  greets_knows arrivals.Unwelcome h = known_same t new h.1
  greets_knows arrivals.Unseated h = known_same t new h.does.2
  greets_knows (arrivals.Opened seat next) h = opened_knows seat h.source h.does.1 h.does.3
  greets_knows (arrivals.Again seat) h = known_on t _ new h.does.2.2
      (known_changed t h.does.0 (λ c. record c { opening = unreplied c.opening })
      (λ c there. ap (λ (b : Bool). b && is_greeted c.state) (steady_again c).dialled))
  greets_knows (arrivals.Late seat) h = known_same t new h.does.2.2
  greets_knows result h = absurd h.does.2

  proven_known : (k : ℕ) → is_waiting_at (channel_at t k) ≡ false → SameKnown t (changed t k (λ c. record c { state = Proven }))
  proven_known k known = known_changed t k (λ c. record c { state = Proven }) (λ c there.
      and_right (is_dialled c.opening) false refl ∙ sym (ap is_waiting_at (sym there) ∙ known))

  heard_after : (mid : Seats) (k : ℕ) → SameKnown mid (changed mid k (λ c. record c { heard = now }))
  heard_after mid k = known_changed mid k (λ c. record c { heard = now }) (λ c there. refl)

  replied_knows : (k source : ℕ) → is_waiting_at (channel_at t k) ≡ true
      → new ≡ changed (changed t k (λ c. record c { remote = Some source; state = Proven })) k (λ c. record c { heard = now })
      → BeginsAt k t new × (is_some (channel_at t k) ≡ true)
  replied_knows k source waits is =
      let used = waits_used (channel_at t k) waits in
      let c = some_there (channel_at t k) used in
      let f : Channel → Channel = λ c. record c { remote = Some source; state = Proven } in
      let first = changed_is t k c.0 f c.1 in
      let later = heard_after (changed t k f) k in (
        subst (λ (x : Seats). BeginsAt k t x) (sym is) (record {
          unknown = waits_unknown (channel_at t k) waits;
          known = later k ∙ ap known_in first.there ∙ ap not (and_right (is_dialled c.0.opening) false refl);
          others = λ n ne. later n ∙ ap known_in (first.others n ne);
        }),
        used,
      )

  waiting_closed : (k : ℕ) → is_waiting_at (channel_at t k) ≡ true → new ≡ closed t k → SameKnown t new
  waiting_closed k waits is =
      let c = some_there (channel_at t k) (waits_used (channel_at t k) waits) in
      known_on t (closed t k) new is (known_closed t k c.0 c.1 (waits_unknown (channel_at t k) waits))

  numbered_knows : (number : ℕ) (result : Arrival) → Numbered d t number sender now bytes result new → Knows result t new
  numbered_knows number arrivals.NoChannel h = known_same t new h.1
  numbered_knows number (arrivals.Heard seat) h = known_on t _ new h.does.2
      (λ n. heard_after (changed t h.seat (λ c. record c { state = Proven })) h.seat n ∙ proven_known h.seat h.does.1 n)
  numbered_knows number (arrivals.NoReply seat) h = known_same t new h.does.1.3
  numbered_knows number (arrivals.Cut seat) h = known_same t new h.does.1.2
  numbered_knows number (arrivals.Differs seat) h = waiting_closed h.seat h.does.0 h.does.1.does.2
  numbered_knows number (arrivals.Given seat) h = waiting_closed h.seat h.does.0 h.does.1.does.3
  numbered_knows number (arrivals.Replied seat) h = subst (λ (k : ℕ). BeginsAt k t new × (is_some (channel_at t k) ≡ true)) (sym h.does.1.does.0)
      (replied_knows h.seat h.does.1.source h.does.0 h.does.1.does.3)
  numbered_knows number result h = absurd h.does.1.does

  pub arrives_knows : (result : Arrival) → Arrives d t sender now bytes result new → Knows result t new
  arrives_knows arrivals.Short a = known_same t new a.1
  arrives_knows result a = ⊎_elim
      (λ here. greets_knows result (a.zero here))
      (λ apart. numbered_knows (from_be_bytes w32 (take 4 bytes)) result (a.other apart))
      (cases_eq (from_be_bytes w32 (take 4 bytes)) 0)
