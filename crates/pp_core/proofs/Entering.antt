-- Which channels are there after a datagram came, and which seat it came on.
use Rattle.std.proofs.Common.{◌≡◌, ◌≢◌, ◌⊎◌, inl, inr, ⊎_elim, ℕ, ◌<◌, ◌≤◌, eqb, Bool, true, false, ◌&&◌, Option, Some, None, option_map, List, [], ◌∷◌, length, take, drop, refl, sym, ◌∙◌, ap, subst, arith}
use Rattle.std.specs.Prelude.{position}
use Rattle.std.specs.Int.{w32, from_be_bytes}
use Rattle.std.specs.List.{list_any}
use Rattle.std.proofs.lemmas.Bool.{cases_eq, both_ways, false≢true, and_from, and_right, eq-eqb, eqb-true}
use Rattle.std.proofs.lemmas.Option.{same_Some}
use Rattle.pp_terms.specs.format.Descriptor.{Descriptor}
use Rattle.pp_terms.specs.format.Messages.{Message, Handshake, Messages, messages_at}
use Rattle.pp_terms.specs.format.Traffic as traffic
use Rattle.pp_terms.specs.format.Traffic.{Record, Received, same_address}
use Rattle.pp_terms.proofs.MovedSteps.{channel_none}
use Rattle.pp_traffic.specs.Life.{begins_fitting}
use Rattle.pp_traffic.specs.Past.{read, comes_from, is_number}
use Rattle.pp_traffic.specs.Plain.{is_handshake}
use Rattle.rand_chacha.specs.ChaCha.{next_word}
use Rattle.pp_outside.specs.Outside.{address_of, is_same}
use Rattle.pp_outside.specs.declared.link.Address.{Address}
use Rattle.pp_channels.specs.Seats.{Seats, AreSeats, channel_at, changed, closed, answered, free_seat, has_local, is_dialled, is_found, number_from, unreplied, with_channel, with_channel_at}
use Rattle.pp_channels.specs.declared.channel.Channel.{Channel}
use Rattle.pp_channels.specs.Timing.{is_greeted}
use Rattle.pp_channels.specs.declared.channel.Opening.{Opening}
use Rattle.pp_channels.specs.declared.channel.Opening.TheVariants.{Dialled, Answered}
use Rattle.pp_channels.specs.declared.channel.State.TheVariants.{Proven}
use Rattle.pp_lives.specs.Arriving.{contents, is_waiting_at, Comes, Greets, Numbered, IsNumbered, IsOwn, IsWelcome, Arrives}
use Rattle.pp_lives.specs.Reading.{is_waiting}
use Rattle.pp_lives.specs.declared.arriving.Arrival.{Arrival}
use Rattle.pp_lives.specs.declared.arriving.Arrival.TheVariants as arrivals
use Rattle.pp_lives.proofs.Arrivals.{number_read, contents_read, none_passes, found_there}
use Rattle.pp_lives.proofs.Changing.{number_new}
use Rattle.pp_lives.proofs.Sent.{same_self, same_is}
use Rattle.pp_core.proofs.Before.{made_there}
use Rattle.pp_core.proofs.Kept.{changed_there}
use Rattle.pp_core.proofs.Rooms.{at_changed}
use Rattle.pp_core.proofs.Staying.{as_same, AllCame, came_same, came_twice, came_on, came_changed, came_closed, KeepsNumbers, set_made}

-- ---- a seat's channel

-- The datagram opened the channel of a seat.
pub record IsOpened (sender : Address) (result : Arrival) (n : ℕ) (t : Seats) (c : Channel) : Type 0 where
  pub next : ℕ
  pub is : result ≡ arrivals.Opened n next
  pub address : c.address ≡ sender
  -- no channel had its number
  pub fresh : (other : ℕ) → has_local c.local (channel_at t other) ≡ false

-- The datagram is the reply that the channel of a seat awaited.
pub record IsReplied (result : Arrival) (n : ℕ) (t : Seats) (c : Channel) : Type 0 where
  pub is : result ≡ arrivals.Replied n
  pub before : Channel
  pub there : channel_at t n ≡ Some before
  pub waits : is_waiting before ≡ true
  pub address : before.address ≡ c.address
  pub local : before.local ≡ c.local

-- A channel whose other peer's number is known was there before, or the datagram opened it or is its reply.
abbrev pub Entered : Address → Arrival → Seats → Seats → Type 0
Entered sender result t new = (n : ℕ) (c : Channel) → channel_at new n ≡ Some c → is_waiting c ≡ false
    → ((e : Channel) × (channel_at t n ≡ Some e) × (is_waiting e ≡ false) × (e.address ≡ c.address) × (e.local ≡ c.local) × (e.remote ≡ c.remote))
    ⊎ (IsOpened sender result n t c ⊎ IsReplied result n t c)

came_entered : (sender : Address) (result : Arrival) (t new : Seats) → AllCame t new → Entered sender result t new
came_entered sender result t new came n c is known = inl (came n c is known)

still_dialled : (o : Opening) → is_dialled (unreplied o) ≡ is_dialled o
still_dialled (Dialled handshakes) = refl
still_dialled (Answered replied) = refl

again_keeps : (c : Channel) → KeepsNumbers (λ x. record x { opening = unreplied x.opening }) c
again_keeps c = record {
  waits = ap (λ (b : Bool). b && is_greeted c.state) (still_dialled c.opening);
  address = refl;
  local = refl;
  remote = refl;
}

heard_keeps : (now : ℕ) (c : Channel) → KeepsNumbers (λ x. record x { heard = now }) c
heard_keeps now c = record { waits = refl; address = refl; local = refl; remote = refl }

proven_keeps : (c : Channel) → is_waiting c ≡ false → KeepsNumbers (λ x. record x { state = Proven }) c
proven_keeps c known = record { waits = and_right _ false refl ∙ sym known; address = refl; local = refl; remote = refl }

waiting_not : (t : Seats) (k : ℕ) (c : Channel) → is_waiting_at (channel_at t k) ≡ false → channel_at t k ≡ Some c → is_waiting c ≡ false
waiting_not t k c known there = ap is_waiting_at (sym there) ∙ known

there_waits : (t : Seats) (k : ℕ) → is_waiting_at (channel_at t k) ≡ true → (c : Channel) × (channel_at t k ≡ Some c) × (is_waiting c ≡ true)
there_waits t k waits = of (channel_at t k) refl waits
  where
    of : (o : Option Channel) → channel_at t k ≡ o → is_waiting_at o ≡ true → (c : Channel) × (channel_at t k ≡ Some c) × (is_waiting c ≡ true)
    of None is e = absurd (false≢true e)
    of (Some c) is e = (c, is, e)

-- ---- what a datagram makes of the channels

module _ (d : Descriptor) (t : Seats) (sender : Address) (now : ℕ) (bytes : List ℕ) (new : Seats) where
  same_entered : (result : Arrival) → new ≡ t → Entered sender result t new
  same_entered result same = came_entered sender result t new (came_same t new same)

  opened_entered : (source seat next : ℕ) → free_seat t ≡ Some seat → new ≡ with_channel (answered sender source now) t
      → Entered sender (arrivals.Opened seat next) t new
  opened_entered source seat next free is n c there known = ⊎_elim
      (λ (here : n ≡ seat). inr (inl (record {
        next = next;
        is = ap (λ (m : ℕ). arrivals.Opened m next) (sym here);
        address = ap (λ (x : Channel). x.address) (made_at here);
        fresh = λ other. ap (λ (x : Channel). has_local x.local (channel_at t other)) (made_at here)
            ∙ (number_new t.channels seat (next_word 10 t.numbers).0 free).1 other;
      })))
      (λ (ne : n ≢ seat). inl (as_same (channel_at t n) (channel_at new n)
      (ap (λ (x : Seats). channel_at x n) made ∙ made_there t seat n (answered sender source now) ne) c there known))
      (cases_eq n seat)
    where
      made : new ≡ with_channel_at (Some seat) (answered sender source now) t
      made = is ∙ ap (λ (o : Option ℕ). with_channel_at o (answered sender source now) t) free

      made_at : n ≡ seat → c ≡ answered sender source now (number_from t.channels (next_word 10 t.numbers).0)
      made_at here = set_made t.channels seat (answered sender source now (number_from t.channels (next_word 10 t.numbers).0)) c
          (ap (λ (x : Seats). channel_at x seat) (sym made) ∙ ap (λ (m : ℕ). channel_at new m) (sym here) ∙ there)

  replied_entered : (source seat : ℕ) → is_waiting_at (channel_at t seat) ≡ true
      → new ≡ changed (changed t seat (λ c. record c { remote = Some source; state = Proven })) seat (λ c. record c { heard = now })
      → Entered sender (arrivals.Replied seat) t new
  replied_entered source seat waits is n c there known = ⊎_elim
      (λ (here : n ≡ seat).
      let was = there_waits t seat waits in
      let same = same_Some (record was.0 { remote = Some source; state = Proven; heard = now }) c (sym (at_both was.0 was.1)
      ∙ ap (λ (m : ℕ). channel_at new m) (sym here) ∙ there) in
      inr (inr (record {
        is = ap (λ (m : ℕ). arrivals.Replied m) (sym here);
        before = was.0;
        there = ap (λ (m : ℕ). channel_at t m) here ∙ was.1;
        waits = was.2;
        address = ap (λ (x : Channel). x.address) same;
        local = ap (λ (x : Channel). x.local) same;
      })))
      (λ (ne : n ≢ seat). inl (as_same (channel_at t n) (channel_at new n)
      (ap (λ (x : Seats). channel_at x n) is ∙ changed_there (changed t seat (λ c. record c { remote = Some source; state = Proven })) seat n
      (λ c. record c { heard = now }) ne
      ∙ changed_there t seat n (λ c. record c { remote = Some source; state = Proven }) ne) c there known))
      (cases_eq n seat)
    where
      at_both : (e : Channel) → channel_at t seat ≡ Some e → channel_at new seat ≡ Some (record e { remote = Some source; state = Proven; heard = now })
      at_both e there =
          ap (λ (x : Seats). channel_at x seat) is
          ∙ at_changed (changed t seat (λ c. record c { remote = Some source; state = Proven })).channels seat (λ c. record c { heard = now })
          ∙ ap (option_map (λ (c : Channel). record c { heard = now }))
          (at_changed t.channels seat (λ c. record c { remote = Some source; state = Proven })
          ∙ ap (option_map (λ (c : Channel). record c { remote = Some source; state = Proven })) there)

  heard_came : (seat : ℕ) → is_waiting_at (channel_at t seat) ≡ false
      → new ≡ changed (changed t seat (λ c. record c { state = Proven })) seat (λ c. record c { heard = now }) → AllCame t new
  heard_came seat known is = came_on t (changed (changed t seat (λ c. record c { state = Proven })) seat (λ c. record c { heard = now })) new is
      (came_twice t (changed t seat (λ c. record c { state = Proven }))
      (changed (changed t seat (λ c. record c { state = Proven })) seat (λ c. record c { heard = now }))
      (came_changed t seat (λ c. record c { state = Proven }) (λ c there. proven_keeps c (waiting_not t seat c known there)))
      (came_changed (changed t seat (λ c. record c { state = Proven })) seat (λ c. record c { heard = now }) (λ c there. heard_keeps now c)))

  greets_entered : (result : Arrival) → Greets d t sender now bytes result new → Entered sender result t new
  greets_entered arrivals.NoGreeting h = same_entered arrivals.NoGreeting h.2
  greets_entered arrivals.Unwelcome h = same_entered arrivals.Unwelcome h.1
  greets_entered arrivals.Unseated h = same_entered arrivals.Unseated h.does.2
  greets_entered (arrivals.Opened seat next) h = opened_entered h.source seat next h.does.1 h.does.3
  greets_entered (arrivals.Again seat) h = came_entered sender (arrivals.Again seat) t new (came_on t _ new h.does.2.2
      (came_changed t h.does.0 (λ c. record c { opening = unreplied c.opening }) (λ c there. again_keeps c)))
  greets_entered (arrivals.Late seat) h = same_entered (arrivals.Late seat) h.does.2.2
  greets_entered arrivals.Short h = absurd h.does.2
  greets_entered arrivals.NoChannel h = absurd h.does.2
  greets_entered (arrivals.NoReply seat) h = absurd h.does.2
  greets_entered (arrivals.Cut seat) h = absurd h.does.2
  greets_entered (arrivals.Differs seat) h = absurd h.does.2
  greets_entered (arrivals.Given seat) h = absurd h.does.2
  greets_entered (arrivals.Replied seat) h = absurd h.does.2
  greets_entered (arrivals.Heard seat) h = absurd h.does.2

  numbered_entered : (number : ℕ) (result : Arrival) → Numbered d t number sender now bytes result new → Entered sender result t new
  numbered_entered number arrivals.NoChannel h = same_entered arrivals.NoChannel h.1
  numbered_entered number (arrivals.Heard seat) h =
      came_entered sender (arrivals.Heard seat) t new (heard_came h.seat h.does.1 h.does.2)
  numbered_entered number (arrivals.NoReply seat) h = same_entered (arrivals.NoReply seat) h.does.1.3
  numbered_entered number (arrivals.Cut seat) h = same_entered (arrivals.Cut seat) h.does.1.2
  numbered_entered number (arrivals.Differs seat) h =
      came_entered sender (arrivals.Differs seat) t new (came_on t (closed t h.seat) new h.does.1.does.2 (came_closed t h.seat))
  numbered_entered number (arrivals.Given seat) h =
      came_entered sender (arrivals.Given seat) t new (came_on t (closed t h.seat) new h.does.1.does.3 (came_closed t h.seat))
  numbered_entered number (arrivals.Replied seat) h =
      subst (λ (k : ℕ). Entered sender (arrivals.Replied k) t new) (sym h.does.1.does.0)
      (replied_entered h.does.1.source h.seat h.does.0 h.does.1.does.3)
  numbered_entered number arrivals.Short h = absurd h.does.1.does
  numbered_entered number arrivals.NoGreeting h = absurd h.does.1.does
  numbered_entered number arrivals.Unwelcome h = absurd h.does.1.does
  numbered_entered number arrivals.Unseated h = absurd h.does.1.does
  numbered_entered number (arrivals.Opened seat next) h = absurd h.does.1.does
  numbered_entered number (arrivals.Again seat) h = absurd h.does.1.does
  numbered_entered number (arrivals.Late seat) h = absurd h.does.1.does

  any_entered : (result : Arrival) → IsNumbered d t sender now bytes result new → Entered sender result t new
  any_entered result h = ⊎_elim
      (λ here. greets_entered result (h.zero here))
      (λ apart. numbered_entered (from_be_bytes w32 (take 4 bytes)) result (h.other apart))
      (cases_eq (from_be_bytes w32 (take 4 bytes)) 0)

  pub arrives_entered : (result : Arrival) → Arrives d t sender now bytes result new → Entered sender result t new
  arrives_entered arrivals.Short h = same_entered arrivals.Short h.1
  arrives_entered arrivals.NoGreeting h = any_entered arrivals.NoGreeting h
  arrives_entered arrivals.Unwelcome h = any_entered arrivals.Unwelcome h
  arrives_entered arrivals.Unseated h = any_entered arrivals.Unseated h
  arrives_entered (arrivals.Opened seat next) h = any_entered (arrivals.Opened seat next) h
  arrives_entered (arrivals.Again seat) h = any_entered (arrivals.Again seat) h
  arrives_entered (arrivals.Late seat) h = any_entered (arrivals.Late seat) h
  arrives_entered arrivals.NoChannel h = any_entered arrivals.NoChannel h
  arrives_entered (arrivals.NoReply seat) h = any_entered (arrivals.NoReply seat) h
  arrives_entered (arrivals.Cut seat) h = any_entered (arrivals.Cut seat) h
  arrives_entered (arrivals.Differs seat) h = any_entered (arrivals.Differs seat) h
  arrives_entered (arrivals.Given seat) h = any_entered (arrivals.Given seat) h
  arrives_entered (arrivals.Replied seat) h = any_entered (arrivals.Replied seat) h
  arrives_entered (arrivals.Heard seat) h = any_entered (arrivals.Heard seat) h

  -- a datagram that opens a channel is a handshake for channel 0
  pub opened_welcome : (seat next : ℕ) → Arrives d t sender now bytes (arrivals.Opened seat next) new
      → (from_be_bytes w32 (take 4 bytes) ≡ 0) × IsWelcome d t sender now bytes (arrivals.Opened seat next) new
  opened_welcome seat next h = ⊎_elim
      (λ here. (here, h.zero here))
      (λ apart. absurd (h.other apart).does.1.does)
      (cases_eq (from_be_bytes w32 (take 4 bytes)) 0)

fitting_shakes : (d : Descriptor) (is_reply : Bool) (number : ℕ) (ms : List Message) → begins_fitting d is_reply number ms ≡ true
    → list_any is_handshake ms ≡ true
fitting_shakes d is_reply number [] e = absurd cc
fitting_shakes d is_reply number (Handshake source options ∷ ms) e = refl
fitting_shakes d is_reply number (_ ∷ ms) e = absurd cc

-- What is read of a datagram that opened a channel: a handshake for channel 0, and the messages behind it.
pub record IsAnew (d : Descriptor) (r : Record) (bytes : List ℕ) (next : ℕ) : Type 0 where
  pub zero : is_number 0 (read d r).channel ≡ true
  pub shakes : list_any is_handshake (read d r).messages.read ≡ true
  pub behind : (messages_at d.method d.chunk next (drop next bytes)).read ≡ drop 1 (read d r).messages.read

pub opened_anew : (d : Descriptor) (t new : Seats) (sender : Address) (now moment seat next : ℕ) (bytes : List ℕ)
    → Arrives d t sender now bytes (arrivals.Opened seat next) new → IsAnew d (Received moment (address_of sender) bytes) bytes next
opened_anew d t new sender now moment seat next bytes h =
    let w = opened_welcome d t sender now bytes new seat next h in
    let same = contents_read d bytes h.long in
    record {
      zero = ap (is_number 0) (number_read d (Received moment (address_of sender) bytes) bytes refl h.long) ∙ eq-eqb _ 0 w.0;
      shakes = ap (λ (m : Messages). list_any is_handshake m.read) same
          ∙ fitting_shakes d false w.1.source (contents d bytes).read w.1.fitting;
      behind = ap (λ (n : ℕ). (messages_at d.method d.chunk n (drop n bytes)).read) w.1.does.2
          ∙ ap (λ (m : Messages). m.read) w.1.behind ∙ ap (λ (m : Messages). drop 1 m.read) (sym same);
    }

-- ---- a datagram for a channel's number

-- it is long enough to have a number
numbered_of : (d : Descriptor) (t : Seats) (sender : Address) (now : ℕ) (bytes : List ℕ) (result : Arrival) (new : Seats)
    → Arrives d t sender now bytes result new → (length bytes < 4) ⊎ IsNumbered d t sender now bytes result new
numbered_of d t sender now bytes arrivals.Short new a = inl a.0
numbered_of d t sender now bytes result new a = inr a

-- a channel has that number
owned_of : (d : Descriptor) (t : Seats) (number : ℕ) (sender : Address) (now : ℕ) (bytes : List ℕ) (result : Arrival) (new : Seats)
    → Numbered d t number sender now bytes result new
    → (position (is_found number sender) t.channels ≡ None) ⊎ IsOwn d t number sender now bytes result new
owned_of d t number sender now bytes arrivals.NoChannel new a = inl a.0
owned_of d t number sender now bytes result new a = inr a

-- on a channel that is known it is heard
known_heard : (d : Descriptor) (t : Seats) (seat : ℕ) (sender : Address) (now : ℕ) (bytes : List ℕ) (result : Arrival) (new : Seats)
    → is_waiting_at (channel_at t seat) ≡ false → Comes d t seat sender now bytes result new → result ≡ arrivals.Heard seat
known_heard d t seat sender now bytes (arrivals.Heard k) new known c = ap (λ (n : ℕ). arrivals.Heard n) c.0
known_heard d t seat sender now bytes result new known c = absurd (both_ways (is_waiting_at (channel_at t seat)) known c.0)

-- One from the address and for the number of a channel whose other peer's number is known is heard there.
pub heard_on : (d : Descriptor) (t new : Seats) (sender : Address) (now : ℕ) (bytes : List ℕ) (result : Arrival) (seat moment : ℕ) (c : Channel)
    → AreSeats t.channels → Arrives d t sender now bytes result new → channel_at t seat ≡ Some c → is_waiting c ≡ false
    → comes_from (address_of c.address) (Received moment (address_of sender) bytes) ≡ true
    → is_number c.local (read d (Received moment (address_of sender) bytes)).channel ≡ true
    → (result ≡ arrivals.Heard seat) × (4 ≤ length bytes)
heard_on d t new sender now bytes result seat moment c are arrives there known from for_it = ⊎_elim
    (λ short. absurd (let none = ap (is_number c.local) (channel_none d bytes short) in
    both_ways (is_number c.local (read d came).channel) none for_it))
    (λ a. (known_heard d t seat sender now bytes result new (ap is_waiting_at there ∙ known) (comes a), a.long))
    (numbered_of d t sender now bytes result new arrives)
  where
    came : Record
    came = Received moment (address_of sender) bytes

    same : address_of c.address ≡ address_of sender
    same = sym (same_is (address_of sender) (address_of c.address) from)

    comes : IsNumbered d t sender now bytes result new → Comes d t seat sender now bytes result new
    comes a = ⊎_elim
        (λ none. absurd (both_ways (is_found n sender (channel_at t seat)) (none_passes (is_found n sender) t.channels seat refl none)
        (ap (is_found n sender) there ∙ and_from (eqb c.local n) (is_same c.address sender) (eq-eqb c.local n (sym number))
        (ap (λ (x : traffic.Address). same_address x (address_of sender)) same ∙ same_self (address_of sender)))))
        (λ own. let f = found_there t own.seat n sender own.found in
        let one : seat ≡ own.seat = are.differ seat own.seat c f.channel there f.there (sym number ∙ sym f.local) in
        subst (λ (k : ℕ). Comes d t k sender now bytes result new) (sym one) own.does)
        (owned_of d t n sender now bytes result new (a.other (λ zero_is. omega (arith, some, number, zero_is))))
      where
        n : ℕ
        n = from_be_bytes w32 (take 4 bytes)

        some : 0 < c.local
        some = are.some seat c there

        number : n ≡ c.local
        number = eqb-true n c.local (sym (ap (is_number c.local) (number_read d came bytes refl a.long)) ∙ for_it)
