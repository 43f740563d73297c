-- Where messages are read, the seat is in use.
use Rattle.std.proofs.Common.{◌≡◌, ⊎_elim, ℕ, ◌<◌, ◌≤◌, eqb, Option, Some, None, List, length, take, drop, refl, sym, ap, subst, arith}
use Rattle.std.specs.Prelude.{IsSome, is_none, position}
use Rattle.std.specs.Int.{w32, from_be_bytes}
use Rattle.std.proofs.lemmas.List.Quantifiers.{position-Some}
use Rattle.std.proofs.lemmas.Bool.{cases_Bool, eqb-true, eqb-false}
use Rattle.pp_terms.specs.format.Descriptor.{Descriptor}
use Rattle.pp_terms.specs.format.Messages.{Messages, messages_at}
use Rattle.pp_outside.specs.declared.link.Address.{Address}
use Rattle.pp_channels.specs.Seats.{Seats, channel_at, AreSeats, IsUsedSeat, is_found, is_source, answered, unreplied, changed, free_seat, with_channel}
use Rattle.pp_channels.specs.declared.channel.State.TheVariants.{Proven}
use Rattle.pp_channels.specs.declared.channel.Channel.{Channel}
use Rattle.pp_lives.specs.Arriving.{Arrives, IsNumbered, Greets, Numbered, IsSeated, Proves, IsBehind, is_proven_at, contents}
use Rattle.pp_lives.specs.declared.arriving.Arrival.{Arrival}
use Rattle.pp_lives.specs.declared.arriving.Arrival.TheVariants.{Short, NoGreeting, Unwelcome, Again, Late, Unseated, Opened, NoChannel, NoReply, Cut, Differs, Given, Replied, Heard}
use Rattle.pp_lives.proofs.Changing.{changed_is, made_is}
use Rattle.pp_lives.proofs.Arrivals.{there_of}

record IsThere (t : Seats) (seat : ℕ) : Type 0 where
  channel : Channel
  there : channel_at t seat ≡ Some channel
  low : seat < 64

found_seat : (t : Seats) (seat number : ℕ) (sender : Address) → AreSeats t.channels → position (is_found number sender) t.channels ≡ Some seat → IsThere t seat
found_seat t seat number sender are found =
    let p = position-Some (is_found number sender) t.channels seat None found in
    let c = there_of (is_found number sender) (channel_at t seat) refl p.1 in
    record { channel = c.0; there = c.1; low = (let lt = p.0 in let is = are.seats in omega arith) }

source_seat : (t : Seats) (seat source : ℕ) (sender : Address) → AreSeats t.channels → position (is_source sender source) t.channels ≡ Some seat → IsThere t seat
source_seat t seat source sender are found =
    let p = position-Some (is_source sender source) t.channels seat None found in
    let c = there_of (is_source sender source) (channel_at t seat) refl p.1 in
    record { channel = c.0; there = c.1; low = (let lt = p.0 in let is = are.seats in omega arith) }

-- the channel at a seat that was changed once or twice, and one that was made
record IsAt (new : Seats) (seat : ℕ) (c : Channel) : Type 0 where
  there : channel_at new seat ≡ Some c
  low : seat < 64

used_at : (new : Seats) (seat : ℕ) (c : Channel) → IsAt new seat c → IsUsedSeat new seat
used_at new seat c is = (is.low, subst (λ (o : Option Channel). IsSome o) (sym is.there) refl)

used_still : (t new : Seats) (seat : ℕ) → IsThere t seat → new ≡ t → IsUsedSeat new seat
used_still t new seat h is = subst (λ (x : Seats). IsUsedSeat x seat) (sym is) (used_at t seat h.channel (record { there = h.there; low = h.low }))

once_at : (t new : Seats) (seat : ℕ) (f : Channel → Channel) → (h : IsThere t seat) → new ≡ changed t seat f → IsAt new seat (f h.channel)
once_at t new seat f h is =
    let one = changed_is t seat h.channel f h.there in
    subst (λ (x : Seats). IsAt x seat (f h.channel)) (sym is) (record { there = one.there; low = h.low })

twice_at : (t new : Seats) (seat : ℕ) (f g : Channel → Channel) → (h : IsThere t seat) → new ≡ changed (changed t seat f) seat g → IsAt new seat (g (f h.channel))
twice_at t new seat f g h is =
    let one = changed_is t seat h.channel f h.there in
    let two = changed_is (changed t seat f) seat (f h.channel) g one.there in
    subst (λ (x : Seats). IsAt x seat (g (f h.channel))) (sym is) (record { there = two.there; low = h.low })

made_at : (t new : Seats) (seat source moment : ℕ) (sender : Address) → AreSeats t.channels → free_seat t ≡ Some seat
    → new ≡ with_channel (answered sender source moment) t → (number : ℕ) × IsAt new seat (answered sender source moment number)
made_at t new seat source moment sender are free is =
    let p = position-Some is_none t.channels seat None free in
    let made = made_is t seat (answered sender source moment) (λ n. refl) are free in
    let low : seat < 64 = (let lt = p.0 in let len = are.seats in omega arith) in
    (made.number, subst (λ (x : Seats). IsAt x seat (answered sender source moment made.number)) (sym is) (record { there = made.change.there; low = low }))

by_number : (d : Descriptor) (t new : Seats) (sender : Address) (moment : ℕ) (bytes : List ℕ) (result : Arrival) (P : Type 0) → IsNumbered d t sender moment bytes result new
    → (Greets d t sender moment bytes result new → P) → (Numbered d t (from_be_bytes w32 (take 4 bytes)) sender moment bytes result new → P) → P
by_number d t new sender moment bytes result P h zero other =
    ⊎_elim (λ same. zero (h.zero (eqb-true (from_be_bytes w32 (take 4 bytes)) 0 same))) (λ apart. other (h.other (eqb-false (from_be_bytes w32 (take 4 bytes)) 0 apart))) (cases_Bool (eqb (from_be_bytes w32 (take 4 bytes)) 0))

-- the seat of an arrival is in use, and its channel is proven or isn't
pub record Meant (result : Arrival) (new : Seats) : Type 0 where
  pub seated : IsSeated result new
  pub proven : Proves result new

abbrev Hear : ℕ → Channel → Channel
Hear moment c = record c { heard = moment }

abbrev Prove : Channel → Channel
Prove c = record c { state = Proven }

abbrev Unreply : Channel → Channel
Unreply c = record c { opening = unreplied c.opening }

abbrev Complete : ℕ → Channel → Channel
Complete source c = record c { remote = Some source; state = Proven }

pub meant : (d : Descriptor) (t new : Seats) (sender : Address) (moment : ℕ) (bytes : List ℕ) (result : Arrival) → AreSeats t.channels → Arrives d t sender moment bytes result new → Meant result new
meant d t new sender moment bytes (Opened seat next) are h =
    by_number d t new sender moment bytes (Opened seat next) (Meant (Opened seat next) new) h
    (λ g. let m = made_at t new seat g.source moment sender are g.does.1 g.does.3 in
    record { seated = used_at new seat (answered sender g.source moment m.0) m.1; proven = ap is_proven_at m.1.there })
    (λ n. absurd n.does.1.does)
meant d t new sender moment bytes (Replied seat) are h =
    by_number d t new sender moment bytes (Replied seat) (Meant (Replied seat) new) h
    (λ g. absurd g.does.2)
    (λ n. let a = n.does.1.does in
    let here = subst (λ (k : ℕ). IsThere t k) (sym a.0) (found_seat t n.seat _ sender are n.found) in
    let m = twice_at t new seat (Complete n.does.1.source) (Hear moment) here (subst (λ (k : ℕ). new ≡ changed (changed t k (Complete n.does.1.source)) k (Hear moment)) (sym a.0) a.3) in
    record { seated = used_at new seat (Hear moment (Complete n.does.1.source here.channel)) m; proven = ap is_proven_at m.there })
meant d t new sender moment bytes (Heard seat) are h =
    by_number d t new sender moment bytes (Heard seat) (Meant (Heard seat) new) h
    (λ g. absurd g.does.2)
    (λ n. let a = n.does in
    let here = subst (λ (k : ℕ). IsThere t k) (sym a.0) (found_seat t n.seat _ sender are n.found) in
    let m = twice_at t new seat Prove (Hear moment) here (subst (λ (k : ℕ). new ≡ changed (changed t k Prove) k (Hear moment)) (sym a.0) a.2) in
    record { seated = used_at new seat (Hear moment (Prove here.channel)) m; proven = ap is_proven_at m.there })
meant d t new sender moment bytes Short are h = record { seated = tt; proven = tt }
meant d t new sender moment bytes NoGreeting are h = record { seated = tt; proven = tt }
meant d t new sender moment bytes Unwelcome are h = record { seated = tt; proven = tt }
meant d t new sender moment bytes (Again seat) are h =
    by_number d t new sender moment bytes (Again seat) (Meant (Again seat) new) h
    (λ g. let met = g.does.2 in
    let here = subst (λ (k : ℕ). IsThere t k) (sym met.0) (source_seat t g.does.0 g.source sender are g.does.1) in
    let m = once_at t new seat Unreply here (subst (λ (k : ℕ). new ≡ changed t k Unreply) (sym met.0) met.2) in
    record { seated = used_at new seat (Unreply here.channel) m; proven = tt })
    (λ n. absurd n.does.1.does)
meant d t new sender moment bytes (Late seat) are h =
    by_number d t new sender moment bytes (Late seat) (Meant (Late seat) new) h
    (λ g. let met = g.does.2 in record { seated = used_still t new seat (subst (λ (k : ℕ). IsThere t k) (sym met.0) (source_seat t g.does.0 g.source sender are g.does.1)) met.2; proven = tt })
    (λ n. absurd n.does.1.does)
meant d t new sender moment bytes Unseated are h = record { seated = tt; proven = tt }
meant d t new sender moment bytes NoChannel are h = record { seated = tt; proven = tt }
meant d t new sender moment bytes (NoReply seat) are h =
    by_number d t new sender moment bytes (NoReply seat) (Meant (NoReply seat) new) h
    (λ g. absurd g.does.2)
    (λ n. let a = n.does.1 in record { seated = used_still t new seat (subst (λ (k : ℕ). IsThere t k) (sym a.0) (found_seat t n.seat _ sender are n.found)) a.3; proven = tt })
meant d t new sender moment bytes (Cut seat) are h =
    by_number d t new sender moment bytes (Cut seat) (Meant (Cut seat) new) h
    (λ g. absurd g.does.2)
    (λ n. let a = n.does.1 in record { seated = used_still t new seat (subst (λ (k : ℕ). IsThere t k) (sym a.0) (found_seat t n.seat _ sender are n.found)) a.2; proven = tt })
meant d t new sender moment bytes (Differs seat) are h = record { seated = tt; proven = tt }
meant d t new sender moment bytes (Given seat) are h = record { seated = tt; proven = tt }

pub behind : (d : Descriptor) (t new : Seats) (sender : Address) (moment : ℕ) (bytes : List ℕ) (result : Arrival) → Arrives d t sender moment bytes result new → IsBehind d bytes result
behind d t new sender moment bytes (Opened seat next) h =
    by_number d t new sender moment bytes (Opened seat next) (IsBehind d bytes (Opened seat next)) h
    (λ g. (
      subst (λ (k : ℕ). k ≤ length bytes) (sym g.does.2) g.within,
      subst (λ (k : ℕ). (messages_at d.method d.chunk k (drop k bytes)).read ≡ drop 1 (contents d bytes).read) (sym g.does.2) (ap (λ (m : Messages). m.read) g.behind),
    ))
    (λ n. absurd n.does.1.does)
behind d t new sender moment bytes (Replied seat) h = h.long
behind d t new sender moment bytes (Heard seat) h = h.long
behind d t new sender moment bytes Short h = tt
behind d t new sender moment bytes NoGreeting h = tt
behind d t new sender moment bytes Unwelcome h = tt
behind d t new sender moment bytes (Again seat) h = tt
behind d t new sender moment bytes (Late seat) h = tt
behind d t new sender moment bytes Unseated h = tt
behind d t new sender moment bytes NoChannel h = tt
behind d t new sender moment bytes (NoReply seat) h = tt
behind d t new sender moment bytes (Cut seat) h = tt
behind d t new sender moment bytes (Differs seat) h = tt
behind d t new sender moment bytes (Given seat) h = tt
