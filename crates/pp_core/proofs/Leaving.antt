-- What could be sent is sent.
use Rattle.std.proofs.Common.{◌≡◌, inl, inr, ℕ, ◌+◌, ◌*◌, ◌<◌, ◌≤◌, ◌==◌, Bool, true, false, cond, Option, Some, None, List, [], ◌∷◌, length, refl, sym, ◌∙◌, ap, subst, arith}
use Rattle.std.specs.Prelude.{slice_get}
use Rattle.std.proofs.Math.Nat.{mul-le-mul_right}
use Rattle.std.proofs.lemmas.Bool.{leb-true}
use Rattle.std.proofs.lemmas.Option.{same_Some}
use Rattle.pp_terms.specs.format.Descriptor.{Descriptor}
use Rattle.pp_terms.specs.format.Messages.{Message, Data, Ack}
use Rattle.pp_terms.specs.format.Traffic.{Record}
use Rattle.pp_terms.specs.tree.Range.{has}
use Rattle.pp_traffic.specs.Life.{Life}
use Rattle.pp_traffic.specs.Meter.{Meter, has_room, flight, hits, settled, is_due, timed_out, heard_by, said_by, meter}
use Rattle.pp_traffic.specs.Story.{Line, Heard, Said, Taken}
use Rattle.pp_ledbat.proofs.Bounds.{windows_are_bounded}
use Rattle.pp_channels.specs.Seats.{channel_at}
use Rattle.pp_channels.specs.declared.channel.Channel.{Channel}
use Rattle.pp_lives.specs.Fars.{far_of}
use Rattle.pp_lives.specs.Reading.{is_waiting}
use Rattle.pp_lives.specs.Standing.{StandsAt}
use Rattle.pp_lives.specs.declared.lives.Far.{Far}
use Rattle.pp_seat.specs.Frames.{tale_of}
use Rattle.pp_seat.specs.Follows.{IsDone}
use Rattle.pp_seat.specs.Seats.{SeatState}
use Rattle.pp_seats.specs.Sending.{IsSilent}
use Rattle.pp_seats.specs.Serving.{HasNothing}
use Rattle.pp_seats.specs.Standing.{SeatsState, Setting, StandsFor}
use Rattle.pp_seats.proofs.Outgoing.{far_is}
use Rattle.pp_peer.specs.declared.parts.Parts.{Parts}
use Rattle.pp_peer.specs.Serving.{most_sent, flying_in, flying_at, IsServed}
use Rattle.pp_core.specs.Leaving.{IsSendable, LeavesNone}

-- ---- the size by which a meter counts

either_chunk : (b : Bool) (chunk : ℕ) (m n : Meter) → m.chunk ≡ chunk → n.chunk ≡ chunk → (cond b m n).chunk ≡ chunk
either_chunk true chunk m n p q = p
either_chunk false chunk m n p q = q

heard_chunk : (now chunk : ℕ) (message : Message) (m : Meter) → m.chunk ≡ chunk → (heard_by now message m).chunk ≡ chunk
heard_chunk now chunk (Ack span delay) m is =
    either_chunk (hits span.first span.last m.entries == 0) chunk m (settled span.first span.last delay now m) is is
heard_chunk now chunk _ m is = is

said_chunk : (now chunk : ℕ) (message : Message) (m : Meter) → m.chunk ≡ chunk → (said_by now message m).chunk ≡ chunk
said_chunk now chunk (Data i sent_at bytes) m is = is
said_chunk now chunk _ m is = is

-- it stays what it was at the beginning
meter_chunk : (chunk : ℕ) (story : List Line) → (meter chunk story).chunk ≡ chunk
meter_chunk chunk [] = refl
meter_chunk chunk (Heard now message ∷ before) = heard_chunk now chunk message (meter chunk before) (meter_chunk chunk before)
meter_chunk chunk (Said now message ∷ before) = said_chunk now chunk message (meter chunk before) (meter_chunk chunk before)
meter_chunk chunk (Taken now ∷ before) =
    either_chunk (is_due now (meter chunk before)) chunk (timed_out now (meter chunk before)) (meter chunk before)
    (meter_chunk chunk before) (meter_chunk chunk before)

-- ---- a window that is full

-- a window whose most is 512 chunks has no room where as many fly
full : (chunk : ℕ) (m : Meter) → 0 < chunk → m.chunk ≡ chunk → m.window ≤ 512 * chunk → 512 ≤ length m.entries → has_room m ≡ true → ⊥
full chunk m some is most many room =
    let fits = leb-true (flight m + m.chunk) m.window room in
    let low = mul-le-mul_right m.chunk many in
    omega (arith, some, is, most, fits, low)

-- ---- a seat whose channel's other peer is known

pub lives_at : (d : Descriptor) (c : Channel) (o : Option Life) (past : List Record) → StandsAt d (Some c) o past → is_waiting c ≡ false
    → (life : Life) × (o ≡ Some life)
lives_at d c None past stands known = let x : true ≡ false = sym stands.waits ∙ known in absurd cc
lives_at d c (Some life) past stands known = (life, refl)

-- its window has no room where 512 chunks fly
full_at : (x : Setting) (most : ℕ) (p : SeatsState) (past : List Record) (seat : ℕ) (far : Far) (s : SeatState) → StandsFor x most p past → 0 < x.d.chunk
    → far_of (channel_at p.table seat) ≡ Some far → slice_get p.seats seat ≡ Some s → most_sent ≤ flying_at p seat → has_room s.window ≡ true → ⊥
full_at x most p past seat far s h some is_far there many room =
    let f = far_is (channel_at p.table seat) far is_far in
    let l = lives_at x.d f.channel (h.lives seat) past
    (subst (λ (o : Option Channel). StandsAt x.d o (h.lives seat) past) f.there (h.standing.seated.each seat)) f.known in
    let same = (h.follow seat f.channel l.0 s f.there f.known l.1 there).follows.window.same in
    let story = (tale_of x.d l.0 past).story in
    full x.d.chunk s.window some (ap (λ (m : Meter). m.chunk) same ∙ meter_chunk x.d.chunk story)
    (subst (λ (m : Meter). m.window ≤ 512 * x.d.chunk) (sym same) (windows_are_bounded.most x.d.chunk story))
    (subst (λ (o : Option SeatState). 512 ≤ flying_in o) there many) room

-- ---- what is left

done_none : (s : SeatState) (i : ℕ) → IsDone s → s.slot ≡ true → has_room s.window ≡ true → i < s.told.chunks → has s.list i ≡ true → ⊥
done_none s i (inl none) slot room content asked = let x : true ≡ false = sym slot ∙ none in absurd cc
done_none s i (inr (inl full)) slot room content asked = let x : true ≡ false = sym room ∙ full in absurd cc
done_none s i (inr (inr none)) slot room content asked = let x : true ≡ false = sym asked ∙ none i content in absurd cc

nothing_none : (p : Parts) (seat i : ℕ) → HasNothing p.seats seat → IsSendable seat i p → ⊥
nothing_none p seat i (inl silent) w =
    let x : true ≡ false = sym w.begun ∙ subst (λ (o : Option Far). IsSilent o) w.is_far silent in absurd cc
nothing_none p seat i (inr (s, there, inl unproven)) w =
    let same = same_Some s w.known (sym there ∙ w.there) in
    let x : true ≡ false = sym w.proven ∙ ap (λ (y : SeatState). y.proven) (sym same) ∙ unproven in absurd cc
nothing_none p seat i (inr (s, there, inr done)) w =
    done_none w.known i (subst (λ (y : SeatState). IsDone y) (same_Some s w.known (sym there ∙ w.there)) done) w.slot w.room w.content w.asked

-- where all seats were served
pub leaves_none : (x : Setting) (most : ℕ) (p : Parts) (past : List Record) → StandsFor x most p.seats past → 0 < x.d.chunk
    → ((seat : ℕ) → seat < 64 → IsServed p.seats seat) → LeavesNone p
leaves_none x most p past h some ends seat i below w = by (ends seat below)
  where
    by : IsServed p.seats seat → ⊥
    by (inl none) = nothing_none p seat i none w
    by (inr many) = full_at x most p.seats past seat w.far w.known h some w.is_far w.there many w.room
