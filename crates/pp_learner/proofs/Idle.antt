-- What an event leaves: the name, a whole learner, and an idle one.
use Rattle.std.proofs.Common.{◌≡◌, ⊎_elim, ℕ, false, Option, Some, None, List, take, refl, sym, ◌∙◌, ap, subst}
use Rattle.std.specs.Int.{w32, from_be_bytes}
use Rattle.std.specs.Prelude.{position, replicate, slice_set}
use Rattle.std.proofs.lemmas.Bool.{cases_Bool}
use Rattle.std.proofs.lemmas.List.{length-set}
use Rattle.pp_terms.specs.format.Descriptor.{Descriptor}
use Rattle.pp_outside.specs.declared.link.Address.{Address}
use Rattle.pp_outside.specs.declared.link.Event.TheVariants.{Datagram, Quiet}
use Rattle.pp_channels.specs.Seats.{Seats, at_seat, is_found}
use Rattle.pp_channels.specs.declared.channel.Channel.{Channel}
use Rattle.pp_channels.proofs.Seating.{none_there}
use Rattle.pp_lives.specs.Arriving.{Arrives}
use Rattle.pp_lives.specs.declared.arriving.Arrival.{Arrival}
use Rattle.pp_lives.specs.declared.arriving.Arrival.TheVariants as arrivals
use Rattle.pp_lives.proofs.Arrivals.{found_there}
use Rattle.pp_targets.specs.Names.{name_of}
use Rattle.pp_learner.specs.Absorbing.{TakesArrival, TakesDatagram, after_arrival, after_datagram, after_wait, is_for_zero, learned_from}
use Rattle.pp_learner.specs.Laws.{AbsorbIdles, AbsorbNames, IsIdle, RefusalStands}
use Rattle.pp_learner.specs.Learners.{IsWhole, LearnerState}
use Rattle.pp_learner.specs.Rows.{begun}
use Rattle.pp_learner.specs.Standing.{stand_in}
use Rattle.pp_learner.proofs.Arrivals.{other_number}

-- ---- the name

-- the learner has the name of another one, and is whole where that is
record Stays (old new : LearnerState) : Type 0 where
  name : new.name ≡ old.name
  whole : IsWhole old → IsWhole new

stays_same : (p : LearnerState) → Stays p p
stays_same p = record { name = refl; whole = λ w. w }

after_stays : (a : Arrival) (bytes : List ℕ) (p : LearnerState) → Stays p (after_arrival a bytes p)
after_stays arrivals.Short bytes p = stays_same p
after_stays arrivals.NoGreeting bytes p = stays_same p
after_stays arrivals.Unwelcome bytes p = stays_same p
after_stays (arrivals.Again seat) bytes p = stays_same p
after_stays (arrivals.Late seat) bytes p = stays_same p
after_stays arrivals.Unseated bytes p = stays_same p
after_stays (arrivals.Opened seat next) bytes p = stays_same p
after_stays arrivals.NoChannel bytes p = stays_same p
after_stays (arrivals.NoReply seat) bytes p = stays_same p
after_stays (arrivals.Cut seat) bytes p = stays_same p
after_stays (arrivals.Differs seat) bytes p = stays_same p
after_stays (arrivals.Given seat) bytes p = stays_same p
after_stays (arrivals.Replied seat) bytes p = record {
  name = refl;
  whole = λ w. record {
    size = w.size;
    swarm = w.swarm;
    seats = length-set (slice_set p.rows seat begun) seat _ ∙ length-set p.rows seat begun ∙ w.seats;
  };
}
after_stays (arrivals.Heard seat) bytes p = record {
  name = refl;
  whole = λ w. record { size = w.size; swarm = w.swarm; seats = length-set p.rows seat _ ∙ w.seats };
}

datagram_names : (sender : Address) (bytes : List ℕ) (answer : Option Descriptor) (old new : LearnerState) → TakesDatagram sender bytes answer old new → Stays old new
datagram_names sender bytes answer old new does = ⊎_elim
    (λ zero. subst (λ (p : LearnerState). Stays old p) (sym (does.zero zero).rest)
    (record { name = refl; whole = λ w. record { size = w.size; swarm = w.swarm; seats = w.seats } }))
    (λ other. let x = does.other other in
    let after = after_stays x.arrival bytes _ in
    subst (λ (p : LearnerState). Stays old p) (sym x.after)
    (record { name = after.name; whole = λ w. after.whole (record { size = w.size; swarm = w.swarm; seats = w.seats }) }))
    (cases_Bool (is_for_zero bytes))

pub absorb_names : AbsorbNames
absorb_names (Quiet at) bytes answer old new does = (
  ap (λ (p : LearnerState). p.name) does.1,
  λ w. subst IsWhole (sym does.1) (record { size = w.size; swarm = w.swarm; seats = w.seats }),
)
absorb_names (Datagram sender len at) bytes answer old new does =
    let x = datagram_names sender bytes answer (after_datagram (after_wait at old)) new does in
    (x.name, λ w. x.whole (record { size = w.size; swarm = w.swarm; seats = w.seats }))

-- ---- no channel

-- nothing is read of it
abbrev IsUnread : Arrival → Type 0
IsUnread arrivals.Short = Unit {0}
IsUnread arrivals.NoChannel = Unit {0}
IsUnread _ = ⊥

module _ (d : Descriptor) (t : Seats) (sender : Address) (now : ℕ) (bytes : List ℕ) (new : Seats) (other : is_for_zero bytes ≡ false)
    (free : t.channels ≡ replicate 64 None) where
  none_found : {P : Type 0} (seat : ℕ) → position (is_found (from_be_bytes w32 (take 4 bytes)) sender) t.channels ≡ Some seat → P
  none_found seat found =
      let f = found_there t seat (from_be_bytes w32 (take 4 bytes)) sender found in
      let none : at_seat t.channels seat ≡ None = ap (λ (xs : List (Option Channel)). at_seat xs seat) free ∙ none_there 64 seat in
      let some : at_seat t.channels seat ≡ Some f.channel = f.there in
      absurd cc

  -- a datagram is for no channel
  unread : (a : Arrival) → Arrives d t sender now bytes a new → (new ≡ t) × IsUnread a
  unread arrivals.Short h = (h.1, tt)
  unread arrivals.NoChannel h = ((h.other (other_number bytes other h.long)).1, tt)
  unread arrivals.NoGreeting h = let o = h.other (other_number bytes other h.long) in none_found o.seat o.found
  unread arrivals.Unwelcome h = let o = h.other (other_number bytes other h.long) in none_found o.seat o.found
  unread (arrivals.Again seat) h = let o = h.other (other_number bytes other h.long) in none_found o.seat o.found
  unread (arrivals.Late seat) h = let o = h.other (other_number bytes other h.long) in none_found o.seat o.found
  unread arrivals.Unseated h = let o = h.other (other_number bytes other h.long) in none_found o.seat o.found
  unread (arrivals.Opened seat next) h = let o = h.other (other_number bytes other h.long) in none_found o.seat o.found
  unread (arrivals.NoReply seat) h = let o = h.other (other_number bytes other h.long) in none_found o.seat o.found
  unread (arrivals.Cut seat) h = let o = h.other (other_number bytes other h.long) in none_found o.seat o.found
  unread (arrivals.Differs seat) h = let o = h.other (other_number bytes other h.long) in none_found o.seat o.found
  unread (arrivals.Given seat) h = let o = h.other (other_number bytes other h.long) in none_found o.seat o.found
  unread (arrivals.Replied seat) h = let o = h.other (other_number bytes other h.long) in none_found o.seat o.found
  unread (arrivals.Heard seat) h = let o = h.other (other_number bytes other h.long) in none_found o.seat o.found

unread_same : (a : Arrival) (bytes : List ℕ) (p : LearnerState) → IsUnread a → (after_arrival a bytes p ≡ p) × (learned_from a bytes p ≡ None)
unread_same arrivals.Short bytes p u = (refl, refl)
unread_same arrivals.NoChannel bytes p u = (refl, refl)
unread_same arrivals.NoGreeting bytes p u = absurd u
unread_same arrivals.Unwelcome bytes p u = absurd u
unread_same (arrivals.Again seat) bytes p u = absurd u
unread_same (arrivals.Late seat) bytes p u = absurd u
unread_same arrivals.Unseated bytes p u = absurd u
unread_same (arrivals.Opened seat next) bytes p u = absurd u
unread_same (arrivals.NoReply seat) bytes p u = absurd u
unread_same (arrivals.Cut seat) bytes p u = absurd u
unread_same (arrivals.Differs seat) bytes p u = absurd u
unread_same (arrivals.Given seat) bytes p u = absurd u
unread_same (arrivals.Replied seat) bytes p u = absurd u
unread_same (arrivals.Heard seat) bytes p u = absurd u

arrival_idles : (sender : Address) (bytes : List ℕ) (answer : Option Descriptor) (dial : List Address) (old new : LearnerState) → is_for_zero bytes ≡ false
    → TakesArrival sender bytes answer old new → IsIdle dial old → IsIdle dial new × (answer ≡ None)
arrival_idles sender bytes answer dial old new other x idle =
    let u = unread (stand_in (name_of old.name)) old.lives sender old.moment bytes x.table other idle.free x.arrival x.arrives in
    let same = unread_same x.arrival bytes _ u.1 in
    let is = x.after ∙ same.0 in (
      record {
        free = ap (λ (p : LearnerState). p.lives.channels) is ∙ ap (λ (t : Seats). t.channels) u.0 ∙ idle.free;
        all = ap (λ (p : LearnerState). p.dials) is ∙ idle.all;
      },
      x.answers ∙ same.1,
    )

pub absorb_idles : AbsorbIdles
absorb_idles (Quiet at) bytes answer dial old new does idle = (
  record { free = ap (λ (p : LearnerState). p.lives.channels) does.1 ∙ idle.free; all = ap (λ (p : LearnerState). p.dials) does.1 ∙ idle.all },
  does.0,
)
absorb_idles (Datagram sender len at) bytes answer dial old new does idle = ⊎_elim
    (λ zero. let x = does.zero zero in (
      record { free = ap (λ (p : LearnerState). p.lives.channels) x.rest ∙ idle.free; all = ap (λ (p : LearnerState). p.dials) x.rest ∙ idle.all },
      x.none,
    ))
    (λ other. arrival_idles sender bytes answer dial (after_datagram (after_wait at old)) new other (does.other other)
    (record { free = idle.free; all = idle.all }))
    (cases_Bool (is_for_zero bytes))

-- ---- a wait that was refused

pub refusal_stands : RefusalStands
refusal_stands p past s = record {
  now_is = s.now_is;
  lives = s.lives;
  standing = s.standing;
  begun = s.begun;
  dialled = s.dialled;
  follows = s.follows;
}
