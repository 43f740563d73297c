-- What a datagram and an event do, step by step.
use Rattle.std.proofs.Common.{◌≡◌, ℕ, Bool, true, Option, List, sym, ◌∙◌, ap, subst}
use Rattle.std.specs.Prelude.{nat_lt, max, map, Result, Ok, Err, OnOk}
use Rattle.pp_requests.specs.Seats.{seat_count}
use Rattle.pp_promises.specs.Batches.{is_due, after_read}
use Rattle.pp_outside.specs.declared.link.Address.{Address}
use Rattle.pp_outside.specs.declared.link.Event.{Event}
use Rattle.pp_counts.specs.declared.note.Note.{Note}
use Rattle.pp_lives.specs.Arriving.{Arrives}
use Rattle.pp_lives.specs.declared.arriving.Arrival.{Arrival}
use Rattle.pp_holding.specs.Holding.{HoldingState, batch_of, HasWaiting}
use Rattle.pp_holding.specs.Answers.{queue_settled}
use Rattle.pp_seats.specs.Standing.{SeatsState}
use Rattle.pp_seats.specs.Hearing.{Prepares, looked_up}
use Rattle.pp_peer.specs.declared.parts.Parts.{Parts}
use Rattle.pp_peer.specs.Taking.{after_some}
use Rattle.pp_peer.specs.Absorbing.{counted, is_quiet}
use Rattle.pp_peer.specs.Events.{HearsArrival, TakesDatagram, TakesEvent, Absorbs}

-- ---- a datagram

pub datagram_exact : {T E : Type 0} (r : Result T E) (sender : Address) (bytes : List ℕ) (at : ℕ) (slot : Bool) (arrival : Arrival) (arrived : SeatsState) (noted : Option Note)
    (old mid new : Parts) → slot ≡ nat_lt (seat_count old.slots.slots) 8 → mid ≡ record old { seats = arrived; counts = after_some noted old.counts } → noted ≡ counted arrival
    → arrived.moment ≡ max at old.seats.moment → arrived.descriptor ≡ old.seats.descriptor
    → Arrives old.seats.descriptor old.seats.table sender arrived.moment bytes arrival arrived.table
    → Prepares old.seats.descriptor slot arrival (record arrived { seats = old.seats.seats }) arrived
    → OnOk r (HearsArrival arrival sender bytes slot mid new) → OnOk r (TakesDatagram sender bytes at old new)
datagram_exact (Ok x) sender bytes at slot arrival arrived noted old mid new free is counts_so moment swarm arrives makes hears = record {
  arrival = arrival;
  slot = slot;
  free = free;
  mid = mid;
  moment = ap (λ (s : SeatsState). s.moment) there ∙ moment;
  swarm = ap (λ (s : SeatsState). s.descriptor) there ∙ swarm;
  arrives = subst (λ (s : SeatsState). Arrives old.seats.descriptor old.seats.table sender s.moment bytes arrival s.table) (sym there) arrives;
  makes = subst (λ (s : SeatsState). Prepares old.seats.descriptor slot arrival (record s { seats = old.seats.seats }) s) (sym there) makes;
  rest = is ∙ ap (λ (s : SeatsState). record old { seats = s; counts = after_some noted old.counts }) (sym there)
      ∙ ap (λ (o : Option Note). record old { seats = mid.seats; counts = after_some o old.counts }) counts_so;
  hears = hears;
}
  where
    there : mid.seats ≡ arrived
    there = ap (λ (p : Parts). p.seats) is
datagram_exact (Err e) sender bytes at slot arrival arrived noted old mid new free is counts_so moment swarm arrives makes hears = tt

-- ---- an event

pub absorbed_exact : (event : Event) (bytes : List ℕ) (quiet : Bool) (at : ℕ) (held : HoldingState) (looked : SeatsState) (old mid new : Parts) → TakesEvent event bytes old mid
    → quiet ≡ is_quiet event → at ≡ mid.seats.moment → batch_of held ≡ after_read quiet at (batch_of mid.holding)
    → held.queue ≡ queue_settled (is_due quiet at (batch_of mid.holding)) mid.holding.queue → held.book ≡ mid.holding.book → held.store.live ≡ true
    → HasWaiting old.holding.store old.holding.queue.waiting → HasWaiting held.store held.queue.waiting
    → looked ≡ record mid.seats { seats = map (looked_up mid.seats.moment) mid.seats.seats }
    → new ≡ record mid { seats = looked; holding = held } → Absorbs event bytes old new
absorbed_exact event bytes quiet at held looked old mid new takes is when batch queue book live waited waits looks rest = record {
  mid = mid;
  takes = takes;
  batch = ap batch_of holds ∙ batch ∙ ap (λ (b : Bool). after_read b at (batch_of mid.holding)) is
      ∙ ap (λ (n : ℕ). after_read (is_quiet event) n (batch_of mid.holding)) when;
  queue = ap (λ (h : HoldingState). h.queue) holds ∙ queue ∙ ap (λ (b : Bool). queue_settled (is_due b at (batch_of mid.holding)) mid.holding.queue) is
      ∙ ap (λ (n : ℕ). queue_settled (is_due (is_quiet event) n (batch_of mid.holding)) mid.holding.queue) when;
  book = ap (λ (h : HoldingState). h.book) holds ∙ book;
  live = ap (λ (h : HoldingState). h.store.live) holds ∙ live;
  waited = waited;
  waits = subst (λ (h : HoldingState). HasWaiting h.store h.queue.waiting) (sym holds) waits;
  rest = rest ∙ ap (λ (s : SeatsState). record mid { seats = s; holding = held }) looks
      ∙ ap (λ (h : HoldingState). record mid { seats = record mid.seats { seats = map (looked_up mid.seats.moment) mid.seats.seats }; holding = h }) (sym holds);
}
  where
    holds : new.holding ≡ held
    holds = ap (λ (p : Parts). p.holding) rest
