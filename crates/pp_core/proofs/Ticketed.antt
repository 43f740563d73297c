-- Chunks that are committed when something comes have tickets, where there is room for them.
use Rattle.std.proofs.Common.{◌≡◌, ⊎_elim, ℕ, suc, ◌+◌, ◌<◌, ◌≤◌, eqb, leb, Bool, true, false, cond, ◌||◌, List, [], ◌∷◌, map, reverse, length, refl, sym, ◌∙◌, ap, subst, arith}
use Rattle.std.specs.Prelude.{slice_index_or}
use Rattle.std.specs.List.{list_any}
use Rattle.std.proofs.lemmas.Bool.{both_ways, leb-false, or_cases, or_parts}
use Rattle.std.proofs.lemmas.List.{length-append, length-map}
use Rattle.std.proofs.lemmas.List.Folds.{list_any-append}
use Rattle.std.proofs.lemmas.List.FromFn.{length-map-range_with_len, get_or-map-range_with_len}
use Rattle.std.proofs.lemmas.List.Sorted.{list_any-IsPermutation, IsPermutation-reverse}
use Rattle.pp_terms.specs.format.Descriptor.{Descriptor}
use Rattle.pp_promises.specs.Batches.{Batch, most_pending, is_pending, is_in, is_full, committed_with, after_commit, after_puts, is_due}
use Rattle.pp_outside.specs.declared.link.Event.{Event}
use Rattle.pp_store.specs.declared.admitting.Put.{Put}
use Rattle.pp_store.specs.declared.admitting.Put.TheVariants.{Stored, Held, Missing, Wrong, Length}
use Rattle.pp_holding.specs.declared.queue.Ticket.{Ticket}
use Rattle.pp_holding.specs.declared.queue.Waiting.{Waiting}
use Rattle.pp_holding.specs.Queue.{QueueState, most_tickets, waiting_at, tickets_of, released, with_waiting, with_repeat, pending_of}
use Rattle.pp_holding.specs.Holding.{HoldingState, batch_of}
use Rattle.pp_holding.specs.Answers.{stored_by, queue_after}
use Rattle.pp_holding.proofs.Events.{tickets_fit}
use Rattle.pp_news.specs.News.{has_chunk}
use Rattle.pp_peer.specs.declared.parts.Parts.{Parts}
use Rattle.pp_peer.specs.Absorbing.{is_quiet}
use Rattle.pp_peer.specs.Events.{TakesEvent, Absorbs}
use Rattle.pp_peer.specs.Messages.{ticket_of}
use Rattle.pp_peer.specs.Taking.{read_at}
use Rattle.pp_core.proofs.Awaited.{tickets_many}
use Rattle.pp_core.proofs.Ways.{mid_walks}
use Rattle.pp_core.proofs.Flushes.{in_set}
use Rattle.pp_core.proofs.Walks.{data_count, data_any, IsWalk}

-- ---- what is committed has tickets

-- A chunk that is committed and has no ticket is one of which this holds.
abbrev pub Covered : ℕ → Type 0 → List Bool → List Ticket → Type 0
Covered i W committed tickets = slice_index_or committed i false ≡ true → has_chunk tickets i ≡ false → W

waiting_has : (i : ℕ) (ws : List Waiting) → has_chunk (map (λ w. w.ticket) ws) i ≡ list_any (λ w. eqb w.ticket.chunk i) ws
waiting_has i [] = refl
waiting_has i (w ∷ ws) = ap (λ (b : Bool). eqb w.ticket.chunk i || b) (waiting_has i ws)

pending_has : (i : ℕ) (committed : List Bool) (ws : List Waiting)
    → is_pending (record { committed = committed; pending = map pending_of ws }) i ≡ list_any (λ w. eqb w.ticket.chunk i) ws
pending_has i committed [] = refl
pending_has i committed (w ∷ ws) = ap (λ (b : Bool). eqb w.ticket.chunk i || b) (pending_has i committed ws)

released_has : (i : ℕ) (committed : List Bool) (ws : List Waiting)
    → is_pending (record { committed = committed; pending = map pending_of ws }) i ≡ has_chunk (tickets_of ws) i
released_has i committed ws = pending_has i committed ws
    ∙ list_any-IsPermutation (λ w. eqb w.ticket.chunk i) ws (reverse ws) (IsPermutation-reverse ws) ∙ sym (waiting_has i (reverse ws))

-- all that waits is committed
commit_covered : (i : ℕ) (W : Type 0) (committed : List Bool) (q : QueueState) → Covered i W committed q.tickets
    → length q.tickets + length q.waiting ≤ most_tickets
    → Covered i W (committed_with (record { committed = committed; pending = map pending_of q.waiting })) (released q).tickets
commit_covered i W committed q covered room is free =
    let b : Batch = record { committed = committed; pending = map pending_of q.waiting } in
    let many = tickets_many q.waiting in
    let fits = tickets_fit q.tickets (tickets_of q.waiting) (omega (arith, room, many)) in
    let parts = or_parts (has_chunk q.tickets i) (has_chunk (tickets_of q.waiting) i)
    (sym (ap (λ (ts : List Ticket). has_chunk ts i) fits ∙ list_any-append _ q.tickets (tickets_of q.waiting)) ∙ free) in
    let size = length-map-range_with_len (is_in b) 0 (length committed) in
    let lt = in_set (committed_with b) i is in
    ⊎_elim
    (λ here. covered here parts.0)
    (λ waits. absurd (both_ways (has_chunk (tickets_of q.waiting) i) parts.1 (sym (released_has i committed q.waiting) ∙ waits)))
    (or_cases (slice_index_or committed i false) (is_pending b i)
    (sym (get_or-map-range_with_len (is_in b) 0 (length committed) i i false (omega (arith, lt, size)) (omega arith)) ∙ is))

-- Tickets and what waits are no more than before.
record Settles (i : ℕ) (W : Type 0) (b : Batch) (old new : QueueState) : Type 0 where
  covered : Covered i W b.committed new.tickets
  few : length new.tickets + length new.waiting ≤ length old.tickets + length old.waiting

settled : (i : ℕ) (W : Type 0) (due : Bool) (committed : List Bool) (q new : QueueState) (b : Batch)
    → b ≡ cond due (after_commit (record { committed = committed; pending = map pending_of q.waiting }))
    (record { committed = committed; pending = map pending_of q.waiting })
    → new ≡ cond due (released q) q → Covered i W committed q.tickets → length q.tickets + length q.waiting ≤ most_tickets
    → Settles i W b q new
settled i W true committed q new b batch queue covered room = record {
  covered = subst (λ (x : Batch). Covered i W x.committed new.tickets) (sym batch)
      (subst (λ (x : QueueState). Covered i W (committed_with (record { committed = committed; pending = map pending_of q.waiting })) x.tickets)
      (sym queue) (commit_covered i W committed q covered room));
  few =
      let many = tickets_many q.waiting in
      let fits = ap (λ (ts : List Ticket). length ts) (tickets_fit q.tickets (tickets_of q.waiting) (omega (arith, room, many))) in
      let sum = length-append q.tickets (tickets_of q.waiting) in
      let tickets = ap (λ (x : QueueState). length x.tickets) queue in
      let waits = ap (λ (x : QueueState). length x.waiting) queue in
      omega (arith, many, fits, sum, tickets, waits);
}
settled i W false committed q new b batch queue covered room = record {
  covered = subst (λ (x : Batch). Covered i W x.committed new.tickets) (sym batch)
      (subst (λ (x : QueueState). Covered i W committed x.tickets) (sym queue) covered);
  few = (let same = ap (λ (x : QueueState). length x.tickets + length x.waiting) queue in omega (arith, same));
}

-- ---- a put

-- It holds of each committed chunk without a ticket, so many more find room, and fewer wait than are committed at once.
pub record Keeps (i : ℕ) (W : Type 0) (more : ℕ) (h : HoldingState) : Type 0 where
  pub covered : Covered i W h.store.committed h.queue.tickets
  pub room : length h.queue.tickets + length h.queue.waiting + more ≤ most_tickets
  pub few : length h.queue.waiting < most_pending

keeps_fewer : (i : ℕ) (W : Type 0) (more fewer : ℕ) (h g : HoldingState) → g ≡ h → fewer ≤ more → Keeps i W more h → Keeps i W fewer g
keeps_fewer i W more fewer h g same le k = subst (λ (x : HoldingState). Keeps i W fewer x) (sym same)
    (record { covered = k.covered; room = (let room = k.room in omega (arith, room, le)); few = k.few })

module _ (i : ℕ) (W : Type 0) where
  -- where nothing is committed or waits more
  same_keeps : (more : ℕ) (old new : HoldingState) → batch_of new ≡ batch_of old → new.queue.tickets ≡ old.queue.tickets
      → new.queue.waiting ≡ old.queue.waiting → Keeps i W (more + 1) old → Keeps i W more new
  same_keeps more old new batch tickets waiting k =
      let many = ap (λ (ts : List Ticket). length ts) tickets in
      let waits = ap (λ (ws : List Waiting). length ws) waiting in
      let room = k.room in
      let few = k.few in
      record {
        covered = subst (λ (x : Batch). Covered i W x.committed new.queue.tickets) (sym batch)
            (subst (λ (ts : List Ticket). Covered i W old.store.committed ts) (sym tickets) k.covered);
        room = omega (arith, many, waits, room);
        few = omega (arith, waits, few);
      }

  put_keeps : (more at : ℕ) (put : Put) (is : Bool) (ticket : Ticket) (old new : HoldingState)
      → batch_of new ≡ after_puts (stored_by put ticket.chunk) at (batch_of old) → new.queue ≡ queue_after put is ticket at old.queue
      → Keeps i W (more + 1) old → Keeps i W more new
  put_keeps more at Stored is ticket old new batch queue k =
      let q : QueueState = with_waiting (waiting_at ticket at) old.queue in
      let size = length-map old.queue.waiting pending_of in
      let room = k.room in
      let b : Batch = record { committed = old.store.committed; pending = map pending_of q.waiting } in
      let same : is_full b ≡ leb most_pending (suc (length old.queue.waiting)) = ap (λ (n : ℕ). leb most_pending (suc n)) size in
      let s = settled i W (leb most_pending (suc (length old.queue.waiting))) old.store.committed q new.queue (batch_of new)
      (batch ∙ ap (λ (f : Bool). cond f (after_commit b) b) same) queue k.covered (omega (arith, room)) in
      let less = s.few in
      record { covered = s.covered; room = omega (arith, less, room); few = of (leb most_pending (suc (length old.queue.waiting))) refl queue }
    where
      of : (full : Bool) → leb most_pending (suc (length old.queue.waiting)) ≡ full
          → new.queue ≡ cond full (released (with_waiting (waiting_at ticket at) old.queue)) (with_waiting (waiting_at ticket at) old.queue)
          → length new.queue.waiting < most_pending
      of true full e = let none = ap (λ (x : QueueState). length x.waiting) e in omega (arith, none)
      of false full e =
          let one = ap (λ (x : QueueState). length x.waiting) e in
          let lt = leb-false most_pending (suc (length old.queue.waiting)) full in
          omega (arith, one, lt)
  put_keeps more at Held is ticket old new batch queue k = of is queue
    where
      of : (is : Bool) → new.queue ≡ cond is (with_repeat ticket old.queue) old.queue → Keeps i W more new
      of true e = same_keeps more old new batch (ap (λ (x : QueueState). x.tickets) e) (ap (λ (x : QueueState). x.waiting) e) k
      of false e = same_keeps more old new batch (ap (λ (x : QueueState). x.tickets) e) (ap (λ (x : QueueState). x.waiting) e) k
  put_keeps more at (Missing node) is ticket old new batch queue k =
      same_keeps more old new batch (ap (λ (x : QueueState). x.tickets) queue) (ap (λ (x : QueueState). x.waiting) queue) k
  put_keeps more at (Wrong node found kept) is ticket old new batch queue k =
      same_keeps more old new batch (ap (λ (x : QueueState). x.tickets) queue) (ap (λ (x : QueueState). x.waiting) queue) k
  put_keeps more at (Length found want) is ticket old new batch queue k =
      same_keeps more old new batch (ap (λ (x : QueueState). x.tickets) queue) (ap (λ (x : QueueState). x.waiting) queue) k

-- ---- an event

-- There is room for the tickets of what waits and of all chunks that a datagram can bring, and fewer wait than are committed at once.
pub record HasTicketRoom (d : Descriptor) (bytes : List ℕ) (h : HoldingState) : Type 0 where
  pub room : (start : ℕ) → length h.queue.tickets + length h.queue.waiting + data_count (read_at d bytes start) ≤ most_tickets
  pub few : length h.queue.waiting < most_pending

keeps_walk : (i : ℕ) (W : Type 0) (seat : ℕ) → IsWalk seat (λ k. Unit {0}) (Keeps i W)
keeps_walk i W seat = record {
  fewer = λ more less h le k. keeps_fewer i W more less h h refl le k;
  puts = λ chunk sent_at at more bytes claims old new is p k.
      put_keeps i W more old.seats.moment p.put _ (ticket_of seat chunk sent_at at) old.holding new.holding p.batch p.queue k;
}

module _ (i : ℕ) (W : Type 0) (bytes : List ℕ) where
  event_keeps : (event : Event) (old new : Parts) → TakesEvent event bytes old new
      → Covered i W old.holding.store.committed old.holding.queue.tickets → HasTicketRoom old.seats.descriptor bytes old.holding
      → Keeps i W 0 new.holding
  event_keeps event old new t covered room = mid_walks (λ k. Unit {0}) (Keeps i W) (keeps_walk i W) event bytes old new t
      (λ way. data_any way.messages) (λ start. record { covered = covered; room = room.room start; few = room.few })

  -- what is committed once an event was absorbed and has no ticket was committed before and had none
  pub absorbs_covered : (event : Event) (old new : Parts) → Absorbs event bytes old new
      → Covered i W old.holding.store.committed old.holding.queue.tickets → HasTicketRoom old.seats.descriptor bytes old.holding
      → Covered i W new.holding.store.committed new.holding.queue.tickets
  absorbs_covered event old new a covered room =
      let k = event_keeps event old a.mid a.takes covered room in
      let few = k.room in
      (settled i W (is_due (is_quiet event) a.mid.seats.moment (batch_of a.mid.holding)) a.mid.holding.store.committed a.mid.holding.queue
      new.holding.queue (batch_of new.holding) a.batch a.queue k.covered (omega (arith, few))).covered

  few_covered : (event : Event) (old new : Parts) → Absorbs event bytes old new
      → Covered i W old.holding.store.committed old.holding.queue.tickets → HasTicketRoom old.seats.descriptor bytes old.holding
      → length new.holding.queue.waiting < most_pending
  few_covered event old new a covered room =
      of (is_due (is_quiet event) a.mid.seats.moment (batch_of a.mid.holding)) a.queue
    where
      few : length a.mid.holding.queue.waiting < most_pending
      few = (event_keeps event old a.mid a.takes covered room).few

      of : (due : Bool) → new.holding.queue ≡ cond due (released a.mid.holding.queue) a.mid.holding.queue
          → length new.holding.queue.waiting < most_pending
      of true e = let none = ap (λ (x : QueueState). length x.waiting) e in omega (arith, none)
      of false e = let same = ap (λ (x : QueueState). length x.waiting) e in omega (arith, same, few)

-- fewer wait once an event was absorbed than are committed at once
pub absorbs_few : (event : Event) (bytes : List ℕ) (old new : Parts) → Absorbs event bytes old new
    → HasTicketRoom old.seats.descriptor bytes old.holding → length new.holding.queue.waiting < most_pending
absorbs_few event bytes old new a room = few_covered 0 (Unit {0}) bytes event old new a (λ is free. tt) room
