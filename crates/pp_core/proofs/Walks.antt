-- What a datagram's messages leave of a holding, one after the other.
use Rattle.std.proofs.Common.{◌≡◌, ◌⊎◌, inl, inr, ⊎_elim, ℕ, ◌+◌, ◌<◌, ◌≤◌, eqb, Bool, true, false, cond, ◌||◌, List, [], ◌∷◌, ◌++◌, length, refl, sym, ◌∙◌, ap, subst, arith}
use Rattle.std.specs.Prelude.{slice_get, slice_index_or}
use Rattle.std.specs.List.{list_any}
use Rattle.std.proofs.lemmas.Bool.{cases_Bool, cases_lt, false≢true, or_left, or_right, or_cases, or_parts, and_from, eq-eqb, eqb-true}
use Rattle.std.proofs.lemmas.List.{length-append}
use Rattle.std.proofs.lemmas.List.Folds.{list_any-append}
use Rattle.std.proofs.lemmas.List.FromFn.{length-map-range_with_len, get_or-map-range_with_len}
use Rattle.pp_terms.specs.format.Descriptor.{chunks_of}
use Rattle.pp_terms.specs.format.Messages.{Message, Data, Handshake}
use Rattle.pp_terms.specs.tree.Claims.{Claim}
use Rattle.pp_promises.specs.Announced.{is_data}
use Rattle.pp_promises.specs.Batches.{Batch, is_in, is_pending, is_full, committed_with, after_commit, after_put, after_puts, is_due, after_read}
use Rattle.pp_store.specs.declared.admitting.Put.{Put}
use Rattle.pp_store.specs.declared.admitting.Put.TheVariants.{Stored, Held, Missing, Wrong, Length}
use Rattle.pp_holding.specs.Answers.{stored_by, queue_after, queue_settled}
use Rattle.pp_holding.specs.Holding.{HoldingState, batch_of}
use Rattle.pp_holding.specs.Queue.{QueueState, most_tickets, waiting_at, tickets_of, with_waiting, with_repeat}
use Rattle.pp_holding.specs.declared.queue.Ticket.{Ticket}
use Rattle.pp_holding.specs.declared.queue.Waiting.{Waiting}
use Rattle.pp_holding.proofs.Events.{tickets_fit}
use Rattle.pp_peer.specs.declared.parts.Parts.{Parts}
use Rattle.pp_peer.specs.Messages.{is_proven_in, claims_in, Puts, ticket_of, TakesData, TakesOther, InTurn, before_close}
use Rattle.pp_core.specs.Remembering.{is_ticket, AwaitsTicket}
use Rattle.pp_core.proofs.Awaited.{settled_awaits, released_tickets, tickets_many}
use Rattle.pp_core.proofs.Flushes.{in_set}
use Rattle.pp_core.proofs.Paths.{heeded_beside}

-- ---- how many chunks a datagram brings

abbrev pub data_count : List Message → ℕ
data_count [] = 0
data_count (Data chunk sent_at bytes ∷ ms) = data_count ms + 1
data_count (_ ∷ ms) = data_count ms

pub closed_count : (ms : List Message) → data_count (before_close ms) ≤ data_count ms
closed_count [] = omega arith
closed_count (Data chunk sent_at bytes ∷ ms) = (let rest = closed_count ms in omega (arith, rest))
closed_count (Handshake source options ∷ ms) = of (eqb source 0) (closed_count ms)
  where
    of : (b : Bool) → data_count (before_close ms) ≤ data_count ms
        → data_count (cond b [] (Handshake source options ∷ before_close ms)) ≤ data_count ms
    of true rest = omega arith
    of false rest = rest
closed_count (_ ∷ ms) = closed_count ms

-- ---- the queue

-- There is room for so many tickets more.
pub record HasRooms (more : ℕ) (q : QueueState) : Type 0 where
  pub tickets : length q.tickets + length q.waiting + more ≤ most_tickets
  pub repeats : length q.repeats + more ≤ most_tickets

-- where all that waits is committed, or not, there is as much room
settled_rooms : (due : Bool) (more : ℕ) (q : QueueState) → HasRooms more q → HasRooms more (queue_settled due q)
settled_rooms true more q r = record {
  tickets =
      let room = r.tickets in
      let many = tickets_many q.waiting in
      let fits = ap (λ (ts : List Ticket). length ts) (released_tickets q (omega (arith, room))) in
      let sum = length-append q.tickets (tickets_of q.waiting) in
      omega (arith, room, many, fits, sum);
  repeats = r.repeats;
}
settled_rooms false more q r = r

repeated : (t : Ticket) (more : ℕ) (q : QueueState) → HasRooms (more + 1) q → (with_repeat t q).repeats ≡ q.repeats ++ t ∷ []
repeated t more q r = tickets_fit q.repeats (t ∷ []) (let room = r.repeats in omega (arith, room))

rooms_after : (put : Put) (is : Bool) (t : Ticket) (at more : ℕ) (q : QueueState) → HasRooms (more + 1) q
    → HasRooms more (queue_after put is t at q)
rooms_after Stored is t at more q r = settled_rooms _ more (with_waiting (waiting_at t at) q)
    (record { tickets = (let room = r.tickets in omega (arith, room)); repeats = (let room = r.repeats in omega (arith, room)) })
rooms_after Held true t at more q r = record {
  tickets = (let room = r.tickets in omega (arith, room));
  repeats =
      let many = ap (λ (ts : List Ticket). length ts) (repeated t more q r) in
      let sum = length-append q.repeats (t ∷ []) in
      let room = r.repeats in
      omega (arith, many, sum, room);
}
rooms_after Held false t at more q r =
    record { tickets = (let room = r.tickets in omega (arith, room)); repeats = (let room = r.repeats in omega (arith, room)) }
rooms_after (Missing node) is t at more q r =
    record { tickets = (let room = r.tickets in omega (arith, room)); repeats = (let room = r.repeats in omega (arith, room)) }
rooms_after (Wrong node found kept) is t at more q r =
    record { tickets = (let room = r.tickets in omega (arith, room)); repeats = (let room = r.repeats in omega (arith, room)) }
rooms_after (Length found want) is t at more q r =
    record { tickets = (let room = r.tickets in omega (arith, room)); repeats = (let room = r.repeats in omega (arith, room)) }

-- a ticket goes on waiting when a chunk comes
awaits_after : (n i : ℕ) (put : Put) (is : Bool) (t : Ticket) (at more : ℕ) (q : QueueState) → HasRooms (more + 1) q → AwaitsTicket n i q
    → AwaitsTicket n i (queue_after put is t at q)
awaits_after n i Stored is t at more q r waits =
    settled_awaits n i _ (with_waiting (waiting_at t at) q) _ refl (let room = r.tickets in omega (arith, room)) (⊎_elim
    (λ here. inl (or_right (is_ticket n i t) (list_any (λ (w : Waiting). is_ticket n i w.ticket) q.waiting) here))
    (λ there. inr there)
    waits)
awaits_after n i Held true t at more q r (inl waits) = inl waits
awaits_after n i Held true t at more q r (inr (inl ticket)) = inr (inl ticket)
awaits_after n i Held true t at more q r (inr (inr again)) =
    inr (inr (ap (λ (ts : List Ticket). list_any (is_ticket n i) ts) (repeated t more q r)
    ∙ list_any-append (is_ticket n i) q.repeats (t ∷ []) ∙ or_left (list_any (is_ticket n i) q.repeats) (is_ticket n i t || false) again))
awaits_after n i Held false t at more q r waits = waits
awaits_after n i (Missing node) is t at more q r waits = waits
awaits_after n i (Wrong node found kept) is t at more q r waits = waits
awaits_after n i (Length found want) is t at more q r waits = waits

own_ticket : (t : Ticket) → is_ticket t.seat t.chunk t ≡ true
own_ticket t = and_from (eqb t.seat t.seat) (eqb t.chunk t.chunk) (eq-eqb t.seat t.seat refl) (eq-eqb t.chunk t.chunk refl)

-- the chunk's own ticket waits, where it was stored, or was committed already
stored_awaits : (is : Bool) (t : Ticket) (at more : ℕ) (q : QueueState) → HasRooms (more + 1) q
    → AwaitsTicket t.seat t.chunk (queue_after Stored is t at q)
stored_awaits is t at more q r =
    settled_awaits t.seat t.chunk _ (with_waiting (waiting_at t at) q) _ refl (let room = r.tickets in omega (arith, room))
    (inl (or_left (is_ticket t.seat t.chunk t) (list_any (λ (w : Waiting). is_ticket t.seat t.chunk w.ticket) q.waiting) (own_ticket t)))

pub again_awaits : (t : Ticket) (at more : ℕ) (q : QueueState) → HasRooms (more + 1) q → AwaitsTicket t.seat t.chunk (queue_after Held true t at q)
again_awaits t at more q r =
    inr (inr (ap (λ (ts : List Ticket). list_any (is_ticket t.seat t.chunk) ts) (repeated t more q r)
    ∙ list_any-append (is_ticket t.seat t.chunk) q.repeats (t ∷ [])
    ∙ or_right (list_any (is_ticket t.seat t.chunk) q.repeats) (is_ticket t.seat t.chunk t || false)
    (or_left (is_ticket t.seat t.chunk t) false (own_ticket t))))

-- ---- the batch

-- what is in a batch once all of it was committed was in it
in_commit : (b : Batch) (i : ℕ) → is_in (after_commit b) i ≡ true → is_in b i ≡ true
in_commit b i e = ⊎_elim
    (λ is.
    let size = length-map-range_with_len (is_in b) 0 (length b.committed) in
    let lt = in_set (committed_with b) i is in
    sym (get_or-map-range_with_len (is_in b) 0 (length b.committed) i i false (omega (arith, lt, size)) (omega arith)) ∙ is)
    (λ none. absurd (false≢true none))
    (or_cases (slice_index_or (committed_with b) i false) (is_pending (after_commit b) i) e)

in_maybe : (due : Bool) (b : Batch) (i : ℕ) → is_in (cond due (after_commit b) b) i ≡ true → is_in b i ≡ true
in_maybe true b i e = in_commit b i e
in_maybe false b i e = e

pub in_read : (quiet : Bool) (now i : ℕ) (b : Batch) → is_in (after_read quiet now b) i ≡ true → is_in b i ≡ true
in_read quiet now i b e = in_maybe (is_due quiet now b) b i e

-- what is in it once a chunk was put is that chunk, or was in it
in_put : (k now i : ℕ) (b : Batch) → is_in (after_put k now b) i ≡ true → (eqb k i ≡ true) ⊎ (is_in b i ≡ true)
in_put k now i b e =
    let more : Batch = record { committed = b.committed; pending = record { chunk = k; put_at = now } ∷ b.pending } in
    ⊎_elim
    (λ committed. inr (or_left (slice_index_or b.committed i false) (is_pending b i) committed))
    (λ pending. ⊎_elim
    (λ here. inl here)
    (λ there. inr (or_right (slice_index_or b.committed i false) (is_pending b i) there))
    (or_cases (eqb k i) (is_pending b i) pending))
    (or_cases (slice_index_or b.committed i false) (is_pending more i) (in_maybe (is_full more) more i e))

-- what is pending
pending_maybe : (due : Bool) (b : Batch) (i : ℕ) → is_pending b i ≡ false → is_pending (cond due (after_commit b) b) i ≡ false
pending_maybe true b i none = refl
pending_maybe false b i none = none

pub pending_read : (quiet : Bool) (now i : ℕ) (b : Batch) → is_pending b i ≡ false → is_pending (after_read quiet now b) i ≡ false
pending_read quiet now i b none = pending_maybe (is_due quiet now b) b i none

pending_put : (put : Put) (k now i : ℕ) (b : Batch) → eqb k i ≡ false → is_pending b i ≡ false → is_pending (after_puts (stored_by put k) now b) i ≡ false
pending_put Stored k now i b ne none =
    let more : Batch = record { committed = b.committed; pending = record { chunk = k; put_at = now } ∷ b.pending } in
    pending_maybe (is_full more) more i (λ t. ne t || none t)
pending_put Held k now i b ne none = none
pending_put (Missing node) k now i b ne none = none
pending_put (Wrong node found kept) k now i b ne none = none
pending_put (Length found want) k now i b ne none = none

-- ---- a walk

-- Of each DATA among the messages this holds of the chunk.
abbrev pub DataAre : (ℕ → Type 0) → List Message → Type 0
DataAre ok [] = Unit {0}
DataAre ok (Data chunk sent_at bytes ∷ ms) = ok chunk × DataAre ok ms
DataAre ok (_ ∷ ms) = DataAre ok ms

pub data_any : (ms : List Message) → DataAre (λ k. Unit {0}) ms
data_any [] = tt
data_any (Data chunk sent_at bytes ∷ ms) = (tt, data_any ms)
data_any (_ ∷ ms) = data_any ms

-- none of them has a chunk
pub data_none : (i : ℕ) (ms : List Message) → list_any (is_data i) ms ≡ false → DataAre (λ k. eqb k i ≡ false) ms
data_none i [] e = tt
data_none i (Data chunk sent_at bytes ∷ ms) e =
    let parts = or_parts (eqb chunk i) (list_any (is_data i) ms) e in (parts.0, data_none i ms parts.1)
data_none i (m ∷ ms) e = data_none i ms (or_parts (is_data i m) (list_any (is_data i) ms) e).1

-- A fact of a holding, with room for so many tickets more, that stays when a chunk comes on a seat, and takes one of them.
pub record IsWalk (seat : ℕ) (ok : ℕ → Type 0) (K : ℕ → HoldingState → Type 0) : Type 0 where
  pub fewer : (more less : ℕ) (h : HoldingState) → less ≤ more → K more h → K less h
  pub puts : (chunk sent_at at more : ℕ) (bytes : List ℕ) (claims : List Claim) (old new : Parts) → ok chunk
      → Puts (ticket_of seat chunk sent_at at) bytes claims old new → K (more + 1) old.holding → K more new.holding

module _ (seat : ℕ) (ok : ℕ → Type 0) (K : ℕ → HoldingState → Type 0) (w : IsWalk seat ok K) where
  same_walks : (more less : ℕ) (h g : HoldingState) → g ≡ h → less ≤ more → K more h → K less g
  same_walks more less h g same le k = subst (λ (x : HoldingState). K less x) (sym same) (w.fewer more less h le k)

  data_walks : (more chunk sent_at : ℕ) (bytes : List ℕ) (old new : Parts) → TakesData seat chunk sent_at bytes old new → ok chunk
      → K (more + 1) old.holding → K more new.holding
  data_walks more chunk sent_at bytes old new t is k = ⊎_elim
      (λ (lt : chunk < chunks_of t.mid.holding.store.descriptor). ⊎_elim
      (λ proven. w.puts chunk sent_at t.mid.seats.moment more bytes (claims_in (slice_get t.mid.seats.seats seat)) t.mid new is (t.judged lt proven)
      middle)
      (λ no. same_walks (more + 1) more t.mid.holding new.holding (ap (λ (p : Parts). p.holding) (t.unproven lt no)) (omega arith) middle)
      (cases_Bool (is_proven_in (slice_get t.mid.seats.seats seat))))
      (λ (le : chunks_of t.mid.holding.store.descriptor ≤ chunk).
      same_walks (more + 1) more t.mid.holding new.holding (ap (λ (p : Parts). p.holding) (t.outside le)) (omega arith) middle)
      (cases_lt chunk (chunks_of t.mid.holding.store.descriptor))
    where
      middle : K (more + 1) t.mid.holding
      middle = same_walks (more + 1) (more + 1) old.holding t.mid.holding (ap (λ (p : Parts). p.holding) t.ends.rest) (omega arith) k

  other_walks : (more : ℕ) (m : Message) (old new : Parts) → TakesOther seat m old new → K more old.holding → K more new.holding
  other_walks more m old new t k = same_walks more more old.holding new.holding
      (ap (λ (p : Parts). p.holding) t.rest ∙ (heeded_beside seat m old t.mid t.heeds).holding) (omega arith) k

  pub turn_walks : (more : ℕ) (ms : List Message) (old new : Parts) → DataAre ok ms → InTurn seat ms old new
      → K (data_count ms + more) old.holding → K more new.holding
  turn_walks more [] old new are t k =
      same_walks (0 + more) more old.holding new.holding (ap (λ (p : Parts). p.holding) t) (omega arith) k
  turn_walks more (Data chunk sent_at bytes ∷ ms) old new are t k = turn_walks more ms t.0 new are.1 t.2
      (data_walks (data_count ms + more) chunk sent_at bytes old t.0 t.1 are.0
      (w.fewer (data_count ms + 1 + more) (data_count ms + more + 1) old.holding (omega arith) k))
  turn_walks more (m ∷ ms) old new are t k = turn_walks more ms t.0 new are t.2 (other_walks _ m old t.0 t.1 k)

-- ---- walks

-- a ticket waits
abbrev pub WaitsIn : (n i more : ℕ) → HoldingState → Type 0
WaitsIn n i more h = HasRooms more h.queue × AwaitsTicket n i h.queue

pub rooms_fewer : (more less : ℕ) (q : QueueState) → less ≤ more → HasRooms more q → HasRooms less q
rooms_fewer more less q le r =
    record { tickets = (let room = r.tickets in omega (arith, room, le)); repeats = (let room = r.repeats in omega (arith, room, le)) }

pub rooms_put : (chunk sent_at at more seat : ℕ) (bytes : List ℕ) (claims : List Claim) (old new : Parts)
    → Puts (ticket_of seat chunk sent_at at) bytes claims old new → HasRooms (more + 1) old.holding.queue → HasRooms more new.holding.queue
rooms_put chunk sent_at at more seat bytes claims old new p r =
    subst (λ (q : QueueState). HasRooms more q) (sym p.queue) (rooms_after p.put _ (ticket_of seat chunk sent_at at) old.seats.moment more _ r)

pub waits_walk : (seat n i : ℕ) → IsWalk seat (λ k. Unit {0}) (WaitsIn n i)
waits_walk seat n i = record {
  fewer = λ more less h le k. (rooms_fewer more less h.queue le k.0, k.1);
  puts = λ chunk sent_at at more bytes claims old new is p k. (
    rooms_put chunk sent_at at more seat bytes claims old new p k.0,
    subst (λ (q : QueueState). AwaitsTicket n i q) (sym p.queue)
        (awaits_after n i p.put _ (ticket_of seat chunk sent_at at) old.seats.moment more _ k.0 k.1),
  );
}

-- the chunk isn't pending
abbrev pub IsNotPending : (i more : ℕ) → HoldingState → Type 0
IsNotPending i more h = is_pending (batch_of h) i ≡ false

pub pending_walk : (seat i : ℕ) → IsWalk seat (λ k. eqb k i ≡ false) (IsNotPending i)
pending_walk seat i = record {
  fewer = λ more less h le k. k;
  puts = λ chunk sent_at at more bytes claims old new ne p k.
      ap (λ (b : Batch). is_pending b i) p.batch ∙ pending_put p.put chunk old.seats.moment i (batch_of old.holding) ne k;
}

-- if the chunk is in the batch its ticket waits
abbrev pub HasIfIn : (seat i more : ℕ) → HoldingState → Type 0
HasIfIn seat i more h = HasRooms more h.queue × (is_in (batch_of h) i ≡ true → AwaitsTicket seat i h.queue)

has_put : (seat i chunk sent_at at now more : ℕ) (is : Bool) (put : Put) (b : Batch) (q : QueueState) → HasRooms (more + 1) q
    → (is_in b i ≡ true → AwaitsTicket seat i q) → is_in (after_puts (stored_by put chunk) now b) i ≡ true
    → AwaitsTicket seat i (queue_after put is (ticket_of seat chunk sent_at at) now q)
has_put seat i chunk sent_at at now more is Stored b q r has e = ⊎_elim
    (λ here. subst (λ (k : ℕ). AwaitsTicket seat k (queue_after Stored is (ticket_of seat chunk sent_at at) now q)) (eqb-true chunk i here)
    (stored_awaits is (ticket_of seat chunk sent_at at) now more q r))
    (λ before. awaits_after seat i Stored is (ticket_of seat chunk sent_at at) now more q r (has before))
    (in_put chunk now i b e)
has_put seat i chunk sent_at at now more is Held b q r has e =
    awaits_after seat i Held is (ticket_of seat chunk sent_at at) now more q r (has e)
has_put seat i chunk sent_at at now more is (Missing node) b q r has e = has e
has_put seat i chunk sent_at at now more is (Wrong node found kept) b q r has e = has e
has_put seat i chunk sent_at at now more is (Length found want) b q r has e = has e

pub has_walk : (seat i : ℕ) → IsWalk seat (λ k. Unit {0}) (HasIfIn seat i)
has_walk seat i = record {
  fewer = λ more less h le k. (rooms_fewer more less h.queue le k.0, k.1);
  puts = λ chunk sent_at at more bytes claims old new is p k. (
    rooms_put chunk sent_at at more seat bytes claims old new p k.0,
    λ e. subst (λ (q : QueueState). AwaitsTicket seat i q) (sym p.queue)
        (has_put seat i chunk sent_at at old.seats.moment more _ p.put (batch_of old.holding) old.holding.queue k.0 k.1
        (ap (λ (b : Batch). is_in b i) (sym p.batch) ∙ e)),
  );
}
