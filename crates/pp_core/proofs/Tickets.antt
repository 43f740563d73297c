-- A chunk that comes first on a plain channel, and is held once the event is over, has its ticket waiting.
use Rattle.std.proofs.Common.{◌≡◌, ⊎_elim, ℕ, ◌+◌, ◌<◌, eqb, Bool, true, false, Option, Some, None, List, [], ◌∷◌, ◌++◌, refl, sym, ◌∙◌, ap, subst, arith}
use Rattle.std.specs.Prelude.{slice_get, slice_index_or}
use Rattle.std.specs.List.{list_any}
use Rattle.std.proofs.lemmas.Bool.{cases_Bool, both_ways, or_cases}
use Rattle.pp_terms.specs.format.Descriptor.{Descriptor, chunks_of}
use Rattle.pp_terms.specs.format.Messages.{Message, Data, Ack, Have, Integrity, Request, Cancel, Choke, Unchoke}
use Rattle.pp_terms.specs.tree.Claims.{latest}
use Rattle.pp_terms.specs.tree.Range.{Span}
use Rattle.pp_tree.specs.Book.{entry}
use Rattle.pp_promises.specs.Announced.{is_data}
use Rattle.pp_promises.specs.Batches.{is_in, is_pending}
use Rattle.pp_counts.specs.declared.note.Note.{Note}
use Rattle.pp_store.specs.declared.admitting.Put.{Put}
use Rattle.pp_store.specs.declared.admitting.Put.TheVariants.{Held}
use Rattle.pp_store.specs.Answer.{put_answer}
use Rattle.pp_store.specs.Store.{is_committed, is_held}
use Rattle.pp_holding.specs.Answers.{queue_after}
use Rattle.pp_holding.specs.Holding.{HoldingState, batch_of, HasWaiting}
use Rattle.pp_holding.specs.Queue.{QueueState}
use Rattle.pp_holding.specs.declared.queue.Ticket.{Ticket}
use Rattle.pp_holding.proofs.Waitings.{is_in-batch}
use Rattle.pp_seat.specs.Lines.{inside}
use Rattle.pp_seat.specs.Seats.{SeatState}
use Rattle.pp_desk.specs.Hearing.{HearsPart, HearsAck, HearsHave, HearsIntegrity, HearsRequest, HearsCancel, Hears}
use Rattle.pp_seats.specs.Standing.{SeatsState}
use Rattle.pp_peer.specs.declared.parts.Parts.{Parts}
use Rattle.pp_peer.specs.Messages.{is_proven_in, claims_in, Puts, ticket_of, TakesData, TakesOther, Does, InTurn}
use Rattle.pp_core.specs.Remembering.{AwaitsTicket}
use Rattle.pp_core.proofs.Claiming.{data_seats}
use Rattle.pp_core.proofs.Paths.{seat_after, heeded_beside, data_or_other}
use Rattle.pp_core.proofs.Storing.{proven_same}
use Rattle.pp_core.proofs.Walks.{data_count, HasRooms, IsWalk, data_any, data_none, turn_walks, rooms_put, rooms_fewer, pending_walk, HasIfIn, has_walk, again_awaits}

-- ---- proven seats

part_proven : (span : Span) (hears : Span → Type 0) (noted : Option Note) (old new : SeatState) → HearsPart span hears noted old new
    → ((range : Span) → hears range → new.proven ≡ old.proven) → new.proven ≡ old.proven
part_proven span hears noted old new h each = by (inside old.told.chunks span) refl
  where
    by : (o : Option Span) → inside old.told.chunks span ≡ o → new.proven ≡ old.proven
    by None e = ap (λ (s : SeatState). s.proven) (h.outside e).1
    by (Some range) e = each range (h.part range e)

request_proven : (range : Span) (noted : Option Note) (old new : SeatState) → HearsRequest range noted old new → new.proven ≡ old.proven
request_proven range noted old new h = ⊎_elim
    (λ slot. ⊎_elim (λ is. ap (λ (s : SeatState). s.proven) is.rest) (λ full. ap (λ (s : SeatState). s.proven) full.same) (h.slot slot))
    (λ none. ap (λ (s : SeatState). s.proven) (h.choked none).1)
    (cases_Bool old.slot)

integrity_proven : (range : Span) (digest : List ℕ) (noted : Option Note) (old new : SeatState) → HearsIntegrity range digest noted old new
    → new.proven ≡ old.proven
integrity_proven range digest noted old new h = ⊎_elim
    (λ proven. ⊎_elim (λ is. ap (λ (s : SeatState). s.proven) is.exact) (λ none. ap (λ (s : SeatState). s.proven) none.same) (h.proven proven))
    (λ unproven. ap (λ (s : SeatState). s.proven) (h.unproven unproven).1)
    (cases_Bool old.proven)

hears_proven : (now : ℕ) (m : Message) (noted : Option Note) (old new : SeatState) → Hears now m noted old new → new.proven ≡ old.proven
hears_proven now (Data chunk sent_at bytes) noted old new h = absurd h
hears_proven now (Ack span delay) noted old new h = part_proven span (λ range. HearsAck range delay now noted old new) noted old new h
    (λ range here. ap (λ (s : SeatState). s.proven) here.rest)
hears_proven now (Have span) noted old new h = part_proven span (λ range. HearsHave range noted old new) noted old new h
    (λ range here. ap (λ (s : SeatState). s.proven) here.rest)
hears_proven now (Integrity span digest) noted old new h =
    part_proven span (λ range. HearsIntegrity range digest noted old new) noted old new h
    (λ range here. integrity_proven range digest noted old new here)
hears_proven now (Request span) noted old new h =
    part_proven span (λ range. HearsRequest range noted old new) noted old new h (λ range here. request_proven range noted old new here)
hears_proven now (Cancel span) noted old new h =
    part_proven span (λ range. HearsCancel range noted old new) noted old new h (λ range here. ap (λ (s : SeatState). s.proven) here.exact)
hears_proven now Choke noted old new h = ap (λ (s : SeatState). s.proven) h.1
hears_proven now Unchoke noted old new h = ap (λ (s : SeatState). s.proven) h.1
hears_proven now m noted old new h = ap (λ (s : SeatState). s.proven) h.1

-- Whether a seat is proven.
abbrev SameProven : ℕ → Parts → Parts → Type 0
SameProven seat old new = is_proven_in (slice_get new.seats.seats seat) ≡ is_proven_in (slice_get old.seats.seats seat)

other_proven : (seat : ℕ) (m : Message) (old new : Parts) → TakesOther seat m old new → SameProven seat old new
other_proven seat m old new t =
    ap is_proven_in (seat_after seat (Hears t.mid.seats.moment m t.noted) t.mid.seats new.seats t.heard)
    ∙ hears_proven t.mid.seats.moment m t.noted t.heard.before t.heard.after t.heard.changes
    ∙ sym (ap is_proven_in t.heard.there)
    ∙ ap (λ (x : SeatsState). is_proven_in (slice_get x.seats seat)) (heeded_beside seat m old t.mid t.heeds).seats

data_proven : (seat chunk sent_at : ℕ) (bytes : List ℕ) (old new : Parts) → TakesData seat chunk sent_at bytes old new → SameProven seat old new
data_proven seat chunk sent_at bytes old new t =
    ap (λ (s : SeatsState). is_proven_in (slice_get s.seats seat)) (data_seats seat chunk sent_at bytes old new t)
    ∙ proven_same seat chunk old t.mid t.ends

turn_proven : (seat : ℕ) (ms : List Message) (old new : Parts) → InTurn seat ms old new → SameProven seat old new
turn_proven seat [] old new t = ap (λ (p : Parts). is_proven_in (slice_get p.seats.seats seat)) t
turn_proven seat (m ∷ ms) old new t = turn_proven seat ms t.0 new t.2
    ∙ data_or_other (SameProven seat old t.0) seat m old t.0 t.1
    (λ chunk sent_at bytes does. data_proven seat chunk sent_at bytes old t.0 does)
    (λ does. other_proven seat m old t.0 does)

-- ---- the way to a message

record IsSplit (seat : ℕ) (front : List Message) (m : Message) (rest : List Message) (old new : Parts) : Type 0 where
  at : Parts
  next : Parts
  before : InTurn seat front old at
  does : Does seat m at next
  after : InTurn seat rest next new

turn_split : (seat : ℕ) (front : List Message) (m : Message) (rest : List Message) (old new : Parts) → InTurn seat (front ++ m ∷ rest) old new
    → IsSplit seat front m rest old new
turn_split seat [] m rest old new t = record { at = old; next = t.0; before = refl; does = t.1; after = t.2 }
turn_split seat (f ∷ front) m rest old new t =
    let s = turn_split seat front m rest t.0 new t.2 in
    record { at = s.at; next = s.next; before = (t.0, t.1, s.before); does = s.does; after = s.after }

count_both : (xs ys : List Message) → data_count (xs ++ ys) ≡ data_count xs + data_count ys
count_both [] ys = omega arith
count_both (Data chunk sent_at bytes ∷ xs) ys = (let rest = count_both xs ys in omega (arith, rest))
count_both (_ ∷ xs) ys = count_both xs ys

-- ---- before the chunk comes

-- The chunk isn't pending, what waits is what is pending, and there is room for so many tickets.
pub record ComesFirst (d : Descriptor) (i more : ℕ) (h : HoldingState) : Type 0 where
  pub rooms : HasRooms more h.queue
  pub absent : is_pending (batch_of h) i ≡ false
  pub waits : HasWaiting h.store h.queue.waiting
  pub swarm : h.store.descriptor ≡ d

first_walk : (seat : ℕ) (d : Descriptor) (i : ℕ) → IsWalk seat (λ k. eqb k i ≡ false) (ComesFirst d i)
first_walk seat d i = record {
  fewer = λ more less h le k. record { rooms = rooms_fewer more less h.queue le k.rooms; absent = k.absent; waits = k.waits; swarm = k.swarm };
  puts = λ chunk sent_at at more bytes claims old new ne p k. record {
    rooms = rooms_put chunk sent_at at more seat bytes claims old new p k.rooms;
    absent = (pending_walk seat i).puts chunk sent_at at more bytes claims old new ne p k.absent;
    waits = p.waits;
    swarm = p.swarm ∙ k.swarm;
  };
}

-- ---- where it comes

module _ (seat i sent_at more : ℕ) (text : List ℕ) (d : Descriptor) (at next : Parts) (t : TakesData seat i sent_at text at next)
    (first : ComesFirst d i (more + 1) at.holding) (proven : is_proven_in (slice_get at.seats.seats seat) ≡ true) (within : i < chunks_of d) where
  there : ComesFirst d i (more + 1) t.mid.holding
  there = subst (λ (h : HoldingState). ComesFirst d i (more + 1) h) (sym (ap (λ (p : Parts). p.holding) t.ends.rest)) first

  abbrev ticket : Ticket
  ticket = ticket_of seat i sent_at t.mid.seats.moment

  abbrev q : QueueState
  q = t.mid.holding.queue

  p : Puts (ticket_of seat i sent_at t.mid.seats.moment) text (claims_in (slice_get t.mid.seats.seats seat)) t.mid next
  p = t.judged (subst (λ (e : Descriptor). i < chunks_of e) (sym there.swarm) within) (proven_same seat i at t.mid t.ends ∙ proven)

  in_batch : is_in (batch_of t.mid.holding) i ≡ is_held t.mid.holding.store i
  in_batch = is_in-batch t.mid.holding.store t.mid.holding.queue.waiting i there.waits

  committed : is_held t.mid.holding.store i ≡ true → is_committed t.mid.holding.store i ≡ true
  committed held = ⊎_elim
      (λ is. is)
      (λ pending. absurd (both_ways (is_pending (batch_of t.mid.holding) i) there.absent pending))
      (or_cases (slice_index_or t.mid.holding.store.committed i false) (is_pending (batch_of t.mid.holding) i) (in_batch ∙ held))

  queue_again : is_held t.mid.holding.store i ≡ true → next.holding.queue ≡ queue_after Held true ticket t.mid.seats.moment q
  queue_again held =
      let claims = latest (claims_in (slice_get t.mid.seats.seats seat)) in
      p.queue
      ∙ ap (λ (x : Put). queue_after x (is_committed t.mid.holding.store i) ticket t.mid.seats.moment q)
      (p.answer ∙ ap (λ (b : Bool). put_answer b t.mid.holding.store.descriptor (entry t.mid.holding.book) claims i text) held)
      ∙ ap (λ (b : Bool). queue_after Held b ticket t.mid.seats.moment q) (committed held)

  data_step : HasIfIn seat i more next.holding
  data_step = ⊎_elim
      (λ held. (
        rooms_put i sent_at t.mid.seats.moment more seat text (claims_in (slice_get t.mid.seats.seats seat)) t.mid next p there.rooms,
        λ e. subst (λ (x : QueueState). AwaitsTicket seat i x) (sym (queue_again held)) (again_awaits ticket t.mid.seats.moment more q there.rooms),
      ))
      (λ unheld. (has_walk seat i).puts i sent_at t.mid.seats.moment more text (claims_in (slice_get t.mid.seats.seats seat)) t.mid next tt p
      (there.rooms, λ e. absurd (both_ways (is_in (batch_of t.mid.holding) i) (in_batch ∙ unheld) e)))
      (cases_Bool (is_held t.mid.holding.store i))

-- Behind messages of which one is the first DATA of the chunk, on a proven seat, its ticket waits if it is committed or pending.
pub path_has : (seat i sent_at : ℕ) (text : List ℕ) (front rest : List Message) (d : Descriptor) (first last : Parts)
    → InTurn seat (front ++ Data i sent_at text ∷ rest) first last → ComesFirst d i (data_count (front ++ Data i sent_at text ∷ rest)) first.holding
    → is_proven_in (slice_get first.seats.seats seat) ≡ true → i < chunks_of d → list_any (is_data i) front ≡ false
    → HasIfIn seat i 0 last.holding
path_has seat i sent_at text front rest d first last t start proven within none =
    let s = turn_split seat front (Data i sent_at text) rest first last t in
    let many = count_both front (Data i sent_at text ∷ rest) in
    let w = first_walk seat d i in
    let at = turn_walks seat (λ k. eqb k i ≡ false) (ComesFirst d i) w (data_count rest + 1) front first s.at (data_none i front none) s.before
    (w.fewer (data_count (front ++ Data i sent_at text ∷ rest)) (data_count front + (data_count rest + 1)) first.holding (omega (arith, many)) start) in
    let next = data_step seat i sent_at (data_count rest) text d s.at s.next s.does at (turn_proven seat front first s.at s.before ∙ proven) within in
    turn_walks seat (λ k. Unit {0}) (HasIfIn seat i) (has_walk seat i) 0 rest s.next last (data_any rest) s.after
    ((has_walk seat i).fewer (data_count rest) (data_count rest + 0) s.next.holding (omega arith) next)
