-- There is room for the tickets of all chunks that one event can bring, where all tickets were taken before.
use Rattle.std.proofs.Common.{◌≡◌, ◌⊎◌, inl, inr, ⊎_elim, ℕ, zero, suc, ◌+◌, ◌*◌, ◌<◌, ◌≤◌, Some, None, List, [], ◌∷◌, ◌++◌, length, drop, refl, ap, arith}
use Rattle.std.specs.Int.{w64, to_be_bytes}
use Rattle.std.proofs.lemmas.List.{length-append, length-take, length-drop}
use Rattle.pp_terms.specs.format.Descriptor.{Descriptor, Method, Bin32, Range32, Bin64, Range64}
use Rattle.pp_terms.specs.format.Messages.{Message, Data, spell_span, only, spell, BeginsWith, Step, Read, End, Cut, next_message, Messages, with_first, messages_from}
use Rattle.pp_terms.specs.format.Options.{IsBytes}
use Rattle.pp_terms.specs.tree.Content.{IsChunkSize}
use Rattle.pp_terms.specs.tree.Range.{Span}
use Rattle.pp_terms.proofs.MessageLaws.{read_is_spelt}
use Rattle.pp_terms.proofs.Spellings.{IsBytes-drop}
use Rattle.pp_promises.specs.Batches.{most_pending}
use Rattle.pp_outside.specs.Arrivals.{IsEvent}
use Rattle.pp_outside.specs.declared.link.Event.{Event}
use Rattle.pp_outside.specs.declared.link.Event.TheVariants as events
use Rattle.pp_tree.proofs.Sizes.{size_of_chunk_size}
use Rattle.pp_holding.specs.declared.queue.Ticket.{Ticket}
use Rattle.pp_holding.specs.Holding.{HoldingState}
use Rattle.pp_core.proofs.Ticketed.{HasTicketRoom}
use Rattle.pp_core.proofs.Walks.{data_count}

-- ---- one DATA

span_some : (method : Method) (s : Span) → 4 ≤ length (spell_span method s)
span_some Bin32 s = omega arith
span_some Range32 s = omega arith
span_some Bin64 s = omega arith
span_some Range64 s = omega arith

data_length : (method : Method) (number sent_at : ℕ) (content : List ℕ) → 13 + length content ≤ length (spell method (Data number sent_at content))
unfolding spell
data_length method number sent_at content =
    let some = span_some method (only number) in
    let one = length-append (spell_span method (only number)) (to_be_bytes w64 sent_at ++ content) in
    let two = length-append (to_be_bytes w64 sent_at) content in
    let eight : length (to_be_bytes w64 sent_at) ≡ 8 = refl in
    omega (arith, some, one, two, eight)

-- it has the bytes of a whole chunk, or it is the last of its datagram
data_size : (method : Method) (chunk number sent_at count : ℕ) (content bytes : List ℕ) → 256 ≤ chunk
    → BeginsWith method chunk (Data number sent_at content) count bytes → (269 ≤ count) ⊎ ((14 ≤ count) × (drop count bytes ≡ []))
data_size method chunk number sent_at count content bytes least b =
    let low = data_length method number sent_at content in
    let text = ap (λ (xs : List ℕ). length xs) b.spelt.1 in
    let front = length-take count bytes in
    let within = b.within in
    let some = b.spelt.0.2 in
    ⊎_elim
    (λ (full : length content ≡ chunk). inl (omega (arith, low, text, front, within, full, least)))
    (λ last. inr (omega (arith, low, text, front, within, some), last.1))
    b.may

-- ---- all of them

-- the messages behind a step
abbrev after_step : ℕ → Method → ℕ → ℕ → List ℕ → Step → Messages
after_step n method chunk at bytes (Read m size) = with_first m (messages_from n method chunk (at + size) (drop size bytes))
after_step n method chunk at bytes End = record { read = []; fault = None }
after_step n method chunk at bytes (Cut place kind) = record { read = []; fault = Some (at + place, kind) }

few_data : (n : ℕ) (method : Method) (chunk at : ℕ) (bytes : List ℕ) → 256 ≤ chunk → IsBytes bytes
    → 269 * data_count (messages_from n method chunk at bytes).read ≤ length bytes + 255
unfolding messages_from
few_data zero method chunk at bytes least fits = omega arith
few_data (suc n) method chunk at bytes least fits =
    of (λ size. few_data n method chunk (at + size) (drop size bytes) least (IsBytes-drop size bytes fits)) (next_message method chunk bytes) refl
  where
    Behind : Type 0
    Behind = (size : ℕ) → 269 * data_count (messages_from n method chunk (at + size) (drop size bytes)).read ≤ length (drop size bytes) + 255

    first : Behind → (m : Message) (size : ℕ) → next_message method chunk bytes ≡ Read m size
        → 269 * data_count (m ∷ (messages_from n method chunk (at + size) (drop size bytes)).read) ≤ length bytes + 255
    first behind (Data number sent_at content) size e =
        let b = read_is_spelt method chunk bytes (Data number sent_at content) size (omega (arith, least)) fits e in
        let within = b.within in
        let less = length-drop size bytes in
        let rest = behind size in
        ⊎_elim
        (λ full. omega (arith, full, within, less, rest))
        (λ last. let none = ap (λ (xs : List ℕ). length xs) last.1 in let some = last.0 in omega (arith, some, none, within, rest))
        (data_size method chunk number sent_at size content bytes least b)
    first behind m size e = (let less = length-drop size bytes in let rest = behind size in omega (arith, less, rest))

    of : Behind → (s : Step) → next_message method chunk bytes ≡ s → 269 * data_count (after_step n method chunk at bytes s).read ≤ length bytes + 255
    of behind (Read m size) e = first behind m size e
    of behind End e = omega arith
    of behind (Cut place kind) e = omega arith

chunk_least : (chunk : ℕ) → IsChunkSize chunk → 256 ≤ chunk
chunk_least chunk h = ⊎_elim (λ e. omega (arith, e)) (λ r. ⊎_elim (λ e. omega (arith, e)) (λ r. ⊎_elim (λ e. omega (arith, e))
    (λ r. ⊎_elim (λ e. omega (arith, e)) (λ r. ⊎_elim (λ e. omega (arith, e)) (λ e. omega (arith, e)) r) r) r) r)
    (size_of_chunk_size chunk h)

event_short : (event : Event) (bytes : List ℕ) → IsEvent event bytes → length bytes ≤ 65536
event_short (events.Datagram sender len at) bytes is = is.1
event_short (events.Quiet at) bytes is = let none = ap (λ (xs : List ℕ). length xs) is in omega (arith, none)

-- There is room for the tickets of an event, where there is none yet and fewer chunks wait than are committed at once.
pub event_room : (d : Descriptor) (event : Event) (bytes : List ℕ) (h : HoldingState) → IsChunkSize d.chunk → IsBytes bytes → IsEvent event bytes
    → h.queue.tickets ≡ [] → length h.queue.waiting < most_pending → HasTicketRoom d bytes h
event_room d event bytes h size fits is none few = record {
  room = λ start.
      let many = few_data (length (drop start bytes)) d.method d.chunk start (drop start bytes) (chunk_least d.chunk size)
      (IsBytes-drop start bytes fits) in
      let less = length-drop start bytes in
      let empty = ap (λ (ts : List Ticket). length ts) none in
      let short = event_short event bytes is in
      omega (arith, many, less, empty, few, short);
  few = few;
}
