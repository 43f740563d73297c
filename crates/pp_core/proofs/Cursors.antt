-- Where the cursors of all seats are when something came: a seat that is begun has its own at 0, and the others stay.
use Rattle.std.proofs.Common.{◌≡◌, ◌≢◌, ◌⊎◌, inl, inr, ⊎_elim, ℕ, zero, suc, Bool, false, Option, Some, None, List, [], ◌∷◌, map, refl, sym, ◌∙◌, ap}
use Rattle.std.specs.Prelude.{slice_get, slice_set}
use Rattle.std.proofs.lemmas.Bool.{cases_eq, cases_Bool}
use Rattle.std.proofs.lemmas.Option.{same_Some}
use Rattle.pp_terms.specs.format.Descriptor.{Descriptor}
use Rattle.pp_terms.specs.format.Messages.{Message, Data, Ack, Have, Integrity, Request, Cancel, Choke, Unchoke}
use Rattle.pp_terms.specs.tree.Range.{Span}
use Rattle.pp_traffic.specs.Life.{closes}
use Rattle.pp_counts.specs.declared.note.Note.{Note}
use Rattle.pp_outside.specs.declared.link.Address.{Address}
use Rattle.pp_outside.specs.declared.link.Event.{Event}
use Rattle.pp_outside.specs.declared.link.Event.TheVariants as events
use Rattle.pp_lives.specs.declared.arriving.Arrival.{Arrival}
use Rattle.pp_lives.specs.declared.arriving.Arrival.TheVariants as arrivals
use Rattle.pp_seat.specs.Lines.{inside}
use Rattle.pp_seat.specs.Seats.{SeatState}
use Rattle.pp_desk.specs.Hearing.{HearsPart, HearsAck, HearsHave, HearsIntegrity, HearsRequest, HearsCancel, Hears}
use Rattle.pp_seats.specs.Hearing.{ChangesSeat, Begins, BeginsShown, IsAnswered, IsShown, Prepares, looked_up}
use Rattle.pp_seats.specs.Standing.{SeatsState}
use Rattle.pp_seats.proofs.Lists.{get_set_there, get_set_other}
use Rattle.pp_peer.specs.declared.parts.Parts.{Parts}
use Rattle.pp_peer.specs.Events.{HearsArrival, HearsProven, TakesEvent, Absorbs}
use Rattle.pp_peer.specs.Messages.{TakesData, TakesOther, InTurn, before_close, ReadsAll}
use Rattle.pp_peer.specs.Taking.{read_at}
use Rattle.pp_core.proofs.Claiming.{data_seats}
use Rattle.pp_core.proofs.Paths.{heeded_beside, data_or_other}
use Rattle.pp_core.proofs.Rooms.{at_set}

-- ---- a seat

-- where the cursor of a seat is, if the seat is there
abbrev pub cursor_at : Option SeatState → Option ℕ
cursor_at None = None
cursor_at (Some s) = Some s.cursor

-- The cursors are where they were.
abbrev pub SameCursors : List SeatState → List SeatState → Type 0
SameCursors xs ys = (n : ℕ) → cursor_at (slice_get ys n) ≡ cursor_at (slice_get xs n)

-- where one seat changes that has it where it was
changes_same : (seat : ℕ) (P : SeatState → SeatState → Type 0) (old new : SeatsState) → (c : ChangesSeat seat P old new)
    → c.after.cursor ≡ c.before.cursor → SameCursors old.seats new.seats
changes_same seat P old new c same n = ap (λ (x : SeatsState). cursor_at (slice_get x.seats n)) c.is
    ∙ at_set cursor_at old.seats seat c.before c.after c.there (ap (λ (k : ℕ). Some k) same) n

-- ---- messages

part_cursor : (span : Span) (hears : Span → Type 0) (noted : Option Note) (old new : SeatState) → HearsPart span hears noted old new
    → ((range : Span) → hears range → new.cursor ≡ old.cursor) → new.cursor ≡ old.cursor
part_cursor span hears noted old new h each = by (inside old.told.chunks span) refl
  where
    by : (o : Option Span) → inside old.told.chunks span ≡ o → new.cursor ≡ old.cursor
    by None e = ap (λ (s : SeatState). s.cursor) (h.outside e).1
    by (Some range) e = each range (h.part range e)

request_cursor : (range : Span) (noted : Option Note) (old new : SeatState) → HearsRequest range noted old new → new.cursor ≡ old.cursor
request_cursor range noted old new h = ⊎_elim
    (λ slot. ⊎_elim (λ is. ap (λ (s : SeatState). s.cursor) is.rest) (λ full. ap (λ (s : SeatState). s.cursor) full.same) (h.slot slot))
    (λ none. ap (λ (s : SeatState). s.cursor) (h.choked none).1)
    (cases_Bool old.slot)

integrity_cursor : (range : Span) (digest : List ℕ) (noted : Option Note) (old new : SeatState) → HearsIntegrity range digest noted old new
    → new.cursor ≡ old.cursor
integrity_cursor range digest noted old new h = ⊎_elim
    (λ proven. ⊎_elim (λ is. ap (λ (s : SeatState). s.cursor) is.exact) (λ none. ap (λ (s : SeatState). s.cursor) none.same) (h.proven proven))
    (λ unproven. ap (λ (s : SeatState). s.cursor) (h.unproven unproven).1)
    (cases_Bool old.proven)

hears_cursor : (now : ℕ) (m : Message) (noted : Option Note) (old new : SeatState) → Hears now m noted old new → new.cursor ≡ old.cursor
hears_cursor now (Data chunk sent_at bytes) noted old new h = absurd h
hears_cursor now (Ack span delay) noted old new h = part_cursor span (λ range. HearsAck range delay now noted old new) noted old new h
    (λ range here. ap (λ (s : SeatState). s.cursor) here.rest)
hears_cursor now (Have span) noted old new h = part_cursor span (λ range. HearsHave range noted old new) noted old new h
    (λ range here. ap (λ (s : SeatState). s.cursor) here.rest)
hears_cursor now (Integrity span digest) noted old new h =
    part_cursor span (λ range. HearsIntegrity range digest noted old new) noted old new h
    (λ range here. integrity_cursor range digest noted old new here)
hears_cursor now (Request span) noted old new h =
    part_cursor span (λ range. HearsRequest range noted old new) noted old new h (λ range here. request_cursor range noted old new here)
hears_cursor now (Cancel span) noted old new h =
    part_cursor span (λ range. HearsCancel range noted old new) noted old new h (λ range here. ap (λ (s : SeatState). s.cursor) here.exact)
hears_cursor now Choke noted old new h = ap (λ (s : SeatState). s.cursor) h.1
hears_cursor now Unchoke noted old new h = ap (λ (s : SeatState). s.cursor) h.1
hears_cursor now m noted old new h = ap (λ (s : SeatState). s.cursor) h.1

other_cursors : (seat : ℕ) (m : Message) (old new : Parts) → TakesOther seat m old new → SameCursors old.seats.seats new.seats.seats
other_cursors seat m old new t n =
    changes_same seat (Hears t.mid.seats.moment m t.noted) t.mid.seats new.seats t.heard
    (hears_cursor t.mid.seats.moment m t.noted t.heard.before t.heard.after t.heard.changes) n
    ∙ ap (λ (x : SeatsState). cursor_at (slice_get x.seats n)) (heeded_beside seat m old t.mid t.heeds).seats

data_cursors : (seat chunk sent_at : ℕ) (bytes : List ℕ) (old new : Parts) → TakesData seat chunk sent_at bytes old new
    → SameCursors old.seats.seats new.seats.seats
data_cursors seat chunk sent_at bytes old new t n =
    ap (λ (x : SeatsState). cursor_at (slice_get x.seats n)) (data_seats seat chunk sent_at bytes old new t)
    ∙ changes_same seat (IsAnswered chunk t.ends.was) old.seats t.mid.seats t.ends.answered
    (ap (λ (s : SeatState). s.cursor) t.ends.answered.changes.rest) n

turn_cursors : (seat : ℕ) (ms : List Message) (old new : Parts) → InTurn seat ms old new → SameCursors old.seats.seats new.seats.seats
turn_cursors seat [] old new t n = ap (λ (p : Parts). cursor_at (slice_get p.seats.seats n)) t
turn_cursors seat (m ∷ ms) old new t n = turn_cursors seat ms t.0 new t.2 n
    ∙ data_or_other (cursor_at (slice_get t.0.seats.seats n) ≡ cursor_at (slice_get old.seats.seats n)) seat m old t.0 t.1
    (λ chunk sent_at bytes does. data_cursors seat chunk sent_at bytes old t.0 does n)
    (λ does. other_cursors seat m old t.0 does n)

reads_cursors : (seat : ℕ) (d : Descriptor) (bytes : List ℕ) (start : ℕ) (old new : Parts) → ReadsAll seat d bytes start old new
    → SameCursors old.seats.seats new.seats.seats
reads_cursors seat d bytes start old new r n = ⊎_elim
    (λ shut.
    let f = (r.shuts shut).forgets in
    ap (λ (x : SeatsState). cursor_at (slice_get x.seats n)) f.is
    ∙ at_set cursor_at r.mid.seats.seats seat f.before (record f.before { own = [] }) f.there refl n ∙ middle)
    (λ stays. ap (λ (p : Parts). cursor_at (slice_get p.seats.seats n)) (r.stays stays) ∙ middle)
    (cases_Bool (closes (read_at d bytes start)))
  where
    middle : cursor_at (slice_get r.mid.seats.seats n) ≡ cursor_at (slice_get old.seats.seats n)
    middle = turn_cursors seat (before_close (read_at d bytes start)) old r.mid r.in_turn n

proven_cursors : (sender : Address) (bare : Bool) (seat : ℕ) (bytes : List ℕ) (old new : Parts) → HearsProven sender bare seat bytes old new
    → SameCursors old.seats.seats new.seats.seats
proven_cursors sender bare seat bytes old new p n = reads_cursors seat p.mid.seats.descriptor bytes 4 p.mid new p.reads n
    ∙ ap (λ (x : Parts). cursor_at (slice_get x.seats.seats n)) p.hears.rest

same_parts : (old new : Parts) → new ≡ old → SameCursors old.seats.seats new.seats.seats
same_parts old new is n = ap (λ (p : Parts). cursor_at (slice_get p.seats.seats n)) is

arrival_cursors : (a : Arrival) (sender : Address) (bytes : List ℕ) (slot : Bool) (old new : Parts) → HearsArrival a sender bytes slot old new
    → SameCursors old.seats.seats new.seats.seats
arrival_cursors (arrivals.Opened seat next) sender bytes slot old new r = reads_cursors seat old.seats.descriptor bytes next _ new r
arrival_cursors (arrivals.Replied seat) sender bytes slot old new r = proven_cursors sender false seat bytes _ new r
arrival_cursors (arrivals.Heard seat) sender bytes slot old new r = proven_cursors sender _ seat bytes _ new r
arrival_cursors arrivals.Short sender bytes slot old new r = same_parts old new r
arrival_cursors arrivals.NoGreeting sender bytes slot old new r = same_parts old new r
arrival_cursors arrivals.Unwelcome sender bytes slot old new r = same_parts old new r
arrival_cursors arrivals.Unseated sender bytes slot old new r = same_parts old new r
arrival_cursors (arrivals.Again seat) sender bytes slot old new r = same_parts old new r
arrival_cursors (arrivals.Late seat) sender bytes slot old new r = same_parts old new r
arrival_cursors arrivals.NoChannel sender bytes slot old new r = same_parts old new r
arrival_cursors (arrivals.NoReply seat) sender bytes slot old new r = same_parts old new r
arrival_cursors (arrivals.Cut seat) sender bytes slot old new r = same_parts old new r
arrival_cursors (arrivals.Differs seat) sender bytes slot old new r = same_parts old new r
arrival_cursors (arrivals.Given seat) sender bytes slot old new r = same_parts old new r

-- ---- a seat that is begun

-- the seat that a datagram begins: one that it opens, or whose dial it replies to
abbrev pub begins_seat : Arrival → Option ℕ
begins_seat (arrivals.Opened seat next) = Some seat
begins_seat (arrivals.Replied seat) = Some seat
begins_seat _ = None

-- The cursor of a seat is at 0, where the seat began, or where it was, and the reply to a dial of that seat didn't come.
abbrev pub FromCursor : Arrival → ℕ → Option SeatState → Option SeatState → Type 0
FromCursor a n o p = ((begins_seat a ≡ Some n) × (cursor_at p ≡ Some 0)) ⊎ ((a ≡ arrivals.Replied n → ⊥) × (cursor_at p ≡ cursor_at o))

abbrev replied_seat : Arrival → Option ℕ
replied_seat (arrivals.Replied seat) = Some seat
replied_seat _ = None

not_replied : (a : Arrival) (n : ℕ) → replied_seat a ≡ None → a ≡ arrivals.Replied n → ⊥
not_replied a n none is = let x : None ≡ Some n = sym none ∙ ap replied_seat is in cc

begun_cursor : (a : Arrival) (seat : ℕ) (P : SeatState → SeatState → Type 0) (old new : SeatsState) → (c : ChangesSeat seat P old new)
    → begins_seat a ≡ Some seat → c.after.cursor ≡ 0 → (n : ℕ) → (n ≢ seat → a ≡ arrivals.Replied n → ⊥)
    → FromCursor a n (slice_get old.seats n) (slice_get new.seats n)
begun_cursor a seat P old new c begins zero_is n other = ⊎_elim
    (λ (here : n ≡ seat). inl (
      begins ∙ ap (λ (m : ℕ). Some m) (sym here),
      ap (λ (x : SeatsState). cursor_at (slice_get x.seats n)) c.is
          ∙ ap (λ (m : ℕ). cursor_at (slice_get (slice_set old.seats seat c.after) m)) here
          ∙ ap cursor_at (get_set_there old.seats seat c.after c.before c.there) ∙ ap (λ (k : ℕ). Some k) zero_is,
    ))
    (λ (ne : n ≢ seat). inr (
      other ne,
      ap (λ (x : SeatsState). cursor_at (slice_get x.seats n)) c.is ∙ ap cursor_at (get_set_other old.seats seat n c.after ne),
    ))
    (cases_eq n seat)

stays_cursor : (a : Arrival) (n : ℕ) (o p : Option SeatState) → replied_seat a ≡ None → cursor_at p ≡ cursor_at o → FromCursor a n o p
stays_cursor a n o p none same = inr (not_replied a n none, same)

prepared_cursor : (d : Descriptor) (slot : Bool) (a : Arrival) (old new : SeatsState) → Prepares d slot a old new → (n : ℕ)
    → FromCursor a n (slice_get old.seats n) (slice_get new.seats n)
prepared_cursor d slot (arrivals.Opened seat next) old new h n =
    begun_cursor (arrivals.Opened seat next) seat (Begins d slot) old new h refl h.changes.fresh.cursor n
    (λ ne. not_replied (arrivals.Opened seat next) n refl)
prepared_cursor d slot (arrivals.Replied seat) old new h n =
    begun_cursor (arrivals.Replied seat) seat (BeginsShown d slot) old new h refl
    (ap (λ (s : SeatState). s.cursor) h.changes.shown.exact ∙ h.changes.begins.fresh.cursor) n
    (λ ne is. ne (same_Some n seat (sym (ap replied_seat is))))
prepared_cursor d slot (arrivals.Heard seat) old new h n =
    stays_cursor (arrivals.Heard seat) n (slice_get old.seats n) (slice_get new.seats n) refl
    (changes_same seat IsShown old new h (ap (λ (s : SeatState). s.cursor) h.changes.exact) n)
prepared_cursor d slot arrivals.Short old new h n = stays_cursor arrivals.Short n _ _ refl (ap (λ (x : SeatsState). cursor_at (slice_get x.seats n)) h)
prepared_cursor d slot arrivals.NoGreeting old new h n =
    stays_cursor arrivals.NoGreeting n _ _ refl (ap (λ (x : SeatsState). cursor_at (slice_get x.seats n)) h)
prepared_cursor d slot arrivals.Unwelcome old new h n =
    stays_cursor arrivals.Unwelcome n _ _ refl (ap (λ (x : SeatsState). cursor_at (slice_get x.seats n)) h)
prepared_cursor d slot arrivals.Unseated old new h n =
    stays_cursor arrivals.Unseated n _ _ refl (ap (λ (x : SeatsState). cursor_at (slice_get x.seats n)) h)
prepared_cursor d slot (arrivals.Again seat) old new h n =
    stays_cursor (arrivals.Again seat) n _ _ refl (ap (λ (x : SeatsState). cursor_at (slice_get x.seats n)) h)
prepared_cursor d slot (arrivals.Late seat) old new h n =
    stays_cursor (arrivals.Late seat) n _ _ refl (ap (λ (x : SeatsState). cursor_at (slice_get x.seats n)) h)
prepared_cursor d slot arrivals.NoChannel old new h n =
    stays_cursor arrivals.NoChannel n _ _ refl (ap (λ (x : SeatsState). cursor_at (slice_get x.seats n)) h)
prepared_cursor d slot (arrivals.NoReply seat) old new h n =
    stays_cursor (arrivals.NoReply seat) n _ _ refl (ap (λ (x : SeatsState). cursor_at (slice_get x.seats n)) h)
prepared_cursor d slot (arrivals.Cut seat) old new h n =
    stays_cursor (arrivals.Cut seat) n _ _ refl (ap (λ (x : SeatsState). cursor_at (slice_get x.seats n)) h)
prepared_cursor d slot (arrivals.Differs seat) old new h n =
    stays_cursor (arrivals.Differs seat) n _ _ refl (ap (λ (x : SeatsState). cursor_at (slice_get x.seats n)) h)
prepared_cursor d slot (arrivals.Given seat) old new h n =
    stays_cursor (arrivals.Given seat) n _ _ refl (ap (λ (x : SeatsState). cursor_at (slice_get x.seats n)) h)

-- ---- an event

-- the arrival of an event, where a datagram came
abbrev pub arrival_of : (event : Event) (bytes : List ℕ) (old new : Parts) → TakesEvent event bytes old new → Arrival
arrival_of (events.Datagram sender len at) bytes old new t = t.arrival
arrival_of (events.Quiet at) bytes old new t = arrivals.Short

then_same : (a : Arrival) (n : ℕ) (o p q : Option SeatState) → FromCursor a n o p → cursor_at q ≡ cursor_at p → FromCursor a n o q
then_same a n o p q (inl zero_is) same = inl (zero_is.0, same ∙ zero_is.1)
then_same a n o p q (inr stays) same = inr (stays.0, same ∙ stays.1)

event_cursor : (event : Event) (bytes : List ℕ) (old new : Parts) → (t : TakesEvent event bytes old new) → (n : ℕ)
    → FromCursor (arrival_of event bytes old new t) n (slice_get old.seats.seats n) (slice_get new.seats.seats n)
event_cursor (events.Datagram sender len at) bytes old new t n =
    then_same t.arrival n (slice_get old.seats.seats n) (slice_get t.mid.seats.seats n) (slice_get new.seats.seats n)
    (prepared_cursor old.seats.descriptor t.slot t.arrival (record t.mid.seats { seats = old.seats.seats }) t.mid.seats t.makes n)
    (arrival_cursors t.arrival sender bytes t.slot t.mid new t.hears n)
event_cursor (events.Quiet at) bytes old new t n =
    stays_cursor arrivals.Short n _ _ refl (ap (λ (p : Parts). cursor_at (slice_get p.seats.seats n)) t)

looked_same : (now : ℕ) (xs : List SeatState) → SameCursors xs (map (looked_up now) xs)
looked_same now [] n = refl
looked_same now (x ∷ xs) zero = refl
looked_same now (x ∷ xs) (suc n) = looked_same now xs n

pub absorbs_cursor : (event : Event) (bytes : List ℕ) (old new : Parts) → (a : Absorbs event bytes old new) → (n : ℕ)
    → FromCursor (arrival_of event bytes old a.mid a.takes) n (slice_get old.seats.seats n) (slice_get new.seats.seats n)
absorbs_cursor event bytes old new a n =
    then_same (arrival_of event bytes old a.mid a.takes) n (slice_get old.seats.seats n) (slice_get a.mid.seats.seats n) (slice_get new.seats.seats n)
    (event_cursor event bytes old a.mid a.takes n)
    (ap (λ (p : Parts). cursor_at (slice_get p.seats.seats n)) a.rest ∙ looked_same a.mid.seats.moment a.mid.seats.seats n)
