-- What goes out on the seats' channels, and what the link carries of it.
use Rattle.std.specs.Prelude.{◌≡◌, ℕ, ◌+◌, ◌<◌, ◌≤◌, nat_lt, Bool, true, false, Option, Some, None, List, [], ◌∷◌, ◌++◌, length, slice_get, slice_set, if◌then◌else◌, ◌==◌, ◌||◌, is_some}
use Rattle.std.specs.List.{AllByRecursion, list_any}
use Rattle.pp_terms.specs.format.Traffic.{Record, LinkState, GainsRecords}
use Rattle.pp_terms.specs.tree.Range.{Span, within, has}
use Rattle.pp_ranges.specs.Edits.{number_count}
use Rattle.pp_requests.specs.declared.asking.Asking.{Asking}
use Rattle.pp_requests.specs.Moments.{asked_at}
use Rattle.pp_promises.specs.Served.{is_announced}
use Rattle.pp_outside.specs.Outside.{address_of}
use Rattle.pp_channels.specs.Seats.{Seats, channel_at}
use Rattle.pp_lives.specs.Fars.{far_of}
use Rattle.pp_lives.specs.Sending.{with_datagram}
use Rattle.pp_lives.specs.declared.lives.Far.{Far}
use Rattle.pp_draft.specs.declared.note.Note.{Note}
use Rattle.pp_draft.specs.declared.note.Note.TheVariants.{Ack, Have, Request, Cancel}
use Rattle.pp_seat.specs.Seats.{SeatState}
use Rattle.pp_desk.specs.declared.steps.Delivered.{Delivered}
use Rattle.pp_desk.specs.Steps.{cursor_behind}
use Rattle.pp_desk.specs.Delivers.{Way, At, none_delivered, Goes, batches_of}
use Rattle.pp_desk.specs.Laws.{records_of}
use Rattle.pp_seats.specs.Reading.{opening_of}
use Rattle.pp_seats.specs.Standing.{SeatsState, Setting, StandsFor}

-- ---- what may be told

-- All chunks that were found, or announced so far, or of which some other peer is to know, are in a set.
pub record HoldsAnnounced (x : Setting) (held : ℕ → Bool) (past : List Record) : Type 0 where
  pub found : (i : ℕ) → x.is_found i ≡ true → held i ≡ true
  pub announced : (i : ℕ) → is_announced x.d i past ≡ true → held i ≡ true
  pub known : (seat i : ℕ) → x.known_of seat i ≡ true → held i ≡ true

-- A note announces chunks of the set alone.
abbrev pub Announces : (ℕ → Bool) → Note → Type 0
Announces held (Ack range delay) = (i : ℕ) → within range i ≡ true → held i ≡ true
Announces held (Have range) = (i : ℕ) → within range i ≡ true → held i ≡ true
Announces held _ = Unit {0}

-- Between the cursor and a HAVE no chunk of the set stands, nor between one HAVE and the next.
abbrev pub PassesOne : (ℕ → Bool) → ℕ → Note → Type 0
PassesOne held cursor (Have range) = (i : ℕ) → cursor ≤ i → i < range.first → held i ≡ false
PassesOne held cursor _ = Unit {0}

abbrev pub PassesAll : (ℕ → Bool) → ℕ → List Note → Type 0
PassesAll held cursor [] = Unit {0}
PassesAll held cursor (note ∷ notes) = PassesOne held cursor note × PassesAll held (cursor_behind cursor note) notes

-- the note tells of the chunk by HAVE
abbrev pub tells_note : ℕ → Note → Bool
tells_note i (Have range) = within range i
tells_note i _ = false

-- the setting once notes were delivered on a seat: the other peer is to know of what they tell of too
abbrev pub with_told : ℕ → List Note → Setting → Setting
with_told seat notes x = record x {
  known_of = λ other. if other == seat then (λ i. x.known_of seat i || list_any (tells_note i) notes) else x.known_of other;
}

-- ---- what may be asked for

-- the ranges of the REQUESTs
abbrev pub requested : List Note → List Span
requested [] = []
requested (Request range ∷ notes) = range ∷ requested notes
requested (_ ∷ notes) = requested notes

-- no REQUEST stands behind a CANCEL
abbrev pub AsksFirst : List Note → Type 0
AsksFirst [] = Unit {0}
AsksFirst (Cancel range ∷ notes) = requested notes ≡ []
AsksFirst (_ ∷ notes) = AsksFirst notes

-- no chunk is in two of the ranges
abbrev pub AreApart : List Span → Type 0
AreApart [] = Unit {0}
AreApart (range ∷ ranges) = ((i : ℕ) → within range i ≡ true → has ranges i ≡ false) × AreApart ranges

-- There is room for all of their chunks, and none of them is asked for.
pub record AreFit (ranges : List Span) (own : List Asking) : Type 0 where
  pub room : length own + number_count ranges ≤ 32
  pub absent : (i : ℕ) → has ranges i ≡ true → asked_at own i ≡ None
  pub apart : AreApart ranges

abbrev pub FitAll : List Span → List Asking → Type 0
FitAll [] own = Unit {0}
FitAll (range ∷ ranges) own = AreFit (range ∷ ranges) own

-- What may be said on a seat, where a set has all that is announced.
pub record MaySay (held : ℕ → Bool) (notes : List Note) (s : SeatState) : Type 0 where
  pub announces : AllByRecursion (Announces held) notes
  pub passes : PassesAll held s.cursor notes
  pub first : AsksFirst notes
  pub fit : FitAll (requested notes) s.own

-- ---- notes that were delivered

-- where the notes of a seat go
abbrev pub way_of : SeatsState → Far → (moment : ℕ) → Way
way_of p far moment = record { d = p.descriptor; receiver = address_of far.address; channel = far.number; moment = moment; now = p.moment }

-- the channels once the notes of one were delivered, behind a handshake or not: it is noted when something was sent last
abbrev pub with_sent : Seats → ℕ → (opens : Bool) → (sent now : ℕ) → Seats
with_sent table seat opens sent now = if nat_lt 0 sent then with_datagram table seat opens now else table

-- this peer's number for the channel of a seat, where its handshake goes before what is said there
abbrev pub opening_at : SeatsState → ℕ → Option ℕ
opening_at p seat = opening_of p.moment (channel_at p.table seat)

-- what the link carries then
abbrev pub records_by : (opening : Option ℕ) (w : Way) (notes : List Note) (old new : At) → Goes opening w notes old new → List Record
records_by opening w notes old new goes = records_of w (batches_of opening w notes old new goes)

-- The notes were delivered on a seat, whose channel's peer has a known number, behind this peer's handshake where that is due: the
-- link carries records of what was sent, and the seats stand for it, whatever was refused.
pub record SpeaksBy (opening : Option ℕ) (seat : ℕ) (notes : List Note) (moment : ℕ) (delivered : Delivered) (old new : SeatsState)
    (link later : LinkState) : Type 0 where
  pub far : Far
  pub is_far : far_of (channel_at old.table seat) ≡ Some far
  -- else a handshake was sent before
  pub begun : opening ≡ None → far.begun ≡ true
  pub before : SeatState
  pub after : SeatState
  pub there : slice_get old.seats seat ≡ Some before
  pub is : new ≡ record old {
    table = with_sent old.table seat (is_some opening) delivered.sent old.moment;
    seats =
        slice_set old.seats seat after;
  }
  pub goes : Goes opening (way_of old far moment) notes (record { seat = before; link = link; so_far = none_delivered })
      (record { seat = after; link = later; so_far = delivered })
  pub added : List Record
  pub added_are : added ≡ records_by opening (way_of old far moment) notes (record { seat = before; link = link; so_far = none_delivered })
      (record { seat = after; link = later; so_far = delivered }) goes
  pub gained : GainsRecords link.traffic added later.traffic
  pub stands : (x : Setting) (most : ℕ) (past : List Record) (held : ℕ → Bool) → StandsFor x most old past → HoldsAnnounced x held past
      → MaySay held notes before → StandsFor (with_told seat notes x) (most + delivered.refused) new (added ++ past)
  -- what was announced then is in the set too
  pub announced : (x : Setting) (most : ℕ) (past : List Record) (held : ℕ → Bool) → StandsFor x most old past → HoldsAnnounced x held past
      → MaySay held notes before → HoldsAnnounced (with_told seat notes x) held (added ++ past)

abbrev pub Speaks : ℕ → List Note → ℕ → Delivered → SeatsState → SeatsState → LinkState → LinkState → Type 0
Speaks seat notes moment delivered old new link later = SpeaksBy (opening_at old seat) seat notes moment delivered old new link later

-- Nothing can be said on a seat that is free, or whose peer's number isn't known, or to which no handshake was sent.
abbrev pub IsSilent : Option Far → Type 0
IsSilent None = Unit {0}
IsSilent (Some far) = far.begun ≡ false

-- Nor can it where no handshake was sent and none is due.
abbrev pub IsMute : (opening : Option ℕ) → Option Far → Type 0
IsMute opening None = Unit {0}
IsMute opening (Some far) = (opening ≡ None) × (far.begun ≡ false)
