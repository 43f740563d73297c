-- What is asked for is listed.
use Rattle.std.specs.Prelude.{◌≡◌, ◌⊎◌, ℕ, Bool, true, false, Option, Some, None, IfSome, List, [], ◌∷◌, slice_get}
use Rattle.std.specs.List.{filter}
use Rattle.pp_terms.specs.format.Messages.{Message, Request, Cancel}
use Rattle.pp_terms.specs.tree.Range.{Span, within, has}
use Rattle.pp_ranges.specs.Edits.{inserted, removed, is_apart}
use Rattle.pp_requests.specs.Lists.{are_too_many}
use Rattle.pp_outside.specs.declared.link.Event.{Event}
use Rattle.pp_seat.specs.Lines.{inside}
use Rattle.pp_seat.specs.Seats.{SeatState}
use Rattle.pp_peer.specs.declared.parts.Parts.{Parts}
use Rattle.pp_peer.specs.Messages.{InTurn}
use Rattle.pp_peer.specs.Events.{Absorbs}
use Rattle.pp_core.specs.Paths.{path_of}

-- ---- what is read of a seat

-- the chunks that the other peer asked for
abbrev pub list_in : Option SeatState → List Span
list_in None = []
list_in (Some s) = s.list

-- the seat has a slot
abbrev pub has_slot_in : Option SeatState → Bool
has_slot_in None = false
has_slot_in (Some s) = s.slot

-- what of a span lies in the content
abbrev pub part_in : Option SeatState → Span → Option Span
part_in None span = None
part_in (Some s) span = inside s.told.chunks span

abbrev pub list_at : (seat : ℕ) → Parts → List Span
list_at seat p = list_in (slice_get p.seats.seats seat)

-- ---- what takes a chunk off a list

-- A CANCEL of a part of the content takes a chunk off a list where the part has the chunk; or where the list has no room for what
-- would be left, if the chunk's range meets the part.
abbrev pub TakesOff : Option Span → List Span → (i : ℕ) → Type 0
TakesOff None list i = ⊥
TakesOff (Some range) list i =
    (within range i ≡ true) ⊎ ((are_too_many (removed range list) ≡ true) × (has (filter (is_apart range) list) i ≡ false))

-- A message drops a chunk from a seat's list.
abbrev pub IsDropped : (seat i : ℕ) → Message → Parts → Type 0
IsDropped seat i (Cancel span) p = TakesOff (part_in (slice_get p.seats.seats seat) span) (list_at seat p) i
IsDropped seat i _ p = ⊥

-- One of the messages drops the chunk.
abbrev pub DropsSome : (seat i : ℕ) (ms : List Message) (old new : Parts) → InTurn seat ms old new → Type 0
DropsSome seat i [] old new in_turn = ⊥
DropsSome seat i (m ∷ ms) old new in_turn = IsDropped seat i m old ⊎ DropsSome seat i ms in_turn.0 new in_turn.2

-- ---- what comes onto a list

-- A seat's list has no room for a range.
abbrev pub HasNoRoom : (seat : ℕ) → Span → Parts → Type 0
HasNoRoom seat range p = are_too_many (inserted (Some range) (list_at seat p)) ≡ true

-- Where the seat has a slot, each chunk of a REQUEST within the content is on the list, or is dropped again, or found no room.
abbrev pub ListsRequested : (seat : ℕ) → Message → Parts → (list : List Span) → (Drops : ℕ → Type 0) → Type 0
ListsRequested seat (Request span) p list Drops =
    has_slot_in (slice_get p.seats.seats seat) ≡ true → (range : Span) → part_in (slice_get p.seats.seats seat) span ≡ Some range
    → (i : ℕ) → within range i ≡ true → (has list i ≡ true) ⊎ (Drops i ⊎ HasNoRoom seat range p)
ListsRequested seat _ p list Drops = Unit {0}

-- The chunks of each REQUEST are on the list, but for those that a later message drops.
abbrev pub ListsAll : (list : List Span) (seat : ℕ) (ms : List Message) (old new : Parts) → InTurn seat ms old new → Type 0
ListsAll list seat [] old new in_turn = Unit {0}
ListsAll list seat (m ∷ ms) old new in_turn =
    ListsRequested seat m old list (λ i. DropsSome seat i ms in_turn.0 new in_turn.2)
    × ListsAll list seat ms in_turn.0 new in_turn.2

-- What the messages of an event ask for is on the seat's list once the event is over, unless one of them closes the channel.
pub record ListsRequests (event : Event) (bytes : List ℕ) (old new : Parts) : Type 0 where
  pub absorbs : Absorbs event bytes old new
  pub lists : IfSome (path_of event bytes old absorbs.mid absorbs.takes)
      (λ path. path.is_closed ≡ false
      → ListsAll (list_at path.seat new) path.seat path.messages path.first path.last path.in_turn)
