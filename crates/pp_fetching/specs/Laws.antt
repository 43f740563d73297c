-- Laws of what is asked for over all channels, which a function of this crate states.
use Rattle.std.specs.Prelude.{◌≡◌, ℕ, ◌+◌, ◌≤◌, Bool, true, false, not, ◌&&◌, ◌||◌, None, List, [], ◌∷◌, length, slice_set, slice_index_or}
use Rattle.pp_terms.specs.tree.Range.{Span, within, has}
use Rattle.pp_ranges.specs.Edits.{number_count}
use Rattle.pp_requests.specs.declared.asking.Asking.{Asking}
use Rattle.pp_requests.specs.Moments.{asked_at, Changes}
use Rattle.pp_fetching.specs.Fetching.{FetchState, ArePicked}
use Rattle.pp_fetching.specs.Owners.{awaits, AreOwned, SameElsewhere}

-- ---- how the tie stays, while one seat's own requests change and what is noted changes with them

-- Nothing is noted, and no seat has own requests.
abbrev pub NoneOwned : Type 0
NoneOwned = (asked : List Bool) (own_of : ℕ → List Asking) → ((i : ℕ) → slice_index_or asked i false ≡ false)
    → ((seat : ℕ) → own_of seat ≡ []) → AreOwned asked own_of

-- A chunk that was awaited on the seat came, expired or was taken out there, and was given back.
abbrev pub AnsweredStays : Type 0
AnsweredStays = (seat i : ℕ) (asked : List Bool) (old new : ℕ → List Asking) → AreOwned asked old → SameElsewhere seat old new
    → Changes i None (old seat) (new seat) → awaits (old seat) i ≡ true → AreOwned (slice_set asked i false) new

-- A chunk that wasn't awaited on the seat came there, and nothing was noted.
abbrev pub UnawaitedStays : Type 0
UnawaitedStays = (seat i : ℕ) (asked : List Bool) (old new : ℕ → List Asking) → AreOwned asked old → SameElsewhere seat old new
    → Changes i None (old seat) (new seat) → awaits (old seat) i ≡ false → AreOwned asked new

-- The seat has no own requests any more, and all that it had were given back.
abbrev pub DroppedStays : Type 0
DroppedStays = (seat : ℕ) (asked asked' : List Bool) (old new : ℕ → List Asking) → AreOwned asked old → SameElsewhere seat old new
    → new seat ≡ []
    → ((i : ℕ) → slice_index_or asked' i false ≡ (slice_index_or asked i false && not (awaits (old seat) i)))
    → AreOwned asked' new

-- Chunks that weren't asked for were picked and noted, own requests of some of them came in at the seat, and the others were
-- given back.
abbrev pub AsksStay : Type 0
AsksStay = (seat : ℕ) (picks : List Span) (asked noted asked' : List Bool) (old new : ℕ → List Asking) → AreOwned asked old
    → SameElsewhere seat old new
    → ((i : ℕ) → has picks i ≡ true → slice_index_or asked i false ≡ false)
    → ((i : ℕ) → slice_index_or noted i false ≡ (slice_index_or asked i false || has picks i))
    → ((i : ℕ) → has picks i ≡ false → awaits (new seat) i ≡ awaits (old seat) i)
    → ((i : ℕ) → slice_index_or asked' i false ≡ (slice_index_or noted i false && not (has picks i && not (awaits (new seat) i))))
    → AreOwned asked' new

-- Own requests left the seat and none came in, as with CANCELs, and those that left were given back.
abbrev pub CancelledStays : Type 0
CancelledStays = (seat : ℕ) (asked asked' : List Bool) (old new : ℕ → List Asking) → AreOwned asked old
    → SameElsewhere seat old new
    → ((i : ℕ) → awaits (new seat) i ≡ true → awaits (old seat) i ≡ true)
    → ((i : ℕ) → slice_index_or asked' i false
    ≡ (slice_index_or asked i false && not (awaits (old seat) i && not (awaits (new seat) i))))
    → AreOwned asked' new

-- Own requests and notes stay, whatever else changes of them, as the moments of the requests.
abbrev pub SameStays : Type 0
SameStays = (asked asked' : List Bool) (old new : ℕ → List Asking) → AreOwned asked old
    → ((seat i : ℕ) → awaits (new seat) i ≡ awaits (old seat) i)
    → ((i : ℕ) → slice_index_or asked' i false ≡ slice_index_or asked i false) → AreOwned asked' new

-- The ways in which the tie comes about and stays.
pub record TieStays : Type 0 where
  pub none : NoneOwned
  pub answered : AnsweredStays
  pub unawaited : UnawaitedStays
  pub dropped : DroppedStays
  pub asks : AsksStay
  pub cancelled : CancelledStays
  pub same : SameStays

-- ---- what follows from the tie

-- A chunk that isn't asked for is awaited on no seat.
abbrev pub NotElsewhere : Type 0
NotElsewhere = (asked : List Bool) (own_of : ℕ → List Asking) (seat i : ℕ) → AreOwned asked own_of
    → slice_index_or asked i false ≡ false → asked_at (own_of seat) i ≡ None

-- A chunk that is awaited on a seat is asked for.
abbrev pub AwaitedIsAsked : Type 0
AwaitedIsAsked = (asked : List Bool) (own_of : ℕ → List Asking) (seat i : ℕ) → AreOwned asked own_of
    → awaits (own_of seat) i ≡ true → slice_index_or asked i false ≡ true

-- No chunk is awaited on two seats.
abbrev pub OnOneSeat : Type 0
OnOneSeat = (asked : List Bool) (own_of : ℕ → List Asking) (one other i : ℕ) → AreOwned asked own_of
    → awaits (own_of one) i ≡ true → awaits (own_of other) i ≡ true → one ≡ other

-- no chunk is in two of the ranges
abbrev pub AreApart : List Span → Type 0
AreApart [] = Unit {0}
AreApart (range ∷ ranges) = ((i : ℕ) → within range i ≡ true → has ranges i ≡ false) × AreApart ranges

-- There is room for all of their chunks on a channel, and none of them is asked for there.
pub record AreFit (ranges : List Span) (own : List Asking) : Type 0 where
  pub room : length own + number_count ranges ≤ 32
  pub absent : (i : ℕ) → has ranges i ≡ true → asked_at own i ≡ None
  pub apart : AreApart ranges

-- What was picked for no more room than a seat has may be asked for there.
abbrev pub PicksFit : Type 0
PicksFit = (seat room : ℕ) (old new : FetchState) (picks : List Span) (own_of : ℕ → List Asking) → AreOwned old.want.asked own_of
    → ArePicked seat room old picks new → room + length (own_of seat) ≤ 32 → AreFit picks (own_of seat)
