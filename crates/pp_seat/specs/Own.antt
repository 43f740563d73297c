-- Own requests as calls change them.
use Rattle.std.specs.Prelude.{◌≡◌, ℕ, ◌+◌, ◌-◌, ◌<◌, ◌≤◌, Bool, true, false, cond, Option, Some, None, List, [], ◌∷◌, length, slice_index_or}
use Rattle.pp_terms.specs.format.Messages.{Message, Pex4, Pex6}
use Rattle.pp_terms.specs.tree.Range.{Span, within, has}
use Rattle.pp_promises.specs.OwnSide.{most_asked}
use Rattle.pp_requests.specs.declared.asking.Asking.{Asking}
use Rattle.pp_requests.specs.Moments.{asked_at, entry_of, Changes, ChangesEntry}

-- The spans together are the range.
abbrev pub IsSplit : Span → List Span → Type 0
IsSplit range spans = (i : ℕ) → has spans i ≡ within range i

-- a request that was sent just now
abbrev pub asked_now : (i now : ℕ) → Asking
asked_now i now = record { chunk = i; moment = now; overtaken = 0 }

-- One chunk more was asked for.
pub record HasAsked (i now : ℕ) (old new : List Asking) : Type 0 where
  pub asked : Changes i (Some now) old new
  pub entered : ChangesEntry i (Some (asked_now i now)) old new
  pub len : length new ≡ length old + 1

-- No chunk of the range is asked for, and all of it has room.
pub record CanAsk (range : Span) (own : List Asking) : Type 0 where
  pub room : length own + (range.last + 1 - range.first) ≤ 32
  pub absent : (i : ℕ) → within range i ≡ true → asked_at own i ≡ None

-- All of it was asked for.
pub record AsksAll (range : Span) (now : ℕ) (old new : List Asking) : Type 0 where
  pub asked : (i : ℕ) → asked_at new i ≡ cond (within range i) (Some now) (asked_at old i)
  pub entered : (i : ℕ) → entry_of new i ≡ cond (within range i) (Some (asked_now i now)) (entry_of old i)
  pub len : length new ≡ length old + (range.last + 1 - range.first)

-- The range begins at the first chunk of a set from a place on, and goes as far as all are in the set.
pub record IsNextRow (from : ℕ) (set : List Bool) (range : Span) : Type 0 where
  pub low : from ≤ range.first
  pub order : range.first ≤ range.last
  pub content : range.last < length set
  pub passed : (i : ℕ) → from ≤ i → i < range.first → slice_index_or set i false ≡ false
  pub members : (i : ℕ) → within range i ≡ true → slice_index_or set i false ≡ true
  pub ends : slice_index_or set (range.last + 1) false ≡ false

-- The messages are addresses of other peers, and there are some.
abbrev pub IsAddress : Message → Type 0
IsAddress (Pex4 address port) = Unit {0}
IsAddress (Pex6 address port) = Unit {0}
IsAddress _ = ⊥

abbrev pub EachAddress : List Message → Type 0
EachAddress [] = Unit {0}
EachAddress (m ∷ ms) = IsAddress m × EachAddress ms

abbrev pub AreAddresses : List Message → Type 0
AreAddresses ms = (0 < length ms) × EachAddress ms

-- The last moment is none, or so long ago; there is one, and it isn't longer ago. In microseconds.
abbrev pub IsRested : Option ℕ → (now time : ℕ) → Type 0
IsRested None now time = Unit {0}
IsRested (Some moment) now time = time ≤ now - moment

abbrev pub IsSince : Option ℕ → (now time : ℕ) → Type 0
IsSince None now time = ⊥
IsSince (Some moment) now time = now - moment ≤ time

-- ---- how many may be asked for

-- how many chunks may be asked for beside those that are: 32 at a time, and one where asking stopped
abbrev pub room_of : Bool → List Asking → ℕ
room_of stopped own = most_asked stopped - length own
