-- Who may be sent chunks (RFC 7574, section 3.9). A seat is a number below 64.
use Rattle.std.specs.Prelude.{◌≡◌, ◌⊎◌, ℕ, ◌<◌, ◌≤◌, Some, None, List, [], ◌∷◌, slice_set}
use Rattle.pp_terms.specs.format.Traffic.{Record}
use Rattle.pp_requests.specs.Seats.{Seating, seat_count, IsLongest, IsDue}
use Rattle.pp_seats.specs.Turning.{Turns}
use Rattle.pp_peer.specs.declared.parts.Parts.{Parts}
use Rattle.pp_peer.specs.Standing.{Beginning, Fetches, StandsFor}

-- Turns became due and slots changed hands, and nothing else. What the peer stood for, it stands for still.
pub record KeepsButSlots (old new : Parts) : Type 0 where
  pub rest : new ≡ record old { seats = record old.seats { seats = new.seats.seats }; slots = new.slots }
  pub fetches : Fetches old → Fetches new
  pub stands : (b : Beginning) (most : ℕ) (past : List Record) → StandsFor b most old past → StandsFor b most new past

-- ---- free slots

-- a seat has a slot since a moment, and waits no longer
abbrev pub with_slot : (seat now : ℕ) → Seating → Seating
with_slot seat now s = record { slots = slice_set s.slots seat (Some now); waiting = slice_set s.waiting seat None; turned = s.turned }

-- A free slot went to the seat that waited longest, and the turn is due there.
pub record Grants (seat : ℕ) (old new : Parts) : Type 0 where
  pub below : seat < 64
  pub free : seat_count old.slots.slots < 8
  pub longest : IsLongest old.slots.waiting seat
  pub turns : Turns seat old.seats new.seats
  pub rest : new ≡ record old { seats = new.seats; slots = with_slot seat old.seats.moment old.slots }

abbrev pub GrantsOne : Parts → Parts → Type 0
GrantsOne old new = (seat : ℕ) × Grants seat old new

-- No slot is free, or no seat waits longest, as one does where any waits.
abbrev pub HasNoneToGrant : Parts → Type 0
HasNoneToGrant p = (8 ≤ seat_count p.slots.slots) ⊎ ((seat : ℕ) → seat < 64 → IsLongest p.slots.waiting seat → ⊥)

-- Free slots went to these seats, one after the other, each to the one that waited longest then, until no slot was free or no seat
-- waited.
abbrev pub GrantsInTurn : List ℕ → Parts → Parts → Type 0
GrantsInTurn [] old new = (new ≡ old) × HasNoneToGrant old
GrantsInTurn (seat ∷ rest) old new = (mid : Parts) × Grants seat old mid × GrantsInTurn rest mid new

abbrev pub GrantsAll : Parts → Parts → Type 0
GrantsAll old new = (seats : List ℕ) × GrantsInTurn seats old new

-- ---- slots that are turned

-- The turn is due on the seat that had its slot longest, and the slots were turned now.
pub record TurnsLongest (old new : Parts) : Type 0 where
  pub due : IsDue old.slots old.seats.moment
  pub seat : ℕ
  pub longest : IsLongest old.slots.slots seat
  pub turns : Turns seat old.seats new.seats
  pub rest : new ≡ record old { seats = new.seats; slots = record old.slots { turned = old.seats.moment } }

-- The slots weren't to be turned.
pub record TurnsNone (old new : Parts) : Type 0 where
  pub idle : IsDue old.slots old.seats.moment → (seat : ℕ) → seat < 64 → IsLongest old.slots.slots seat → ⊥
  pub same : new ≡ old

-- One or the other, and then free slots went to those that waited longest.
pub record TurnsSlots (old new : Parts) : Type 0 where
  pub mid : Parts
  pub turned : TurnsLongest old mid ⊎ TurnsNone old mid
  pub grants : GrantsAll mid new

-- ---- a slot that is given up

-- a seat has no slot, and waits since a moment
abbrev pub without_slot : (seat now : ℕ) → Seating → Seating
without_slot seat now s = record { slots = slice_set s.slots seat None; waiting = slice_set s.waiting seat (Some now); turned = s.turned }

-- A seat waits as the last, and free slots went to those that waited longest.
abbrev pub GivesUpSlot : (seat : ℕ) → Parts → Parts → Type 0
GivesUpSlot seat old new = GrantsAll (record old { slots = without_slot seat old.seats.moment old.slots }) new
