-- Seats with moments in microseconds: which seat has a slot or waits, and since when.
use Rattle.std.specs.Prelude.{◌≡◌, ◌⊎◌, ℕ, ◌+◌, ◌<◌, ◌≤◌, Option, Some, None, is_some, List, slice_index_or, count_by}

-- since when a seat is among them
abbrev pub since : List (Option ℕ) → ℕ → Option ℕ
since seats seat = slice_index_or seats seat None

-- how many are
abbrev pub seat_count : List (Option ℕ) → ℕ
seat_count seats = count_by is_some seats

-- The seat is among them longest; of those that came at one moment it is the least.
pub record IsLongest (seats : List (Option ℕ)) (seat : ℕ) : Type 0 where
  pub moment : ℕ
  pub is_there : since seats seat ≡ Some moment
  pub first : (other m : ℕ) → since seats other ≡ Some m → (moment < m) ⊎ ((moment ≡ m) × (seat ≤ other))

-- none is among them
abbrev pub IsNone : List (Option ℕ) → Type 0
IsNone seats = (seat : ℕ) → since seats seat ≡ None

-- The seats that have a slot, those that wait for one, and when the slots were last turned.
pub record Seating : Type 0 where
  pub slots : List (Option ℕ)
  pub waiting : List (Option ℕ)
  pub turned : ℕ

-- All eight slots are taken, a seat waits, and 30 seconds have passed since the last turning.
pub record IsDue (seating : Seating) (now : ℕ) : Type 0 where
  pub taken : seat_count seating.slots ≡ 8
  pub waits : (seat : ℕ) × (moment : ℕ) × (since seating.waiting seat ≡ Some moment)
  pub long : seating.turned + 30_000_000 ≤ now
