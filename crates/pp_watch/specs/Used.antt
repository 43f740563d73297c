-- Orders that were used up, and counts of what was refused.
use Rattle.std.specs.Prelude.{ℕ, zero, suc, ◌≤◌, Bool, true, false, not, ◌&&◌, if◌then◌else◌, Option, None, Some}
use Rattle.pp_outside.specs.Faults.{one_more}

-- how often an order was used up, where one stood before and stands now, or doesn't: once or never
abbrev pub used : (before now : Bool) → ℕ
used before now = if before && not now then 1 else 0

-- an order stands
abbrev pub stands : Option ℕ → Bool
stands None = false
stands (Some n) = true

-- the order that the next call is refused, or none
abbrev pub order_if : Bool → Option ℕ
order_if true = Some 0
order_if false = None

-- An order that stands is one that stood before, and no more calls pass before it.
abbrev pub IsLater : (before now : Option ℕ) → Type 0
IsLater before None = Unit {0}
IsLater None (Some n) = ⊥
IsLater (Some m) (Some n) = n ≤ m

-- a count after so many more
abbrev pub gained : ℕ → ℕ → ℕ
gained count zero = count
gained count (suc n) = one_more (gained count n)
