-- How the code edits a list of ranges, from left to right.
use Rattle.std.specs.Prelude.{ℕ, ◌+◌, ◌-◌, nat_lt, min, max, Bool, true, false, ◌||◌, Option, Some, None, List, [], ◌∷◌, ◌++◌}
use Rattle.pp_terms.specs.tree.Range.{Span}

-- the range from the lesser first to the greater last
abbrev pub joined : Span → Span → Span
joined s x = record { first = min s.first x.first; last = max s.last x.last }

-- x ends before s, and a number lies between
abbrev pub is_before : Span → Span → Bool
is_before x s = nat_lt (x.last + 1) s.first

-- the ranges with one more that is pending, if any
abbrev pub inserted : Option Span → List Span → List Span
inserted None xs = xs
inserted (Some s) [] = s ∷ []
inserted (Some s) (x ∷ xs) = elim (is_before x s) [
  | true ↦ x ∷ inserted (Some s) xs
  | false ↦ elim (is_before s x) [ true ↦ s ∷ x ∷ xs | false ↦ inserted (Some (joined s x)) xs ]
]

-- what is left of x below s, and above it
abbrev pub below : Span → Span → List Span
below s x = elim (nat_lt x.first s.first) [ true ↦ record { first = x.first; last = min x.last (s.first - 1) } ∷ [] | false ↦ [] ]

abbrev pub above : Span → Span → List Span
above s x = elim (nat_lt s.last x.last) [ true ↦ record { first = max x.first (s.last + 1); last = x.last } ∷ [] | false ↦ [] ]

abbrev pub removed : Span → List Span → List Span
removed s [] = []
removed s (x ∷ xs) = below s x ++ above s x ++ removed s xs

-- x doesn't meet s
abbrev pub is_apart : Span → Span → Bool
is_apart s x = nat_lt x.last s.first || nat_lt s.last x.first

-- the ranges without the numbers below one
abbrev pub without_below : ℕ → List Span → List Span
without_below i [] = []
without_below i (x ∷ xs) =
    elim (nat_lt x.last i) [ true ↦ without_below i xs | false ↦ record { first = max x.first i; last = x.last } ∷ xs ]

-- how many numbers are in ranges that don't meet
abbrev pub number_count : List Span → ℕ
number_count [] = 0
number_count (x ∷ xs) = (x.last + 1 - x.first) + number_count xs

-- how many ranges are pending
abbrev pub pending_count : Option Span → ℕ
pending_count None = 0
pending_count (Some s) = 1
