-- Ranges of offsets that are sorted and apart, and one more of them.
use Rattle.std.specs.Prelude.{ℕ, suc, ◌<◌, ◌≤◌, min, max, Bool, false, ◌&&◌, ◌||◌, nat_le, nat_lt, if◌then◌else◌, List, [], ◌∷◌, ◌++◌, take, drop}
use Rattle.pp_adapt.specs.declared.extents.Extent.{Extent}
use Rattle.pp_adapt.specs.declared.extents.TheConstants.{WINDOW}

-- Each begins at this offset or later, none is empty, between two of them is a gap, and all end within a window.
abbrev pub AreApart : ℕ → List Extent → Type 0
AreApart low [] = Unit {0}
AreApart low (e ∷ es) = (low ≤ e.start) × (e.start < e.end) × (e.end ≤ WINDOW) × AreApart (suc e.end) es

-- offset k lies in an extent
abbrev pub is_in : Extent → ℕ → Bool
is_in e k = nat_le e.start k && nat_lt k e.end

-- offset k lies in one of them
abbrev pub is_covered : List Extent → ℕ → Bool
is_covered [] k = false
is_covered (e ∷ es) k = is_in e k || is_covered es k

-- how many of them, from the first on, end before an offset
abbrev pub ended_before : ℕ → List Extent → ℕ
ended_before start [] = 0
ended_before start (e ∷ es) = if nat_lt e.end start then suc (ended_before start es) else 0

-- what two extents that meet or touch cover
abbrev pub hull : Extent → Extent → Extent
hull d e = record { start = min d.start e.start; end = max d.end e.end }

-- An extent with those, from the first on, that it meets or touches; and the others.
abbrev pub whole_of : List Extent → Extent → Extent
whole_of [] n = n
whole_of (e ∷ es) n = if nat_le e.start n.end then whole_of es (hull n e) else n

abbrev pub rest_of : List Extent → Extent → List Extent
rest_of [] n = []
rest_of (e ∷ es) n = if nat_le e.start n.end then rest_of es (hull n e) else e ∷ es

-- one extent more, in its place, merged with those that it meets or touches
abbrev pub joined_at : ℕ → List Extent → Extent → List Extent
joined_at at es n = take at es ++ whole_of (drop at es) n ∷ rest_of (drop at es) n

abbrev pub joined : List Extent → Extent → List Extent
joined es n = joined_at (ended_before n.start es) es n
