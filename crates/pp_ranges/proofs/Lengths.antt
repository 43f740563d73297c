-- How many ranges a list has after an edit: at most one more.
use Rattle.std.proofs.Common.{◌≡◌, ◌⊎◌, ⊎_elim, inl, inr, ℕ, ◌+◌, ◌-◌, ◌<◌, ◌≤◌, max, min, Bool, true, false, Some, List, [], ◌∷◌, ◌++◌, length, refl, sym, ◌∙◌, ap, subst, arith}
use Rattle.std.specs.Prelude.{nat_lt}
use Rattle.std.proofs.lemmas.Bool.{cases_lt, lt-ltb, le-ltb, or_parts, both_ways}
use Rattle.std.proofs.lemmas.Bool.Decides.{nat_tests}
use Rattle.std.proofs.lemmas.List.Sums.{count_by-le-length, length-filter}
use Rattle.std.specs.List.{filter}
use Rattle.std.proofs.lemmas.List.{length-append}
use Rattle.pp_terms.specs.tree.Range.{Span, within, has, IsRunsFrom}
use Rattle.pp_ranges.specs.Edits.{joined, is_before, inserted, below, above, removed}

pub inserted_length : (s : Span) (xs : List Span) → length (inserted (Some s) xs) ≤ length xs + 1
inserted_length s [] = omega arith
inserted_length s (x ∷ xs) = by (is_before x s) (is_before s x) (inserted_length s xs) (inserted_length (joined s x) xs)
  where
    by : (a b : Bool) → length (inserted (Some s) xs) ≤ length xs + 1 → length (inserted (Some (joined s x)) xs) ≤ length xs + 1
        → length (elim a as (λ (_ : Bool). List Span) [ true ↦ x ∷ inserted (Some s) xs | false ↦ elim b as (λ (_ : Bool). List Span) [ true ↦ s ∷ x ∷ xs | false ↦ inserted (Some (joined s x)) xs ] ]) ≤ length (x ∷ xs) + 1
    by true b rest whole = omega arith
    by false true rest whole = omega arith
    by false false rest whole = omega arith

-- ---- a range is cut out

pub below_none : (s x : Span) → nat_lt x.first s.first ≡ false → below s x ≡ []
below_none s x e = rw (e, below) refl

pub above_none : (s x : Span) → nat_lt s.last x.last ≡ false → above s x ≡ []
above_none s x e = rw (e, above) refl

pub above_some : (s x : Span) → nat_lt s.last x.last ≡ true → above s x ≡ record { first = max x.first (s.last + 1); last = x.last } ∷ []
above_some s x e = rw (e, above) refl

abbrev one_if : (b : Bool) → Span → List Span
one_if b x = elim b as (λ (_ : Bool). List Span) [ true ↦ x ∷ [] | false ↦ [] ]

one_none : (b : Bool) (x : Span) → b ≡ false → length (one_if b x) ≡ 0
one_none b x e = subst (λ (t : Bool). length (one_if t x) ≡ 0) (sym e) refl

one_some : (b : Bool) (x : Span) → b ≡ true → length (one_if b x) ≡ 1
one_some b x e = subst (λ (t : Bool). length (one_if t x) ≡ 1) (sym e) refl

one_few : (b : Bool) (x : Span) → length (one_if b x) ≤ 1
one_few true x = omega arith
one_few false x = omega arith

none_below : (s x : Span) → s.first ≤ x.first → length (below s x) ≡ 0
none_below s x le = one_none (nat_lt x.first s.first) (record { first = x.first; last = min x.last (s.first - 1) }) (le-ltb x.first s.first le)

one_above : (s x : Span) → s.last < x.last → length (above s x) ≡ 1
one_above s x lt = one_some (nat_lt s.last x.last) (record { first = max x.first (s.last + 1); last = x.last }) (lt-ltb s.last x.last lt)

none_above : (s x : Span) → x.last ≤ s.last → length (above s x) ≡ 0
none_above s x le = one_none (nat_lt s.last x.last) (record { first = max x.first (s.last + 1); last = x.last }) (le-ltb s.last x.last le)

few_below : (s x : Span) → length (below s x) ≤ 1
few_below s x = one_few (nat_lt x.first s.first) (record { first = x.first; last = min x.last (s.first - 1) })

removed_length : (s x : Span) (xs : List Span) → length (removed s (x ∷ xs)) ≡ length (below s x) + (length (above s x) + length (removed s xs))
removed_length s x xs =
    let front = length-append (below s x ++ above s x) (removed s xs) in
    let parts = length-append (below s x) (above s x) in
    front ∙ omega (arith, parts)

-- ranges above it stay
pub removed_apart : (s : Span) (xs : List Span) (from : ℕ) → s.first ≤ s.last → s.last < from → IsRunsFrom from xs → removed s xs ≡ xs
removed_apart s [] from order lt runs = refl
removed_apart s (y ∷ xs) from order lt runs =
    let low = runs.0 in
    let high = runs.1 in
    let not_below : nat_lt y.first s.first ≡ false = le-ltb y.first s.first (omega arith) in
    let is_above : nat_lt s.last y.last ≡ true = lt-ltb s.last y.last (omega arith) in
    let first : max y.first (s.last + 1) ≡ y.first = omega arith in
    ap (λ (zs : List Span). zs ++ above s y ++ removed s xs) (below_none s y not_below)
    ∙ ap (λ (zs : List Span). zs ++ removed s xs) (above_some s y is_above)
    ∙ ap (λ (n : ℕ). record { first = n; last = y.last } ∷ removed s xs) first
    ∙ ap (λ (zs : List Span). y ∷ zs) (removed_apart s xs (y.last + 2) order (omega (arith, runs.0, runs.1)) runs.2)

length_apart : (s : Span) (xs : List Span) (from : ℕ) → s.first ≤ s.last → s.last < from → IsRunsFrom from xs → length (removed s xs) ≡ length xs
length_apart s xs from order lt runs = ap (λ (ys : List Span). length ys) (removed_apart s xs from order lt runs)

pub removed_few : (s : Span) (xs : List Span) (from : ℕ) → s.first ≤ s.last → IsRunsFrom from xs → length (removed s xs) ≤ length xs + 1
removed_few s [] from order h = omega arith
removed_few s (x ∷ xs) from order h = ⊎_elim
    (λ lt.
    let rest = length_apart s xs (x.last + 2) order (omega arith) h.2 in
    let front = few_below s x in
    let back = one_above s x lt in
    let sum = removed_length s x xs in
    omega (arith, rest, back, sum))
    (λ le.
    let rest = removed_few s xs (x.last + 2) order h.2 in
    let front = few_below s x in
    let back = none_above s x le in
    let sum = removed_length s x xs in
    omega (arith, back, sum))
    (cases_lt s.last x.last)

-- where the range begins no later than the first of them, none is split
pub removed_first : (s x : Span) (xs : List Span) (from : ℕ) → s.first ≤ s.last → s.first ≤ x.first → IsRunsFrom from (x ∷ xs)
    → s.last ≤ x.last → length (removed s (x ∷ xs)) ≤ length (x ∷ xs)
removed_first s x xs from order low h within =
    let rest = length_apart s xs (x.last + 2) order (omega arith) h.2 in
    let front = none_below s x low in
    let back = one_few (nat_lt s.last x.last) (record { first = max x.first (s.last + 1); last = x.last }) in
    let sum = removed_length s x xs in
    omega (arith, rest, front, sum, back)

-- nor is one where no number lies below it
pub removed_front : (s : Span) (xs : List Span) (from : ℕ) → s.first ≤ s.last → IsRunsFrom from xs
    → ((i : ℕ) → i < s.first → has xs i ≡ false) → length (removed s xs) ≤ length xs
removed_front s [] from order runs none = omega arith
removed_front s (x ∷ xs) from order runs none =
    let first = runs.0 in
    let last = runs.1 in
    let low : s.first ≤ x.first = begins (cases_lt x.first s.first) in
    let front = none_below s x low in
    let sum = removed_length s x xs in
    ⊎_elim
    (λ lt.
    let rest = length_apart s xs (x.last + 2) order (omega arith) runs.2 in
    let back = one_above s x lt in
    omega (arith, rest, front, back, sum))
    (λ le.
    let rest = removed_front s xs (x.last + 2) order runs.2 (λ i lt. (or_parts (within x i) (has xs i) (none i lt)).1) in
    let back = none_above s x le in
    omega (arith, rest, front, back, sum))
    (cases_lt s.last x.last)
  where
    begins : (x.first < s.first) ⊎ (s.first ≤ x.first) → s.first ≤ x.first
    begins (inl lt) =
        let up = runs.1 in
        let here : within x x.first ≡ true = grind (arith, nat_tests) in
        let not_here = (or_parts (within x x.first) (has xs x.first) (none x.first lt)).0 in
        absurd (both_ways (within x x.first) not_here here)
    begins (inr le) = le

pub kept_length : (p : Span → Bool) (xs : List Span) → length (filter p xs) ≤ length xs
kept_length p xs = let kept = length-filter p xs in let most = count_by-le-length p xs in omega (arith, kept, most)
