-- What the notes tell of.
use Rattle.std.proofs.Common.{◌≡◌, ◌⊎◌, inl, inr, ⊎_elim, ℕ, ◌+◌, ◌-◌, ◌<◌, ◌≤◌, Bool, true, false, cond, nat_lt, nat_le, min, ◌||◌, List, [], ◌∷◌, length, map, get_or, refl, sym, ap, arith}
use Rattle.std.specs.List.{AllByRecursion, list_any}
use Rattle.std.proofs.lemmas.Bool.{and_parts, and_from, or_cases, or_left, or_right, leb-true, le-leb, lt-ltb, ltb-true, cases_lt, both_ways}
use Rattle.pp_terms.specs.tree.Range.{Span, within, has, IsRunsFrom}
use Rattle.pp_terms.proofs.Facts.{member_below}
use Rattle.pp_seats.specs.Sending.{tells_note}
use Rattle.pp_agenda.specs.Agendas.{have_note, cancel_note, parts_below, AreRows}
use Rattle.pp_agenda.specs.Laws.{IsCommitted, cancels_note}

pub haves_tell : (xs : List Span) (i : ℕ) → list_any (tells_note i) (map have_note xs) ≡ has xs i
haves_tell [] i = refl
haves_tell (x ∷ xs) i = ap (λ (b : Bool). within x i || b) (haves_tell xs i)

pub cancels_drop : (xs : List Span) (i : ℕ) → list_any (cancels_note i) (map cancel_note xs) ≡ has xs i
cancels_drop [] i = refl
cancels_drop (x ∷ xs) i = ap (λ (b : Bool). within x i || b) (cancels_drop xs i)

pub ends_within : (x : Span) → x.first ≤ x.last → within x x.last ≡ true
ends_within x order = and_from (nat_le x.first x.last) (nat_le x.last x.last) (le-leb x.first x.last order) (le-leb x.last x.last (omega arith))

-- ---- news below the cursor

pub parts_have : (limit : ℕ) (xs : List Span) (i : ℕ) → has xs i ≡ true → i < limit → has (parts_below limit xs) i ≡ true
parts_have limit [] i at low = at
parts_have limit (x ∷ xs) i at low = by (nat_lt x.first limit) refl (or_cases (within x i) (has xs i) at) (λ more. parts_have limit xs i more low)
  where
    part : Span
    part = record { first = x.first; last = min x.last (limit - 1) }

    by : (b : Bool) → nat_lt x.first limit ≡ b → (within x i ≡ true) ⊎ (has xs i ≡ true) → (has xs i ≡ true → has (parts_below limit xs) i ≡ true)
        → has (cond b (part ∷ parts_below limit xs) (parts_below limit xs)) i ≡ true
    by true e (inl here) rest =
        let p = and_parts (nat_le x.first i) (nat_le i x.last) here in
        let high : i ≤ x.last = leb-true i x.last p.1 in
        or_left (within part i) _ (and_from (nat_le x.first i) (nat_le i part.last) p.0 (le-leb i part.last (omega arith)))
    by true e (inr more) rest = or_right (within part i) _ (rest more)
    by false e (inl here) rest =
        let p = and_parts (nat_le x.first i) (nat_le i x.last) here in
        let first : x.first ≤ i = leb-true x.first i p.0 in
        absurd (both_ways (nat_lt x.first limit) e (lt-ltb x.first limit (omega arith)))
    by false e (inr more) rest = rest more

-- what lies below a number of committed ranges is committed, in order and below it
pub record IsPart (committed : List Bool) (limit : ℕ) (range : Span) : Type 0 where
  pub committed_is : IsCommitted committed range
  pub below : range.last < limit

pub parts_are : (committed : List Bool) (limit : ℕ) (xs : List Span) → AllByRecursion (IsCommitted committed) xs
    → AllByRecursion (IsPart committed limit) (parts_below limit xs)
parts_are committed limit [] a = tt
parts_are committed limit (x ∷ xs) a = by (nat_lt x.first limit) refl (parts_are committed limit xs a.1)
  where
    part : Span
    part = record { first = x.first; last = min x.last (limit - 1) }

    order : x.first ≤ x.last
    order = a.0.order

    inner : (i : ℕ) → within part i ≡ true → within x i ≡ true
    inner i at =
        let p = and_parts (nat_le x.first i) (nat_le i part.last) at in
        let high : i ≤ part.last = leb-true i part.last p.1 in
        and_from (nat_le x.first i) (nat_le i x.last) p.0 (le-leb i x.last (omega arith))

    by : (b : Bool) → nat_lt x.first limit ≡ b → AllByRecursion (IsPart committed limit) (parts_below limit xs)
        → AllByRecursion (IsPart committed limit) (cond b (part ∷ parts_below limit xs) (parts_below limit xs))
    by false e rest = rest
    by true e rest =
        let low : x.first < limit = ltb-true x.first limit e in (
          record {
            committed_is = record { order = (omega arith); each = λ i at. a.0.each i (inner i at) };
            below = (omega arith);
          },
          rest,
        )

-- ---- rows

-- all that is committed from a chunk on is in the rows, or there are as many as there may be
pub rows_cover : (from : ℕ) (committed : List Bool) (most : ℕ) (rows : List Span) → AreRows from committed most rows
    → ((i : ℕ) → from ≤ i → get_or committed i false ≡ true → has rows i ≡ true) ⊎ (length rows ≡ most)
rows_cover from committed most [] (inl none) = inr (sym none)
rows_cover from committed most [] (inr all) = inl (λ i at is. absurd (both_ways (get_or committed i false) (all i at) is))
rows_cover from committed most (row ∷ rows) are = by (rows_cover (row.last + 1) committed (most - 1) rows are.2)
  where
    by : ((i : ℕ) → row.last + 1 ≤ i → get_or committed i false ≡ true → has rows i ≡ true) ⊎ (length rows ≡ most - 1)
        → ((i : ℕ) → from ≤ i → get_or committed i false ≡ true → has (row ∷ rows) i ≡ true) ⊎ (length (row ∷ rows) ≡ most)
    by (inl covers) = inl (λ i at is. ⊎_elim
        (λ low. ⊎_elim
        (λ before. absurd (both_ways (get_or committed i false) (are.1.passed i at before) is))
        (λ here. or_left (within row i) (has rows i) (and_from (nat_le row.first i) (nat_le i row.last) (le-leb row.first i here) (le-leb i row.last (omega (arith, low)))))
        (cases_lt i row.first))
        (λ high. or_right (within row i) (has rows i) (covers i (omega (arith, high)) is))
        (cases_lt i (row.last + 1)))
    by (inr full) = inr (omega (arith, full, are.0))

-- each row is committed, in order and in the content
pub rows_are_committed : (from : ℕ) (committed : List Bool) (most : ℕ) (rows : List Span) → AreRows from committed most rows
    → AllByRecursion (IsPart committed (length committed)) rows
rows_are_committed from committed most [] are = tt
rows_are_committed from committed most (row ∷ rows) are = (
  record {
    committed_is = record { order = are.1.order; each = are.1.members };
    below = are.1.content;
  },
  rows_are_committed (row.last + 1) committed (most - 1) rows are.2,
)

pub parts_known : (committed : List Bool) (limit : ℕ) (xs : List Span) (i : ℕ) → AllByRecursion (IsPart committed limit) xs → has xs i ≡ true → get_or committed i false ≡ true
parts_known committed limit (x ∷ xs) i a at = ⊎_elim
    (λ here. a.0.committed_is.each i here)
    (λ more. parts_known committed limit xs i a.1 more)
    (or_cases (within x i) (has xs i) at)
parts_known committed limit [] i a at = absurd cc

-- ---- inside the content

pub committed_below : (committed : List Bool) (range : Span) → IsCommitted committed range → range.last < length committed
committed_below committed range is = member_below committed range.last (is.each range.last (ends_within range is.order))

pub runs_inside : (committed : List Bool) (from : ℕ) (xs : List Span) → IsRunsFrom from xs → ((i : ℕ) → has xs i ≡ true → get_or committed i false ≡ true)
    → AllByRecursion (λ (x : Span). x.last < length committed) xs
runs_inside committed from [] runs h = tt
runs_inside committed from (x ∷ xs) runs h = (
  member_below committed x.last (h x.last (or_left (within x x.last) (has xs x.last) (ends_within x runs.1))),
  runs_inside committed (x.last + 2) xs runs.2 (λ i at. h i (or_right (within x i) (has xs i) at)),
)
