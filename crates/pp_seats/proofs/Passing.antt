-- Chunks that leave a list.
use Rattle.std.proofs.Common.{◌≡◌, ⊎_elim, ℕ, ◌+◌, ◌<◌, ◌≤◌, max, true, List, [], ◌∷◌, refl, ap, arith}
use Rattle.std.proofs.lemmas.Bool.{cases_lt, and_from, or_cases, or_left, both_ways, lt-ltb, le-ltb, le-leb}
use Rattle.std.proofs.lemmas.Bool.Decides.{nat_tests}
use Rattle.std.specs.Prelude.{nat_le}
use Rattle.pp_terms.specs.tree.Range.{Span, within, has, IsRunsFrom}
use Rattle.pp_ranges.specs.Edits.{without_below, number_count}
use Rattle.pp_requests.specs.Lists.{IsLeast}

runs_low : (from : ℕ) (xs : List Span) (k : ℕ) → IsRunsFrom from xs → has xs k ≡ true → from ≤ k
runs_low from [] k r e = absurd cc
runs_low from (x ∷ xs) k r e = ⊎_elim
    (λ here. let low = r.0 in grind (arith, nat_tests))
    (λ later. let low = runs_low (x.last + 2) xs k r.2 later in omega (arith, low, r.0, r.1))
    (or_cases (within x k) (has xs k) e)

below_less : (i : ℕ) (xs : List Span) → number_count (without_below i xs) ≤ number_count xs
below_less i [] = omega arith
below_less i (x ∷ xs) = ⊎_elim
    (λ (lt : x.last < i). rw (lt-ltb x.last i lt, without_below) (let rest = below_less i xs in omega (arith, rest)))
    (λ (le : i ≤ x.last). rw (le-ltb x.last i le, without_below) (omega arith))
    (cases_lt x.last i)

-- where the least chunk is below a number, fewer are left from the number on
pub below_fewer : (i : ℕ) (xs : List Span) (k : ℕ) → IsRunsFrom 0 xs → IsLeast xs k → k < i → number_count (without_below i xs) < number_count xs
below_fewer i [] k r least lt = absurd (let e = least.listed in cc)
below_fewer i (x ∷ xs) k r least lt =
    let low : k ≤ x.first = ⊎_elim
    (λ (above : x.first < k). absurd (both_ways (has (x ∷ xs) x.first) (least.lesser x.first above)
    (or_left (within x x.first) (has xs x.first) (and_from (nat_le x.first x.first) (nat_le x.first x.last) (le-leb x.first x.first (omega arith)) (le-leb x.first x.last r.1)))))
    (λ (le : k ≤ x.first). le)
    (cases_lt x.first k) in
    let first : x.first ≤ k = ⊎_elim
    (λ here. grind (arith, nat_tests))
    (λ later. let far = runs_low (x.last + 2) xs k r.2 later in absurd (omega (arith, far, low, r.1)))
    (or_cases (within x k) (has xs k) least.listed) in
    ⊎_elim
    (λ (past : x.last < i). rw (lt-ltb x.last i past, without_below) (let rest = below_less i xs in omega (arith, rest, r.1)))
    (λ (reach : i ≤ x.last). rw (le-ltb x.last i reach, without_below) (omega (arith, first, lt, reach)))
    (cases_lt x.last i)
