-- Counts of seats that are used, and of seats that have an upload slot.
use Rattle.std.proofs.Common.{◌≡◌, ℕ, zero, suc, ◌<◌, ◌≤◌, get_or, true, false, Option, None, List, [], ◌∷◌, arith}
use Rattle.std.specs.Prelude.{is_some}
use Rattle.std.specs.List.{count_by}
use Rattle.std.proofs.lemmas.Bool.{both_ways, false≢true}
use Rattle.pp_core.proofs.Openings.{count_more, one_or_none}

-- Where one list has something, another one has too.
abbrev pub IsWithin : {X Y : Type 0} → List (Option X) → List (Option Y) → Type 0
IsWithin {X} {Y} xs ys = (n : ℕ) → is_some (get_or xs n None) ≡ true → is_some (get_or ys n None) ≡ true

pub fewer_within : {X Y : Type 0} (xs : List (Option X)) (ys : List (Option Y)) → IsWithin xs ys → count_by is_some xs ≤ count_by is_some ys
fewer_within [] ys within = omega arith
fewer_within {Y = Y} (x ∷ xs) [] within =
    let rest = fewer_within {Y = Y} xs [] (λ n e. within (suc n) e) in
    let more = count_more is_some x xs in
    let here = one_or_none (is_some x) false (within 0) in
    omega (arith, rest, more, here)
fewer_within (x ∷ xs) (y ∷ ys) within =
    let rest = fewer_within xs ys (λ n e. within (suc n) e) in
    let first = count_more is_some x xs in
    let second = count_more is_some y ys in
    let here = one_or_none (is_some x) (is_some y) (within 0) in
    omega (arith, rest, first, second, here)

-- and it has more, where it has something at a place at which the one has nothing
pub fewer_but : {X Y : Type 0} (xs : List (Option X)) (ys : List (Option Y)) (k : ℕ) → IsWithin xs ys → is_some (get_or xs k None) ≡ false
    → is_some (get_or ys k None) ≡ true → count_by is_some xs < count_by is_some ys
fewer_but xs [] k within free used = absurd (false≢true used)
fewer_but [] (y ∷ ys) zero within free used =
    let more = count_more is_some y ys in
    let here = one_or_none true (is_some y) (λ e. used) in
    omega (arith, more, here)
fewer_but {X = X} [] (y ∷ ys) (suc k) within free used =
    let rest = fewer_but {X = X} [] ys k (λ n e. within (suc n) e) free used in
    let more = count_more is_some y ys in
    omega (arith, rest, more)
fewer_but (x ∷ xs) (y ∷ ys) zero within free used =
    let rest = fewer_within xs ys (λ n e. within (suc n) e) in
    let first = count_more is_some x xs in
    let second = count_more is_some y ys in
    let none = one_or_none (is_some x) false (λ e. absurd (both_ways (is_some x) free e)) in
    let one = one_or_none true (is_some y) (λ e. used) in
    omega (arith, rest, first, second, none, one)
fewer_but (x ∷ xs) (y ∷ ys) (suc k) within free used =
    let rest = fewer_but xs ys k (λ n e. within (suc n) e) free used in
    let first = count_more is_some x xs in
    let second = count_more is_some y ys in
    let here = one_or_none (is_some x) (is_some y) (within 0) in
    omega (arith, rest, first, second, here)
