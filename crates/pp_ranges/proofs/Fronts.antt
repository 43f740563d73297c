-- Numbers taken from the front of a list of ranges.
use Rattle.std.proofs.Common.{◌≡◌, ⊎_elim, ℕ, suc, ◌+◌, ◌-◌, ◌<◌, ◌≤◌, ◌==◌, nat_le, nat_lt, max, Bool, true, false, not, ◌&&◌, ◌||◌, List, [], ◌∷◌, ◌++◌, length, drop, get_or, refl, sym, ◌∙◌, ap, subst, arith}
use Rattle.std.proofs.lemmas.Bool.{cases_lt, lt-ltb, le-ltb}
use Rattle.std.proofs.lemmas.Bool.Decides.{nat_tests}
use Rattle.std.proofs.Math.Seq.{drop-cons}
use Rattle.std.specs.Prelude.{remove}
use Rattle.pp_terms.specs.tree.Range.{Span, within, has, IsRunsFrom}
use Rattle.pp_ranges.specs.Edits.{removed, without_below, number_count, above}
use Rattle.pp_ranges.proofs.Runs.{runs_weaken, none_below, removed_has}
use Rattle.pp_ranges.proofs.Lengths.{removed_apart, below_none, above_none, above_some}

-- ---- the numbers below one

past : (i : ℕ) (x : Span) (xs : List Span) → x.last < i → without_below i (x ∷ xs) ≡ without_below i xs
past i x xs lt = rw (lt-ltb x.last i lt, without_below) refl

reaching : (i : ℕ) (x : Span) (xs : List Span) → i ≤ x.last → without_below i (x ∷ xs) ≡ record { first = max x.first i; last = x.last } ∷ xs
reaching i x xs le = rw (le-ltb x.last i le, without_below) refl

pub below_runs : (i : ℕ) (xs : List Span) (from : ℕ) → IsRunsFrom from xs → IsRunsFrom from (without_below i xs)
below_runs i [] from runs = tt
below_runs i (x ∷ xs) from runs = ⊎_elim
    (λ lt. subst (λ (ys : List Span). IsRunsFrom from ys) (sym (past i x xs lt))
    (runs_weaken from (x.last + 2) (without_below i xs) (omega (arith, runs.0, runs.1)) (below_runs i xs (x.last + 2) runs.2)))
    (λ le. subst (λ (ys : List Span). IsRunsFrom from ys) (sym (reaching i x xs le)) (omega (arith, runs.0), omega (arith, runs.1), runs.2))
    (cases_lt x.last i)

pub below_has : (i : ℕ) (xs : List Span) (from j : ℕ) → IsRunsFrom from xs → has (without_below i xs) j ≡ (nat_le i j && has xs j)
below_has i [] from j runs = nothing (nat_le i j)
  where
    nothing : (b : Bool) → false ≡ (b && false)
    nothing true = refl
    nothing false = refl
below_has i (x ∷ xs) from j runs = ⊎_elim
    (λ lt.
    let rest = below_has i xs (x.last + 2) j runs.2 in
    let out : (nat_le i j && has xs j) ≡ (nat_le i j && (within x j || has xs j)) = grind (arith, nat_tests) in
    ap (λ (ys : List Span). has ys j) (past i x xs lt) ∙ rest ∙ out)
    (λ le.
    let order = runs.1 in
    let none : j < x.last + 2 → has xs j ≡ false = λ lt. none_below xs (x.last + 2) j runs.2 lt in
    ap (λ (ys : List Span). has ys j) (reaching i x xs le) ∙ both le none)
    (cases_lt x.last i)
  where
    both : i ≤ x.last → (j < x.last + 2 → has xs j ≡ false) → (within (record { first = max x.first i; last = x.last }) j || has xs j) ≡ (nat_le i j && (within x j || has xs j))
    both le none = ⊎_elim
        (λ lt. let gone : has xs j ≡ false = none (omega arith) in grind (arith, nat_tests))
        (λ ge. grind (arith, nat_tests))
        (cases_lt j i)

pub below_few : (i : ℕ) (xs : List Span) → length (without_below i xs) ≤ length xs
below_few i [] = omega arith
below_few i (x ∷ xs) = ⊎_elim
    (λ lt. let rest = below_few i xs in let same = ap (λ (ys : List Span). length ys) (past i x xs lt) in omega arith)
    (λ le. let same = ap (λ (ys : List Span). length ys) (reaching i x xs le) in omega arith)
    (cases_lt x.last i)

-- ---- ranges that end below a number, and how many numbers they have

-- So many of the first ranges end below the number, and have so many numbers.
pub record IsPassed (i : ℕ) (list : List Span) (n count : ℕ) : Type 0 where
  pub runs : IsRunsFrom count (drop n list)
  pub most : count ≤ i
  pub same : without_below i (drop n list) ≡ without_below i list
  pub counted : count + number_count (drop n list) ≡ number_count list

pub none_passed : (i : ℕ) (list : List Span) → IsRunsFrom 0 list → IsPassed i list 0 0
none_passed i list runs = record { runs = runs; most = omega arith; same = refl; counted = omega arith }

pub one_passed : (i n count more : ℕ) (x : Span) (list : List Span) → n < length list → x ≡ get_or list n x → x.last < i
    → more ≡ count + (x.last - x.first + 1) → IsPassed i list n count → IsPassed i list (n + 1) more
one_passed i n count more x list within at lt is passed =
    let rest : drop n list ≡ x ∷ drop (n + 1) list = opened in
    let runs : IsRunsFrom count (x ∷ drop (n + 1) list) = subst (λ (ys : List Span). IsRunsFrom count ys) rest passed.runs in
    let first = runs.0 in
    let order = runs.1 in
    let numbers = ap number_count rest in
    record {
      runs = runs_weaken more (x.last + 2) (drop (n + 1) list) (omega arith) runs.2;
      most = omega (arith, passed.most);
      same = sym (ap (without_below i) rest ∙ past i x (drop (n + 1) list) lt) ∙ passed.same;
      counted = omega (arith, numbers, passed.counted);
    }
  where
    opened : drop n list ≡ x ∷ drop (n + 1) list
    opened =
        let next : n + 1 ≡ suc n = omega arith in
        drop-cons list n x within ∙ ap (λ (y : Span). y ∷ drop (suc n) list) (sym at) ∙ ap (λ (k : ℕ). x ∷ drop k list) (sym next)

-- ---- the least number is taken

without_first : (x : Span) (xs rest : List Span) → IsRunsFrom 0 (x ∷ xs) → above (record { first = x.first; last = x.first }) x ≡ rest
    → removed (record { first = x.first; last = x.first }) (x ∷ xs) ≡ rest ++ xs
without_first x xs rest runs e =
    let s : Span = record { first = x.first; last = x.first } in
    let order = runs.1 in
    let not_below : nat_lt x.first x.first ≡ false = grind (arith, nat_tests) in
    ap (λ (zs : List Span). zs ++ above s x ++ removed s xs) (below_none s x not_below)
    ∙ ap (λ (zs : List Span). zs ++ removed s xs) e
    ∙ ap (λ (zs : List Span). rest ++ zs) (removed_apart s xs (x.last + 2) (omega arith) (omega (arith, order)) runs.2)

-- the first range has more numbers, or goes
pub first_shrinks : (xs : List Span) (x : Span) → IsRunsFrom 0 xs → 0 < length xs → x ≡ get_or xs 0 x → x.first < x.last
    → without_below (x.first + 1) xs ≡ removed (record { first = x.first; last = x.first }) xs
first_shrinks [] x runs some at lt = absurd (omega arith)
first_shrinks (y ∷ ys) x runs some at lt =
    subst (λ (z : Span). without_below (z.first + 1) (y ∷ ys) ≡ removed (record { first = z.first; last = z.first }) (y ∷ ys)) (sym at)
    (shrinks (subst (λ (z : Span). z.first < z.last) at lt))
  where
    shrinks : y.first < y.last → without_below (y.first + 1) (y ∷ ys) ≡ removed (record { first = y.first; last = y.first }) (y ∷ ys)
    shrinks more = reaching (y.first + 1) y ys (omega arith)
        ∙ sym (without_first y ys (record { first = max y.first (y.first + 1); last = y.last } ∷ []) runs
        (above_some (record { first = y.first; last = y.first }) y (lt-ltb y.first y.last more)))

pub first_goes : (xs : List Span) (x : Span) → IsRunsFrom 0 xs → 0 < length xs → x ≡ get_or xs 0 x → x.last ≤ x.first
    → remove xs 0 ≡ removed (record { first = x.first; last = x.first }) xs
first_goes [] x runs some at le = absurd (omega arith)
first_goes (y ∷ ys) x runs some at le =
    subst (λ (z : Span). ys ≡ removed (record { first = z.first; last = z.first }) (y ∷ ys)) (sym at)
    (sym (without_first y ys [] runs (above_none (record { first = y.first; last = y.first }) y (le-ltb y.first y.last (subst (λ (z : Span). z.last ≤ z.first) at le)))))

pub tail_runs : (xs : List Span) → IsRunsFrom 0 xs → IsRunsFrom 0 (remove xs 0)
tail_runs [] runs = tt
tail_runs (y ∷ ys) runs = runs_weaken 0 (y.last + 2) ys (omega arith) runs.2

pub taken_count : (xs : List Span) (x : Span) → IsRunsFrom 0 xs → 0 < length xs → x ≡ get_or xs 0 x
    → number_count (removed (record { first = x.first; last = x.first }) xs) + 1 ≡ number_count xs
taken_count [] x runs some at = absurd (omega arith)
taken_count (y ∷ ys) x runs some at =
    subst (λ (z : Span). number_count (removed (record { first = z.first; last = z.first }) (y ∷ ys)) + 1 ≡ number_count (y ∷ ys)) (sym at)
    (⊎_elim (λ lt. shorter lt) (λ le. gone le) (cases_lt y.first y.last))
  where
    shorter : y.first < y.last → number_count (removed (record { first = y.first; last = y.first }) (y ∷ ys)) + 1 ≡ number_count (y ∷ ys)
    shorter lt =
        let left = ap number_count (without_first y ys (record { first = max y.first (y.first + 1); last = y.last } ∷ []) runs
        (above_some (record { first = y.first; last = y.first }) y (lt-ltb y.first y.last lt))) in
        omega (arith, left)

    gone : y.last ≤ y.first → number_count (removed (record { first = y.first; last = y.first }) (y ∷ ys)) + 1 ≡ number_count (y ∷ ys)
    gone le =
        let left = ap number_count (without_first y ys [] runs (above_none (record { first = y.first; last = y.first }) y (le-ltb y.first y.last le))) in
        let order = runs.1 in
        omega (arith, left)

-- one number alone is taken out
pub one_removed : (n : ℕ) (xs : List Span) (i : ℕ) → IsRunsFrom 0 xs → has (removed (record { first = n; last = n }) xs) i ≡ (not (i == n) && has xs i)
one_removed n xs i runs =
    let same : within (record { first = n; last = n }) i ≡ (i == n) = grind (arith, nat_tests) in
    removed_has (record { first = n; last = n }) xs 0 i (omega arith) runs ∙ ap (λ (b : Bool). not b && has xs i) same
