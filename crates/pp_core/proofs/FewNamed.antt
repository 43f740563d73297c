-- How many chunks are awaited and picked, and how many a story names.
use Rattle.std.proofs.Common.{◌≡◌, ⊎_elim, ℕ, zero, suc, ◌+◌, ◌<◌, ◌≤◌, eqb, Bool, true, false, cond, ◌&&◌, ◌||◌, Some, List, [], ◌∷◌, length, refl, sym, ◌∙◌, ap, arith}
use Rattle.std.specs.Prelude.{is_some, nat_le}
use Rattle.std.specs.List.{count_by, range_with_len}
use Rattle.std.proofs.lemmas.Bool.{both_ways, cases_lt, and_parts, and_from, or_cases, or_left, or_right, eq-eqb, le-leb, leb-true}
use Rattle.std.proofs.lemmas.List.Sums.{sum_by-cons}
use Rattle.pp_terms.specs.tree.Range.{Span, within, has, IsRunsFrom}
use Rattle.pp_ranges.specs.Edits.{number_count}
use Rattle.pp_ranges.proofs.Runs.{runs_weaken}
use Rattle.pp_requests.specs.declared.asking.Asking.{Asking}
use Rattle.pp_requests.specs.Moments.{asked_at, IsRisingFrom}
use Rattle.pp_fetching.specs.Owners.{awaits}

-- one if it is so
abbrev one_if : Bool → ℕ
one_if b = cond {A = ℕ} b 1 0

step : (p : ℕ → Bool) (low n : ℕ) → count_by p (range_with_len low (suc n)) ≡ one_if (p low) + count_by p (range_with_len (low + 1) n)
step p low n = sum_by-cons (λ (i : ℕ). one_if (p i)) low (range_with_len (low + 1) n)

one_is : (p : ℕ → Bool) (x low : ℕ) → p x ≡ true → x ≡ low → one_if (p low) ≡ 1
one_is p x low passes same = ap one_if (ap p (sym same) ∙ passes)

-- ---- what is awaited

rising_more : (low high : ℕ) (own : List Asking) → low ≤ high → IsRisingFrom high own → IsRisingFrom low own
rising_more low high [] le rising = tt
rising_more low high (x ∷ own) le rising = ((let at = rising.0 in omega (arith, le, at)), rising.1)

awaits_first : (x : Asking) (own : List Asking) → awaits (x ∷ own) x.chunk ≡ true
awaits_first x own = ap (λ (b : Bool). is_some (cond b (Some x.moment) (asked_at own x.chunk))) (eq-eqb x.chunk x.chunk refl)

awaits_later : (x : Asking) (own : List Asking) (i : ℕ) → awaits own i ≡ true → awaits (x ∷ own) i ≡ true
awaits_later x own i is = of (eqb x.chunk i)
  where
    of : (b : Bool) → is_some (cond b (Some x.moment) (asked_at own i)) ≡ true
    of true = refl
    of false = is

-- Chunks that are awaited, each once, are no more than those of a range that pass a test which each of them passes.
pub own_pass : (p : ℕ → Bool) (own : List Asking) (low n : ℕ) → IsRisingFrom low own
    → ((i : ℕ) → awaits own i ≡ true → (i < low + n) × (p i ≡ true)) → length own ≤ count_by p (range_with_len low n)
own_pass p [] low n rising passes = omega arith
own_pass p (x ∷ own) low zero rising passes =
    absurd (let at = rising.0 in let high = (passes x.chunk (awaits_first x own)).0 in omega (arith, at, high))
own_pass p (x ∷ own) low (suc n) rising passes = ⊎_elim
    (λ (less : low < x.chunk).
    let rest = own_pass p (x ∷ own) (low + 1) n (omega (arith, less), rising.1)
    (λ i is. let q = passes i is in (let high = q.0 in omega (arith, high), q.1)) in
    let count = step p low n in
    omega (arith, rest, count))
    (λ (most : x.chunk ≤ low).
    let at = rising.0 in
    let same : x.chunk ≡ low = omega (arith, at, most) in
    let rest = own_pass p own (low + 1) n (rising_more (low + 1) (x.chunk + 1) own (omega (arith, same)) rising.1)
    (λ i is. let q = passes i (awaits_later x own i is) in (let high = q.0 in omega (arith, high), q.1)) in
    let one = one_is p x.chunk low (passes x.chunk (awaits_first x own)).1 same in
    let count = step p low n in
    omega (arith, rest, one, count))
    (cases_lt low x.chunk)

-- ---- what was picked

first_in : (y : Span) → y.first ≤ y.last → within y y.first ≡ true
first_in y le = and_from (nat_le y.first y.first) (nat_le y.first y.last) (le-leb y.first y.first (omega arith)) (le-leb y.first y.last le)

-- what lies in a range or elsewhere lies in one that begins lower
wider : (low high last i : ℕ) (rest : Bool) → low ≤ high → ((nat_le high i && nat_le i last) || rest) ≡ true
    → ((nat_le low i && nat_le i last) || rest) ≡ true
wider low high last i rest le e = ⊎_elim
    (λ inside.
    let p = and_parts (nat_le high i) (nat_le i last) inside in
    let above : high ≤ i = leb-true high i p.0 in
    or_left (nat_le low i && nat_le i last) rest
    (and_from (nat_le low i) (nat_le i last) (le-leb low i (omega (arith, le, above))) p.1))
    (λ other. or_right (nat_le low i && nat_le i last) rest other)
    (or_cases (nat_le high i && nat_le i last) rest e)

-- Runs whose numbers all pass a test have no more numbers than pass it.
pub runs_pass : (p : ℕ → Bool) (spans : List Span) (low n : ℕ) → IsRunsFrom low spans
    → ((i : ℕ) → has spans i ≡ true → (i < low + n) × (p i ≡ true)) → number_count spans ≤ count_by p (range_with_len low n)
runs_pass p [] low n runs passes = omega arith
runs_pass p (x ∷ xs) low zero runs passes =
    absurd (let at = runs.0 in let high = (passes x.first (or_left (within x x.first) (has xs x.first) (first_in x runs.1))).0 in
    omega (arith, at, high))
runs_pass p (x ∷ xs) low (suc n) runs passes = ⊎_elim
    (λ (less : low < x.first).
    let rest = runs_pass p (x ∷ xs) (low + 1) n (omega (arith, less), runs.1, runs.2)
    (λ i e. let q = passes i e in (let high = q.0 in omega (arith, high), q.1)) in
    let count = step p low n in
    omega (arith, rest, count))
    (λ (most : x.first ≤ low).
    let at = runs.0 in
    let order = runs.1 in
    let same : x.first ≡ low = omega (arith, at, most) in
    let one = one_is p x.first low (passes x.first (or_left (within x x.first) (has xs x.first) (first_in x runs.1))).1 same in
    let count = step p low n in
    ⊎_elim
    (λ (more : low < x.last).
    let y : Span = record { first = low + 1; last = x.last } in
    let rest = runs_pass p (y ∷ xs) (low + 1) n (omega arith, omega (arith, more), runs.2)
    (λ i e. let q = passes i (wider x.first (low + 1) x.last i (has xs i) (omega (arith, same)) e) in (let high = q.0 in omega (arith, high), q.1)) in
    omega (arith, rest, one, count, same, more))
    (λ (last : x.last ≤ low).
    let rest = runs_pass p xs (low + 1) n (runs_weaken (low + 1) (x.last + 2) xs (omega (arith, order, same)) runs.2)
    (λ i e. let q = passes i (or_right (within x i) (has xs i) e) in (let high = q.0 in omega (arith, high), q.1)) in
    omega (arith, rest, one, count, same, last, order))
    (cases_lt low x.last))
    (cases_lt low x.first)

-- ---- both

both_one : (a b c : Bool) → (a ≡ true → b ≡ true → ⊥) → (a ≡ true → c ≡ true) → (b ≡ true → c ≡ true) → one_if a + one_if b ≤ one_if c
both_one true true c apart one two = absurd (apart refl refl)
both_one true false c apart one two = (let is = ap one_if (one refl) in omega (arith, is))
both_one false true c apart one two = (let is = ap one_if (two refl) in omega (arith, is))
both_one false false c apart one two = omega arith

-- Where no number passes both of two tests, and each that passes one of them passes a third.
count_both : (p q r : ℕ → Bool) → ((i : ℕ) → p i ≡ true → q i ≡ true → ⊥) → ((i : ℕ) → p i ≡ true → r i ≡ true)
    → ((i : ℕ) → q i ≡ true → r i ≡ true) → (low n : ℕ)
    → count_by p (range_with_len low n) + count_by q (range_with_len low n) ≤ count_by r (range_with_len low n)
count_both p q r apart one two low zero = omega arith
count_both p q r apart one two low (suc n) =
    let rest = count_both p q r apart one two (low + 1) n in
    let first = both_one (p low) (q low) (r low) (apart low) (one low) (two low) in
    let ps = step p low n in
    let qs = step q low n in
    let rs = step r low n in
    omega (arith, rest, first, ps, qs, rs)

-- What is awaited, each chunk once, and other runs of chunks are together no more than what is named, where each of them is.
pub few_named : (named : ℕ → Bool) (chunks : ℕ) (own : List Asking) (picks : List Span) → IsRisingFrom 0 own → IsRunsFrom 0 picks
    → ((i : ℕ) → has picks i ≡ true → awaits own i ≡ false) → ((i : ℕ) → awaits own i ≡ true → (i < chunks) × (named i ≡ true))
    → ((i : ℕ) → has picks i ≡ true → (i < chunks) × (named i ≡ true)) → length own + number_count picks ≤ count_by named (range_with_len 0 chunks)
few_named named chunks own picks rising runs fresh one two =
    let first = own_pass (awaits own) own 0 chunks rising (λ i is. let q = one i is in (let low = q.0 in omega (arith, low), is)) in
    let then = runs_pass (has picks) picks 0 chunks runs (λ i at. let q = two i at in (let low = q.0 in omega (arith, low), at)) in
    let both = count_both (awaits own) (has picks) named
    (λ i is at. both_ways (awaits own i) (fresh i at) is) (λ i is. (one i is).1) (λ i at. (two i at).1) 0 chunks in
    omega (arith, first, then, both)
