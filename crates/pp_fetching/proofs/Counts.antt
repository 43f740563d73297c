-- How many numbers a list of ranges has once one more was put in.
use Rattle.std.proofs.Common.{◌≡◌, ◌⊎◌, inl, inr, ⊎_elim, ℕ, ◌+◌, ◌-◌, ◌<◌, ◌≤◌, eqb, nat_le, min, max, Bool, true, false, ◌&&◌, ◌||◌, Some, List, [], ◌∷◌, length, refl, sym, ◌∙◌, ap, arith}
use Rattle.std.specs.Prelude.{Result, Ok, Err, OnOk, OnErr}
use Rattle.std.proofs.lemmas.Bool.{or_parts, cases_lt, cases_Bool, false≢true, eqb-true}
use Rattle.std.proofs.lemmas.Bool.Decides.{nat_tests}
use Rattle.pp_terms.specs.tree.Range.{Span, within, has, IsRunsFrom}
use Rattle.pp_ranges.specs.Edits.{joined, is_before, inserted, number_count}
use Rattle.pp_ranges.proofs.Runs.{none_below, inserted_has}
use Rattle.pp_ranges.proofs.Lengths.{inserted_length}

-- No number of the range is in the list.
abbrev IsOutside : Span → List Span → Type 0
IsOutside s xs = (k : ℕ) → within s k ≡ true → has xs k ≡ false

-- two ranges that don't meet, and between which no number lies, touch
touching : (s x : Span) → s.first ≤ s.last → x.first ≤ x.last → is_before x s ≡ false → is_before s x ≡ false
    → within x s.first ≡ false → within s x.first ≡ false → (x.last + 1 ≡ s.first) ⊎ (s.last + 1 ≡ x.first)
touching s x up x_up p q out out' = ⊎_elim
    (λ (lt : s.first < x.first). inr (grind (arith, nat_tests)))
    (λ (le : x.first ≤ s.first). inl (grind (arith, nat_tests)))
    (cases_lt s.first x.first)

count_joined : (s x : Span) → s.first ≤ s.last → x.first ≤ x.last → (x.last + 1 ≡ s.first) ⊎ (s.last + 1 ≡ x.first)
    → (max s.last x.last + 1 - min s.first x.first) ≡ (s.last + 1 - s.first) + (x.last + 1 - x.first)
count_joined s x up x_up (inl e) = omega arith
count_joined s x up x_up (inr e) = omega arith

joined_outside : (s x : Span) (xs : List Span) → (x.last + 1 ≡ s.first) ⊎ (s.last + 1 ≡ x.first) → s.first ≤ s.last → x.first ≤ x.last
    → IsRunsFrom (x.last + 2) xs → IsOutside s xs → IsOutside (joined s x) xs
joined_outside s x xs touch up x_up runs out k inside = ⊎_elim
    (λ (here : within s k ≡ true). out k here)
    (λ (other : within s k ≡ false). none_below xs (x.last + 2) k runs (low touch other))
    (cases_Bool (within s k))
  where
    low : (x.last + 1 ≡ s.first) ⊎ (s.last + 1 ≡ x.first) → within s k ≡ false → k < x.last + 2
    low (inl e) other = grind (arith, nat_tests)
    low (inr e) other = grind (arith, nat_tests)

count_step : (s x : Span) (xs : List Span) (b c : Bool) → is_before x s ≡ b → is_before s x ≡ c → s.first ≤ s.last → x.first ≤ x.last
    → IsRunsFrom (x.last + 2) xs → IsOutside s (x ∷ xs)
    → ((z : Span) → z.first ≤ z.last → IsOutside z xs → number_count (inserted (Some z) xs) ≡ (z.last + 1 - z.first) + number_count xs)
    → number_count (inserted (Some s) (x ∷ xs)) ≡ (s.last + 1 - s.first) + number_count (x ∷ xs)
count_step s x xs true c p q up x_up runs out ih =
    let rest = ih s up (λ k inside. (or_parts (within x k) (has xs k) (out k inside)).1) in
    rw (p, inserted) (omega arith)
count_step s x xs false true p q up x_up runs out ih = rw (p, q, inserted) refl
count_step s x xs false false p q up x_up runs out ih =
    let here : within s s.first ≡ true = grind (arith, nat_tests) in
    let out_x : within x s.first ≡ false = (or_parts (within x s.first) (has xs s.first) (out s.first here)).0 in
    let touch = touching s x up x_up p q out_x (first_out (cases_Bool (within s x.first))) in
    let apart = joined_outside s x xs touch up x_up runs (λ k inside. (or_parts (within x k) (has xs k) (out k inside)).1) in
    let size = count_joined s x up x_up touch in
    let order : min s.first x.first ≤ max s.last x.last = omega arith in
    let rest = ih (joined s x) order apart in
    rw (p, q, inserted) (omega arith)
  where
    first_out : (within s x.first ≡ true) ⊎ (within s x.first ≡ false) → within s x.first ≡ false
    first_out (inl inside) =
        let here : within x x.first ≡ true = grind (arith, nat_tests) in
        absurd (false≢true (sym (or_parts (within x x.first) (has xs x.first) (out x.first inside)).0 ∙ here))
    first_out (inr other) = other

pub inserted_count : (s : Span) (xs : List Span) (from : ℕ) → s.first ≤ s.last → IsRunsFrom from xs → ((k : ℕ) → within s k ≡ true → has xs k ≡ false)
    → number_count (inserted (Some s) xs) ≡ (s.last + 1 - s.first) + number_count xs
inserted_count s [] from up runs out = refl
inserted_count s (x ∷ xs) from up runs out =
    count_step s x xs (is_before x s) (is_before s x) refl refl up runs.1 runs.2 out
    (λ z z_up z_out. inserted_count z xs (x.last + 2) z_up runs.2 z_out)

-- ---- a single number more, in a list that has room

one_within : (i k : ℕ) (range : Span) → range ≡ record { first = i; last = i } → within range k ≡ eqb i k
one_within i k range is = ap (λ (s : Span). within s k) is ∙ only
  where
    only : (nat_le i k && nat_le k i) ≡ eqb i k
    only = grind (arith, nat_tests)

-- a single number fits into a list of fewer than 64 ranges
fits : {X E : Type 0} (r : Result X E) (range : Span) (xs new : List Span) → length xs < 64
    → OnOk r ((new ≡ inserted (Some range) xs) × (length (inserted (Some range) xs) ≤ 64))
    → OnErr r (64 < length (inserted (Some range) xs)) → new ≡ inserted (Some range) xs
fits (Ok x) range xs new room exact many = exact.0
fits (Err e) range xs new room exact many = absurd (let more = inserted_length range xs in omega (arith, more, many))

pub put_each : {X E : Type 0} (i : ℕ) (r : Result X E) (range : Span) (xs new : List Span) → length xs < 64 → IsRunsFrom 0 xs
    → range ≡ record { first = i; last = i }
    → OnOk r ((new ≡ inserted (Some range) xs) × (length (inserted (Some range) xs) ≤ 64))
    → OnErr r (64 < length (inserted (Some range) xs)) → (k : ℕ) → has new k ≡ (eqb i k || has xs k)
put_each i r range xs new room runs is exact many k =
    let order : range.first ≤ range.last = (let first = ap (λ (s : Span). s.first) is in let last = ap (λ (s : Span). s.last) is in omega arith) in
    ap (λ (ys : List Span). has ys k) (fits r range xs new room exact many) ∙ inserted_has range xs 0 k order runs
    ∙ ap (λ (b : Bool). b || has xs k) (one_within i k range is)

pub put_count : {X E : Type 0} (i : ℕ) (r : Result X E) (range : Span) (xs new : List Span) → length xs < 64 → IsRunsFrom 0 xs → has xs i ≡ false
    → range ≡ record { first = i; last = i }
    → OnOk r ((new ≡ inserted (Some range) xs) × (length (inserted (Some range) xs) ≤ 64))
    → OnErr r (64 < length (inserted (Some range) xs)) → number_count new ≡ number_count xs + 1
put_count i r range xs new room runs absent is exact many =
    let first = ap (λ (s : Span). s.first) is in
    let last = ap (λ (s : Span). s.last) is in
    let order : range.first ≤ range.last = omega arith in
    let same = ap (λ (ys : List Span). number_count ys) (fits r range xs new room exact many) in
    let count = inserted_count range xs 0 order runs (λ k inside. alone k (sym (one_within i k range is) ∙ inside)) in
    omega (arith, same, count)
  where
    alone : (k : ℕ) → eqb i k ≡ true → has xs k ≡ false
    alone k same = ap (λ (n : ℕ). has xs n) (sym (eqb-true i k same)) ∙ absent
