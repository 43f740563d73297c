-- Lists of requests as what calls made of them.
use Rattle.std.proofs.Common.{◌≡◌, ℕ, ◌+◌, ◌≤◌, nat_lt, nat_le, Bool, true, false, cond, not, ◌&&◌, ◌||◌, Some, List, [], ◌∷◌, length, refl, sym, ◌∙◌, ap, arith}
use Rattle.std.specs.List.{filter}
use Rattle.std.proofs.lemmas.Bool.{or_right, and_parts, ltb-false, false≢true}
use Rattle.std.proofs.lemmas.Bool.Decides.{nat_tests}
use Rattle.pp_terms.specs.tree.Range.{Span, within, has, IsRunsFrom}
use Rattle.pp_ranges.specs.Edits.{inserted, removed, without_below, is_apart}
use Rattle.pp_ranges.proofs.Runs.{inserted_has, inserted_runs, removed_has, removed_runs, filter_runs}
use Rattle.pp_ranges.proofs.Lengths.{inserted_length, removed_few, removed_front, kept_length}
use Rattle.pp_ranges.proofs.Fronts.{below_runs, below_has, below_few}
use Rattle.pp_requests.specs.Lists.{IsLeast, are_too_many, requested, cancelled, without}
use Rattle.pp_requests.specs.Calls.{Call, Requests, Cancels, Clears, Takes, Drops, listed, without_least, CallsStand, AreInOrder, edits, is_wanted, ListsAreAsked}
use Rattle.pp_requests.proofs.LeastNumbers.{least_alone, first_least}

takes_least : (least : ℕ) (list : List Span) → IsRunsFrom 0 list → IsLeast list least → without least list ≡ without_least list
takes_least least [] runs is = absurd (false≢true is.listed)
takes_least least (x ∷ xs) runs is = ap (λ (n : ℕ). without n (x ∷ xs)) (least_alone (x ∷ xs) least x.first is (first_least x xs 0 runs))

pub calls_stand : CallsStand
calls_stand = record {
  new = refl;
  requests = λ range list calls is. ap (requested range) is;
  cancels = λ range list calls is. ap (cancelled range) is;
  clears = λ calls. refl;
  takes = λ least list calls runs is same. takes_least least list runs is ∙ ap without_least same;
  takes_none = λ calls none. ap without_least none;
  drops = λ i list calls is. ap (without_below i) is;
}

-- ---- what they leave

either_holds : (P : List Span → Type 0) (b : Bool) (xs ys : List Span) → P xs → P ys → P (cond b xs ys)
either_holds P true xs ys p q = p
either_holds P false xs ys p q = q

-- not more than there is room for
kept_few : (b : Bool) (xs ys : List Span) → nat_lt 64 (length ys) ≡ b → length xs ≤ 64 → length (cond b xs ys) ≤ 64
kept_few true xs ys is few = few
kept_few false xs ys is few = ltb-false 64 (length ys) is

pub requested_runs : (range : Span) (list : List Span) → range.first ≤ range.last → IsRunsFrom 0 list → IsRunsFrom 0 (requested range list)
requested_runs range list order runs =
    either_holds (IsRunsFrom 0) (are_too_many (inserted (Some range) list)) list (inserted (Some range) list) runs
    (inserted_runs range list 0 (omega arith) order runs)

pub cancelled_runs : (range : Span) (list : List Span) → range.first ≤ range.last → IsRunsFrom 0 list → IsRunsFrom 0 (cancelled range list)
cancelled_runs range list order runs =
    either_holds (IsRunsFrom 0) (are_too_many (removed range list)) (filter (is_apart range) list) (removed range list)
    (filter_runs (is_apart range) list 0 runs) (removed_runs range list 0 order runs)

least_runs : (list : List Span) → IsRunsFrom 0 list → IsRunsFrom 0 (without_least list)
least_runs [] runs = tt
least_runs (x ∷ xs) runs = removed_runs (record { first = x.first; last = x.first }) (x ∷ xs) 0 (omega arith) runs

pub listed_runs : (calls : List Call) → AreInOrder calls → IsRunsFrom 0 (listed calls)
listed_runs [] order = tt
listed_runs (Requests range ∷ before) order = requested_runs range (listed before) order.0 (listed_runs before order.1)
listed_runs (Cancels range ∷ before) order = cancelled_runs range (listed before) order.0 (listed_runs before order.1)
listed_runs (Clears ∷ before) order = tt
listed_runs (Takes ∷ before) order = least_runs (listed before) (listed_runs before order.1)
listed_runs (Drops i ∷ before) order = below_runs i (listed before) 0 (listed_runs before order.1)

-- the least number gone, there is no range more
least_few : (list : List Span) → IsRunsFrom 0 list → length (without_least list) ≤ length list
least_few [] runs = omega arith
least_few (x ∷ xs) runs =
    removed_front (record { first = x.first; last = x.first }) (x ∷ xs) 0 (omega arith) runs (first_least x xs 0 runs).lesser

pub listed_most : (calls : List Call) → AreInOrder calls → length (listed calls) ≤ 64
listed_most [] order = omega arith
listed_most (Requests range ∷ before) order =
    kept_few (are_too_many (inserted (Some range) (listed before))) (listed before) (inserted (Some range) (listed before)) refl (listed_most before order.1)
listed_most (Cancels range ∷ before) order =
    let few = kept_length (is_apart range) (listed before) in
    let most = listed_most before order.1 in
    kept_few (are_too_many (removed range (listed before))) (filter (is_apart range) (listed before)) (removed range (listed before)) refl (omega arith)
listed_most (Clears ∷ before) order = omega arith
listed_most (Takes ∷ before) order =
    let few = least_few (listed before) (listed_runs before order.1) in let most = listed_most before order.1 in omega arith
listed_most (Drops i ∷ before) order = let few = below_few i (listed before) in let most = listed_most before order.1 in omega arith

listed_few : (calls : List Call) → AreInOrder calls → length (listed calls) ≤ edits calls
listed_few [] order = omega arith
listed_few (Requests range ∷ before) order =
    let most = listed_few before order.1 in
    let more = inserted_length range (listed before) in
    either_holds (λ (xs : List Span). length xs ≤ edits before + 1) (are_too_many (inserted (Some range) (listed before))) (listed before)
    (inserted (Some range) (listed before)) (omega arith) (omega arith)
listed_few (Cancels range ∷ before) order =
    let most = listed_few before order.1 in
    let fewer = kept_length (is_apart range) (listed before) in
    let more = removed_few range (listed before) 0 order.0 (listed_runs before order.1) in
    either_holds (λ (xs : List Span). length xs ≤ edits before + 1) (are_too_many (removed range (listed before))) (filter (is_apart range) (listed before))
    (removed range (listed before)) (omega arith) (omega arith)
listed_few (Clears ∷ before) order = omega arith
listed_few (Takes ∷ before) order =
    let few = least_few (listed before) (listed_runs before order.1) in let most = listed_few before order.1 in omega arith
listed_few (Drops i ∷ before) order = let few = below_few i (listed before) in let most = listed_few before order.1 in omega arith

-- ---- and which chunks

-- the ranges that don't meet one have none of its numbers
pub kept_has : (range : Span) (xs : List Span) (from i : ℕ) → IsRunsFrom from xs → has (filter (is_apart range) xs) i ≡ true
    → (not (within range i) && has xs i) ≡ true
kept_has range [] from i runs h = absurd (false≢true h)
kept_has range (x ∷ xs) from i runs h =
    let order = runs.1 in
    let rest = kept_has range xs (x.last + 2) i runs.2 in
    by (is_apart range x) refl rest h
  where
    by : (b : Bool) → is_apart range x ≡ b → (has (filter (is_apart range) xs) i ≡ true → (not (within range i) && has xs i) ≡ true)
        → has (cond b (x ∷ filter (is_apart range) xs) (filter (is_apart range) xs)) i ≡ true → (not (within range i) && (within x i || has xs i)) ≡ true
    by true apart rest here = grind (arith, nat_tests)
    by false apart rest here = grind (arith, nat_tests)

pub requested_has : (range : Span) (list : List Span) (i : ℕ) → range.first ≤ range.last → IsRunsFrom 0 list → has (requested range list) i ≡ true
    → (within range i || has list i) ≡ true
requested_has range list i order runs = either_holds (λ (xs : List Span). has xs i ≡ true → (within range i || has list i) ≡ true)
    (are_too_many (inserted (Some range) list)) list (inserted (Some range) list) (or_right (within range i) (has list i))
    (λ h. sym (inserted_has range list 0 i order runs) ∙ h)

pub cancelled_has : (range : Span) (list : List Span) (i : ℕ) → range.first ≤ range.last → IsRunsFrom 0 list → has (cancelled range list) i ≡ true
    → (not (within range i) && has list i) ≡ true
cancelled_has range list i order runs = either_holds (λ (xs : List Span). has xs i ≡ true → (not (within range i) && has list i) ≡ true)
    (are_too_many (removed range list)) (filter (is_apart range) list) (removed range list) (kept_has range list 0 i runs)
    (λ h. sym (removed_has range list 0 i order runs) ∙ h)

least_has : (list : List Span) (i : ℕ) → IsRunsFrom 0 list → has (without_least list) i ≡ true → has list i ≡ true
least_has [] i runs h = h
least_has (x ∷ xs) i runs h =
    (and_parts (not (within (record { first = x.first; last = x.first }) i)) (has (x ∷ xs) i)
    (sym (removed_has (record { first = x.first; last = x.first }) (x ∷ xs) 0 i (omega arith) runs) ∙ h)).1

wider : (a b c : Bool) → (b ≡ true → c ≡ true) → (a || b) ≡ true → (a || c) ≡ true
wider true b c more h = refl
wider false b c more h = more h

narrower : (a b c : Bool) → (b ≡ true → c ≡ true) → (a && b) ≡ true → (a && c) ≡ true
narrower true b c more h = more h
narrower false b c more h = h

listed_wanted : (calls : List Call) (i : ℕ) → AreInOrder calls → has (listed calls) i ≡ true → is_wanted i calls ≡ true
listed_wanted [] i order h = h
listed_wanted (Requests range ∷ before) i order h = wider (within range i) (has (listed before) i) (is_wanted i before)
    (listed_wanted before i order.1) (requested_has range (listed before) i order.0 (listed_runs before order.1) h)
listed_wanted (Cancels range ∷ before) i order h = narrower (not (within range i)) (has (listed before) i) (is_wanted i before)
    (listed_wanted before i order.1) (cancelled_has range (listed before) i order.0 (listed_runs before order.1) h)
listed_wanted (Clears ∷ before) i order h = h
listed_wanted (Takes ∷ before) i order h = listed_wanted before i order.1 (least_has (listed before) i (listed_runs before order.1) h)
listed_wanted (Drops below ∷ before) i order h = narrower (nat_le below i) (has (listed before) i) (is_wanted i before)
    (listed_wanted before i order.1) (sym (below_has below (listed before) 0 i (listed_runs before order.1)) ∙ h)

pub lists_are_asked : ListsAreAsked
lists_are_asked = record { runs = listed_runs; most = listed_most; few = listed_few; wanted = listed_wanted }
