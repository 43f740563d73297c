-- Lists of ranges in rising order: what edits leave in them, and that no list of the same numbers is shorter.
use Rattle.std.proofs.Common.{◌≡◌, ◌⊎◌, ℕ, zero, suc, ◌+◌, ◌-◌, ◌<◌, ◌≤◌, nat_lt, nat_le, min, max, Bool, true, false, cond, not, ◌&&◌, ◌||◌, Some, List, [], ◌∷◌, ◌++◌, length, take, get_or, refl, sym, ◌∙◌, ap, subst, inl, inr, arith}
use Rattle.std.specs.Prelude.{count_by, Result, Ok, Err, OnOk, OnErr, IsOk, IsErr}
use Rattle.std.specs.List.{filter}
use Rattle.std.proofs.lemmas.Bool.{cases_eq, cases_Bool}
use Rattle.std.proofs.lemmas.Bool.Decides.{nat_tests}
use Rattle.std.proofs.lemmas.List.Sums.{sum_by-cons, count_by-le-length, length-filter}
use Rattle.std.proofs.lemmas.List.{length-take, take_all}
use Rattle.std.proofs.Math.Seq.{take-suc}
use Rattle.std.proofs.Math.Bool.{or_assoc}
use Rattle.pp_terms.specs.tree.Range.{Span, within, has, IsRunsFrom, NeedsMore}
use Rattle.pp_ranges.specs.Edits.{joined, is_before, inserted, below, above, removed}

pub runs_weaken : (a b : ℕ) (xs : List Span) → a ≤ b → IsRunsFrom b xs → IsRunsFrom a xs
runs_weaken a b [] le h = tt
runs_weaken a b (x ∷ xs) le h = (omega (arith, h.0), h.1, h.2)

-- Bool's laws that are needed
pub or_swap : (a b c : Bool) → (a || (b || c)) ≡ (b || (a || c))
or_swap true true c = refl
or_swap true false c = refl
or_swap false true c = refl
or_swap false false c = refl

and_over_or : (a b c : Bool) → ((a && b) || (a && c)) ≡ (a && (b || c))
and_over_or true b c = refl
and_over_or false b c = refl

-- two ranges that meet or touch
joined_has : (s x : Span) (i : ℕ) → s.first ≤ s.last → x.first ≤ x.last → is_before x s ≡ false → is_before s x ≡ false
    → within (joined s x) i ≡ (within s i || within x i)
joined_has s x i s_order x_order p q = grind (arith, nat_tests)

inserted_has_step : (s x : Span) (xs : List Span) (i : ℕ) (b c : Bool) → is_before x s ≡ b → is_before s x ≡ c
    → s.first ≤ s.last → x.first ≤ x.last
    → ((z : Span) → z.first ≤ z.last → has (inserted (Some z) xs) i ≡ (within z i || has xs i))
    → has (inserted (Some s) (x ∷ xs)) i ≡ (within s i || (within x i || has xs i))
inserted_has_step s x xs i true c p q s_order x_order ih =
    rw (p, inserted) (ap (λ (t : Bool). within x i || t) (ih s s_order) ∙ or_swap (within x i) (within s i) (has xs i))
inserted_has_step s x xs i false true p q s_order x_order ih = rw (p, q, inserted) refl
inserted_has_step s x xs i false false p q s_order x_order ih =
    rw (p, q, inserted) (ih (joined s x) (omega arith) ∙ ap (λ (t : Bool). t || has xs i) (joined_has s x i s_order x_order p q)
    ∙ or_assoc (within s i) (within x i) (has xs i))

pub inserted_has : (s : Span) (xs : List Span) (from i : ℕ) → s.first ≤ s.last → IsRunsFrom from xs
    → has (inserted (Some s) xs) i ≡ (within s i || has xs i)
inserted_has s [] from i order h = refl
inserted_has s (x ∷ xs) from i order h =
    inserted_has_step s x xs i (is_before x s) (is_before s x) refl refl order h.1
    (λ z z_order. inserted_has z xs (x.last + 2) i z_order h.2)

inserted_runs_step : (s x : Span) (xs : List Span) (from : ℕ) (b c : Bool) → is_before x s ≡ b → is_before s x ≡ c
    → from ≤ s.first → s.first ≤ s.last → IsRunsFrom from (x ∷ xs)
    → ((z : Span) (low : ℕ) → low ≤ z.first → z.first ≤ z.last → IsRunsFrom low xs → IsRunsFrom low (inserted (Some z) xs))
    → IsRunsFrom from (inserted (Some s) (x ∷ xs))
inserted_runs_step s x xs from true c p q low order h ih =
    let gap : x.last + 1 < s.first = grind (arith, nat_tests) in
    rw (p, inserted) (h.0, h.1, ih s (x.last + 2) (omega arith) order h.2)
inserted_runs_step s x xs from false true p q low order h ih =
    let gap : s.last + 1 < x.first = grind (arith, nat_tests) in
    rw (p, q, inserted) (low, order, (omega arith, h.1, h.2))
inserted_runs_step s x xs from false false p q low order h ih =
    let at = h.0 in
    let up = h.1 in
    let least : from ≤ min s.first x.first = omega arith in
    let span : min s.first x.first ≤ max s.last x.last = omega arith in
    let after : from ≤ x.last + 2 = omega arith in
    rw (p, q, inserted) (ih (joined s x) from least span (runs_weaken from (x.last + 2) xs after h.2))

pub inserted_runs : (s : Span) (xs : List Span) (from : ℕ) → from ≤ s.first → s.first ≤ s.last → IsRunsFrom from xs
    → IsRunsFrom from (inserted (Some s) xs)
inserted_runs s [] from low order h = (low, order, tt)
inserted_runs s (x ∷ xs) from low order h =
    inserted_runs_step s x xs from (is_before x s) (is_before s x) refl refl low order h
    (λ z a z_low z_order z_h. inserted_runs z xs a z_low z_order z_h)

-- the numbers of two lists
pub append_has : (xs ys : List Span) (i : ℕ) → has (xs ++ ys) i ≡ (has xs i || has ys i)
append_has [] ys i = refl
append_has (x ∷ xs) ys i = ap (λ (t : Bool). within x i || t) (append_has xs ys i) ∙ sym (or_assoc (within x i) (has xs i) (has ys i))

cut_has : (s x : Span) (i : ℕ) (b c : Bool) → nat_lt x.first s.first ≡ b → nat_lt s.last x.last ≡ c
    → s.first ≤ s.last → x.first ≤ x.last
    → (has (below s x) i || has (above s x) i) ≡ (not (within s i) && within x i)
cut_has s x i true true p q s_order x_order = rw (p, q, below, above) (grind (arith, nat_tests))
cut_has s x i true false p q s_order x_order = rw (p, q, below, above) (grind (arith, nat_tests))
cut_has s x i false true p q s_order x_order = rw (p, q, below, above) (grind (arith, nat_tests))
cut_has s x i false false p q s_order x_order = rw (p, q, below, above) (grind (arith, nat_tests))

pub removed_has : (s : Span) (xs : List Span) (from i : ℕ) → s.first ≤ s.last → IsRunsFrom from xs
    → has (removed s xs) i ≡ (not (within s i) && has xs i)
removed_has s [] from i order h = elim (not (within s i)) as (λ (b : Bool). false ≡ (b && false)) [ true ↦ refl | false ↦ refl ]
removed_has s (x ∷ xs) from i order h =
    append_has (below s x ++ above s x) (removed s xs) i
    ∙ ap (λ (t : Bool). t || has (removed s xs) i) (append_has (below s x) (above s x) i
    ∙ cut_has s x i (nat_lt x.first s.first) (nat_lt s.last x.last) refl refl order h.1)
    ∙ ap (λ (t : Bool). (not (within s i) && within x i) || t) (removed_has s xs (x.last + 2) i order h.2)
    ∙ and_over_or (not (within s i)) (within x i) (has xs i)

cut_runs : (s x : Span) (rest : List Span) (from : ℕ) (b c : Bool) → nat_lt x.first s.first ≡ b → nat_lt s.last x.last ≡ c
    → s.first ≤ s.last → from ≤ x.first → x.first ≤ x.last → IsRunsFrom (x.last + 2) rest
    → IsRunsFrom from (below s x ++ above s x ++ rest)
cut_runs s x rest from true true p q s_order low x_order h =
    let under : x.first < s.first = grind (arith, nat_tests) in
    let over : s.last < x.last = grind (arith, nat_tests) in
    rw (p, q, below, above) (low, omega arith, (omega arith, omega arith, h))
cut_runs s x rest from true false p q s_order low x_order h =
    let under : x.first < s.first = grind (arith, nat_tests) in
    let after : min x.last (s.first - 1) + 2 ≤ x.last + 2 = omega arith in
    rw (p, q, below, above) (low, omega arith, runs_weaken (min x.last (s.first - 1) + 2) (x.last + 2) rest after h)
cut_runs s x rest from false true p q s_order low x_order h =
    let over : s.last < x.last = grind (arith, nat_tests) in
    rw (p, q, below, above) (omega arith, omega arith, h)
cut_runs s x rest from false false p q s_order low x_order h =
    let after : from ≤ x.last + 2 = omega arith in
    rw (p, q, below, above) (runs_weaken from (x.last + 2) rest after h)

pub removed_runs : (s : Span) (xs : List Span) (from : ℕ) → s.first ≤ s.last → IsRunsFrom from xs → IsRunsFrom from (removed s xs)
removed_runs s [] from order h = tt
removed_runs s (x ∷ xs) from order h =
    cut_runs s x (removed s xs) from (nat_lt x.first s.first) (nat_lt s.last x.last) refl refl order h.0 h.1
    (removed_runs s xs (x.last + 2) order h.2)

pub filter_runs : (p : Span → Bool) (xs : List Span) (from : ℕ) → IsRunsFrom from xs → IsRunsFrom from (filter p xs)
filter_runs p [] from h = tt
filter_runs p (x ∷ xs) from h =
    let at = h.0 in
    let up = h.1 in
    let after : from ≤ x.last + 2 = omega arith in
    elim (p x) as (λ (b : Bool). IsRunsFrom from (cond b (x ∷ filter p xs) (filter p xs))) [
      | true ↦ (h.0, h.1, filter_runs p xs (x.last + 2) h.2)
      | false ↦ runs_weaken from (x.last + 2) (filter p xs) after (filter_runs p xs (x.last + 2) h.2)
    ]

-- no number lies below the first range
pub none_below : (xs : List Span) (from i : ℕ) → IsRunsFrom from xs → i < from → has xs i ≡ false
none_below [] from i h lt = refl
none_below (x ∷ xs) from i h lt =
    let at = h.0 in
    let up = h.1 in
    let out : within x i ≡ false = grind (arith, nat_tests) in
    rw out (none_below xs (x.last + 2) i h.2 (omega arith))

-- some range of the list begins there
abbrev HasFirst : List Span → ℕ → Type 0
HasFirst [] n = ⊥
HasFirst (y ∷ ys) n = (y.first ≡ n) ⊎ HasFirst ys n

abbrev HasFirsts : List Span → List Span → Type 0
HasFirsts ys [] = Unit {0}
HasFirsts ys (x ∷ xs) = HasFirst ys x.first × HasFirsts ys xs

or_parts : (a b : Bool) → (a || b) ≡ false → (a ≡ false) × (b ≡ false)
or_parts true b h = (cc, cc)
or_parts false b h = (refl, h)

begins : (ys : List Span) (n : ℕ) → has ys n ≡ true → (0 < n → has ys (n - 1) ≡ false) → HasFirst ys n
begins [] n here before = cc
begins (y ∷ ys) n here before = elim (cases_Bool (within y n)) [
  | inl inside ↦ elim (cases_eq y.first n) [
    | inl e ↦ inl e
    | inr ne ↦
        let low : y.first < n = grind (arith, nat_tests) in
        let also : within y (n - 1) ≡ true = grind (arith, nat_tests) in
        let none = or_parts (within y (n - 1)) (has ys (n - 1)) (before (omega arith)) in
        absurd (let bad = none.0 in cc)
  ]
  | inr outside ↦ inr (begins ys n (sym (ap (λ (t : Bool). t || has ys n) outside) ∙ here)
      (λ some. (or_parts (within y (n - 1)) (has ys (n - 1)) (before some)).1))
]

firsts : (xs ys : List Span) (from : ℕ) → IsRunsFrom from xs → ((i : ℕ) → from ≤ i + 1 → has ys i ≡ has xs i) → HasFirsts ys xs
firsts [] ys from h same = tt
firsts (x ∷ xs) ys from h same =
    let at = h.0 in
    let up = h.1 in
    let inside : within x x.first ≡ true = grind (arith, nat_tests) in
    let low : x.first ≤ x.first = omega arith in (
      begins ys x.first (same x.first (omega arith) ∙ ap (λ (t : Bool). t || has xs x.first) inside)
          (λ some. same (x.first - 1) (omega arith) ∙ none_below (x ∷ xs) x.first (x.first - 1) (low, h.1, h.2) (omega arith)),
      firsts xs ys (x.last + 2) h.2 (λ i over.
          let out : within x i ≡ false = grind (arith, nat_tests) in
          same i (omega arith) ∙ ap (λ (t : Bool). t || has xs i) out),
    )

-- how many ranges begin at a number or above
abbrev from_on : ℕ → List Span → ℕ
from_on n ys = count_by (λ (y : Span). nat_le n y.first) ys

from_on_cons : (n : ℕ) (y : Span) (ys : List Span) → from_on n (y ∷ ys) ≡ cond {A = ℕ} (nat_le n y.first) 1 0 + from_on n ys
from_on_cons n y ys = sum_by-cons (λ (z : Span). cond {A = ℕ} (nat_le n z.first) 1 0) y ys

fewer_above : (ys : List Span) (a b : ℕ) → a ≤ b → from_on b ys ≤ from_on a ys
fewer_above [] a b le = omega arith
fewer_above (y ∷ ys) a b le =
    let rest = fewer_above ys a b le in
    let one = from_on_cons a y ys in
    let two = from_on_cons b y ys in
    let here : cond {A = ℕ} (nat_le b y.first) 1 0 ≤ cond {A = ℕ} (nat_le a y.first) 1 0 = grind (arith, nat_tests) in
    omega (arith, rest, one, two, here)

one_between : (ys : List Span) (a b n : ℕ) → a ≤ n → n < b → HasFirst ys n → from_on b ys + 1 ≤ from_on a ys
one_between [] a b n low high h = absurd h
one_between (y ∷ ys) a b n low high (inl e) =
    let order : a ≤ b = omega arith in
    let rest = fewer_above ys a b order in
    let one = from_on_cons a y ys in
    let two = from_on_cons b y ys in
    let here : cond {A = ℕ} (nat_le a y.first) 1 0 ≡ 1 = grind (arith, nat_tests) in
    let there : cond {A = ℕ} (nat_le b y.first) 1 0 ≡ 0 = grind (arith, nat_tests) in
    omega (arith, rest, one, two, here, there)
one_between (y ∷ ys) a b n low high (inr h) =
    let rest = one_between ys a b n low high h in
    let order : a ≤ b = omega arith in
    let one = from_on_cons a y ys in
    let two = from_on_cons b y ys in
    let here : cond {A = ℕ} (nat_le b y.first) 1 0 ≤ cond {A = ℕ} (nat_le a y.first) 1 0 = grind (arith, nat_tests) in
    omega (arith, rest, one, two, here)

counted : (xs ys : List Span) (from : ℕ) → IsRunsFrom from xs → HasFirsts ys xs → length xs ≤ from_on from ys
counted [] ys from h all = omega arith
counted (x ∷ xs) ys from h all =
    let at = h.0 in
    let up = h.1 in
    let past : x.first < x.last + 2 = omega arith in
    let rest = counted xs ys (x.last + 2) h.2 all.1 in
    let more = one_between ys from (x.last + 2) x.first h.0 past all.0 in
    omega (arith, rest, more)

-- no list with the same numbers is shorter
pub runs_are_least : (xs ys : List Span) → IsRunsFrom 0 xs → ((i : ℕ) → has ys i ≡ has xs i) → length xs ≤ length ys
runs_are_least xs ys h same =
    let most = counted xs ys 0 h (firsts xs ys 0 h (λ i _. same i)) in
    let all = count_by-le-length (λ (y : Span). nat_le 0 y.first) ys in
    omega (arith, most, all)

-- so that many ranges are needed
pub needed : (limit : ℕ) (xs : List Span) (numbers : ℕ → Bool) → IsRunsFrom 0 xs → ((i : ℕ) → has xs i ≡ numbers i)
    → limit < length xs → NeedsMore limit numbers
needed limit xs numbers h same lt = λ ys e.
    let least = runs_are_least xs ys h (λ i. e i ∙ sym (same i)) in omega arith

pub not_needed : (limit : ℕ) (xs : List Span) (numbers : ℕ → Bool) → ((i : ℕ) → has xs i ≡ numbers i)
    → length xs ≤ limit → NeedsMore limit numbers → ⊥
not_needed limit xs numbers same le more = let lt = more xs same in omega arith

-- a number in the range at an index
pub has_at : (xs : List Span) (k i : ℕ) (x : Span) → k < length xs → x ≡ get_or xs k x → within x i ≡ true → has xs i ≡ true
has_at [] k i x lt at inside = absurd (omega arith)
has_at (y ∷ ys) zero i x lt at inside = let e : within y i ≡ true = ap (λ z. within z i) (sym at) ∙ inside in rw e refl
has_at (y ∷ ys) (suc k) i x lt at inside =
    let rest = has_at ys k i x (omega arith) at inside in
    rw rest (elim (within y i) as (λ b. (b || true) ≡ true) [ true ↦ refl | false ↦ refl ])

-- and not in one more
pub has_not_more : (xs : List Span) (k i : ℕ) (x : Span) → k < length xs → x ≡ get_or xs k x → within x i ≡ false
    → has (take k xs) i ≡ false → has (take (k + 1) xs) i ≡ false
has_not_more xs k i x lt at outside before =
    let more : k + 1 ≡ suc k = omega arith in
    let grown : take (k + 1) xs ≡ take k xs ++ x ∷ [] =
    ap (λ n. take n xs) more ∙ take-suc xs k x lt ∙ ap (λ z. take k xs ++ z ∷ []) (sym at) in
    ap (λ ys. has ys i) grown ∙ append_has (take k xs) (x ∷ []) i ∙ ap (λ t. t || has (x ∷ []) i) before
    ∙ ap (λ t. t || false) outside

-- the least number
pub first_is : (xs : List Span) (x : Span) → IsRunsFrom 0 xs → 0 < length xs → x ≡ get_or xs 0 x
    → (has xs x.first ≡ true) × ((i : ℕ) → i < x.first → has xs i ≡ false)
first_is [] x h some at = absurd (omega arith)
first_is (y ∷ ys) x h some at =
    let up = h.1 in
    let low : y.first ≤ y.first = omega arith in
    let inside : within y y.first ≡ true = grind (arith, nat_tests) in
    let here : has (y ∷ ys) y.first ≡ true = ap (λ t. t || has ys y.first) inside in
    let first : x.first ≡ y.first = ap (λ z. z.first) at in (
      ap (λ n. has (y ∷ ys) n) first ∙ here,
      λ i lt. none_below (y ∷ ys) y.first i (low, h.1, h.2) (omega arith),
    )

pub few_kept : (p : Span → Bool) (xs : List Span) (k : ℕ) → length (filter p (take k xs)) ≤ k
few_kept p xs k =
    let kept = length-filter p (take k xs) in
    let most = count_by-le-length p (take k xs) in
    let size = length-take k xs in
    omega (arith, kept, most, size)

-- all of them were passed
pub all_taken : (xs : List Span) (k : ℕ) → length xs ≤ k → take k xs ≡ xs
all_taken xs k le = take_all k xs le

-- what a list of ranges is after an edit, before it is known whether it has room
pub inserted_edit : (range : Span) (list old xs : List Span) → xs ≡ inserted (Some range) list → list ≡ old
    → range.first ≤ range.last → IsRunsFrom 0 old
    → IsRunsFrom 0 xs × ((i : ℕ) → has xs i ≡ (within range i || has old i))
inserted_edit range list old xs is same order h =
    let e : xs ≡ inserted (Some range) old = is ∙ ap (λ ys. inserted (Some range) ys) same in
    let low : 0 ≤ range.first = omega arith in (
      subst (λ ys. IsRunsFrom 0 ys) (sym e) (inserted_runs range old 0 low order h),
      λ i. ap (λ ys. has ys i) e ∙ inserted_has range old 0 i order h,
    )

pub removed_edit : (range : Span) (list old xs : List Span) → xs ≡ removed range list → list ≡ old
    → range.first ≤ range.last → IsRunsFrom 0 old
    → IsRunsFrom 0 xs × ((i : ℕ) → has xs i ≡ (not (within range i) && has old i))
removed_edit range list old xs is same order h =
    let e : xs ≡ removed range old = is ∙ ap (λ ys. removed range ys) same in (
      subst (λ ys. IsRunsFrom 0 ys) (sym e) (removed_runs range old 0 order h),
      λ i. ap (λ ys. has ys i) e ∙ removed_has range old 0 i order h,
    )

-- and after it was taken, or refused
pub settled_ok : {T E : Type 0} (r : Result T E) (new xs : List Span) (numbers : ℕ → Bool)
    → OnOk r ((new ≡ xs) × (length xs ≤ 64)) → ((i : ℕ) → has xs i ≡ numbers i) → OnOk r ((i : ℕ) → has new i ≡ numbers i)
settled_ok (Ok x) new xs numbers is same = λ i. ap (λ ys. has ys i) is.0 ∙ same i
settled_ok (Err e) new xs numbers is same = tt

pub settled_runs : {T E : Type 0} (r : Result T E) (old new xs : List Span) → OnOk r ((new ≡ xs) × (length xs ≤ 64))
    → OnErr r ((new ≡ old) × (64 < length xs)) → IsRunsFrom 0 xs → IsRunsFrom 0 old → IsRunsFrom 0 new
settled_runs (Ok x) old new xs is kept h g = subst (λ ys. IsRunsFrom 0 ys) (sym is.0) h
settled_runs (Err e) old new xs is kept h g = subst (λ ys. IsRunsFrom 0 ys) (sym kept.0) g

pub settled_full : {T E : Type 0} (r : Result T E) (old new xs : List Span) (numbers : ℕ → Bool) → OnOk r ((new ≡ xs) × (length xs ≤ 64))
    → OnErr r ((new ≡ old) × (64 < length xs)) → IsRunsFrom 0 xs → ((i : ℕ) → has xs i ≡ numbers i)
    → (IsErr r → NeedsMore 64 numbers) × (NeedsMore 64 numbers → IsErr r)
settled_full (Ok x) old new xs numbers is kept h same =
    (λ err. absurd (let bad = err in cc), λ more. absurd (not_needed 64 xs numbers same is.1 more))
settled_full (Err e) old new xs numbers is kept h same = (λ err. needed 64 xs numbers h same kept.1, λ more. refl)

pub settled_few : {T E : Type 0} (r : Result T E) (old new xs : List Span) (most : ℕ) → OnOk r ((new ≡ xs) × (length xs ≤ 64))
    → OnErr r ((new ≡ old) × (64 < length xs)) → length xs ≤ most → length old ≤ most → length new ≤ most
settled_few (Ok x) old new xs most is kept few fits = let same = ap (λ (ys : List Span). length ys) is.0 in omega arith
settled_few (Err e) old new xs most is kept few fits = let same = ap (λ (ys : List Span). length ys) kept.0 in omega arith

pub settled_front : {T E : Type 0} (r : Result T E) (old new xs : List Span) (most : ℕ) → OnOk r ((new ≡ xs) × (length xs ≤ 64))
    → OnErr r ((new ≡ old) × (64 < length xs)) → length xs ≤ most → most ≤ 64 → IsOk r × (length new ≤ most)
settled_front (Ok x) old new xs most is kept few fits = (refl, let same = ap (λ (ys : List Span). length ys) is.0 in omega arith)
settled_front (Err e) old new xs most is kept few fits = absurd (omega (arith, kept.1))
