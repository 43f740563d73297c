-- The ranges of a set: what they are, and that no others are.
use Rattle.std.proofs.Common.{◌≡◌, ⊎_elim, ℕ, zero, suc, ◌+◌, ◌-◌, ◌<◌, ◌≤◌, leb, Bool, true, false, ◌&&◌, ◌||◌, Option, Some, None, List, [], ◌∷◌, ◌++◌, length, refl, sym, ◌∙◌, ap, subst, arith}
use Rattle.std.specs.Prelude.{slice_index_or}
use Rattle.std.proofs.lemmas.Bool.{le-leb, lt-leb, cases_lt, cases_eq, and_left}
use Rattle.std.proofs.Math.Bool.{or-false}
use Rattle.std.proofs.lemmas.List.{get_or_past}
use Rattle.pp_terms.specs.tree.Range.{Span, within, has, IsRunsFrom}
use Rattle.pp_terms.specs.command.Report.{AreRanges}
use Rattle.pp_terms.proofs.Within.{within_from, within_past}
use Rattle.pp_terms.proofs.BinSpans.{span_same}
use Rattle.pp_ranges.proofs.Runs.{runs_weaken, none_below, append_has}
use Rattle.pp_audit.specs.Reports.{ended, begun_after, ranges_from, ranges_behind, ranges_of}

-- ---- what the ranges have

pub within_low : (span : Span) (i : ℕ) → i < span.first → within span i ≡ false
within_low span i lt = and_left _ _ (lt-leb span.first i lt)

-- the range that is begun began before
IsBegunBefore : ℕ → Option ℕ → Type 0
IsBegunBefore i None = Unit {0}
IsBegunBefore i (Some first) = first < i

stays_begun : (begun : Option ℕ) (i : ℕ) (is_in : Bool) → IsBegunBefore i begun → IsBegunBefore (suc i) (begun_after begun i is_in)
unfolding IsBegunBefore
stays_begun None i true lt = omega arith
stays_begun None i false lt = tt
stays_begun (Some first) i true lt = omega (arith, lt)
stays_begun (Some first) i false lt = tt

-- a range that ends before a number doesn't have that, nor a later one
ended_before : (begun : Option ℕ) (i : ℕ) (is_in : Bool) (j : ℕ) → IsBegunBefore i begun → i ≤ j → has (ended begun i is_in) j ≡ false
unfolding IsBegunBefore
ended_before None i is_in j lt le = refl
ended_before (Some first) i true j lt le = refl
ended_before (Some first) i false j lt le =
    or-false (within (record { first = first; last = i - 1 }) j) ∙ within_past (record { first = first; last = i - 1 }) j (omega (arith, lt, le))

-- earlier numbers are those of the range that is begun
earlier : (test : ℕ → Bool) (begun : Option ℕ) (i n j : ℕ) → IsBegunBefore i begun → j < i → has (ranges_from test begun i n) j ≡ has (ended begun i false) j
unfolding ranges_from IsBegunBefore
earlier test begun i zero j lt less = refl
earlier test begun i (suc n) j lt less = pick begun (test i) lt (λ o before. earlier test o (suc i) n j before (omega (arith, less)))
  where
    pick : (o : Option ℕ) (b : Bool) → IsBegunBefore i o
        → ((o' : Option ℕ) → IsBegunBefore (suc i) o' → has (ranges_from test o' (suc i) n) j ≡ has (ended o' (suc i) false) j)
        → has (ended o i b ++ ranges_from test (begun_after o i b) (suc i) n) j ≡ has (ended o i false) j
    pick None true lt' next =
        next (Some i) (omega arith)
        ∙ or-false (within (record { first = i; last = suc i - 1 }) j)
        ∙ within_low (record { first = i; last = suc i - 1 }) j less
    pick None false lt' next = next None tt
    pick (Some first) true lt' next =
        next (Some first) (omega (arith, lt'))
        ∙ ap (λ (b : Bool). (leb first j && b) || false)
        (le-leb j (suc i - 1) (omega (arith, less)) ∙ sym (le-leb j (i - 1) (omega (arith, less))))
    pick (Some first) false lt' next =
        append_has (ended (Some first) i false) (ranges_from test None (suc i) n) j
        ∙ ap (λ (b : Bool). has (ended (Some first) i false) j || b) (next None tt)
        ∙ or-false (has (ended (Some first) i false) j)

here : (test : ℕ → Bool) (begun : Option ℕ) (i n : ℕ) → IsBegunBefore i begun → has (ranges_from test begun i (suc n)) i ≡ test i
unfolding ranges_from IsBegunBefore
here test begun i n lt = pick begun (test i) lt
  where
    pick : (o : Option ℕ) (b : Bool) → IsBegunBefore i o → has (ended o i b ++ ranges_from test (begun_after o i b) (suc i) n) i ≡ b
    pick None true lt' =
        earlier test (Some i) (suc i) n i (omega arith) (omega arith)
        ∙ or-false (within (record { first = i; last = suc i - 1 }) i)
        ∙ within_from (record { first = i; last = suc i - 1 }) i (omega arith) (omega arith)
    pick None false lt' = earlier test None (suc i) n i tt (omega arith)
    pick (Some first) true lt' =
        earlier test (Some first) (suc i) n i (omega (arith, lt')) (omega arith)
        ∙ or-false (within (record { first = first; last = suc i - 1 }) i)
        ∙ within_from (record { first = first; last = suc i - 1 }) i (omega (arith, lt')) (omega arith)
    pick (Some first) false lt' =
        append_has (ended (Some first) i false) (ranges_from test None (suc i) n) i
        ∙ ap (λ (b : Bool). b || has (ranges_from test None (suc i) n) i) (ended_before (Some first) i false i lt' (omega arith))
        ∙ earlier test None (suc i) n i tt (omega arith)

later : (test : ℕ → Bool) (begun : Option ℕ) (i n j : ℕ) → IsBegunBefore i begun → i ≤ j → j < i + n → has (ranges_from test begun i n) j ≡ test j
unfolding ranges_from
later test begun i zero j lt le less = absurd (omega (arith, le, less))
later test begun i (suc n) j lt le less = ⊎_elim
    (λ (e : i ≡ j). subst (λ (k : ℕ). has (ranges_from test begun i (suc n)) k ≡ test k) e (here test begun i n lt))
    (λ (ne : i ≡ j → ⊥).
    append_has (ended begun i (test i)) (ranges_from test (begun_after begun i (test i)) (suc i) n) j
    ∙ ap (λ (b : Bool). b || has (ranges_from test (begun_after begun i (test i)) (suc i) n) j) (ended_before begun i (test i) j lt le)
    ∙ later test (begun_after begun i (test i)) (suc i) n j (stays_begun begun i (test i) lt) (omega (arith, le, ne)) (omega (arith, less)))
    (cases_eq i j)

past_all : (test : ℕ → Bool) (begun : Option ℕ) (i n j : ℕ) → IsBegunBefore i begun → i + n ≤ j → has (ranges_from test begun i n) j ≡ false
unfolding ranges_from
past_all test begun i zero j lt le = ended_before begun i false j lt (omega (arith, le))
past_all test begun i (suc n) j lt le =
    append_has (ended begun i (test i)) (ranges_from test (begun_after begun i (test i)) (suc i) n) j
    ∙ ap (λ (b : Bool). b || has (ranges_from test (begun_after begun i (test i)) (suc i) n) j) (ended_before begun i (test i) j lt (omega (arith, le)))
    ∙ past_all test (begun_after begun i (test i)) (suc i) n j (stays_begun begun i (test i) lt) (omega (arith, le))

-- ---- they rise

start_of : Option ℕ → ℕ → ℕ
start_of None i = i
start_of (Some first) i = first

rise : (test : ℕ → Bool) (begun : Option ℕ) (i n : ℕ) → IsBegunBefore i begun → IsRunsFrom (start_of begun i) (ranges_from test begun i n)
unfolding ranges_from IsBegunBefore start_of
rise test None i zero lt = tt
rise test (Some first) i zero lt = (omega arith, omega (arith, lt), tt)
rise test begun i (suc n) lt = pick begun (test i) lt (λ o before. rise test o (suc i) n before)
  where
    pick : (o : Option ℕ) (b : Bool) → IsBegunBefore i o
        → ((o' : Option ℕ) → IsBegunBefore (suc i) o' → IsRunsFrom (start_of o' (suc i)) (ranges_from test o' (suc i) n))
        → IsRunsFrom (start_of o i) (ended o i b ++ ranges_from test (begun_after o i b) (suc i) n)
    pick None true lt' next = next (Some i) (omega arith)
    pick None false lt' next = runs_weaken i (suc i) (ranges_from test None (suc i) n) (omega arith) (next None tt)
    pick (Some first) true lt' next = next (Some first) (omega (arith, lt'))
    pick (Some first) false lt' next = (
      omega arith,
      omega (arith, lt'),
      runs_weaken (i - 1 + 2) (suc i) (ranges_from test None (suc i) n) (omega (arith, lt')) (next None tt),
    )

all_of : (set : List Bool) → ranges_of set ≡ ranges_from (λ i. slice_index_or set i false) None 0 (length set)
unfolding ranges_behind
all_of set = let all : length set - 0 ≡ length set = omega arith in ap (λ (n : ℕ). ranges_from (λ i. slice_index_or set i false) None 0 n) all

ranges_are : (set : List Bool) → AreRanges set (ranges_from (λ i. slice_index_or set i false) None 0 (length set))
unfolding IsBegunBefore start_of
ranges_are set = record {
  runs = rise (λ i. slice_index_or set i false) None 0 (length set) tt;
  same = λ i. ⊎_elim
      (λ (lt : i < length set). later (λ k. slice_index_or set k false) None 0 (length set) i tt (omega arith) (omega (arith, lt)))
      (λ (le : length set ≤ i).
      past_all (λ k. slice_index_or set k false) None 0 (length set) i tt (omega (arith, le))
      ∙ sym (get_or_past set i false le))
      (cases_lt i (length set));
}

pub are_ranges : (set : List Bool) → AreRanges set (ranges_of set)
are_ranges set = subst (λ (spans : List Span). AreRanges set spans) (sym (all_of set)) (ranges_are set)

-- ---- and no others are

no_false : false ≡ true → ⊥
no_false e = absurd cc

-- neither begins first
not_before : (x y : Span) (xs ys : List Span) → x.first ≤ x.last → x.first < y.first → y.first ≤ y.last → IsRunsFrom (y.last + 2) ys
    → ((i : ℕ) → has (x ∷ xs) i ≡ has (y ∷ ys) i) → ⊥
not_before x y xs ys x_some lt y_some runs same =
    let yes : has (x ∷ xs) x.first ≡ true = ap (λ (b : Bool). b || has xs x.first) (within_from x x.first (omega arith) x_some) in
    let no : has (y ∷ ys) x.first ≡ false =
    ap (λ (b : Bool). b || has ys x.first) (within_low y x.first lt) ∙ none_below ys (y.last + 2) x.first runs (omega (arith, lt, y_some)) in
    no_false (sym no ∙ sym (same x.first) ∙ yes)

-- nor ends first
not_shorter : (x y : Span) (xs ys : List Span) → x.first ≡ y.first → x.first ≤ x.last → x.last < y.last → IsRunsFrom (x.last + 2) xs
    → ((i : ℕ) → has (x ∷ xs) i ≡ has (y ∷ ys) i) → ⊥
not_shorter x y xs ys e x_some lt runs same =
    let yes : has (y ∷ ys) (x.last + 1) ≡ true =
    ap (λ (b : Bool). b || has ys (x.last + 1)) (within_from y (x.last + 1) (omega (arith, e, x_some)) (omega (arith, lt))) in
    let no : has (x ∷ xs) (x.last + 1) ≡ false =
    ap (λ (b : Bool). b || has xs (x.last + 1)) (within_past x (x.last + 1) (omega arith)) ∙ none_below xs (x.last + 2) (x.last + 1) runs (omega arith) in
    no_false (sym no ∙ same (x.last + 1) ∙ yes)

same_first : (x y : Span) (xs ys : List Span) → x.first ≤ x.last → y.first ≤ y.last → IsRunsFrom (x.last + 2) xs → IsRunsFrom (y.last + 2) ys
    → ((i : ℕ) → has (x ∷ xs) i ≡ has (y ∷ ys) i) → x.first ≡ y.first
same_first x y xs ys x_some y_some x_runs y_runs same = ⊎_elim
    (λ (lt : x.first < y.first). absurd (not_before x y xs ys x_some lt y_some y_runs same))
    (λ (le : y.first ≤ x.first). ⊎_elim
    (λ (lt : y.first < x.first). absurd (not_before y x ys xs y_some lt x_some x_runs (λ i. sym (same i))))
    (λ (le' : x.first ≤ y.first). omega (arith, le, le'))
    (cases_lt y.first x.first))
    (cases_lt x.first y.first)

same_last : (x y : Span) (xs ys : List Span) → x.first ≡ y.first → x.first ≤ x.last → y.first ≤ y.last → IsRunsFrom (x.last + 2) xs → IsRunsFrom (y.last + 2) ys
    → ((i : ℕ) → has (x ∷ xs) i ≡ has (y ∷ ys) i) → x.last ≡ y.last
same_last x y xs ys e x_some y_some x_runs y_runs same = ⊎_elim
    (λ (lt : x.last < y.last). absurd (not_shorter x y xs ys e x_some lt x_runs same))
    (λ (le : y.last ≤ x.last). ⊎_elim
    (λ (lt : y.last < x.last). absurd (not_shorter y x ys xs (sym e) y_some lt y_runs (λ i. sym (same i))))
    (λ (le' : x.last ≤ y.last). omega (arith, le, le'))
    (cases_lt y.last x.last))
    (cases_lt x.last y.last)

same_rest : (x y : Span) (xs ys : List Span) → x.last ≡ y.last → IsRunsFrom (x.last + 2) xs → IsRunsFrom (y.last + 2) ys
    → ((i : ℕ) → has (x ∷ xs) i ≡ has (y ∷ ys) i) → (i : ℕ) → has xs i ≡ has ys i
same_rest x y xs ys e x_runs y_runs same i = ⊎_elim
    (λ (lt : i < x.last + 2). none_below xs (x.last + 2) i x_runs lt ∙ sym (none_below ys (y.last + 2) i y_runs (omega (arith, e, lt))))
    (λ (le : x.last + 2 ≤ i).
    sym (ap (λ (b : Bool). b || has xs i) (within_past x i (omega (arith, le))))
    ∙ same i
    ∙ ap (λ (b : Bool). b || has ys i) (within_past y i (omega (arith, e, le))))
    (cases_lt i (x.last + 2))

runs_are_same : (xs ys : List Span) (from : ℕ) → IsRunsFrom from xs → IsRunsFrom from ys → ((i : ℕ) → has xs i ≡ has ys i) → xs ≡ ys
runs_are_same [] [] from x_runs y_runs same = refl
runs_are_same [] (y ∷ ys) from x_runs y_runs same =
    let yes : has (y ∷ ys) y.first ≡ true = ap (λ (b : Bool). b || has ys y.first) (within_from y y.first (omega arith) y_runs.1) in
    absurd (no_false (same y.first ∙ yes))
runs_are_same (x ∷ xs) [] from x_runs y_runs same =
    let yes : has (x ∷ xs) x.first ≡ true = ap (λ (b : Bool). b || has xs x.first) (within_from x x.first (omega arith) x_runs.1) in
    absurd (no_false (sym (same x.first) ∙ yes))
runs_are_same (x ∷ xs) (y ∷ ys) from x_runs y_runs same =
    let first : x.first ≡ y.first = same_first x y xs ys x_runs.1 y_runs.1 x_runs.2 y_runs.2 same in
    let last : x.last ≡ y.last = same_last x y xs ys first x_runs.1 y_runs.1 x_runs.2 y_runs.2 same in
    let rest : xs ≡ ys = runs_are_same xs ys (x.last + 2) x_runs.2 (subst (λ (n : ℕ). IsRunsFrom (n + 2) ys) (sym last) y_runs.2)
    (same_rest x y xs ys last x_runs.2 y_runs.2 same) in
    ap (λ (s : Span). s ∷ xs) (span_same x y first last) ∙ ap (λ (zs : List Span). y ∷ zs) rest

pub only_ranges : (set : List Bool) (ranges : List Span) → AreRanges set ranges → ranges ≡ ranges_of set
only_ranges set ranges are =
    runs_are_same ranges (ranges_of set) 0 are.runs (are_ranges set).runs (λ i. are.same i ∙ sym ((are_ranges set).same i))
