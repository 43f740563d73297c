-- The ranges of a set's numbers.
use Rattle.std.proofs.Common.{◌≡◌, ⊎_elim, ℕ, ◌+◌, ◌-◌, ◌<◌, ◌≤◌, Bool, true, false, ◌||◌, List, [], ◌∷◌, ◌++◌, length, get_or, codes, decimal, refl, sym, ◌∙◌, ap, subst, arith, append_assoc}
use Rattle.std.proofs.lemmas.Bool.{cases_lt, false≢true, false_from_ne_true}
use mathlib.Core.Bool.{beq}
use Rattle.std.specs.Prelude.{Result, Ok, Err, OnOk}
use Rattle.std.proofs.lemmas.List.{get_or_past, append-nil}
use Rattle.std.proofs.Math.Bool.{or-false, or_assoc}
use Rattle.pp_terms.specs.tree.Range.{Span, within, has, IsRunsFrom}
use Rattle.pp_terms.specs.command.Stream.{SinkState, Gains}
use Rattle.pp_terms.proofs.Within.{within_from, within_past}
use Rattle.pp_audit.proofs.ReportRanges.{within_low}
use Rattle.pp_node.specs.Held.{HasRanges, HasMore}
use Rattle.pp_terms.specs.command.Report.{span_text, more_text}
use Rattle.pp_stream.proofs.Written.{gains-nil, gains_more}

-- no range reaches the number before
abbrev pub AllEnd : ℕ → List Span → Type 0
AllEnd n [] = Unit {0}
AllEnd n (x ∷ xs) = (x.last + 2 ≤ n) × AllEnd n xs

all_end_later : (m n : ℕ) (xs : List Span) → m ≤ n → AllEnd m xs → AllEnd n xs
all_end_later m n [] le h = tt
all_end_later m n (x ∷ xs) le h = (omega (arith, h.0), all_end_later m n xs le h.1)

all_end_more : (n : ℕ) (xs : List Span) (x : Span) → AllEnd n xs → x.last + 2 ≤ n → AllEnd n (xs ++ x ∷ [])
all_end_more n [] x h last = (last, tt)
all_end_more n (y ∷ ys) x h last = (h.0, all_end_more n ys x h.1 last)

has_past : (n i : ℕ) (xs : List Span) → AllEnd (n + 1) xs → n ≤ i → has xs i ≡ false
has_past n i [] h le = refl
has_past n i (x ∷ xs) h le = let up = h.0 in rw (within_past x i (omega (arith, up))) (has_past n i xs h.1 le)

has_below : (from i : ℕ) (xs : List Span) → IsRunsFrom from xs → i < from → has xs i ≡ false
has_below from i [] h lt = refl
has_below from i (x ∷ xs) h lt =
    let at = h.0 in
    let up = h.1 in
    rw (within_low x i (omega (arith, at))) (has_below (x.last + 2) i xs h.2 (omega (arith, at, up)))

has_more : (xs : List Span) (x : Span) (i : ℕ) → has (xs ++ x ∷ []) i ≡ (has xs i || within x i)
has_more [] x i = or-false (within x i)
has_more (y ∷ ys) x i = ap (λ (b : Bool). within y i || b) (has_more ys x i) ∙ sym (or_assoc (within y i) (has ys i) (within x i))

runs_more : (from : ℕ) (xs : List Span) (x : Span) → IsRunsFrom from xs → from ≤ x.first → AllEnd x.first xs → x.first ≤ x.last → IsRunsFrom from (xs ++ x ∷ [])
runs_more from [] x h low ends order = (low, order, tt)
runs_more from (y ∷ ys) x h low ends order = (h.0, h.1, runs_more (y.last + 2) ys x h.2 ends.0 ends.1 order)

more_text_more : (xs : List Span) (x : Span) → more_text (xs ++ x ∷ []) ≡ more_text xs ++ (codes "," ++ span_text x)
more_text_more [] x = append-nil (codes "," ++ span_text x)
more_text_more (y ∷ ys) x =
    ap (λ (t : List ℕ). (codes "," ++ span_text y) ++ t) (more_text_more ys x) ∙ sym (append_assoc (codes "," ++ span_text y) (more_text ys) (codes "," ++ span_text x))

abbrev from_to : ℕ → ℕ → Span
from_to first end = record { first = first; last = end - 1 }

-- the ranges up to a number, as the sink gained them
pub record IsPut (set : List Bool) (from end : ℕ) (old new : SinkState) : Type 0 where
  pub ranges : List Span
  pub runs : IsRunsFrom (from + 1) ranges
  pub ends : AllEnd (end + 1) ranges
  pub same : (i : ℕ) → from ≤ i → i < end → has ranges i ≡ get_or set i false
  pub free : end < length set → get_or set end false ≡ false
  pub low : from ≤ end
  pub within : end ≤ length set
  pub gained : Gains old.taken (more_text ranges) new.taken
  pub later : old.faults ≤ new.faults

pub put_none : (set : List Bool) (from : ℕ) (state : SinkState) → from ≤ length set → (from < length set → get_or set from false ≡ false) → IsPut set from from state state
put_none set from state within free = record {
  ranges = [];
  runs = tt;
  ends = tt;
  same = λ i low lt. absurd (omega arith);
  free = free;
  low = omega arith;
  within = within;
  gained = gains-nil state.taken;
  later = omega arith;
}

is_true : (b : Bool) → (b ≡ false → ⊥) → b ≡ true
is_true true not = refl
is_true false not = absurd (not refl)

pub above_end : (set : List Bool) (end first : ℕ) → (end < length set → get_or set end false ≡ false) → end ≤ first → first < length set → get_or set first false ≡ true → end < first
above_end set end first free low within held = ⊎_elim (λ lt. lt) (λ ge.
    let e : first ≡ end = omega (arith, ge) in
    absurd (false≢true (sym (free (omega arith)) ∙ ap (λ (k : ℕ). get_or set k false) (sym e) ∙ held))) (cases_lt end first)

module _ (set : List Bool) (from end first next : ℕ) (old mid new : SinkState) (put : IsPut set from end old mid)
    (low : end ≤ first) (within_first : first < length set)
    (unheld : (k : ℕ) → end ≤ k → k < first → get_or set k false ≡ true → ⊥)
    (held_first : get_or set first false ≡ true)
    (order : first < next)
    (within_next : next ≤ length set)
    (held : (k : ℕ) → first ≤ k → k < next → get_or set k false ≡ false → ⊥)
    (free_next : next < length set → get_or set next false ≡ false)
    (later : mid.faults ≤ new.faults)
    (gained : Gains mid.taken (codes "," ++ decimal first ++ codes "-" ++ decimal (next - 1)) new.taken) where
  above : end < first
  above = above_end set end first put.free low within_first held_first

  same_now : (i : ℕ) → from ≤ i → i < next → has (put.ranges ++ (from_to first next) ∷ []) i ≡ get_or set i false
  same_now i from_low lt = has_more put.ranges (from_to first next) i ∙ ⊎_elim
      (λ (below : i < end). ap (λ (b : Bool). has put.ranges i || b) (within_low (from_to first next) i (omega (arith, above))) ∙ or-false (has put.ranges i) ∙ put.same i from_low below)
      (λ past. let none : has put.ranges i ≡ false = has_past end i put.ranges put.ends past in
      ap (λ (b : Bool). b || within (from_to first next) i) none ∙ ⊎_elim
      (λ (between : i < first). within_low (from_to first next) i between ∙ sym (false_from_ne_true (get_or set i false) (unheld i past between)))
      (λ on. within_from (from_to first next) i on (omega arith) ∙ sym (is_true (get_or set i false) (held i on lt)))
      (cases_lt i first))
      (cases_lt i end)

  pub put_one : IsPut set from next old new
  put_one = record {
    ranges = put.ranges ++ (from_to first next) ∷ [];
    runs = let from_low = put.low in runs_more (from + 1) put.ranges (from_to first next) put.runs (omega (arith, above, from_low)) (all_end_later (end + 1) first put.ranges (omega (arith, above)) put.ends) (omega arith);
    ends = all_end_more (next + 1) put.ranges (from_to first next) (all_end_later (end + 1) (next + 1) put.ranges (omega (arith, above)) put.ends) (omega arith);
    same = same_now;
    free = free_next;
    low = let from_low = put.low in omega arith;
    within = within_next;
    gained = subst (λ (t : List ℕ). Gains old.taken t new.taken) (sym (more_text_more put.ranges (from_to first next)))
        (gains_more old.taken mid.taken new.taken (more_text put.ranges) (codes "," ++ span_text (from_to first next)) put.gained gained);
    later = let before = put.later in omega arith;
  }

pub put_all_of : (set : List Bool) (from end : ℕ) (old new : SinkState) → IsPut set from end old new
    → ((k : ℕ) → end ≤ k → k < length set → get_or set k false ≡ true → ⊥) → HasMore set from old new
put_all_of set from end old new put none = record {
  ranges = put.ranges;
  runs = put.runs;
  same = λ i low. ⊎_elim (λ (below : i < end). put.same i low below)
      (λ past. has_past end i put.ranges put.ends past ∙ ⊎_elim (λ (lt : i < length set). sym (false_from_ne_true (get_or set i false) (none i past lt))) (λ out. sym (get_or_past set i false out)) (cases_lt i (length set)))
      (cases_lt i end);
  gained = put.gained;
}

pub no_ranges : (set : List Bool) (old new : SinkState) → ((k : ℕ) → 0 ≤ k → k < length set → get_or set k false ≡ true → ⊥)
    → Gains old.taken (codes "none") new.taken → HasRanges set old new
no_ranges set old new none gained = record {
  ranges = [];
  are = record {
    runs = tt;
    same = λ i. ⊎_elim (λ (lt : i < length set). sym (false_from_ne_true (get_or set i false) (none i (omega arith) lt))) (λ out. sym (get_or_past set i false out)) (cases_lt i (length set));
  };
  gained = gained;
}

pub all_ranges : (set : List Bool) (first end : ℕ) (old mid new : SinkState)
    → ((k : ℕ) → 0 ≤ k → k < first → get_or set k false ≡ true → ⊥)
    → first < end
    → ((k : ℕ) → first ≤ k → k < end → get_or set k false ≡ false → ⊥)
    → Gains old.taken (decimal first ++ codes "-" ++ decimal (end - 1)) mid.taken
    → HasMore set end mid new → HasRanges set old new
all_ranges set first end old mid new unheld order held one more = record {
  ranges = (from_to first end) ∷ more.ranges;
  are = record {
    runs = (omega arith, omega arith, subst (λ (n : ℕ). IsRunsFrom n more.ranges) (omega arith) more.runs);
    same = same_at;
  };
  gained = gains_more old.taken mid.taken new.taken (span_text (from_to first end)) (more_text more.ranges) one more.gained;
}
  where
    same_at : (i : ℕ) → (within (from_to first end) i || has more.ranges i) ≡ get_or set i false
    same_at i = ⊎_elim
        (λ (below : i < end). ap (λ (b : Bool). within (from_to first end) i || b) (has_below (end + 1) i more.ranges more.runs (omega arith)) ∙ or-false (within (from_to first end) i) ∙ ⊎_elim
        (λ (before : i < first). within_low (from_to first end) i before ∙ sym (false_from_ne_true (get_or set i false) (unheld i (omega arith) before)))
        (λ on. within_from (from_to first end) i on (omega arith) ∙ sym (is_true (get_or set i false) (held i on below)))
        (cases_lt i first))
        (λ past. ap (λ (b : Bool). b || has more.ranges i) (within_past (from_to first end) i (omega arith)) ∙ more.same i past)
        (cases_lt i end)

pub all_ranges_of : {T E : Type 0} (set : List Bool) (first end : ℕ) (old mid new : SinkState) (result : Result T E)
    → ((k : ℕ) → 0 ≤ k → k < first → get_or set k false ≡ true → ⊥)
    → first < end
    → ((k : ℕ) → first ≤ k → k < end → get_or set k false ≡ false → ⊥)
    → Gains old.taken (decimal first ++ codes "-" ++ decimal (end - 1)) mid.taken
    → OnOk result (HasMore set end mid new) → OnOk result (HasRanges set old new)
all_ranges_of set first end old mid new (Ok x) unheld order held one more = all_ranges set first end old mid new unheld order held one more
all_ranges_of set first end old mid new (Err e) unheld order held one more = tt

-- behind a number of the set is one that isn't in it
pub beyond : (set : List Bool) (first next : ℕ) → first ≤ next → next ≤ length set → first < length set → get_or set first false ≡ true
    → (next < length set → get_or set next false ≡ false) → first < next
beyond set first next low up within held free = ⊎_elim (λ lt. lt) (λ ge.
    let e : next ≡ first = omega (arith, ge) in
    absurd (false≢true (sym (free (omega arith)) ∙ ap (λ (k : ℕ). get_or set k false) e ∙ held))) (cases_lt first next)

beq_same : (a b : Bool) → a ≡ b → beq a b ≡ true
beq_same true b e = subst (λ (x : Bool). beq true x ≡ true) e refl
beq_same false b e = subst (λ (x : Bool). beq false x ≡ true) e refl

-- one number more that isn't looked for
pub one_more_not : (set : List Bool) (held found : Bool) (from i : ℕ) → found ≡ get_or set i false → beq found held ≡ false
    → ((k : ℕ) → from ≤ k → k < i → get_or set k false ≡ held → ⊥) → (k : ℕ) → from ≤ k → k < i + 1 → get_or set k false ≡ held → ⊥
one_more_not set held found from i is other before k low lt same = ⊎_elim (λ (below : k < i). before k low below same) (λ on.
    let e : k ≡ i = omega (arith, on) in
    absurd (false≢true (sym other ∙ beq_same found held (is ∙ ap (λ (n : ℕ). get_or set n false) (sym e) ∙ same)))) (cases_lt k i)

pub no_ranges_of : {T E : Type 0} (set : List Bool) (old new : SinkState) (result : Result T E) → ((k : ℕ) → 0 ≤ k → k < length set → get_or set k false ≡ true → ⊥)
    → OnOk result (Gains old.taken (codes "none") new.taken) → OnOk result (HasRanges set old new)
no_ranges_of set old new (Ok x) none gained = no_ranges set old new none gained
no_ranges_of set old new (Err e) none gained = tt
