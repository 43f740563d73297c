-- Chunks that are picked one after the other.
use Rattle.std.proofs.Common.{◌≡◌, ◌⊎◌, inl, inr, ⊎_elim, ℕ, ◌+◌, ◌-◌, ◌<◌, ◌≤◌, eqb, nat_lt, Bool, true, false, not, ◌&&◌, ◌||◌, Some, None, List, [], ◌∷◌, ◌++◌, length, get_or, set, refl, sym, ◌∙◌, ap, subst, arith, length-append}
use Rattle.std.specs.List.{list_any}
use Rattle.std.proofs.lemmas.Bool.{or_parts, or_right, not-true, cases_eq, and_parts, and_from, ltb-true, false≢true, eq-eqb}
use Rattle.std.proofs.lemmas.Bool.Decides.{nat_tests}
use Rattle.std.proofs.lemmas.List.{get_or-set_same, get_or-set_other}
use Rattle.std.proofs.Math.Bool.{or-false}
use Rattle.pp_ranges.proofs.Runs.{or_swap}
use Rattle.pp_terms.specs.tree.Range.{Span, has, IsRunsFrom}
use Rattle.pp_ranges.specs.Edits.{number_count}
use Rattle.pp_avail.specs.declared.ranker.Rank.{Rank}
use Rattle.pp_avail.specs.Offers as offers
use Rattle.pp_wanting.specs.Wants.{is_wanted, is_for}
use Rattle.pp_fetching.specs.Fetching.{FetchState, IsOnContent, with_asked, with_request, IsNextOf, PicksInTurn, HasPicked, ArePicked}

-- the chunks were picked one after the other, and more may be
abbrev pub AreTaken : Rank → ℕ → FetchState → List ℕ → FetchState → Type 0
AreTaken kind seat old [] now = now ≡ old
AreTaken kind seat old (i ∷ rest) now = IsNextOf kind seat old (Some i) × AreTaken kind seat (with_request i old) rest now

taken_more : (kind : Rank) (seat : ℕ) (old now new : FetchState) (picks : List ℕ) (i : ℕ) → AreTaken kind seat old picks now
    → IsNextOf kind seat now (Some i) → new ≡ with_request i now → AreTaken kind seat old (picks ++ i ∷ []) new
taken_more kind seat old now new [] i taken next is =
    (subst (λ (s : FetchState). IsNextOf kind seat s (Some i)) taken next, is ∙ ap (λ (s : FetchState). with_request i s) taken)
taken_more kind seat old now new (k ∷ rest) i taken next is = (taken.0, taken_more kind seat (with_request k old) now new rest i taken.1 next is)

taken_in_turn : (kind : Rank) (seat room : ℕ) (old now : FetchState) (picks : List ℕ) → AreTaken kind seat old picks now → length picks ≤ room
    → (length picks ≡ room) ⊎ IsNextOf kind seat now None → PicksInTurn kind seat room old picks now
taken_in_turn kind seat room old now [] taken few (inl full) = (taken, inl (omega arith))
taken_in_turn kind seat room old now [] taken few (inr none) = (taken, inr (subst (λ (s : FetchState). IsNextOf kind seat s None) taken none))
taken_in_turn kind seat room old now (i ∷ rest) taken few (inl full) =
    (omega arith, taken.0, taken_in_turn kind seat (room - 1) (with_request i old) now rest taken.1 (omega arith) (inl (omega arith)))
taken_in_turn kind seat room old now (i ∷ rest) taken few (inr none) =
    (omega arith, taken.0, taken_in_turn kind seat (room - 1) (with_request i old) now rest taken.1 (omega arith) (inr none))

any_append : (xs : List ℕ) (x i : ℕ) → list_any (λ k. eqb k i) (xs ++ x ∷ []) ≡ (eqb x i || list_any (λ k. eqb k i) xs)
any_append [] x i = refl
any_append (y ∷ ys) x i = ap (λ (b : Bool). eqb y i || b) (any_append ys x i) ∙ or_swap (eqb y i) (eqb x i) (list_any (λ k. eqb k i) ys)

-- ---- the next chunk of a seat

pub record IsFreshNext (seat i : ℕ) (old : FetchState) (asked : List Bool) : Type 0 where
  pub inside : i < length old.want.had
  pub free : get_or asked i false ≡ false
  pub whenever : get_or old.want.asked i false ≡ false → is_for old.want old.offers seat i ≡ true

pub fresh_next : (kind : Rank) (seat i : ℕ) (old : FetchState) (asked : List Bool) → IsNextOf kind seat (with_asked asked old) (Some i)
    → IsFreshNext seat i old asked
fresh_next kind seat i old asked next =
    let len = nat_lt i (length old.want.had) in
    let low = nat_lt i old.want.limit in
    let missing = not (get_or old.want.had i false) in
    let free = not (get_or asked i false) in
    let given = offers.has old.offers seat i in
    let all = and_parts (is_wanted (with_asked asked old).want i) given next.0 in
    let parts = and_four len low missing free all.0 in
    record {
      inside = ltb-true i (length old.want.had) parts.0;
      free = not-true (get_or asked i false) parts.3;
      whenever = λ none. and_from (is_wanted old.want i) given
          (four_and len low missing (not (get_or old.want.asked i false)) parts.0 parts.1 parts.2 (ap (λ (b : Bool). not b) none)) all.1;
    }
  where
    and_four : (a b c d : Bool) → (a && b && c && d) ≡ true → (a ≡ true) × (b ≡ true) × (c ≡ true) × (d ≡ true)
    and_four true true true true e = (refl, refl, refl, refl)
    and_four true true true false e = absurd (false≢true e)
    and_four true true false d e = absurd (false≢true e)
    and_four true false c d e = absurd (false≢true e)
    and_four false b c d e = absurd (false≢true e)

    four_and : (a b c d : Bool) → a ≡ true → b ≡ true → c ≡ true → d ≡ true → (a && b && c && d) ≡ true
    four_and true true true true p q r s = refl
    four_and true true true false p q r s = s
    four_and true true false d p q r s = r
    four_and true false c d p q r s = q
    four_and false b c d p q r s = p

-- ---- one turn of the loop

-- the chunks picked so far
pub record IsPickedTo (kind : Rank) (seat n : ℕ) (old : FetchState) (ranges : List Span) (now : FetchState) : Type 0 where
  pub picks : List ℕ
  pub taken : AreTaken kind seat old picks now
  pub long : length picks ≡ n
  pub each : (i : ℕ) → has ranges i ≡ list_any (λ k. eqb k i) picks
  pub count : number_count ranges ≡ length picks
  pub short : length ranges ≤ n
  pub picked : ArePicked seat n old ranges now

pub picked_none : (kind : Rank) (seat n : ℕ) (old : FetchState) (ranges : List Span) → n ≡ 0 → ranges ≡ []
    → IsPickedTo kind seat n old ranges old
picked_none kind seat n old ranges zero_is none = record {
  picks = [];
  taken = refl;
  long = sym zero_is;
  each = λ i. nothing i;
  count = ap (λ (xs : List Span). number_count xs) none;
  short = (let e = ap (λ (xs : List Span). length xs) none in omega arith);
  picked = record {
    wanted = λ i is. absurd (false≢true (sym (nothing i) ∙ is));
    inside = λ i is. absurd (false≢true (sym (nothing i) ∙ is));
    fresh = λ i is. absurd (false≢true (sym (nothing i) ∙ is));
    asked = λ i. sym (or-false (get_or old.want.asked i false)) ∙ ap (λ (b : Bool). get_or old.want.asked i false || b) (sym (nothing i));
    few = (let e = ap (λ (xs : List Span). number_count xs) none in omega arith);
    runs = subst (λ (xs : List Span). IsRunsFrom 0 xs) (sym none) tt;
    rest = refl;
  };
}
  where
    nothing : (i : ℕ) → has ranges i ≡ false
    nothing i = ap (λ (xs : List Span). has xs i) none

-- the next chunk, where some were picked
pub next_after : (kind : Rank) (seat n i : ℕ) (old : FetchState) (ranges : List Span) (now : FetchState) → IsPickedTo kind seat n old ranges now
    → IsNextOf kind seat now (Some i) → IsFreshNext seat i old now.want.asked × (has ranges i ≡ false)
next_after kind seat n i old ranges now so_far next =
    let fresh = fresh_next kind seat i old now.want.asked (subst (λ (s : FetchState). IsNextOf kind seat s (Some i)) so_far.picked.rest next) in
    (fresh, (or_parts (get_or old.want.asked i false) (has ranges i) (sym (so_far.picked.asked i) ∙ fresh.free)).1)

-- what putting a chunk into the list does
pub record HasPut (i : ℕ) (old new : List Span) : Type 0 where
  pub each : (k : ℕ) → has new k ≡ (eqb i k || has old k)
  pub count : number_count new ≡ number_count old + 1
  pub runs : IsRunsFrom 0 new
  pub few : length new ≤ length old + 1

pub picked_more : (kind : Rank) (seat n i : ℕ) (old : FetchState) (ranges : List Span) (now : FetchState) (ranges' : List Span) (new : FetchState)
    → IsPickedTo kind seat n old ranges now → IsOnContent now → IsNextOf kind seat now (Some i) → new ≡ with_request i now → HasPut i ranges ranges'
    → IsPickedTo kind seat (n + 1) old ranges' new
picked_more kind seat n i old ranges now ranges' new so_far content next is put =
    let after = next_after kind seat n i old ranges now so_far next in
    let len = so_far.long in
    let count = so_far.count in
    let was_short = so_far.short in
    let one_put = put.count in
    let few_put = put.few in
    let was_few = so_far.picked.few in
    record {
      picks = so_far.picks ++ i ∷ [];
      taken = taken_more kind seat old now new so_far.picks i so_far.taken next is;
      long = (let e = length-append so_far.picks (i ∷ []) in omega arith);
      each = λ k. put.each k ∙ ap (λ (b : Bool). eqb i k || b) (so_far.each k) ∙ sym (any_append so_far.picks i k);
      count = (let e = length-append so_far.picks (i ∷ []) in omega arith);
      short = omega arith;
      picked = record {
        wanted = λ k there. either k (is_for old.want old.offers seat k) there (λ same. wanted_here k same) (so_far.picked.wanted k);
        inside = λ k there. inside_either k there;
        fresh = λ k there. fresh_either k there;
        asked = λ k. ap (λ (s : FetchState). get_or s.want.asked k false) is ∙ noted k (cases_eq i k);
        few = omega arith;
        runs = put.runs;
        rest = is ∙ with_more ∙ ap (λ (s : FetchState). with_asked s.want.asked old) (sym is);
      };
    }
  where
    fresh_i : IsFreshNext seat i old now.want.asked × (has ranges i ≡ false)
    fresh_i = next_after kind seat n i old ranges now so_far next

    free_before : get_or old.want.asked i false ≡ false
    free_before = (or_parts (get_or old.want.asked i false) (has ranges i) (sym (so_far.picked.asked i) ∙ fresh_i.0.free)).0

    cases : (k : ℕ) → has ranges' k ≡ true → (i ≡ k) ⊎ (has ranges k ≡ true)
    cases k there = ⊎_elim
        (λ same. inl same)
        (λ other.
        let none : eqb i k ≡ false = grind (arith, nat_tests) in
        inr (sym (put.each k ∙ ap (λ (b : Bool). b || has ranges k) none) ∙ there))
        (cases_eq i k)

    either : (k : ℕ) (b : Bool) → has ranges' k ≡ true → (i ≡ k → b ≡ true) → (has ranges k ≡ true → b ≡ true) → b ≡ true
    either k b there here before = ⊎_elim here before (cases k there)

    wanted_here : (k : ℕ) → i ≡ k → is_for old.want old.offers seat k ≡ true
    wanted_here k same = ap (λ (m : ℕ). is_for old.want old.offers seat m) (sym same) ∙ fresh_i.0.whenever free_before

    inside_either : (k : ℕ) → has ranges' k ≡ true → k < length old.want.had
    inside_either k there = ⊎_elim
        (λ (same : i ≡ k). let low = fresh_i.0.inside in omega arith)
        (λ before. so_far.picked.inside k before)
        (cases k there)

    fresh_either : (k : ℕ) → has ranges' k ≡ true → get_or old.want.asked k false ≡ false
    fresh_either k there = ⊎_elim
        (λ (same : i ≡ k). ap (λ (m : ℕ). get_or old.want.asked m false) (sym same) ∙ free_before)
        (λ before. so_far.picked.fresh k before)
        (cases k there)

    within_asked : i < length now.want.asked
    within_asked =
        let low = fresh_i.0.inside in
        let size = content.asked in
        let same = ap (λ (s : FetchState). length s.want.had) so_far.picked.rest in
        omega arith

    noted : (k : ℕ) → (i ≡ k) ⊎ (i ≡ k → ⊥) → get_or (set now.want.asked i true) k false ≡ (get_or old.want.asked k false || has ranges' k)
    noted k (inl same) =
        ap (λ (m : ℕ). get_or (set now.want.asked i true) m false) (sym same) ∙ get_or-set_same now.want.asked i true false within_asked
        ∙ sym (or_right (get_or old.want.asked k false) (has ranges' k) (put.each k ∙ ap (λ (b : Bool). b || has ranges k) (eq-eqb i k same)))
    noted k (inr other) =
        let ne : k ≡ i → ⊥ = λ e. other (sym e) in
        let none : eqb i k ≡ false = grind (arith, nat_tests) in
        get_or-set_other now.want.asked i k true false ne ∙ so_far.picked.asked k
        ∙ ap (λ (b : Bool). get_or old.want.asked k false || b) (sym (put.each k ∙ ap (λ (b : Bool). b || has ranges k) none))

    with_more : with_request i now ≡ with_asked (with_request i now).want.asked old
    with_more = ap (λ (s : FetchState). with_asked (set now.want.asked i true) s) so_far.picked.rest

-- ---- the end of the loop

few_more : (seat n room : ℕ) (old : FetchState) (ranges : List Span) (now : FetchState) → n ≤ room → ArePicked seat n old ranges now
    → ArePicked seat room old ranges now
few_more seat n room old ranges now le h = record {
  wanted = h.wanted;
  inside = h.inside;
  fresh = h.fresh;
  asked = h.asked;
  few = (let few = h.few in omega arith);
  runs = h.runs;
  rest = h.rest;
}

pub picked_all : (kind : Rank) (seat n room : ℕ) (old : FetchState) (ranges : List Span) (now : FetchState) → IsPickedTo kind seat n old ranges now
    → n ≤ room → (n ≡ room) ⊎ IsNextOf kind seat now None → HasPicked kind seat room old ranges now × ArePicked seat room old ranges now
picked_all kind seat n room old ranges now so_far le ends = (
  record {
    picks = so_far.picks;
    in_turn = taken_in_turn kind seat room old now so_far.picks so_far.taken (let long = so_far.long in omega arith)
        (⊎_elim (λ (full : n ≡ room). inl (so_far.long ∙ full)) (λ none. inr none) ends);
    each = so_far.each;
    count = so_far.count;
  },
  few_more seat n room old ranges now le so_far.picked,
)

-- there was no next chunk
pub picked_till_none : (kind : Rank) (seat n room : ℕ) (old : FetchState) (ranges : List Span) (now new : FetchState)
    → IsPickedTo kind seat n old ranges now → n ≤ room → IsNextOf kind seat now None → new ≡ now
    → HasPicked kind seat room old ranges new × ArePicked seat room old ranges new
picked_till_none kind seat n room old ranges now new so_far le none same =
    subst (λ (s : FetchState). HasPicked kind seat room old ranges s × ArePicked seat room old ranges s) (sym same)
    (picked_all kind seat n room old ranges now so_far le (inr none))
