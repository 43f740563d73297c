-- Awaited chunks that were committed.
use Rattle.std.proofs.Common.{◌≡◌, ◌⊎◌, inl, inr, ℕ, ◌+◌, ◌<◌, ◌≤◌, Bool, true, false, cond, ◌&&◌, ◌||◌, ◌==◌, is_some, Some, None, Result, Ok, Err, List, [], ◌∷◌, ◌++◌, length, take, get_or, refl, sym, ◌∙◌, ap, arith}
use Rattle.std.specs.Prelude.{OnOk, OnErr}
use Rattle.std.proofs.lemmas.List.{take_more, take_all}
use Rattle.std.proofs.lemmas.Bool.{cases_eq, eq-eqb, ne_eqb, and_right}
use Rattle.std.proofs.lemmas.Bool.Decides.{nat_tests}
use Rattle.pp_terms.specs.tree.Range.{Span, within, has}
use Rattle.pp_ranges.specs.Edits.{inserted}
use Rattle.pp_ranges.proofs.Lengths.{inserted_length}
use Rattle.pp_requests.specs.declared.asking.Asking.{Asking}
use Rattle.pp_requests.specs.Moments.{asked_at}

-- the chunk is asked for and committed
abbrev pub is_both : List Asking → List Bool → ℕ → Bool
is_both own committed i = is_some (asked_at own i) && get_or committed i false

asked-append : (own : List Asking) (x : Asking) (i : ℕ) → is_some (asked_at (own ++ x ∷ []) i) ≡ (x.chunk == i || is_some (asked_at own i))
asked-append [] x i = by (x.chunk == i)
  where
    by : (b : Bool) → is_some (cond b (Some x.moment) None) ≡ (b || false)
    by true = refl
    by false = refl
asked-append (y ∷ own) x i = by (y.chunk == i) (x.chunk == i) (asked-append own x i)
  where
    by : (b c : Bool) → is_some (asked_at (own ++ x ∷ []) i) ≡ (c || is_some (asked_at own i))
        → is_some (cond b (Some y.moment) (asked_at (own ++ x ∷ []) i)) ≡ (c || is_some (cond b (Some y.moment) (asked_at own i)))
    by true true h = refl
    by true false h = refl
    by false c h = h

pub both_none : (own : List Asking) (committed : List Bool) (i : ℕ) → has [] i ≡ is_both (take 0 own) committed i
both_none [] committed i = refl
both_none (x ∷ own) committed i = refl

-- an awaited chunk more is among the ranges where it was committed
pub both_more : (own : List Asking) (committed : List Bool) (k : ℕ) (x : Asking) (ranges new : List Span) → k < length own
    → ((i : ℕ) → has ranges i ≡ is_both (take k own) committed i)
    → ((get_or committed (get_or own k x).chunk false ≡ true) × ((i : ℕ) → has new i ≡ (i == (get_or own k x).chunk || has ranges i)))
    ⊎ ((get_or committed (get_or own k x).chunk false ≡ false) × (new ≡ ranges))
    → (i : ℕ) → has new i ≡ is_both (take (k + 1) own) committed i
both_more own committed k x ranges new lt so_far step i =
    by step (cases_eq i y.chunk)
    ∙ ap (λ (b : Bool). b && get_or committed i false) (sym (ap (λ (ys : List Asking). is_some (asked_at ys i)) (take_more own k x lt) ∙ asked-append (take k own) y i))
  where
    y : Asking
    y = get_or own k x

    old : Bool
    old = is_some (asked_at (take k own) i)

    swapped : (i ≡ y.chunk → ⊥) → y.chunk == i ≡ false
    swapped other = ne_eqb y.chunk i (λ e. other (sym e))

    by : ((get_or committed y.chunk false ≡ true) × ((j : ℕ) → has new j ≡ (j == y.chunk || has ranges j))) ⊎ ((get_or committed y.chunk false ≡ false) × (new ≡ ranges))
        → (i ≡ y.chunk) ⊎ (i ≡ y.chunk → ⊥) → has new i ≡ ((y.chunk == i || old) && get_or committed i false)
    by (inl (is, each)) (inl same) =
        each i ∙ ap (λ (b : Bool). b || has ranges i) (eq-eqb i y.chunk same)
        ∙ sym (ap (λ (b : Bool). (b || old) && get_or committed i false) (eq-eqb y.chunk i (sym same)) ∙ ap (λ (n : ℕ). get_or committed n false) same ∙ is)
    by (inl (is, each)) (inr other) =
        each i ∙ ap (λ (b : Bool). b || has ranges i) (ne_eqb i y.chunk other) ∙ so_far i
        ∙ ap (λ (b : Bool). (b || old) && get_or committed i false) (sym (swapped other))
    by (inr (none, kept)) (inl same) =
        let out : get_or committed i false ≡ false = ap (λ (n : ℕ). get_or committed n false) same ∙ none in
        ap (λ (xs : List Span). has xs i) kept ∙ so_far i ∙ and_right old (get_or committed i false) out
        ∙ sym (and_right (y.chunk == i || old) (get_or committed i false) out)
    by (inr (none, kept)) (inr other) =
        ap (λ (xs : List Span). has xs i) kept ∙ so_far i ∙ ap (λ (b : Bool). (b || old) && get_or committed i false) (sym (swapped other))

pub both_all : (own : List Asking) (committed : List Bool) (k : ℕ) (ranges : List Span) → length own ≤ k
    → ((i : ℕ) → has ranges i ≡ is_both (take k own) committed i) → (i : ℕ) → has ranges i ≡ is_both own committed i
both_all own committed k ranges all so_far i = so_far i ∙ ap (λ (ys : List Asking). is_both ys committed i) (take_all k own all)

-- a chunk more, for which there is room
pub one_more : {T E : Type 0} (r : Result T E) (old new : List Span) (i : ℕ) (range : Span) → length old < 64 → range ≡ record { first = i; last = i }
    → OnOk r ((j : ℕ) → has new j ≡ (within range j || has old j)) → OnErr r (64 < length (inserted (Some range) old))
    → (j : ℕ) → has new j ≡ (j == i || has old j)
one_more (Ok x) old new i range room is put many j = put j ∙ ap (λ (b : Bool). b || has old j) (ap (λ (s : Span). within s j) is ∙ alone i j)
  where
    alone : (i j : ℕ) → within (record { first = i; last = i }) j ≡ (j == i)
    alone i j = grind (arith, nat_tests)
one_more (Err e) old new i range room is put many j = absurd (omega (arith, room, many, inserted_length range old))
