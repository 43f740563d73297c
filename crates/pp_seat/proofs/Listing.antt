-- Lists of requests against what is asked for.
use Rattle.std.proofs.Common.{◌≡◌, ◌⊎◌, inl, inr, ⊎_elim, ℕ, ◌+◌, ◌<◌, ◌≤◌, nat_lt, nat_le, eqb, Bool, true, false, cond, not, ◌&&◌, ◌||◌, Option, Some, None, List, ◌∷◌, length, sym, ◌∙◌, ap, arith}
use Rattle.std.specs.List.{list_any}
use Rattle.std.proofs.lemmas.Bool.{and_parts, and_from, or_cases, or_left, or_right, not-true, not_from_false, cases_Bool, cases_lt, false_from_ne_true, cond-false, le-ltb}
use Rattle.std.proofs.lemmas.Bool.Decides.{nat_tests}
use Rattle.pp_terms.specs.format.Messages.{Data, Request, Cancel}
use Rattle.pp_terms.specs.tree.Range.{Span, within, has, IsRunsFrom}
use Rattle.pp_ranges.specs.Edits.{inserted, removed, without_below}
use Rattle.pp_ranges.proofs.Runs.{inserted_has, removed_has, removed_runs}
use Rattle.pp_ranges.proofs.Lengths.{inserted_length, removed_few}
use Rattle.pp_ranges.proofs.Fronts.{one_removed, below_runs, below_has}
use Rattle.pp_requests.specs.Lists.{are_too_many, requested, cancelled, without}
use Rattle.pp_requests.proofs.Calls.{requested_runs, requested_has, cancelled_runs, cancelled_has}
use Rattle.pp_traffic.specs.Story.{Line, Heard, Said}
use Rattle.pp_traffic.specs.Asking.{choked, asked, asks_in}
use Rattle.pp_seat.specs.Lines.{asked_since}
use Rattle.pp_seat.specs.Aspects.{Lists, Lacks}
use Rattle.pp_seat.proofs.Spans.{IsPart, ordered, part_within, part_content}

-- ---- a REQUEST

pub requests_list : (chunks : ℕ) (span part : Span) (list : List Span) (story : List Line) (now : ℕ) → IsPart chunks span part
    → choked story ≡ false → length (requested part list) ≤ length list + 1
    → Lists chunks list (λ i. asked i story) (asks_in story)
    → Lists chunks (requested part list) (λ i. asked i (Heard now (Request span) ∷ story)) (asks_in story + 1)
requests_list chunks span part list story now p free more l =
    let few = l.few in
    record {
      runs = requested_runs part list (ordered chunks span part p) l.runs;
      inside = λ i e. ⊎_elim (λ here. part_content chunks span part i p here) (λ there. l.inside i there) (from i e);
      asked_for = λ i e. ⊎_elim
          (λ here. or_left (within span i && not (choked story)) (asked i story)
          (and_from (within span i) (not (choked story)) (sym (part_within chunks span part i p (part_content chunks span part i p here)) ∙ here) (not_from_false (choked story) free)))
          (λ there. or_right (within span i && not (choked story)) (asked i story) (l.asked_for i there))
          (from i e);
      few = omega arith;
    }
  where
    from : (i : ℕ) → has (requested part list) i ≡ true → (within part i ≡ true) ⊎ (has list i ≡ true)
    from i e = or_cases (within part i) (has list i) (requested_has part list i (ordered chunks span part p) l.runs e)

-- what was on the list stays, and the part joins it where there is room
requested_keeps : (part : Span) (list : List Span) (i : ℕ) (many : Bool) → has (inserted (Some part) list) i ≡ (within part i || has list i)
    → has list i ≡ true → has (cond many list (inserted (Some part) list)) i ≡ true
requested_keeps part list i true is on = on
requested_keeps part list i false is on = is ∙ or_right (within part i) (has list i) on

requested_adds : (part : Span) (list : List Span) (i : ℕ) → are_too_many (inserted (Some part) list) ≡ false
    → has (inserted (Some part) list) i ≡ (within part i || has list i) → within part i ≡ true → has (requested part list) i ≡ true
requested_adds part list i few is here =
    ap (λ (xs : List Span). has xs i) (cond-false (are_too_many (inserted (Some part) list)) list (inserted (Some part) list) few)
    ∙ is ∙ or_left (within part i) (has list i) here

pub requests_lacks : (chunks lost : ℕ) (since : ℕ → Option ℕ) (span part : Span) (list : List Span) (story : List Line) (now : ℕ)
    → IsPart chunks span part → Lists chunks list (λ i. asked i story) (asks_in story)
    → Lacks chunks lost since list (λ place i. asked_since place i story) (asks_in story)
    → Lacks chunks lost since (requested part list) (λ place i. asked_since place i (Heard now (Request span) ∷ story)) (asks_in story + 1)
requests_lacks chunks lost since span part list story now p l k = record {
  given = k.given;
  few = k.few;
  listed = λ i place few lt is e. ⊎_elim
      (λ here. inl (requested_adds part list i (room few) (joined i)
      (part_within chunks span part i p lt ∙ (and_parts (within span i) (not (choked story || nat_lt (length story) place)) here).0)))
      (λ there. ⊎_elim
      (λ on. inl (requested_keeps part list i (are_too_many (inserted (Some part) list)) (joined i) on))
      (λ gone. inr gone)
      (k.listed i place (omega arith) lt is there))
      (or_cases (within span i && not (choked story || nat_lt (length story) place)) (asked_since place i story) e);
}
  where
    joined : (i : ℕ) → has (inserted (Some part) list) i ≡ (within part i || has list i)
    joined i = inserted_has part list 0 i (ordered chunks span part p) l.runs

    room : asks_in story + 1 ≤ 64 → are_too_many (inserted (Some part) list) ≡ false
    room few =
        let more = inserted_length part list in
        let count = l.few in
        le-ltb 64 (length (inserted (Some part) list)) (omega arith)

-- ---- a CANCEL

pub cancels_list : (chunks : ℕ) (span part : Span) (list : List Span) (story : List Line) (now : ℕ) → IsPart chunks span part
    → length (cancelled part list) ≤ length list + 1 → Lists chunks list (λ i. asked i story) (asks_in story)
    → Lists chunks (cancelled part list) (λ i. asked i (Heard now (Cancel span) ∷ story)) (asks_in story + 1)
cancels_list chunks span part list story now p more l =
    let few = l.few in
    record {
      runs = cancelled_runs part list (ordered chunks span part p) l.runs;
      inside = λ i e. l.inside i (from i e).1;
      asked_for = λ i e.
          let x = from i e in
          and_from (not (within span i)) (asked i story)
          (ap (λ (b : Bool). not b) (sym (part_within chunks span part i p (l.inside i x.1))) ∙ x.0) (l.asked_for i x.1);
      few = omega arith;
    }
  where
    from : (i : ℕ) → has (cancelled part list) i ≡ true → (not (within part i) ≡ true) × (has list i ≡ true)
    from i e = and_parts (not (within part i)) (has list i) (cancelled_has part list i (ordered chunks span part p) l.runs e)

pub cancels_lacks : (chunks lost : ℕ) (since : ℕ → Option ℕ) (span part : Span) (list : List Span) (story : List Line) (now : ℕ)
    → IsPart chunks span part → Lists chunks list (λ i. asked i story) (asks_in story)
    → Lacks chunks lost since list (λ place i. asked_since place i story) (asks_in story)
    → Lacks chunks lost since (cancelled part list) (λ place i. asked_since place i (Heard now (Cancel span) ∷ story)) (asks_in story + 1)
cancels_lacks chunks lost since span part list story now p l k = record {
  given = k.given;
  few = k.few;
  listed = λ i place few lt is e.
      let x = and_parts (not (within span i)) (asked_since place i story) e in
      ⊎_elim (λ on. inl (stays few i (ap (λ (b : Bool). not b) (part_within chunks span part i p lt) ∙ x.0) on)) (λ gone. inr gone)
      (k.listed i place (omega arith) lt is x.1);
}
  where
    room : asks_in story + 1 ≤ 64 → are_too_many (removed part list) ≡ false
    room few =
        let more = removed_few part list 0 (ordered chunks span part p) l.runs in
        let count = l.few in
        le-ltb 64 (length (removed part list)) (omega arith)

    stays : asks_in story + 1 ≤ 64 → (i : ℕ) → not (within part i) ≡ true → has list i ≡ true → has (cancelled part list) i ≡ true
    stays few i out on =
        ap (λ (xs : List Span). has xs i) (cond-false (are_too_many (removed part list)) _ (removed part list) (room few))
        ∙ removed_has part list 0 i (ordered chunks span part p) l.runs ∙ and_from (not (within part i)) (has list i) out on

-- ---- a chunk leaves the list

without_other : (i j : ℕ) (list : List Span) → has list j ≡ true → (eqb j i ≡ false) → (not (eqb j i) && has list j) ≡ true
without_other i j list on other = and_from (not (eqb j i)) (has list j) (not_from_false (eqb j i) other) on

pub leaves_list : (chunks i : ℕ) (list : List Span) (before after : ℕ → Bool) (count : ℕ) → length (without i list) ≤ length list
    → ((j : ℕ) → eqb j i ≡ false → before j ≡ true → after j ≡ true) → Lists chunks list before count → Lists chunks (without i list) after count
leaves_list chunks i list before after count less keep l =
    let few = l.few in
    record {
      runs = removed_runs (record { first = i; last = i }) list 0 (omega arith) l.runs;
      inside = λ j e. l.inside j (from j e).1;
      asked_for = λ j e. let x = from j e in keep j (not-true (eqb j i) x.0) (l.asked_for j x.1);
      few = omega arith;
    }
  where
    from : (j : ℕ) → has (without i list) j ≡ true → (not (eqb j i) ≡ true) × (has list j ≡ true)
    from j e = and_parts (not (eqb j i)) (has list j) (sym (one_removed i list j l.runs) ∙ e)

-- the chunk is another one
off : (i j : ℕ) (list : List Span) → IsRunsFrom 0 list → has list j ≡ true → eqb j i ≡ false → has (without i list) j ≡ true
off i j list runs on other = one_removed i list j runs ∙ without_other i j list on other

other_way : (i j : ℕ) → not (eqb i j) ≡ true → eqb j i ≡ false
other_way i j e = grind (arith, nat_tests)

-- since it was sent
pub sends_lacks : (chunks lost i now sent_at : ℕ) (bytes : List ℕ) (since : ℕ → Option ℕ) (list : List Span) (story : List Line)
    → IsRunsFrom 0 list → Lacks chunks lost since list (λ place j. asked_since place j story) (asks_in story)
    → Lacks chunks lost since (without i list) (λ place j. asked_since place j (Said now (Data i sent_at bytes) ∷ story)) (asks_in story)
sends_lacks chunks lost i now sent_at bytes since list story runs k = record {
  given = k.given;
  few = k.few;
  listed = λ j place few lt is e.
      let x = and_parts (not (eqb i j)) (asked_since place j story) e in
      ⊎_elim (λ on. inl (off i j list runs on (other_way i j x.0))) (λ gone. inr gone) (k.listed j place few lt is x.1);
}

-- or it is given up
pub gives_lacks : (chunks lost i : ℕ) (since : ℕ → Option ℕ) (list : List Span) (are_asked : (place j : ℕ) → Bool) (count : ℕ) → IsRunsFrom 0 list
    → Lacks chunks lost since list are_asked count → Lacks chunks (lost + 1) since (without i list) are_asked count
gives_lacks chunks lost i since list are_asked count runs k = record {
  given = i ∷ k.given;
  few = (let few = k.few in omega arith);
  listed = λ j place few lt is e. ⊎_elim
      (λ on. ⊎_elim
      (λ same. inr (or_left (eqb i j) (list_any (λ n. eqb n j) k.given) same))
      (λ other. inl (off i j list runs on (other_way i j (not_from_false (eqb i j) other))))
      (cases_Bool (eqb i j)))
      (λ gone. inr (or_right (eqb i j) (list_any (λ n. eqb n j) k.given) gone))
      (k.listed j place few lt is e);
}

equal : (i j : ℕ) → eqb j i ≡ true → j ≡ i
equal i j e = grind (arith, nat_tests)

none_some : (x : ℕ) → None ≡ Some x → ⊥
none_some x e = cc

-- or it wasn't announced
pub passes_lacks : (chunks lost i : ℕ) (since : ℕ → Option ℕ) (list : List Span) (are_asked : (place j : ℕ) → Bool) (count : ℕ) → since i ≡ None
    → IsRunsFrom 0 list → Lacks chunks lost since list are_asked count → Lacks chunks lost since (without i list) are_asked count
passes_lacks chunks lost i since list are_asked count none runs k = record {
  given = k.given;
  few = k.few;
  listed = λ j place few lt is e. ⊎_elim
      (λ on. inl (off i j list runs on (false_from_ne_true (eqb j i)
      (λ same. none_some place (sym none ∙ ap since (sym (equal i j same)) ∙ is)))))
      (λ gone. inr gone)
      (k.listed j place few lt is e);
}

-- ---- those below one leave it

pub passes_list : (chunks i : ℕ) (list : List Span) (are_asked : ℕ → Bool) (count : ℕ) → length (without_below i list) ≤ length list
    → Lists chunks list are_asked count → Lists chunks (without_below i list) are_asked count
passes_list chunks i list are_asked count less l =
    let few = l.few in
    record {
      runs = below_runs i list 0 l.runs;
      inside = λ j e. l.inside j (from j e);
      asked_for = λ j e. l.asked_for j (from j e);
      few = omega arith;
    }
  where
    from : (j : ℕ) → has (without_below i list) j ≡ true → has list j ≡ true
    from j e = (and_parts (nat_le i j) (has list j) (sym (below_has i list 0 j l.runs) ∙ e)).1

-- none of which was announced
pub below_lacks : (chunks lost i : ℕ) (since : ℕ → Option ℕ) (list : List Span) (are_asked : (place j : ℕ) → Bool) (count : ℕ)
    → ((j : ℕ) → j < i → has list j ≡ true → since j ≡ None) → IsRunsFrom 0 list → Lacks chunks lost since list are_asked count
    → Lacks chunks lost since (without_below i list) are_asked count
below_lacks chunks lost i since list are_asked count none runs k = record {
  given = k.given;
  few = k.few;
  listed = λ j place few lt is e. ⊎_elim
      (λ on. inl (below_has i list 0 j runs ∙ and_from (nat_le i j) (has list j) (not_below j place is on) on))
      (λ gone. inr gone)
      (k.listed j place few lt is e);
}
  where
    not_below : (j place : ℕ) → since j ≡ Some place → has list j ≡ true → nat_le i j ≡ true
    not_below j place is on = ⊎_elim
        (λ (lt : j < i). absurd (none_some place (sym (none j lt on) ∙ is)))
        (λ (le : i ≤ j). grind (arith, nat_tests))
        (cases_lt j i)
