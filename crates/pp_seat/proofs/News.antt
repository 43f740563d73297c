-- What a turn tells that is new.
use Rattle.std.proofs.Common.{◌≡◌, ◌⊎◌, inl, inr, ⊎_elim, subst, ℕ, zero, suc, ◌+◌, ◌<◌, ◌≤◌, nat_le, Bool, true, cond, not, ◌&&◌, ◌||◌, List, [], ◌∷◌, ap, sym, refl, ◌∙◌, arith}
use Rattle.std.specs.List.{list_any, count_by, range_with_len}
use Rattle.std.proofs.lemmas.Bool.{and_from, and_parts, le-leb, leb-true, or_left, or_right, or_cases, cases_lt, both_ways}
use Rattle.std.proofs.lemmas.List.Sums.{sum_by-cons}
use Rattle.pp_terms.specs.format.Traffic.{Record, Received, Quiet, Sent}
use Rattle.pp_terms.specs.format.Descriptor.{Descriptor, chunks_of}
use Rattle.pp_terms.specs.tree.Range.{Span, within, has, IsRunsFrom}
use Rattle.pp_traffic.specs.Life.{Life}
use Rattle.pp_ranges.specs.Edits.{number_count}
use Rattle.pp_ranges.proofs.Runs.{runs_weaken, none_below}
use Rattle.pp_traffic.specs.Plain.{IsPlainNow}
use Rattle.pp_traffic.specs.Story.{Line, story}
use Rattle.pp_terms.specs.disk.Disk.{History}
use Rattle.pp_promises.proofs.ReadStories.{plains_are_read}
use Rattle.pp_promises.specs.LastTurn.{sent_since, earlier}
use Rattle.pp_promises.specs.Announced.{tells_of, was_told_of, is_new, fewest_new, new_count, IsKnownOf, is_told_of}
use Rattle.pp_seat.specs.Lines.{Tale}
use Rattle.pp_seat.specs.Seats.{SeatState}
use Rattle.pp_seat.specs.Follows.{Frame, Lost, Follows}
use Rattle.pp_seat.specs.Frames.{frame_of, tale_of, TellsFrom, NewsAreCounted}

-- what lies in a range or elsewhere lies in one that begins lower
wider : (low high last i : ℕ) (rest : Bool) → low ≤ high → ((nat_le high i && nat_le i last) || rest) ≡ true → ((nat_le low i && nat_le i last) || rest) ≡ true
wider low high last i rest le e = ⊎_elim
    (λ inside.
    let p = and_parts (nat_le high i) (nat_le i last) inside in
    let above : high ≤ i = leb-true high i p.0 in
    or_left (nat_le low i && nat_le i last) rest (and_from (nat_le low i) (nat_le i last) (le-leb low i (omega arith)) p.1))
    (λ other. or_right (nat_le low i && nat_le i last) rest other)
    (or_cases (nat_le high i && nat_le i last) rest e)

first_in : (y : Span) → y.first ≤ y.last → within y y.first ≡ true
first_in y le = and_from (nat_le y.first y.first) (nat_le y.first y.last) (le-leb y.first y.first (omega arith)) (le-leb y.first y.last le)

-- Runs whose numbers all pass a test have no more numbers than pass it.
runs_pass : (p : ℕ → Bool) (spans : List Span) (low n : ℕ) → IsRunsFrom low spans
    → ((i : ℕ) → has spans i ≡ true → (i < low + n) × (p i ≡ true)) → number_count spans ≤ count_by p (range_with_len low n)
runs_pass p [] low n runs passes = omega arith
runs_pass p (x ∷ xs) low zero runs passes =
    absurd (let at = runs.0 in let high = (passes x.first (or_left (within x x.first) (has xs x.first) (first_in x runs.1))).0 in omega arith)
runs_pass p (x ∷ xs) low (suc n) runs passes =
    let split = sum_by-cons (λ (i : ℕ). cond {A = ℕ} (p i) 1 0) low (range_with_len (low + 1) n) in
    ⊎_elim
    (λ (less : low < x.first).
    let rest = runs_pass p (x ∷ xs) (low + 1) n ((omega arith), runs.1, runs.2) (λ i e. let q = passes i e in (let high = q.0 in omega arith, q.1)) in omega arith)
    (λ (most : x.first ≤ low).
    let at = runs.0 in
    let one = here (passes x.first (or_left (within x x.first) (has xs x.first) (first_in x runs.1))).1 (omega arith) in
    ⊎_elim
    (λ (more : low < x.last).
    let y : Span = record { first = low + 1; last = x.last } in
    let rest = runs_pass p (y ∷ xs) (low + 1) n ((omega arith), (omega arith), runs.2)
    (λ i e. let q = passes i (wider x.first (low + 1) x.last i (has xs i) (omega arith) e) in (let high = q.0 in omega arith, q.1)) in omega arith)
    (λ (last : x.last ≤ low).
    let order = runs.1 in
    let rest = runs_pass p xs (low + 1) n (runs_weaken (low + 1) (x.last + 2) xs (omega arith) runs.2)
    (λ i e. let q = passes i (or_right (within x i) (has xs i) e) in (let high = q.0 in omega arith, q.1)) in omega arith)
    (cases_lt low x.last))
    (cases_lt low x.first)
  where
    here : p x.first ≡ true → x.first ≡ low → cond {A = ℕ} (p low) 1 0 ≡ 1
    here passed same = ap (λ (b : Bool). cond {A = ℕ} b 1 0) (ap p (sym same) ∙ passed)

news_counted : (d : Descriptor) (life : Life) (past : List Record) (f : Frame) (lost : Lost) (s : SeatState) (t : Tale) (spans : List Span)
    → Follows f lost s t → lost.haves ≡ 0 → ((i : ℕ) → t.told i ≡ was_told_of d life i (earlier past))
    → TellsFrom d life past s.cursor spans → number_count spans ≤ new_count d life past
news_counted d life past f lost s t spans follows none told tells =
    runs_pass (is_new d life past) spans 0 (chunks_of d) (runs_weaken 0 s.cursor spans (omega arith) tells.runs)
    (λ i e. let q = tells.each i e in (
      (let lt = q.0 in omega arith),
      and_from (list_any (tells_of d life i) (sent_since past)) (not (was_told_of d life i (earlier past))) q.1
          (ap not (sym (told i) ∙ follows.fresh.above none i (from i e))),
    ))
  where
    from : (i : ℕ) → has spans i ≡ true → s.cursor ≤ i
    from i e = ⊎_elim
        (λ less. absurd (both_ways (has spans i) (none_below spans s.cursor i tells.runs less) e))
        (λ more. more)
        (cases_lt i s.cursor)

begun : (d : Descriptor) (life : Life) (i : ℕ) (past : List Record) → sent_since past ≡ [] → was_told_of d life i past ≡ was_told_of d life i (earlier past)
begun d life i [] none = refl
begun d life i (Received at sender bytes ∷ before) none = refl
begun d life i (Quiet at ∷ before) none = refl
begun d life i (Sent moment receiver bytes ∷ before) none = absurd (cc)

enough_told : (d : Descriptor) (h : History) (life : Life) (is_found known_of : ℕ → Bool) (past : List Record) (lost : Lost) (s : SeatState)
    → IsPlainNow d life past → Follows (frame_of d life is_found known_of past) lost s (tale_of d life past)
    → ((i : ℕ) → IsKnownOf d h past i → known_of i ≡ true)
    → (fewest_new ≤ new_count d life past) ⊎ ((i : ℕ) → IsKnownOf d h past i → i < s.cursor)
    → (i : ℕ) → IsKnownOf d h past i → (is_told_of i (story d life past) ≡ true) ⊎ (fewest_new ≤ new_count d life past)
enough_told d h life is_found known_of past lost s plain follows knows (inl many) i known = inr many
enough_told d h life is_found known_of past lost s plain follows knows (inr all) i known =
    inl (subst (λ (x : List Line). is_told_of i x ≡ true) (plains_are_read d life past plain)
    (follows.haves i (all i known) (knows i known)))

pub news_are_counted : NewsAreCounted
news_are_counted = record { begun = begun; counted = news_counted; enough = enough_told }
