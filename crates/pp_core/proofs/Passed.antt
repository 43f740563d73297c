-- What the cursor of a seat passes was told of, where nothing was refused.
use Rattle.std.proofs.Common.{◌≡◌, ◌⊎◌, inl, inr, ⊎_elim, ℕ, ◌+◌, ◌-◌, ◌<◌, ◌≤◌, min, leb, nat_lt, Bool, true, false, cond, ◌&&◌, ◌||◌, Option, Some, None, List, [], ◌∷◌, ◌++◌, map, get_or, refl, sym, ◌∙◌, ap, subst, arith}
use Rattle.std.specs.List.{AllByRecursion, list_any}
use Rattle.std.proofs.lemmas.Bool.{cases_Bool, cases_lt, both_ways, or_left, or_right, and_parts, and_from, le-leb, leb-true, ltb-true}
use Rattle.pp_terms.specs.tree.Range.{Span, within, has, IsRunsFrom}
use Rattle.pp_draft.specs.declared.note.Note.{Note}
use Rattle.pp_draft.specs.declared.note.Note.TheVariants as notes
use Rattle.pp_draft.specs.declared.note.Note.TheVariants.{Have}
use Rattle.pp_seat.specs.Seats.{SeatState}
use Rattle.pp_seat.specs.Turns.{due_turn}
use Rattle.pp_desk.specs.declared.steps.Delivered.{Delivered}
use Rattle.pp_desk.specs.Delivers.{Way, Batch, At, none_delivered, counted, DeliversEach, GoesIf, Goes, notes_of}
use Rattle.pp_desk.specs.Steps.{cursor_behind, cursor_after, AreAfter, Follow}
use Rattle.pp_desk.proofs.Saying.{after_cursor}
use Rattle.pp_seats.specs.Sending.{PassesAll, tells_note}
use Rattle.pp_news.specs.declared.acknowledgement.Acknowledgement.{Acknowledgement}
use Rattle.pp_agenda.specs.declared.agenda.Due.{Due}
use Rattle.pp_agenda.specs.Agendas.{only, turn_notes, ack_note, have_note, request_note, cancel_note, address_note, parts_below, most_rows, spoken_notes, IsAgenda}
use Rattle.pp_agenda.proofs.Parts.{all_both, all_mapped, all_same, all_only, all_turn, kept, address_is}
use Rattle.pp_agenda.proofs.Passing.{IsQuiet, quiet_passes, quiet_stays, passes_both, stays_both, IsPassed, passed_pass, passed_stay, rows_pass}
use Rattle.pp_core.proofs.Awaiting.{refused_later}

-- ---- notes that were sent

after_both : (cursor : ℕ) (xs ys : List Note) → cursor_after cursor (xs ++ ys) ≡ cursor_after (cursor_after cursor xs) ys
after_both cursor [] ys = refl
after_both cursor (x ∷ xs) ys = after_both (cursor_behind cursor x) xs ys

each_cursor : (w : Way) (bs : List Batch) (old new : At) → DeliversEach w bs old new → new.so_far.refused ≡ 0 → old.so_far.set_back ≡ false
    → new.seat.cursor ≡ cursor_after old.seat.cursor (notes_of bs)
each_cursor w [] old new h none front = ap (λ (x : At). x.seat.cursor) h
each_cursor w (b ∷ bs) old new h none front =
    let one = step b.sent h.1.count h.1.seat in
    each_cursor w bs h.0 new h.2 none one.0 ∙ ap (λ (c : ℕ). cursor_after c (notes_of bs)) one.1
    ∙ sym (after_both old.seat.cursor b.notes (notes_of bs))
  where
    step : (sent : Bool) → h.0.so_far ≡ counted sent b.notes old.so_far → Follow w.now old.so_far.set_back sent b.notes old.seat h.0.seat
        → (h.0.so_far.set_back ≡ false) × (h.0.seat.cursor ≡ cursor_after old.seat.cursor b.notes)
    step true e follow = (
      ap (λ (x : Delivered). x.set_back) e ∙ front,
      after_cursor w.now b.notes old.seat h.0.seat
          (subst (λ (back : Bool). AreAfter w.now back b.notes old.seat h.0.seat) front follow.after),
    )
    step false e follow =
        absurd (let one = ap (λ (x : Delivered). x.refused) e in let later = refused_later w bs h.0 new h.2 in omega (arith, one, later, none))

-- the cursor goes behind the last HAVE
pub goes_cursor : (opening : Option ℕ) (w : Way) (ns : List Note) (old new : At) → Goes opening w ns old new → old.so_far ≡ none_delivered
    → new.so_far.refused ≡ 0 → new.seat.cursor ≡ cursor_after old.seat.cursor ns
goes_cursor None w ns old new g begin none =
    each_cursor w g.batches old new g.each none (ap (λ (x : Delivered). x.set_back) begin)
    ∙ ap (λ (xs : List Note). cursor_after old.seat.cursor xs) g.each_once
goes_cursor (Some source) w ns old new g begin none = by g.0 g.1
  where
    by : (taken : Bool) → GoesIf taken source w ns old new → new.seat.cursor ≡ cursor_after old.seat.cursor ns
    by true h = each_cursor w h.delivers.batches old new h.delivers.each none (ap (λ (x : Delivered). x.set_back) begin)
        ∙ ap (λ (xs : List Note). cursor_after old.seat.cursor xs) h.delivers.each_once
    by false h = absurd (let one = ap (λ (x : Delivered). x.refused) h.count in omega (arith, one, none))

-- ---- what is passed

-- a chunk of a set that the cursor passes is told of
pub passes_tell : (held : ℕ → Bool) (i : ℕ) → held i ≡ true → (cursor : ℕ) (ns : List Note) → PassesAll held cursor ns
    → i < cursor_after cursor ns → (i < cursor) ⊎ (list_any (tells_note i) ns ≡ true)
passes_tell held i is cursor [] passes lt = inl lt
passes_tell held i is cursor (Have range ∷ ns) passes lt = ⊎_elim
    (λ (low : i < cursor_behind cursor (Have range)). ⊎_elim
    (λ (below : i < cursor). inl below)
    (λ (high : cursor ≤ i). inr (or_left (within range i) (list_any (tells_note i) ns) (⊎_elim
    (λ before. absurd (both_ways (held i) (passes.0 i high before) is))
    (λ (first : range.first ≤ i). and_from (leb range.first i) (leb i range.last) (le-leb range.first i first)
    (le-leb i range.last (omega (arith, low, high))))
    (cases_lt i range.first))))
    (cases_lt i cursor))
    (λ told. inr (or_right (within range i) (list_any (tells_note i) ns) told))
    (passes_tell held i is (cursor_behind cursor (Have range)) ns passes.1 lt)
passes_tell held i is cursor (_ ∷ ns) passes lt = passes_tell held i is cursor ns passes.1 lt

parts_passed : (cursor : ℕ) (xs : List Span) → AllByRecursion (IsPassed cursor) (parts_below cursor xs)
parts_passed cursor [] = tt
parts_passed cursor (x ∷ xs) = by (nat_lt x.first cursor) refl (parts_passed cursor xs)
  where
    part : Span
    part = record { first = x.first; last = min x.last (cursor - 1) }

    by : (b : Bool) → nat_lt x.first cursor ≡ b → AllByRecursion (IsPassed cursor) (parts_below cursor xs)
        → AllByRecursion (IsPassed cursor) (cond b (part ∷ parts_below cursor xs) (parts_below cursor xs))
    by false e rest = rest
    by true e rest = let low : x.first < cursor = ltb-true x.first cursor e in (record { first = low; last = omega (arith, low) }, rest)

module _ (held : ℕ → Bool) (s : SeatState) (due : Due) (agenda : List Note) (same : (i : ℕ) → held i ≡ get_or due.committed.now i false)
    (g : IsAgenda s due agenda) where
  quiet : List Note
  quiet = turn_notes s.proven (due_turn s) ++ only s.proven (map ack_note due.acknowledgements.now)

  abbrev news : List Note
  news = only (due.tells && s.proven) (map have_note (parts_below s.cursor due.news.now))

  of_kind : {X : Type 0} (b : Bool) (kind : X → Note) (xs : List X) → ((x : X) → IsQuiet (kind x)) → AllByRecursion IsQuiet (only b (map kind xs))
  of_kind b kind xs h = all_only IsQuiet b (map kind xs) (all_mapped IsQuiet kind xs (all_same (λ x. IsQuiet (kind x)) xs h))

  quiets : AllByRecursion IsQuiet (turn_notes s.proven (due_turn s) ++ only s.proven (map ack_note due.acknowledgements.now))
  quiets = all_both IsQuiet (turn_notes s.proven (due_turn s)) (only s.proven (map ack_note due.acknowledgements.now))
      (all_turn IsQuiet s.proven (due_turn s) tt tt) (of_kind s.proven ack_note due.acknowledgements.now (λ (x : Acknowledgement). tt))

  news_pass : (b : Bool) → PassesAll held s.cursor (only b (map have_note (parts_below s.cursor due.news.now)))
  news_pass true = passed_pass held s.cursor (parts_below s.cursor due.news.now) (parts_passed s.cursor due.news.now)
  news_pass false = tt

  news_stay : (b : Bool) → cursor_after s.cursor (only b (map have_note (parts_below s.cursor due.news.now))) ≡ s.cursor
  news_stay true = passed_stay s.cursor (parts_below s.cursor due.news.now) (parts_passed s.cursor due.news.now)
  news_stay false = refl

  spoken_pass : PassesAll held s.cursor (spoken_notes s due g.rows g.cancels)
  unfolding quiet
  spoken_pass =
      passes_both held s.cursor _ _ (passes_both held s.cursor _ _ (passes_both held s.cursor _ _ (passes_both held s.cursor _ _
      (passes_both held s.cursor (quiet ++ news) (map have_note g.rows)
      (passes_both held s.cursor quiet news (quiet_passes held s.cursor quiet quiets)
      (subst (λ (n : ℕ). PassesAll held n news) (sym (quiet_stays s.cursor quiet quiets)) (news_pass (due.tells && s.proven))))
      (subst (λ (n : ℕ). PassesAll held n (map have_note g.rows))
      (sym (stays_both s.cursor quiet news (quiet_stays s.cursor quiet quiets) (news_stay (due.tells && s.proven))))
      (rows_pass held s.cursor due.committed.now (most_rows due.tells) g.rows same g.are_rows)))
      (quiet_passes held _ _ (of_kind s.proven request_note due.requests.now (λ (x : Span). tt))))
      (quiet_passes held _ _ (of_kind true cancel_note g.cancels (λ (x : Span). tt))))
      (quiet_passes held _ _ (all_only IsQuiet (s.proven && due.asks_addresses) (notes.PexReq ∷ []) (tt, tt))))
      (quiet_passes held _ _ (of_kind s.proven address_note due.addresses.now (address_is IsQuiet (λ b p. tt) (λ b p. tt))))

  -- the notes of an agenda pass no committed chunk
  pub agenda_passes : PassesAll held s.cursor agenda
  agenda_passes = subst (λ (ns : List Note). PassesAll held s.cursor ns) (sym g.is)
      (kept (λ (ns : List Note). PassesAll held s.cursor ns) ((due.tells || s.proven) && due.is_silent) (spoken_notes s due g.rows g.cancels)
      (tt, tt) spoken_pass)

-- ---- ranges

-- no chunk before the first of the ranges is in them
pub none_below : (from i : ℕ) (xs : List Span) → IsRunsFrom from xs → i < from → has xs i ≡ false
none_below from i [] runs lt = refl
none_below from i (x ∷ xs) runs lt = ⊎_elim
    (λ here. absurd (let low = leb-true x.first i (and_parts (leb x.first i) (leb i x.last) here).0 in
    let from_first = runs.0 in omega (arith, low, from_first, lt)))
    (λ no. ap (λ (b : Bool). b || has xs i) no ∙ none_below (x.last + 2) i xs runs.2
    (let from_first = runs.0 in let order = runs.1 in omega (arith, from_first, order, lt)))
    (cases_Bool (within x i))
