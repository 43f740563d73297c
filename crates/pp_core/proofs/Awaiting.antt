-- What is awaited on a channel, once all notes of an agenda were sent there.
use Rattle.std.proofs.Common.{◌≡◌, ⊎_elim, ℕ, ◌+◌, ◌≤◌, Bool, true, false, cond, ◌||◌, ◌&&◌, Option, Some, None, List, [], ◌∷◌, ◌++◌, length, map, refl, sym, ◌∙◌, ap, subst, arith}
use Rattle.std.specs.Prelude.{is_some}
use Rattle.std.specs.List.{AllByRecursion, list_any}
use Rattle.std.proofs.lemmas.Bool.{cases_Bool, false≢true, or_parts, or_cases}
use Rattle.std.proofs.lemmas.List.Folds.{list_any-append}
use Rattle.pp_terms.specs.tree.Range.{Span, within, has}
use Rattle.pp_ranges.specs.Edits.{number_count}
use Rattle.pp_ranges.proofs.Runs.{append_has}
use Rattle.pp_requests.proofs.Chunks.{asked_spared}
use Rattle.pp_requests.specs.declared.asking.Asking.{Asking}
use Rattle.pp_requests.specs.Moments.{asked_at}
use Rattle.pp_draft.specs.declared.note.Note.{Note}
use Rattle.pp_draft.specs.declared.note.Note.TheVariants.{KeepAlive, Handshake, Close, Choke, Unchoke, Ack, Have, Request, Cancel, PexReq, Pex4, Pex6}
use Rattle.pp_fetching.specs.Owners.{awaits}
use Rattle.pp_seat.specs.Seats.{SeatState}
use Rattle.pp_seat.specs.Turns.{due_turn}
use Rattle.pp_seat.specs.declared.service.Turn.{Turn}
use Rattle.pp_seat.specs.declared.service.Turn.TheVariants as turns
use Rattle.pp_desk.specs.declared.steps.Delivered.{Delivered}
use Rattle.pp_desk.specs.Steps.{Moves, AreAfter, Follow}
use Rattle.pp_desk.specs.Delivers.{Way, Batch, At, counted, DeliversEach, notes_of, GoesIf, Goes}
use Rattle.pp_seats.specs.Sending.{requested, AsksFirst, FitAll}
use Rattle.pp_seats.proofs.Waits.{fit_of, fit_asked, none_first}
use Rattle.pp_agenda.specs.declared.agenda.Due.{Due}
use Rattle.pp_agenda.specs.Agendas.{only, turn_notes, ack_note, have_note, request_note, cancel_note, address_note, parts_below, spoken_notes, IsAgenda}
use Rattle.pp_agenda.specs.Laws.{are_cancelling}
use Rattle.pp_agenda.proofs.Parts.{all_both, all_mapped, all_same, all_only, all_turn, kept, none_mapped, any_kept, any_spoken, address_is}
use Rattle.pp_agenda.proofs.Passing.{IsNoRequest, IsNoCancel, requested-append, first_alone, first_behind}
use Rattle.pp_peer.specs.Speaking.{most_of}

abbrev pub is_cancel : Note → Bool
is_cancel (Cancel range) = true
is_cancel _ = false

abbrev pub has_cancel : List Note → Bool
has_cancel notes = list_any is_cancel notes

-- All of these chunks are awaited now, and those that were and weren't cancelled; and where no note cancels, so many are.
pub record AllAsked (asks : List Span) (cancels : ℕ → Bool) (cancelled : Bool) (more : List Note) (old new : SeatState) : Type 0 where
  pub asked : (i : ℕ) → has asks i ≡ true → cancels i ≡ false → awaits new.own i ≡ true
  pub kept : (i : ℕ) → awaits old.own i ≡ true → cancels i ≡ false → awaits new.own i ≡ true
  pub many : cancelled ≡ false → length new.own ≡ length old.own + number_count asks
  pub may : most_of new ≡ most_of old
  pub first : AsksFirst more
  pub fit : FitAll (requested more) new.own

-- so it is with these notes
abbrev pub IsAsked : (notes more : List Note) → SeatState → SeatState → Type 0
IsAsked notes more old new = AllAsked (requested notes) (λ i. are_cancelling notes i) (has_cancel notes) more old new

unchoked_same : (old mid : SeatState)
    → (old.choked ≡ true → mid ≡ record old { slot = true; choked = false; owes = false }) × (old.choked ≡ false → mid ≡ old)
    → (mid.own ≡ old.own) × (most_of mid ≡ most_of old)
unchoked_same old mid h = ⊎_elim
    (λ yes. (ap (λ (s : SeatState). s.own) (h.0 yes), ap most_of (h.0 yes)))
    (λ no. (ap (λ (s : SeatState). s.own) (h.1 no), ap most_of (h.1 no)))
    (cases_Bool old.choked)

moved_same : (back : Bool) (end : ℕ) (old mid : SeatState) → Moves back end old mid → (mid.own ≡ old.own) × (most_of mid ≡ most_of old)
moved_same true end old mid h = (ap (λ (s : SeatState). s.own) h, ap most_of h)
moved_same false end old mid h = (ap (λ (s : SeatState). s.own) h, ap most_of h)

module _ (now : ℕ) (back : Bool) (more : List Note) where
  -- a note that leaves the own requests
  idle : (asks : List Span) (cancels : ℕ → Bool) (cancelled : Bool) (old mid new : SeatState) → mid.own ≡ old.own → most_of mid ≡ most_of old
      → AllAsked asks cancels cancelled more mid new → AllAsked asks cancels cancelled more old new
  idle asks cancels cancelled old mid new same may r = record {
    asked = r.asked;
    kept = λ i e c. r.kept i (ap (λ (own : List Asking). awaits own i) same ∙ e) c;
    many = λ none. r.many none ∙ ap (λ (own : List Asking). length own + number_count asks) same;
    may = r.may ∙ may;
    first = r.first;
    fit = r.fit;
  }

  fit_same : (notes : List Note) (old mid : SeatState) → mid.own ≡ old.own → FitAll (requested (notes ++ more)) old.own
      → FitAll (requested (notes ++ more)) mid.own
  fit_same notes old mid same f = subst (λ (own : List Asking). FitAll (requested (notes ++ more)) own) (sym same) f

  asked_one : (i m : ℕ) (b : Bool) (own : List Asking) (old : Option ℕ) → b ≡ true → asked_at own i ≡ cond b (Some m) old → awaits own i ≡ true
  asked_one i m true own old is at = ap (λ (o : Option ℕ). is_some o) at
  asked_one i m false own old is at = absurd (false≢true is)

  kept_one : (i m : ℕ) (b : Bool) (old mid : List Asking) → asked_at mid i ≡ cond b (Some m) (asked_at old i) → awaits old i ≡ true
      → awaits mid i ≡ true
  kept_one i m true old mid at e = ap (λ (o : Option ℕ). is_some o) at
  kept_one i m false old mid at e = ap (λ (o : Option ℕ). is_some o) at ∙ e

  spared_one : (i : ℕ) (b : Bool) (old mid : List Asking) → b ≡ false → asked_at mid i ≡ cond b None (asked_at old i) → awaits old i ≡ true
      → awaits mid i ≡ true
  spared_one i true old mid is at e = absurd (false≢true (sym is))
  spared_one i false old mid is at e = ap (λ (o : Option ℕ). is_some o) at ∙ e

  sent_all : (notes : List Note) (old new : SeatState) → AreAfter now back notes old new → AsksFirst (notes ++ more)
      → FitAll (requested (notes ++ more)) old.own
      → IsAsked notes more old new
  sent_all [] old new h a f = record {
    asked = λ i e c. absurd (false≢true e);
    kept = λ i e c. ap (λ (s : SeatState). awaits s.own i) h ∙ e;
    many = λ none. ap (λ (s : SeatState). length s.own) h ∙ no_more (length old.own);
    may = ap most_of h;
    first = a;
    fit = subst (λ (s : SeatState). FitAll (requested more) s.own) (sym h) f;
  }
    where
      no_more : (n : ℕ) → n ≡ n + 0
      no_more n = omega arith
  sent_all (KeepAlive ∷ notes) old new h a f =
      let same = ap (λ (s : SeatState). s.own) h.1 in
      idle _ _ _ old h.0 new same (ap most_of h.1) (sent_all notes h.0 new h.2 a (fit_same notes old h.0 same f))
  sent_all (Handshake source ∷ notes) old new h a f =
      let same = ap (λ (s : SeatState). s.own) h.1 in
      idle _ _ _ old h.0 new same (ap most_of h.1) (sent_all notes h.0 new h.2 a (fit_same notes old h.0 same f))
  sent_all (Close ∷ notes) old new h a f =
      let same = ap (λ (s : SeatState). s.own) h.1 in
      idle _ _ _ old h.0 new same (ap most_of h.1) (sent_all notes h.0 new h.2 a (fit_same notes old h.0 same f))
  sent_all (Choke ∷ notes) old new h a f =
      let same = ap (λ (s : SeatState). s.own) h.1 in
      idle _ _ _ old h.0 new same (ap most_of h.1) (sent_all notes h.0 new h.2 a (fit_same notes old h.0 same f))
  sent_all (Unchoke ∷ notes) old new h a f =
      let same = unchoked_same old h.0 h.1 in
      idle _ _ _ old h.0 new same.0 same.1 (sent_all notes h.0 new h.2 a (fit_same notes old h.0 same.0 f))
  sent_all (Ack range delay ∷ notes) old new h a f =
      let same = ap (λ (s : SeatState). s.own) h.1 in
      idle _ _ _ old h.0 new same (ap most_of h.1) (sent_all notes h.0 new h.2 a (fit_same notes old h.0 same f))
  sent_all (Have range ∷ notes) old new h a f =
      let same = moved_same back (range.last + 1) old h.0 h.1 in
      idle _ _ _ old h.0 new same.0 same.1 (sent_all notes h.0 new h.2 a (fit_same notes old h.0 same.0 f))
  sent_all (Request range ∷ notes) old new h a f =
      let asks = h.1.1 (fit_of range (requested (notes ++ more)) old.own f) in
      let rest = sent_all notes h.0 new h.2 a (fit_asked range (requested (notes ++ more)) now old.own h.0.own f asks) in
      record {
        asked = λ i e c. ⊎_elim
            (λ here. rest.kept i (asked_one i now (within range i) h.0.own (asked_at old.own i) here (asks.asked i)) c)
            (λ later. rest.asked i later c)
            (or_cases (within range i) (has (requested notes) i) e);
        kept = λ i e c. rest.kept i (kept_one i now (within range i) old.own h.0.own (asks.asked i) e) c;
        many = λ none. (let then = rest.many none in let one = asks.len in omega (arith, then, one));
        may = rest.may ∙ ap most_of h.1.0;
        first = rest.first;
        fit = rest.fit;
      }
  sent_all (Cancel range ∷ notes) old new h a f =
      let rest = sent_all notes h.0 new h.2 (none_first (notes ++ more) a) (subst (λ (xs : List Span). FitAll xs h.0.own) (sym a) tt) in
      record {
        asked = λ i e c. rest.asked i e (or_parts (within range i) (are_cancelling notes i) c).1;
        kept = λ i e c.
            let parts = or_parts (within range i) (are_cancelling notes i) c in
            rest.kept i (spared_one i (within range i) old.own h.0.own parts.0 (asked_spared (within range i) i old.own h.0.own (h.1.1 i)) e) parts.1;
        many = λ none. absurd (false≢true (sym none));
        may = rest.may ∙ ap most_of h.1.0;
        first = rest.first;
        fit = rest.fit;
      }
  sent_all (PexReq ∷ notes) old new h a f =
      let same = ap (λ (s : SeatState). s.own) h.1 in
      idle _ _ _ old h.0 new same (ap most_of h.1) (sent_all notes h.0 new h.2 a (fit_same notes old h.0 same f))
  sent_all (Pex4 address port ∷ notes) old new h a f =
      let same = ap (λ (s : SeatState). s.own) h.1 in
      idle _ _ _ old h.0 new same (ap most_of h.1) (sent_all notes h.0 new h.2 a (fit_same notes old h.0 same f))
  sent_all (Pex6 address port ∷ notes) old new h a f =
      let same = ap (λ (s : SeatState). s.own) h.1 in
      idle _ _ _ old h.0 new same (ap most_of h.1) (sent_all notes h.0 new h.2 a (fit_same notes old h.0 same f))

-- ---- a delivery of which nothing was refused

count_append : (xs ys : List Span) → number_count (xs ++ ys) ≡ number_count xs + number_count ys
count_append [] ys = omega arith
count_append (x ∷ xs) ys = (let rest = count_append xs ys in omega (arith, rest))

both_asked : (xs ys : List Note) (a b c : SeatState) → IsAsked xs ys a b → IsAsked ys [] b c → IsAsked (xs ++ ys) [] a c
both_asked xs ys a b c one two = record {
  asked = λ i e free.
      let parts = apart i free in
      ⊎_elim (λ here. two.kept i (one.asked i here parts.0) parts.1) (λ later. two.asked i later parts.1)
      (or_cases (has (requested xs) i) (has (requested ys) i)
      (sym (ap (λ (zs : List Span). has zs i) (requested-append xs ys) ∙ append_has (requested xs) (requested ys) i) ∙ e));
  kept = λ i e free. let parts = apart i free in two.kept i (one.kept i e parts.0) parts.1;
  many = λ none.
      let parts = or_parts (has_cancel xs) (has_cancel ys) (sym (list_any-append is_cancel xs ys) ∙ none) in
      let first = one.many parts.0 in
      let then = two.many parts.1 in
      let sum = ap number_count (requested-append xs ys) ∙ count_append (requested xs) (requested ys) in
      omega (arith, first, then, sum);
  may = two.may ∙ one.may;
  first = tt;
  fit = tt;
}
  where
    apart : (i : ℕ) → are_cancelling (xs ++ ys) i ≡ false → (are_cancelling xs i ≡ false) × (are_cancelling ys i ≡ false)
    apart i free = or_parts (are_cancelling xs i) (are_cancelling ys i) (sym (list_any-append _ xs ys) ∙ free)

pub refused_later : (w : Way) (bs : List Batch) (old new : At) → DeliversEach w bs old new → old.so_far.refused ≤ new.so_far.refused
refused_later w [] old new h = (let same = ap (λ (x : At). x.so_far.refused) h in omega (arith, same))
refused_later w (b ∷ bs) old new h = (let rest = refused_later w bs h.0 new h.2 in let one = step b.sent h.1.count in omega (arith, rest, one))
  where
    step : (sent : Bool) → h.0.so_far ≡ counted sent b.notes old.so_far → old.so_far.refused ≤ h.0.so_far.refused
    step true e = (let same = ap (λ (x : Delivered). x.refused) e in omega (arith, same))
    step false e = (let same = ap (λ (x : Delivered). x.refused) e in omega (arith, same))

each_asked : (w : Way) (bs : List Batch) (old new : At) → DeliversEach w bs old new → new.so_far.refused ≡ 0 → AsksFirst (notes_of bs)
    → FitAll (requested (notes_of bs)) old.seat.own → IsAsked (notes_of bs) [] old.seat new.seat
each_asked w [] old new h none a f =
    subst (λ (x : At). IsAsked [] [] old.seat x.seat) (sym h) (sent_all 0 false [] [] old.seat old.seat refl tt tt)
each_asked w (b ∷ bs) old new h none a f =
    let one = step b.sent h.1.count h.1.seat in
    both_asked b.notes (notes_of bs) old.seat h.0.seat new.seat one (each_asked w bs h.0 new h.2 none one.first one.fit)
  where
    step : (sent : Bool) → h.0.so_far ≡ counted sent b.notes old.so_far → Follow w.now old.so_far.set_back sent b.notes old.seat h.0.seat
        → IsAsked b.notes (notes_of bs) old.seat h.0.seat
    step true e follow = sent_all w.now old.so_far.set_back (notes_of bs) b.notes old.seat h.0.seat follow.after a f
    step false e follow =
        absurd (let one = ap (λ (x : Delivered). x.refused) e in let later = refused_later w bs h.0 new h.2 in omega (arith, one, later, none))

pub goes_asked : (opening : Option ℕ) (w : Way) (notes : List Note) (old new : At) → Goes opening w notes old new → new.so_far.refused ≡ 0
    → AsksFirst notes
    → FitAll (requested notes) old.seat.own → IsAsked notes [] old.seat new.seat
goes_asked None w notes old new g none first fit =
    subst (λ (ns : List Note). IsAsked ns [] old.seat new.seat) g.each_once
    (each_asked w g.batches old new g.each none (subst (λ (ns : List Note). AsksFirst ns) (sym g.each_once) first)
    (subst (λ (ns : List Note). FitAll (requested ns) old.seat.own) (sym g.each_once) fit))
goes_asked (Some source) w notes old new g none first fit = by g.0 g.1
  where
    same : AllAsked (requested (Handshake source ∷ notes)) (λ i. are_cancelling (Handshake source ∷ notes) i)
        (has_cancel (Handshake source ∷ notes)) [] old.seat new.seat
        → IsAsked notes [] old.seat new.seat
    same r = record { asked = r.asked; kept = r.kept; many = r.many; may = r.may; first = r.first; fit = r.fit }

    by : (taken : Bool) → GoesIf taken source w notes old new → IsAsked notes [] old.seat new.seat
    by true h =
        same (subst (λ (ns : List Note). IsAsked ns [] old.seat new.seat) h.delivers.each_once
        (each_asked w h.delivers.batches old new h.delivers.each none (subst (λ (ns : List Note). AsksFirst ns) (sym h.delivers.each_once) first)
        (subst (λ (ns : List Note). FitAll (requested ns) old.seat.own) (sym h.delivers.each_once) fit)))
    by false h = absurd (let one = ap (λ (x : Delivered). x.refused) h.count in omega (arith, one, none))

-- ---- an agenda

pub agenda_first : (s : SeatState) (due : Due) (agenda : List Note) → IsAgenda s due agenda → AsksFirst agenda
agenda_first s due agenda g = subst (λ (ns : List Note). AsksFirst ns) (sym g.is)
    (kept (λ (ns : List Note). AsksFirst ns) ((due.tells || s.proven) && due.is_silent) (spoken_notes s due g.rows g.cancels) tt
    (first_behind (front ++ dropped ++ question) answers (first_behind (front ++ dropped) question (first_behind front dropped (first_alone front
    (all_both IsNoCancel _ _ (all_both IsNoCancel _ _ (all_both IsNoCancel _ _ (all_both IsNoCancel _ _
    (all_turn IsNoCancel s.proven (due_turn s) tt tt)
    (uncancelled s.proven ack_note due.acknowledgements.now (λ x. tt)))
    (uncancelled (due.tells && s.proven) have_note (parts_below s.cursor due.news.now) (λ x. tt)))
    (uncancelled true have_note g.rows (λ x. tt)))
    (uncancelled s.proven request_note due.requests.now (λ x. tt))))
    (unasked true cancel_note g.cancels (λ x. tt)))
    (all_only IsNoRequest (s.proven && due.asks_addresses) (PexReq ∷ []) (tt, tt)))
    (unasked s.proven address_note due.addresses.now (address_is IsNoRequest (λ b p. tt) (λ b p. tt)))))
  where
    front : List Note
    front = turn_notes s.proven (due_turn s) ++ only s.proven (map ack_note due.acknowledgements.now)
        ++ only (due.tells && s.proven) (map have_note (parts_below s.cursor due.news.now)) ++ map have_note g.rows
        ++ only s.proven (map request_note due.requests.now)

    dropped : List Note
    dropped = map cancel_note g.cancels

    question : List Note
    question = only (s.proven && due.asks_addresses) (PexReq ∷ [])

    answers : List Note
    answers = only s.proven (map address_note due.addresses.now)

    uncancelled : {X : Type 0} (b : Bool) (kind : X → Note) (xs : List X) → ((x : X) → IsNoCancel (kind x))
        → AllByRecursion IsNoCancel (only b (map kind xs))
    uncancelled b kind xs h = all_only IsNoCancel b (map kind xs) (all_mapped IsNoCancel kind xs (all_same (λ x. IsNoCancel (kind x)) xs h))

    unasked : {X : Type 0} (b : Bool) (kind : X → Note) (xs : List X) → ((x : X) → IsNoRequest (kind x))
        → AllByRecursion IsNoRequest (only b (map kind xs))
    unasked b kind xs h = all_only IsNoRequest b (map kind xs) (all_mapped IsNoRequest kind xs (all_same (λ x. IsNoRequest (kind x)) xs h))

turn_cancels : (b : Bool) (turn : Option Turn) → has_cancel (turn_notes b turn) ≡ false
turn_cancels b None = refl
turn_cancels b (Some turns.Choke) = refl
turn_cancels true (Some turns.Unchoke) = refl
turn_cancels false (Some turns.Unchoke) = refl

-- where no chunk is cancelled there is no CANCEL
pub none_cancelled : (s : SeatState) (due : Due) (agenda : List Note) (g : IsAgenda s due agenda) → g.cancels ≡ [] → has_cancel agenda ≡ false
none_cancelled s due agenda g none =
    ap has_cancel g.is ∙ any_kept is_cancel _ (spoken_notes s due g.rows g.cancels) refl
    ∙ any_spoken is_cancel s due g.rows g.cancels false false false false false false false false
    (turn_cancels s.proven (due_turn s))
    (none_mapped is_cancel ack_note s.proven due.acknowledgements.now (λ x. refl))
    (none_mapped is_cancel have_note (due.tells && s.proven) (parts_below s.cursor due.news.now) (λ x. refl))
    (none_mapped is_cancel have_note true g.rows (λ x. refl))
    (none_mapped is_cancel request_note s.proven due.requests.now (λ x. refl))
    (ap (λ (xs : List Span). has_cancel (map cancel_note xs)) none)
    (none_mapped is_cancel (λ (x : Bool). PexReq) (s.proven && due.asks_addresses) (true ∷ []) (λ x. refl))
    (none_mapped is_cancel address_note s.proven due.addresses.now (address_is (λ (n : Note). is_cancel n ≡ false) (λ b p. refl) (λ b p. refl)))
