-- What is asked for stays listed until it is dropped.
use Rattle.std.proofs.Common.{◌≡◌, ◌⊎◌, inl, inr, ⊎_elim, ℕ, nat_lt, Bool, true, false, ◌||◌, Option, Some, None, option_map, List, [], ◌∷◌, ◌++◌, refl, sym, ◌∙◌, ap, subst, arith}
use Rattle.std.specs.Prelude.{slice_get, if◌then◌else◌}
use Rattle.std.specs.List.{filter}
use Rattle.std.proofs.lemmas.Bool.{cases_Bool, or_cases, or_left, or_right, ltb-true, ltb-false}
use Rattle.std.proofs.lemmas.Bool.Decides.{nat_tests}
use Rattle.std.proofs.lemmas.Option.{slice_get-map}
use Rattle.pp_terms.specs.format.Descriptor.{chunks_of}
use Rattle.pp_terms.specs.format.Messages.{Message, Data, Ack, Have, Integrity, Request, Cancel}
use Rattle.pp_terms.specs.tree.Range.{Span, within, has}
use Rattle.pp_ranges.specs.Edits.{inserted, removed, below, above, is_apart}
use Rattle.pp_ranges.proofs.Runs.{append_has}
use Rattle.pp_requests.specs.Lists.{are_too_many, cancelled}
use Rattle.pp_counts.specs.declared.note.Note.{Note}
use Rattle.pp_outside.specs.declared.link.Event.{Event}
use Rattle.pp_seat.specs.Lines.{inside}
use Rattle.pp_seat.specs.Seats.{SeatState}
use Rattle.pp_desk.specs.Hearing.{HearsPart, HearsRequest, HearsIntegrity, Hears}
use Rattle.pp_seats.specs.Hearing.{looked_up}
use Rattle.pp_seats.specs.Standing.{SeatsState}
use Rattle.pp_peer.specs.declared.parts.Parts.{Parts}
use Rattle.pp_peer.specs.Messages.{is_proven_in, TakesOther, TakesData, Does, InTurn}
use Rattle.pp_peer.specs.Events.{Absorbs}
use Rattle.pp_core.specs.Listing.{list_in, has_slot_in, part_in, list_at, TakesOff, IsDropped, DropsSome, HasNoRoom, ListsRequested, ListsAll, ListsRequests}
use Rattle.pp_core.proofs.Paths.{on_path, heeded_beside, seat_after, data_or_other}

-- ---- lists

cut_keeps : (s x : Span) (i : ℕ) (b c : Bool) → nat_lt x.first s.first ≡ b → nat_lt s.last x.last ≡ c → within s i ≡ false → within x i ≡ true
    → (has (below s x) i || has (above s x) i) ≡ true
cut_keeps s x i true true p q out is = rw (p, q, below, above) (grind (arith, nat_tests))
cut_keeps s x i true false p q out is = rw (p, q, below, above) (grind (arith, nat_tests))
cut_keeps s x i false true p q out is = rw (p, q, below, above) (grind (arith, nat_tests))
cut_keeps s x i false false p q out is = absurd (grind (arith, nat_tests))

-- a number beside a range that is removed stays
removed_keeps : (s : Span) (xs : List Span) (i : ℕ) → within s i ≡ false → has xs i ≡ true → has (removed s xs) i ≡ true
removed_keeps s [] i out is = is
removed_keeps s (x ∷ xs) i out is =
    append_has (below s x ++ above s x) (removed s xs) i
    ∙ ap (λ (b : Bool). b || has (removed s xs) i) (append_has (below s x) (above s x) i)
    ∙ ⊎_elim
    (λ here. or_left (has (below s x) i || has (above s x) i) (has (removed s xs) i)
    (cut_keeps s x i (nat_lt x.first s.first) (nat_lt s.last x.last) refl refl out here))
    (λ later. or_right (has (below s x) i || has (above s x) i) (has (removed s xs) i) (removed_keeps s xs i out later))
    (or_cases (within x i) (has xs i) is)

-- what a CANCEL leaves
cancelled_keeps : (range : Span) (list : List Span) (i : ℕ) → has list i ≡ true → TakesOff (Some range) list i ⊎ (has (cancelled range list) i ≡ true)
cancelled_keeps range list i is = ⊎_elim
    (λ inside. inl (inl inside))
    (λ out. ⊎_elim
    (λ many. ⊎_elim
    (λ still. inr (ap (λ (b : Bool). has (if b then filter (is_apart range) list else removed range list) i) many ∙ still))
    (λ gone. inl (inr (many, gone)))
    (cases_Bool (has (filter (is_apart range) list) i)))
    (λ few. inr (ap (λ (b : Bool). has (if b then filter (is_apart range) list else removed range list) i) few ∙ removed_keeps range list i out is))
    (cases_Bool (are_too_many (removed range list))))
    (cases_Bool (within range i))

-- ---- one seat

-- a message takes a chunk off the list of a seat
abbrev TakesFrom : Message → SeatState → (i : ℕ) → Type 0
TakesFrom (Cancel span) s i = TakesOff (inside s.told.chunks span) s.list i
TakesFrom _ s i = ⊥

-- either it does, or the chunk stays listed
abbrev Stays : Message → SeatState → SeatState → (i : ℕ) → Type 0
Stays m before after i = TakesFrom m before i ⊎ (has after.list i ≡ true)

-- what holds of a message whose part lies in the content, and of one whose doesn't, holds of each
by_part : (Q : Type 0) (span : Span) (hears : Span → Type 0) (noted : Option Note) (before after : SeatState)
    → HearsPart span hears noted before after
    → (after ≡ before → Q) → ((range : Span) → inside before.told.chunks span ≡ Some range → hears range → Q) → Q
by_part Q span hears noted before after h outside part = pick (inside before.told.chunks span) refl
  where
    pick : (o : Option Span) → inside before.told.chunks span ≡ o → Q
    pick None e = outside (h.outside e).1
    pick (Some range) e = part range e (h.part range e)

same_list : (before after : SeatState) (i : ℕ) → after.list ≡ before.list → has before.list i ≡ true → has after.list i ≡ true
same_list before after i same is = ap (λ (list : List Span). has list i) same ∙ is

claimed_list : (range : Span) (digest : List ℕ) (noted : Option Note) (before after : SeatState)
    → HearsIntegrity range digest noted before after → after.list ≡ before.list
claimed_list range digest noted before after h = ⊎_elim
    (λ proven. ⊎_elim (λ claimed. ap (λ (s : SeatState). s.list) claimed.exact) (λ none. ap (λ (s : SeatState). s.list) none.same) (h.proven proven))
    (λ unproven. ap (λ (s : SeatState). s.list) (h.unproven unproven).1)
    (cases_Bool before.proven)

requested_list : (range : Span) (noted : Option Note) (before after : SeatState) (i : ℕ)
    → HearsRequest range noted before after → has before.list i ≡ true → has after.list i ≡ true
requested_list range noted before after i h is = ⊎_elim
    (λ slot. ⊎_elim
    (λ listed. listed.listed i ∙ or_right (within range i) (has before.list i) is)
    (λ full. same_list before after i (ap (λ (s : SeatState). s.list) full.same) is)
    (h.slot slot))
    (λ none. same_list before after i (ap (λ (s : SeatState). s.list) (h.choked none).1) is)
    (cases_Bool before.slot)

heard_list : (now : ℕ) (m : Message) (noted : Option Note) (before after : SeatState) (i : ℕ) → Hears now m noted before after
    → has before.list i ≡ true → Stays m before after i
heard_list now (Data chunk sent_at bytes) noted before after i h is = absurd h
heard_list now (Ack span delay) noted before after i h is = by_part (Stays (Ack span delay) before after i) span _ noted before after h
    (λ same. inr (same_list before after i (ap (λ (s : SeatState). s.list) same) is))
    (λ range e part. inr (same_list before after i (ap (λ (s : SeatState). s.list) part.rest) is))
heard_list now (Have span) noted before after i h is = by_part (Stays (Have span) before after i) span _ noted before after h
    (λ same. inr (same_list before after i (ap (λ (s : SeatState). s.list) same) is))
    (λ range e part. inr (same_list before after i (ap (λ (s : SeatState). s.list) part.rest) is))
heard_list now (Integrity span digest) noted before after i h is = by_part (Stays (Integrity span digest) before after i) span _ noted before after h
    (λ same. inr (same_list before after i (ap (λ (s : SeatState). s.list) same) is))
    (λ range e part. inr (same_list before after i (claimed_list range digest noted before after part) is))
heard_list now (Request span) noted before after i h is = by_part (Stays (Request span) before after i) span _ noted before after h
    (λ same. inr (same_list before after i (ap (λ (s : SeatState). s.list) same) is))
    (λ range e part. inr (requested_list range noted before after i part is))
heard_list now (Cancel span) noted before after i h is = by_part (Stays (Cancel span) before after i) span _ noted before after h
    (λ same. inr (same_list before after i (ap (λ (s : SeatState). s.list) same) is))
    (λ range e part. ⊎_elim
    (λ off. inl (subst (λ (o : Option Span). TakesOff o before.list i) (sym e) off))
    (λ still. inr (ap (λ (s : SeatState). has s.list i) part.exact ∙ still))
    (cancelled_keeps range before.list i is))
heard_list now _ noted before after i h is = inr (same_list before after i (ap (λ (s : SeatState). s.list) h.1) is)

-- ---- one message

dropped_at : (seat i : ℕ) (m : Message) (p : Parts) (s : SeatState) → slice_get p.seats.seats seat ≡ Some s → TakesFrom m s i → IsDropped seat i m p
dropped_at seat i (Cancel span) p s there off = subst (λ (o : Option SeatState). TakesOff (part_in o span) (list_in o) i) (sym there) off
dropped_at seat i _ p s there off = absurd off

-- a message that is no DATA, on its seat
module _ (seat : ℕ) (m : Message) (old new : Parts) (takes : TakesOther seat m old new) where
  before_there : slice_get old.seats.seats seat ≡ Some takes.heard.before
  before_there = sym (ap (λ (s : SeatsState). slice_get s.seats seat) (heeded_beside seat m old takes.mid takes.heeds).seats) ∙ takes.heard.there

  after_there : slice_get new.seats.seats seat ≡ Some takes.heard.after
  after_there = seat_after seat (Hears takes.mid.seats.moment m takes.noted) takes.mid.seats new.seats takes.heard

  other_list : (i : ℕ) → has (list_at seat old) i ≡ true → IsDropped seat i m old ⊎ (has (list_at seat new) i ≡ true)
  other_list i is = ⊎_elim
      (λ off. inl (dropped_at seat i m old takes.heard.before before_there off))
      (λ still. inr (ap (λ (o : Option SeatState). has (list_in o) i) after_there ∙ still))
      (heard_list takes.mid.seats.moment m takes.noted takes.heard.before takes.heard.after i takes.heard.changes
      (sym (ap (λ (o : Option SeatState). has (list_in o) i) before_there) ∙ is))

-- a DATA leaves the list as it is
data_list : (seat chunk sent_at : ℕ) (bytes : List ℕ) (old new : Parts) → TakesData seat chunk sent_at bytes old new
    → list_at seat new ≡ list_at seat old
data_list seat chunk sent_at bytes old new takes = ap (λ (s : SeatsState). list_in (slice_get s.seats seat)) seats_same ∙ answered
  where
    mid : Parts
    mid = takes.mid

    chunks : ℕ
    chunks = chunks_of mid.holding.store.descriptor

    seats_same : new.seats ≡ mid.seats
    seats_same = ⊎_elim
        (λ inside. ⊎_elim
        (λ proven. ap (λ (p : Parts). p.seats) (takes.judged (ltb-true chunk chunks inside) proven).rest)
        (λ unproven. ap (λ (p : Parts). p.seats) (takes.unproven (ltb-true chunk chunks inside) unproven))
        (cases_Bool (is_proven_in (slice_get mid.seats.seats seat))))
        (λ outside. ap (λ (p : Parts). p.seats) (takes.outside (ltb-false chunk chunks outside)))
        (cases_Bool (nat_lt chunk chunks))

    answered : list_at seat mid ≡ list_at seat old
    answered = ap list_in (seat_after seat _ old.seats mid.seats takes.ends.answered)
        ∙ ap (λ (s : SeatState). s.list) takes.ends.answered.changes.rest ∙ sym (ap list_in takes.ends.answered.there)

does_list : (seat : ℕ) (m : Message) (old new : Parts) (i : ℕ) → Does seat m old new → has (list_at seat old) i ≡ true
    → IsDropped seat i m old ⊎ (has (list_at seat new) i ≡ true)
does_list seat m old new i does is = data_or_other (IsDropped seat i m old ⊎ (has (list_at seat new) i ≡ true)) seat m old new does
    (λ chunk sent_at bytes takes. inr (ap (λ (list : List Span). has list i) (data_list seat chunk sent_at bytes old new takes) ∙ is))
    (λ takes. other_list seat m old new takes i is)

in_turn_list : (seat : ℕ) (ms : List Message) (old new : Parts) (i : ℕ) (in_turn : InTurn seat ms old new) → has (list_at seat old) i ≡ true
    → (has (list_at seat new) i ≡ true) ⊎ DropsSome seat i ms old new in_turn
in_turn_list seat [] old new i in_turn is = inl (ap (λ (p : Parts). has (list_at seat p) i) in_turn ∙ is)
in_turn_list seat (m ∷ ms) old new i in_turn is = ⊎_elim
    (λ dropped. inr (inl dropped))
    (λ still. ⊎_elim (λ listed. inl listed) (λ later. inr (inr later)) (in_turn_list seat ms in_turn.0 new i in_turn.2 still))
    (does_list seat m old in_turn.0 i in_turn.1 is)

-- ---- a REQUEST

request_lists : (seat : ℕ) (span range : Span) (old new : Parts) (i : ℕ) → TakesOther seat (Request span) old new
    → has_slot_in (slice_get old.seats.seats seat) ≡ true → part_in (slice_get old.seats.seats seat) span ≡ Some range → within range i ≡ true
    → (has (list_at seat new) i ≡ true) ⊎ HasNoRoom seat range old
request_lists seat span range old new i takes slot part is = ⊎_elim
    (λ listed. inl (ap (λ (o : Option SeatState). has (list_in o) i) (after_there seat (Request span) old new takes) ∙ listed.listed i
    ∙ or_left (within range i) (has takes.heard.before.list i) is))
    (λ full. inr (ap (λ (o : Option SeatState). are_too_many (inserted (Some range) (list_in o))) there ∙ full.many))
    (hears.slot (sym (ap has_slot_in there) ∙ slot))
  where
    there : slice_get old.seats.seats seat ≡ Some takes.heard.before
    there = before_there seat (Request span) old new takes

    hears : HearsRequest range takes.noted takes.heard.before takes.heard.after
    hears = takes.heard.changes.part range (sym (ap (λ (o : Option SeatState). part_in o span) there) ∙ part)

-- ---- along the path

module _ (list : List Span) (seat : ℕ) (last : Parts) (same : list ≡ list_at seat last) where
  lists_one : (m : Message) (ms : List Message) (old mid : Parts) (does : Does seat m old mid) (in_turn : InTurn seat ms mid last)
      → ListsRequested seat m old list (λ i. DropsSome seat i ms mid last in_turn)
  lists_one (Request span) ms old mid does in_turn = λ slot range part i is. ⊎_elim
      (λ listed. ⊎_elim
      (λ still. inl (ap (λ (l : List Span). has l i) same ∙ still))
      (λ dropped. inr (inl dropped))
      (in_turn_list seat ms mid last i in_turn listed))
      (λ full. inr (inr full))
      (request_lists seat span range old mid i does slot part is)
  lists_one _ ms old mid does in_turn = tt

  lists_all : (ms : List Message) (old : Parts) (in_turn : InTurn seat ms old last) → ListsAll list seat ms old last in_turn
  lists_all [] old in_turn = tt
  lists_all (m ∷ ms) old in_turn = (lists_one m ms old in_turn.0 in_turn.1 in_turn.2, lists_all ms in_turn.0 in_turn.2)

-- ---- the whole

looked_list : (moment : ℕ) (o : Option SeatState) → list_in (option_map (looked_up moment) o) ≡ list_in o
looked_list moment None = refl
looked_list moment (Some s) = refl

pub lists_requests : (event : Event) (bytes : List ℕ) (old new : Parts) → Absorbs event bytes old new → ListsRequests event bytes old new
lists_requests event bytes old new a = record {
  absorbs = a;
  lists = on_path (λ path. path.is_closed ≡ false → ListsAll (list_at path.seat new) path.seat path.messages path.first path.last path.in_turn)
      event bytes old a.mid a.takes
      (λ path ends still. lists_all (list_at path.seat new) path.seat path.last
      (looked path.seat ∙ ap (λ (s : SeatsState). list_in (slice_get s.seats path.seat)) (ends.seats still)) path.messages path.first path.in_turn);
}
  where
    looked : (seat : ℕ) → list_at seat new ≡ list_at seat a.mid
    looked seat = ap (λ (p : Parts). list_at seat p) a.rest
        ∙ ap list_in (slice_get-map (looked_up a.mid.seats.moment) a.mid.seats.seats seat)
        ∙ looked_list a.mid.seats.moment (slice_get a.mid.seats.seats seat)
