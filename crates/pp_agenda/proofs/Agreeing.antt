-- The laws of agendas.
use Rattle.std.proofs.Common.{◌≡◌, inl, inr, ⊎_elim, ℕ, ◌<◌, Bool, true, false, cond, ◌&&◌, ◌||◌, Option, Some, None, is_some, List, [], ◌∷◌, ◌++◌, length, map, get_or, refl, sym, ◌∙◌, ap, subst, arith}
use Rattle.std.specs.List.{AllByRecursion, list_any}
use Rattle.std.proofs.lemmas.Bool.{and_parts, and_from, or_cases, or_left, or_right}
use Rattle.std.proofs.lemmas.List.{append-nil}
use Rattle.pp_terms.specs.tree.Range.{Span, has}
use Rattle.pp_terms.specs.format.Descriptor.{Descriptor, chunks_of}
use Rattle.pp_requests.specs.Moments.{asked_at}
use Rattle.pp_outside.specs.declared.link.Address.{Address}
use Rattle.pp_draft.specs.declared.note.Note.{Note}
use Rattle.pp_draft.specs.declared.note.Note.TheVariants as notes
use Rattle.pp_draft.specs.Notes.{IsInside}
use Rattle.pp_seat.specs.Seats.{SeatState}
use Rattle.pp_seat.specs.Turns.{due_turn}
use Rattle.pp_seat.specs.declared.service.Turn.{Turn}
use Rattle.pp_seat.specs.declared.service.Turn.TheVariants.{Choke, Unchoke}
use Rattle.pp_desk.specs.Steps.{IsPlain, cursor_after}
use Rattle.pp_seats.specs.Sending.{Announces, PassesAll, requested, AsksFirst, FitAll, tells_note}
use Rattle.pp_news.specs.declared.acknowledgement.Acknowledgement.{Acknowledgement}
use Rattle.pp_agenda.specs.declared.agenda.Due.{Due}
use Rattle.pp_agenda.specs.Agendas.{only, turn_notes, ack_note, have_note, request_note, cancel_note, address_note, parts_below, most_rows, AreRows, spoken_notes, or_keep_alive, IsAgenda}
use Rattle.pp_agenda.specs.Laws.{IsCommitted, IsPlaced, AllMayGo, MayBeSaid, are_telling, CoversNews, CoversRows, KnowsNoMore, acked, addressed, cancels_note, is_address_request, ExchangesAll, CancelsAll, is_choke, is_unchoke, is_choke_due, is_unchoke_due, ChokesWhereDue, IsNeverSilent}
use Rattle.pp_agenda.proofs.Parts.{all_both, all_mapped, all_same, all_turned, all_only, all_turn, kept, OfEach, all_spoken, none_mapped, any_kept, any_spoken, address_is, read_kept, read_only, read_spoken}
use Rattle.pp_agenda.proofs.Telling.{haves_tell, cancels_drop, parts_have, IsPart, parts_are, rows_cover, rows_are_committed, parts_known, committed_below, runs_inside}
use Rattle.pp_agenda.proofs.Passing.{IsQuiet, quiet_passes, quiet_stays, passes_both, stays_both, IsPassed, passed_pass, passed_stay, rows_pass, IsNoRequest, IsNoCancel, requested-append, requested_none, requested-map, first_alone, first_behind}
use Rattle.pp_agenda.proofs.Exchanging.{IsNoAck, IsNoAddress, acked-append, acked_none, acked-map, addressed-append, addressed_none, addressed-map}

-- ---- tests

any_only : (p : Note → Bool) (b : Bool) (xs : List Note) → list_any p (only b xs) ≡ (b && list_any p xs)
any_only p true xs = refl
any_only p false xs = refl

or_end4 : (b : Bool) → (b || false || false || false || false) ≡ b
or_end4 true = refl
or_end4 false = refl

or_end7 : (b : Bool) → (b || false || false || false || false || false || false || false) ≡ b
or_end7 true = refl
or_end7 false = refl

or_end2 : (b : Bool) → (b || false || false) ≡ b
or_end2 true = refl
or_end2 false = refl

or_end1 : (b : Bool) → (b || false) ≡ b
or_end1 true = refl
or_end1 false = refl

none_of_address : (p : Note → Bool) (b : Bool) (xs : List Address) → ((bytes : List ℕ) (port : ℕ) → p (notes.Pex4 bytes port) ≡ false)
    → ((bytes : List ℕ) (port : ℕ) → p (notes.Pex6 bytes port) ≡ false) → list_any p (only b (map address_note xs)) ≡ false
none_of_address p b xs four six = none_mapped p address_note b xs (address_is (λ (note : Note). p note ≡ false) four six)

none_of_turn : (p : Note → Bool) (b : Bool) (turn : Option Turn) → p notes.Choke ≡ false → p notes.Unchoke ≡ false → list_any p (turn_notes b turn) ≡ false
none_of_turn p b None one two = refl
none_of_turn p b (Some Choke) one two = λ t. one t || false
none_of_turn p true (Some Unchoke) one two = λ t. two t || false
none_of_turn p false (Some Unchoke) one two = refl

-- ---- what is told

pub telling : (s : SeatState) (due : Due) (agenda : List Note) (g : IsAgenda s due agenda) (i : ℕ)
    → are_telling agenda i ≡ (((due.tells && s.proven) && has (parts_below s.cursor due.news.now) i) || has g.rows i)
telling s due agenda g i =
    ap (list_any (tells_note i)) g.is ∙ any_kept (tells_note i) _ (spoken_notes s due g.rows g.cancels) refl
    ∙ any_spoken (tells_note i) s due g.rows g.cancels false false ((due.tells && s.proven) && has (parts_below s.cursor due.news.now) i) (has g.rows i) false false false false
    (none_of_turn (tells_note i) s.proven (due_turn s) refl refl)
    (none_mapped (tells_note i) ack_note s.proven due.acknowledgements.now (λ x. refl))
    (any_only (tells_note i) (due.tells && s.proven) _ ∙ ap (λ (b : Bool). (due.tells && s.proven) && b) (haves_tell (parts_below s.cursor due.news.now) i))
    (haves_tell g.rows i)
    (none_mapped (tells_note i) request_note s.proven due.requests.now (λ x. refl))
    (none_mapped (tells_note i) cancel_note true g.cancels (λ x. refl))
    (any_only (tells_note i) (s.proven && due.asks_addresses) _ ∙ and_nothing (s.proven && due.asks_addresses))
    (none_of_address (tells_note i) s.proven due.addresses.now (λ bytes port. refl) (λ bytes port. refl))
    ∙ or_end4 _
  where
    and_nothing : (b : Bool) → (b && false) ≡ false
    and_nothing true = refl
    and_nothing false = refl

pub covers_news : CoversNews
covers_news s due agenda g proven tells i new low =
    telling s due agenda g i ∙ or_left ((due.tells && s.proven) && has (parts_below s.cursor due.news.now) i) (has g.rows i)
    (and_from (due.tells && s.proven) (has (parts_below s.cursor due.news.now) i) (and_from due.tells s.proven tells proven) (parts_have s.cursor due.news.now i new low))

pub covers_rows : CoversRows
covers_rows s due agenda g tells = ⊎_elim
    (λ covers. inl (λ i at is. told i (covers i at is)))
    (λ full. inr (g.rows, full ∙ all, subst (λ (n : ℕ). AreRows s.cursor due.committed.now n g.rows) all g.are_rows, told))
    (rows_cover s.cursor due.committed.now (most_rows due.tells) g.rows g.are_rows)
  where
    all : most_rows due.tells ≡ 64
    all = ap most_rows tells

    told : (i : ℕ) → has g.rows i ≡ true → are_telling agenda i ≡ true
    told i at = telling s due agenda g i ∙ or_right ((due.tells && s.proven) && has (parts_below s.cursor due.news.now) i) (has g.rows i) at

pub knows_no_more : KnowsNoMore
knows_no_more s due agenda new g i told = ⊎_elim
    (λ (below : ((due.tells && s.proven) && has (parts_below s.cursor due.news.now) i) ≡ true).
    parts_known due.committed.now s.cursor (parts_below s.cursor due.news.now) i (parts_are due.committed.now s.cursor due.news.now new) (and_parts (due.tells && s.proven) _ below).1)
    (λ (row : has g.rows i ≡ true).
    parts_known due.committed.now (length due.committed.now) g.rows i (rows_are_committed s.cursor due.committed.now (most_rows due.tells) g.rows g.are_rows) row)
    (or_cases ((due.tells && s.proven) && has (parts_below s.cursor due.news.now) i) (has g.rows i) (sym (telling s due agenda g i) ∙ told))

-- ---- what is cancelled

pub cancels_all : CancelsAll
cancels_all s due agenda g i =
    ap (list_any (cancels_note i)) g.is ∙ any_kept (cancels_note i) _ (spoken_notes s due g.rows g.cancels) refl
    ∙ any_spoken (cancels_note i) s due g.rows g.cancels false false false false false (has g.cancels i) false false
    (none_of_turn (cancels_note i) s.proven (due_turn s) refl refl)
    (none_mapped (cancels_note i) ack_note s.proven due.acknowledgements.now (λ x. refl))
    (none_mapped (cancels_note i) have_note (due.tells && s.proven) (parts_below s.cursor due.news.now) (λ x. refl))
    (none_mapped (cancels_note i) have_note true g.rows (λ x. refl))
    (none_mapped (cancels_note i) request_note s.proven due.requests.now (λ x. refl))
    (cancels_drop g.cancels i)
    (any_only (cancels_note i) (s.proven && due.asks_addresses) _ ∙ and_nothing (s.proven && due.asks_addresses))
    (none_of_address (cancels_note i) s.proven due.addresses.now (λ bytes port. refl) (λ bytes port. refl))
    ∙ or_end2 _ ∙ g.cancelled i
  where
    and_nothing : (b : Bool) → (b && false) ≡ false
    and_nothing true = refl
    and_nothing false = refl

-- ---- whose turn it is

choke_turn : (b : Bool) (turn : Option Turn) → list_any is_choke (turn_notes b turn) ≡ is_choke_due turn
choke_turn b None = refl
choke_turn b (Some Choke) = refl
choke_turn true (Some Unchoke) = refl
choke_turn false (Some Unchoke) = refl

unchoke_turn : (b : Bool) (turn : Option Turn) → list_any is_unchoke (turn_notes b turn) ≡ (b && is_unchoke_due turn)
unchoke_turn true None = refl
unchoke_turn false None = refl
unchoke_turn true (Some Choke) = refl
unchoke_turn false (Some Choke) = refl
unchoke_turn true (Some Unchoke) = refl
unchoke_turn false (Some Unchoke) = refl

-- a test that only CHOKE or UNCHOKE passes
turn_alone : (p : Note → Bool) (s : SeatState) (due : Due) (agenda : List Note) (t : Bool) → IsAgenda s due agenda → p notes.KeepAlive ≡ false
    → ((x : Acknowledgement) → p (ack_note x) ≡ false) → ((x : Span) → p (have_note x) ≡ false) → ((x : Span) → p (request_note x) ≡ false)
    → ((x : Span) → p (cancel_note x) ≡ false) → p notes.PexReq ≡ false → ((bytes : List ℕ) (port : ℕ) → p (notes.Pex4 bytes port) ≡ false)
    → ((bytes : List ℕ) (port : ℕ) → p (notes.Pex6 bytes port) ≡ false) → list_any p (turn_notes s.proven (due_turn s)) ≡ t → list_any p agenda ≡ t
turn_alone p s due agenda t g alive acks haves requests cancels question four six is =
    ap (list_any p) g.is ∙ any_kept p _ (spoken_notes s due g.rows g.cancels) alive
    ∙ any_spoken p s due g.rows g.cancels t false false false false false false false is
    (none_mapped p ack_note s.proven due.acknowledgements.now acks)
    (none_mapped p have_note (due.tells && s.proven) (parts_below s.cursor due.news.now) haves)
    (none_mapped p have_note true g.rows haves)
    (none_mapped p request_note s.proven due.requests.now requests)
    (none_mapped p cancel_note true g.cancels cancels)
    (any_only p (s.proven && due.asks_addresses) _ ∙ and_nothing (s.proven && due.asks_addresses) (p notes.PexReq) question)
    (none_of_address p s.proven due.addresses.now four six)
    ∙ or_end7 t
  where
    and_nothing : (b q : Bool) → q ≡ false → (b && (q || false)) ≡ false
    and_nothing true q e = λ t. e t || false
    and_nothing false q e = refl

pub chokes_where_due : ChokesWhereDue
chokes_where_due s due agenda g = record {
  chokes = turn_alone is_choke s due agenda (is_choke_due (due_turn s)) g refl (λ x. refl) (λ x. refl) (λ x. refl) (λ x. refl) refl (λ b p. refl) (λ b p. refl)
      (choke_turn s.proven (due_turn s));
  unchokes = turn_alone is_unchoke s due agenda (s.proven && is_unchoke_due (due_turn s)) g refl (λ x. refl) (λ x. refl) (λ x. refl) (λ x. refl) refl (λ b p. refl) (λ b p. refl)
      (unchoke_turn s.proven (due_turn s));
}

pub never_silent : IsNeverSilent
never_silent s due agenda g may silent = subst (λ (xs : List Note). 0 < length xs) (sym g.is)
    (some ((due.tells || s.proven) && due.is_silent) (spoken_notes s due g.rows g.cancels) (and_from (due.tells || s.proven) due.is_silent (⊎_elim (or_left due.tells s.proven) (or_right due.tells s.proven) may) silent))
  where
    some : (b : Bool) (xs : List Note) → b ≡ true → 0 < length (or_keep_alive b xs)
    some true [] e = omega arith
    some false [] e = absurd cc
    some b (x ∷ xs) e = omega arith

-- ---- what is exchanged

four_ends : {X : Type 0} (q : List X) → [] ++ q ++ [] ++ [] ++ [] ≡ q
four_ends q = append-nil (q ++ [] ++ []) ∙ append-nil (q ++ []) ∙ append-nil q

six_ends : {X : Type 0} (a : List X) → a ++ [] ++ [] ++ [] ++ [] ++ [] ++ [] ≡ a
six_ends a = append-nil (a ++ [] ++ [] ++ [] ++ [] ++ []) ∙ append-nil (a ++ [] ++ [] ++ [] ++ []) ∙ append-nil (a ++ [] ++ [] ++ []) ∙ append-nil (a ++ [] ++ []) ∙ append-nil (a ++ [])
    ∙ append-nil a

-- what is read of the notes of one kind, where none of it can be read of them
none_asked : {X : Type 0} (b : Bool) (f : X → Note) (xs : List X) → ((x : X) → IsNoRequest (f x)) → requested (only b (map f xs)) ≡ []
none_asked b f xs h = requested_none (only b (map f xs)) (all_only IsNoRequest b (map f xs) (all_mapped IsNoRequest f xs (all_same (λ x. IsNoRequest (f x)) xs h)))

none_acked : {X : Type 0} (b : Bool) (f : X → Note) (xs : List X) → ((x : X) → IsNoAck (f x)) → acked (only b (map f xs)) ≡ []
none_acked b f xs h = acked_none (only b (map f xs)) (all_only IsNoAck b (map f xs) (all_mapped IsNoAck f xs (all_same (λ x. IsNoAck (f x)) xs h)))

none_addressed : {X : Type 0} (b : Bool) (f : X → Note) (xs : List X) → ((x : X) → IsNoAddress (f x)) → addressed (only b (map f xs)) ≡ []
none_addressed b f xs h = addressed_none (only b (map f xs)) (all_only IsNoAddress b (map f xs) (all_mapped IsNoAddress f xs (all_same (λ x. IsNoAddress (f x)) xs h)))

pub asked_are : (s : SeatState) (due : Due) (rows cancels : List Span) → requested (spoken_notes s due rows cancels) ≡ cond s.proven due.requests.now []
asked_are s due rows cancels =
    read_spoken requested requested-append s due rows cancels [] [] [] [] (cond s.proven due.requests.now []) [] [] []
    (requested_none _ (all_turn IsNoRequest s.proven (due_turn s) tt tt))
    (none_asked s.proven ack_note due.acknowledgements.now (λ x. tt))
    (none_asked (due.tells && s.proven) have_note (parts_below s.cursor due.news.now) (λ x. tt))
    (none_asked true have_note rows (λ x. tt))
    (read_only requested s.proven (map request_note due.requests.now) due.requests.now refl (requested-map due.requests.now))
    (none_asked true cancel_note cancels (λ x. tt))
    (requested_none _ (all_only IsNoRequest (s.proven && due.asks_addresses) (notes.PexReq ∷ []) (tt, tt)))
    (none_asked s.proven address_note due.addresses.now (address_is IsNoRequest (λ b p. tt) (λ b p. tt)))
    ∙ four_ends (cond s.proven due.requests.now [])

acked_are : (s : SeatState) (due : Due) (rows cancels : List Span) → acked (spoken_notes s due rows cancels) ≡ cond s.proven due.acknowledgements.now []
acked_are s due rows cancels =
    read_spoken acked acked-append s due rows cancels [] (cond s.proven due.acknowledgements.now []) [] [] [] [] [] []
    (acked_none _ (all_turn IsNoAck s.proven (due_turn s) tt tt))
    (read_only acked s.proven (map ack_note due.acknowledgements.now) due.acknowledgements.now refl (acked-map due.acknowledgements.now))
    (none_acked (due.tells && s.proven) have_note (parts_below s.cursor due.news.now) (λ x. tt))
    (none_acked true have_note rows (λ x. tt))
    (none_acked s.proven request_note due.requests.now (λ x. tt))
    (none_acked true cancel_note cancels (λ x. tt))
    (acked_none _ (all_only IsNoAck (s.proven && due.asks_addresses) (notes.PexReq ∷ []) (tt, tt)))
    (none_acked s.proven address_note due.addresses.now (address_is IsNoAck (λ b p. tt) (λ b p. tt)))
    ∙ six_ends (cond s.proven due.acknowledgements.now [])

addressed_are : (s : SeatState) (due : Due) (rows cancels : List Span) → addressed (spoken_notes s due rows cancels) ≡ cond s.proven due.addresses.now []
addressed_are s due rows cancels =
    read_spoken addressed addressed-append s due rows cancels [] [] [] [] [] [] [] (cond s.proven due.addresses.now [])
    (addressed_none _ (all_turn IsNoAddress s.proven (due_turn s) tt tt))
    (none_addressed s.proven ack_note due.acknowledgements.now (λ x. tt))
    (none_addressed (due.tells && s.proven) have_note (parts_below s.cursor due.news.now) (λ x. tt))
    (none_addressed true have_note rows (λ x. tt))
    (none_addressed s.proven request_note due.requests.now (λ x. tt))
    (none_addressed true cancel_note cancels (λ x. tt))
    (addressed_none _ (all_only IsNoAddress (s.proven && due.asks_addresses) (notes.PexReq ∷ []) (tt, tt)))
    (read_only addressed s.proven (map address_note due.addresses.now) due.addresses.now refl (addressed-map due.addresses.now))

question_is : (s : SeatState) (due : Due) (agenda : List Note) → IsAgenda s due agenda → list_any is_address_request agenda ≡ (s.proven && due.asks_addresses)
question_is s due agenda g =
    ap (list_any is_address_request) g.is ∙ any_kept is_address_request _ (spoken_notes s due g.rows g.cancels) refl
    ∙ any_spoken is_address_request s due g.rows g.cancels false false false false false false (s.proven && due.asks_addresses) false
    (none_of_turn is_address_request s.proven (due_turn s) refl refl)
    (none_mapped is_address_request ack_note s.proven due.acknowledgements.now (λ x. refl))
    (none_mapped is_address_request have_note (due.tells && s.proven) (parts_below s.cursor due.news.now) (λ x. refl))
    (none_mapped is_address_request have_note true g.rows (λ x. refl))
    (none_mapped is_address_request request_note s.proven due.requests.now (λ x. refl))
    (none_mapped is_address_request cancel_note true g.cancels (λ x. refl))
    (any_only is_address_request (s.proven && due.asks_addresses) _ ∙ and_all (s.proven && due.asks_addresses))
    (none_of_address is_address_request s.proven due.addresses.now (λ bytes port. refl) (λ bytes port. refl))
    ∙ or_end1 _
  where
    and_all : (b : Bool) → (b && true) ≡ b
    and_all true = refl
    and_all false = refl

pub exchanges_all : ExchangesAll
exchanges_all s due agenda g = record {
  acknowledges = ap acked g.is ∙ read_kept acked _ (spoken_notes s due g.rows g.cancels) refl ∙ acked_are s due g.rows g.cancels;
  asks = ap requested g.is ∙ read_kept requested _ (spoken_notes s due g.rows g.cancels) refl ∙ asked_are s due g.rows g.cancels;
  asks_addresses = question_is s due agenda g;
  tells_addresses = ap addressed g.is ∙ read_kept addressed _ (spoken_notes s due g.rows g.cancels) refl ∙ addressed_are s due g.rows g.cancels;
}

-- ---- what may be said

plain_are : (s : SeatState) (due : Due) (rows cancels : List Span) → OfEach IsPlain s due rows cancels
plain_are s due rows cancels = record {
  choke = tt;
  unchoke = tt;
  acks = all_same (λ (x : Acknowledgement). IsPlain (ack_note x)) due.acknowledgements.now (λ x. tt);
  news = all_same (λ (x : Span). IsPlain (have_note x)) (parts_below s.cursor due.news.now) (λ x. tt);
  told = all_same (λ (x : Span). IsPlain (have_note x)) rows (λ x. tt);
  asked = all_same (λ (x : Span). IsPlain (request_note x)) due.requests.now (λ x. tt);
  dropped = all_same (λ (x : Span). IsPlain (cancel_note x)) cancels (λ x. tt);
  question = tt;
  answers = all_same (λ (x : Address). IsPlain (address_note x)) due.addresses.now (address_is IsPlain (λ b p. tt) (λ b p. tt));
}

inside_are : (d : Descriptor) (s : SeatState) (due : Due) (agenda : List Note) → IsPlaced (chunks_of d) due → (g : IsAgenda s due agenda) → OfEach (IsInside d) s due g.rows g.cancels
inside_are d s due agenda f g = record {
  choke = tt;
  unchoke = tt;
  acks = all_turned (λ (x : Acknowledgement). IsCommitted due.committed.now x.range) (λ (x : Acknowledgement). IsInside d (ack_note x)) due.acknowledgements.now (λ x is. inside x.range is) f.came;
  news = all_turned (IsPart due.committed.now s.cursor) (λ (x : Span). IsInside d (have_note x)) (parts_below s.cursor due.news.now) (λ x is. inside x is.committed_is)
      (parts_are due.committed.now s.cursor due.news.now f.new);
  told = all_turned (IsPart due.committed.now (length due.committed.now)) (λ (x : Span). IsInside d (have_note x)) g.rows (λ x is. inside x is.committed_is)
      (rows_are_committed s.cursor due.committed.now (most_rows due.tells) g.rows g.are_rows);
  asked = f.inside;
  dropped = subst (λ (n : ℕ). AllByRecursion (λ (x : Span). x.last < n) g.cancels) f.size
      (runs_inside due.committed.now 0 g.cancels g.runs (λ i at. committed_too s.proven (is_some (asked_at s.own i)) (get_or due.committed.now i false) (sym (g.cancelled i) ∙ at)));
  question = tt;
  answers = all_same (λ (x : Address). IsInside d (address_note x)) due.addresses.now (address_is (IsInside d) (λ b p. tt) (λ b p. tt));
}
  where
    inside : (range : Span) → IsCommitted due.committed.now range → range.last < chunks_of d
    inside range is = subst (λ (n : ℕ). range.last < n) f.size (committed_below due.committed.now range is)

    committed_too : (a b c : Bool) → (a && (b && c)) ≡ true → c ≡ true
    committed_too a b c all = (and_parts b c (and_parts a (b && c) all).1).1

announced_are : (held : ℕ → Bool) (s : SeatState) (due : Due) (agenda : List Note) (chunks : ℕ) → IsPlaced chunks due → ((i : ℕ) → held i ≡ get_or due.committed.now i false)
    → (g : IsAgenda s due agenda) → OfEach (Announces held) s due g.rows g.cancels
announced_are held s due agenda chunks f same g = record {
  choke = tt;
  unchoke = tt;
  acks = all_turned (λ (x : Acknowledgement). IsCommitted due.committed.now x.range) (λ (x : Acknowledgement). Announces held (ack_note x)) due.acknowledgements.now (λ x is i at. same i ∙ is.each i at) f.came;
  news = all_turned (IsPart due.committed.now s.cursor) (λ (x : Span). Announces held (have_note x)) (parts_below s.cursor due.news.now) (λ x is i at. same i ∙ is.committed_is.each i at)
      (parts_are due.committed.now s.cursor due.news.now f.new);
  told = all_turned (IsPart due.committed.now (length due.committed.now)) (λ (x : Span). Announces held (have_note x)) g.rows (λ x is i at. same i ∙ is.committed_is.each i at)
      (rows_are_committed s.cursor due.committed.now (most_rows due.tells) g.rows g.are_rows);
  asked = all_same (λ (x : Span). Announces held (request_note x)) due.requests.now (λ x. tt);
  dropped = all_same (λ (x : Span). Announces held (cancel_note x)) g.cancels (λ x. tt);
  question = tt;
  answers = all_same (λ (x : Address). Announces held (address_note x)) due.addresses.now (address_is (Announces held) (λ b p. tt) (λ b p. tt));
}

-- the notes before the rows leave the cursor where it is
passes_are : (held : ℕ → Bool) (s : SeatState) (due : Due) (agenda : List Note) (chunks : ℕ) → IsPlaced chunks due → ((i : ℕ) → held i ≡ get_or due.committed.now i false)
    → (g : IsAgenda s due agenda) → PassesAll held s.cursor (spoken_notes s due g.rows g.cancels)
passes_are held s due agenda chunks f same g =
    passes_both held s.cursor _ _ (passes_both held s.cursor _ _ (passes_both held s.cursor _ _ (passes_both held s.cursor _ _
    (passes_both held s.cursor (quiet ++ news) (map have_note g.rows)
    (passes_both held s.cursor quiet news (quiet_passes held s.cursor quiet quiets)
    (subst (λ (n : ℕ). PassesAll held n news) (sym (quiet_stays s.cursor quiet quiets)) (news_pass (due.tells && s.proven))))
    (subst (λ (n : ℕ). PassesAll held n (map have_note g.rows)) (sym (stays_both s.cursor quiet news (quiet_stays s.cursor quiet quiets) (news_stay (due.tells && s.proven))))
    (rows_pass held s.cursor due.committed.now (most_rows due.tells) g.rows same g.are_rows)))
    (quiet_passes held _ _ (of_kind s.proven request_note due.requests.now (λ x. tt))))
    (quiet_passes held _ _ (of_kind true cancel_note g.cancels (λ x. tt))))
    (quiet_passes held _ _ (all_only IsQuiet (s.proven && due.asks_addresses) (notes.PexReq ∷ []) (tt, tt))))
    (quiet_passes held _ _ (of_kind s.proven address_note due.addresses.now (address_is IsQuiet (λ b p. tt) (λ b p. tt))))
  where
    quiet : List Note
    quiet = turn_notes s.proven (due_turn s) ++ only s.proven (map ack_note due.acknowledgements.now)

    news : List Note
    news = only (due.tells && s.proven) (map have_note (parts_below s.cursor due.news.now))

    of_kind : {X : Type 0} (b : Bool) (kind : X → Note) (xs : List X) → ((x : X) → IsQuiet (kind x)) → AllByRecursion IsQuiet (only b (map kind xs))
    of_kind b kind xs h = all_only IsQuiet b (map kind xs) (all_mapped IsQuiet kind xs (all_same (λ x. IsQuiet (kind x)) xs h))

    quiets : AllByRecursion IsQuiet quiet
    quiets = all_both IsQuiet (turn_notes s.proven (due_turn s)) (only s.proven (map ack_note due.acknowledgements.now))
        (all_turn IsQuiet s.proven (due_turn s) tt tt) (of_kind s.proven ack_note due.acknowledgements.now (λ x. tt))

    parts : AllByRecursion (IsPassed s.cursor) (parts_below s.cursor due.news.now)
    parts = all_turned (IsPart due.committed.now s.cursor) (IsPassed s.cursor) (parts_below s.cursor due.news.now)
        (λ x is. record { first = (let a = is.committed_is.order in let b = is.below in omega arith); last = is.below }) (parts_are due.committed.now s.cursor due.news.now f.new)

    news_pass : (b : Bool) → PassesAll held s.cursor (only b (map have_note (parts_below s.cursor due.news.now)))
    news_pass true = passed_pass held s.cursor (parts_below s.cursor due.news.now) parts
    news_pass false = tt

    news_stay : (b : Bool) → cursor_after s.cursor (only b (map have_note (parts_below s.cursor due.news.now))) ≡ s.cursor
    news_stay true = passed_stay s.cursor (parts_below s.cursor due.news.now) parts
    news_stay false = refl

first_are : (s : SeatState) (due : Due) (rows cancels : List Span) → AsksFirst (spoken_notes s due rows cancels)
first_are s due rows cancels =
    first_behind (front ++ dropped ++ question) answers (first_behind (front ++ dropped) question (first_behind front dropped (first_alone front
    (all_both IsNoCancel _ _ (all_both IsNoCancel _ _ (all_both IsNoCancel _ _ (all_both IsNoCancel _ _
    (all_turn IsNoCancel s.proven (due_turn s) tt tt)
    (uncancelled s.proven ack_note due.acknowledgements.now (λ x. tt)))
    (uncancelled (due.tells && s.proven) have_note (parts_below s.cursor due.news.now) (λ x. tt)))
    (uncancelled true have_note rows (λ x. tt)))
    (uncancelled s.proven request_note due.requests.now (λ x. tt))))
    (unasked true cancel_note cancels (λ x. tt)))
    (all_only IsNoRequest (s.proven && due.asks_addresses) (notes.PexReq ∷ []) (tt, tt)))
    (unasked s.proven address_note due.addresses.now (address_is IsNoRequest (λ b p. tt) (λ b p. tt)))
  where
    front : List Note
    front = turn_notes s.proven (due_turn s) ++ only s.proven (map ack_note due.acknowledgements.now)
        ++ only (due.tells && s.proven) (map have_note (parts_below s.cursor due.news.now)) ++ map have_note rows ++ only s.proven (map request_note due.requests.now)

    dropped : List Note
    dropped = map cancel_note cancels

    question : List Note
    question = only (s.proven && due.asks_addresses) (notes.PexReq ∷ [])

    answers : List Note
    answers = only s.proven (map address_note due.addresses.now)

    uncancelled : {X : Type 0} (b : Bool) (kind : X → Note) (xs : List X) → ((x : X) → IsNoCancel (kind x)) → AllByRecursion IsNoCancel (only b (map kind xs))
    uncancelled b kind xs h = all_only IsNoCancel b (map kind xs) (all_mapped IsNoCancel kind xs (all_same (λ x. IsNoCancel (kind x)) xs h))

    unasked : {X : Type 0} (b : Bool) (kind : X → Note) (xs : List X) → ((x : X) → IsNoRequest (kind x)) → AllByRecursion IsNoRequest (only b (map kind xs))
    unasked b kind xs h = all_only IsNoRequest b (map kind xs) (all_mapped IsNoRequest kind xs (all_same (λ x. IsNoRequest (kind x)) xs h))

-- what holds of all notes and of KEEPALIVE
of_agenda : (P : List Note → Type 0) (s : SeatState) (due : Due) (agenda : List Note) (g : IsAgenda s due agenda) → P (notes.KeepAlive ∷ [])
    → P (spoken_notes s due g.rows g.cancels) → P agenda
of_agenda P s due agenda g alive is =
    subst P (sym g.is) (kept P ((due.tells || s.proven) && due.is_silent) (spoken_notes s due g.rows g.cancels) alive is)

pub all_may_go : AllMayGo
all_may_go d s due agenda f g = record {
  plain = of_agenda (AllByRecursion IsPlain) s due agenda g (tt, tt) (all_spoken IsPlain s due g.rows g.cancels (plain_are s due g.rows g.cancels));
  inside = of_agenda (AllByRecursion (IsInside d)) s due agenda g (tt, tt)
      (all_spoken (IsInside d) s due g.rows g.cancels (inside_are d s due agenda f g));
  few = (let a = g.few in omega arith);
}

pub may_be_said : MayBeSaid
may_be_said d held s due agenda f same g = record {
  goes = all_may_go d s due agenda f.placed g;
  may = record {
    announces = by (AllByRecursion (Announces held)) (tt, tt)
        (all_spoken (Announces held) s due g.rows g.cancels (announced_are held s due agenda (chunks_of d) f.placed same g));
    passes = by (PassesAll held s.cursor) (tt, tt) (passes_are held s due agenda (chunks_of d) f.placed same g);
    first = by AsksFirst tt (first_are s due g.rows g.cancels);
    fit = subst (λ (ranges : List Span). FitAll ranges s.own) (sym (exchanges_all s due agenda g).asks) (fits s.proven);
  };
}
  where
    by : (P : List Note → Type 0) → P (notes.KeepAlive ∷ []) → P (spoken_notes s due g.rows g.cancels) → P agenda
    by P alive is = of_agenda P s due agenda g alive is

    fits : (b : Bool) → FitAll (cond b due.requests.now []) s.own
    fits true = f.fit
    fits false = tt
