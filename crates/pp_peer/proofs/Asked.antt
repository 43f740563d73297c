-- Which chunks are awaited on a channel, once notes were delivered there.
use Rattle.std.proofs.Common.{◌≡◌, ◌⊎◌, inl, inr, ⊎_elim, ℕ, ◌+◌, Bool, true, false, cond, Option, Some, None, List, [], ◌∷◌, ◌++◌, refl, sym, ◌∙◌, ap, subst}
use Rattle.std.specs.Prelude.{is_some}
use Rattle.std.proofs.lemmas.Bool.{cases_Bool, or_left, or_right}
use Rattle.std.proofs.lemmas.List.Folds.{list_any-append}
use Rattle.pp_terms.specs.tree.Range.{Span, within, has}
use Rattle.pp_ranges.proofs.Runs.{append_has}
use Rattle.pp_requests.proofs.Chunks.{asked_spared}
use Rattle.pp_requests.specs.declared.asking.Asking.{Asking}
use Rattle.pp_requests.specs.Moments.{asked_at}
use Rattle.pp_draft.specs.declared.note.Note.{Note}
use Rattle.pp_draft.specs.declared.note.Note.TheVariants.{KeepAlive, Handshake, Close, Choke, Unchoke, Ack, Have, Request, Cancel, PexReq, Pex4, Pex6}
use Rattle.pp_fetching.specs.Owners.{awaits}
use Rattle.pp_seat.specs.Seats.{SeatState}
use Rattle.pp_desk.specs.Steps.{Moves, AreAfter, Follow}
use Rattle.pp_desk.specs.Delivers.{Way, Batch, At, DeliversEach, notes_of}
use Rattle.pp_seats.specs.Sending.{requested, AsksFirst, FitAll}
use Rattle.pp_seats.proofs.Waits.{fit_of, fit_asked, none_first, refused_notes}
use Rattle.pp_agenda.specs.Laws.{cancels_note, are_cancelling}
use Rattle.pp_agenda.proofs.Passing.{requested-append}

-- Of what is awaited then and wasn't before, one kind holds, and of what was and isn't, another; and the rest of the notes may go.
pub record Grown (came left : ℕ → Type 0) (more : List Note) (old new : List Asking) : Type 0 where
  pub more_are : (i : ℕ) → awaits new i ≡ true → (awaits old i ≡ true) ⊎ came i
  pub fewer_are : (i : ℕ) → awaits old i ≡ true → (awaits new i ≡ true) ⊎ left i
  pub first : AsksFirst more
  pub fit : FitAll (requested more) new

-- what the notes behind others ask for and cancel
abbrev Asks : (ℕ → Type 0) → List Note → Type 0
Asks came notes = (i : ℕ) → has (requested notes) i ≡ true → came i

abbrev Cancels : (ℕ → Type 0) → List Note → Type 0
Cancels left notes = (i : ℕ) → are_cancelling notes i ≡ true → left i

asks_later : (came : ℕ → Type 0) (notes more : List Note) → Asks came (notes ++ more) → Asks came more
asks_later came notes more r i at = r i
    (ap (λ (xs : List Span). has xs i) (requested-append notes more) ∙ append_has (requested notes) (requested more) i
    ∙ or_right (has (requested notes) i) (has (requested more) i) at)

cancels_later : (left : ℕ → Type 0) (notes more : List Note) → Cancels left (notes ++ more) → Cancels left more
cancels_later left notes more c i at = c i
    (list_any-append (cancels_note i) notes more ∙ or_right (are_cancelling notes i) (are_cancelling more i) at)

-- ---- notes that were sent

unchoked_own : (old mid : SeatState) → (old.choked ≡ true → mid ≡ record old { slot = true; choked = false; owes = false }) × (old.choked ≡ false → mid ≡ old)
    → mid.own ≡ old.own
unchoked_own old mid h = ⊎_elim (λ yes. ap (λ (s : SeatState). s.own) (h.0 yes)) (λ no. ap (λ (s : SeatState). s.own) (h.1 no)) (cases_Bool old.choked)

moved_own : (back : Bool) (end : ℕ) (old mid : SeatState) → Moves back end old mid → mid.own ≡ old.own
moved_own true end old mid h = ap (λ (s : SeatState). s.own) h
moved_own false end old mid h = ap (λ (s : SeatState). s.own) h

module _ (came left : ℕ → Type 0) (now : ℕ) (back : Bool) (more : List Note) where
  -- a note that leaves the own requests
  idle : (notes : List Note) (old mid new : List Asking) → mid ≡ old → FitAll (requested (notes ++ more)) old
      → (FitAll (requested (notes ++ more)) mid → Grown came left more mid new) → Grown came left more old new
  idle notes old mid new same f go = subst (λ (own : List Asking). Grown came left more own new) same
      (go (subst (λ (own : List Asking). FitAll (requested (notes ++ more)) own) (sym same) f))

  asked_one : (range : Span) (i m : ℕ) (b : Bool) (old mid : List Asking) → within range i ≡ b → asked_at mid i ≡ cond b (Some m) (asked_at old i)
      → awaits mid i ≡ true → (awaits old i ≡ true) ⊎ (within range i ≡ true)
  asked_one range i m true old mid is at e = inr is
  asked_one range i m false old mid is at e = inl (sym (ap (λ (o : Option ℕ). is_some o) at) ∙ e)

  kept_one : (i m : ℕ) (b : Bool) (old mid : List Asking) → asked_at mid i ≡ cond b (Some m) (asked_at old i) → awaits old i ≡ true → awaits mid i ≡ true
  kept_one i m true old mid at e = ap (λ (o : Option ℕ). is_some o) at
  kept_one i m false old mid at e = ap (λ (o : Option ℕ). is_some o) at ∙ e

  cancelled_one : (range : Span) (i : ℕ) (b : Bool) (old mid : List Asking) → within range i ≡ b → asked_at mid i ≡ cond b None (asked_at old i)
      → awaits old i ≡ true → (awaits mid i ≡ true) ⊎ (within range i ≡ true)
  cancelled_one range i true old mid is at e = inr is
  cancelled_one range i false old mid is at e = inl (ap (λ (o : Option ℕ). is_some o) at ∙ e)

  no_more_one : (i : ℕ) (b : Bool) (old mid : List Asking) → asked_at mid i ≡ cond b None (asked_at old i) → awaits mid i ≡ true → awaits old i ≡ true
  no_more_one i true old mid at e = let none : None ≡ Some i = absurd (let x = sym (ap (λ (o : Option ℕ). is_some o) at) ∙ e in cc) in absurd cc
  no_more_one i false old mid at e = sym (ap (λ (o : Option ℕ). is_some o) at) ∙ e

  sent_own : (notes : List Note) (old new : SeatState) → AreAfter now back notes old new → AsksFirst (notes ++ more) → FitAll (requested (notes ++ more)) old.own
      → Asks came (notes ++ more) → Cancels left (notes ++ more) → Grown came left more old.own new.own
  sent_own [] old new h a f r c = idle [] old.own new.own new.own (ap (λ (s : SeatState). s.own) h) f
      (λ f. record { more_are = λ i e. inl e; fewer_are = λ i e. inl e; first = a; fit = f })
  sent_own (KeepAlive ∷ notes) old new h a f r c =
      idle notes old.own h.0.own new.own (ap (λ (s : SeatState). s.own) h.1) f (λ f. sent_own notes h.0 new h.2 a f r c)
  sent_own (Handshake source ∷ notes) old new h a f r c =
      idle notes old.own h.0.own new.own (ap (λ (s : SeatState). s.own) h.1) f (λ f. sent_own notes h.0 new h.2 a f r c)
  sent_own (Close ∷ notes) old new h a f r c =
      idle notes old.own h.0.own new.own (ap (λ (s : SeatState). s.own) h.1) f (λ f. sent_own notes h.0 new h.2 a f r c)
  sent_own (Choke ∷ notes) old new h a f r c =
      idle notes old.own h.0.own new.own (ap (λ (s : SeatState). s.own) h.1) f (λ f. sent_own notes h.0 new h.2 a f r c)
  sent_own (Unchoke ∷ notes) old new h a f r c =
      idle notes old.own h.0.own new.own (unchoked_own old h.0 h.1) f (λ f. sent_own notes h.0 new h.2 a f r c)
  sent_own (Ack range delay ∷ notes) old new h a f r c =
      idle notes old.own h.0.own new.own (ap (λ (s : SeatState). s.own) h.1) f (λ f. sent_own notes h.0 new h.2 a f r c)
  sent_own (Have range ∷ notes) old new h a f r c =
      idle notes old.own h.0.own new.own (moved_own back (range.last + 1) old h.0 h.1) f (λ f. sent_own notes h.0 new h.2 a f r c)
  sent_own (Request range ∷ notes) old new h a f r c =
      let asks = h.1.1 (fit_of range (requested (notes ++ more)) old.own f) in
      let rest = sent_own notes h.0 new h.2 a (fit_asked range (requested (notes ++ more)) now old.own h.0.own f asks)
      (λ i at. r i (or_right (within range i) (has (requested (notes ++ more)) i) at)) c in
      record {
        more_are = λ i e. ⊎_elim
            (λ was. ⊎_elim (λ before. inl before) (λ here. inr (r i (or_left (within range i) (has (requested (notes ++ more)) i) here)))
            (asked_one range i now (within range i) old.own h.0.own refl (asks.asked i) was))
            (λ it. inr it) (rest.more_are i e);
        fewer_are = λ i e. rest.fewer_are i (kept_one i now (within range i) old.own h.0.own (asks.asked i) e);
        first = rest.first;
        fit = rest.fit;
      }
  sent_own (Cancel range ∷ notes) old new h a f r c =
      let rest = sent_own notes h.0 new h.2 (none_first (notes ++ more) a) (subst (λ (xs : List Span). FitAll xs h.0.own) (sym a) tt) r
      (λ i at. c i (or_right (within range i) (are_cancelling (notes ++ more) i) at)) in
      record {
        more_are = λ i e. ⊎_elim (λ was. inl (no_more_one i (within range i) old.own h.0.own (asked_spared (within range i) i old.own h.0.own (h.1.1 i)) was)) (λ it. inr it) (rest.more_are i e);
        fewer_are = λ i e. ⊎_elim (λ mid. rest.fewer_are i mid)
            (λ here. inr (c i (or_left (within range i) (are_cancelling (notes ++ more) i) here)))
            (cancelled_one range i (within range i) old.own h.0.own refl (asked_spared (within range i) i old.own h.0.own (h.1.1 i)) e);
        first = rest.first;
        fit = rest.fit;
      }
  sent_own (PexReq ∷ notes) old new h a f r c =
      idle notes old.own h.0.own new.own (ap (λ (s : SeatState). s.own) h.1) f (λ f. sent_own notes h.0 new h.2 a f r c)
  sent_own (Pex4 address port ∷ notes) old new h a f r c =
      idle notes old.own h.0.own new.own (ap (λ (s : SeatState). s.own) h.1) f (λ f. sent_own notes h.0 new h.2 a f r c)
  sent_own (Pex6 address port ∷ notes) old new h a f r c =
      idle notes old.own h.0.own new.own (ap (λ (s : SeatState). s.own) h.1) f (λ f. sent_own notes h.0 new h.2 a f r c)

-- ---- a delivery

one_own : (came left : ℕ → Type 0) (now : ℕ) (sent back : Bool) (notes more : List Note) (old new : SeatState) → Follow now back sent notes old new
    → AsksFirst (notes ++ more) → FitAll (requested (notes ++ more)) old.own → Asks came (notes ++ more) → Cancels left (notes ++ more)
    → Grown came left more old.own new.own
one_own came left now true back notes more old new h a f r c = sent_own came left now back more notes old new h.after a f r c
one_own came left now false back notes more old new h a f r c =
    let same = ap (λ (s : SeatState). s.own) h in
    let rest = refused_notes notes more old.own a f in
    subst (λ (own : List Asking). Grown came left more old.own own) (sym same)
    (record { more_are = λ i e. inl e; fewer_are = λ i e. inl e; first = rest.0; fit = rest.1 })

pub delivered_own : (came left : ℕ → Type 0) (w : Way) (bs : List Batch) (old new : At) → DeliversEach w bs old new → AsksFirst (notes_of bs)
    → FitAll (requested (notes_of bs)) old.seat.own → Asks came (notes_of bs) → Cancels left (notes_of bs) → Grown came left [] old.seat.own new.seat.own
delivered_own came left w [] old new h a f r c =
    subst (λ (x : At). Grown came left [] old.seat.own x.seat.own) (sym h) (record { more_are = λ i e. inl e; fewer_are = λ i e. inl e; first = tt; fit = tt })
delivered_own came left w (b ∷ bs) old new h a f r c =
    let one = one_own came left w.now b.sent old.so_far.set_back b.notes (notes_of bs) old.seat h.0.seat h.1.seat a f r c in
    let rest = delivered_own came left w bs h.0 new h.2 one.first one.fit (asks_later came b.notes (notes_of bs) r) (cancels_later left b.notes (notes_of bs) c) in
    record {
      more_are = λ i e. ⊎_elim (λ mid. one.more_are i mid) (λ it. inr it) (rest.more_are i e);
      fewer_are = λ i e. ⊎_elim (λ mid. rest.fewer_are i mid) (λ it. inr it) (one.fewer_are i e);
      first = tt;
      fit = tt;
    }
