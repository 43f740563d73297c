-- Which chunks a seat waits for, once notes were sent or refused.
use Rattle.std.proofs.Common.{◌≡◌, ⊎_elim, ℕ, ◌+◌, Bool, true, false, cond, Some, List, [], ◌∷◌, ◌++◌, map, sym, ◌∙◌, ap, subst, arith}
use Rattle.std.proofs.lemmas.Bool.{cases_Bool, both_ways, or_left, or_right, cond-false}
use Rattle.pp_terms.specs.format.Descriptor.{Descriptor}
use Rattle.pp_terms.specs.format.Messages as plain
use Rattle.pp_terms.specs.format.Messages.{Message}
use Rattle.pp_terms.specs.tree.Range.{Span, within, has}
use Rattle.pp_requests.specs.declared.asking.Asking.{Asking}
use Rattle.pp_requests.specs.Moments.{asked_at}
use Rattle.pp_draft.specs.declared.note.Note.{Note}
use Rattle.pp_draft.specs.declared.note.Note.TheVariants.{KeepAlive, Handshake, Close, Choke, Unchoke, Ack, Have, Request, Cancel, PexReq, Pex4, Pex6}
use Rattle.pp_draft.specs.Notes.{Says, SayAll}
use Rattle.pp_seat.specs.Seats.{SeatState}
use Rattle.pp_seat.specs.Own.{CanAsk, AsksAll}
use Rattle.pp_seat.specs.Awaited.{AllPassSaid, AllKeepAwaited}
use Rattle.pp_seat.proofs.Awaited.{lines_keep_awaited}
use Rattle.pp_desk.specs.Steps.{IsAfter, AreAfter, Follow}
use Rattle.pp_desk.specs.Delivers.{Way, Batch, At, DeliversEach, notes_of}
use Rattle.pp_desk.specs.Laws.{said_by}
use Rattle.pp_desk.proofs.Splits.{names_split}
use Rattle.pp_seats.specs.Sending.{requested, AsksFirst, FitAll}

-- ---- what may be asked for

pub fit_of : (range : Span) (ranges : List Span) (own : List Asking) → FitAll (range ∷ ranges) own → CanAsk range own
fit_of range ranges own f = record {
  room = (let r = f.room in omega arith);
  absent = λ i at. f.absent i (or_left (within range i) (has ranges i) at);
}

-- the rest, where the first was asked for
pub fit_asked : (range : Span) (ranges : List Span) (now : ℕ) (own new : List Asking) → FitAll (range ∷ ranges) own → AsksAll range now own new → FitAll ranges new
fit_asked range [] now own new f asks = tt
fit_asked range (r ∷ rs) now own new f asks = record {
  room = (let a = f.room in let b = asks.len in omega arith);
  absent = λ i at. asks.asked i ∙ cond-false (within range i) (Some now) (asked_at own i) (out i at)
      ∙ f.absent i (or_right (within range i) (has (r ∷ rs) i) at);
  apart = f.apart.1;
}
  where
    out : (i : ℕ) → has (r ∷ rs) i ≡ true → within range i ≡ false
    out i at = ⊎_elim (λ here. absurd (both_ways (has (r ∷ rs) i) (f.apart.0 i here) at)) (λ apart. apart) (cases_Bool (within range i))

-- and where it wasn't
pub fit_refused : (range : Span) (ranges : List Span) (own : List Asking) → FitAll (range ∷ ranges) own → FitAll ranges own
fit_refused range [] own f = tt
fit_refused range (r ∷ rs) own f = record {
  room = (let a = f.room in omega arith);
  absent = λ i at. f.absent i (or_right (within range i) (has (r ∷ rs) i) at);
  apart = f.apart.1;
}

-- where nothing is asked for
pub none_first : (notes : List Note) → requested notes ≡ [] → AsksFirst notes
none_first [] e = tt
none_first (KeepAlive ∷ notes) e = none_first notes e
none_first (Handshake source ∷ notes) e = none_first notes e
none_first (Close ∷ notes) e = none_first notes e
none_first (Choke ∷ notes) e = none_first notes e
none_first (Unchoke ∷ notes) e = none_first notes e
none_first (Ack range delay ∷ notes) e = none_first notes e
none_first (Have range ∷ notes) e = none_first notes e
none_first (Request range ∷ notes) e = absurd cc
none_first (Cancel range ∷ notes) e = e
none_first (PexReq ∷ notes) e = none_first notes e
none_first (Pex4 address port ∷ notes) e = none_first notes e
none_first (Pex6 address port ∷ notes) e = none_first notes e

-- ---- one note

acks_pass : (delay : ℕ) (spans : List Span) → AllPassSaid (map (λ span. plain.Ack span delay) spans)
acks_pass delay [] = tt
acks_pass delay (span ∷ spans) = (tt, acks_pass delay spans)

haves_pass : (spans : List Span) → AllPassSaid (map (λ span. plain.Have span) spans)
haves_pass [] = tt
haves_pass (span ∷ spans) = (tt, haves_pass spans)

passes : (now : ℕ) (ms : List Message) (old new : List Asking) → new ≡ old → AllPassSaid ms → AllKeepAwaited now ms old new
passes now ms old new same all = subst (λ (xs : List Asking). AllKeepAwaited now ms old xs) (sym same) (lines_keep_awaited.passed now ms old all)

passes_one : (now : ℕ) (m : Message) (ms : List Message) (old new : List Asking) → new ≡ old → ms ≡ m ∷ [] → AllPassSaid (m ∷ []) → AllKeepAwaited now ms old new
passes_one now m ms old new same is all = subst (λ (xs : List Message). AllKeepAwaited now xs old new) (sym is) (passes now (m ∷ []) old new same all)

-- the own requests after a note, and what may be asked for after it
record Keeps (now : ℕ) (ms : List Message) (notes : List Note) (old new : List Asking) : Type 0 where
  keeps : AllKeepAwaited now ms old new
  rest : AsksFirst notes × FitAll (requested notes) new

unchoked_own : (old mid : SeatState) → (old.choked ≡ true → mid ≡ record old { slot = true; choked = false; owes = false }) × (old.choked ≡ false → mid ≡ old) → mid.own ≡ old.own
unchoked_own old mid h = ⊎_elim (λ yes. ap (λ (s : SeatState). s.own) (h.0 yes)) (λ no. ap (λ (s : SeatState). s.own) (h.1 no)) (cases_Bool old.choked)

moved_own : (back : Bool) (end : ℕ) (old mid : SeatState) → Rattle.pp_desk.specs.Steps.Moves back end old mid → mid.own ≡ old.own
moved_own true end old mid h = ap (λ (s : SeatState). s.own) h
moved_own false end old mid h = ap (λ (s : SeatState). s.own) h

one_note : (d : Descriptor) (now : ℕ) (back : Bool) (note : Note) (notes : List Note) (ms : List Message) (old mid : SeatState) → IsAfter now back note old mid → Says d note ms
    → AsksFirst (note ∷ notes) → FitAll (requested (note ∷ notes)) old.own → Keeps now ms notes old.own mid.own
one_note d now back KeepAlive notes ms old mid h s a f =
    record {
      keeps = subst (λ (xs : List Message). AllKeepAwaited now xs old.own mid.own) (sym s) (passes now [] old.own mid.own (ap (λ (o : SeatState). o.own) h) tt);
      rest = (a, subst (λ (o : SeatState). FitAll (requested notes) o.own) (sym h) f);
    }
one_note d now back (Handshake source) notes ms old mid h s a f =
    record { keeps = passes_one now _ ms old.own mid.own (ap (λ (o : SeatState). o.own) h) s (tt, tt); rest = (a, subst (λ (o : SeatState). FitAll (requested notes) o.own) (sym h) f) }
one_note d now back Close notes ms old mid h s a f =
    record { keeps = passes_one now _ ms old.own mid.own (ap (λ (o : SeatState). o.own) h) s (tt, tt); rest = (a, subst (λ (o : SeatState). FitAll (requested notes) o.own) (sym h) f) }
one_note d now back Choke notes ms old mid h s a f =
    let same = ap (λ (o : SeatState). o.own) h in
    record { keeps = passes_one now _ ms old.own mid.own same s (tt, tt); rest = (a, subst (λ (xs : List Asking). FitAll (requested notes) xs) (sym same) f) }
one_note d now back Unchoke notes ms old mid h s a f =
    let same = unchoked_own old mid h in
    record { keeps = passes_one now _ ms old.own mid.own same s (tt, tt); rest = (a, subst (λ (xs : List Asking). FitAll (requested notes) xs) (sym same) f) }
one_note d now back (Ack range delay) notes ms old mid h s a f =
    let same = ap (λ (o : SeatState). o.own) h in
    record {
      keeps = subst (λ (xs : List Message). AllKeepAwaited now xs old.own mid.own) (sym s.messages) (passes now _ old.own mid.own same (acks_pass delay s.spans));
      rest = (a, subst (λ (xs : List Asking). FitAll (requested notes) xs) (sym same) f);
    }
one_note d now back (Have range) notes ms old mid h s a f =
    let same = moved_own back (range.last + 1) old mid h in
    record {
      keeps = subst (λ (xs : List Message). AllKeepAwaited now xs old.own mid.own) (sym s.messages) (passes now _ old.own mid.own same (haves_pass s.spans));
      rest = (a, subst (λ (xs : List Asking). FitAll (requested notes) xs) (sym same) f);
    }
one_note d now back (Request range) notes ms old mid h s a f =
    let asks = h.1 (fit_of range (requested notes) old.own f) in
    record {
      keeps = subst (λ (xs : List Message). AllKeepAwaited now xs old.own mid.own) (sym s.messages)
          (lines_keep_awaited.requests now range s.spans old.own mid.own (names_split d.method range s.spans s.names) asks);
      rest = (a, fit_asked range (requested notes) now old.own mid.own f asks);
    }
one_note d now back (Cancel range) notes ms old mid h s a f =
    record {
      keeps = subst (λ (xs : List Message). AllKeepAwaited now xs old.own mid.own) (sym s.messages)
          (lines_keep_awaited.cancels now range s.spans old.own mid.own (names_split d.method range s.spans s.names) h.1);
      rest = (none_first notes a, subst (λ (xs : List Span). FitAll xs mid.own) (sym a) tt);
    }
one_note d now back PexReq notes ms old mid h s a f =
    let same = ap (λ (o : SeatState). o.own) h in
    record { keeps = passes_one now _ ms old.own mid.own same s (tt, tt); rest = (a, subst (λ (xs : List Asking). FitAll (requested notes) xs) (sym same) f) }
one_note d now back (Pex4 address port) notes ms old mid h s a f =
    let same = ap (λ (o : SeatState). o.own) h in
    record { keeps = passes_one now _ ms old.own mid.own same s (tt, tt); rest = (a, subst (λ (xs : List Asking). FitAll (requested notes) xs) (sym same) f) }
one_note d now back (Pex6 address port) notes ms old mid h s a f =
    let same = ap (λ (o : SeatState). o.own) h in
    record { keeps = passes_one now _ ms old.own mid.own same s (tt, tt); rest = (a, subst (λ (xs : List Asking). FitAll (requested notes) xs) (sym same) f) }

-- ---- the notes of a datagram

sent_notes : (d : Descriptor) (now : ℕ) (back : Bool) (notes more : List Note) (ms : List Message) (old new : SeatState) → AreAfter now back notes old new → SayAll d notes ms
    → AsksFirst (notes ++ more) → FitAll (requested (notes ++ more)) old.own → Keeps now ms more old.own new.own
sent_notes d now back [] more ms old new h s a f = record {
  keeps = subst (λ (xs : List Message). AllKeepAwaited now xs old.own new.own) (sym s) (passes now [] old.own new.own (ap (λ (o : SeatState). o.own) h) tt);
  rest = (a, subst (λ (o : SeatState). FitAll (requested more) o.own) (sym h) f);
}
sent_notes d now back (note ∷ notes) more ms old new h s a f =
    let one = one_note d now back note (notes ++ more) s.0 old h.0 h.1 s.2 a f in
    let then = sent_notes d now back notes more s.1 h.0 new h.2 s.3 one.rest.0 one.rest.1 in
    record {
      keeps = subst (λ (xs : List Message). AllKeepAwaited now xs old.own new.own) (sym s.4)
          (lines_keep_awaited.twice now s.0 s.1 old.own h.0.own new.own one.keeps then.keeps);
      rest = then.rest;
    }

-- refused notes leave the own requests
pub refused_notes : (notes more : List Note) (own : List Asking) → AsksFirst (notes ++ more) → FitAll (requested (notes ++ more)) own → AsksFirst more × FitAll (requested more) own
refused_notes [] more own a f = (a, f)
refused_notes (KeepAlive ∷ notes) more own a f = refused_notes notes more own a f
refused_notes (Handshake source ∷ notes) more own a f = refused_notes notes more own a f
refused_notes (Close ∷ notes) more own a f = refused_notes notes more own a f
refused_notes (Choke ∷ notes) more own a f = refused_notes notes more own a f
refused_notes (Unchoke ∷ notes) more own a f = refused_notes notes more own a f
refused_notes (Ack range delay ∷ notes) more own a f = refused_notes notes more own a f
refused_notes (Have range ∷ notes) more own a f = refused_notes notes more own a f
refused_notes (Request range ∷ notes) more own a f = refused_notes notes more own a (fit_refused range (requested (notes ++ more)) own f)
refused_notes (Cancel range ∷ notes) more own a f = none_left notes a
  where
    none_left : (notes : List Note) → requested (notes ++ more) ≡ [] → AsksFirst more × FitAll (requested more) own
    none_left [] e = (none_first more e, subst (λ (xs : List Span). FitAll xs own) (sym e) tt)
    none_left (KeepAlive ∷ notes) e = none_left notes e
    none_left (Handshake source ∷ notes) e = none_left notes e
    none_left (Close ∷ notes) e = none_left notes e
    none_left (Choke ∷ notes) e = none_left notes e
    none_left (Unchoke ∷ notes) e = none_left notes e
    none_left (Ack range delay ∷ notes) e = none_left notes e
    none_left (Have range ∷ notes) e = none_left notes e
    none_left (Request range ∷ notes) e = absurd cc
    none_left (Cancel range ∷ notes) e = none_left notes e
    none_left (PexReq ∷ notes) e = none_left notes e
    none_left (Pex4 address port ∷ notes) e = none_left notes e
    none_left (Pex6 address port ∷ notes) e = none_left notes e
refused_notes (PexReq ∷ notes) more own a f = refused_notes notes more own a f
refused_notes (Pex4 address port ∷ notes) more own a f = refused_notes notes more own a f
refused_notes (Pex6 address port ∷ notes) more own a f = refused_notes notes more own a f

-- ---- a delivery

keeps_one : (w : Way) (b : Batch) (sent back : Bool) (more : List Note) (old new : SeatState) → SayAll w.d b.notes b.messages → Follow w.now back sent b.notes old new
    → AsksFirst (b.notes ++ more) → FitAll (requested (b.notes ++ more)) old.own → Keeps w.now (cond sent b.messages []) more old.own new.own
keeps_one w b true back more old new said h a f = sent_notes w.d w.now back b.notes more b.messages old new h.after said a f
keeps_one w b false back more old new said h a f =
    let rest = refused_notes b.notes more old.own a f in
    record { keeps = passes w.now [] old.own new.own (ap (λ (o : SeatState). o.own) h) tt; rest = (rest.0, subst (λ (o : SeatState). FitAll (requested more) o.own) (sym h) rest.1) }

pub delivery_keeps : (w : Way) (bs : List Batch) (old new : At) → DeliversEach w bs old new → AsksFirst (notes_of bs) → FitAll (requested (notes_of bs)) old.seat.own
    → AllKeepAwaited w.now (said_by bs) old.seat.own new.seat.own
delivery_keeps w [] old new h a f = passes w.now [] old.seat.own new.seat.own (ap (λ (o : At). o.seat.own) h) tt
delivery_keeps w (b ∷ bs) old new h a f =
    let one = keeps_one w b b.sent old.so_far.set_back (notes_of bs) old.seat h.0.seat h.1.said h.1.seat a f in
    lines_keep_awaited.twice w.now (cond b.sent b.messages []) (said_by bs) old.seat.own h.0.seat.own new.seat.own one.keeps
    (delivery_keeps w bs h.0 new h.2 one.rest.0 one.rest.1)
