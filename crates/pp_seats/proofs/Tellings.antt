-- Of which chunks the other peer knows once notes were delivered: each was told of, or the cursor was set back to it.
use Rattle.std.proofs.Common.{◌≡◌, ◌⊎◌, ⊎_elim, inl, inr, ℕ, ◌≤◌, Bool, true, false, cond, ◌||◌, List, [], ◌∷◌, map, refl, sym, ◌∙◌, ap, subst, arith}
use Rattle.std.specs.List.{list_any}
use Rattle.std.proofs.lemmas.Bool.{cases_Bool, or_cases, or_left, or_right, false≢true}
use Rattle.std.proofs.lemmas.Bool.Decides.{nat_tests}
use Rattle.std.proofs.lemmas.List.Folds.{list_any-append}
use Rattle.pp_terms.specs.format.Descriptor.{Descriptor}
use Rattle.pp_terms.specs.format.Messages as plain
use Rattle.pp_terms.specs.format.Messages.{Message}
use Rattle.pp_terms.specs.tree.Range.{Span, within, has}
use Rattle.pp_traffic.specs.Story.{Line, Said, say}
use Rattle.pp_promises.specs.OwnSide.{has_in}
use Rattle.pp_promises.specs.Announced.{is_told_of}
use Rattle.pp_draft.specs.declared.note.Note.{Note}
use Rattle.pp_draft.specs.declared.note.Note.TheVariants.{KeepAlive, Handshake, Close, Choke, Unchoke, Ack, Have, Request, Cancel, PexReq, Pex4, Pex6}
use Rattle.pp_draft.specs.Notes as notes
use Rattle.pp_seat.specs.Seats.{SeatState}
use Rattle.pp_desk.specs.declared.steps.Delivered.{Delivered}
use Rattle.pp_desk.specs.Steps.{is_have, has_have, IsAfter, AreAfter, cursor_refused, cursor_back, Follow}
use Rattle.pp_desk.specs.Delivers.{Way, Batch, At, counted, DeliversEach, notes_of}
use Rattle.pp_desk.specs.Laws.{said_by}
use Rattle.pp_desk.proofs.Splits.{names_split}
use Rattle.pp_desk.proofs.Following.{back_low}
use Rattle.pp_seats.specs.Sending.{tells_note}

-- ---- notes that were sent

spans_tell : (i : ℕ) (spans : List Span) → list_any (has_in i) (map (λ span. plain.Have span) spans) ≡ has spans i
spans_tell i [] = refl
spans_tell i (span ∷ spans) = ap (λ (b : Bool). within span i || b) (spans_tell i spans)

note_tells : (d : Descriptor) (i : ℕ) (note : Note) (ms : List Message) → notes.Says d note ms → tells_note i note ≡ true → list_any (has_in i) ms ≡ true
note_tells d i KeepAlive ms s e = absurd (false≢true e)
note_tells d i (Handshake source) ms s e = absurd (false≢true e)
note_tells d i Close ms s e = absurd (false≢true e)
note_tells d i Choke ms s e = absurd (false≢true e)
note_tells d i Unchoke ms s e = absurd (false≢true e)
note_tells d i (Ack range delay) ms s e = absurd (false≢true e)
note_tells d i (Have range) ms s e =
    ap (list_any (has_in i)) s.messages ∙ spans_tell i s.spans ∙ names_split d.method range s.spans s.names i ∙ e
note_tells d i (Request range) ms s e = absurd (false≢true e)
note_tells d i (Cancel range) ms s e = absurd (false≢true e)
note_tells d i PexReq ms s e = absurd (false≢true e)
note_tells d i (Pex4 address port) ms s e = absurd (false≢true e)
note_tells d i (Pex6 address port) ms s e = absurd (false≢true e)

notes_tell : (d : Descriptor) (i : ℕ) (ns : List Note) (ms : List Message) → notes.SayAll d ns ms → list_any (tells_note i) ns ≡ true
    → list_any (has_in i) ms ≡ true
notes_tell d i [] ms s e = absurd (false≢true e)
notes_tell d i (note ∷ ns) ms s e = ap (list_any (has_in i)) s.4 ∙ list_any-append (has_in i) s.0 s.1 ∙ ⊎_elim
    (λ here. or_left (list_any (has_in i) s.0) (list_any (has_in i) s.1) (note_tells d i note s.0 s.2 here))
    (λ behind. or_right (list_any (has_in i) s.0) (list_any (has_in i) s.1) (notes_tell d i ns s.1 s.3 behind))
    (or_cases (tells_note i note) (list_any (tells_note i) ns) e)

-- ---- notes that were refused

tells_have : (i : ℕ) (note : Note) → tells_note i note ≡ true → is_have note ≡ true
tells_have i KeepAlive e = absurd (false≢true e)
tells_have i (Handshake source) e = absurd (false≢true e)
tells_have i Close e = absurd (false≢true e)
tells_have i Choke e = absurd (false≢true e)
tells_have i Unchoke e = absurd (false≢true e)
tells_have i (Ack range delay) e = absurd (false≢true e)
tells_have i (Have range) e = refl
tells_have i (Request range) e = absurd (false≢true e)
tells_have i (Cancel range) e = absurd (false≢true e)
tells_have i PexReq e = absurd (false≢true e)
tells_have i (Pex4 address port) e = absurd (false≢true e)
tells_have i (Pex6 address port) e = absurd (false≢true e)

all_have : (i : ℕ) (ns : List Note) → list_any (tells_note i) ns ≡ true → has_have ns ≡ true
all_have i [] e = absurd (false≢true e)
all_have i (note ∷ ns) e = ⊎_elim
    (λ here. or_left (is_have note) (has_have ns) (tells_have i note here))
    (λ behind. or_right (is_have note) (has_have ns) (all_have i ns behind))
    (or_cases (tells_note i note) (list_any (tells_note i) ns) e)

one_back : (i cursor : ℕ) (note : Note) → tells_note i note ≡ true → cursor_refused cursor note ≤ i
one_back i cursor KeepAlive e = absurd (false≢true e)
one_back i cursor (Handshake source) e = absurd (false≢true e)
one_back i cursor Close e = absurd (false≢true e)
one_back i cursor Choke e = absurd (false≢true e)
one_back i cursor Unchoke e = absurd (false≢true e)
one_back i cursor (Ack range delay) e = absurd (false≢true e)
one_back i cursor (Have range) e = grind (arith, nat_tests)
one_back i cursor (Request range) e = absurd (false≢true e)
one_back i cursor (Cancel range) e = absurd (false≢true e)
one_back i cursor PexReq e = absurd (false≢true e)
one_back i cursor (Pex4 address port) e = absurd (false≢true e)
one_back i cursor (Pex6 address port) e = absurd (false≢true e)

back_tells : (i cursor : ℕ) (ns : List Note) → list_any (tells_note i) ns ≡ true → cursor_back cursor ns ≤ i
back_tells i cursor [] e = absurd (false≢true e)
back_tells i cursor (note ∷ ns) e = ⊎_elim
    (λ here. let low = one_back i cursor note here in let then = back_low (cursor_refused cursor note) ns in omega (arith, low, then))
    (λ behind. back_tells i (cursor_refused cursor note) ns behind)
    (or_cases (tells_note i note) (list_any (tells_note i) ns) e)

-- ---- behind a HAVE that was refused no other moves the cursor

one_stuck : (now : ℕ) (note : Note) (old new : SeatState) → IsAfter now true note old new → new.cursor ≡ old.cursor
one_stuck now KeepAlive old new h = ap (λ (s : SeatState). s.cursor) h
one_stuck now (Handshake source) old new h = ap (λ (s : SeatState). s.cursor) h
one_stuck now Close old new h = ap (λ (s : SeatState). s.cursor) h
one_stuck now Choke old new h = ap (λ (s : SeatState). s.cursor) h
one_stuck now Unchoke old new h =
    ⊎_elim (λ yes. ap (λ (s : SeatState). s.cursor) (h.0 yes)) (λ no. ap (λ (s : SeatState). s.cursor) (h.1 no)) (cases_Bool old.choked)
one_stuck now (Ack range delay) old new h = ap (λ (s : SeatState). s.cursor) h
one_stuck now (Have range) old new h = ap (λ (s : SeatState). s.cursor) h
one_stuck now (Request range) old new h = ap (λ (s : SeatState). s.cursor) h.0
one_stuck now (Cancel range) old new h = ap (λ (s : SeatState). s.cursor) h.0
one_stuck now PexReq old new h = ap (λ (s : SeatState). s.cursor) h
one_stuck now (Pex4 address port) old new h = ap (λ (s : SeatState). s.cursor) h
one_stuck now (Pex6 address port) old new h = ap (λ (s : SeatState). s.cursor) h

stuck : (now : ℕ) (ns : List Note) (old new : SeatState) → AreAfter now true ns old new → new.cursor ≡ old.cursor
stuck now [] old new h = ap (λ (s : SeatState). s.cursor) h
stuck now (note ∷ ns) old new h = stuck now ns h.0 new h.2 ∙ one_stuck now note old h.0 h.1

batch_stuck : (now : ℕ) (back sent : Bool) (ns : List Note) (old new : SeatState) → back ≡ true → Follow now back sent ns old new → new.cursor ≤ old.cursor
batch_stuck now back true ns old new is h =
    let same = stuck now ns old new (subst (λ (b : Bool). AreAfter now b ns old new) is h.after) in omega arith
batch_stuck now back false ns old new is h =
    let same = ap (λ (s : SeatState). s.cursor) h in let low = back_low old.cursor ns in omega (arith, same, low)

-- it stays set back
back_stays : (sent : Bool) (ns : List Note) (so_far : Delivered) → so_far.set_back ≡ true → (counted sent ns so_far).set_back ≡ true
back_stays true ns so_far e = e
back_stays false ns so_far e = or_right (has_have ns) so_far.set_back e

each_stuck : (w : Way) (bs : List Batch) (old new : At) → DeliversEach w bs old new → old.so_far.set_back ≡ true → new.seat.cursor ≤ old.seat.cursor
each_stuck w [] old new h e = let same = ap (λ (x : At). x.seat.cursor) h in omega arith
each_stuck w (b ∷ bs) old new h e =
    let one = h.1 in
    let first = batch_stuck w.now old.so_far.set_back b.sent b.notes old.seat h.0.seat e one.seat in
    let rest = each_stuck w bs h.0 new h.2 (ap (λ (x : Delivered). x.set_back) one.count ∙ back_stays b.sent b.notes old.so_far e) in
    omega (arith, first, rest)

-- ---- all notes

one_told : (w : Way) (b : Batch) (bs : List Batch) (mid new : At) (now : ℕ) (back sent : Bool) (so_far : Delivered) (old : SeatState) (i : ℕ)
    → notes.SayAll w.d b.notes b.messages → Follow now back sent b.notes old mid.seat → mid.so_far ≡ counted sent b.notes so_far → DeliversEach w bs mid new
    → list_any (tells_note i) b.notes ≡ true → (list_any (has_in i) (cond sent b.messages []) ≡ true) ⊎ (new.seat.cursor ≤ i)
one_told w b bs mid new now back true so_far old i says h is each tells = inl (notes_tell w.d i b.notes b.messages says tells)
one_told w b bs mid new now back false so_far old i says h is each tells =
    let same = ap (λ (s : SeatState). s.cursor) h in
    let low = back_tells i old.cursor b.notes tells in
    let rest = each_stuck w bs mid new each (ap (λ (x : Delivered). x.set_back) is ∙ or_left (has_have b.notes) so_far.set_back (all_have i b.notes tells)) in
    inr (omega (arith, same, low, rest))

pub told_or_back : (w : Way) (bs : List Batch) (old new : At) (i : ℕ) → DeliversEach w bs old new → list_any (tells_note i) (notes_of bs) ≡ true
    → (list_any (has_in i) (said_by bs) ≡ true) ⊎ (new.seat.cursor ≤ i)
told_or_back w [] old new i h e = absurd (false≢true e)
told_or_back w (b ∷ bs) old new i h e =
    let one = h.1 in
    let own : List Message = cond b.sent b.messages [] in ⊎_elim
    (λ here. ⊎_elim
    (λ told. inl (list_any-append (has_in i) own (said_by bs) ∙ or_left (list_any (has_in i) own) (list_any (has_in i) (said_by bs)) told))
    (λ back. inr back)
    (one_told w b bs h.0 new w.now old.so_far.set_back b.sent old.so_far old.seat i one.said one.seat one.count h.2 here))
    (λ behind. ⊎_elim
    (λ told. inl (list_any-append (has_in i) own (said_by bs) ∙ or_right (list_any (has_in i) own) (list_any (has_in i) (said_by bs)) told))
    (λ back. inr back)
    (told_or_back w bs h.0 new i h.2 behind))
    (or_cases (list_any (tells_note i) b.notes) (list_any (tells_note i) (notes_of bs))
    (sym (list_any-append (tells_note i) b.notes (notes_of bs)) ∙ e))

-- what was said stays told
said_stays_told : (now i : ℕ) (ms : List Message) (story : List Line) → is_told_of i story ≡ true → is_told_of i (say now ms story) ≡ true
said_stays_told now i [] story e = e
said_stays_told now i (m ∷ ms) story e = said_stays_told now i ms (Said now m ∷ story) (or_right (has_in i m) (is_told_of i story) e)

pub said_is_told : (now i : ℕ) (ms : List Message) (story : List Line) → list_any (has_in i) ms ≡ true → is_told_of i (say now ms story) ≡ true
said_is_told now i [] story e = absurd (false≢true e)
said_is_told now i (m ∷ ms) story e = ⊎_elim
    (λ here. said_stays_told now i ms (Said now m ∷ story) (or_left (has_in i m) (is_told_of i story) here))
    (λ behind. said_is_told now i ms (Said now m ∷ story) behind)
    (or_cases (has_in i m) (list_any (has_in i) ms) e)
