-- A seat follows notes that were sent, one after the other.
use Rattle.std.proofs.Common.{◌≡◌, ℕ, nat_le, nat_lt, eqb, ◌&&◌, zero, suc, ◌+◌, ◌<◌, ◌≤◌, max, Bool, true, false, cond, ◌||◌, Option, Some, None, List, [], ◌∷◌, ◌++◌, map, get_or, take, length, refl, sym, ◌∙◌, ap, subst, arith, append_assoc, append-nil}
use Rattle.std.proofs.lemmas.Bool.Decides.{nat_tests}
use Rattle.pp_terms.specs.format.Descriptor.{Descriptor}
use Rattle.pp_terms.specs.format.Messages as plain
use Rattle.pp_terms.specs.format.Messages.{Message}
use Rattle.pp_terms.specs.tree.Range.{Span, within}
use Rattle.pp_traffic.specs.Story.{Said}
use Rattle.pp_requests.specs.declared.asking.Asking.{Asking}
use Rattle.pp_requests.specs.Moments.{asked_at, entry_of, ChangesEntry}
use Rattle.pp_requests.proofs.Chunks.{asked_spared}
use Rattle.pp_draft.specs.declared.note.Note.{Note}
use Rattle.pp_draft.specs.declared.note.Note.TheVariants.{KeepAlive, Handshake, Close, Choke, Unchoke, Ack, Have, Request, Cancel, PexReq, Pex4, Pex6}
use Rattle.pp_draft.specs.Notes.{Says, SayAll}
use Rattle.pp_seat.specs.Lines.{Tale, with_line, with_said}
use Rattle.pp_seat.specs.Own.{IsSplit, CanAsk, AsksAll, IsAddress, AreAddresses}
use Rattle.pp_seat.specs.Laws.{AreIdleSaid}
use Rattle.pp_seat.specs.Seats.{SeatState}
use Rattle.pp_seat.specs.Follows as seats
use Rattle.pp_seat.specs.Follows.{Frame, Lost, Follows, Goes, Always, IsPassed}
use Rattle.pp_seat.proofs.Telling.{haves_light, haves_keep, haves_fresh, haves_exchange}
use Rattle.pp_seat.proofs.Passing.{alike_follows, said_alike, idle_says}
use Rattle.pp_desk.specs.Steps.{cursor_behind, cursor_after, Moves, IsAfter, AreAfter, PassesAll, MayTell, AreSaid, cursor_refused, cursor_back, AreRefused}
use Rattle.pp_desk.proofs.Splits.{names_split}

-- ---- one after the other

pub with_said_append : (now : ℕ) (xs ys : List Message) (p : Bool) (t : Tale) → with_said now (xs ++ ys) p t ≡ with_said now ys p (with_said now xs p t)
with_said_append now [] ys p t = refl
with_said_append now (x ∷ xs) ys p t = with_said_append now xs ys p (with_line (Said now x) p t)

pub say_split : (d : Descriptor) (xs ys : List Note) (ms : List Message) → SayAll d (xs ++ ys) ms
    → (a : List Message) × (b : List Message) × SayAll d xs a × SayAll d ys b × (ms ≡ a ++ b)
say_split d [] ys ms h = ([], ms, refl, h, refl)
say_split d (x ∷ xs) ys ms h =
    let r = say_split d xs ys h.1 h.3 in
    (h.0 ++ r.0, r.1, (h.0, r.0, h.2, r.2, refl), r.3, h.4 ∙ ap (λ (t : List Message). h.0 ++ t) r.4 ∙ sym (append_assoc h.0 r.0 r.1))

pub say_append : (d : Descriptor) (xs ys : List Note) (a b : List Message) → SayAll d xs a → SayAll d ys b → SayAll d (xs ++ ys) (a ++ b)
say_append d [] ys a b h k = subst (λ (ms : List Message). SayAll d ys (ms ++ b)) (sym h) k
say_append d (x ∷ xs) ys a b h k =
    (h.0, h.1 ++ b, h.2, say_append d xs ys h.1 b h.3 k, ap (λ (t : List Message). t ++ b) h.4 ∙ append_assoc h.0 h.1 b)

after_append : (now : ℕ) (back : Bool) (xs ys : List Note) (old mid new : SeatState) → AreAfter now back xs old mid → AreAfter now back ys mid new → AreAfter now back (xs ++ ys) old new
after_append now back [] ys old mid new a b = subst (λ (s : SeatState). AreAfter now back ys s new) a b
after_append now back (x ∷ xs) ys old mid new a b = (a.0, a.1, after_append now back xs ys a.0 mid new a.2 b)

passes_split : (cursor : ℕ) (xs ys : List Note) (f : Frame) → PassesAll cursor (xs ++ ys) f → PassesAll cursor xs f × PassesAll (cursor_after cursor xs) ys f
passes_split cursor [] ys f h = (tt, h)
passes_split cursor (x ∷ xs) ys f h = let r = passes_split (cursor_behind cursor x) xs ys f h.1 in ((h.0, r.0), r.1)

-- ---- what stays of a seat

unchoked_same : {X : Type 0} (P : SeatState → X) (old new : SeatState) (choked : Bool) → old.choked ≡ choked
    → (P (record old { slot = true; choked = false; owes = false }) ≡ P old)
    → (old.choked ≡ true → new ≡ record old { slot = true; choked = false; owes = false }) × (old.choked ≡ false → new ≡ old) → P new ≡ P old
unchoked_same P old new true is same h = ap P (h.0 is) ∙ same
unchoked_same P old new false is same h = ap P (h.1 is)

one_cursor : (now : ℕ) (n : Note) (old new : SeatState) → IsAfter now false n old new → new.cursor ≡ cursor_behind old.cursor n
one_cursor now KeepAlive old new h = ap (λ (s : SeatState). s.cursor) h
one_cursor now (Handshake source) old new h = ap (λ (s : SeatState). s.cursor) h
one_cursor now Close old new h = ap (λ (s : SeatState). s.cursor) h
one_cursor now Choke old new h = ap (λ (s : SeatState). s.cursor) h
one_cursor now Unchoke old new h = unchoked_same (λ (s : SeatState). s.cursor) old new old.choked refl refl h
one_cursor now (Ack range delay) old new h = ap (λ (s : SeatState). s.cursor) h
one_cursor now (Have range) old new h = ap (λ (s : SeatState). s.cursor) h
one_cursor now (Request range) old new h = ap (λ (s : SeatState). s.cursor) h.0
one_cursor now (Cancel range) old new h = ap (λ (s : SeatState). s.cursor) h.0
one_cursor now PexReq old new h = ap (λ (s : SeatState). s.cursor) h
one_cursor now (Pex4 address port) old new h = ap (λ (s : SeatState). s.cursor) h
one_cursor now (Pex6 address port) old new h = ap (λ (s : SeatState). s.cursor) h

pub after_cursor : (now : ℕ) (notes : List Note) (old new : SeatState) → AreAfter now false notes old new → new.cursor ≡ cursor_after old.cursor notes
after_cursor now [] old new h = ap (λ (s : SeatState). s.cursor) h
after_cursor now (n ∷ notes) old new h =
    after_cursor now notes h.0 new h.2 ∙ ap (λ (c : ℕ). cursor_after c notes) (one_cursor now n old h.0 h.1)

moved_chunks : (back : Bool) (end : ℕ) (old new : SeatState) → Moves back end old new → new.told.chunks ≡ old.told.chunks
moved_chunks true end old new h = ap (λ (s : SeatState). s.told.chunks) h
moved_chunks false end old new h = ap (λ (s : SeatState). s.told.chunks) h

one_chunks : (now : ℕ) (back : Bool) (n : Note) (old new : SeatState) → IsAfter now back n old new → new.told.chunks ≡ old.told.chunks
one_chunks now back KeepAlive old new h = ap (λ (s : SeatState). s.told.chunks) h
one_chunks now back (Handshake source) old new h = ap (λ (s : SeatState). s.told.chunks) h
one_chunks now back Close old new h = ap (λ (s : SeatState). s.told.chunks) h
one_chunks now back Choke old new h = ap (λ (s : SeatState). s.told.chunks) h
one_chunks now back Unchoke old new h = unchoked_same (λ (s : SeatState). s.told.chunks) old new old.choked refl refl h
one_chunks now back (Ack range delay) old new h = ap (λ (s : SeatState). s.told.chunks) h
one_chunks now back (Have range) old new h = moved_chunks back (range.last + 1) old new h
one_chunks now back (Request range) old new h = ap (λ (s : SeatState). s.told.chunks) h.0
one_chunks now back (Cancel range) old new h = ap (λ (s : SeatState). s.told.chunks) h.0
one_chunks now back PexReq old new h = ap (λ (s : SeatState). s.told.chunks) h
one_chunks now back (Pex4 address port) old new h = ap (λ (s : SeatState). s.told.chunks) h
one_chunks now back (Pex6 address port) old new h = ap (λ (s : SeatState). s.told.chunks) h

pub after_chunks : (now : ℕ) (back : Bool) (notes : List Note) (old new : SeatState) → AreAfter now back notes old new → new.told.chunks ≡ old.told.chunks
after_chunks now back [] old new h = ap (λ (s : SeatState). s.told.chunks) h
after_chunks now back (n ∷ notes) old new h = after_chunks now back notes h.0 new h.2 ∙ one_chunks now back n old h.0 h.1

-- ---- several notes

pub may_split : (now : ℕ) (back : Bool) (xs ys : List Note) (old mid : SeatState) (f : Frame) (lost : Lost) → AreAfter now back xs old mid
    → MayTell back old.cursor (xs ++ ys) f lost → MayTell back old.cursor xs f lost × MayTell back mid.cursor ys f lost
may_split now true xs ys old mid f lost after h = (h, h)
may_split now false xs ys old mid f lost after h =
    let r = passes_split old.cursor xs ys f h in
    (r.0, subst (λ (c : ℕ). PassesAll c ys f) (sym (after_cursor now xs old mid after)) r.1)

pub said_none : (now : ℕ) (back : Bool) (s : SeatState) → AreSaid now back [] s s
said_none now back s = record {
  after = refl;
  says = λ d ms is f lost t may h. subst (λ (xs : List Message). Follows f lost s (with_said now xs f.proven t)) (sym is) h;
}

pub said_then : (now : ℕ) (back : Bool) (xs ys : List Note) (old mid new : SeatState) → AreSaid now back xs old mid → AreSaid now back ys mid new → AreSaid now back (xs ++ ys) old new
said_then now back xs ys old mid new a b = record {
  after = after_append now back xs ys old mid new a.after b.after;
  says = λ d ms is f lost t may h.
      let r = say_split d xs ys ms is in
      let m = may_split now back xs ys old mid f lost a.after may in
      subst (λ (x : List Message). Follows f lost new (with_said now x f.proven t)) (sym r.4)
      (subst (λ (u : Tale). Follows f lost new u) (sym (with_said_append now r.0 r.1 f.proven t))
      (b.says d r.1 r.3 f lost (with_said now r.0 f.proven t) m.1 (a.says d r.0 r.2 f lost t m.0 h)));
}

take_more : (notes : List Note) (k : ℕ) (x : Note) → k < length notes → take k notes ++ get_or notes k x ∷ [] ≡ take (k + 1) notes
take_more notes k x lt = let up : suc k ≡ k + 1 = omega arith in go notes k lt ∙ ap (λ (n : ℕ). take n notes) up
  where
    go : (ns : List Note) (j : ℕ) → j < length ns → take j ns ++ get_or ns j x ∷ [] ≡ take (suc j) ns
    go [] j less = absurd (omega arith)
    go (n ∷ ns) zero less = refl
    go (n ∷ ns) (suc j) less = ap (λ (ys : List Note). n ∷ ys) (go ns j (omega arith))

pub said_more : (now : ℕ) (back : Bool) (notes : List Note) (k : ℕ) (x : Note) (old mid new : SeatState) → k < length notes → AreSaid now back (take k notes) old mid
    → AreSaid now back (get_or notes k x ∷ []) mid new → AreSaid now back (take (k + 1) notes) old new
said_more now back notes k x old mid new lt a b =
    subst (λ (ns : List Note). AreSaid now back ns old new) (take_more notes k x lt) (said_then now back (take k notes) (get_or notes k x ∷ []) old mid new a b)

-- ---- notes that were refused

pub refused_none : (s : SeatState) → AreRefused [] s s
refused_none s = refl

back_append : (cursor : ℕ) (xs ys : List Note) → cursor_back cursor (xs ++ ys) ≡ cursor_back (cursor_back cursor xs) ys
back_append cursor [] ys = refl
back_append cursor (x ∷ xs) ys = back_append (cursor_refused cursor x) xs ys

pub refused_more : (notes : List Note) (k : ℕ) (x : Note) (old mid new : SeatState) → k < length notes → AreRefused (take k notes) old mid
    → new ≡ record mid { cursor = cursor_refused mid.cursor (get_or notes k x) } → AreRefused (take (k + 1) notes) old new
refused_more notes k x old mid new lt before is =
    is ∙ ap (λ (s : SeatState). let r : SeatState = record s { cursor = cursor_refused s.cursor (get_or notes k x) } in r) before
    ∙ ap (λ (c : ℕ). let r : SeatState = record old { cursor = c } in r)
    (sym (back_append old.cursor (take k notes) (get_or notes k x ∷ [])) ∙ ap (λ (ns : List Note). cursor_back old.cursor ns) (take_more notes k x lt))

-- ---- one note

one_said : (now : ℕ) (back : Bool) (n : Note) (old new : SeatState) → IsAfter now back n old new
    → ((d : Descriptor) (ms : List Message) → Says d n ms → (f : Frame) (lost : Lost) (t : Tale) → MayTell back old.cursor (n ∷ []) f lost
    → Follows f lost old t → Follows f lost new (with_said now ms f.proven t)) → AreSaid now back (n ∷ []) old new
one_said now back n old new after says = record {
  after = (new, after, refl);
  says = λ d ms all f lost t may h.
      subst (λ (x : List Message). Follows f lost new (with_said now x f.proven t))
      (sym (all.4 ∙ ap (λ (x : List Message). all.0 ++ x) all.3 ∙ append-nil all.0)) (says d all.0 all.2 f lost t may h);
}

-- whose messages are said of any tale
pub freely_said : (now : ℕ) (back : Bool) (n : Note) (old new : SeatState) → IsAfter now back n old new
    → ((d : Descriptor) (ms : List Message) → Says d n ms → seats.Says Always now ms old new) → AreSaid now back (n ∷ []) old new
freely_said now back n old new after says = one_said now back n old new after (λ d ms is f lost t may h. (says d ms is).follows f lost t tt h)

-- and which is one message
pub alone_said : (now : ℕ) (back : Bool) (n : Note) (m : Message) (old new : SeatState) → IsAfter now back n old new
    → ((d : Descriptor) (ms : List Message) → Says d n ms → ms ≡ m ∷ []) → Goes Always (Said now m) old new → AreSaid now back (n ∷ []) old new
alone_said now back n m old new after is goes = freely_said now back n old new after (λ d ms says.
    subst (λ (x : List Message). seats.Says Always now x old new) (sym (is d ms says)) (record { follows = goes.follows }))

-- which does nothing to a seat
pub idly_said : (now : ℕ) (back : Bool) (n : Note) (s : SeatState) → IsAfter now back n s s
    → ((d : Descriptor) (ms : List Message) → Says d n ms → AreIdleSaid ms) → AreSaid now back (n ∷ []) s s
idly_said now back n s after idle = freely_said now back n s s after (λ d ms says. idle_says now ms s (idle d ms says))

idle_acks : (delay : ℕ) (spans : List Span) → AreIdleSaid (map (λ (span : Span). plain.Ack span delay) spans)
idle_acks delay [] = tt
idle_acks delay (span ∷ spans) = (tt, idle_acks delay spans)

idle_cancels : (spans : List Span) → AreIdleSaid (map (λ (span : Span). plain.Cancel span) spans)
idle_cancels [] = tt
idle_cancels (span ∷ spans) = (tt, idle_cancels spans)

pub keep_alive_said : (now : ℕ) (back : Bool) (s : SeatState) → AreSaid now back (KeepAlive ∷ []) s s
keep_alive_said now back s = idly_said now back KeepAlive s refl (λ d ms is. subst AreIdleSaid (sym is) tt)

pub handshake_said : (now : ℕ) (back : Bool) (source : ℕ) (s : SeatState) → AreSaid now back (Handshake source ∷ []) s s
handshake_said now back source s = idly_said now back (Handshake source) s refl (λ d ms is. subst AreIdleSaid (sym is) (tt, tt))

pub ack_said : (now : ℕ) (back : Bool) (range : Span) (delay : ℕ) (s : SeatState) → AreSaid now back (Ack range delay ∷ []) s s
ack_said now back range delay s = idly_said now back (Ack range delay) s refl (λ d ms names. subst AreIdleSaid (sym names.messages) (idle_acks delay names.spans))

pub request_said : (now : ℕ) (back : Bool) (range : Span) (old new : SeatState) → new ≡ record old { own = new.own } → (CanAsk range old.own → AsksAll range now old.own new.own)
    → ((spans : List Span) → IsSplit range spans → seats.Says Always now (map plain.Request spans) old new) → AreSaid now back (Request range ∷ []) old new
request_said now back range old new rest exact says = freely_said now back (Request range) old new (rest, exact) (λ d ms names.
    subst (λ (x : List Message). seats.Says Always now x old new) (sym names.messages) (says names.spans (names_split d.method range names.spans names.names)))

-- HAVEs, of chunks that come next, and of any where one was refused
pub have_said : (now : ℕ) (range : Span) (old new : SeatState) → new ≡ record old { cursor = max old.cursor (range.last + 1) }
    → ((moment : ℕ) (spans : List Span) → IsSplit range spans → seats.Says (IsPassed old.cursor range.first) moment (map plain.Have spans) old new)
    → AreSaid now false (Have range ∷ []) old new
have_said now range old new exact says = one_said now false (Have range) old new exact (λ d ms names f lost t may h.
    subst (λ (x : List Message). Follows f lost new (with_said now x f.proven t)) (sym names.messages)
    ((says now names.spans (names_split d.method range names.spans names.names)).follows f lost t may.0 h))

pub have_again : (now : ℕ) (range : Span) (s : SeatState) → AreSaid now true (Have range ∷ []) s s
have_again now range s = one_said now true (Have range) s s refl (λ d ms names f lost t may h.
    let split = names_split d.method range names.spans names.names in
    let fresh = haves_fresh s.cursor range now f.proven names.spans t lost.haves split h.fresh in
    subst (λ (x : List Message). Follows f lost s (with_said now x f.proven t)) (sym names.messages)
    (alike_follows f lost s t (with_said now (map plain.Have names.spans) f.proven t) s.cursor s.answer s.question
    (said_alike f now (map plain.Have names.spans) t (haves_light names.spans)) h
    (λ i lt known. haves_keep i now f.proven names.spans t (h.haves i lt known))
    (record { early = fresh.early; above = λ none i above. absurd (omega (arith, may, none)) })
    (haves_exchange s.answer s.question now f.proven names.spans t h.exchange)))

-- CANCELs of a range that this peer waits for no longer
pub cancel_said : (now : ℕ) (back : Bool) (range : Span) (old new : SeatState) → new ≡ record old { own = new.own }
    → ((i : ℕ) → entry_of new.own i ≡ cond (within range i) None (entry_of old.own i)) → AreSaid now back (Cancel range ∷ []) old new
cancel_said now back range old new rest gone = freely_said now back (Cancel range) old new (rest, gone) (λ d ms names. record {
  follows = λ f lost t so h.
      subst (λ (x : List Message). Follows f lost new (with_said now x f.proven t)) (sym names.messages)
      ((idle_says now (map (λ (span : Span). plain.Cancel span) names.spans) new (idle_cancels names.spans)).follows f lost t tt
      (subst (λ (s : SeatState). Follows f lost s t) (sym rest) (record {
        lists = h.lists;
        lacks = h.lacks;
        slot = h.slot;
        window = h.window;
        told = h.told;
        claims = h.claims;
        proven = h.proven;
        own = record { named = λ i m e. h.own.named i m (fewer i m (within range i) (sym (asked_spared (within range i) i old.own new.own (gone i)) ∙ e)); expired = h.own.expired; choked = h.own.choked };
        haves = h.haves;
        fresh = h.fresh;
        exchange = h.exchange;
      })));
})
  where
    fewer : (i m : ℕ) (b : Bool) → cond b None (asked_at old.own i) ≡ Some m → asked_at old.own i ≡ Some m
    fewer i m true e = cc
    fewer i m false e = e

-- one address
pub address_said : (now : ℕ) (back : Bool) (n : Note) (m : Message) (old new : SeatState) → IsAfter now back n old new
    → ((d : Descriptor) (ms : List Message) → Says d n ms → ms ≡ m ∷ []) → IsAddress m → ((ms : List Message) → AreAddresses ms → seats.Says Always now ms old new)
    → AreSaid now back (n ∷ []) old new
address_said now back n m old new after is address says = freely_said now back n old new after (λ d ms all.
    subst (λ (x : List Message). seats.Says Always now x old new) (sym (is d ms all)) (says (m ∷ []) (omega arith, (address, tt))))

-- ---- CANCELs of a range, chunk by chunk

-- The chunks of the range below one are waited for no longer.
pub record IsGone (range : Span) (at : ℕ) (old new : SeatState) : Type 0 where
  pub low : range.first ≤ at
  pub rest : new ≡ record old { own = new.own }
  pub gone : (i : ℕ) → entry_of new.own i ≡ cond (nat_le range.first i && nat_lt i at) None (entry_of old.own i)

pub gone_none : (range : Span) (at : ℕ) (s : SeatState) → at ≡ range.first → IsGone range at s s
gone_none range at s is = record {
  low = omega arith;
  rest = refl;
  gone = λ i. ap (λ (b : Bool). cond b None (entry_of s.own i)) (none i);
}
  where
    none : (i : ℕ) → false ≡ (nat_le range.first i && nat_lt i at)
    none i = grind (arith, nat_tests)

pub gone_more : (range : Span) (at : ℕ) (old mid new : SeatState) → IsGone range at old mid → new ≡ record mid { own = new.own } → ChangesEntry at None mid.own new.own
    → IsGone range (at + 1) old new
gone_more range at old mid new g rest taken = record {
  low = (let low = g.low in omega arith);
  rest = rest ∙ ap (λ (s : SeatState). let x : SeatState = record s { own = new.own } in x) g.rest;
  gone = λ i. taken i ∙ ap (λ (o : Option Asking). cond (eqb at i) None o) (g.gone i)
      ∙ by (eqb at i) (nat_le range.first i && nat_lt i at) (entry_of old.own i)
      ∙ ap (λ (b : Bool). cond b None (entry_of old.own i)) (joined i g.low);
}
  where
    by : (a b : Bool) (o : Option Asking) → cond a None (cond b None o) ≡ cond (a || b) None o
    by true b o = refl
    by false b o = refl

    joined : (i : ℕ) → range.first ≤ at → (eqb at i || (nat_le range.first i && nat_lt i at)) ≡ (nat_le range.first i && nat_lt i (at + 1))
    joined i low = grind (arith, nat_tests)

pub gone_all : (range : Span) (at : ℕ) (old new : SeatState) → IsGone range at old new → at ≡ range.last + 1
    → (i : ℕ) → entry_of new.own i ≡ cond (within range i) None (entry_of old.own i)
gone_all range at old new g is i = g.gone i ∙ ap (λ (b : Bool). cond b None (entry_of old.own i)) same
  where
    same : (nat_le range.first i && nat_lt i at) ≡ within range i
    same = grind (arith, nat_tests)
