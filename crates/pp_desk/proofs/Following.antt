-- What follows from a delivery.
use Rattle.std.proofs.Common.{◌≡◌, ◌⊎◌, inl, inr, ℕ, ◌+◌, ◌<◌, ◌≤◌, Bool, true, false, cond, ◌||◌, List, [], ◌∷◌, ◌++◌, map, length, refl, sym, ◌∙◌, ap, subst, arith}
use Rattle.std.specs.List.{AllByRecursion}
use Rattle.std.proofs.lemmas.Bool.{cases_lt, or_parts}
use Rattle.std.proofs.lemmas.List.{length-append}
use Rattle.pp_terms.specs.Count.{HasRisen}
use Rattle.pp_terms.specs.format.Descriptor.{Descriptor}
use Rattle.pp_terms.specs.format.Messages as plain
use Rattle.pp_terms.specs.format.Messages.{Message}
use Rattle.pp_terms.specs.tree.Range.{Span}
use Rattle.pp_terms.specs.format.Traffic.{Address, Sent, LinkState, GainsRecords}
use Rattle.pp_terms.proofs.Risings.{risen_more, risen_less, gains_nothing, gains_twice}
use Rattle.pp_traffic.specs.Life.{begins_as}
use Rattle.pp_draft.specs.declared.note.Note.{Note}
use Rattle.pp_draft.specs.declared.note.Note.TheVariants.{KeepAlive, Handshake, Close, Choke, Unchoke, Ack, Have, Request, Cancel, PexReq, Pex4, Pex6}
use Rattle.pp_draft.specs.Notes.{Says, SayAll}
use Rattle.pp_draft.specs.Posts.{Sends}
use Rattle.pp_seat.specs.Lines.{Tale, with_said}
use Rattle.pp_seat.specs.Seats.{SeatState}
use Rattle.pp_seat.specs.Follows.{Frame, Lost, Follows}
use Rattle.pp_seat.proofs.Saying.{back_follows}
use Rattle.pp_desk.specs.declared.steps.Delivered.{Delivered}
use Rattle.pp_desk.specs.Steps.{IsPlain, is_have, has_have, cursor_behind, PassesAll, MayTell, cursor_refused, cursor_back, AreRefused, Follow}
use Rattle.pp_desk.specs.Delivers.{Way, Batch, At, counted, DeliversOne, DeliversEach, notes_of}
use Rattle.pp_desk.specs.Laws.{records_of, said_by, back_by, backs_of, set_back, Carries, LinkCarries, Counts, EachCounts, AllIsSaid, SeatFollows, RecordsAreRead}
use Rattle.pp_desk.proofs.Saying.{with_said_append, say_append, may_split}

-- ---- the link

record StepCarries (w : Way) (b : Batch) (old new : At) : Type 0 where
  gained : GainsRecords old.link.traffic (cond b.sent (Sent w.moment w.receiver b.bytes ∷ []) []) new.link.traffic
  risen : old.so_far.refused < new.so_far.refused → HasRisen old.link.faults new.link.faults
  grows : old.so_far.refused ≤ new.so_far.refused

by_sent : (receiver : Address) (moment : ℕ) (bytes : List ℕ) (notes : List Note) (sent : Bool) (old new : LinkState) (so_far after : Delivered) → Sends receiver bytes moment old new sent
    → after ≡ counted sent notes so_far
    → GainsRecords old.traffic (cond sent (Sent moment receiver bytes ∷ []) []) new.traffic
    × (so_far.refused < after.refused → HasRisen old.faults new.faults) × (so_far.refused ≤ after.refused)
by_sent receiver moment bytes notes true old new so_far after sends is =
    let same : after.refused ≡ so_far.refused = ap (λ (x : Delivered). x.refused) is in
    (sends.outcome, λ lt. absurd (omega (arith, lt, same)), omega (arith, same))
by_sent receiver moment bytes notes false old new so_far after sends is =
    let more : after.refused ≡ so_far.refused + 1 = ap (λ (x : Delivered). x.refused) is in
    (gains_nothing old.traffic new.traffic sends.outcome.0, λ lt. sends.outcome.1, omega (arith, more))

step_carries : (w : Way) (b : Batch) (old new : At) → DeliversOne w b old new → StepCarries w b old new
step_carries w b old new one =
    let r = by_sent w.receiver w.moment b.bytes b.notes b.sent old.link new.link old.so_far new.so_far one.goes one.count in
    record { gained = r.0; risen = r.1; grows = r.2 }

record Grows (w : Way) (bs : List Batch) (old new : At) : Type 0 where
  carries : Carries w bs old new
  grows : old.so_far.refused ≤ new.so_far.refused

each_grows : (w : Way) (bs : List Batch) (old new : At) → DeliversEach w bs old new → Grows w bs old new
each_grows w [] old new h = subst (λ (x : At). Grows w [] old x) (sym h) (record {
  carries = record { gained = gains_nothing old.link.traffic old.link.traffic refl; nexts = refl; bound = refl; later = omega arith; risen = λ lt. absurd (omega arith) };
  grows = omega arith;
})
each_grows w (b ∷ bs) old new h =
    let mid = h.0 in
    let one = h.1 in
    let s = step_carries w b old mid one in
    let r = each_grows w bs mid new h.2 in
    let first = one.goes.later in
    let then = r.carries.later in
    let low = s.grows in
    let high = r.grows in
    record {
      carries = record {
        gained = gains_twice old.link.traffic mid.link.traffic new.link.traffic (cond b.sent (Sent w.moment w.receiver b.bytes ∷ []) []) (records_of w bs) s.gained r.carries.gained;
        nexts = r.carries.nexts ∙ one.goes.nexts;
        bound = r.carries.bound ∙ one.goes.bound;
        later = omega arith;
        risen = λ lt. by_place (cases_lt old.so_far.refused mid.so_far.refused) lt first then s.risen r.carries.risen;
      };
      grows = omega arith;
    }
  where
    by_place : {a b c f g k : ℕ} → (a < b) ⊎ (b ≤ a) → a < c → f ≤ g → g ≤ k → (a < b → HasRisen f g) → (b < c → HasRisen g k) → HasRisen f k
    by_place {a} {b} {c} {f} {g} {k} (inl up) lt first then one two = risen_more f g k then (one up)
    by_place {a} {b} {c} {f} {g} {k} (inr low) lt first then one two = risen_less f g k first (two (omega arith))

pub link_carries : LinkCarries
link_carries w bs old new h = (each_grows w bs old new h).carries

-- ---- counts

one_counts : (w : Way) (bytes : List ℕ) (notes : List Note) (sent : Bool) (so_far after : Delivered) → after ≡ counted sent notes so_far
    → (after.sent ≡ so_far.sent + length (cond sent (Sent w.moment w.receiver bytes ∷ []) [])) × (after.sent + after.refused ≡ so_far.sent + so_far.refused + 1)
    × (so_far.refused + back_by sent notes ≤ after.refused)
one_counts w bytes notes true so_far after is =
    let s : after.sent ≡ so_far.sent + 1 = ap (λ (x : Delivered). x.sent) is in
    let r : after.refused ≡ so_far.refused = ap (λ (x : Delivered). x.refused) is in
    (omega (arith, s), omega (arith, s, r), omega (arith, r))
one_counts w bytes notes false so_far after is =
    let s : after.sent ≡ so_far.sent = ap (λ (x : Delivered). x.sent) is in
    let r : after.refused ≡ so_far.refused + 1 = ap (λ (x : Delivered). x.refused) is in
    let b = at_most (has_have notes) in
    (omega (arith, s), omega (arith, s, r), omega (arith, r, b))
  where
    at_most : (b : Bool) → cond b 1 0 ≤ 1
    at_most true = omega arith
    at_most false = omega arith

pub each_counts : EachCounts
each_counts w [] old new h = subst (λ (x : At). Counts w [] old x) (sym h) (record { sent = omega arith; all = omega arith; backs = omega arith; few = omega arith })
each_counts w (b ∷ bs) old new h =
    let mid = h.0 in
    let one = h.1 in
    let some = one.some in
    let c = one_counts w b.bytes b.notes b.sent old.so_far mid.so_far one.count in
    let r = each_counts w bs mid new h.2 in
    record {
      sent = omega (arith, c.0, r.sent, length-append (records_of w bs) (cond b.sent (Sent w.moment w.receiver b.bytes ∷ []) []));
      all = omega (arith, c.1, r.all);
      backs = omega (arith, c.2, r.backs);
      few = omega (arith, some, r.few, length-append b.notes (notes_of bs));
    }

-- ---- all is said

said_all_by : (sent : Bool) (notes : List Note) (so_far after : Delivered) (last : ℕ) (ms : List Message) → after ≡ counted sent notes so_far → after.refused ≤ last → last ≡ so_far.refused
    → (cond sent ms [] ≡ ms) × (last ≡ after.refused)
said_all_by true notes so_far after last ms is le same = let r : after.refused ≡ so_far.refused = ap (λ (x : Delivered). x.refused) is in (refl, omega (arith, r))
said_all_by false notes so_far after last ms is le same = absurd (let r : after.refused ≡ so_far.refused + 1 = ap (λ (x : Delivered). x.refused) is in omega (arith, r))

pub all_is_said : AllIsSaid
all_is_said w [] old new h same = refl
all_is_said w (b ∷ bs) old new h same =
    let mid = h.0 in
    let one = h.1 in
    let grows = (each_grows w bs mid new h.2).grows in
    let r = said_all_by b.sent b.notes old.so_far mid.so_far new.so_far.refused b.messages one.count grows same in
    subst (λ (ms : List Message). SayAll w.d (b.notes ++ notes_of bs) (ms ++ said_by bs)) (sym r.0)
    (say_append w.d b.notes (notes_of bs) b.messages (said_by bs) one.said (all_is_said w bs mid new h.2 r.1))

-- ---- the seat

-- notes without a HAVE leave the cursor
passes_on : (cursor : ℕ) (notes more : List Note) (f : Frame) → has_have notes ≡ false → PassesAll cursor (notes ++ more) f → PassesAll cursor more f
passes_on cursor [] more f none h = h
passes_on cursor (n ∷ notes) more f none h =
    let parts = or_parts (is_have n) (has_have notes) none in
    passes_on cursor notes more f parts.1 (subst (λ (c : ℕ). PassesAll c (notes ++ more) f) (same n parts.0) h.1)
  where
    same : (x : Note) → is_have x ≡ false → cursor_behind cursor x ≡ cursor
    same KeepAlive e = refl
    same (Handshake source) e = refl
    same Close e = refl
    same Choke e = refl
    same Unchoke e = refl
    same (Ack range delay) e = refl
    same (Have range) e = cc
    same (Request range) e = refl
    same (Cancel range) e = refl
    same PexReq e = refl
    same (Pex4 address port) e = refl
    same (Pex6 address port) e = refl

set_none : (lost : Lost) → set_back 0 lost ≡ lost
set_none lost = ap (λ (n : ℕ). let l : Lost = record { chunks = lost.chunks; haves = n } in l) (let e : lost.haves + 0 ≡ lost.haves = omega arith in e)

set_twice : (a b : ℕ) (lost : Lost) → set_back b (set_back a lost) ≡ set_back (a + b) lost
set_twice a b lost = ap (λ (n : ℕ). let l : Lost = record { chunks = lost.chunks; haves = n } in l) (let e : lost.haves + a + b ≡ lost.haves + (a + b) = omega arith in e)

-- what a datagram leaves for those behind it
record Leaves (now : ℕ) (sent back : Bool) (more : List Note) (ms : List Message) (new : SeatState) (f : Frame) (lost : Lost) (t : Tale) : Type 0 where
  follows : Follows f lost new (with_said now (cond sent ms []) f.proven t)
  may : MayTell back new.cursor more f lost

-- a refused datagram sets the cursor back, and only where a HAVE is in it
one_back : (cursor : ℕ) (n : Note) → cursor_refused cursor n ≤ cursor
one_back cursor KeepAlive = omega arith
one_back cursor (Handshake source) = omega arith
one_back cursor Close = omega arith
one_back cursor Choke = omega arith
one_back cursor Unchoke = omega arith
one_back cursor (Ack range delay) = omega arith
one_back cursor (Have range) = omega arith
one_back cursor (Request range) = omega arith
one_back cursor (Cancel range) = omega arith
one_back cursor PexReq = omega arith
one_back cursor (Pex4 address port) = omega arith
one_back cursor (Pex6 address port) = omega arith

pub back_low : (cursor : ℕ) (notes : List Note) → cursor_back cursor notes ≤ cursor
back_low cursor [] = omega arith
back_low cursor (n ∷ notes) =
    let first = one_back cursor n in
    let then = back_low (cursor_refused cursor n) notes in
    omega arith

back_none : (cursor : ℕ) (notes : List Note) → has_have notes ≡ false → cursor_back cursor notes ≡ cursor
back_none cursor [] none = refl
back_none cursor (n ∷ notes) none =
    let parts = or_parts (is_have n) (has_have notes) none in
    ap (λ (c : ℕ). cursor_back c notes) (same n parts.0) ∙ back_none cursor notes parts.1
  where
    same : (x : Note) → is_have x ≡ false → cursor_refused cursor x ≡ cursor
    same KeepAlive e = refl
    same (Handshake source) e = refl
    same Close e = refl
    same Choke e = refl
    same Unchoke e = refl
    same (Ack range delay) e = refl
    same (Have range) e = cc
    same (Request range) e = refl
    same (Cancel range) e = refl
    same PexReq e = refl
    same (Pex4 address port) e = refl
    same (Pex6 address port) e = refl

-- so without a HAVE the seat stays
refused_same : (notes : List Note) (old new : SeatState) → has_have notes ≡ false → AreRefused notes old new → new ≡ old
refused_same notes old new none after =
    after ∙ ap (λ (c : ℕ). let r : SeatState = record old { cursor = c } in r) (back_none old.cursor notes none)

refused_leaves : (now : ℕ) (back have : Bool) (notes more : List Note) (ms : List Message) (old new : SeatState) → has_have notes ≡ have
    → AreRefused notes old new → (f : Frame) (lost : Lost) (t : Tale) → MayTell back old.cursor (notes ++ more) f lost → Follows f lost old t
    → Leaves now false (have || back) more ms new f (set_back (cond have 1 0) lost) t
refused_leaves now back true notes more ms old new is after f lost t may h = record {
  follows = subst (λ (s : SeatState). Follows f (set_back 1 lost) s t) (sym after)
      ((back_follows old (cursor_back old.cursor notes) (back_low old.cursor notes)).follows f lost t h);
  may = omega arith;
}
refused_leaves now true false notes more ms old new is after f lost t may h =
    subst (λ (l : Lost). Leaves now false true more ms new f l t) (sym (set_none lost)) (record {
      follows = subst (λ (s : SeatState). Follows f lost s t) (sym (refused_same notes old new is after)) h;
      may = may;
    })
refused_leaves now false false notes more ms old new is after f lost t may h =
    subst (λ (l : Lost). Leaves now false false more ms new f l t) (sym (set_none lost)) (record {
      follows = subst (λ (s : SeatState). Follows f lost s t) (sym (refused_same notes old new is after)) h;
      may = subst (λ (s : SeatState). PassesAll s.cursor more f) (sym (refused_same notes old new is after)) (passes_on old.cursor notes more f is may);
    })

one_leaves : (now : ℕ) (d : Descriptor) (sent : Bool) (notes more : List Note) (ms : List Message) (so_far after : Delivered) (old new : SeatState) → SayAll d notes ms
    → Follow now so_far.set_back sent notes old new → after ≡ counted sent notes so_far → (f : Frame) (lost : Lost) (t : Tale)
    → MayTell so_far.set_back old.cursor (notes ++ more) f lost → Follows f lost old t
    → Leaves now sent after.set_back more ms new f (set_back (back_by sent notes) lost) t
one_leaves now d true notes more ms so_far after old new says follow is f lost t may h =
    let m = may_split now so_far.set_back notes more old new f lost follow.after may in
    subst (λ (l : Lost). Leaves now true after.set_back more ms new f l t) (sym (set_none lost))
    (subst (λ (b : Bool). Leaves now true b more ms new f lost t) (sym (ap (λ (x : Delivered). x.set_back) is))
    (record { follows = follow.says d ms says f lost t m.0 h; may = m.1 }))
one_leaves now d false notes more ms so_far after old new says follow is f lost t may h =
    subst (λ (b : Bool). Leaves now false b more ms new f (set_back (back_by false notes) lost) t) (sym (ap (λ (x : Delivered). x.set_back) is))
    (refused_leaves now so_far.set_back (has_have notes) notes more ms old new refl follow f lost t may h)

pub seat_follows : SeatFollows
seat_follows w [] old new h f lost t may follows =
    subst (λ (x : At). Follows f (set_back 0 lost) x.seat t) (sym h) (subst (λ (l : Lost). Follows f l old.seat t) (sym (set_none lost)) follows)
seat_follows w (b ∷ bs) old new h f lost t may follows =
    let mid = h.0 in
    let one = h.1 in
    let s = one_leaves w.now w.d b.sent b.notes (notes_of bs) b.messages old.so_far mid.so_far old.seat mid.seat one.said one.seat one.count f lost t may follows in
    let own = cond b.sent b.messages [] in
    subst (λ (u : Tale). Follows f (set_back (backs_of (b ∷ bs)) lost) new.seat u) (sym (with_said_append w.now own (said_by bs) f.proven t))
    (subst (λ (l : Lost). Follows f l new.seat (with_said w.now (said_by bs) f.proven (with_said w.now own f.proven t))) (set_twice (back_by b.sent b.notes) (backs_of bs) lost)
    (seat_follows w bs mid new h.2 f (set_back (back_by b.sent b.notes) lost) (with_said w.now own f.proven t) s.may s.follows))

-- ---- what is read

mapped_plain : (make : Span → Message) (spans : List Span) (number : ℕ) → ((span : Span) → begins_as number (make span ∷ []) ≡ false) → ((span : Span) (ms : List Message) → begins_as number (make span ∷ ms) ≡ false)
    → (more : List Message) → begins_as number more ≡ false → begins_as number (map make spans ++ more) ≡ false
mapped_plain make [] number one none more rest = rest
mapped_plain make (span ∷ spans) number one none more rest = none span (map make spans ++ more)

one_plain : (d : Descriptor) (n : Note) (own more : List Message) (number : ℕ) → IsPlain n → Says d n own → begins_as number more ≡ false → begins_as number (own ++ more) ≡ false
one_plain d (Handshake source) own more number is says rest = absurd is
one_plain d Close own more number is says rest = absurd is
one_plain d KeepAlive own more number is says rest = subst (λ (ms : List Message). begins_as number (ms ++ more) ≡ false) (sym says) rest
one_plain d Choke own more number is says rest = subst (λ (ms : List Message). begins_as number (ms ++ more) ≡ false) (sym says) refl
one_plain d Unchoke own more number is says rest = subst (λ (ms : List Message). begins_as number (ms ++ more) ≡ false) (sym says) refl
one_plain d PexReq own more number is says rest = subst (λ (ms : List Message). begins_as number (ms ++ more) ≡ false) (sym says) refl
one_plain d (Pex4 address port) own more number is says rest = subst (λ (ms : List Message). begins_as number (ms ++ more) ≡ false) (sym says) refl
one_plain d (Pex6 address port) own more number is says rest = subst (λ (ms : List Message). begins_as number (ms ++ more) ≡ false) (sym says) refl
one_plain d (Ack range delay) own more number is says rest = subst (λ (ms : List Message). begins_as number (ms ++ more) ≡ false) (sym says.messages)
    (mapped_plain (λ span. plain.Ack span delay) says.spans number (λ span. refl) (λ span ms. refl) more rest)
one_plain d (Have range) own more number is says rest = subst (λ (ms : List Message). begins_as number (ms ++ more) ≡ false) (sym says.messages)
    (mapped_plain (λ span. plain.Have span) says.spans number (λ span. refl) (λ span ms. refl) more rest)
one_plain d (Request range) own more number is says rest = subst (λ (ms : List Message). begins_as number (ms ++ more) ≡ false) (sym says.messages)
    (mapped_plain (λ span. plain.Request span) says.spans number (λ span. refl) (λ span ms. refl) more rest)
one_plain d (Cancel range) own more number is says rest = subst (λ (ms : List Message). begins_as number (ms ++ more) ≡ false) (sym says.messages)
    (mapped_plain (λ span. plain.Cancel span) says.spans number (λ span. refl) (λ span ms. refl) more rest)

all_plain : (d : Descriptor) (notes : List Note) (ms : List Message) (number : ℕ) → AllByRecursion IsPlain notes → SayAll d notes ms → begins_as number ms ≡ false
all_plain d [] ms number are says = subst (λ (x : List Message). begins_as number x ≡ false) (sym says) refl
all_plain d (n ∷ notes) ms number are says =
    subst (λ (x : List Message). begins_as number x ≡ false) (sym says.4)
    (one_plain d n says.0 says.1 number are.0 says.2 (all_plain d notes says.1 number are.1 says.3))

pub records_are_read : RecordsAreRead
records_are_read w b old new are one = record {
  channel = ap (λ (x : plain.Datagram). x.channel) one.written.read;
  messages = ap (λ (x : plain.Datagram). x.messages.read) one.written.read;
  plain = λ number. all_plain w.d b.notes b.messages number are one.said;
}
