-- What was sent on one channel, and what becomes of all seats with it.
use Rattle.std.proofs.Common.{◌≡◌, ◌≢◌, ◌⊎◌, ⊎_elim, inl, inr, ℕ, ◌+◌, ◌<◌, ◌≤◌, eqb, Bool, true, false, cond, ◌&&◌, ◌||◌, Option, Some, None, List, [], ◌∷◌, ◌++◌, map, length, refl, sym, ◌∙◌, ap, subst, arith, append_assoc}
use Rattle.std.specs.List.{slice_get, AllByRecursion, list_any}
use Rattle.std.proofs.Math.ListN.{set}
use Rattle.std.proofs.lemmas.Bool.{cases_Bool, both_ways, eqb-true, eqb-false, eq-eqb, ne_eqb, false_from_ne_true, or_cases, or_right, and_right}
use Rattle.std.proofs.lemmas.Option.{same_Some}
use Rattle.pp_terms.specs.format.Traffic as traffic
use Rattle.pp_terms.specs.format.Traffic.{Record, Sent, LinkState, same_address}
use Rattle.pp_terms.specs.format.Descriptor.{Descriptor, chunks_of}
use Rattle.pp_terms.specs.format.Messages as plain
use Rattle.pp_terms.specs.format.Messages.{Message}
use Rattle.pp_terms.specs.tree.Range.{Span, within, has}
use Rattle.pp_traffic.specs.Past.{now, read, goes_to, is_number, some_since, is_event}
use Rattle.pp_traffic.specs.Keeping.{announces}
use Rattle.pp_traffic.specs.Life.{Life, answers, begins_as, comes_on}
use Rattle.pp_traffic.specs.Story.{Line, Said, say, said_in}
use Rattle.pp_traffic.specs.Asking.{is_heard}
use Rattle.pp_promises.specs.ReadStory.{read_story}
use Rattle.pp_promises.specs.Served.{is_announced}
use Rattle.pp_outside.specs.Outside.{address_of}
use Rattle.pp_channels.specs.Seats.{Seats, AreSeats, channel_at, is_begun}
use Rattle.pp_channels.specs.declared.channel.Channel.{Channel}
use Rattle.std.specs.Prelude.{nat_lt, nat_le, unwrap_or}
use Rattle.pp_lives.specs.Reading.{is_waiting, is_proven}
use Rattle.pp_lives.specs.Fars.{far_of}
use Rattle.pp_lives.specs.Sending.{with_datagram}
use Rattle.pp_lives.specs.declared.lives.Far.{Far}
use Rattle.pp_lives.specs.Standing.{read_at, Standing}
use Rattle.pp_lives.specs.Calls.{Changes, Steady}
use Rattle.pp_lives.proofs.Own.{stands_of, told_is}
use Rattle.pp_lives.proofs.Staying.{began}
use Rattle.pp_lives.proofs.Telling.{since_same, read_sent}
use Rattle.pp_lives.proofs.Wholes.{said_stays, steady_stays}
use Rattle.pp_lives.proofs.Arrivals.{living_of}
use Rattle.pp_lives.proofs.Edits.{steady_waits}
use Rattle.pp_lives.proofs.Begun.{begun_changed}
use Rattle.pp_lives.proofs.Changing.{changed_is, are_changed}
use Rattle.pp_lives.proofs.Sent.{same_self}
use Rattle.pp_draft.specs.declared.note.Note.{Note}
use Rattle.pp_draft.specs.declared.note.Note.TheVariants.{KeepAlive, Handshake, Close, Choke, Unchoke, Ack, Have, Request, Cancel, PexReq, Pex4, Pex6}
use Rattle.pp_draft.specs.Notes as notes
use Rattle.pp_desk.specs.declared.steps.Delivered.{Delivered}
use Rattle.pp_desk.specs.Delivers.{Way, Batch, At, DeliversEach, notes_of, none_delivered}
use Rattle.pp_desk.specs.Laws.{records_of, said_by, set_back, backs_of, IsOn}
use Rattle.pp_desk.specs.Steps as steps
use Rattle.pp_desk.proofs.Splits.{names_split}
use Rattle.pp_desk.proofs.Following.{seat_follows, each_counts, records_are_read}
use Rattle.pp_desk.proofs.Tales.{tale_grows}
use Rattle.pp_seat.specs.Lines.{with_said}
use Rattle.pp_seat.specs.Seats.{SeatState}
use Rattle.pp_seat.specs.Follows.{Frame, Lost, Follows}
use Rattle.pp_seat.specs.Frames.{since_of, tale_of, IsSameTale}
use Rattle.pp_seat.specs.Laws.{IsLater, with_since}
use Rattle.pp_seat.specs.Awaited.{AreAwaited}
use Rattle.pp_seat.proofs.Framing.{same_tales, tales_grow, frames_grow, read_longer, said_story}
use Rattle.pp_seat.proofs.Passing.{announced_stays, known_stays}
use Rattle.pp_promises.specs.Announced.{is_told_of}
use Rattle.pp_seats.proofs.Tellings.{told_or_back, said_is_told}
use Rattle.pp_seats.specs.Standing.{SeatsState, Setting, SeatSetting, at_seat, frame_in, IsFollowed, StandsFor}
use Rattle.pp_seats.specs.Sending.{HoldsAnnounced, Announces, tells_note, with_told, PassesOne, PassesAll, MaySay, with_sent}
use Rattle.pp_seats.proofs.Lists.{get_set_there, get_set_other}
use Rattle.pp_traffic.specs.Fates.{clock}
use Rattle.pp_seat.proofs.Outstanding.{clock_now}
use Rattle.pp_seats.proofs.Waits.{delivery_keeps}

-- ---- the other channels

say_length : (at : ℕ) (ms : List Message) (story : List Line) → length story + length ms ≡ length (say at ms story)
say_length at [] story = omega arith
say_length at (m ∷ ms) story = let rest = say_length at ms (Said at m ∷ story) in omega arith

-- nothing was said where the story stays
said_none : (at : ℕ) (ms : List Message) (story : List Line) → say at ms story ≡ story → ms ≡ []
said_none at [] story e = refl
said_none at (m ∷ ms) story e = absurd (
    let longer = say_length at (m ∷ ms) story in
    let same = ap (λ (xs : List Line). length xs) e in
    omega arith)

-- a record on which nothing is said on a channel
pub unsaid_followed : (x : SeatSetting) (most : ℕ) (s : SeatState) (life : Life) (moment : ℕ) (receiver : traffic.Address) (bytes : List ℕ) (past : List Record)
    → IsFollowed x most s life past → life.opening < length past → said_in x.d life (Sent moment receiver bytes) ≡ []
    → IsFollowed x most s life (Sent moment receiver bytes ∷ past)
unsaid_followed x most s life moment receiver bytes past h lt none =
    let r = Sent moment receiver bytes in
    let f = frame_in x life past in
    let same : IsSameTale (tale_of x.d life past) (tale_of x.d life (r ∷ past)) =
    subst (λ (ms : List Message). IsSameTale (with_said (now past) ms (is_heard x.d life past) (tale_of x.d life past)) (tale_of x.d life (r ∷ past))) none
    (tales_grow.sent x.d life moment receiver bytes past lt) in
    let told = same_tales f h.lost s (tale_of x.d life past) (tale_of x.d life (r ∷ past)) same h.follows in
    let with_later = announced_stays f h.lost (λ i. since_of x.d life x.is_found i (r ∷ past)) s (tale_of x.d life (r ∷ past))
    (frames_grow x.d life x.is_found r past) told in
    record {
      lost = h.lost;
      chunks = h.chunks;
      haves = h.haves;
      follows = subst (λ (p : Bool). Follows (record (frame_in x life (r ∷ past)) { proven = p }) h.lost s (tale_of x.d life (r ∷ past)))
          (sym (since_same (comes_on x.d life) life.opening r past refl)) with_later;
      awaited = subst (λ (xs : List Line). AreAwaited s.own xs) (sym same.story) h.awaited;
      handed = or_right (nat_le life.opening (length past) && is_event r) (some_since is_event life.opening past) h.handed;
    }

-- more may be lost
pub more_followed : (x : SeatSetting) (most more : ℕ) (s : SeatState) (life : Life) (past : List Record) → most ≤ more → IsFollowed x most s life past → IsFollowed x more s life past
more_followed x most more s life past le h = record {
  lost = h.lost;
  chunks = (let few = h.chunks in omega (arith, few, le));
  haves = (let few = h.haves in omega (arith, few, le));
  follows = h.follows;
  awaited = h.awaited;
  handed = h.handed;
}

-- What was said elsewhere isn't said on a channel whose reading stays as it was.
pub unsaid_there : (d : Descriptor) (t new : Seats) (lives later : ℕ → Option Life) (n : ℕ) (c : Channel) (life : Life) (moment : ℕ) (receiver : traffic.Address) (bytes : List ℕ) (past : List Record)
    → Standing d t lives past → channel_at t n ≡ Some c → is_waiting c ≡ false → lives n ≡ Some life → channel_at new n ≡ Some c → later n ≡ Some life
    → read_at d new later (Sent moment receiver bytes ∷ past) n ≡ read_at d t lives past n
    → said_in d life (Sent moment receiver bytes) ≡ []
unsaid_there d t new lives later n c life moment receiver bytes past s there known living there_now living_now same =
    let r = Sent moment receiver bytes in
    let st = stands_of d (channel_at t n) (lives n) c life past (s.seated.each n) there living in
    let before = told_is d (channel_at t n) (lives n) c life past there living known in
    let after = told_is d (channel_at new n) (later n) c life (r ∷ past) there_now living_now known in
    let story : read_story d life (r ∷ past) ≡ read_story d life past = same_Some (read_story d life (r ∷ past)) (read_story d life past) (sym after ∙ same ∙ before) in
    said_none (now past) (said_in d life r) (read_story d life past) (sym (read_sent d life moment receiver bytes past (began d c life past st)) ∙ story)

-- ---- the channel itself

-- chunks that were announced later, and later still
later_twice : (place more : ℕ) (a b c : ℕ → Option ℕ) → place ≤ more → IsLater place a b → IsLater more b c → IsLater place a c
later_twice place more a b c le one two i = by (one i) (two i)
  where
    by : (b i ≡ a i) ⊎ ((a i ≡ None) × (at : ℕ) × (b i ≡ Some at) × (place ≤ at)) → (c i ≡ b i) ⊎ ((b i ≡ None) × (at : ℕ) × (c i ≡ Some at) × (more ≤ at))
        → (c i ≡ a i) ⊎ ((a i ≡ None) × (at : ℕ) × (c i ≡ Some at) × (place ≤ at))
    by (inl p) (inl q) = inl (q ∙ p)
    by (inr p) (inl q) = inr (p.0, p.1, q ∙ p.2, p.3)
    by (inl p) (inr q) = inr (sym p ∙ q.0, q.1, q.2, (let low = q.3 in omega (arith, low, le)))
    by (inr p) (inr q) = absurd (let none = sym p.2 ∙ q.0 in cc)

-- ---- what notes announce

says_either : (i : ℕ) (ms more : List Message) → announces i (ms ++ more) ≡ (announces i ms || announces i more)
says_either i [] more = refl
says_either i (m ∷ ms) more = by m (says_either i ms more)
  where
    either : (a b c : Bool) (rest : Bool) → rest ≡ (b || c) → (a || rest) ≡ ((a || b) || c)
    either true b c rest e = refl
    either false b c rest e = e

    by : (m : Message) → announces i (ms ++ more) ≡ (announces i ms || announces i more) → announces i (m ∷ ms ++ more) ≡ (announces i (m ∷ ms) || announces i more)
    by (plain.Ack span delay) e = either (within span i) (announces i ms) (announces i more) (announces i (ms ++ more)) e
    by (plain.Have span) e = either (within span i) (announces i ms) (announces i more) (announces i (ms ++ more)) e
    by m e = e

acks_announce : (i delay : ℕ) (spans : List Span) → announces i (map (λ span. plain.Ack span delay) spans) ≡ has spans i
acks_announce i delay [] = refl
acks_announce i delay (span ∷ spans) = ap (λ (b : Bool). within span i || b) (acks_announce i delay spans)

haves_announce : (i : ℕ) (spans : List Span) → announces i (map (λ span. plain.Have span) spans) ≡ has spans i
haves_announce i [] = refl
haves_announce i (span ∷ spans) = ap (λ (b : Bool). within span i || b) (haves_announce i spans)

none_announce : (i : ℕ) (make : Span → Message) (spans : List Span) → ((span : Span) (ms : List Message) → announces i (make span ∷ ms) ≡ announces i ms) → announces i (map make spans) ≡ false
none_announce i make [] none = refl
none_announce i make (span ∷ spans) none = none span (map make spans) ∙ none_announce i make spans none

note_held : (d : Descriptor) (held : ℕ → Bool) (i : ℕ) (note : Note) (ms : List Message) → notes.Says d note ms → Announces held note → announces i ms ≡ true → held i ≡ true
note_held d held i KeepAlive ms s a e = absurd (both_ways (announces i ms) (ap (announces i) s) e)
note_held d held i (Handshake source) ms s a e = absurd (both_ways (announces i ms) (ap (announces i) s) e)
note_held d held i Close ms s a e = absurd (both_ways (announces i ms) (ap (announces i) s) e)
note_held d held i Choke ms s a e = absurd (both_ways (announces i ms) (ap (announces i) s) e)
note_held d held i Unchoke ms s a e = absurd (both_ways (announces i ms) (ap (announces i) s) e)
note_held d held i (Ack range delay) ms s a e =
    a i (sym (names_split d.method range s.spans s.names i) ∙ sym (acks_announce i delay s.spans) ∙ sym (ap (announces i) s.messages) ∙ e)
note_held d held i (Have range) ms s a e =
    a i (sym (names_split d.method range s.spans s.names i) ∙ sym (haves_announce i s.spans) ∙ sym (ap (announces i) s.messages) ∙ e)
note_held d held i (Request range) ms s a e = absurd (both_ways (announces i ms) (ap (announces i) s.messages ∙ none_announce i (λ span. plain.Request span) s.spans (λ span ms. refl)) e)
note_held d held i (Cancel range) ms s a e = absurd (both_ways (announces i ms) (ap (announces i) s.messages ∙ none_announce i (λ span. plain.Cancel span) s.spans (λ span ms. refl)) e)
note_held d held i PexReq ms s a e = absurd (both_ways (announces i ms) (ap (announces i) s) e)
note_held d held i (Pex4 address port) ms s a e = absurd (both_ways (announces i ms) (ap (announces i) s) e)
note_held d held i (Pex6 address port) ms s a e = absurd (both_ways (announces i ms) (ap (announces i) s) e)

notes_held : (d : Descriptor) (held : ℕ → Bool) (i : ℕ) (ns : List Note) (ms : List Message) → notes.SayAll d ns ms → AllByRecursion (Announces held) ns
    → announces i ms ≡ true → held i ≡ true
notes_held d held i [] ms s a e = absurd (both_ways (announces i ms) (ap (announces i) s) e)
notes_held d held i (note ∷ ns) ms s a e = ⊎_elim
    (λ here. note_held d held i note s.0 s.2 a.0 here)
    (λ behind. notes_held d held i ns s.1 s.3 a.1 behind)
    (or_cases (announces i s.0) (announces i s.1) (sym (ap (announces i) s.4 ∙ says_either i s.0 s.1) ∙ e))

-- ---- a delivery on a channel

-- the way to a channel's peer
abbrev pub W : Descriptor → Channel → (channel moment at : ℕ) → Way
W d c channel moment at = record { d = d; receiver = address_of c.address; channel = channel; moment = moment; now = at }

-- the records so far, the last of them the newest
abbrev pub After : Way → List Batch → List Record → List Record
After w bs past = records_of w bs ++ past

-- the first batch's record, if it was sent
abbrev First : Way → Batch → List Record → List Record
First w b past = cond b.sent (Sent w.moment w.receiver b.bytes ∷ []) [] ++ past

pub after_more : (w : Way) (b : Batch) (bs : List Batch) (past : List Record) → After w (b ∷ bs) past ≡ After w bs (First w b past)
after_more w b bs past = append_assoc (records_of w bs) (cond b.sent (Sent w.moment w.receiver b.bytes ∷ []) []) past

all_front : (P : Note → Type 0) (xs ys : List Note) → AllByRecursion P (xs ++ ys) → AllByRecursion P xs × AllByRecursion P ys
all_front P [] ys a = (tt, a)
all_front P (x ∷ xs) ys a = let rest = all_front P xs ys a.1 in ((a.0, rest.0), rest.1)

-- what is announced then is held
announced_held : (d : Descriptor) (c : Channel) (channel moment at : ℕ) (held : ℕ → Bool) (i : ℕ) (bs : List Batch) (old new : At) (past : List Record)
    → DeliversEach (W d c channel moment at) bs old new → AllByRecursion (Announces held) (notes_of bs) → (is_announced d i past ≡ true → held i ≡ true)
    → is_announced d i (After (W d c channel moment at) bs past) ≡ true → held i ≡ true
announced_held d c channel moment at held i [] old new past each a before e = before e
announced_held d c channel moment at held i (b ∷ bs) old new past each a before e =
    let w = W d c channel moment at in
    let parts = all_front (Announces held) b.notes (notes_of bs) a in
    announced_held d c channel moment at held i bs each.0 new (First w b past) each.2 parts.1 (one b.sent parts.0)
    (sym (ap (is_announced d i) (after_more w b bs past)) ∙ e)
  where
    one : (sent : Bool) → AllByRecursion (Announces held) b.notes
        → is_announced d i (cond sent (Sent moment (address_of c.address) b.bytes ∷ []) [] ++ past) ≡ true → held i ≡ true
    one false front e = before e
    one true front e = ⊎_elim
        (λ here. notes_held d held i b.notes b.messages each.1.said front
        (sym (ap (λ (g : plain.Datagram). announces i g.messages.read) each.1.written.read) ∙ here))
        (λ earlier. before earlier)
        (or_cases (announces i (read d (Sent moment (address_of c.address) b.bytes)).messages.read) (is_announced d i past) e)

-- the notes pass over nothing that was announced
may_tell : (held : ℕ → Bool) (f : Frame) (lost : Lost) (cursor : ℕ) (ns : List Note) → ((i : ℕ) → held i ≡ false → f.known_of i ≡ false)
    → PassesAll held cursor ns → steps.PassesAll cursor ns f
may_tell held f lost cursor [] none p = tt
may_tell held f lost cursor (note ∷ ns) none p = (one note p.0, may_tell held f lost (steps.cursor_behind cursor note) ns none p.1)
  where
    one : (note : Note) → PassesOne held cursor note → steps.Passes cursor note f
    one (Have range) h = λ i low high. none i (h i low high)
    one KeepAlive h = tt
    one (Handshake source) h = tt
    one Close h = tt
    one Choke h = tt
    one Unchoke h = tt
    one (Ack range delay) h = tt
    one (Request range) h = tt
    one (Cancel range) h = tt
    one PexReq h = tt
    one (Pex4 address port) h = tt
    one (Pex6 address port) h = tt

-- ---- what the records leave of a channel's frame

first_by : (P : List Record → Type 0) (w : Way) (b : Batch) (past : List Record) → P past → P (Sent w.moment w.receiver b.bytes ∷ past) → P (First w b past)
first_by P w b past none one = by b.sent
  where
    by : (sent : Bool) → P (cond sent (Sent w.moment w.receiver b.bytes ∷ []) [] ++ past)
    by false = none
    by true = one

-- what holds of a past, and of one with a record more that was sent, where it held of that before
after_by : (P : List Record → Type 0) (w : Way) (bs : List Batch) (past : List Record) → P past
    → ((b : Batch) (before : List Record) → P before → P (Sent w.moment w.receiver b.bytes ∷ before)) → P (After w bs past)
after_by P w [] past first more = first
after_by P w (b ∷ bs) past first more = subst P (sym (after_more w b bs past))
    (after_by P w bs (First w b past) (first_by P w b past first (more b past first)) more)

since_after : (x : SeatSetting) (life : Life) (w : Way) (bs : List Batch) (past : List Record)
    → IsLater (length (read_story x.d life past)) (λ i. since_of x.d life x.is_found i past) (λ i. since_of x.d life x.is_found i (After w bs past))
    × (length (read_story x.d life past) ≤ length (read_story x.d life (After w bs past)))
since_after x life w bs past = after_by (λ (xs : List Record).
    IsLater (length (read_story x.d life past)) (λ i. since_of x.d life x.is_found i past) (λ i. since_of x.d life x.is_found i xs)
    × (length (read_story x.d life past) ≤ length (read_story x.d life xs))) w bs past
    (λ i. inl refl, omega arith)
    (λ b before h.
    let longer = read_longer x.d life (Sent w.moment w.receiver b.bytes) before in (
      later_twice (length (read_story x.d life past)) (length (read_story x.d life (Sent w.moment w.receiver b.bytes ∷ before)))
          (λ i. since_of x.d life x.is_found i past) (λ i. since_of x.d life x.is_found i before) (λ i. since_of x.d life x.is_found i (Sent w.moment w.receiver b.bytes ∷ before))
          (let low = h.1 in omega (arith, low, longer)) h.0 (frames_grow x.d life x.is_found (Sent w.moment w.receiver b.bytes) before),
      (let low = h.1 in omega (arith, low, longer)),
    ))

heard_after : (d : Descriptor) (life : Life) (w : Way) (bs : List Batch) (past : List Record) → is_heard d life (After w bs past) ≡ is_heard d life past
heard_after d life w bs past = after_by (λ (xs : List Record). is_heard d life xs ≡ is_heard d life past) w bs past refl
    (λ b before h. since_same (comes_on d life) life.opening (Sent w.moment w.receiver b.bytes) before refl ∙ h)

-- ---- the channel's own seat

pub own_followed : (d : Descriptor) (found aware : ℕ → Bool) (most : ℕ) (c : Channel) (channel moment at : ℕ) (bs : List Batch) (old new : At) (life : Life) (past : List Record) (held : ℕ → Bool)
    → let w = W d c channel moment at in let x : SeatSetting = record { d = d; is_found = found; known_of = aware } in
    DeliversEach w bs old new → IsOn w life past → IsFollowed x most old.seat life past → old.so_far.set_back ≡ false → old.so_far.refused ≡ 0
    → ((i : ℕ) → aware i ≡ true → held i ≡ true) → MaySay held (notes_of bs) old.seat
    → IsFollowed (record { d = d; is_found = found; known_of = λ i. aware i || list_any (tells_note i) (notes_of bs) }) (most + new.so_far.refused) new.seat life (After w bs past)
own_followed d found aware most c channel moment at bs old new life past held each on h back none inside may =
    let w = W d c channel moment at in
    let x : SeatSetting = record { d = d; is_found = found; known_of = aware } in
    let after = After w bs past in
    let later = since_after x life w bs past in
    let since : ℕ → Option ℕ = λ i. since_of d life found i after in
    let f = with_since since (frame_in x life past) in
    let first = announced_stays (frame_in x life past) h.lost since old.seat (tale_of d life past) later.0 h.follows in
    let unknown : (i : ℕ) → held i ≡ false → aware i ≡ false = λ i out. false_from_ne_true (aware i) (λ e. both_ways (held i) out (inside i e)) in
    let tell = subst (λ (b : Bool). steps.MayTell b old.seat.cursor (notes_of bs) f h.lost) (sym back)
    (may_tell held f h.lost old.seat.cursor (notes_of bs) unknown may.passes) in
    let said = seat_follows w bs old new each f h.lost (tale_of d life past) tell first in
    let grown = tale_grows w bs old new life past each on in
    let told = same_tales f (set_back (backs_of bs) h.lost) new.seat (with_said w.now (said_by bs) (is_heard d life past) (tale_of d life past)) (tale_of d life after) grown said in
    let counts = each_counts w bs old new each in
    record {
      lost = set_back (backs_of bs) h.lost;
      chunks = (let few = h.chunks in omega (arith, few));
      haves = (let few = h.haves in let backs = counts.backs in omega (arith, few, backs, none));
      follows = known_stays (frame_in x life after) (set_back (backs_of bs) h.lost) (λ i. aware i || list_any (tells_note i) (notes_of bs)) new.seat (tale_of d life after)
          (λ i below knows. ⊎_elim
          (λ was. inl was)
          (λ tells. ⊎_elim
          (λ said_so. inr (ap (is_told_of i) (grown.story ∙ said_story w.now (said_by bs) (is_heard d life past) (tale_of d life past)) ∙ said_is_told w.now i (said_by bs) (read_story d life past) said_so))
          (λ back. absurd (omega (arith, below, back)))
          (told_or_back w bs old new i each tells))
          (or_cases (aware i) (list_any (tells_note i) (notes_of bs)) knows))
          (subst (λ (p : Bool). Follows (record (frame_in x life after) { proven = p }) (set_back (backs_of bs) h.lost) new.seat (tale_of d life after))
          (sym (heard_after d life w bs past)) told);
      awaited = subst (λ (xs : List Line). AreAwaited new.seat.own xs) (sym (grown.story ∙ said_story w.now (said_by bs) (is_heard d life past) (tale_of d life past)))
          ((delivery_keeps w bs old new each may.first may.fit).stays (read_story d life past)
          (subst (λ (n : ℕ). clock (read_story d life past) ≤ n) (sym on.moment) (clock_now d life past)) h.awaited);
      handed = after_by (λ (xs : List Record). some_since is_event life.opening xs ≡ true) w bs past h.handed
          (λ b before e. or_right (nat_le life.opening (length before) && is_event (Sent w.moment w.receiver b.bytes)) (some_since is_event life.opening before) e);
    }

-- ---- all seats

-- the records leave the channels standing, and the seats of the others follow as they did
pub record Leaves (x : Setting) (t : Seats) (lives : ℕ → Option Life) (k : ℕ) (past after : List Record) : Type 0 where
  pub standing : Standing x.d t lives after
  pub moment : now after ≡ now past
  pub others : (most n : ℕ) (e : Channel) (l : Life) (s : SeatState) → n ≢ k → channel_at t n ≡ Some e → is_waiting e ≡ false → lives n ≡ Some l
      → IsFollowed (at_seat x n) most s l past → IsFollowed (at_seat x n) most s l after

pub leaves_none : (x : Setting) (t : Seats) (lives : ℕ → Option Life) (k : ℕ) (past : List Record) → Standing x.d t lives past → Leaves x t lives k past past
leaves_none x t lives k past s = record { standing = s; moment = refl; others = λ most n e l o ne there known living h. h }

leaves_twice : (x : Setting) (t : Seats) (lives : ℕ → Option Life) (k : ℕ) (past mid after : List Record) → Leaves x t lives k past mid → Leaves x t lives k mid after
    → Leaves x t lives k past after
leaves_twice x t lives k past mid after one two = record {
  standing = two.standing;
  moment = two.moment ∙ one.moment;
  others = λ most n e l o ne there known living h. two.others most n e l o ne there known living (one.others most n e l o ne there known living h);
}

-- one datagram without a handshake, to the channel's peer
pub leaves_one : (d : Descriptor) (found : ℕ → Bool) (aware : ℕ → ℕ → Bool) (t : Seats) (lives : ℕ → Option Life) (k : ℕ) (c : Channel) (life : Life) (moment : ℕ) (bytes : List ℕ) (ms : List Message) (past : List Record)
    → Standing d t lives past → channel_at t k ≡ Some c → lives k ≡ Some life → is_waiting c ≡ false
    → (read d (Sent moment (address_of c.address) bytes)).channel ≡ Some life.remote → (read d (Sent moment (address_of c.address) bytes)).messages.read ≡ ms
    → ((number : ℕ) → begins_as number ms ≡ false)
    → Leaves (record { d = d; is_found = found; known_of = aware }) t lives k past (Sent moment (address_of c.address) bytes ∷ past)
leaves_one d found aware t lives k c life moment bytes ms past s there living known number read_is plain_is =
    let r = Sent moment (address_of c.address) bytes in
    let x : Setting = record { d = d; is_found = found; known_of = aware } in
    let begins : (n : ℕ) → begins_as n (read d r).messages.read ≡ false = λ n. ap (begins_as n) read_is ∙ plain_is n in
    let same : Steady c c = record { address = refl; local = refl; remote = refl; state = refl; dialled = refl; made = refl; heard = refl; shadowed = refl } in
    let unanswered : answers d life r ≡ false =
    and_right (goes_to life.address r && is_number (cond life.is_dialled 0 life.remote) (read d r).channel) (begins_as life.local (read d r).messages.read) (begins life.local) in
    let stays = said_stays d t t lives k c c life moment bytes past s there living known number
    (λ n some is. absurd (both_ways (begins_as n (read d r).messages.read) (begins n) is)) same
    (ap (λ (b : Bool). b || is_begun c.opening) (sym unanswered)) s.seated.are (record { there = there; others = λ n ne. refl }) in
    record {
      standing = stays.0;
      moment = refl;
      others = λ most n e l o ne at unwaits lives_there h.
          let st = stands_of d (channel_at t n) (lives n) e l past (s.seated.each n) at lives_there in
          unsaid_followed (at_seat x n) most o l moment (address_of c.address) bytes past h (began d e l past st)
          (unsaid_there d t t lives lives n e l moment (address_of c.address) bytes past s at unwaits lives_there at lives_there (stays.1.others n ne));
    }

pub leaves_all : (d : Descriptor) (found : ℕ → Bool) (aware : ℕ → ℕ → Bool) (t : Seats) (lives : ℕ → Option Life) (k : ℕ) (c : Channel) (life : Life) (channel moment at : ℕ) (bs : List Batch) (old new : At) (past : List Record)
    → Standing d t lives past → channel_at t k ≡ Some c → lives k ≡ Some life → is_waiting c ≡ false → channel ≡ life.remote
    → AllByRecursion steps.IsPlain (notes_of bs) → DeliversEach (W d c channel moment at) bs old new
    → Leaves (record { d = d; is_found = found; known_of = aware }) t lives k past (After (W d c channel moment at) bs past)
leaves_all d found aware t lives k c life channel moment at [] old new past s there living known number plains each = leaves_none _ t lives k past s
leaves_all d found aware t lives k c life channel moment at (b ∷ bs) old new past s there living known number plains each =
    let w = W d c channel moment at in
    let x : Setting = record { d = d; is_found = found; known_of = aware } in
    let parts = all_front steps.IsPlain b.notes (notes_of bs) plains in
    let is = records_are_read w b old each.0 parts.0 each.1 in
    let one : Leaves x t lives k past (First w b past) = first_by (λ (xs : List Record). Leaves x t lives k past xs) w b past (leaves_none x t lives k past s)
    (leaves_one d found aware t lives k c life moment b.bytes b.messages past s there living known (is.channel ∙ ap (λ (n : ℕ). Some n) number) is.messages is.plain) in
    subst (λ (xs : List Record). Leaves x t lives k past xs) (sym (after_more w b bs past))
    (leaves_twice x t lives k past (First w b past) (After w bs (First w b past)) one
    (leaves_all d found aware t lives k c life channel moment at bs each.0 new (First w b past) one.standing there living known number parts.1 each.2))

-- ---- notes on a seat

-- where the datagrams of a seat go
pub record IsFar (o : Option Channel) (far : Far) : Type 0 where
  pub channel : Channel
  pub there : o ≡ Some channel
  pub known : is_waiting channel ≡ false
  pub is : far ≡ record { address = channel.address; number = unwrap_or channel.remote 0; proven = is_proven channel; begun = is_begun channel.opening }

pub far_is : (o : Option Channel) (far : Far) → far_of o ≡ Some far → IsFar o far
far_is None far e = absurd cc
far_is (Some c) far e = by (is_waiting c) refl e
  where
    by : (w : Bool) → is_waiting c ≡ w → cond w None (Some (record { address = c.address; number = unwrap_or c.remote 0; proven = is_proven c; begun = is_begun c.opening })) ≡ Some far → IsFar (Some c) far
    by true waits e = absurd cc
    by false known e = record { channel = c; there = refl; known = known; is = sym (same_Some (record { address = c.address; number = unwrap_or c.remote 0; proven = is_proven c; begun = is_begun c.opening }) far e) }

-- the channels are the same to the traffic once it is noted when something was sent last
record IsNoted (t new : Seats) (k : ℕ) (c : Channel) : Type 0 where
  channel : Channel
  change : Changes t new k (Some channel)
  steady : Steady c channel
  begun : is_begun channel.opening ≡ is_begun c.opening
  are : AreSeats t.channels → AreSeats new.channels

noted_sent : (t : Seats) (k : ℕ) (c : Channel) (sent at : ℕ) → channel_at t k ≡ Some c → IsNoted t (with_sent t k false sent at) k c
noted_sent t k c sent at there = by (nat_lt 0 sent)
  where
    by : (b : Bool) → IsNoted t (cond b (with_datagram t k false at) t) k c
    by false = record {
      channel = c;
      change = record { there = there; others = λ n ne. refl };
      steady = record { address = refl; local = refl; remote = refl; state = refl; dialled = refl; made = refl; heard = refl; shadowed = refl };
      begun = refl;
      are = λ a. a;
    }
    by true = record {
      channel = record c { wrote = at };
      change = changed_is t k c (λ x. record x { wrote = at }) there;
      steady = record { address = refl; local = refl; remote = refl; state = refl; dialled = refl; made = refl; heard = refl; shadowed = refl };
      begun = refl;
      are = λ a. are_changed t k c (λ x. record x { wrote = at }) a there refl;
    }

-- The seats stand for the traffic with records more, where these leave the others as they were and one of them follows.
pub settled_in : (x : Setting) (known_of : ℕ → ℕ → Bool) (most more : ℕ) (p : SeatsState) (k : ℕ) (c : Channel) (sent : ℕ) (before after : SeatState) (added past : List Record)
    → (h : StandsFor x most p past) → channel_at p.table k ≡ Some c → is_waiting c ≡ false → slice_get p.seats k ≡ Some before → most ≤ more
    → ((n : ℕ) → n ≢ k → known_of n ≡ x.known_of n)
    → Leaves x p.table h.lives k past (added ++ past) → ((life : Life) → h.lives k ≡ Some life → IsFollowed (at_seat (record x { known_of = known_of }) k) more after life (added ++ past))
    → StandsFor (record x { known_of = known_of }) more (record p { table = with_sent p.table k false sent p.moment; seats = set p.seats k after }) (added ++ past)
settled_in x known_of most more p k c sent before after added past h there known has le elsewhere leaves own =
    let y : Setting = record x { known_of = known_of } in
    let t = p.table in
    let noted = noted_sent t k c sent p.moment there in
    let new = with_sent t k false sent p.moment in
    let waits : is_waiting noted.channel ≡ is_waiting c = steady_waits c noted.channel noted.steady in
    let stays = steady_stays x.d t new h.lives k c noted.channel (added ++ past) leaves.standing there noted.steady noted.begun (noted.are h.standing.seated.are) noted.change in
    record {
      swarm = h.swarm;
      now_is = h.now_is ∙ sym leaves.moment;
      lives = h.lives;
      standing = stays.0;
      begun = begun_changed t new k noted.channel noted.change (λ w. noted.begun ∙ h.begun k c there (sym waits ∙ w)) h.begun;
      follow = λ n e l s at unwaits lives_there seat_there. ⊎_elim
          (λ here.
          let n_is = eqb-true n k here in
          let s_is : after ≡ s = same_Some after s (sym (get_set_there p.seats k after before has) ∙ ap (slice_get (set p.seats k after)) (sym n_is) ∙ seat_there) in
          subst (λ (m : ℕ). IsFollowed (at_seat y m) more s l (added ++ past)) (sym n_is)
          (subst (λ (o : SeatState). IsFollowed (at_seat y k) more o l (added ++ past)) s_is (own l (ap h.lives (sym n_is) ∙ lives_there))))
          (λ apart.
          let ne = eqb-false n k apart in
          let at_before = sym (noted.change.others n ne) ∙ at in
          let seat_before = sym (get_set_other p.seats k n after ne) ∙ seat_there in
          subst (λ (f : ℕ → Bool). IsFollowed (record { d = x.d; is_found = x.is_found; known_of = f }) more s l (added ++ past)) (sym (elsewhere n ne))
          (leaves.others more n e l s ne at_before unwaits lives_there
          (more_followed (at_seat x n) most more s l past le (h.follow n e l s at_before unwaits lives_there seat_before))))
          (cases_Bool (eqb n k));
    }

pub settled : (x : Setting) (most more : ℕ) (p : SeatsState) (k : ℕ) (c : Channel) (sent : ℕ) (before after : SeatState) (added past : List Record)
    → (h : StandsFor x most p past) → channel_at p.table k ≡ Some c → is_waiting c ≡ false → slice_get p.seats k ≡ Some before → most ≤ more
    → Leaves x p.table h.lives k past (added ++ past) → ((life : Life) → h.lives k ≡ Some life → IsFollowed (at_seat x k) more after life (added ++ past))
    → StandsFor x more (record p { table = with_sent p.table k false sent p.moment; seats = set p.seats k after }) (added ++ past)
settled x most more p k c sent before after added past h there known has le leaves own =
    settled_in x x.known_of most more p k c sent before after added past h there known has le (λ n ne. refl) leaves own

-- What is known of a channel on which something may be said.
pub record Knows (d : Descriptor) (c : Channel) (life : Life) (past : List Record) : Type 0 where
  pub began : life.opening < length past
  pub address : life.address ≡ address_of c.address
  pub number : unwrap_or c.remote 0 ≡ life.remote

pub knows_of : (x : Setting) (most : ℕ) (p : SeatsState) (k : ℕ) (c : Channel) (past : List Record) (h : StandsFor x most p past) → channel_at p.table k ≡ Some c → is_waiting c ≡ false
    → (life : Life) × (h.lives k ≡ Some life) × Knows x.d c life past
knows_of x most p k c past h there known =
    let living = living_of x.d p.table h.lives past k c h.standing.seated there (inl known) in
    let st = stands_of x.d (channel_at p.table k) (h.lives k) c living.0 past (h.standing.seated.each k) there living.1 in
    (living.0, living.1, record { began = began x.d c living.0 past st; address = st.address; number = ap (λ (o : Option ℕ). unwrap_or o 0) (st.remote known).0 })

-- the seats stand for the traffic with what was said on one of them
pub spoken : (found : ℕ → Bool) (aware : ℕ → ℕ → Bool) (most : ℕ) (p : SeatsState) (k : ℕ) (c : Channel) (moment : ℕ) (bs : List Batch) (before after : SeatState) (link later : LinkState) (delivered : Delivered) (past : List Record) (held : ℕ → Bool)
    → let x : Setting = record { d = p.descriptor; is_found = found; known_of = aware } in
    let w = W p.descriptor c (unwrap_or c.remote 0) moment p.moment in
    StandsFor x most p past → channel_at p.table k ≡ Some c → is_waiting c ≡ false → slice_get p.seats k ≡ Some before
    → AllByRecursion steps.IsPlain (notes_of bs)
    → DeliversEach w bs (record { seat = before; link = link; so_far = none_delivered }) (record { seat = after; link = later; so_far = delivered })
    → HoldsAnnounced x held past → MaySay held (notes_of bs) before
    → StandsFor (with_told k (notes_of bs) x) (most + delivered.refused) (record p { table = with_sent p.table k false delivered.sent p.moment; seats = set p.seats k after }) (After w bs past)
spoken found aware most p k c moment bs before after link later delivered past held h there known has plains each holds may =
    let d = p.descriptor in
    let x : Setting = record { d = d; is_found = found; known_of = aware } in
    let from : At = record { seat = before; link = link; so_far = none_delivered } in
    let to : At = record { seat = after; link = later; so_far = delivered } in
    let knows = knows_of x most p k c past h there known in
    let life = knows.0 in
    let on : IsOn (W d c (unwrap_or c.remote 0) moment p.moment) life past = record {
      begun = knows.2.began;
      address = subst (λ (a : traffic.Address). same_address (address_of c.address) a ≡ true) (sym knows.2.address) (same_self (address_of c.address));
      number = knows.2.number;
      moment = h.now_is;
    } in
    let told : ℕ → Bool = λ i. aware k i || list_any (tells_note i) (notes_of bs) in
    settled_in x (with_told k (notes_of bs) x).known_of most (most + delivered.refused) p k c delivered.sent before after (records_of (W d c (unwrap_or c.remote 0) moment p.moment) bs) past h there known has (omega arith)
    (λ n ne. ap (λ (b : Bool). cond b told (aware n)) (ne_eqb n k ne))
    (leaves_all d found aware p.table h.lives k c life (unwrap_or c.remote 0) moment p.moment bs from to past h.standing there knows.1 known knows.2.number plains each)
    (λ l lives_there. subst (λ (f : ℕ → Bool). IsFollowed (record { d = d; is_found = found; known_of = f }) (most + delivered.refused) after l (After (W d c (unwrap_or c.remote 0) moment p.moment) bs past))
    (ap (λ (b : Bool). cond b told (aware k)) (sym (eq-eqb k k refl)))
    (subst (λ (y : Life). IsFollowed (record { d = d; is_found = found; known_of = told }) (most + delivered.refused) after y (After (W d c (unwrap_or c.remote 0) moment p.moment) bs past))
    (same_Some life l (sym knows.1 ∙ lives_there))
    (own_followed d found (aware k) most c (unwrap_or c.remote 0) moment p.moment bs from to life past held each on (h.follow k c life before there known knows.1 has) refl refl (holds.known k) may)))

-- what another peer is to know of once notes were delivered is held
pub told_known : (x : Setting) (k : ℕ) (ns : List Note) (held : ℕ → Bool) → AllByRecursion (Announces held) ns → ((seat i : ℕ) → x.known_of seat i ≡ true → held i ≡ true)
    → (seat i : ℕ) → (with_told k ns x).known_of seat i ≡ true → held i ≡ true
told_known x k ns held announces_held knows seat i e = by seat (eqb seat k) i e
  where
    note_in : (i : ℕ) (note : Note) → Announces held note → tells_note i note ≡ true → held i ≡ true
    note_in i KeepAlive a e = absurd cc
    note_in i (Handshake source) a e = absurd cc
    note_in i Close a e = absurd cc
    note_in i Choke a e = absurd cc
    note_in i Unchoke a e = absurd cc
    note_in i (Ack range delay) a e = absurd cc
    note_in i (Have range) a e = a i e
    note_in i (Request range) a e = absurd cc
    note_in i (Cancel range) a e = absurd cc
    note_in i PexReq a e = absurd cc
    note_in i (Pex4 address port) a e = absurd cc
    note_in i (Pex6 address port) a e = absurd cc

    notes_in : (i : ℕ) (ns : List Note) → AllByRecursion (Announces held) ns → list_any (tells_note i) ns ≡ true → held i ≡ true
    notes_in i [] a e = absurd cc
    notes_in i (note ∷ ns) a e = ⊎_elim (λ here. note_in i note a.0 here) (λ behind. notes_in i ns a.1 behind) (or_cases (tells_note i note) (list_any (tells_note i) ns) e)

    by : (seat : ℕ) (b : Bool) (i : ℕ) → (let f : ℕ → Bool = cond b (λ j. x.known_of k j || list_any (tells_note j) ns) (x.known_of seat) in f i ≡ true) → held i ≡ true
    by seat true i e = ⊎_elim (λ was. knows k i was) (λ tells. notes_in i ns announces_held tells) (or_cases (x.known_of k i) (list_any (tells_note i) ns) e)
    by seat false i e = knows seat i e

-- what was announced then is held
pub told_held : (x : Setting) (d : Descriptor) (c : Channel) (channel moment at : ℕ) (k : ℕ) (bs : List Batch) (old new : At) (past : List Record) (held : ℕ → Bool) → x.d ≡ d
    → DeliversEach (W d c channel moment at) bs old new → AllByRecursion (Announces held) (notes_of bs) → HoldsAnnounced x held past
    → HoldsAnnounced (with_told k (notes_of bs) x) held (After (W d c channel moment at) bs past)
told_held x d c channel moment at k bs old new past held swarm each announces_held holds = record {
  found = holds.found;
  announced = λ i e. announced_held d c channel moment at held i bs old new past each announces_held
      (subst (λ (o : Descriptor). is_announced o i past ≡ true → held i ≡ true) swarm (holds.announced i))
      (sym (ap (λ (o : Descriptor). is_announced o i (After (W d c channel moment at) bs past)) swarm) ∙ e);
  known = told_known x k (notes_of bs) held announces_held holds.known;
}
