-- What goes behind this peer's handshake in its datagram, and what becomes of all seats with it.
use Rattle.std.proofs.Common.{◌≡◌, ◌≢◌, ⊎_elim, ℕ, ◌+◌, ◌<◌, ◌≤◌, eqb, Bool, true, false, cond, ◌&&◌, ◌||◌, Option, Some, None, List, [], ◌∷◌, ◌++◌, length, refl, sym, ◌∙◌, ap, subst, arith, append-nil}
use Rattle.std.specs.Prelude.{unwrap_or}
use Rattle.std.specs.List.{slice_get, AllByRecursion, list_any}
use Rattle.std.proofs.Math.ListN.{set}
use Rattle.std.proofs.lemmas.Bool.{cases_Bool, eqb-true, eqb-false, eq-eqb, ne_eqb}
use Rattle.std.proofs.lemmas.List.{length-append}
use Rattle.std.proofs.lemmas.Option.{same_Some}
use Rattle.pp_terms.specs.format.Traffic as traffic
use Rattle.pp_terms.specs.format.Traffic.{Record, Sent, LinkState, same_address}
use Rattle.pp_terms.specs.format.Descriptor.{Descriptor}
use Rattle.pp_terms.specs.format.Options.{Options}
use Rattle.pp_terms.specs.format.Messages as plain
use Rattle.pp_terms.specs.format.Messages.{Message}
use Rattle.pp_traffic.specs.Past.{now, read}
use Rattle.pp_traffic.specs.Life.{Life, begins_as}
use Rattle.pp_outside.specs.Outside.{address_of}
use Rattle.pp_channels.specs.Seats.{Seats, channel_at, changed, with_handshake}
use Rattle.pp_channels.specs.declared.channel.Channel.{Channel}
use Rattle.pp_channels.specs.Timing.{is_greeted}
use Rattle.pp_lives.specs.Reading.{is_waiting}
use Rattle.pp_lives.specs.Sending.{with_datagram}
use Rattle.pp_lives.specs.Standing.{Standing}
use Rattle.pp_lives.specs.Calls.{Changes}
use Rattle.pp_lives.proofs.Changing.{changed_is, changes_then}
use Rattle.pp_lives.proofs.Edits.{still_opened}
use Rattle.pp_lives.proofs.Kept.{sent_keeps, begun_kept}
use Rattle.pp_lives.proofs.Own.{stands_of}
use Rattle.pp_lives.proofs.Sent.{same_self}
use Rattle.pp_lives.proofs.Staying.{began}
use Rattle.pp_draft.specs.declared.note.Note.{Note}
use Rattle.pp_draft.specs.declared.note.Note.TheVariants.{Handshake}
use Rattle.pp_draft.specs.Notes.{own_options, SayAll}
use Rattle.pp_seat.specs.Frames.{tale_of}
use Rattle.pp_seat.specs.Follows.{SetsBack}
use Rattle.pp_seat.specs.Seats.{SeatState}
use Rattle.pp_seat.proofs.Saying.{back_follows}
use Rattle.pp_desk.specs.declared.steps.Delivered.{Delivered}
use Rattle.pp_desk.specs.Steps.{IsPlain}
use Rattle.pp_desk.specs.Delivers.{Way, Batch, At, DeliversEach, BeginsSent, notes_of, none_delivered}
use Rattle.pp_desk.specs.Laws.{records_of, IsOn}
use Rattle.pp_seats.specs.Standing.{SeatsState, Setting, at_seat, frame_in, IsFollowed, StandsFor}
use Rattle.pp_seats.specs.Sending.{HoldsAnnounced, tells_note, with_told, MaySay}
use Rattle.pp_seats.proofs.Lists.{get_set_there, get_set_other}
use Rattle.pp_seats.proofs.Outgoing.{W, After, Leaves, after_more, leaves_all, knows_of, more_followed, own_followed, unsaid_followed, unsaid_there}
use Rattle.pp_seats.proofs.Turnings.{seat_changed, known_changes}

-- ---- the channel

-- once a datagram with a handshake was sent there
abbrev pub opened_channel : Channel → ℕ → Channel
opened_channel c at = record c { wrote = at; opening = with_handshake c.opening }

opened_change : (t : Seats) (k : ℕ) (c : Channel) (at : ℕ) → channel_at t k ≡ Some c → Changes t (with_datagram t k true at) k (Some (opened_channel c at))
opened_change t k c at there =
    let f : Channel → Channel = λ x. record x { wrote = at } in
    let g : Channel → Channel = λ x. record x { opening = with_handshake x.opening } in
    let one = changed_is t k c f there in
    changes_then t (changed t k f) (changed (changed t k f) k g) k _ _ one (changed_is (changed t k f) k (f c) g one.there)

opened_waits : (c : Channel) (at : ℕ) → is_waiting (opened_channel c at) ≡ is_waiting c
opened_waits c at = ap (λ (b : Bool). b && is_greeted c.state) (still_opened c.opening)

-- The datagram leaves the channels standing, of which this one has begun, and the seats of the others follow as they did.
record Greets (x : Setting) (t new : Seats) (lives : ℕ → Option Life) (k : ℕ) (past after : List Record) : Type 0 where
  standing : Standing x.d new lives after
  others : (most n : ℕ) (e : Channel) (l : Life) (s : SeatState) → n ≢ k → channel_at t n ≡ Some e → channel_at new n ≡ Some e → is_waiting e ≡ false → lives n ≡ Some l
      → IsFollowed (at_seat x n) most s l past → IsFollowed (at_seat x n) most s l after

greets_one : (x : Setting) (t : Seats) (lives : ℕ → Option Life) (k : ℕ) (c : Channel) (life : Life) (at moment : ℕ) (bytes : List ℕ) (options : Options) (ms : List Message) (past : List Record)
    → let r = Sent moment (address_of c.address) bytes in Standing x.d t lives past → channel_at t k ≡ Some c → lives k ≡ Some life → is_waiting c ≡ false
    → (read x.d r).channel ≡ Some life.remote → (read x.d r).messages.read ≡ plain.Handshake c.local options ∷ ms
    → Greets x t (with_datagram t k true at) lives k past (r ∷ past)
greets_one x t lives k c life at moment bytes options ms past s there living known number messages =
    let r = Sent moment (address_of c.address) bytes in
    let new = with_datagram t k true at in
    let keeps = sent_keeps x.d t lives k c life true at moment bytes past s there living known number
    (λ n some is. sym (eqb-true c.local n (sym (ap (begins_as n) messages) ∙ is)))
    (sym (ap (begins_as c.local) messages ∙ eq-eqb c.local c.local refl)) in
    record {
      standing = keeps.0;
      others = λ most n e l o ne before now_there unwaits lives_there h.
          let st = stands_of x.d (channel_at t n) (lives n) e l past (s.seated.each n) before lives_there in
          unsaid_followed (at_seat x n) most o l moment (address_of c.address) bytes past h (began x.d e l past st)
          (unsaid_there x.d t new lives lives n e l moment (address_of c.address) bytes past s before unwaits lives_there now_there lives_there (keeps.1.others n ne));
    }

-- ---- the seats stand for the traffic with this peer's handshake and what was said behind it

pub opened : (found : ℕ → Bool) (aware : ℕ → ℕ → Bool) (most : ℕ) (p : SeatsState) (k : ℕ) (c : Channel) (moment : ℕ) (options : Options) (ms : List Message) (b : Batch) (bs : List Batch) (before after : SeatState) (link later : LinkState) (delivered : Delivered) (past : List Record) (held : ℕ → Bool)
    → let x : Setting = record { d = p.descriptor; is_found = found; known_of = aware } in
    let w = W p.descriptor c (unwrap_or c.remote 0) moment p.moment in
    StandsFor x most p past → channel_at p.table k ≡ Some c → is_waiting c ≡ false → slice_get p.seats k ≡ Some before
    → b.sent ≡ true → b.messages ≡ plain.Handshake c.local options ∷ ms → AllByRecursion IsPlain (notes_of bs)
    → DeliversEach w (b ∷ bs) (record { seat = before; link = link; so_far = none_delivered }) (record { seat = after; link = later; so_far = delivered })
    → HoldsAnnounced x held past → MaySay held (notes_of (b ∷ bs)) before
    → StandsFor (with_told k (notes_of (b ∷ bs)) x) (most + delivered.refused) (record p { table = with_datagram p.table k true p.moment; seats = set p.seats k after }) (After w (b ∷ bs) past)
opened found aware most p k c moment options ms b bs before after link later delivered past held h there known has sent messages plains each holds may =
    let d = p.descriptor in
    let x : Setting = record { d = d; is_found = found; known_of = aware } in
    let w = W d c (unwrap_or c.remote 0) moment p.moment in
    let r = Sent moment (address_of c.address) b.bytes in
    let from : At = record { seat = before; link = link; so_far = none_delivered } in
    let to : At = record { seat = after; link = later; so_far = delivered } in
    let t = p.table in
    let new = with_datagram t k true p.moment in
    let all = After w (b ∷ bs) past in
    let knows = knows_of x most p k c past h there known in
    let life = knows.0 in
    let on : IsOn w life past = record {
      begun = knows.2.began;
      address = subst (λ (a : traffic.Address). same_address (address_of c.address) a ≡ true) (sym knows.2.address) (same_self (address_of c.address));
      number = knows.2.number;
      moment = h.now_is;
    } in
    let g = greets_one x t h.lives k c life p.moment moment b.bytes options ms past h.standing there knows.1 known
    (ap (λ (m : plain.Datagram). m.channel) each.1.written.read ∙ ap (λ (n : ℕ). Some n) knows.2.number)
    (ap (λ (m : plain.Datagram). m.messages.read) each.1.written.read ∙ messages) in
    let change = opened_change t k c p.moment there in
    let waits = opened_waits c p.moment in
    let is : all ≡ After w bs (r ∷ past) = after_more w b bs past ∙ ap (λ (s : Bool). After w bs (cond s (r ∷ []) [] ++ past)) sent in
    let rest : Leaves x new h.lives k (r ∷ past) all = subst (λ (xs : List Record). Leaves x new h.lives k (r ∷ past) xs) (sym is)
    (leaves_all d found aware new h.lives k (opened_channel c p.moment) life (unwrap_or c.remote 0) moment p.moment bs each.0 to (r ∷ past) g.standing change.there knows.1
    (waits ∙ known) knows.2.number plains each.2) in
    let told : ℕ → Bool = λ i. aware k i || list_any (tells_note i) (notes_of (b ∷ bs)) in
    let more = most + delivered.refused in
    let y : Setting = with_told k (notes_of (b ∷ bs)) x in
    record {
      swarm = h.swarm;
      now_is = h.now_is ∙ sym rest.moment;
      lives = h.lives;
      standing = rest.standing;
      begun = begun_kept.sent t k c true p.moment there h.begun;
      follow = λ n e l s at unwaits lives_there seat_there. ⊎_elim
          (λ here.
          let n_is = eqb-true n k here in
          let s_is : after ≡ s = same_Some after s (sym (get_set_there p.seats k after before has) ∙ ap (slice_get (set p.seats k after)) (sym n_is) ∙ seat_there) in
          let l_is : life ≡ l = same_Some life l (sym knows.1 ∙ ap h.lives (sym n_is) ∙ lives_there) in
          subst (λ (m : ℕ). IsFollowed (at_seat y m) more s l all) (sym n_is)
          (subst (λ (o : SeatState). IsFollowed (at_seat y k) more o l all) s_is
          (subst (λ (f : ℕ → Bool). IsFollowed (record { d = d; is_found = found; known_of = f }) more after l all)
          (ap (λ (b : Bool). cond b told (aware k)) (sym (eq-eqb k k refl)))
          (subst (λ (z : Life). IsFollowed (record { d = d; is_found = found; known_of = told }) more after z all) l_is
          (own_followed d found (aware k) most c (unwrap_or c.remote 0) moment p.moment (b ∷ bs) from to life past held each on (h.follow k c life before there known knows.1 has) refl refl (holds.known k) may)))))
          (λ apart.
          let ne = eqb-false n k apart in
          let at_before = sym (change.others n ne) ∙ at in
          let seat_before = sym (get_set_other p.seats k n after ne) ∙ seat_there in
          subst (λ (f : ℕ → Bool). IsFollowed (record { d = d; is_found = found; known_of = f }) more s l all)
          (sym (ap (λ (b : Bool). cond b told (aware n)) (ne_eqb n k ne)))
          (rest.others more n e l s ne at unwaits lives_there
          (g.others more n e l s ne at_before at unwaits lives_there
          (more_followed (at_seat x n) most more s l past (omega arith) (h.follow n e l s at_before unwaits lives_there seat_before)))))
          (cases_Bool (eqb n k));
    }

-- ---- what the first datagram has

-- It begins with the handshake, and the notes of the others are plain.
pub record BeginsWith (d : Descriptor) (source : ℕ) (b : Batch) (bs : List Batch) : Type 0 where
  pub messages : List Message
  pub begins : b.messages ≡ plain.Handshake source (own_options d) ∷ messages
  pub plains : AllByRecursion IsPlain (notes_of bs)

pub begins_with : (d : Descriptor) (source : ℕ) (notes : List Note) (b : Batch) (bs : List Batch) → 0 < length b.notes → SayAll d b.notes b.messages
    → b.notes ++ notes_of bs ≡ Handshake source ∷ notes → AllByRecursion IsPlain notes → BeginsWith d source b bs
begins_with d source notes b bs some said each plains = by b.notes some said each
  where
    behind : (ns : List Note) → ns ++ notes_of bs ≡ notes → AllByRecursion IsPlain (notes_of bs)
    behind ns e = last ns (subst (λ (xs : List Note). AllByRecursion IsPlain xs) (sym e) plains)
      where
        last : (xs : List Note) → AllByRecursion IsPlain (xs ++ notes_of bs) → AllByRecursion IsPlain (notes_of bs)
        last [] a = a
        last (x ∷ xs) a = last xs a.1

    by : (ns : List Note) → 0 < length ns → SayAll d ns b.messages → ns ++ notes_of bs ≡ Handshake source ∷ notes → BeginsWith d source b bs
    by [] few says e = absurd (omega arith)
    by (n ∷ ns) few says e = record {
      messages = says.1;
      begins = says.4 ∙ ap (λ (ms : List Message). ms ++ says.1) (first n (head_of e) says.2);
      plains = behind ns (tail_of e);
    }
      where
        head_of : n ∷ (ns ++ notes_of bs) ≡ Handshake source ∷ notes → n ≡ Handshake source
        head_of e = cc

        tail_of : n ∷ (ns ++ notes_of bs) ≡ Handshake source ∷ notes → ns ++ notes_of bs ≡ notes
        tail_of e = cc

        first : (m : Note) → m ≡ Handshake source → Rattle.pp_draft.specs.Notes.Says d m says.0 → says.0 ≡ plain.Handshake source (own_options d) ∷ []
        first m is said = subst (λ (o : Note). Rattle.pp_draft.specs.Notes.Says d o says.0) is said

-- some record is there where the first datagram was taken
pub some_sent : (w : Way) (bs : List Batch) → BeginsSent bs → 0 < length (records_of w bs)
some_sent w [] e = absurd e
some_sent w (b ∷ bs) e =
    let one : length (cond b.sent (Sent w.moment w.receiver b.bytes ∷ []) []) ≡ 1 = ap (λ (s : Bool). length (cond s (Sent w.moment w.receiver b.bytes ∷ []) [])) e in
    omega (arith, one, length-append (records_of w bs) (cond b.sent (Sent w.moment w.receiver b.bytes ∷ []) []))

-- ---- the link refused the datagram with the handshake

pub withheld : (x : Setting) (most : ℕ) (p : SeatsState) (k : ℕ) (notes : List Note) (before after : SeatState) (past : List Record) → StandsFor x most p past
    → slice_get p.seats k ≡ Some before → after ≡ record before { cursor = 0 }
    → StandsFor (with_told k notes x) (most + 1) (record p { seats = set p.seats k after }) past
withheld x most p k notes before after past h there exact =
    let back : SetsBack before (record before { cursor = 0 }) = back_follows before 0 (omega arith) in
    let q : SeatsState = record p { seats = set p.seats k after } in
    let one : StandsFor x (most + 1) q past = seat_changed x most (most + 1) p k before after past h there (omega arith) (λ life f. record {
      lost = record { chunks = f.lost.chunks; haves = f.lost.haves + 1 };
      chunks = (let few = f.chunks in omega (arith, few));
      haves = (let few = f.haves in omega (arith, few));
      follows = subst (λ (s : SeatState). Rattle.pp_seat.specs.Follows.Follows (frame_in (at_seat x k) life past) (record { chunks = f.lost.chunks; haves = f.lost.haves + 1 }) s (tale_of x.d life past)) (sym exact)
          (back.follows (frame_in (at_seat x k) life past) f.lost (tale_of x.d life past) f.follows);
      awaited = subst (λ (s : SeatState). Rattle.pp_seat.specs.Awaited.AreAwaited s.own (Rattle.pp_promises.specs.ReadStory.read_story x.d life past)) (sym exact) f.awaited;
      handed = f.handed;
    }) in
    known_changes x (with_told k notes x).known_of (most + 1) q past (λ seat i s has below knows. by seat i s has below (eqb seat k) refl knows) one
  where
    by : (seat i : ℕ) (s : SeatState) → slice_get (set p.seats k after) seat ≡ Some s → i < s.cursor → (b : Bool) → eqb seat k ≡ b
        → (let f : ℕ → Bool = cond b (λ j. x.known_of k j || list_any (tells_note j) notes) (x.known_of seat) in f i ≡ true) → x.known_of seat i ≡ true
    by seat i s has below false e knows = knows
    by seat i s has below true e knows =
        let s_is : after ≡ s = same_Some after s (sym (get_set_there p.seats k after before there) ∙ ap (slice_get (set p.seats k after)) (sym (eqb-true seat k e)) ∙ has) in
        let low : s.cursor ≡ 0 = ap (λ (o : SeatState). o.cursor) (sym s_is ∙ exact) in
        absurd (omega (arith, below, low))
