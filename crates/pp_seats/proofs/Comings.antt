-- What each meaning of a datagram leaves of the seats.
use Rattle.std.proofs.Common.{◌≡◌, ◌≢◌, ⊎_elim, ℕ, ◌≤◌, eqb, max, Bool, false, cond, Option, Some, List, ◌∷◌, length, drop, refl, sym, ◌∙◌, ap, subst}
use Rattle.std.specs.List.{slice_get}
use Rattle.std.proofs.Math.ListN.{set}
use Rattle.std.proofs.lemmas.Bool.{cases_Bool, eqb-true, eqb-false}
use Rattle.std.proofs.lemmas.Option.{same_Some}
use Rattle.pp_terms.specs.format.Traffic.{Record, Received, Quiet}
use Rattle.pp_terms.specs.format.Descriptor.{Descriptor, chunks_of}
use Rattle.pp_terms.specs.format.Messages.{Message, Messages}
use Rattle.pp_outside.specs.Outside.{address_of}
use Rattle.pp_outside.specs.declared.link.Address.{Address}
use Rattle.pp_traffic.specs.Past.{now}
use Rattle.pp_traffic.specs.Life.{Life, closes}
use Rattle.pp_channels.specs.Seats.{Seats, channel_at, closed}
use Rattle.pp_channels.specs.declared.channel.Channel.{Channel}
use Rattle.pp_lives.specs.Reading.{is_waiting}
use Rattle.pp_lives.specs.Calls.{Told, TellsOne, TellsFirst}
use Rattle.pp_lives.specs.Arriving.{contents, Arrives}
use Rattle.pp_lives.specs.Arrived.{PassesAt, IsHeardOn, IsOpenedBy, IsRepliedBy, Stays, GivesUp, Reads, Arrived, KeepsStanding}
use Rattle.pp_lives.specs.declared.arriving.Arrival.{Arrival}
use Rattle.pp_lives.specs.declared.arriving.Arrival.TheVariants as arrivals
use Rattle.pp_lives.proofs.Arrivals.{contents_read}
use Rattle.pp_lives.proofs.Own.{stands_of}
use Rattle.pp_lives.proofs.Staying.{began}
use Rattle.pp_lives.proofs.Wholes.{quiet_stays}
use Rattle.pp_seat.specs.Seats.{SeatState}
use Rattle.pp_seats.specs.Standing.{SeatsState, Setting, AllHold, StandsFor, at_seat}
use Rattle.pp_seats.specs.Hearing.{HearsAll, ChangesSeat, IsRead, Begins, IsShown, BeginsShown, Prepares, IsReady, Ready, OnceRead}
use Rattle.pp_seats.proofs.Lists.{get_set_there, get_set_other, set_twice}
use Rattle.pp_seats.proofs.Steps.{passed_ready, quiet_ready, heard_ready, opened_ready, replied_ready}

abbrev Came : ℕ → Address → List ℕ → Record
Came at sender bytes = Received at (address_of sender) bytes

-- the state between: the lives have heard of the datagram, and the seats haven't
abbrev pub Between : Seats → SeatsState → ℕ → SeatsState
Between new p moment = record p { table = new; moment = moment }

-- ---- the seats that the record isn't for

passed_at : (x : Setting) (most : ℕ) (p : SeatsState) (sender : Address) (at : ℕ) (bytes : List ℕ) (past : List Record) (h : StandsFor x most p past)
    → (new : Seats) (later : ℕ → Option Life) (n : ℕ) → PassesAt x.d p.table new h.lives later (Came at sender bytes) past n
    → (c : Channel) (life : Life) (s : SeatState) → channel_at new n ≡ Some c → is_waiting c ≡ false → later n ≡ Some life → slice_get p.seats n ≡ Some s
    → IsReady (at_seat x n) most (now (Came at sender bytes ∷ past)) s life (Came at sender bytes) past
passed_at x most p sender at bytes past h new later n passes c life s there known living has =
    let w = passes c life there known living in
    passed_ready (at_seat x n) most at s life (address_of sender) bytes past
    (h.follow n w.there.channel life s w.there.was w.there.known w.there.living has) w.there.begun w.apart

-- ---- nothing is read

stays_ready : (x : Setting) (most : ℕ) (p : SeatsState) (sender : Address) (at : ℕ) (bytes : List ℕ) (past : List Record) (h : StandsFor x most p past)
    → (new : Seats) → Stays x.d (now (Came at sender bytes ∷ past)) p.table new h.lives (Came at sender bytes) past
    → Ready x most (Between new p (now (Came at sender bytes ∷ past))) (Came at sender bytes) past
stays_ready x most p sender at bytes past h new s = record {
  event = refl;
  swarm = h.swarm;
  now_is = refl;
  lives = h.lives;
  standing = s.standing;
  begun = s.begun h.begun;
  follow = λ n c life seat there known living has. passed_at x most p sender at bytes past h new h.lives n (s.passes n) c life seat there known living has;
}

dropped_ready : (x : Setting) (most : ℕ) (p : SeatsState) (sender : Address) (at : ℕ) (bytes : List ℕ) (past : List Record) (h : StandsFor x most p past)
    → (new : Seats) (k : ℕ) → GivesUp x.d (now (Came at sender bytes ∷ past)) k p.table new h.lives h.lives (Came at sender bytes) past
    → Ready x most (Between new p (now (Came at sender bytes ∷ past))) (Came at sender bytes) past
dropped_ready x most p sender at bytes past h new k g = record {
  event = refl;
  swarm = h.swarm;
  now_is = refl;
  lives = h.lives;
  standing = g.standing;
  begun = g.begun h.begun;
  follow = λ n c life seat there known living has. ⊎_elim
      (λ same. absurd (let none = sym (ap (channel_at new) (eqb-true n k same) ∙ g.free) ∙ there in cc))
      (λ apart. passed_at x most p sender at bytes past h new h.lives n (g.passes n (eqb-false n k apart)) c life seat there known living has)
      (cases_Bool (eqb n k));
}

-- ---- messages are read on a seat

reads_ready : (x : Setting) (most : ℕ) (p q : SeatsState) (sender : Address) (at : ℕ) (bytes : List ℕ) (past : List Record) (h : StandsFor x most p past)
    → (new : Seats) (k : ℕ) (ms : List Message) (Tells : ℕ → ℕ → List Message → Told → Told → Type 0) (IsOn : Life → Type 0)
    → (reads : Reads x.d (now (Came at sender bytes ∷ past)) k ms Tells IsOn p.table new h.lives (Came at sender bytes) past)
    → (mid : List SeatState) → ((n : ℕ) → n ≢ k → slice_get mid n ≡ slice_get p.seats n)
    → (is : IsRead k ms (record p { table = new; seats = mid; moment = now (Came at sender bytes ∷ past) }) q)
    → (closes ms ≡ false → IsReady (at_seat x k) most (now (Came at sender bytes ∷ past)) is.after reads.life (Came at sender bytes) past)
    → Ready x most q (Came at sender bytes) past
reads_ready x most p q sender at bytes past h new k ms Tells IsOn reads mid same is own =
    subst (λ (o : SeatsState). Ready x most o r past) (sym is.is) (⊎_elim
    (λ shut.
    let gone = reads.shuts shut in
    subst (λ (b : Bool). Ready x most (record p { table = cond b (closed new k) new; seats = seats; moment = now (r ∷ past) }) r past) (sym shut) (record {
      event = refl;
      swarm = h.swarm;
      now_is = refl;
      lives = gone.0;
      standing = gone.1.standing;
      begun = gone.1.begun h.begun;
      follow = λ n c life s there known living has. ⊎_elim
          (λ here. absurd (let none = sym (ap (channel_at (closed new k)) (eqb-true n k here) ∙ gone.1.free) ∙ there in cc))
          (λ apart. passed_at x most p sender at bytes past h (closed new k) gone.0 n (gone.1.passes n (eqb-false n k apart)) c life s there known living
          (sym (elsewhere n (eqb-false n k apart)) ∙ has))
          (cases_Bool (eqb n k));
    }))
    (λ still. subst (λ (b : Bool). Ready x most (record p { table = cond b (closed new k) new; seats = seats; moment = now (r ∷ past) }) r past) (sym still) (record {
      event = refl;
      swarm = h.swarm;
      now_is = refl;
      lives = reads.living;
      standing = reads.goes_on still;
      begun = reads.begun h.begun;
      follow = λ n c life s there known living has. ⊎_elim
          (λ here.
          let n_is = eqb-true n k here in
          let life_is : reads.life ≡ life = same_Some reads.life life (sym reads.lives_there ∙ ap reads.living (sym n_is) ∙ living) in
          let s_is : is.after ≡ s = same_Some is.after s (sym (get_set_there mid k is.after is.before is.there) ∙ ap (slice_get seats) (sym n_is) ∙ has) in
          subst (λ (m : ℕ). IsReady (at_seat x m) most (now (r ∷ past)) s life r past) (sym n_is)
          (subst (λ (l : Life). IsReady (at_seat x k) most (now (r ∷ past)) s l r past) life_is
          (subst (λ (o : SeatState). IsReady (at_seat x k) most (now (r ∷ past)) o reads.life r past) s_is (own still))))
          (λ apart. passed_at x most p sender at bytes past h new reads.living n (reads.passes n (eqb-false n k apart)) c life s there known living
          (sym (elsewhere n (eqb-false n k apart)) ∙ has))
          (cases_Bool (eqb n k));
    }))
    (cases_Bool (closes ms)))
  where
    r : Record
    r = Came at sender bytes

    seats : List SeatState
    seats = set mid k is.after

    elsewhere : (n : ℕ) → n ≢ k → slice_get seats n ≡ slice_get p.seats n
    elsewhere n ne = get_set_other mid k n is.after ne ∙ same n ne

-- the seat that was begun or shown, and then heard
own_after : (k : ℕ) (ms : List Message) (new : Seats) (p : SeatsState) (moment : ℕ) (before after : SeatState) (q : SeatsState)
    → slice_get p.seats k ≡ Some before → (is : IsRead k ms (record p { table = new; seats = set p.seats k after; moment = moment }) q)
    → is.before ≡ after
own_after k ms new p moment before after q there is = same_Some is.before after (sym is.there ∙ get_set_there p.seats k after before there)

-- a seat that was begun and then shown
pub begun_shown : (p q r : SeatsState) (k : ℕ) (slot : Bool) → ChangesSeat k (Begins p.descriptor slot) p q → ChangesSeat k IsShown q r
    → ChangesSeat k (BeginsShown p.descriptor slot) p r
begun_shown p q r k slot one two =
    let seats_one : q.seats ≡ set p.seats k one.after = ap (λ (o : SeatsState). o.seats) one.is in
    let seats_two : r.seats ≡ set q.seats k two.after = ap (λ (o : SeatsState). o.seats) two.is in
    let mid_is : two.before ≡ one.after = same_Some two.before one.after
    (sym two.there ∙ ap (λ (xs : List SeatState). slice_get xs k) seats_one ∙ get_set_there p.seats k one.after one.before one.there) in
    record {
      before = one.before;
      after = two.after;
      there = one.there;
      is = two.is ∙ ap (λ (o : SeatsState). record o { seats = set o.seats k two.after }) one.is
          ∙ ap (λ (xs : List SeatState). record p { seats = xs }) (set_twice p.seats k one.after two.after);
      changes = record { mid = one.after; begins = one.changes; shown = subst (λ (o : SeatState). IsShown o two.after) mid_is two.changes };
    }

-- ---- each meaning

opened : (x : Setting) (most : ℕ) (p p1 : SeatsState) (sender : Address) (at : ℕ) (bytes : List ℕ) (past : List Record) (h : StandsFor x most p past)
    → AllHold (chunks_of x.d) p.seats
    → (new : Seats) (slot : Bool) (k : ℕ)
    → Reads x.d (now (Came at sender bytes ∷ past)) k (drop 1 (contents x.d bytes).read) TellsFirst (IsOpenedBy x.d (Came at sender bytes) past) p.table new h.lives (Came at sender bytes) past
    → 4 ≤ length bytes → ChangesSeat k (Begins x.d slot) (Between new p (now (Came at sender bytes ∷ past))) p1
    → (q : SeatsState) → IsRead k (drop 1 (contents x.d bytes).read) p1 q → Ready x most q (Came at sender bytes) past
opened x most p p1 sender at bytes past h room new slot k reads long ch q is0 =
    let r = Came at sender bytes in
    let is = subst (λ (o : SeatsState). IsRead k (drop 1 (contents x.d bytes).read) o q) ch.is is0 in
    reads_ready x most p q sender at bytes past h new k (drop 1 (contents x.d bytes).read) TellsFirst (IsOpenedBy x.d r past) reads
    (set p.seats k ch.after)
    (λ n ne. get_set_other p.seats k n ch.after ne) is
    (λ still. opened_ready (at_seat x k) most at slot ch.before ch.after is.after reads.life (address_of sender) bytes past reads.is_on (room k ch.before ch.there) ch.changes
    (subst (λ (ms : List Message). HearsAll (now (r ∷ past)) (drop 1 ms) ch.after is.after) (sym (ap (λ (m : Messages). m.read) (contents_read x.d bytes long)))
    (subst (λ (o : SeatState). HearsAll (now (r ∷ past)) (drop 1 (contents x.d bytes).read) o is.after)
    (own_after k (drop 1 (contents x.d bytes).read) new p (now (r ∷ past)) ch.before ch.after q ch.there is) (is.hears still))))

replied : (x : Setting) (most : ℕ) (p p1 : SeatsState) (sender : Address) (at : ℕ) (bytes : List ℕ) (past : List Record) (h : StandsFor x most p past)
    → AllHold (chunks_of x.d) p.seats
    → (new : Seats) (slot : Bool) (k : ℕ)
    → Reads x.d (now (Came at sender bytes ∷ past)) k (contents x.d bytes).read TellsFirst (IsRepliedBy x.d (Came at sender bytes) past) p.table new h.lives (Came at sender bytes) past
    → 4 ≤ length bytes → ChangesSeat k (BeginsShown x.d slot) (Between new p (now (Came at sender bytes ∷ past))) p1
    → (q : SeatsState) → IsRead k (contents x.d bytes).read p1 q → Ready x most q (Came at sender bytes) past
replied x most p p1 sender at bytes past h room new slot k reads long ch q is0 =
    let r = Came at sender bytes in
    let is = subst (λ (o : SeatsState). IsRead k (contents x.d bytes).read o q) ch.is is0 in
    reads_ready x most p q sender at bytes past h new k (contents x.d bytes).read TellsFirst (IsRepliedBy x.d r past) reads
    (set p.seats k ch.after)
    (λ n ne. get_set_other p.seats k n ch.after ne) is
    (λ still. replied_ready (at_seat x k) most at slot ch.before ch.after is.after reads.life (address_of sender) bytes past reads.is_on (room k ch.before ch.there) ch.changes
    (subst (λ (ms : List Message). HearsAll (now (r ∷ past)) ms ch.after is.after) (sym (ap (λ (m : Messages). m.read) (contents_read x.d bytes long)))
    (subst (λ (o : SeatState). HearsAll (now (r ∷ past)) (contents x.d bytes).read o is.after)
    (own_after k (contents x.d bytes).read new p (now (r ∷ past)) ch.before ch.after q ch.there is) (is.hears still))))

heard : (x : Setting) (most : ℕ) (p p1 : SeatsState) (sender : Address) (at : ℕ) (bytes : List ℕ) (past : List Record) (h : StandsFor x most p past)
    → (new : Seats) (k : ℕ)
    → Reads x.d (now (Came at sender bytes ∷ past)) k (contents x.d bytes).read TellsOne (IsHeardOn x.d p.table h.lives (Came at sender bytes) past k) p.table new h.lives (Came at sender bytes) past
    → 4 ≤ length bytes → ChangesSeat k IsShown (Between new p (now (Came at sender bytes ∷ past))) p1
    → (q : SeatsState) → IsRead k (contents x.d bytes).read p1 q → Ready x most q (Came at sender bytes) past
heard x most p p1 sender at bytes past h new k reads long ch q is0 =
    let r = Came at sender bytes in
    let is = subst (λ (o : SeatsState). IsRead k (contents x.d bytes).read o q) ch.is is0 in
    let on = reads.is_on in
    reads_ready x most p q sender at bytes past h new k (contents x.d bytes).read TellsOne (IsHeardOn x.d p.table h.lives r past k) reads
    (set p.seats k ch.after)
    (λ n ne. get_set_other p.seats k n ch.after ne) is
    (λ still. heard_ready (at_seat x k) most at ch.before ch.after is.after reads.life (address_of sender) bytes past
    (h.follow k on.there.channel reads.life ch.before on.there.was on.there.known on.there.living ch.there) on.there.begun on.on on.reads ch.changes
    (subst (λ (ms : List Message). HearsAll (now (r ∷ past)) ms ch.after is.after) (sym (ap (λ (m : Messages). m.read) (contents_read x.d bytes long)))
    (subst (λ (o : SeatState). HearsAll (now (r ∷ past)) (contents x.d bytes).read o is.after)
    (own_after k (contents x.d bytes).read new p (now (r ∷ past)) ch.before ch.after q ch.there is) (is.hears still))))

-- nothing was prepared, and nothing is to be read
unread : (x : Setting) (most : ℕ) (p p1 : SeatsState) (r : Record) (past : List Record) → Ready x most p r past → p1 ≡ p → Ready x most p1 r past
unread x most p p1 r past h same = subst (λ (o : SeatsState). Ready x most o r past) (sym same) h

pub arrived : (x : Setting) (most : ℕ) (p p1 : SeatsState) (sender : Address) (at : ℕ) (bytes : List ℕ) (past : List Record) (new : Seats) (slot : Bool) (result : Arrival)
    → AllHold (chunks_of p.descriptor) p.seats → StandsFor x most p past → KeepsStanding p.descriptor p.table sender (max at p.moment) bytes result new
    → Arrives p.descriptor p.table sender (max at p.moment) bytes result new → Prepares p.descriptor slot result (Between new p (max at p.moment)) p1
    → OnceRead p.descriptor bytes result (λ q. Ready x most q (Came at sender bytes) past) p1
arrived x most p p1 sender at bytes past new slot result room h =
    subst (λ (d : Descriptor). KeepsStanding d p.table sender (max at p.moment) bytes result new → Arrives d p.table sender (max at p.moment) bytes result new
    → Prepares d slot result (Between new p (max at p.moment)) p1 → OnceRead d bytes result (λ q. Ready x most q (Came at sender bytes) past) p1)
    (sym h.swarm) (λ keeps does prepares.
    let m : max at p.moment ≡ now (Came at sender bytes ∷ past) = ap (max at) h.now_is in
    by result
    (subst (λ (n : ℕ). Arrived x.d p.table h.lives (Came at sender bytes) past n bytes result new) m (keeps h.lives at past m h.standing h.begun))
    does
    (subst (λ (n : ℕ). Prepares x.d slot result (Between new p n) p1) m prepares))
  where
    n : ℕ
    n = now (Came at sender bytes ∷ past)

    by : (a : Arrival) → Arrived x.d p.table h.lives (Came at sender bytes) past n bytes a new → Arrives x.d p.table sender (max at p.moment) bytes a new
        → Prepares x.d slot a (Between new p n) p1 → OnceRead x.d bytes a (λ q. Ready x most q (Came at sender bytes) past) p1
    by (arrivals.Opened k next) a d c = λ q is. opened x most p p1 sender at bytes past h (subst (λ (e : Descriptor). AllHold (chunks_of e) p.seats) h.swarm room) new slot k a d.long c q is
    by (arrivals.Replied k) a d c = λ q is. replied x most p p1 sender at bytes past h (subst (λ (e : Descriptor). AllHold (chunks_of e) p.seats) h.swarm room) new slot k a d.long c q is
    by (arrivals.Heard k) a d c = λ q is. heard x most p p1 sender at bytes past h new k a d.long c q is
    by (arrivals.Differs k) a d c = unread x most (Between new p n) p1 (Came at sender bytes) past (dropped_ready x most p sender at bytes past h new k a) c
    by (arrivals.Given k) a d c = unread x most (Between new p n) p1 (Came at sender bytes) past (dropped_ready x most p sender at bytes past h new k a) c
    by arrivals.Short a d c = unread x most (Between new p n) p1 (Came at sender bytes) past (stays_ready x most p sender at bytes past h new a) c
    by arrivals.NoGreeting a d c = unread x most (Between new p n) p1 (Came at sender bytes) past (stays_ready x most p sender at bytes past h new a) c
    by arrivals.Unwelcome a d c = unread x most (Between new p n) p1 (Came at sender bytes) past (stays_ready x most p sender at bytes past h new a) c
    by (arrivals.Again k) a d c = unread x most (Between new p n) p1 (Came at sender bytes) past (stays_ready x most p sender at bytes past h new a) c
    by (arrivals.Late k) a d c = unread x most (Between new p n) p1 (Came at sender bytes) past (stays_ready x most p sender at bytes past h new a) c
    by arrivals.Unseated a d c = unread x most (Between new p n) p1 (Came at sender bytes) past (stays_ready x most p sender at bytes past h new a) c
    by arrivals.NoChannel a d c = unread x most (Between new p n) p1 (Came at sender bytes) past (stays_ready x most p sender at bytes past h new a) c
    by (arrivals.NoReply k) a d c = unread x most (Between new p n) p1 (Came at sender bytes) past (stays_ready x most p sender at bytes past h new a) c
    by (arrivals.Cut k) a d c = unread x most (Between new p n) p1 (Came at sender bytes) past (stays_ready x most p sender at bytes past h new a) c

-- the same at a moment that was reckoned before
pub arrived_at : (x : Setting) (most : ℕ) (p p1 : SeatsState) (sender : Address) (at moment : ℕ) (bytes : List ℕ) (past : List Record) (new : Seats) (slot : Bool) (result : Arrival)
    → moment ≡ max at p.moment → AllHold (chunks_of p.descriptor) p.seats → StandsFor x most p past
    → KeepsStanding p.descriptor p.table sender moment bytes result new → Arrives p.descriptor p.table sender moment bytes result new
    → Prepares p.descriptor slot result (Between new p moment) p1
    → OnceRead p.descriptor bytes result (λ q. Ready x most q (Came at sender bytes) past) p1
arrived_at x most p p1 sender at moment bytes past new slot result m room h =
    subst (λ (n : ℕ). KeepsStanding p.descriptor p.table sender n bytes result new → Arrives p.descriptor p.table sender n bytes result new
    → Prepares p.descriptor slot result (Between new p n) p1 → OnceRead p.descriptor bytes result (λ q. Ready x most q (Came at sender bytes) past) p1)
    (sym m) (arrived x most p p1 sender at bytes past new slot result room h)

-- ---- a wait

pub waited : (x : Setting) (most at : ℕ) (p : SeatsState) (past : List Record) → StandsFor x most p past
    → Ready x most (record p { moment = max at p.moment }) (Quiet at) past
waited x most at p past h =
    let m : max at p.moment ≡ now (Quiet at ∷ past) = ap (max at) h.now_is in
    let q = quiet_stays x.d p.table h.lives at past h.standing in
    subst (λ (n : ℕ). Ready x most (record p { moment = n }) (Quiet at) past) (sym m) (record {
      event = refl;
      swarm = h.swarm;
      now_is = refl;
      lives = h.lives;
      standing = q.0;
      begun = h.begun;
      follow = λ k c life s there known living has. quiet_ready (at_seat x k) most at s life past (h.follow k c life s there known living has)
          (began x.d c life past (stands_of x.d (channel_at p.table k) (h.lives k) c life past (h.standing.seated.each k) there living));
    })
