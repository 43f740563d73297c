-- Where a channel's peer was before a flush.
use Rattle.std.proofs.Common.{◌≡◌, ◌≢◌, inl, inr, ⊎_elim, ℕ, zero, suc, ◌<◌, Bool, true, false, cond, not, ◌&&◌, Option, Some, None, List, [], ◌∷◌, refl, sym, ◌∙◌, ap, subst}
use Rattle.std.specs.Prelude.{MatchBool, is_some, nat_lt, option_map, slice_set, unwrap_or}
use Rattle.std.proofs.Math.ListN.{set}
use Rattle.std.proofs.lemmas.Bool.{and_parts, cases_eq, cases_Bool, both_ways, false≢true}
use Rattle.std.proofs.lemmas.Option.{same_Some}
use Rattle.pp_terms.specs.format.Traffic.{LinkState}
use Rattle.pp_outside.specs.declared.link.Address.{Address}
use Rattle.pp_channels.specs.Seats.{Seats, at_seat, channel_at, after_drop, is_begun, changed, closed, dialled, with_handshake, with_channel_at, used_of}
use Rattle.pp_channels.specs.Timing.{is_greeted}
use Rattle.pp_channels.specs.declared.channel.Channel.{Channel}
use Rattle.pp_lives.specs.Fars.{far_of}
use Rattle.pp_lives.specs.Reading.{is_waiting, is_proven}
use Rattle.pp_lives.specs.Sending.{with_datagram}
use Rattle.pp_lives.proofs.Edits.{still_opened}
use Rattle.pp_lives.specs.declared.lives.Far.{Far}
use Rattle.pp_seats.specs.Greeting.{Dials, with_dial}
use Rattle.pp_seats.specs.Reading.{is_due_at}
use Rattle.pp_seats.specs.Sending.{with_sent, opening_at}
use Rattle.pp_seats.specs.Standing.{SeatsState}
use Rattle.pp_seats.proofs.Outgoing.{far_is}
use Rattle.pp_peer.specs.declared.dialling.Dial.{Dial}
use Rattle.pp_peer.specs.declared.dialling.DialState.{DialState}
use Rattle.pp_peer.specs.declared.dialling.DialState.TheVariants.{Seated}
use Rattle.pp_peer.specs.declared.parts.Parts.{Parts}
use Rattle.pp_peer.specs.declared.speaking.Speaker.{Speaker}
use Rattle.pp_peer.specs.Dialling.{Tries, has_channel, is_due, noticed, after_dial, StepsDial, DialsEach, with_queue, DialsSuggested, DialsAll}
use Rattle.pp_peer.specs.Flushing.{Scene}
use Rattle.pp_peer.specs.Greeting.{Drops, GivesUp}
use Rattle.pp_peer.specs.Sending.{SendsAll}
use Rattle.pp_peer.specs.Speaking.{SpeaksOn, TurnsIf, TurnsTo}
use Rattle.pp_peer.proofs.Ending.{far_stays}
use Rattle.pp_core.proofs.Before.{drop_in, made_there, closed_there, slots_kept}
use Rattle.pp_core.proofs.Kept.{datagram_there}
use Rattle.pp_core.proofs.Rooms.{at_changed, greets_unknown}
use Rattle.pp_core.proofs.Served.{known_far}
use Rattle.pp_core.proofs.Turns.{has_turn, picked_rest}

-- The peer was known before, at the same address, and proven there just if it is now.
pub record CameFrom (o : Option Channel) (far : Far) : Type 0 where
  pub old : Far
  pub is_old : far_of o ≡ Some old
  pub address : old.address ≡ far.address
  pub proven : old.proven ≡ far.proven

abbrev came_same : (o p : Option Channel) (far : Far) → far_of p ≡ far_of o → far_of p ≡ Some far → CameFrom o far
came_same o p far same is = record { old = far; is_old = sym same ∙ is; address = refl; proven = refl }

-- ---- what a datagram changes

-- Changes that keep the address, and how far the channel has come.
record KeepsFar (f : Channel → Channel) : Type 0 where
  address : (c : Channel) → (f c).address ≡ c.address
  waits : (c : Channel) → is_waiting (f c) ≡ is_waiting c
  proven : (c : Channel) → is_proven (f c) ≡ is_proven c

mapped_far : (f : Channel → Channel) → KeepsFar f → (o : Option Channel) (far : Far) → far_of (option_map f o) ≡ Some far → CameFrom o far
mapped_far f k None far e = let x : None ≡ Some far = e in absurd cc
mapped_far f k (Some c) far e =
    let is = far_is (Some (f c)) far e in
    let same = same_Some (f c) is.channel is.there in
    record {
      old = record { address = c.address; number = unwrap_or c.remote 0; proven = is_proven c; begun = is_begun c.opening };
      is_old = known_far (is_waiting c) _ (sym (k.waits c) ∙ ap is_waiting same ∙ is.known);
      address = sym (k.address c) ∙ ap (λ (x : Channel). x.address) same ∙ sym (ap (λ (x : Far). x.address) is.is);
      proven = sym (k.proven c) ∙ ap is_proven same ∙ sym (ap (λ (x : Far). x.proven) is.is);
    }

came_twice : (o : Option Channel) (mid far : Far) → CameFrom o mid → mid.address ≡ far.address → mid.proven ≡ far.proven → CameFrom o far
came_twice o mid far c address proven =
    record { old = c.old; is_old = c.is_old; address = c.address ∙ address; proven = c.proven ∙ proven }

wrote_far : (now : ℕ) → KeepsFar (λ c. record c { wrote = now })
wrote_far now = record { address = λ c. refl; waits = λ c. refl; proven = λ c. refl }

opened_far : KeepsFar (λ c. record c { opening = with_handshake c.opening })
opened_far = record {
  address = λ c. refl;
  waits = λ c. ap (λ (b : Bool). b && is_greeted c.state) (still_opened c.opening);
  proven = λ c. refl;
}

changed_far : (t : Seats) (k : ℕ) (f : Channel → Channel) → KeepsFar f → (far : Far) → far_of (channel_at (changed t k f) k) ≡ Some far
    → CameFrom (channel_at t k) far
changed_far t k f keeps far e = mapped_far f keeps (channel_at t k) far (ap far_of (sym (at_changed t.channels k f)) ∙ e)

datagram_far : (t : Seats) (k : ℕ) (opens : Bool) (now : ℕ) (far : Far) → far_of (channel_at (with_datagram t k opens now) k) ≡ Some far
    → CameFrom (channel_at t k) far
datagram_far t k true now far e =
    let mid = changed_far (changed t k (λ c. record c { wrote = now })) k (λ c. record c { opening = with_handshake c.opening }) opened_far far e in
    came_twice (channel_at t k) mid.old far (changed_far t k (λ c. record c { wrote = now }) (wrote_far now) mid.old mid.is_old)
    mid.address mid.proven
datagram_far t k false now far e = changed_far t k (λ c. record c { wrote = now }) (wrote_far now) far e

sent_far : (t : Seats) (k : ℕ) (opens : Bool) (sent now : ℕ) (far : Far) → far_of (channel_at (with_sent t k opens sent now) k) ≡ Some far
    → CameFrom (channel_at t k) far
sent_far t k opens sent now far e = of (nat_lt 0 sent) e
  where
    of : (b : Bool) → far_of (channel_at (cond b (with_datagram t k opens now) t) k) ≡ Some far → CameFrom (channel_at t k) far
    of true e = datagram_far t k opens now far e
    of false e = came_same (channel_at t k) (channel_at t k) far refl e

-- ---- a seat's turn

spoken_far : (k : ℕ) (far : Far) (greets : Bool) (refused : ℕ) (speaker left : Speaker) (a b : Scene) (last : Far)
    → SpeaksOn (record { seat = k; far = far; greets = greets }) refused speaker left a b
    → far_of (channel_at b.parts.seats.table k) ≡ Some last → CameFrom (channel_at a.parts.seats.table k) last
spoken_far k far greets refused speaker left a b last s e =
    let to = s.speaks in
    let sp = to.says.speaks in
    let rest = picked_rest k s.sets_back.known.proven greets speaker.news.ranges to.picks speaker.order a.parts s.back to.picked s.sets_back.sets
    to.are_picked in
    let before : CameFrom (channel_at to.picked.seats.table k) last =
    sent_far to.picked.seats.table k (is_some (opening_at to.picked.seats k)) to.delivered.sent to.picked.seats.moment last
    (ap (λ (x : SeatsState). far_of (channel_at x.table k)) (sym sp.is)
    ∙ ap (λ (p : Parts). far_of (channel_at p.seats.table k)) (sym to.settles.rest)
    ∙ ap (λ (p : Parts). far_of (channel_at p.seats.table k)) (sym s.attends.keeps.rest) ∙ e) in
    subst (λ (o : Option Channel). CameFrom o last) (ap (λ (x : SeatsState). channel_at x.table k) rest) before

not_due : (now : ℕ) (o : Option Channel) (far : Far) → far_of o ≡ Some far → far.proven ≡ true → is_due_at now o ≡ true → ⊥
not_due now None far e proven due = absurd (false≢true due)
not_due now (Some c) far e proven due =
    let is = far_is (Some c) far e in
    let same = same_Some c is.channel is.there in
    let greeted = (and_parts (is_greeted c.state) _ due).0 in
    both_ways (is_proven c) (ap not greeted) (ap is_proven same ∙ sym (ap (λ (x : Far). x.proven) is.is) ∙ proven)

-- A peer that was known and proven before, and to which this peer's handshake was sent.
pub record WasBegun (o : Option Channel) (far : Far) : Type 0 where
  pub came : CameFrom o far
  pub begun : came.old.begun ≡ true

turn_far : (k refused : ℕ) (speaker left : Speaker) (a b : Scene) → TurnsTo k refused speaker left a b → (far : Far)
    → far_of (channel_at b.parts.seats.table k) ≡ Some far → far.begun ≡ true → far.proven ≡ true → WasBegun (channel_at a.parts.seats.table k) far
turn_far k refused speaker left a b t far e begun proven = of (far_of (channel_at a.parts.seats.table k)) refl t
  where
    of : (o : Option Far) → far_of (channel_at a.parts.seats.table k) ≡ o → TurnsIf o k refused speaker left a b
        → WasBegun (channel_at a.parts.seats.table k) far
    of None is g = let x : None ≡ Some far = sym (greets_unknown k _ g.greeted a.parts b.parts a.link b.link g.greets is) ∙ e in absurd cc
    of (Some before) is (inl n) = record {
      came = came_same (channel_at a.parts.seats.table k) (channel_at b.parts.seats.table k) far
          (ap (λ (p : Parts). far_of (channel_at p.seats.table k)) n.silent.parts) e;
      begun = begun;
    }
    of (Some before) is (inr s) =
        let came = spoken_far k before s.0 refused speaker left a b far s.1 e in
        let same : before ≡ came.old = same_Some before came.old (sym is ∙ came.is_old) in
        record {
          came = came;
          begun = ap (λ (x : Far). x.begun) (sym same) ∙ s.1.begun (⊎_elim
              (λ greets. absurd (not_due a.parts.seats.moment (channel_at a.parts.seats.table k) came.old came.is_old (came.proven ∙ proven)
              (sym s.1.due ∙ greets)))
              (λ not_greets. not_greets)
              (cases_Bool s.0));
        }

-- ---- dials

-- A peer that is known was known before.
abbrev Knew : ℕ → Parts → Parts → Type 0
Knew n p q = (far : Far) → far_of (channel_at q.seats.table n) ≡ Some far → far_of (channel_at p.seats.table n) ≡ Some far

knew_same : (n : ℕ) (p q : Parts) → q ≡ p → Knew n p q
knew_same n p q same far e = ap (λ (x : Parts). far_of (channel_at x.seats.table n)) (sym same) ∙ e

knew_twice : (n : ℕ) (a b c : Parts) → Knew n a b → Knew n b c → Knew n a c
knew_twice n a b c one two far e = one far (two far e)

waits_far : (waits : Bool) (far : Far) → waits ≡ true → cond waits None (Some far) ≡ None
waits_far true far e = refl
waits_far false far e = absurd (false≢true e)

set_far : (xs : List (Option Channel)) (k : ℕ) (c : Channel) → is_waiting c ≡ true → far_of (at_seat (set xs k (Some c)) k) ≡ None
set_far [] k c waits = refl
set_far (x ∷ xs) zero c waits = waits_far (is_waiting c) _ waits
set_far (x ∷ xs) (suc k) c waits = set_far xs k c waits

pub set_free : (xs : List (Option Channel)) (k : ℕ) → at_seat (set xs k None) k ≡ None
set_free [] k = refl
set_free (x ∷ xs) zero = refl
set_free (x ∷ xs) (suc k) = set_free xs k

module _ (n : ℕ) (to : Address) (moment : ℕ) (sent : Bool) (old new : SeatsState) (link later : LinkState)
    (d : Dials to moment sent old new link later) (far : Far) where
  made : with_dial to old ≡ with_channel_at (Some d.seat) (dialled to old.moment) old.table
  made = ap (λ (o : Option ℕ). with_channel_at o (dialled to old.moment) old.table) d.free

  here_sent : far_of (channel_at (with_datagram (with_dial to old) d.seat true old.moment) d.seat) ≡ Some far → ⊥
  here_sent e =
      let came = datagram_far (with_dial to old) d.seat true old.moment far e in
      let x : None ≡ Some came.old = sym (ap (λ (t : Seats). far_of (channel_at t d.seat)) made
      ∙ set_far old.table.channels d.seat _ refl) ∙ came.is_old in
      cc

  here_closed : far_of (channel_at (closed (with_dial to old) d.seat) d.seat) ≡ Some far → ⊥
  here_closed e =
      let x : None ≡ Some far = sym (ap far_of
      (drop_in (channel_at (with_dial to old) d.seat) (slice_set (with_dial to old).channels d.seat None) d.seat
      ∙ ap (after_drop (channel_at (with_dial to old) d.seat)) (set_free (with_dial to old).channels d.seat))) ∙ e in
      cc

  there : n ≢ d.seat → channel_at (with_dial to old) n ≡ channel_at old.table n
  there ne = ap (λ (t : Seats). channel_at t n) made ∙ made_there old.table d.seat n (dialled to old.moment) ne

  dial_far : far_of (channel_at new.table n) ≡ Some far → far_of (channel_at old.table n) ≡ Some far
  dial_far e = of sent (ap (λ (x : SeatsState). far_of (channel_at x.table n)) (sym d.is) ∙ e)
    where
      of : (b : Bool)
          → far_of (channel_at (cond b (with_datagram (with_dial to old) d.seat true old.moment) (closed (with_dial to old) d.seat)) n) ≡ Some far
          → far_of (channel_at old.table n) ≡ Some far
      of true e = ⊎_elim
          (λ (is : n ≡ d.seat). absurd (here_sent
          (subst (λ (m : ℕ). far_of (channel_at (with_datagram (with_dial to old) d.seat true old.moment) m) ≡ Some far) is e)))
          (λ (ne : n ≢ d.seat). ap far_of (sym (datagram_there (with_dial to old) d.seat n true old.moment ne ∙ there ne)) ∙ e)
          (cases_eq n d.seat)
      of false e = ⊎_elim
          (λ (is : n ≡ d.seat). absurd (here_closed
          (subst (λ (m : ℕ). far_of (channel_at (closed (with_dial to old) d.seat) m) ≡ Some far) is e)))
          (λ (ne : n ≢ d.seat). ap far_of (sym (there ne))
          ∙ sym (far_stays (channel_at (with_dial to old) n) (channel_at (closed (with_dial to old) d.seat) n)
          (closed_there (with_dial to old) d.seat n ne)) ∙ e)
          (cases_eq n d.seat)

tries_far : (n : ℕ) (to : Address) (sent : Option Bool) (old new : Scene) → Tries to sent old new → Knew n old.parts new.parts
tries_far n to None old new t = knew_same n old.parts new.parts t.1.same
tries_far n to (Some took) old new t = λ far e. dial_far n to _ took old.parts.seats new.parts.seats old.link new.link t.1.dials far e

step_far : (n : ℕ) (dial : Dial) (state : DialState) (old new : Scene) → StepsDial dial state old new → Knew n old.parts new.parts
step_far n dial state old new s = of (has_channel old.parts dial.address) (is_due old.parts.seats.moment dial.state) s
  where
    of : (b c : Bool) → MatchBool b ((new ≡ old) × (state ≡ Seated))
        (MatchBool c ((sent : Option Bool) × Tries dial.address sent old new × (state ≡ after_dial old.parts.seats.moment dial.state sent))
        ((new ≡ old) × (state ≡ noticed old.parts.seats.moment dial.state))) → Knew n old.parts new.parts
    of true c h = knew_same n old.parts new.parts (ap (λ (x : Scene). x.parts) h.0)
    of false true h = tries_far n dial.address h.0 old new h.1
    of false false h = knew_same n old.parts new.parts (ap (λ (x : Scene). x.parts) h.0)

each_far : (n : ℕ) (dials lefts : List Dial) (old new : Scene) → DialsEach dials lefts old new → Knew n old.parts new.parts
each_far n [] [] old new d = knew_same n old.parts new.parts (ap (λ (x : Scene). x.parts) d)
each_far n [] (left ∷ lefts) old new d = absurd d
each_far n (dial ∷ dials) [] old new d = absurd d
each_far n (dial ∷ dials) (left ∷ lefts) old new d =
    knew_twice n old.parts d.0.parts new.parts (step_far n dial left.state old d.0 d.2) (each_far n dials lefts d.0 new d.3)

suggested_far : (n : ℕ) (queue : List Address) (old new : Scene) → DialsSuggested queue old new → Knew n old.parts new.parts
suggested_far n [] old new d = knew_same n old.parts new.parts (ap (λ (x : Scene). x.parts) d)
suggested_far n (address ∷ queue) old new d = of (nat_lt (used_of old.parts.seats.table) 32) (λ mid rest. suggested_far n queue mid new rest) d
  where
    of : (b : Bool) → ((mid : Scene) → DialsSuggested queue mid new → Knew n mid.parts new.parts)
        → MatchBool b ((sent : Option Bool) × (mid : Scene) × Tries address sent (with_queue queue old) mid × DialsSuggested queue mid new)
        (new ≡ old) → Knew n old.parts new.parts
    of true more h = knew_twice n old.parts h.1.parts new.parts (tries_far n address h.0 (with_queue queue old) h.1 h.2) (more h.1 h.3)
    of false more h = knew_same n old.parts new.parts (ap (λ (x : Scene). x.parts) h)

pub dials_far : (n : ℕ) (dials lefts : List Dial) (old new : Scene) → DialsAll dials lefts old new → Knew n old.parts new.parts
dials_far n dials lefts old new d =
    knew_twice n old.parts d.0.parts new.parts (each_far n dials lefts old d.0 d.1) (suggested_far n d.0.parts.pex.queue d.0 new d.2)

-- ---- before the turns

pub dropped_far : (n : ℕ) (old dropped given : Parts) → n < 64 → Drops old dropped → GivesUp dropped given → Knew n old given
dropped_far n old dropped given low d g far e =
    let then : far_of (channel_at dropped.seats.table n) ≡ Some far = ap (λ (p : Parts). far_of (channel_at p.seats.table n)) (sym g.rest) ∙ e in
    ⊎_elim
    (λ kept. sym (far_stays (channel_at old.seats.table n) (channel_at dropped.seats.table n) kept.channel) ∙ then)
    (λ over. let x : None ≡ Some far = ap far_of (sym over.1.channel) ∙ then in absurd cc)
    (d.each n low)

-- ---- a flush

-- A proven peer to which this peer's handshake was sent once all was sent was so before.
pub flush_far : (n : ℕ) (dials lefts : List Dial) (speaker left : Speaker) (refused : ℕ) (old new : Scene)
    → SendsAll dials lefts speaker left refused old new → n < 64 → (far : Far) → far_of (channel_at new.parts.seats.table n) ≡ Some far
    → far.begun ≡ true → far.proven ≡ true → WasBegun (channel_at old.parts.seats.table n) far
flush_far n dials lefts speaker left refused old new s low far is begun proven =
    let start : Scene = record s.dialled { parts = s.turned } in
    let h = has_turn n 64 s.unsaid s.speaks.gathered left start s.said low s.speaks.turns in
    let end = sym (far_stays (channel_at h.end.parts.seats.table n) (channel_at s.said.parts.seats.table n) h.after.kept.seats.channel)
    ∙ sym (s.serves.far n) ∙ is in
    let t = turn_far n h.refused h.middle h.left h.begin h.end h.turn far end begun proven in
    let slots = slots_kept n s.dialled.parts s.turned s.turns in
    let dialled = sym (far_stays (channel_at s.dialled.parts.seats.table n) (channel_at s.turned.seats.table n) slots.seats.channel)
    ∙ sym (far_stays (channel_at s.turned.seats.table n) (channel_at h.begin.parts.seats.table n) h.before.kept.seats.channel) ∙ t.came.is_old in
    record {
      came = record {
        old = t.came.old;
        is_old = dropped_far n old.parts s.dropped s.given low s.drops s.gives_up t.came.old
            (dials_far n dials lefts (record old { parts = s.given }) s.dialled s.dials_all t.came.old dialled);
        address = t.came.address;
        proven = t.came.proven;
      };
      begun = t.begun;
    }
