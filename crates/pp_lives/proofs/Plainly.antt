-- Each plain channel has its seat.
use Rattle.std.proofs.Common.{◌≡◌, ◌≢◌, ◌⊎◌, ⊎_elim, ℕ, ◌<◌, ◌≤◌, ◌+◌, ◌-◌, eqb, leb, ltb, Bool, true, false, cond, not, ◌||◌, ◌&&◌, Option, Some, None, List, [], ◌∷◌, length, refl, sym, ◌∙◌, ap, subst, arith}
use Rattle.std.specs.Prelude.{MatchBool}
use Rattle.std.proofs.lemmas.Bool.{not-false, cases_Bool, or_left, or_right, or_cases, or_parts, and_parts, and_from, and_left, and_right, both_ways, cond-true, cond-false, false_from_ne_true, eqb-true, eqb-false, eq-eqb, ne_eqb, le-leb, leb-true, lt-ltb, ltb-true, le-ltb}
use Rattle.std.proofs.lemmas.Option.{same_Some}
use Rattle.pp_terms.specs.format.Traffic as traffic
use Rattle.pp_terms.specs.format.Traffic.{Record, Received, Sent, same_address}
use Rattle.pp_terms.specs.format.Descriptor.{Descriptor}
use Rattle.pp_terms.specs.format.Messages.{Message, Handshake}
use Rattle.pp_traffic.specs.Past.{now, now_at, read, comes_from, is_event, is_number, some_since, is_at}
use Rattle.pp_traffic.specs.Life.{Life, greets, answers, begins, begins_fitting, comes_on, shakes_on, closes, closes_on, fits}
use Rattle.pp_traffic.specs.Plain.{greets_once, heard_at, is_in_time, is_timely, IsPlainNow}
use Rattle.pp_traffic.specs.Awaiting.{Awaits, AwaitsDial, AwaitsAnswer, IsReplyOfPeer}
use Rattle.pp_traffic.specs.Prompt.{first_source}
use Rattle.pp_traffic.proofs.Plains.{greets_from}
use Rattle.pp_traffic.proofs.Awaited.{plain_grows, plain_began}
use Rattle.pp_outside.specs.Outside.{address_of, is_same}
use Rattle.pp_outside.specs.declared.link.Address.{Address}
use Rattle.pp_channels.specs.Seats.{is_source, has_remote, is_dialled, after_drop}
use Rattle.pp_channels.specs.Timing.{is_greeted, is_over, is_over_in}
use Rattle.pp_channels.specs.declared.channel.State.{State}
use Rattle.pp_channels.specs.declared.channel.State.TheVariants.{Greeted, Proven}
use Rattle.pp_channels.specs.declared.channel.Channel.{Channel}
use Rattle.pp_lives.specs.Reading.{is_proven, is_waiting}
use Rattle.pp_channels.specs.Seats.{Seats, channel_at}
use Rattle.pp_lives.specs.Standing.{Stands, StandsAt, Seated, HasSeat, HasDial, Plains}
use Rattle.pp_lives.specs.Calls.{Changes, Drops, Steady, with_life, as_dial, replied, hears}
use Rattle.pp_lives.proofs.Edits.{steady_waits}
use Rattle.pp_lives.proofs.Telling.{heard_same}
use Rattle.pp_lives.proofs.Staying.{Misses, began, waits_dialled, waits_unproven}
use Rattle.pp_lives.proofs.Own.{stands_of}
use Rattle.pp_lives.proofs.Missed.{MissesAll}
use Rattle.pp_lives.proofs.Replied.{IsReplyFor}
use Rattle.pp_lives.proofs.Telling.{fitting_begins}
use Rattle.pp_lives.proofs.Sent.{same_is}
use Rattle.pp_lives.proofs.Closing.{Shadowed, before_drop}

-- ---- what came from an address, and what went to it

at_since : (test : Record → Bool) (place : ℕ) (xs : List Record) → is_at test place xs ≡ true → (at_more : Record → Bool) → ((r : Record) → test r ≡ true → at_more r ≡ true) → some_since at_more 0 xs ≡ true
at_since test place [] e more grows = absurd cc
at_since test place (r ∷ xs) e more grows = ⊎_elim
    (λ here. let parts = and_parts (eqb place (length xs)) (test r) here in
    or_left (leb 0 (length xs) && more r) (some_since more 0 xs) (and_from (leb 0 (length xs)) (more r) (le-leb 0 (length xs) (omega arith)) (grows r parts.1)))
    (λ before. or_right (leb 0 (length xs) && more r) (some_since more 0 xs) (at_since test place xs before more grows))
    (or_cases (eqb place (length xs) && test r) (is_at test place xs) e)

since_all : (test more : Record → Bool) (place : ℕ) (xs : List Record) → some_since test place xs ≡ true → ((r : Record) → test r ≡ true → more r ≡ true) → some_since more 0 xs ≡ true
since_all test more place [] e grows = absurd cc
since_all test more place (r ∷ xs) e grows = ⊎_elim
    (λ here. let parts = and_parts (leb place (length xs)) (test r) here in
    or_left (leb 0 (length xs) && more r) (some_since more 0 xs) (and_from (leb 0 (length xs)) (more r) (le-leb 0 (length xs) (omega arith)) (grows r parts.1)))
    (λ before. or_right (leb 0 (length xs) && more r) (some_since more 0 xs) (since_all test more place xs before grows))
    (or_cases (leb place (length xs) && test r) (some_since test place xs) e)

-- from the address of a channel whose peer's number is known something came
pub known_came : (d : Descriptor) (c : Channel) (life : Life) (past : List Record) → Stands d c life past → is_waiting c ≡ false
    → some_since (comes_from (address_of c.address)) 0 past ≡ true
known_came d c life past s known =
    subst (λ (a : traffic.Address). some_since (comes_from a) 0 past ≡ true) s.address
    (since_all (greets d life) (comes_from life.address) life.opening past (s.goes.greeted known) (λ r e. greets_from d life r e))

pub awaits_none : (d : Descriptor) (life : Life) (past : List Record) → life.is_dialled ≡ true → Awaits d life past → some_since (comes_from life.address) 0 past ≡ false
awaits_none d life past dialled is =
    let dial = subst (λ (b : Bool). MatchBool b (AwaitsDial d life past) (AwaitsAnswer d life past)) dialled is.begins in dial.none_came

none_here : (test : Record → Bool) (r : Record) (past : List Record) → some_since test 0 (r ∷ past) ≡ false → test r ≡ false
none_here test r past e =
    let first = (or_parts (leb 0 (length past) && test r) (some_since test 0 past) e).0 in
    ap (λ (b : Bool). b && test r) (sym (le-leb 0 (length past) (omega arith))) ∙ first

-- ---- a datagram more

-- A reply that a dial awaits is for its number, and begins with a handshake.
pub reply_shakes : (d : Descriptor) (life l : Life) (r : Record) → life.is_dialled ≡ true → life ≡ record l { remote = life.remote } → greets d life r ≡ true → shakes_on d l r ≡ true
reply_shakes d life l r dialled same e =
    let outer = and_parts (comes_from life.address r && is_number (cond life.is_dialled life.local 0) (read d r).channel) (begins_fitting d life.is_dialled life.remote (read d r).messages.read) e in
    let on : comes_on d life r ≡ true = subst (λ (b : Bool). (comes_from life.address r && is_number (cond b life.local 0) (read d r).channel) ≡ true) dialled outer.0 in
    and_from (comes_on d l r) (begins (read d r).messages.read)
    (ap (λ (x : Life). comes_on d x r) (sym same) ∙ on)
    (fitting_begins d life.is_dialled life.remote (read d r).messages.read outer.1)

-- so one that misses the seats is none
pub no_reply : (d : Descriptor) (t : Seats) (lives : ℕ → Option Life) (life : Life) (r : Record) → (h : HasDial t lives life) → Misses d h.channel h.lives_there.0 r → life.is_dialled ≡ true → greets d life r ≡ true → ⊥
no_reply d t lives life r h m dialled e = both_ways (shakes_on d h.lives_there.0 r) (m.waits h.waits) (reply_shakes d life h.lives_there.0 r dialled h.lives_there.2 e)

-- What a datagram does to plain channels, by what it does to their seats.
pub plains_received : (d : Descriptor) (t new : Seats) (lives lives' : ℕ → Option Life) (moment : ℕ) (sender : traffic.Address) (bytes : List ℕ) (past : List Record)
    → Plains d t lives past
    → ((life : Life) → HasSeat t lives life → IsPlainNow d life past → closes_on d life (Received moment sender bytes) ≡ false → HasSeat new lives' life)
    → ((life : Life) → HasDial t lives life → IsReplyOfPeer d life (Received moment sender bytes) past → closes_on d life (Received moment sender bytes) ≡ false → HasSeat new lives' life)
    → ((life : Life) → HasDial t lives life → life.is_dialled ≡ true → Awaits d life past → comes_from life.address (Received moment sender bytes) ≡ false → HasDial new lives' life)
    → ((seat other : ℕ) (c e : Channel) → channel_at new seat ≡ Some c → channel_at new other ≡ Some e → is_dialled c.opening ≡ true → is_dialled e.opening ≡ true → address_of c.address ≡ address_of e.address → seat ≡ other)
    → ((seat : ℕ) (c : Channel) → channel_at new seat ≡ Some c → c.shadowed ≡ true → is_dialled c.opening ≡ true → some_since (comes_from (address_of c.address)) 0 (Received moment sender bytes ∷ past) ≡ true)
    → Plains d new lives' (Received moment sender bytes ∷ past)
plains_received d t new lives lives' moment sender bytes past p kept reply dial_kept alone shadow =
    let r = Received moment sender bytes in
    record {
      plain = λ life is.
          let parts = (plain_grows.received d life moment sender bytes past).0 is in
          ⊎_elim
          (λ before. kept life (p.plain life before.0) before.0 parts.0)
          (λ of_peer. reply life (p.dial life of_peer.0 of_peer.1) of_peer parts.0)
          parts.1;
      dial = λ life dialled is.
          let none = none_here (comes_from life.address) r past (awaits_none d life (r ∷ past) dialled is) in
          ⊎_elim
          (λ before. dial_kept life (p.dial life dialled before) dialled before none)
          (λ here. absurd (let no = subst (λ (b : Bool). MatchBool b (answers d life r ≡ true) (greets_once d life r ≡ true)) dialled here.1 in no_answer life no))
          (plain_grows.awaited d life r past is);
      dial_alone = alone;
      shadow = shadow;
    }
  where
    no_answer : (life : Life) → answers d life (Received moment sender bytes) ≡ true → ⊥
    no_answer life e = absurd cc

-- one that is for no seat
pub plains_missed : (d : Descriptor) (t : Seats) (lives : ℕ → Option Life) (moment : ℕ) (sender : traffic.Address) (bytes : List ℕ) (past : List Record)
    → Plains d t lives past → MissesAll d t lives (Received moment sender bytes) → Plains d t lives (Received moment sender bytes ∷ past)
plains_missed d t lives moment sender bytes past p m =
    let r = Received moment sender bytes in
    plains_received d t t lives lives moment sender bytes past p
    (λ life h is open_still. h)
    (λ life h of_peer open_still. absurd (no_reply d t lives life r h (m h.seat h.channel h.lives_there.0 h.there h.lives_there.1) of_peer.0 of_peer.2))
    (λ life h dialled is none. h)
    p.dial_alone
    (λ seat c there shadowed dialled. or_right (leb 0 (length past) && comes_from (address_of c.address) r) (some_since (comes_from (address_of c.address)) 0 past) (p.shadow seat c there shadowed dialled))

pub plains_quiet : (d : Descriptor) (t : Seats) (lives : ℕ → Option Life) (moment : ℕ) (past : List Record) → Plains d t lives past → Plains d t lives (traffic.Quiet moment ∷ past)
plains_quiet d t lives moment past p =
    let r = traffic.Quiet moment in
    record {
      plain = λ life is. p.plain life ((plain_grows.quiet d life moment past).0 is).0;
      dial = λ life dialled is. ⊎_elim
          (λ before. p.dial life dialled before)
          (λ here. absurd (let no = subst (λ (b : Bool). MatchBool b (answers d life r ≡ true) (greets_once d life r ≡ true)) dialled here.1 in no_answer life no))
          (plain_grows.awaited d life r past is);
      dial_alone = p.dial_alone;
      shadow = λ seat c there shadowed dialled. or_right (leb 0 (length past) && comes_from (address_of c.address) r) (some_since (comes_from (address_of c.address)) 0 past) (p.shadow seat c there shadowed dialled);
    }
  where
    no_answer : (life : Life) → answers d life (traffic.Quiet moment) ≡ true → ⊥
    no_answer life e = absurd cc

-- ---- a seat that changes

-- The channels at other seats are there still, with their lives.
pub record Keeps (t new : Seats) (lives lives' : ℕ → Option Life) (seat : ℕ) : Type 0 where
  pub others : (other : ℕ) → other ≢ seat → channel_at new other ≡ channel_at t other
  pub living : (other : ℕ) → other ≢ seat → lives' other ≡ lives other

seat_kept : (t new : Seats) (lives lives' : ℕ → Option Life) (seat : ℕ) (life : Life) (h : HasSeat t lives life) → Keeps t new lives lives' seat → h.seat ≢ seat → HasSeat new lives' life
seat_kept t new lives lives' seat life h k ne =
    record { seat = h.seat; channel = h.channel; there = k.others h.seat ne ∙ h.there; lives_there = k.living h.seat ne ∙ h.lives_there; known = h.known }

dial_kept : (t new : Seats) (lives lives' : ℕ → Option Life) (seat : ℕ) (life : Life) (h : HasDial t lives life) → Keeps t new lives lives' seat → h.seat ≢ seat → HasDial new lives' life
dial_kept t new lives lives' seat life h k ne = record {
  seat = h.seat;
  channel = h.channel;
  there = k.others h.seat ne ∙ h.there;
  lives_there = (h.lives_there.0, k.living h.seat ne ∙ h.lives_there.1, h.lives_there.2);
  waits = h.waits;
  unshadowed = h.unshadowed;
}

-- a channel at the seat now, whose address, opening and shadow are those of one that was there
alone_kept : (t new : Seats) (lives lives' : ℕ → Option Life) (seat : ℕ) (c c' : Channel) → Keeps t new lives lives' seat → channel_at t seat ≡ Some c → channel_at new seat ≡ Some c'
    → c'.address ≡ c.address → is_dialled c'.opening ≡ is_dialled c.opening → c'.shadowed ≡ c.shadowed
    → (other : ℕ) (e : Channel) → channel_at new other ≡ Some e → (e0 : Channel) × (channel_at t other ≡ Some e0) × (e.address ≡ e0.address) × (is_dialled e.opening ≡ is_dialled e0.opening) × (e.shadowed ≡ e0.shadowed)
alone_kept t new lives lives' seat c c' k there now_there address dialled shadow other e also = ⊎_elim
    (λ same. let e_is = same_Some c' e (sym now_there ∙ ap (channel_at new) (sym (eqb-true other seat same)) ∙ also) in (
      c,
      ap (channel_at t) (eqb-true other seat same) ∙ there,
      ap (λ (x : Channel). x.address) (sym e_is) ∙ address,
      ap (λ (x : Channel). is_dialled x.opening) (sym e_is) ∙ dialled,
      ap (λ (x : Channel). x.shadowed) (sym e_is) ∙ shadow,
    ))
    (λ apart. (e, sym (k.others other (eqb-false other seat apart)) ∙ also, refl, refl, refl))
    (cases_Bool (eqb other seat))

alone_of : (d : Descriptor) (t new : Seats) (lives : ℕ → Option Life) (past : List Record) → Plains d t lives past
    → ((other : ℕ) (e : Channel) → channel_at new other ≡ Some e → (e0 : Channel) × (channel_at t other ≡ Some e0) × (e.address ≡ e0.address) × (is_dialled e.opening ≡ is_dialled e0.opening) × (e.shadowed ≡ e0.shadowed))
    → (seat other : ℕ) (c e : Channel) → channel_at new seat ≡ Some c → channel_at new other ≡ Some e → is_dialled c.opening ≡ true → is_dialled e.opening ≡ true → address_of c.address ≡ address_of e.address → seat ≡ other
alone_of d t new lives past p was seat other c e at_seat at_other dc de same =
    let x = was seat c at_seat in
    let y = was other e at_other in
    p.dial_alone seat other x.0 y.0 x.1 y.1 (sym x.3 ∙ dc) (sym y.3 ∙ de) (ap address_of (sym x.2) ∙ same ∙ ap address_of y.2)

shadow_of : (d : Descriptor) (t new : Seats) (lives : ℕ → Option Life) (r : Record) (past : List Record) → Plains d t lives past
    → ((other : ℕ) (e : Channel) → channel_at new other ≡ Some e → (e0 : Channel) × (channel_at t other ≡ Some e0) × (e.address ≡ e0.address) × (is_dialled e.opening ≡ is_dialled e0.opening) × (e.shadowed ≡ e0.shadowed))
    → (seat : ℕ) (c : Channel) → channel_at new seat ≡ Some c → c.shadowed ≡ true → is_dialled c.opening ≡ true → some_since (comes_from (address_of c.address)) 0 (r ∷ past) ≡ true
shadow_of d t new lives r past p was seat c there shadowed dialled =
    let x = was seat c there in
    or_right (leb 0 (length past) && comes_from (address_of c.address) r) (some_since (comes_from (address_of c.address)) 0 past)
    (ap (λ (a : Address). some_since (comes_from (address_of a)) 0 past) x.2 ∙ p.shadow seat x.0 x.1 (sym x.4 ∙ shadowed) (sym x.3 ∙ dialled))

-- A datagram was heard on a known channel.
pub plains_heard : (d : Descriptor) (t new : Seats) (lives : ℕ → Option Life) (seat : ℕ) (c : Channel) (heard_moment moment : ℕ) (sender : traffic.Address) (bytes : List ℕ) (past : List Record)
    → Plains d t lives past → channel_at t seat ≡ Some c → is_waiting c ≡ false → Changes t new seat (Some (hears heard_moment c))
    → ((other : ℕ) (e : Channel) (l : Life) → other ≢ seat → channel_at t other ≡ Some e → lives other ≡ Some l → Misses d e l (Received moment sender bytes))
    → Plains d new lives (Received moment sender bytes ∷ past)
plains_heard d t new lives seat c heard_moment moment sender bytes past p there known ch m =
    let r = Received moment sender bytes in
    let c' = hears heard_moment c in
    let k : Keeps t new lives lives seat = record { others = ch.others; living = λ other ne. refl } in
    let was = alone_kept t new lives lives seat c c' k there ch.there refl refl refl in
    let not_seat : (life : Life) (h : HasDial t lives life) → h.seat ≢ seat = λ life h same. both_ways (is_waiting c) known (ap is_waiting (same_Some c h.channel (sym there ∙ ap (channel_at t) (sym same) ∙ h.there)) ∙ h.waits) in
    plains_received d t new lives lives moment sender bytes past p
    (λ life h is open_still. ⊎_elim
    (λ same. record {
      seat = seat;
      channel = c';
      there = ch.there;
      lives_there = ap lives (sym (eqb-true h.seat seat same)) ∙ h.lives_there;
      known = and_right (is_dialled c.opening) (is_greeted c'.state) refl;
    })
    (λ apart. seat_kept t new lives lives seat life h k (eqb-false h.seat seat apart))
    (cases_Bool (eqb h.seat seat)))
    (λ life h of_peer open_still. absurd (no_reply d t lives life r h (m h.seat h.channel h.lives_there.0 (not_seat life h) h.there h.lives_there.1) of_peer.0 of_peer.2))
    (λ life h dialled is none. dial_kept t new lives lives seat life h k (not_seat life h))
    (alone_of d t new lives past p was)
    (shadow_of d t new lives r past p was)

-- the source channel of the first message
pub fitting_source : (d : Descriptor) (is_reply : Bool) (number : ℕ) (ms : List Message) → begins_fitting d is_reply number ms ≡ true → number ≡ first_source ms
fitting_source d is_reply number (Handshake source options ∷ ms) e = sym (eqb-true source number (and_parts (eqb source number) (fits d is_reply options) e).0)
fitting_source d is_reply number [] e = absurd cc
fitting_source d is_reply number (m ∷ ms) e = other m ms e
  where
    other : (m : Message) (ms : List Message) → begins_fitting d is_reply number (m ∷ ms) ≡ true → number ≡ first_source (m ∷ ms)
    other (Handshake source options) ms e = sym (eqb-true source number (and_parts (eqb source number) (fits d is_reply options) e).0)
    other m ms e = absurd cc

-- The reply to a dial came.
pub plains_replied : (d : Descriptor) (t new : Seats) (lives : ℕ → Option Life) (seat : ℕ) (c : Channel) (life : Life) (remote heard_moment moment : ℕ) (sender : traffic.Address) (bytes : List ℕ) (past : List Record)
    → Plains d t lives past → IsReplyFor d t seat c remote (Received moment sender bytes) → lives seat ≡ Some life → life.address ≡ address_of c.address → Changes t new seat (Some (replied remote heard_moment c))
    → ((other : ℕ) (e : Channel) (l : Life) → other ≢ seat → channel_at t other ≡ Some e → lives other ≡ Some l → Misses d e l (Received moment sender bytes))
    → Plains d new (with_life seat (Some (as_dial life remote)) lives) (Received moment sender bytes ∷ past)
plains_replied d t new lives seat c life remote heard_moment moment sender bytes past p is living address ch m =
    let r = Received moment sender bytes in
    let c' = replied remote heard_moment c in
    let lives' = with_life seat (Some (as_dial life remote)) lives in
    let k : Keeps t new lives lives' seat = record { others = ch.others; living = λ other ne. cond-false (eqb other seat) (Some (as_dial life remote)) (lives other) (ne_eqb other seat ne) } in
    let was = alone_kept t new lives lives' seat c c' k is.there ch.there refl refl refl in
    plains_received d t new lives lives' moment sender bytes past p
    (λ l h plain open_still. seat_kept t new lives lives' seat l h k
    (λ same. both_ways (is_waiting c) (ap is_waiting (same_Some c h.channel (sym is.there ∙ ap (channel_at t) (sym same) ∙ h.there)) ∙ h.known) is.waits))
    (λ l h of_peer open_still. ⊎_elim
    (λ same. record {
      seat = seat;
      channel = c';
      there = ch.there;
      lives_there = cond-true (eqb seat seat) (Some (as_dial life remote)) (lives seat) (eq-eqb seat seat refl)
          ∙ ap (λ (x : Life). Some x) (reply_is l h.lives_there.0 life remote r of_peer.0 h.lives_there.2
          (same_Some h.lives_there.0 life (sym h.lives_there.1 ∙ ap lives (eqb-true h.seat seat same) ∙ living)) of_peer.2 is.fitting);
      known = and_right (is_dialled c.opening) (is_greeted c'.state) refl;
    })
    (λ apart. absurd (no_reply d t lives l r h (m h.seat h.channel h.lives_there.0 (eqb-false h.seat seat apart) h.there h.lives_there.1) of_peer.0 of_peer.2))
    (cases_Bool (eqb h.seat seat)))
    (λ l h dialled awaits none. ⊎_elim
    (λ same. absurd (both_ways (comes_from l.address r) none
    (subst (λ (a : traffic.Address). comes_from a r ≡ true) (sym (ap (λ (x : Life). x.address) h.lives_there.2
    ∙ ap (λ (x : Life). x.address) (same_Some h.lives_there.0 life (sym h.lives_there.1 ∙ ap lives (eqb-true h.seat seat same) ∙ living)) ∙ address)) is.from)))
    (λ apart. dial_kept t new lives lives' seat l h k (eqb-false h.seat seat apart))
    (cases_Bool (eqb h.seat seat)))
    (alone_of d t new lives past p was)
    (shadow_of d t new lives r past p was)
  where
    -- the life with the number in the handshake is the one that awaited it
    reply_is : (l l0 life : Life) (remote : ℕ) (r : Record) → l.is_dialled ≡ true → l ≡ record l0 { remote = l.remote } → l0 ≡ life → greets d l r ≡ true
        → begins_fitting d true remote (read d r).messages.read ≡ true → as_dial life remote ≡ l
    reply_is l l0 life remote r dialled same living greets_it fitting =
        let outer = and_parts (comes_from l.address r && is_number (cond l.is_dialled l.local 0) (read d r).channel) (begins_fitting d l.is_dialled l.remote (read d r).messages.read) greets_it in
        let number : remote ≡ l.remote = fitting_source d true remote (read d r).messages.read fitting ∙ sym (fitting_source d l.is_dialled l.remote (read d r).messages.read outer.1) in
        ap (λ (n : ℕ). as_dial life n) number ∙ ap (λ (x : Life). as_dial x l.remote) (sym living) ∙ ap (λ (b : Bool). record l0 { remote = l.remote; is_dialled = b }) (sym (sym (ap (λ (x : Life). x.is_dialled) same) ∙ dialled)) ∙ sym same

-- ---- a seat that is dropped

-- where another dial of its address is there, something had come from it
drop_came : (d : Descriptor) (t : Seats) (lives : ℕ → Option Life) (seat other : ℕ) (c e : Channel) (past : List Record) → Seated d t lives past → Plains d t lives past
    → channel_at t seat ≡ Some c → channel_at t other ≡ Some e → other ≢ seat → is_dialled e.opening ≡ true → is_same c.address e.address ≡ true
    → some_since (comes_from (address_of e.address)) 0 past ≡ true
drop_came d t lives seat other c e past s p there also ne dialled same =
    let address : address_of c.address ≡ address_of e.address = same_is (address_of c.address) (address_of e.address) same in
    ⊎_elim
    (λ waits. absurd (ne (p.dial_alone other seat e c also there dialled (waits_dialled c waits) (sym address))))
    (λ known. subst (λ (a : traffic.Address). some_since (comes_from a) 0 past ≡ true) address
    (by (lives seat) refl known))
    (cases_Bool (is_waiting c))
  where
    by : (l : Option Life) → lives seat ≡ l → is_waiting c ≡ false → some_since (comes_from (address_of c.address)) 0 past ≡ true
    by None none known =
        let st = subst (λ (x : Option Life). StandsAt d (Some c) x past) none (subst (λ (o : Option Channel). StandsAt d o (lives seat) past) there (s.each seat)) in
        absurd (both_ways (is_waiting c) known st.waits)
    by (Some life) is known = known_came d c life past (stands_of d (channel_at t seat) (lives seat) c life past (s.each seat) there is) known

-- Its life is no plain channel, nor a dial that can become one.
pub record IsDone (d : Descriptor) (lives : ℕ → Option Life) (seat : ℕ) (past : List Record) : Type 0 where
  pub plain : (life : Life) → lives seat ≡ Some life → IsPlainNow d life past → ⊥
  pub dial : (life l : Life) → lives seat ≡ Some l → life ≡ record l { remote = life.remote } → life.is_dialled ≡ true → Awaits d life past → ⊥

pub plains_dropped : (d : Descriptor) (t new : Seats) (lives : ℕ → Option Life) (seat : ℕ) (c : Channel) (past : List Record)
    → Seated d t lives past → Plains d t lives past → Drops t new seat c → IsDone d lives seat past → Plains d new lives past
plains_dropped d t new lives seat c past s p drops done = record {
  plain = λ life is.
      let h = p.plain life is in
      let ne : h.seat ≢ seat = λ same. done.plain life (ap lives (sym same) ∙ h.lives_there) is in
      record {
        seat = h.seat;
        channel = Shadowed c h.channel;
        there = drops.others h.seat ne ∙ ap (after_drop (Some c)) h.there;
        lives_there = h.lives_there;
        known = h.known;
      };
  dial = λ life dialled is.
      let h = p.dial life dialled is in
      let ne : h.seat ≢ seat = λ same. done.dial life h.lives_there.0 (ap lives (sym same) ∙ h.lives_there.1) h.lives_there.2 dialled is in
      record {
        seat = h.seat;
        channel = Shadowed c h.channel;
        there = drops.others h.seat ne ∙ ap (after_drop (Some c)) h.there;
        lives_there = h.lives_there;
        waits = h.waits;
        unshadowed = ap (λ (b : Bool). b || is_same c.address h.channel.address) h.unshadowed
            ∙ false_from_ne_true (is_same c.address h.channel.address) (λ same.
            let st = stands_of d (channel_at t h.seat) (lives h.seat) h.channel h.lives_there.0 past (s.each h.seat) h.there h.lives_there.1 in
            both_ways (some_since (comes_from life.address) 0 past) (awaits_none d life past dialled is)
            (subst (λ (a : traffic.Address). some_since (comes_from a) 0 past ≡ true) (sym (ap (λ (x : Life). x.address) h.lives_there.2 ∙ st.address))
            (drop_came d t lives seat h.seat c h.channel past s p drops.was h.there ne (waits_dialled h.channel h.waits) same)));
      };
  dial_alone = λ one other a e at_one at_other da de same.
      let x = (before_drop t new seat c drops one a at_one).1 in
      let y = (before_drop t new seat c drops other e at_other).1 in
      p.dial_alone one other x.0 y.0 x.1 y.1 (ap (λ (z : Channel). is_dialled z.opening) (sym x.2) ∙ da) (ap (λ (z : Channel). is_dialled z.opening) (sym y.2) ∙ de)
      (ap (λ (z : Channel). address_of z.address) (sym x.2) ∙ same ∙ ap (λ (z : Channel). address_of z.address) y.2);
  shadow = λ other e there shadowed dialled.
      let b = before_drop t new seat c drops other e there in
      let e0 = b.1.0 in
      let d0 : is_dialled e0.opening ≡ true = ap (λ (z : Channel). is_dialled z.opening) (sym b.1.2) ∙ dialled in
      subst (λ (z : Channel). some_since (comes_from (address_of z.address)) 0 past ≡ true) (sym b.1.2)
      (⊎_elim
      (λ before. p.shadow other e0 b.1.1 before d0)
      (λ same. drop_came d t lives seat other c e0 past s p drops.was b.1.1 b.0 d0 same)
      (or_cases e0.shadowed (is_same c.address e0.address) (ap (λ (z : Channel). z.shadowed) (sym b.1.2) ∙ shadowed)));
}

-- So it is where the channel was closed by the datagram that came,
pub closed_done : (d : Descriptor) (lives : ℕ → Option Life) (seat : ℕ) (life : Life) (moment : ℕ) (sender : traffic.Address) (bytes : List ℕ) (past : List Record)
    → lives seat ≡ Some life → closes_on d life (Received moment sender bytes) ≡ true → comes_from life.address (Received moment sender bytes) ≡ true
    → IsDone d lives seat (Received moment sender bytes ∷ past)
closed_done d lives seat life moment sender bytes past living closing from =
    let r = Received moment sender bytes in
    record {
      plain = λ l is plain.
          let same : life ≡ l = same_Some life l (sym living ∙ is) in
          both_ways (closes_on d l r) ((plain_grows.received d l moment sender bytes past).0 plain).0 (subst (λ (x : Life). closes_on d x r ≡ true) same closing);
      dial = λ l0 l is same dialled awaits.
          let here : life ≡ l = same_Some life l (sym living ∙ is) in
          both_ways (comes_from l0.address r) (none_here (comes_from l0.address) r past (awaits_none d l0 (r ∷ past) dialled awaits))
          (subst (λ (a : traffic.Address). comes_from a r ≡ true) (ap (λ (x : Life). x.address) here ∙ sym (ap (λ (x : Life). x.address) same)) from);
    }

-- A seat is dropped by the datagram that came for it.
pub plains_gone : (d : Descriptor) (t new : Seats) (lives : ℕ → Option Life) (seat : ℕ) (c : Channel) (moment : ℕ) (sender : traffic.Address) (bytes : List ℕ) (past : List Record)
    → Seated d t lives past → Plains d t lives past → Drops t new seat c
    → ((other : ℕ) (e : Channel) (l : Life) → other ≢ seat → channel_at t other ≡ Some e → lives other ≡ Some l → Misses d e l (Received moment sender bytes))
    → ((life : Life) (h : HasSeat t lives life) → h.seat ≡ seat → closes_on d life (Received moment sender bytes) ≡ false → ⊥)
    → ((life : Life) (h : HasDial t lives life) → h.seat ≡ seat → IsReplyOfPeer d life (Received moment sender bytes) past → closes_on d life (Received moment sender bytes) ≡ false → ⊥)
    → ((life : Life) (h : HasDial t lives life) → h.seat ≡ seat → comes_from life.address (Received moment sender bytes) ≡ false → ⊥)
    → Plains d new lives (Received moment sender bytes ∷ past)
plains_gone d t new lives seat c moment sender bytes past s p drops m no_seat no_dial from =
    let r = Received moment sender bytes in
    plains_received d t new lives lives moment sender bytes past p
    (λ life h is open_still. let ne : h.seat ≢ seat = λ same. no_seat life h same open_still in record {
      seat = h.seat;
      channel = Shadowed c h.channel;
      there = drops.others h.seat ne ∙ ap (after_drop (Some c)) h.there;
      lives_there = h.lives_there;
      known = h.known;
    })
    (λ life h of_peer open_still. ⊎_elim
    (λ same. absurd (no_dial life h (eqb-true h.seat seat same) of_peer open_still))
    (λ apart. absurd (no_reply d t lives life r h (m h.seat h.channel h.lives_there.0 (eqb-false h.seat seat apart) h.there h.lives_there.1) of_peer.0 of_peer.2))
    (cases_Bool (eqb h.seat seat)))
    (λ life h dialled is none. let ne : h.seat ≢ seat = λ same. from life h same none in record {
      seat = h.seat;
      channel = Shadowed c h.channel;
      there = drops.others h.seat ne ∙ ap (after_drop (Some c)) h.there;
      lives_there = h.lives_there;
      waits = h.waits;
      unshadowed = ap (λ (b : Bool). b || is_same c.address h.channel.address) h.unshadowed
          ∙ false_from_ne_true (is_same c.address h.channel.address) (λ same.
          let st = stands_of d (channel_at t h.seat) (lives h.seat) h.channel h.lives_there.0 past (s.each h.seat) h.there h.lives_there.1 in
          both_ways (some_since (comes_from life.address) 0 past) (awaits_none d life past dialled is)
          (subst (λ (a : traffic.Address). some_since (comes_from a) 0 past ≡ true) (sym (ap (λ (x : Life). x.address) h.lives_there.2 ∙ st.address))
          (drop_came d t lives seat h.seat c h.channel past s p drops.was h.there ne (waits_dialled h.channel h.waits) same)));
    })
    (λ one other a e at_one at_other da de same.
    let x = (before_drop t new seat c drops one a at_one).1 in
    let y = (before_drop t new seat c drops other e at_other).1 in
    p.dial_alone one other x.0 y.0 x.1 y.1 (ap (λ (z : Channel). is_dialled z.opening) (sym x.2) ∙ da) (ap (λ (z : Channel). is_dialled z.opening) (sym y.2) ∙ de)
    (ap (λ (z : Channel). address_of z.address) (sym x.2) ∙ same ∙ ap (λ (z : Channel). address_of z.address) y.2))
    (λ other e there shadowed dialled.
    let b = before_drop t new seat c drops other e there in
    let e0 = b.1.0 in
    let d0 : is_dialled e0.opening ≡ true = ap (λ (z : Channel). is_dialled z.opening) (sym b.1.2) ∙ dialled in
    or_right (leb 0 (length past) && comes_from (address_of e.address) r) (some_since (comes_from (address_of e.address)) 0 past)
    (subst (λ (z : Channel). some_since (comes_from (address_of z.address)) 0 past ≡ true) (sym b.1.2)
    (⊎_elim
    (λ before. p.shadow other e0 b.1.1 before d0)
    (λ same. drop_came d t lives seat other c e0 past s p drops.was b.1.1 b.0 d0 same)
    (or_cases e0.shadowed (is_same c.address e0.address) (ap (λ (z : Channel). z.shadowed) (sym b.1.2) ∙ shadowed)))))

-- A closing handshake came on a known channel.
pub plains_closed : (d : Descriptor) (t new : Seats) (lives : ℕ → Option Life) (seat : ℕ) (c : Channel) (life : Life) (moment : ℕ) (sender : traffic.Address) (bytes : List ℕ) (past : List Record)
    → Seated d t lives past → Plains d t lives past → Drops t new seat c → lives seat ≡ Some life → is_waiting c ≡ false
    → ((other : ℕ) (e : Channel) (l : Life) → other ≢ seat → channel_at t other ≡ Some e → lives other ≡ Some l → Misses d e l (Received moment sender bytes))
    → closes_on d life (Received moment sender bytes) ≡ true → Plains d new lives (Received moment sender bytes ∷ past)
plains_closed d t new lives seat c life moment sender bytes past s p drops living known m closing =
    let r = Received moment sender bytes in
    let not_seat : (l : Life) (h : HasDial t lives l) → h.seat ≡ seat → ⊥ = λ l h same. both_ways (is_waiting c) known (ap is_waiting (same_Some c h.channel (sym drops.was ∙ ap (channel_at t) (sym same) ∙ h.there)) ∙ h.waits) in
    plains_gone d t new lives seat c moment sender bytes past s p drops m
    (λ l h same open_still. both_ways (closes_on d l r) open_still (subst (λ (x : Life). closes_on d x r ≡ true) (same_Some life l (sym living ∙ ap lives (sym same) ∙ h.lives_there)) closing))
    (λ l h same of_peer open_still. not_seat l h same)
    (λ l h same none. not_seat l h same)

-- The reply to a dial came, and closes the channel.
pub plains_shut : (d : Descriptor) (t new : Seats) (lives : ℕ → Option Life) (seat : ℕ) (c : Channel) (life : Life) (moment : ℕ) (sender : traffic.Address) (bytes : List ℕ) (past : List Record)
    → Seated d t lives past → Plains d t lives past → Drops t new seat c → lives seat ≡ Some life → is_waiting c ≡ true
    → comes_from (address_of c.address) (Received moment sender bytes) ≡ true
    → ((other : ℕ) (e : Channel) (l : Life) → other ≢ seat → channel_at t other ≡ Some e → lives other ≡ Some l → Misses d e l (Received moment sender bytes))
    → closes (read d (Received moment sender bytes)).messages.read ≡ true
    → Plains d new lives (Received moment sender bytes ∷ past)
plains_shut d t new lives seat c life moment sender bytes past s p drops living waits from m shut =
    let r = Received moment sender bytes in
    let st = stands_of d (channel_at t seat) (lives seat) c life past (s.each seat) drops.was living in
    plains_gone d t new lives seat c moment sender bytes past s p drops m
    (λ l h same open_still. both_ways (is_waiting c) (ap is_waiting (same_Some c h.channel (sym drops.was ∙ ap (channel_at t) (sym same) ∙ h.there)) ∙ h.known) waits)
    (λ l h same of_peer open_still.
    let outer = and_parts (comes_from l.address r && is_number (cond l.is_dialled l.local 0) (read d r).channel) (begins_fitting d l.is_dialled l.remote (read d r).messages.read) of_peer.2 in
    let on : comes_on d l r ≡ true = subst (λ (b : Bool). (comes_from l.address r && is_number (cond b l.local 0) (read d r).channel) ≡ true) of_peer.0 outer.0 in
    both_ways (closes_on d l r) open_still (and_from (comes_on d l r) (closes (read d r).messages.read) on shut))
    (λ l h same none. both_ways (comes_from l.address r) none (subst (λ (a : traffic.Address). comes_from a r ≡ true)
    (sym (ap (λ (x : Life). x.address) h.lives_there.2 ∙ ap (λ (x : Life). x.address) (same_Some h.lives_there.0 life (sym h.lives_there.1 ∙ ap lives same ∙ living)) ∙ st.address)) from))

-- A handshake came on a channel that waits, and it is no reply that an awaiting dial could take.
pub plains_refused : (d : Descriptor) (t new : Seats) (lives : ℕ → Option Life) (seat : ℕ) (c : Channel) (life : Life) (moment : ℕ) (sender : traffic.Address) (bytes : List ℕ) (past : List Record)
    → Seated d t lives past → Plains d t lives past → Drops t new seat c → lives seat ≡ Some life → is_waiting c ≡ true
    → comes_from (address_of c.address) (Received moment sender bytes) ≡ true
    → ((other : ℕ) (e : Channel) (l : Life) → other ≢ seat → channel_at t other ≡ Some e → lives other ≡ Some l → Misses d e l (Received moment sender bytes))
    → ((remote : ℕ) → 0 < remote → begins_fitting d true remote (read d (Received moment sender bytes)).messages.read ≡ true
    → (c.shadowed ≡ true) ⊎ ((other : ℕ) × (is_source c.address remote (channel_at t other) ≡ true)))
    → Plains d new lives (Received moment sender bytes ∷ past)
plains_refused d t new lives seat c life moment sender bytes past s p drops living waits from m refused =
    let r = Received moment sender bytes in
    let st = stands_of d (channel_at t seat) (lives seat) c life past (s.each seat) drops.was living in
    let channel_is : (l : Life) (h : HasDial t lives l) → h.seat ≡ seat → c ≡ h.channel = λ l h same. same_Some c h.channel (sym drops.was ∙ ap (channel_at t) (sym same) ∙ h.there) in
    let address_is : (l : Life) (h : HasDial t lives l) → h.seat ≡ seat → l.address ≡ address_of c.address = λ l h same.
    ap (λ (x : Life). x.address) h.lives_there.2 ∙ ap (λ (x : Life). x.address) (same_Some h.lives_there.0 life (sym h.lives_there.1 ∙ ap lives same ∙ living)) ∙ st.address in
    plains_gone d t new lives seat c moment sender bytes past s p drops m
    (λ l h same open_still. both_ways (is_waiting c) (ap is_waiting (same_Some c h.channel (sym drops.was ∙ ap (channel_at t) (sym same) ∙ h.there)) ∙ h.known) waits)
    (λ l h same of_peer open_still. ⊎_elim
    (λ shadowed. both_ways c.shadowed (ap (λ (x : Channel). x.shadowed) (channel_is l h same) ∙ h.unshadowed) shadowed)
    (λ source. both_ways (some_since (comes_from l.address) 0 past) (awaits_none d l past of_peer.0 of_peer.1)
    (subst (λ (a : traffic.Address). some_since (comes_from a) 0 past ≡ true) (sym (address_is l h same)) (source_came (channel_at t source.0) (lives source.0) l.remote source.0 refl refl source.1)))
    (refused l.remote of_peer.1.remote_some
    (subst (λ (b : Bool). begins_fitting d b l.remote (read d r).messages.read ≡ true) of_peer.0
    (and_parts (comes_from l.address r && is_number (cond l.is_dialled l.local 0) (read d r).channel) (begins_fitting d l.is_dialled l.remote (read d r).messages.read) of_peer.2).1)))
    (λ l h same none. both_ways (comes_from l.address r) none (subst (λ (a : traffic.Address). comes_from a r ≡ true) (sym (address_is l h same)) from))
  where
    -- from the address of a channel that has the number something came
    source_came : (o : Option Channel) (l : Option Life) (remote other : ℕ) → channel_at t other ≡ o → lives other ≡ l → is_source c.address remote o ≡ true → some_since (comes_from (address_of c.address)) 0 past ≡ true
    source_came None l remote other at_is l_is e = absurd cc
    source_came (Some e) l remote other at_is l_is has =
        let parts = and_parts (has_remote remote e.remote) (is_same e.address c.address) has in
        subst (λ (a : traffic.Address). some_since (comes_from a) 0 past ≡ true) (same_is (address_of e.address) (address_of c.address) parts.1)
        (⊎_elim
        (λ e_waits. absurd (let none = ap (has_remote remote) (s.unknown other e at_is e_waits) in both_ways (has_remote remote e.remote) none parts.0))
        (λ known. living_came l e other at_is l_is known)
        (cases_Bool (is_waiting e)))
      where
        living_came : (l : Option Life) (e : Channel) (other : ℕ) → channel_at t other ≡ Some e → lives other ≡ l → is_waiting e ≡ false → some_since (comes_from (address_of e.address)) 0 past ≡ true
        living_came None e other at_is l_is known =
            let x = subst (λ (y : Option Life). StandsAt d (Some e) y past) l_is (subst (λ (o : Option Channel). StandsAt d o (lives other) past) at_is (s.each other)) in
            absurd (both_ways (is_waiting e) known x.waits)
        living_came (Some lf) e other at_is l_is known = known_came d e lf past (stands_of d (channel_at t other) (lives other) e lf past (s.each other) at_is l_is) known

-- ---- channels whose time is over

none_heard : (d : Descriptor) (life : Life) (past : List Record) → length past ≤ life.opening → heard_at d life past ≡ None
none_heard d life [] le = refl
none_heard d life (r ∷ past) le =
    cond-false (ltb life.opening (length past) && comes_on d life r) (Some (now (r ∷ past))) (heard_at d life past)
    (and_left (ltb life.opening (length past)) (comes_on d life r) (le-ltb life.opening (length past) (omega arith)))
    ∙ none_heard d life past (omega arith)

heard_none : (d : Descriptor) (life : Life) (test : Record → Bool) (place : ℕ) (past : List Record) → place ≤ life.opening → ((r : Record) → comes_on d life r ≡ true → test r ≡ true)
    → some_since test place past ≡ false → heard_at d life past ≡ None
heard_none d life test place [] le grows e = refl
heard_none d life test place (r ∷ past) le grows e =
    let parts = or_parts (leb place (length past) && test r) (some_since test place past) e in
    cond-false (ltb life.opening (length past) && comes_on d life r) (Some (now (r ∷ past))) (heard_at d life past)
    (false_from_ne_true (ltb life.opening (length past) && comes_on d life r) (λ both.
    let b = and_parts (ltb life.opening (length past)) (comes_on d life r) both in
    let lt = ltb-true life.opening (length past) b.0 in
    both_ways (leb place (length past) && test r) parts.0 (and_from (leb place (length past)) (test r) (le-leb place (length past) (omega arith)) (grows r b.1))))
    ∙ heard_none d life test place past le grows parts.1

-- at each moment a timely channel that has is in time
pub in_time : (d : Descriptor) (life : Life) (past : List Record) → life.opening < length past → is_timely d life past ≡ true
    → is_in_time (now_at life.opening past) (heard_at d life past) (now past) ≡ true
in_time d life [] lt e = absurd (omega arith)
in_time d life (r ∷ past) lt e =
    let parts = and_parts (not (is_event r && ltb life.opening (length past)) || is_in_time (now_at life.opening past) (heard_at d life (r ∷ past)) (now (r ∷ past))) (is_timely d life past) e in
    ⊎_elim
    (λ here.
    let place = eqb-true life.opening (length past) here in
    ap (λ (n : ℕ). is_in_time n (heard_at d life (r ∷ past)) (now (r ∷ past))) (cond-true (eqb life.opening (length past)) (now (r ∷ past)) (now_at life.opening past) here)
    ∙ ap (λ (o : Option ℕ). is_in_time (now (r ∷ past)) o (now (r ∷ past)))
    (cond-false (ltb life.opening (length past) && comes_on d life r) (Some (now (r ∷ past))) (heard_at d life past)
    (and_left (ltb life.opening (length past)) (comes_on d life r) (le-ltb life.opening (length past) (omega (arith, place))))
    ∙ none_heard d life past (omega (arith, place)))
    ∙ lt-ltb (now (r ∷ past)) (now (r ∷ past) + 10000000) (omega arith))
    (λ later.
    let ne = eqb-false life.opening (length past) later in
    let early : life.opening < length past = omega arith in
    ap (λ (n : ℕ). is_in_time n (heard_at d life (r ∷ past)) (now (r ∷ past))) (cond-false (eqb life.opening (length past)) (now (r ∷ past)) (now_at life.opening past) later)
    ∙ by_kind r early parts.0 (in_time d life past early parts.1))
    (cases_Bool (eqb life.opening (length past)))
  where
    begun_event : (b x : Bool) → b ≡ true → (not b || x) ≡ true → x ≡ true
    begun_event true x is e = e
    begun_event false x is e = absurd cc

    by_kind : (r : Record) → life.opening < length past
        → (not (is_event r && ltb life.opening (length past)) || is_in_time (now_at life.opening past) (heard_at d life (r ∷ past)) (now (r ∷ past))) ≡ true
        → is_in_time (now_at life.opening past) (heard_at d life past) (now past) ≡ true → is_in_time (now_at life.opening past) (heard_at d life (r ∷ past)) (now (r ∷ past)) ≡ true
    by_kind (Received at sender bytes) early first before = begun_event (ltb life.opening (length past)) (is_in_time (now_at life.opening past) (heard_at d life (Received at sender bytes ∷ past)) (now (Received at sender bytes ∷ past))) (lt-ltb life.opening (length past) early) first
    by_kind (traffic.Quiet at) early first before = begun_event (ltb life.opening (length past)) (is_in_time (now_at life.opening past) (heard_at d life (traffic.Quiet at ∷ past)) (now (traffic.Quiet at ∷ past))) (lt-ltb life.opening (length past) early) first
    by_kind (Sent moment receiver bytes) early first before =
        ap (λ (o : Option ℕ). is_in_time (now_at life.opening past) o (now past)) (heard_same d life (Sent moment receiver bytes) past refl) ∙ before

over_greeted : (made moment : ℕ) → leb 10000000 (moment - made) ≡ true → ltb moment (made + 10000000) ≡ true → ⊥
over_greeted made moment a b = let x = leb-true 10000000 (moment - made) a in let y = ltb-true moment (made + 10000000) b in omega arith

over_proven : (heard moment : ℕ) → leb 180000000 (moment - heard) ≡ true → ltb moment (heard + 180000000) ≡ true → ⊥
over_proven heard moment a b = let x = leb-true 180000000 (moment - heard) a in let y = ltb-true moment (heard + 180000000) b in omega arith

-- A channel whose time is over isn't in time.
over_late : (c : Channel) (opened : ℕ) (heard : Option ℕ) (moment : ℕ) → c.made ≡ opened → (is_proven c ≡ true → heard ≡ Some c.heard) → (is_proven c ≡ false → heard ≡ None)
    → is_over moment (Some c) ≡ true → is_in_time opened heard moment ≡ true → ⊥
over_late c opened heard moment made proven greeted over early = by c.state refl over
  where
    by : (x : State) → c.state ≡ x → is_over_in x moment c ≡ true → ⊥
    by Greeted is over = over_greeted opened moment (ap (λ (n : ℕ). leb 10000000 (moment - n)) (sym made) ∙ over)
        (ap (λ (o : Option ℕ). is_in_time opened o moment) (sym (greeted (ap (λ (y : State). not (is_greeted y)) is))) ∙ early)
    by Proven is over = over_proven c.heard moment over
        (ap (λ (o : Option ℕ). is_in_time opened o moment) (sym (proven (ap (λ (y : State). not (is_greeted y)) is))) ∙ early)

pub expired_done : (d : Descriptor) (t : Seats) (lives : ℕ → Option Life) (seat : ℕ) (c : Channel) (past : List Record) → Seated d t lives past → Plains d t lives past → channel_at t seat ≡ Some c
    → is_over (now past) (Some c) ≡ true → IsDone d lives seat past
expired_done d t lives seat c past s p there over = record {
  plain = λ life living is.
      let h = p.plain life is in
      let st = stands_of d (channel_at t seat) (lives seat) c life past (s.each seat) there living in
      let early = in_time d life past (plain_began d life past past is) is.timely in
      ⊎_elim
      (λ waits. both_ways (is_waiting c) (ap is_waiting (one_seat h.seat h.channel life life h.there h.lives_there living refl) ∙ h.known) waits)
      (λ known. over_late c (now_at life.opening past) (heard_at d life past) (now past) st.made st.goes.heard
      (λ unproven. heard_none d life (comes_on d life) life.opening past (omega arith) (λ r e. e) (unshown life st known unproven)) over early)
      (cases_Bool (is_waiting c));
  dial = λ life l living same dialled is.
      let st = stands_of d (channel_at t seat) (lives seat) c l past (s.each seat) there living in
      let place : life.opening ≡ l.opening = ap (λ (x : Life). x.opening) same in
      let none : heard_at d life past ≡ None = heard_none d life (comes_from life.address) 0 past (omega arith) (λ r e. (and_parts (comes_from life.address r) (is_number life.local (read d r).channel) e).0) (awaits_none d life past dialled is) in
      let early = in_time d life past (omega (arith, place, began d c l past st)) is.timely in
      let h = p.dial life dialled is in
      let waits : is_waiting c ≡ true = ap is_waiting (one_seat h.seat h.channel h.lives_there.0 l h.there h.lives_there.1 living
      (sym (ap (λ (x : Life). x.local) h.lives_there.2) ∙ ap (λ (x : Life). x.local) same)) ∙ h.waits in
      over_late c (now_at life.opening past) (heard_at d life past) (now past) (st.made ∙ ap (λ (n : ℕ). now_at n past) (sym place))
      (λ proven. absurd (both_ways (is_proven c) (waits_unproven c waits) proven))
      (λ unproven. none) over early;
}
  where
    -- a life is of one seat
    one_seat : (k : ℕ) (a : Channel) (x y : Life) → channel_at t k ≡ Some a → lives k ≡ Some x → lives seat ≡ Some y → x.local ≡ y.local → c ≡ a
    one_seat k a x y at_k lives_k lives_seat same =
        let sx = stands_of d (channel_at t k) (lives k) a x past (s.each k) at_k lives_k in
        let sy = stands_of d (channel_at t seat) (lives seat) c y past (s.each seat) there lives_seat in
        let k_is : k ≡ seat = s.are.differ k seat a c at_k there (sym sx.local ∙ same ∙ sy.local) in
        same_Some c a (sym there ∙ ap (channel_at t) (sym k_is) ∙ at_k)

    unshown : (life : Life) → Stands d c life past → is_waiting c ≡ false → is_proven c ≡ false → some_since (comes_on d life) life.opening past ≡ false
    unshown life st known unproven =
        let greeted : is_greeted c.state ≡ true = not-false (is_greeted c.state) unproven in
        let answered : life.is_dialled ≡ false = st.dialled ∙ not_dialled (is_dialled c.opening) (is_greeted c.state) greeted known in
        subst (λ (b : Bool). some_since (λ r. cond b (shakes_on d life r) (comes_on d life r)) life.opening past ≡ false) answered (sym st.goes.proven ∙ unproven)
      where
        not_dialled : (a b : Bool) → b ≡ true → (a && b) ≡ false → a ≡ false
        not_dialled true b is e = sym is ∙ e
        not_dialled false b is e = refl

-- ---- changes that leave a life as it is

pub plains_steady : (d : Descriptor) (t new : Seats) (lives : ℕ → Option Life) (seat : ℕ) (c c' : Channel) (past : List Record) → Plains d t lives past → channel_at t seat ≡ Some c → Steady c c' → Changes t new seat (Some c')
    → Plains d new lives past
plains_steady d t new lives seat c c' past p there st ch =
    let waits = steady_waits c c' st in
    let k : Keeps t new lives lives seat = record { others = ch.others; living = λ other ne. refl } in
    let was = alone_kept t new lives lives seat c c' k there ch.there st.address st.dialled st.shadowed in
    let here : (e : Channel) (o : ℕ) → channel_at t o ≡ Some e → eqb o seat ≡ true → c ≡ e = λ e o also same. same_Some c e (sym there ∙ ap (channel_at t) (sym (eqb-true o seat same)) ∙ also) in
    record {
      plain = λ life is. let h = p.plain life is in ⊎_elim
          (λ same. record { seat = seat; channel = c'; there = ch.there; lives_there = ap lives (sym (eqb-true h.seat seat same)) ∙ h.lives_there; known = waits ∙ ap is_waiting (here h.channel h.seat h.there same) ∙ h.known })
          (λ apart. seat_kept t new lives lives seat life h k (eqb-false h.seat seat apart))
          (cases_Bool (eqb h.seat seat));
      dial = λ life dialled is. let h = p.dial life dialled is in ⊎_elim
          (λ same. record {
            seat = seat;
            channel = c';
            there = ch.there;
            lives_there = (h.lives_there.0, ap lives (sym (eqb-true h.seat seat same)) ∙ h.lives_there.1, h.lives_there.2);
            waits = waits ∙ ap is_waiting (here h.channel h.seat h.there same) ∙ h.waits;
            unshadowed = st.shadowed ∙ ap (λ (x : Channel). x.shadowed) (here h.channel h.seat h.there same) ∙ h.unshadowed;
          })
          (λ apart. dial_kept t new lives lives seat life h k (eqb-false h.seat seat apart))
          (cases_Bool (eqb h.seat seat));
      dial_alone = alone_of d t new lives past p was;
      shadow = λ other e also shadowed dialled. let x = was other e also in
          ap (λ (a : Address). some_since (comes_from (address_of a)) 0 past) x.2 ∙ p.shadow other x.0 x.1 (sym x.4 ∙ shadowed) (sym x.3 ∙ dialled);
    }
