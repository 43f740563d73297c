-- The seats as the calls leave them stand for the traffic.
use Rattle.std.proofs.Common.{◌≡◌, ⊎_elim, ℕ, cond, eqb, Bool, true, false, ◌||◌, ◌&&◌, Some, None, List, refl, sym, ◌∙◌, ap, subst}
use Rattle.std.specs.List.{list_any}
use Rattle.std.proofs.lemmas.List.Folds.{list_any_at}
use Rattle.std.proofs.lemmas.Option.{same_Some}
use Rattle.std.proofs.lemmas.Bool.{cases_Bool, both_ways, and_from, or_left, or_right, eqb-true, eqb-false, eq-eqb}
use Rattle.pp_terms.specs.format.Traffic as traffic
use Rattle.pp_terms.specs.format.Traffic.{Record, Sent, same_address}
use Rattle.pp_terms.specs.format.Descriptor.{Descriptor}
use Rattle.pp_traffic.specs.Past.{read, goes_to, is_number, is_at}
use Rattle.pp_traffic.specs.Life.{Life, greets, answers, begins_as}
use Rattle.pp_outside.specs.Outside.{address_of}
use Rattle.pp_outside.specs.declared.link.Address.{Address}
use Rattle.pp_channels.specs.Seats.{Seats, AreSeats, channel_at, changed, closed, dialled, has_address, is_begun, with_channel, with_handshake}
use Rattle.pp_channels.specs.declared.channel.Channel.{Channel}
use Rattle.pp_traffic.proofs.OneMore.{at_since}
use Rattle.pp_lives.specs.Reading.{is_waiting}
use Rattle.pp_lives.specs.Standing.{Stands}
use Rattle.pp_lives.specs.Calls.{Changes, Steady, IsDialOf}
use Rattle.pp_lives.specs.Sending.{with_datagram}
use Rattle.pp_lives.specs.Laws.{DialKeeps, SentKeeps, FirstKeeps, AgainKeeps, RefusedKeeps, BegunKept}
use Rattle.pp_lives.proofs.Staying.{waits_dialled}
use Rattle.pp_lives.proofs.Own.{stands_of}
use Rattle.pp_lives.proofs.Closing.{before_drop, dropped_seated, dropped_tells}
use Rattle.pp_lives.proofs.Edits.{steady_wrote, steady_waits, still_opened, now_begun}
use Rattle.pp_lives.proofs.Sent.{same_self}
use Rattle.pp_lives.proofs.Plainly.{plains_dropped}
use Rattle.pp_lives.proofs.Changing.{within, changed_is, changes_then, are_changed, made_is, dropped_is, are_dropped}
use Rattle.pp_lives.proofs.Wholes.{dials_stay, said_stays, dialled_stays, redialled_stays}

-- ---- a datagram was noted

-- the channel on which it was sent
abbrev after_datagram : Channel → Bool → ℕ → Channel
after_datagram c true at = record c { wrote = at; opening = with_handshake c.opening }
after_datagram c false at = record c { wrote = at }

-- It is the same to the traffic, but that it has begun where the datagram began with its handshake.
record IsNoted (t : Seats) (seat : ℕ) (c : Channel) (handshake : Bool) (at : ℕ) : Type 0 where
  change : Changes t (with_datagram t seat handshake at) seat (Some (after_datagram c handshake at))
  are : AreSeats t.channels → AreSeats (with_datagram t seat handshake at).channels
  steady : Steady c (after_datagram c handshake at)
  begun : is_begun (after_datagram c handshake at).opening ≡ (handshake || is_begun c.opening)

noted : (t : Seats) (seat : ℕ) (c : Channel) (handshake : Bool) (at : ℕ) → channel_at t seat ≡ Some c → IsNoted t seat c handshake at
noted t seat c true at there =
    let f : Channel → Channel = λ x. record x { wrote = at } in
    let g : Channel → Channel = λ x. record x { opening = with_handshake x.opening } in
    let one = changed_is t seat c f there in
    let two = changed_is (changed t seat f) seat (f c) g one.there in
    record {
      change = changes_then t (changed t seat f) (changed (changed t seat f) seat g) seat _ _ one two;
      are = λ are. are_changed (changed t seat f) seat (f c) g (are_changed t seat c f are there refl) one.there refl;
      steady = record { address = refl; local = refl; remote = refl; state = refl; dialled = still_opened c.opening; made = refl; heard = refl; shadowed = refl };
      begun = now_begun c.opening;
    }
noted t seat c false at there =
    let f : Channel → Channel = λ x. record x { wrote = at } in
    record { change = changed_is t seat c f there; are = λ are. are_changed t seat c f are there refl; steady = steady_wrote c at; begun = refl }

-- ---- what is sent

-- whether it was noted is whether it counts
handshake_counts : (d : Descriptor) (c : Channel) (life : Life) (handshake : Bool) (moment : ℕ) (bytes : List ℕ) (past : List Record) → Stands d c life past
    → (read d (Sent moment (address_of c.address) bytes)).channel ≡ Some life.remote → handshake ≡ begins_as c.local (read d (Sent moment (address_of c.address) bytes)).messages.read
    → (handshake || is_begun c.opening) ≡ (answers d life (Sent moment (address_of c.address) bytes) || is_begun c.opening)
handshake_counts d c life handshake moment bytes past st number own = ⊎_elim
    (λ dialled_is.
    let opened : is_at (answers d life) life.opening past ≡ true = subst (λ (b : Bool). is_at (λ x. cond b (answers d life x) (greets d life x)) life.opening past ≡ true) dialled_is st.opened in
    let begun : is_begun c.opening ≡ true = st.goes.has_begun ∙ at_since (answers d life) life.opening past opened in
    or_right handshake (is_begun c.opening) begun ∙ sym (or_right (answers d life r) (is_begun c.opening) begun))
    (λ answered.
    let goes : goes_to life.address r ≡ true = subst (λ (a : traffic.Address). same_address (address_of c.address) a ≡ true) (sym st.address) (same_self (address_of c.address)) in
    let to : is_number (cond life.is_dialled 0 life.remote) (read d r).channel ≡ true = ap (λ (b : Bool). is_number (cond b 0 life.remote) (read d r).channel) answered ∙ ap (is_number life.remote) number ∙ eq-eqb life.remote life.remote refl in
    let counts : answers d life r ≡ handshake = ap (λ (b : Bool). (b && is_number (cond life.is_dialled 0 life.remote) (read d r).channel) && begins_as life.local (read d r).messages.read) goes
    ∙ ap (λ (b : Bool). b && begins_as life.local (read d r).messages.read) to ∙ ap (λ (n : ℕ). begins_as n (read d r).messages.read) st.local ∙ sym own in
    ap (λ (b : Bool). b || is_begun c.opening) (sym counts))
    (cases_Bool life.is_dialled)
  where
    r : Record
    r = Sent moment (address_of c.address) bytes

pub sent_keeps : SentKeeps
sent_keeps d t lives seat c life handshake at moment bytes past s there living known number own noted_is =
    let n = noted t seat c handshake at there in
    let st = stands_of d (channel_at t seat) (lives seat) c life past (s.seated.each seat) there living in
    said_stays d t (with_datagram t seat handshake at) lives seat c (after_datagram c handshake at) life moment bytes past s there living known number own n.steady
    (n.begun ∙ handshake_counts d c life handshake moment bytes past st number noted_is) (n.are s.seated.are) n.change

pub first_keeps : FirstKeeps
first_keeps d t lives seat c at moment bytes past s there living waits made is =
    let n = noted t seat c true at there in
    dialled_stays d t (with_datagram t seat true at) lives seat c (after_datagram c true at) moment bytes past s there living waits made is n.steady n.begun (n.are s.seated.are) n.change

-- a handshake of a dial is this peer's on its life
dial_answers : (d : Descriptor) (c : Channel) (life : Life) (r : Record) (past : List Record) → Stands d c life past → is_waiting c ≡ true → IsDialOf d c r → answers d life r ≡ true
dial_answers d c life r past st waits is =
    let dialled_is : life.is_dialled ≡ true = st.dialled ∙ waits_dialled c waits in
    and_from (goes_to life.address r && is_number (cond life.is_dialled 0 life.remote) (read d r).channel) (begins_as life.local (read d r).messages.read)
    (and_from (goes_to life.address r) (is_number (cond life.is_dialled 0 life.remote) (read d r).channel)
    (ap (λ (a : traffic.Address). goes_to a r) st.address ∙ is.to)
    (ap (λ (b : Bool). is_number (cond b 0 life.remote) (read d r).channel) dialled_is ∙ ap (is_number 0) is.number))
    (ap (begins_as life.local) is.alone ∙ eq-eqb c.local life.local (sym st.local))

pub again_keeps : AgainKeeps
again_keeps d t lives seat c life at moment bytes past s there living waits is =
    let n = noted t seat c true at there in
    let st = stands_of d (channel_at t seat) (lives seat) c life past (s.seated.each seat) there living in
    let r = Sent moment (address_of c.address) bytes in
    redialled_stays d t (with_datagram t seat true at) lives seat c (after_datagram c true at) life moment bytes past s there living waits is n.steady
    (n.begun ∙ sym (or_left (answers d life r) (is_begun c.opening) (dial_answers d c life r past st waits is))) (n.are s.seated.are) n.change

-- ---- a dial, and a seat that is dropped

no_address : (t : Seats) (receiver : Address) (other : ℕ) (e : Channel) → list_any (has_address receiver) t.channels ≡ false → channel_at t other ≡ Some e → address_of e.address ≡ address_of receiver → ⊥
no_address t receiver other e none there same = both_ways (list_any (has_address receiver) t.channels) none
    (list_any_at (has_address receiver) t.channels other None (within t.channels other e there)
    (ap (has_address receiver) there ∙ subst (λ (a : traffic.Address). same_address a (address_of receiver) ≡ true) (sym same) (same_self (address_of receiver))))

pub dial_keeps : DialKeeps
dial_keeps d t lives receiver moment seat past s free none =
    let made = made_is t seat (dialled receiver moment) (λ n. refl) s.seated.are free in
    dials_stay d t (with_channel (dialled receiver moment) t) lives seat receiver moment made.number past s made.free made.are made.change
    (λ other e there same. no_address t receiver other e none there same)

pub refused_keeps : RefusedKeeps
refused_keeps d t lives seat c past s there living =
    let drops = dropped_is t seat c there in
    let no_life : (life : Life) → lives seat ≡ Some life → ⊥ = λ life is. (let x = sym living ∙ is in cc) in (
      record {
        seated = dropped_seated d t (closed t seat) lives seat c past s.seated (are_dropped t seat c s.seated.are there) drops;
        plains = plains_dropped d t (closed t seat) lives seat c past s.seated s.plains drops (record {
          plain = λ life is plain. no_life life is;
          dial = λ life l is same dialled_is awaits. no_life l is;
        });
      },
      dropped_tells d t (closed t seat) lives seat c past drops,
    )

-- ---- dials have begun

pub begun_kept : BegunKept
begun_kept = record {
  dial = λ t receiver moment seat are free all.
      let made = made_is t seat (dialled receiver moment) (λ n. refl) are free in
      λ other c ne there waits. all other c (sym (made.change.others other ne) ∙ there) waits;
  first = λ t seat c at there but.
      let n = noted t seat c true at there in
      λ other e also waits. ⊎_elim
      (λ same. ap (λ (x : Channel). is_begun x.opening) (sym (same_Some (after_datagram c true at) e (sym n.change.there ∙ ap (channel_at (with_datagram t seat true at)) (sym (eqb-true other seat same)) ∙ also))) ∙ n.begun)
      (λ apart. but other e (eqb-false other seat apart) (sym (n.change.others other (eqb-false other seat apart)) ∙ also) waits)
      (cases_Bool (eqb other seat));
  sent = λ t seat c handshake at there all.
      let n = noted t seat c handshake at there in
      λ other e also waits. ⊎_elim
      (λ same. let e_is = same_Some (after_datagram c handshake at) e (sym n.change.there ∙ ap (channel_at (with_datagram t seat handshake at)) (sym (eqb-true other seat same)) ∙ also) in
      ap (λ (x : Channel). is_begun x.opening) (sym e_is) ∙ n.begun
      ∙ or_right handshake (is_begun c.opening) (all seat c there (sym (steady_waits c (after_datagram c handshake at) n.steady) ∙ ap is_waiting e_is ∙ waits)))
      (λ apart. all other e (sym (n.change.others other (eqb-false other seat apart)) ∙ also) waits)
      (cases_Bool (eqb other seat));
  close = λ t seat c there but.
      let drops = dropped_is t seat c there in
      λ other e also waits. let b = before_drop t (closed t seat) seat c drops other e also in
      ap (λ (x : Channel). is_begun x.opening) b.1.2 ∙ but other b.1.0 b.0 b.1.1 (ap is_waiting (sym b.1.2) ∙ waits);
}
