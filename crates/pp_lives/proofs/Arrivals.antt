-- A datagram arrives: by what it means.
use Rattle.std.proofs.Common.{◌≡◌, ◌≢◌, ◌⊎◌, inl, inr, ⊎_elim, ℕ, zero, suc, ◌<◌, ◌≤◌, max, eqb, Bool, true, false, not, ◌&&◌, ◌||◌, Option, Some, None, List, [], ◌∷◌, length, take, drop, refl, sym, ◌∙◌, ap, subst, arith}
use Rattle.std.specs.Prelude.{position, is_some, nat_lt}
use Rattle.std.specs.List.{position_or_len}
use Rattle.std.specs.Int.{w32, from_be_bytes}
use Rattle.std.proofs.lemmas.List.Quantifiers.{position-Some}
use Rattle.std.proofs.lemmas.List.Sums.{prefix_len_passes}
use Rattle.std.proofs.lemmas.Option.{same_Some}
use Rattle.std.proofs.lemmas.Bool.{cases_Bool, cases_lt, or_cases, or_parts, and_parts, and_from, and_right, both_ways, cond-true, cond-false, eqb-true, eqb-false, eq-eqb, ne_eqb, lt-ltb, le-ltb, not-true}
use Rattle.pp_terms.specs.format.Traffic as traffic
use Rattle.pp_terms.specs.format.Traffic.{Record, Received, same_address}
use Rattle.pp_terms.specs.format.Descriptor.{Descriptor}
use Rattle.pp_terms.specs.format.Options.{Options}
use Rattle.pp_terms.specs.format.Messages.{Message, Handshake, Datagram, Messages, datagram}
use Rattle.pp_traffic.specs.Past.{now, read, comes_from, is_number}
use Rattle.pp_traffic.specs.Life.{Life, begins_fitting, fits, comes_on, closes}
use Rattle.pp_traffic.proofs.Awaited.{plain_grows, plain_began}
use Rattle.pp_outside.specs.Outside.{address_of, is_same}
use Rattle.pp_outside.specs.declared.link.Address.{Address}
use Rattle.pp_channels.specs.Seats.{Seats, channel_at, changed, closed, is_begun, AreSeats, at_seat, is_source, is_found, has_remote, unreplied, after_drop, answered}
use Rattle.pp_channels.specs.declared.channel.State.TheVariants.{Proven}
use Rattle.pp_channels.specs.declared.channel.Channel.{Channel}
use Rattle.pp_lives.specs.Reading.{is_waiting}
use Rattle.pp_lives.specs.Standing.{StandsAt, Seated, Plains}
use Rattle.pp_lives.specs.Calls.{Drops, hears, replied, with_life, as_dial, opened_life, looked, TellsOne, TellsFirst}
use Rattle.pp_lives.specs.Arriving.{contents, is_shadowed_at, is_given_up}
use Rattle.pp_lives.specs.Standing.{Standing}
use Rattle.pp_lives.specs.Arrived.{Stays, GivesUp, Reads, IsHeardOn, IsOpenedBy, IsRepliedBy}
use Rattle.pp_lives.proofs.Staying.{Misses, began}
use Rattle.pp_lives.proofs.Sharing.{was_same, was_apart, dropped_same, passes_of}
use Rattle.pp_lives.proofs.Own.{stands_of, others_apart, missed_by, reads_on, heard_seated, heard_tells}
use Rattle.pp_lives.proofs.Missed.{MissesAll, missed_seated, missed_tells, zero_misses}
use Rattle.pp_lives.proofs.Closing.{dropped_seated, dropped_tells}
use Rattle.pp_lives.proofs.Sent.{same_self, same_is}
use Rattle.pp_lives.proofs.Replied.{IsReplyFor, replied_seated, replied_tells, replied_by}
use Rattle.pp_lives.proofs.Opened.{IsOpeningFor, opened_seated, opened_tells}
use Rattle.pp_lives.proofs.Edits.{steady_seated, steady_tells, steady_again, still_begun}
use Rattle.pp_lives.proofs.Plainly.{plains_missed, plains_heard, plains_replied, plains_closed, plains_shut, plains_refused, plains_dropped, IsDone, plains_steady}
use Rattle.pp_lives.proofs.PlainSends.{plains_opened}
use Rattle.pp_channels.specs.Timing.{is_greeted}
use Rattle.pp_channels.specs.Seats.{is_dialled}
use Rattle.pp_lives.proofs.Begun.{begun_changed, begun_dropped}
use Rattle.pp_lives.proofs.Edits.{steady_waits}
use Rattle.pp_lives.proofs.Changing.{changed_is, changes_then, are_changed, dropped_is, are_dropped, changed_dropped, IsMade}

-- ---- what is read of a record

pub number_read : (d : Descriptor) (r : Record) (bytes : List ℕ) → read d r ≡ datagram d.method d.chunk bytes → 4 ≤ length bytes → (read d r).channel ≡ Some (from_be_bytes w32 (take 4 bytes))
unfolding datagram
number_read d r bytes is le = ap (λ (x : Datagram). x.channel) is ∙ rw (le-ltb (length bytes) 4 le) refl

pub contents_read : (d : Descriptor) (bytes : List ℕ) → 4 ≤ length bytes → (datagram d.method d.chunk bytes).messages ≡ contents d bytes
unfolding datagram
contents_read d bytes le = rw (le-ltb (length bytes) 4 le) refl

-- ---- seats that were looked for

pub there_of : (test : Option Channel → Bool) (o : Option Channel) → test None ≡ false → test o ≡ true → (c : Channel) × (o ≡ Some c)
there_of test None none e = absurd (both_ways (test None) none e)
there_of test (Some c) none e = (c, refl)

pub none_passes : (test : Option Channel → Bool) (xs : List (Option Channel)) (k : ℕ) → test None ≡ false → position test xs ≡ None → test (at_seat xs k) ≡ false
none_passes test xs k none e = ⊎_elim
    (λ low. ⊎_elim
    (λ found. let some : position test xs ≡ Some (position_or_len test xs) =
    cond-true (nat_lt (position_or_len test xs) (length xs)) (Some (position_or_len test xs)) None (lt-ltb (position_or_len test xs) (length xs) found) in absurd cc)
    (λ past. not-true (test (at_seat xs k)) (prefix_len_passes (λ x. not (test x)) xs k None (omega arith)))
    (cases_lt (position_or_len test xs) (length xs)))
    (λ high. ap test (beyond xs k high) ∙ none)
    (cases_lt k (length xs))
  where
    beyond : (ys : List (Option Channel)) (n : ℕ) → length ys ≤ n → at_seat ys n ≡ None
    beyond [] n le = refl
    beyond (y ∷ ys) zero le = absurd (omega arith)
    beyond (y ∷ ys) (suc n) le = beyond ys n (omega arith)

-- the seat of a number and an address
pub record Found (t : Seats) (seat number : ℕ) (sender : Address) : Type 0 where
  pub channel : Channel
  pub there : channel_at t seat ≡ Some channel
  pub local : channel.local ≡ number
  pub address : address_of channel.address ≡ address_of sender

pub found_there : (t : Seats) (seat number : ℕ) (sender : Address) → position (is_found number sender) t.channels ≡ Some seat → Found t seat number sender
found_there t seat number sender e =
    let p = (position-Some (is_found number sender) t.channels seat None e).1 in
    let c = there_of (is_found number sender) (channel_at t seat) refl p in
    let parts = and_parts (eqb c.0.local number) (is_same c.0.address sender) (ap (is_found number sender) (sym c.1) ∙ p) in
    record { channel = c.0; there = c.1; local = eqb-true c.0.local number parts.0; address = same_is (address_of c.0.address) (address_of sender) parts.1 }

-- ---- nothing is read

pub stays : (d : Descriptor) (t new : Seats) (lives : ℕ → Option Life) (moment : ℕ) (sender : traffic.Address) (bytes : List ℕ) (past : List Record) → Standing d t lives past → new ≡ t
    → MissesAll d t lives (Received moment sender bytes) → Stays d (max moment (now past)) t new lives (Received moment sender bytes) past
stays d t new lives moment sender bytes past s is m =
    subst (λ (x : Seats). Stays d (max moment (now past)) t x lives (Received moment sender bytes) past) (sym is) (record {
      standing = record { seated = missed_seated d t lives moment sender bytes past s.seated m; plains = plains_missed d t lives moment sender bytes past s.plains m };
      passes = λ seat. passes_of d t t lives lives (Received moment sender bytes) past seat s.seated (λ c there. (c, there, refl)) refl (m seat);
      tells = missed_tells d t lives moment sender bytes past s.seated m;
      begun = λ b. b;
    })

-- the handshake came again
pub stays_again : (d : Descriptor) (t : Seats) (lives : ℕ → Option Life) (seat : ℕ) (c : Channel) (moment : ℕ) (sender : traffic.Address) (bytes : List ℕ) (past : List Record) → Standing d t lives past → channel_at t seat ≡ Some c
    → (read d (Received moment sender bytes)).channel ≡ Some 0
    → Stays d (max moment (now past)) t (changed t seat (λ x. record x { opening = unreplied x.opening })) lives (Received moment sender bytes) past
stays_again d t lives seat c moment sender bytes past s there number =
    let f : Channel → Channel = λ x. record x { opening = unreplied x.opening } in
    let new = changed t seat f in
    let ch = changed_is t seat c f there in
    let mid = steady_seated d t new lives seat c (f c) past s.seated there (steady_again c) (still_begun c.opening) (are_changed t seat c f s.seated.are there refl) ch in
    let m = zero_misses d new lives (Received moment sender bytes) past mid number in
    record {
      standing = record {
        seated = missed_seated d new lives moment sender bytes past mid m;
        plains = plains_missed d new lives moment sender bytes past (plains_steady d t new lives seat c (f c) past s.plains there (steady_again c) ch) m;
      };
      passes = λ other. passes_of d t new lives lives (Received moment sender bytes) past other s.seated
          (was_same t new seat other c (f c) there (sym (steady_waits c (f c) (steady_again c))) ch) refl
          (zero_misses d t lives (Received moment sender bytes) past s.seated number other);
      tells = λ other. missed_tells d new lives moment sender bytes past mid m other ∙ ap (looked (max moment (now past))) (steady_tells d t new lives seat c (f c) past there (steady_again c) ch other);
      begun = λ b. begun_changed t new seat (f c) ch (λ waits. still_begun c.opening ∙ b seat c there (sym (steady_waits c (f c) (steady_again c)) ∙ waits)) b;
    }

-- ---- a seat is dropped by what came

-- the seats, and what is read of the others
gone_seated : (d : Descriptor) (t new : Seats) (lives : ℕ → Option Life) (seat : ℕ) (c : Channel) (moment : ℕ) (sender : traffic.Address) (bytes : List ℕ) (past : List Record)
    → Standing d t lives past → Drops t new seat c → AreSeats new.channels
    → ((other : ℕ) (e : Channel) (l : Life) → other ≢ seat → channel_at t other ≡ Some e → lives other ≡ Some l → comes_on d l (Received moment sender bytes) ≡ false)
    → Plains d new lives (Received moment sender bytes ∷ past)
    → GivesUp d (max moment (now past)) seat t new lives lives (Received moment sender bytes) past
gone_seated d t new lives seat c moment sender bytes past s drops are apart plains =
    let r = Received moment sender bytes in
    let mid = dropped_seated d t new lives seat c past s.seated are drops in
    let m : MissesAll d new lives r = λ other e l also living. ⊎_elim
    (λ same. absurd (let none = sym (ap (channel_at new) (eqb-true other seat same) ∙ drops.free) ∙ also in cc))
    (λ ne. missed_by d e l r (by (channel_at t other) other e l (eqb-false other seat ne) refl (sym (drops.others other (eqb-false other seat ne)) ∙ also) living))
    (cases_Bool (eqb other seat)) in
    let ends = dropped_tells d t new lives seat c past drops in
    record {
      standing = record { seated = missed_seated d new lives moment sender bytes past mid m; plains = plains };
      free = drops.free;
      passes = λ other ne. passes_of d t new lives lives r past other s.seated (dropped_same t new seat other c drops) refl
          (λ e l also living. missed_by d e l r (apart other e l ne also living));
      own = missed_tells d new lives moment sender bytes past mid m seat ∙ ap (looked (max moment (now past))) ends.own;
      others = λ other ne. missed_tells d new lives moment sender bytes past mid m other ∙ ap (looked (max moment (now past))) (ends.others other ne);
      begun = begun_dropped t new seat c drops;
    }
  where
    by : (o : Option Channel) (other : ℕ) (e : Channel) (l : Life) → other ≢ seat → channel_at t other ≡ o → after_drop (Some c) o ≡ Some e → lives other ≡ Some l → comes_on d l (Received moment sender bytes) ≡ false
    by None other e l ne was is living = absurd cc
    by (Some x) other e l ne was is living = apart other x l ne was living

-- ---- the seat's own datagrams

pub living_of : (d : Descriptor) (t : Seats) (lives : ℕ → Option Life) (past : List Record) (seat : ℕ) (c : Channel) → Seated d t lives past → channel_at t seat ≡ Some c → (is_waiting c ≡ false) ⊎ (is_begun c.opening ≡ true)
    → (l : Life) × (lives seat ≡ Some l)
living_of d t lives past seat c s there live = by (lives seat) refl
  where
    by : (o : Option Life) → lives seat ≡ o → (l : Life) × (lives seat ≡ Some l)
    by (Some l) is = (l, is)
    by None is =
        let st = subst (λ (x : Option Life). StandsAt d (Some c) x past) is (subst (λ (o : Option Channel). StandsAt d o (lives seat) past) there (s.each seat)) in
        absurd (⊎_elim (λ known. both_ways (is_waiting c) known st.waits) (λ begun. both_ways (is_begun c.opening) st.none begun) live)

abbrev Hear : ℕ → Seats → ℕ → Seats
Hear now t seat = changed (changed t seat (λ c. record c { state = Proven })) seat (λ c. record c { heard = now })

pub heard_arrived : (d : Descriptor) (t new : Seats) (lives : ℕ → Option Life) (seat number : ℕ) (sender : Address) (moment : ℕ) (bytes : List ℕ) (past : List Record) → Standing d t lives past
    → (f : Found t seat number sender) → is_waiting f.channel ≡ false → (read d (Received moment (address_of sender) bytes)).channel ≡ Some number
    → (read d (Received moment (address_of sender) bytes)).messages ≡ contents d bytes → new ≡ Hear (max moment (now past)) t seat
    → Reads d (max moment (now past)) seat (contents d bytes).read TellsOne (IsHeardOn d t lives (Received moment (address_of sender) bytes) past seat)
    t new lives (Received moment (address_of sender) bytes) past
heard_arrived d t new lives seat number sender moment bytes past s f known number_is contents_is is =
    let r = Received moment (address_of sender) bytes in
    let n = max moment (now past) in
    let c = f.channel in
    let life = living_of d t lives past seat c s.seated f.there (inl known) in
    let st = stands_of d (channel_at t seat) (lives seat) c life.0 past (s.seated.each seat) f.there life.1 in
    let own : (read d r).channel ≡ Some c.local = number_is ∙ ap (λ (k : ℕ). Some k) (sym f.local) in
    let from : same_address (address_of sender) (address_of c.address) ≡ true = subst (λ (a : traffic.Address). same_address (address_of sender) a ≡ true) (sym f.address) (same_self (address_of sender)) in
    let one = changed_is t seat c (λ x. record x { state = Proven }) f.there in
    let u = changed t seat (λ x. record x { state = Proven }) in
    let two = changed_is u seat (record c { state = Proven }) (λ x. record x { heard = n }) one.there in
    let v = Hear n t seat in
    let ch = changes_then t u v seat _ _ one two in
    let are = are_changed u seat (record c { state = Proven }) (λ x. record x { heard = n }) (are_changed t seat c (λ x. record x { state = Proven }) s.seated.are f.there refl) one.there refl in
    let apart = others_apart d t lives past seat c r s.seated f.there own in
    let misses : (other : ℕ) (e : Channel) (l : Life) → other ≢ seat → channel_at t other ≡ Some e → lives other ≡ Some l → Misses d e l r = λ other e l ne also living. missed_by d e l r (apart other e l ne also living) in
    let gone_is = dropped_is v seat (hears n c) ch.there in
    let gone = changed_dropped t v (closed v seat) seat c (hears n c) f.there refl ch gone_is in
    let on : comes_on d life.0 r ≡ true = and_from (comes_from life.0.address r) (is_number life.0.local (read d r).channel)
    (ap (λ (a : traffic.Address). same_address (address_of sender) a) st.address ∙ from) (ap (is_number life.0.local) own ∙ eq-eqb c.local life.0.local (sym st.local)) in
    subst (λ (x : Seats). Reads d n seat (contents d bytes).read TellsOne (IsHeardOn d t lives r past seat) t x lives r past) (sym is)
    (subst (λ (m : Messages). Reads d n seat m.read TellsOne (IsHeardOn d t lives r past seat) t v lives r past) contents_is (record {
      living = lives;
      life = life.0;
      lives_there = life.1;
      is_on = record {
        there = record { channel = c; was = f.there; known = known; living = life.1; begun = began d c life.0 past st };
        on = on;
        reads = reads_on d c life.0 r past st known;
      };
      passes = λ other ne. passes_of d t v lives lives r past other s.seated (was_apart t v seat other (Some (hears n c)) ne ch) refl
          (λ e l also living. misses other e l ne also living);
      begun = begun_changed t v seat (hears n c) ch (λ waits. absurd (both_ways (is_waiting (hears n c)) (and_right (is_dialled c.opening) (is_greeted (hears n c).state) refl) waits));
      goes_on = λ open_still. record {
        seated = heard_seated d t v lives seat c life.0 moment (address_of sender) bytes past s.seated are ch f.there life.1 known own from open_still;
        plains = plains_heard d t v lives seat c n moment (address_of sender) bytes past s.plains f.there known ch misses;
      };
      tells = λ open_still. heard_tells d t v lives seat c life.0 moment (address_of sender) bytes past s.seated ch f.there life.1 known own from;
      shuts = λ shut. (
        lives,
        gone_seated d t (closed v seat) lives seat c moment (address_of sender) bytes past s gone (are_dropped v seat (hears n c) are ch.there) apart
            (plains_closed d t (closed v seat) lives seat c life.0 moment (address_of sender) bytes past s.seated s.plains gone life.1 known misses
            (and_from (comes_on d life.0 r) (closes (read d r).messages.read) on shut)),
      );
    }))

-- ---- a handshake that opens a channel

pub opened_arrived : (d : Descriptor) (t new : Seats) (lives : ℕ → Option Life) (seat source : ℕ) (sender : Address) (moment : ℕ) (bytes : List ℕ) (past : List Record) → Standing d t lives past
    → 0 < source → (read d (Received moment (address_of sender) bytes)).channel ≡ Some 0 → (read d (Received moment (address_of sender) bytes)).messages ≡ contents d bytes
    → begins_fitting d false source (contents d bytes).read ≡ true → position (is_source sender source) t.channels ≡ None
    → (made : IsMade t new seat (answered sender source (max moment (now past))))
    → Reads d (max moment (now past)) seat (drop 1 (contents d bytes).read) TellsFirst (IsOpenedBy d (Received moment (address_of sender) bytes) past)
    t new lives (Received moment (address_of sender) bytes) past
opened_arrived d t new lives seat source sender moment bytes past s some number_is contents_is fitting none made =
    let r = Received moment (address_of sender) bytes in
    let n = max moment (now past) in
    let c' = answered sender source n made.number in
    let l' = opened_life (address_of sender) made.number source (length past) in
    let lives' = with_life seat (Some l') lives in
    let opening : IsOpeningFor d t seat sender source made.number r = record {
      free = made.free;
      from = same_self (address_of sender);
      number = number_is;
      fitting = ap (λ (m : Messages). begins_fitting d false source m.read) contents_is ∙ fitting;
      some = some;
      local_some = made.some;
      new_source = λ other. none_passes (is_source sender source) t.channels other refl none;
    } in
    let misses = zero_misses d t lives r past s.seated number_is in
    let standing : Standing d new lives' (r ∷ past) = record {
      seated = opened_seated d t new lives seat sender source made.number moment bytes past s.seated opening made.are made.change;
      plains = plains_opened d t new lives seat sender source made.number n moment bytes (Some l') past s.plains made.free made.change misses;
    } in
    let tells = opened_tells d t new lives seat sender source made.number moment bytes past s.seated opening made.change in
    let gone = dropped_is new seat c' made.change.there in
    let living_there : lives' seat ≡ Some l' = cond-true (eqb seat seat) (Some l') (lives seat) (eq-eqb seat seat refl) in
    let done : IsDone d lives' seat (r ∷ past) = record {
      plain = λ life living is.
          let life_is = same_Some l' life (sym living_there ∙ living) in
          let place = ap (λ (x : Life). x.opening) life_is in
          ⊎_elim
          (λ before. let lt = plain_began d life past past before.0 in absurd (omega arith))
          (λ of_peer. both_ways life.is_dialled (sym (ap (λ (x : Life). x.is_dialled) life_is)) of_peer.0)
          ((plain_grows.received d life moment (address_of sender) bytes past).0 is).1;
      dial = λ life l living same dialled is.
          let life_is = same_Some l' l (sym living_there ∙ living) in
          both_ways life.is_dialled (ap (λ (x : Life). x.is_dialled) same ∙ sym (ap (λ (x : Life). x.is_dialled) life_is)) dialled;
    } in
    let ends = dropped_tells d new (closed new seat) lives' seat c' (r ∷ past) gone in
    let are_gone = are_dropped new seat c' made.are made.change.there in
    let living_else : (other : ℕ) → other ≢ seat → lives' other ≡ lives other = λ other ne. cond-false (eqb other seat) (Some l') (lives other) (ne_eqb other seat ne) in
    subst (λ (m : Messages). Reads d n seat (drop 1 m.read) TellsFirst (IsOpenedBy d r past) t new lives r past) contents_is (record {
      living = lives';
      life = l';
      lives_there = living_there;
      is_on = record {
        place = refl;
        answered = refl;
        opens = and_from (comes_from l'.address r && is_number 0 (read d r).channel) (begins_fitting d false source (read d r).messages.read)
            (and_from (comes_from l'.address r) (is_number 0 (read d r).channel) opening.from (ap (is_number 0) number_is)) opening.fitting;
        apart = and_right (comes_from l'.address r) (is_number l'.local (read d r).channel)
            (ap (is_number l'.local) number_is ∙ ne_eqb 0 l'.local (λ e. let some = made.some in omega arith));
      };
      passes = λ other ne. passes_of d t new lives lives' r past other s.seated (was_apart t new seat other (Some c') ne made.change) (living_else other ne)
          (misses other);
      begun = begun_changed t new seat c' made.change (λ waits. absurd (both_ways (is_waiting c') refl waits));
      goes_on = λ open_still. standing;
      tells = λ open_still. tells;
      shuts = λ shut. (
        lives',
        record {
          standing = record {
            seated = dropped_seated d new (closed new seat) lives' seat c' (r ∷ past) standing.seated are_gone gone;
            plains = plains_dropped d new (closed new seat) lives' seat c' (r ∷ past) standing.seated standing.plains gone done;
          };
          free = gone.free;
          passes = λ other ne. passes_of d t (closed new seat) lives lives' r past other s.seated
              (λ e also. let b = dropped_same new (closed new seat) seat other c' gone e also in (b.0, sym (made.change.others other ne) ∙ b.1, b.2))
              (living_else other ne) (misses other);
          own = ends.own;
          others = λ other ne. ends.others other ne ∙ tells.others other ne;
          begun = λ b. begun_dropped new (closed new seat) seat c' gone (begun_changed t new seat c' made.change (λ waits. absurd (both_ways (is_waiting c') refl waits)) b);
        },
      );
    })

-- ---- the reply to a dial

source_at : (t : Seats) (seat number source other : ℕ) (sender : Address) (f : Found t seat number sender) → is_source f.channel.address source (channel_at t other) ≡ is_source sender source (channel_at t other)
source_at t seat number source other sender f = by (channel_at t other)
  where
    by : (o : Option Channel) → is_source f.channel.address source o ≡ is_source sender source o
    by None = refl
    by (Some e) = ap (λ (a : traffic.Address). has_remote source e.remote && same_address (address_of e.address) a) f.address

pub replied_arrived : (d : Descriptor) (t : Seats) (lives : ℕ → Option Life) (seat number source : ℕ) (options : Options) (rest : List Message) (sender : Address) (moment : ℕ) (bytes : List ℕ) (past : List Record) → Standing d t lives past
    → (f : Found t seat number sender) → is_waiting f.channel ≡ true → is_begun f.channel.opening ≡ true → (read d (Received moment (address_of sender) bytes)).channel ≡ Some number
    → (read d (Received moment (address_of sender) bytes)).messages ≡ contents d bytes → (contents d bytes).read ≡ Handshake source options ∷ rest
    → fits d true options ≡ true → is_given_up t seat sender source ≡ false
    → Reads d (max moment (now past)) seat (contents d bytes).read TellsFirst (IsRepliedBy d (Received moment (address_of sender) bytes) past) t
    (changed (changed t seat (λ c. record c { remote = Some source; state = Proven })) seat (λ c. record c { heard = max moment (now past) })) lives (Received moment (address_of sender) bytes) past
replied_arrived d t lives seat number source options rest sender moment bytes past s f waits live number_is contents_is first fit given =
    let r = Received moment (address_of sender) bytes in
    let n = max moment (now past) in
    let c = f.channel in
    let c' = replied source n c in
    let life = living_of d t lives past seat c s.seated f.there (inr live) in
    let st = stands_of d (channel_at t seat) (lives seat) c life.0 past (s.seated.each seat) f.there life.1 in
    let own : (read d r).channel ≡ Some c.local = number_is ∙ ap (λ (k : ℕ). Some k) (sym f.local) in
    let from : same_address (address_of sender) (address_of c.address) ≡ true = subst (λ (a : traffic.Address). same_address (address_of sender) a ≡ true) (sym f.address) (same_self (address_of sender)) in
    let outer = or_parts (eqb source 0 || is_some (position (is_source sender source) t.channels)) (is_shadowed_at (channel_at t seat)) given in
    let inner = or_parts (eqb source 0) (is_some (position (is_source sender source) t.channels)) outer.0 in
    let not_zero = eqb-false source 0 inner.0 in
    let f1 : Channel → Channel = λ x. record x { remote = Some source; state = Proven } in
    let f2 : Channel → Channel = λ x. record x { heard = n } in
    let one = changed_is t seat c f1 f.there in
    let u = changed t seat f1 in
    let two = changed_is u seat (f1 c) f2 one.there in
    let v = changed u seat f2 in
    let ch = changes_then t u v seat _ _ one two in
    let are = are_changed u seat (f1 c) f2 (are_changed t seat c f1 s.seated.are f.there refl) one.there refl in
    let read_is : (read d r).messages.read ≡ Handshake source options ∷ rest = ap (λ (m : Messages). m.read) contents_is ∙ first in
    let fitting : begins_fitting d true source (read d r).messages.read ≡ true = ap (begins_fitting d true source) read_is ∙ and_from (eqb source source) (fits d true options) (eq-eqb source source refl) fit in
    let is : IsReplyFor d t seat c source r = record {
      there = f.there;
      waits = waits;
      from = from;
      number = own;
      fitting = fitting;
      some = omega arith;
      unshadowed = ap is_shadowed_at (sym f.there) ∙ outer.1;
      new_source = λ other. source_at t seat number source other sender f
          ∙ none_passes (is_source sender source) t.channels other refl (none_of (position (is_source sender source) t.channels) inner.1);
    } in
    let apart = others_apart d t lives past seat c r s.seated f.there own in
    let misses : (other : ℕ) (e : Channel) (l : Life) → other ≢ seat → channel_at t other ≡ Some e → lives other ≡ Some l → Misses d e l r = λ other e l ne also living. missed_by d e l r (apart other e l ne also living) in
    let lives' = with_life seat (Some (as_dial life.0 source)) lives in
    let gone_is = dropped_is v seat c' ch.there in
    let gone = changed_dropped t v (closed v seat) seat c c' f.there refl ch gone_is in
    let given_up = gone_seated d t (closed v seat) lives seat c moment (address_of sender) bytes past s gone (are_dropped v seat c' are ch.there) apart in
    let living_else : (other : ℕ) → other ≢ seat → lives' other ≡ lives other =
    λ other ne. cond-false (eqb other seat) (Some (as_dial life.0 source)) (lives other) (ne_eqb other seat ne) in
    subst (λ (m : Messages). Reads d n seat m.read TellsFirst (IsRepliedBy d r past) t v lives r past) contents_is (record {
      living = lives';
      life = as_dial life.0 source;
      lives_there = cond-true (eqb seat seat) (Some (as_dial life.0 source)) (lives seat) (eq-eqb seat seat refl);
      is_on = replied_by d t lives seat c life.0 source r past s.seated is life.1;
      passes = λ other ne. passes_of d t v lives lives' r past other s.seated (was_apart t v seat other (Some c') ne ch) (living_else other ne)
          (λ e l also living. misses other e l ne also living);
      begun = begun_changed t v seat c' ch (λ w. absurd (both_ways (is_waiting c') (and_right (is_dialled c.opening) (is_greeted c'.state) refl) w));
      goes_on = λ open_still. record {
        seated = replied_seated d t v lives seat c life.0 source moment (address_of sender) bytes past s.seated is life.1 are ch open_still;
        plains = plains_replied d t v lives seat c life.0 source n moment (address_of sender) bytes past s.plains is life.1 st.address ch misses;
      };
      tells = λ open_still. replied_tells d t v lives seat c life.0 source moment (address_of sender) bytes past s.seated is life.1 ch;
      shuts = λ shut. (lives, given_up (plains_shut d t (closed v seat) lives seat c life.0 moment (address_of sender) bytes past s.seated s.plains gone life.1 waits from misses shut));
    })
  where
    none_of : (o : Option ℕ) → is_some o ≡ false → o ≡ None
    none_of None e = refl
    none_of (Some k) e = absurd cc

-- a handshake on a channel that waits, which drops it
pub refused_arrived : (d : Descriptor) (t new : Seats) (lives : ℕ → Option Life) (seat number source : ℕ) (options : Options) (rest : List Message) (sender : Address) (moment : ℕ) (bytes : List ℕ) (past : List Record) → Standing d t lives past
    → (f : Found t seat number sender) → is_waiting f.channel ≡ true → is_begun f.channel.opening ≡ true → (read d (Received moment (address_of sender) bytes)).channel ≡ Some number
    → (read d (Received moment (address_of sender) bytes)).messages ≡ contents d bytes → (contents d bytes).read ≡ Handshake source options ∷ rest
    → (fits d true options ≡ false) ⊎ (is_given_up t seat sender source ≡ true) → new ≡ closed t seat
    → GivesUp d (max moment (now past)) seat t new lives lives (Received moment (address_of sender) bytes) past
refused_arrived d t new lives seat number source options rest sender moment bytes past s f waits live number_is contents_is first why is =
    let r = Received moment (address_of sender) bytes in
    let c = f.channel in
    let life = living_of d t lives past seat c s.seated f.there (inr live) in
    let own : (read d r).channel ≡ Some c.local = number_is ∙ ap (λ (k : ℕ). Some k) (sym f.local) in
    let from : same_address (address_of sender) (address_of c.address) ≡ true = subst (λ (a : traffic.Address). same_address (address_of sender) a ≡ true) (sym f.address) (same_self (address_of sender)) in
    let apart = others_apart d t lives past seat c r s.seated f.there own in
    let misses : (other : ℕ) (e : Channel) (l : Life) → other ≢ seat → channel_at t other ≡ Some e → lives other ≡ Some l → Misses d e l r = λ other e l ne also living. missed_by d e l r (apart other e l ne also living) in
    let read_is : (read d r).messages.read ≡ Handshake source options ∷ rest = ap (λ (m : Messages). m.read) contents_is ∙ first in
    let gone = dropped_is t seat c f.there in
    subst (λ (x : Seats). GivesUp d (max moment (now past)) seat t x lives lives r past) (sym is)
    (gone_seated d t (closed t seat) lives seat c moment (address_of sender) bytes past s gone (are_dropped t seat c s.seated.are f.there) apart
    (plains_refused d t (closed t seat) lives seat c life.0 moment (address_of sender) bytes past s.seated s.plains gone life.1 waits from misses
    (λ remote some fitting.
    let parts = and_parts (eqb source remote) (fits d true options) (ap (begins_fitting d true remote) (sym read_is) ∙ fitting) in
    let same : source ≡ remote = eqb-true source remote parts.0 in
    ⊎_elim
    (λ differs. absurd (both_ways (fits d true options) differs parts.1))
    (λ given. ⊎_elim
    (λ first_two. ⊎_elim
    (λ zero_is. absurd (let z = eqb-true source 0 zero_is in omega arith))
    (λ used. inr (source_there (position (is_source sender source) t.channels) refl used remote same))
    (or_cases (eqb source 0) (is_some (position (is_source sender source) t.channels)) first_two))
    (λ shadowed. inl (ap is_shadowed_at (sym f.there) ∙ shadowed))
    (or_cases (eqb source 0 || is_some (position (is_source sender source) t.channels)) (is_shadowed_at (channel_at t seat)) given))
    why)))
  where
    source_there : (o : Option ℕ) → position (is_source sender source) t.channels ≡ o → is_some o ≡ true → (remote : ℕ) → source ≡ remote → (other : ℕ) × (is_source f.channel.address remote (channel_at t other) ≡ true)
    source_there None is e remote same = absurd cc
    source_there (Some k) is e remote same =
        let p = (position-Some (is_source sender source) t.channels k None is).1 in
        (k, subst (λ (n : ℕ). is_source f.channel.address n (channel_at t k) ≡ true) same (source_at t seat number source k sender f ∙ p))
