-- Handshakes that were sent, and channels that begin or end with them.
use Rattle.std.proofs.Common.{◌≡◌, ◌≢◌, ⊎_elim, inr, ℕ, ◌<◌, eqb, Bool, true, false, cond, ◌&&◌, Option, Some, None, List, [], ◌∷◌, ◌++◌, length, refl, sym, ◌∙◌, ap, subst, arith}
use Rattle.std.specs.Prelude.{unwrap_or, position, option_map, MatchOption}
use Rattle.std.specs.List.{slice_get, list_any}
use Rattle.std.proofs.lemmas.Bool.{cases_Bool, both_ways, eqb-true, eqb-false, eq-eqb, ne_eqb, cond-false}
use Rattle.std.proofs.lemmas.List.Quantifiers.{position-Some}
use Rattle.std.proofs.lemmas.Option.{same_Some}
use Rattle.pp_terms.specs.format.Traffic as traffic
use Rattle.pp_terms.specs.format.Traffic.{Record, Sent, LinkState, same_address}
use Rattle.pp_terms.specs.format.Descriptor.{Descriptor}
use Rattle.pp_terms.specs.format.Options.{Options}
use Rattle.pp_terms.specs.format.Messages as plain
use Rattle.pp_terms.specs.format.Messages.{Message, Handshake}
use Rattle.pp_outside.specs.Outside.{address_of}
use Rattle.pp_outside.specs.declared.link.Address.{Address}
use Rattle.pp_traffic.specs.Past.{now, read, is_number}
use Rattle.pp_traffic.specs.Life.{Life, begins_as}
use Rattle.pp_traffic.proofs.Sending.{sent_is_said}
use Rattle.pp_channels.specs.Seats.{Seats, channel_at, changed, closed, dialled, free_seat, has_address, with_channel, with_handshake}
use Rattle.pp_channels.specs.Timing.{is_over}
use Rattle.pp_channels.specs.declared.channel.Channel.{Channel}
use Rattle.pp_lives.specs.Reading.{is_waiting}
use Rattle.pp_lives.specs.Fars.{far_of, greeting_of}
use Rattle.pp_lives.specs.declared.lives.Far.{Far}
use Rattle.pp_lives.specs.declared.lives.Greeting.{Greeting}
use Rattle.pp_lives.proofs.Arrivals.{living_of}
use Rattle.pp_draft.specs.Datagrams.{IsDatagram}
use Rattle.pp_draft.specs.Notes.{own_options, no_options}
use Rattle.pp_draft.specs.Posts.{Sends}
use Rattle.pp_lives.specs.Calls.{Changes, IsDialOf, with_life}
use Rattle.pp_lives.specs.Sending.{with_datagram}
use Rattle.pp_lives.proofs.Changing.{changed_is, changes_then, dropped_is, made_is}
use Rattle.pp_lives.proofs.Closing.{before_drop}
use Rattle.pp_lives.proofs.Edits.{still_opened}
use Rattle.pp_lives.proofs.Kept.{sent_keeps, first_keeps, again_keeps, dial_keeps, refused_keeps, begun_kept}
use Rattle.pp_lives.proofs.Begun.{begun_dropped}
use Rattle.pp_lives.proofs.Own.{stands_of}
use Rattle.pp_lives.proofs.Sent.{same_self}
use Rattle.pp_lives.proofs.Staying.{began}
use Rattle.pp_lives.proofs.Wholes.{expired_stays}
use Rattle.pp_seat.specs.Awaited.{AllPassSaid}
use Rattle.pp_seat.specs.Laws.{AreIdleSaid}
use Rattle.pp_seat.proofs.Passing.{idle_says}
use Rattle.pp_seats.specs.Standing.{SeatsState, Setting, IsFollowed, StandsFor, at_seat}
use Rattle.pp_seats.specs.Greeting.{Greets, IsGreeted, Parts, IsParted, Dials, Ends, EndsNone}
use Rattle.pp_seats.proofs.Outgoing.{IsFar, far_is, unsaid_followed, unsaid_there, knows_of}
use Rattle.pp_seats.proofs.Launching.{own_said}

-- ---- a datagram was noted, whether it began with a handshake or didn't

pub record IsMarked (t new : Seats) (k : ℕ) (c : Channel) : Type 0 where
  pub channel : Channel
  pub change : Changes t new k (Some channel)
  pub waits : is_waiting channel ≡ is_waiting c

pub marked_sent : (t : Seats) (k : ℕ) (c : Channel) (handshake : Bool) (at : ℕ) → channel_at t k ≡ Some c → IsMarked t (with_datagram t k handshake at) k c
marked_sent t k c false at there = record { channel = record c { wrote = at }; change = changed_is t k c (λ x. record x { wrote = at }) there; waits = refl }
marked_sent t k c true at there =
    let f : Channel → Channel = λ x. record x { wrote = at } in
    let g : Channel → Channel = λ x. record x { opening = with_handshake x.opening } in
    let one = changed_is t k c f there in
    record {
      channel = g (f c);
      change = changes_then t (changed t k f) (changed (changed t k f) k g) k _ _ one (changed_is (changed t k f) k (f c) g one.there);
      waits = ap (λ (b : Bool). b && Rattle.pp_channels.specs.Timing.is_greeted c.state) (still_opened c.opening);
    }

-- ---- on a channel whose peer's number is known

pub greeted_known : (x : Setting) (most : ℕ) (p : SeatsState) (k : ℕ) (c : Channel) (m : Message) (handshake : Bool) (moment : ℕ) (bytes : List ℕ) (past : List Record)
    → let r = Sent moment (address_of c.address) bytes in (h : StandsFor x most p past) → channel_at p.table k ≡ Some c → is_waiting c ≡ false
    → (read x.d r).channel ≡ Some (unwrap_or c.remote 0) → (read x.d r).messages.read ≡ m ∷ []
    → ((number : ℕ) → 0 < number → begins_as number (m ∷ []) ≡ true → number ≡ c.local) → handshake ≡ begins_as c.local (m ∷ [])
    → AreIdleSaid (m ∷ []) → AllPassSaid (m ∷ []) → StandsFor x most (record p { table = with_datagram p.table k handshake p.moment }) (r ∷ past)
greeted_known x most p k c m handshake moment bytes past h there known channel messages own flag idle pass =
    let r = Sent moment (address_of c.address) bytes in
    let t = p.table in
    let ms : List Message = m ∷ [] in
    let new = with_datagram t k handshake p.moment in
    let knows = knows_of x most p k c past h there known in
    let life = knows.0 in
    let number : (read x.d r).channel ≡ Some life.remote = channel ∙ ap (λ (n : ℕ). Some n) knows.2.number in
    let keeps = sent_keeps x.d t h.lives k c life handshake p.moment moment bytes past h.standing there knows.1 known number
    (λ n some is. own n some (ap (begins_as n) (sym messages) ∙ is)) (flag ∙ ap (begins_as c.local) (sym messages)) in
    let marked = marked_sent t k c handshake p.moment there in
    let goes : same_address (address_of c.address) life.address ≡ true = subst (λ (a : traffic.Address). same_address (address_of c.address) a ≡ true) (sym knows.2.address) (same_self (address_of c.address)) in
    let said_is = sent_is_said.own x.d life moment (address_of c.address) bytes goes (ap (is_number life.remote) number ∙ eq-eqb life.remote life.remote refl) ∙ messages in
    record {
      swarm = h.swarm;
      now_is = h.now_is;
      lives = h.lives;
      standing = keeps.0;
      begun = begun_kept.sent t k c handshake p.moment there h.begun;
      follow = λ n e l s at unwaits living has. ⊎_elim
          (λ here.
          let n_is = eqb-true n k here in
          let l_is : life ≡ l = same_Some life l (sym knows.1 ∙ ap h.lives (sym n_is) ∙ living) in
          let seated : slice_get p.seats k ≡ Some s = ap (slice_get p.seats) (sym n_is) ∙ has in
          subst (λ (j : ℕ). IsFollowed (at_seat x j) most s l (r ∷ past)) (sym n_is)
          (subst (λ (y : Life). IsFollowed (at_seat x k) most s y (r ∷ past)) l_is
          (own_said (at_seat x k) most s s life moment (address_of c.address) bytes ms past (h.follow k c life s there known knows.1 seated) knows.2.began said_is (idle_says (now past) ms s idle) pass refl)))
          (λ apart.
          let ne = eqb-false n k apart in
          let before = sym (marked.change.others n ne) ∙ at in
          let st = stands_of x.d (channel_at t n) (h.lives n) e l past (h.standing.seated.each n) before living in
          unsaid_followed (at_seat x n) most s l moment (address_of c.address) bytes past (h.follow n e l s before unwaits living has) (began x.d e l past st)
          (unsaid_there x.d t new h.lives h.lives n e l moment (address_of c.address) bytes past h.standing before unwaits living at living (keeps.1.others n ne)))
          (cases_Bool (eqb n k));
    }

-- ---- on a dial that awaits its reply

pub greeted_again : (x : Setting) (most : ℕ) (p : SeatsState) (k : ℕ) (c : Channel) (life : Life) (moment : ℕ) (bytes : List ℕ) (past : List Record)
    → let r = Sent moment (address_of c.address) bytes in (h : StandsFor x most p past) → channel_at p.table k ≡ Some c → is_waiting c ≡ true → h.lives k ≡ Some life → IsDialOf x.d c r
    → StandsFor x most (record p { table = with_datagram p.table k true p.moment }) (r ∷ past)
greeted_again x most p k c life moment bytes past h there waits living is =
    let r = Sent moment (address_of c.address) bytes in
    let t = p.table in
    let new = with_datagram t k true p.moment in
    let keeps = again_keeps x.d t h.lives k c life p.moment moment bytes past h.standing there living waits is in
    let marked = marked_sent t k c true p.moment there in
    record {
      swarm = h.swarm;
      now_is = h.now_is;
      lives = h.lives;
      standing = keeps.0;
      begun = begun_kept.sent t k c true p.moment there h.begun;
      follow = λ n e l s at unwaits lives_there has. ⊎_elim
          (λ here. absurd (both_ways (is_waiting e) unwaits
          (ap is_waiting (sym (same_Some marked.channel e (sym marked.change.there ∙ ap (channel_at new) (sym (eqb-true n k here)) ∙ at))) ∙ marked.waits ∙ waits)))
          (λ apart.
          let ne = eqb-false n k apart in
          let before = sym (marked.change.others n ne) ∙ at in
          let st = stands_of x.d (channel_at t n) (h.lives n) e l past (h.standing.seated.each n) before lives_there in
          unsaid_followed (at_seat x n) most s l moment (address_of c.address) bytes past (h.follow n e l s before unwaits lives_there has) (began x.d e l past st)
          (unsaid_there x.d t new h.lives h.lives n e l moment (address_of c.address) bytes past h.standing before unwaits lives_there at lives_there (keeps.1 n)))
          (cases_Bool (eqb n k));
    }

-- ---- a channel whose time is over

pub ended : (x : Setting) (most : ℕ) (p : SeatsState) (k : ℕ) (past : List Record) → StandsFor x most p past → position (is_over p.moment) p.table.channels ≡ Some k
    → StandsFor x most (record p { table = closed p.table k }) past
ended x most p k past h over =
    let t = p.table in
    let found = (position-Some (is_over p.moment) t.channels k None over).1 in
    let c = there_of (channel_at t k) found in
    let drops = dropped_is t k c.0 c.1 in
    let stays = expired_stays x.d t h.lives k c.0 past h.standing c.1
    (subst (λ (n : ℕ). is_over n (Some c.0) ≡ true) h.now_is (ap (is_over p.moment) (sym c.1) ∙ found)) in
    record {
      swarm = h.swarm;
      now_is = h.now_is;
      lives = h.lives;
      standing = stays.0;
      begun = begun_dropped t (closed t k) k c.0 drops h.begun;
      follow = λ n e l s at unwaits living has.
          let b = before_drop t (closed t k) k c.0 drops n e at in
          h.follow n b.1.0 l s b.1.1 (ap is_waiting (sym b.1.2) ∙ unwaits) living has;
    }
  where
    there_of : (o : Option Channel) → is_over p.moment o ≡ true → (c : Channel) × (o ≡ Some c)
    there_of None e = absurd cc
    there_of (Some c) e = (c, refl)

-- ---- a dial

-- with a channel more, and with that one's first handshake
pub dialled_sent : (x : Setting) (most : ℕ) (p : SeatsState) (k : ℕ) (to : Address) (source moment : ℕ) (options : Options) (bytes : List ℕ) (past : List Record)
    → let r = Sent moment (address_of to) bytes in StandsFor x most p past → free_seat p.table ≡ Some k → list_any (has_address to) p.table.channels ≡ false
    → channel_at (with_channel (dialled to p.moment) p.table) k ≡ Some (dialled to p.moment source)
    → (read x.d r).channel ≡ Some 0 → (read x.d r).messages.read ≡ Handshake source options ∷ []
    → StandsFor x most (record p { table = with_datagram (with_channel (dialled to p.moment) p.table) k true p.moment }) (r ∷ past)
dialled_sent x most p k to source moment options bytes past h free none there channel messages =
    let r = Sent moment (address_of to) bytes in
    let c = dialled to p.moment source in
    let t = with_channel (dialled to p.moment) p.table in
    let made = made_is p.table k (dialled to p.moment) (λ n. refl) h.standing.seated.are free in
    let one = dial_keeps x.d p.table h.lives to p.moment k past h.standing free none in
    let is : IsDialOf x.d c r = record { to = same_self (address_of to); number = channel; options = options; alone = messages } in
    let unlived : with_life k None h.lives k ≡ None = ap (λ (b : Bool). cond b None (h.lives k)) (eq-eqb k k refl) in
    let two = first_keeps x.d t (with_life k None h.lives) k c p.moment moment bytes past one there unlived refl h.now_is is in
    let marked = marked_sent t k c true p.moment there in
    let life : Life = record { address = address_of to; local = source; remote = 0; is_dialled = true; opening = length past } in
    let lives : ℕ → Option Life = with_life k (Some life) (with_life k None h.lives) in
    let lives_else : (n : ℕ) → n ≢ k → lives n ≡ h.lives n = λ n ne.
    cond-false (eqb n k) (Some life) (with_life k None h.lives n) (ne_eqb n k ne) ∙ cond-false (eqb n k) None (h.lives n) (ne_eqb n k ne) in
    record {
      swarm = h.swarm;
      now_is = h.now_is;
      lives = lives;
      standing = two.0;
      begun = begun_kept.first t k c p.moment there (begun_kept.dial p.table to p.moment k h.standing.seated.are free h.begun);
      follow = λ n e l s at unwaits living has. ⊎_elim
          (λ here. absurd (both_ways (is_waiting e) unwaits
          (ap is_waiting (sym (same_Some marked.channel e (sym marked.change.there ∙ ap (channel_at (with_datagram t k true p.moment)) (sym (eqb-true n k here)) ∙ at))) ∙ marked.waits)))
          (λ apart.
          let ne = eqb-false n k apart in
          let mid = sym (marked.change.others n ne) ∙ at in
          let before = sym (made.change.others n ne) ∙ mid in
          let lived : h.lives n ≡ Some l = sym (lives_else n ne) ∙ living in
          let lived_mid : with_life k None h.lives n ≡ Some l = cond-false (eqb n k) None (h.lives n) (ne_eqb n k ne) ∙ lived in
          let st = stands_of x.d (channel_at p.table n) (h.lives n) e l past (h.standing.seated.each n) before lived in
          unsaid_followed (at_seat x n) most s l moment (address_of to) bytes past (h.follow n e l s before unwaits lived has) (began x.d e l past st)
          (unsaid_there x.d t (with_datagram t k true p.moment) (with_life k None h.lives) lives n e l moment (address_of to) bytes past one mid unwaits lived_mid at living (two.1 n)))
          (cases_Bool (eqb n k));
    }

-- the link refused the handshake
pub dialled_refused : (x : Setting) (most : ℕ) (p : SeatsState) (k : ℕ) (to : Address) (source : ℕ) (past : List Record) → StandsFor x most p past → free_seat p.table ≡ Some k
    → list_any (has_address to) p.table.channels ≡ false → channel_at (with_channel (dialled to p.moment) p.table) k ≡ Some (dialled to p.moment source)
    → StandsFor x most (record p { table = closed (with_channel (dialled to p.moment) p.table) k }) past
dialled_refused x most p k to source past h free none there =
    let c = dialled to p.moment source in
    let t = with_channel (dialled to p.moment) p.table in
    let made = made_is p.table k (dialled to p.moment) (λ n. refl) h.standing.seated.are free in
    let one = dial_keeps x.d p.table h.lives to p.moment k past h.standing free none in
    let unlived : with_life k None h.lives k ≡ None = ap (λ (b : Bool). cond b None (h.lives k)) (eq-eqb k k refl) in
    let two = refused_keeps x.d t (with_life k None h.lives) k c past one there unlived in
    let drops = dropped_is t k c there in
    record {
      swarm = h.swarm;
      now_is = h.now_is;
      lives = with_life k None h.lives;
      standing = two.0;
      begun = begun_kept.close t k c there (begun_kept.dial p.table to p.moment k h.standing.seated.are free h.begun);
      follow = λ n e l s at unwaits living has.
          let b = before_drop t (closed t k) k c drops n e at in
          let before = sym (made.change.others n b.0) ∙ b.1.1 in
          h.follow n b.1.0 l s before (ap is_waiting (sym b.1.2) ∙ unwaits) (sym (cond-false (eqb n k) None (h.lives n) (ne_eqb n k b.0)) ∙ living) has;
    }

-- ---- in the words of the calls

-- the channel of a greeting
record IsGreeting (o : Option Channel) (greeting : Greeting) : Type 0 where
  channel : Channel
  there : o ≡ Some channel
  is : record { source = channel.local; address = channel.address; number = cond (is_waiting channel) 0 (unwrap_or channel.remote 0) } ≡ greeting

greeting_is : (o : Option Channel) (greeting : Greeting) → greeting_of o ≡ Some greeting → IsGreeting o greeting
greeting_is None greeting e = absurd cc
greeting_is (Some c) greeting e = record {
  channel = c;
  there = refl;
  is = same_Some (record { source = c.local; address = c.address; number = cond (is_waiting c) 0 (unwrap_or c.remote 0) }) greeting e;
}

handshake_stands : (x : Setting) (most : ℕ) (p : SeatsState) (k : ℕ) (c : Channel) (options : Options) (moment : ℕ) (bytes : List ℕ) (past : List Record)
    → let r = Sent moment (address_of c.address) bytes in StandsFor x most p past → channel_at p.table k ≡ Some c
    → (read x.d r).channel ≡ Some (cond (is_waiting c) 0 (unwrap_or c.remote 0)) → (read x.d r).messages.read ≡ Handshake c.local options ∷ []
    → StandsFor x most (record p { table = with_datagram p.table k true p.moment }) (r ∷ past)
handshake_stands x most p k c options moment bytes past h there channel messages = ⊎_elim
    (λ waits.
    let living = living_of x.d p.table h.lives past k c h.standing.seated there (inr (h.begun k c there waits)) in
    greeted_again x most p k c living.0 moment bytes past h there waits living.1
    (record { to = same_self (address_of c.address); number = channel ∙ ap (λ (b : Bool). Some (cond b 0 (unwrap_or c.remote 0))) waits; options = options; alone = messages }))
    (λ known. greeted_known x most p k c (Handshake c.local options) true moment bytes past h there known
    (channel ∙ ap (λ (b : Bool). Some (cond b 0 (unwrap_or c.remote 0))) known) messages
    (λ number some is. sym (eqb-true c.local number is)) (sym (eq-eqb c.local c.local refl)) (tt, tt) (tt, tt))
    (cases_Bool (is_waiting c))

pub greets : (p q : SeatsState) (k moment : ℕ) (greeting : Greeting) (bytes : List ℕ) (link later : LinkState) → greeting_of (channel_at p.table k) ≡ Some greeting
    → IsDatagram p.descriptor greeting.number (Handshake greeting.source (own_options p.descriptor) ∷ []) bytes → Sends (address_of greeting.address) bytes moment link later true
    → q ≡ record p { table = with_datagram p.table k true p.moment } → Greets k moment p q link later
greets p q k moment greeting bytes link later is_greeting written sends is = record {
  greeting = greeting;
  is_greeting = is_greeting;
  bytes = bytes;
  written = written;
  sends = sends;
  is = is;
  stands = λ x most past h. subst (λ (o : SeatsState). StandsFor x most o (Sent moment (address_of greeting.address) bytes ∷ past)) (sym is)
      (subst (λ (y : Greeting). IsDatagram p.descriptor y.number (Handshake y.source (own_options p.descriptor) ∷ []) bytes
      → StandsFor x most (record p { table = with_datagram p.table k true p.moment }) (Sent moment (address_of y.address) bytes ∷ past)) g.is
      (subst (λ (d : Descriptor). IsDatagram d (cond (is_waiting g.channel) 0 (unwrap_or g.channel.remote 0)) (Handshake g.channel.local (own_options p.descriptor) ∷ []) bytes
      → StandsFor x most (record p { table = with_datagram p.table k true p.moment }) (Sent moment (address_of g.channel.address) bytes ∷ past)) (sym h.swarm)
      (λ w. handshake_stands x most p k g.channel (own_options p.descriptor) moment bytes past h g.there
      (ap (λ (y : plain.Datagram). y.channel) w.read) (ap (λ (y : plain.Datagram). y.messages.read) w.read)))
      written);
}
  where
    g : IsGreeting (channel_at p.table k) greeting
    g = greeting_is (channel_at p.table k) greeting is_greeting

-- a closing handshake
close_stands : (x : Setting) (most : ℕ) (p : SeatsState) (k : ℕ) (c : Channel) (options : Options) (moment : ℕ) (bytes : List ℕ) (past : List Record)
    → let r = Sent moment (address_of c.address) bytes in StandsFor x most p past → channel_at p.table k ≡ Some c → is_waiting c ≡ false
    → (read x.d r).channel ≡ Some (unwrap_or c.remote 0) → (read x.d r).messages.read ≡ Handshake 0 options ∷ []
    → StandsFor x most (record p { table = with_datagram p.table k false p.moment }) (r ∷ past)
close_stands x most p k c options moment bytes past h there known channel messages =
    let knows = knows_of x most p k c past h there known in
    let st = stands_of x.d (channel_at p.table k) (h.lives k) c knows.0 past (h.standing.seated.each k) there knows.1 in
    greeted_known x most p k c (Handshake 0 options) false moment bytes past h there known channel messages
    (λ number some is. absurd (let zero_is = eqb-true 0 number is in omega (arith, some, zero_is)))
    (sym (ne_eqb 0 c.local (λ e. omega (arith, st.local_some, st.local, e)))) (tt, tt) (tt, tt)

pub parts : (p q : SeatsState) (k moment : ℕ) (far : Far) (bytes : List ℕ) (link later : LinkState) → far_of (channel_at p.table k) ≡ Some far → far.proven ≡ true
    → IsDatagram p.descriptor far.number (Handshake 0 no_options ∷ []) bytes → Sends (address_of far.address) bytes moment link later true
    → q ≡ record p { table = with_datagram p.table k false p.moment } → Parts k moment p q link later
parts p q k moment far bytes link later is_far proven written sends is = record {
  far = far;
  is_far = is_far;
  proven = proven;
  bytes = bytes;
  written = written;
  sends = sends;
  is = is;
  stands = λ x most past h. subst (λ (o : SeatsState). StandsFor x most o (Sent moment (address_of far.address) bytes ∷ past)) (sym is)
      (subst (λ (y : Far). IsDatagram p.descriptor y.number (Handshake 0 no_options ∷ []) bytes
      → StandsFor x most (record p { table = with_datagram p.table k false p.moment }) (Sent moment (address_of y.address) bytes ∷ past)) (sym f.is)
      (subst (λ (d : Descriptor). IsDatagram d (unwrap_or f.channel.remote 0) (Handshake 0 no_options ∷ []) bytes
      → StandsFor x most (record p { table = with_datagram p.table k false p.moment }) (Sent moment (address_of f.channel.address) bytes ∷ past)) (sym h.swarm)
      (λ w. close_stands x most p k f.channel no_options moment bytes past h f.there f.known
      (ap (λ (y : plain.Datagram). y.channel) w.read) (ap (λ (y : plain.Datagram). y.messages.read) w.read)))
      written);
}
  where
    f : IsFar (channel_at p.table k) far
    f = far_is (channel_at p.table k) far is_far

-- the number of a channel that was dialled
dial_there : (o : Option Channel) (make : ℕ → Channel) (number source : ℕ) → o ≡ Some (make number) → Some source ≡ option_map (λ c. c.local) o → ((n : ℕ) → (make n).local ≡ n) → o ≡ Some (make source)
dial_there o make number source there is local =
    there ∙ ap (λ (n : ℕ). Some (make n)) (sym (same_Some source number (is ∙ ap (option_map (λ (c : Channel). c.local)) there ∙ ap (λ (n : ℕ). Some n) (local number))))

pub dials : (p q : SeatsState) (k : ℕ) (to : Address) (source moment : ℕ) (sent : Bool) (bytes : List ℕ) (link later : LinkState) → free_seat p.table ≡ Some k
    → list_any (has_address to) p.table.channels ≡ false → Some source ≡ option_map (λ c. c.local) (channel_at (with_channel (dialled to p.moment) p.table) k)
    → IsDatagram p.descriptor 0 (Handshake source (own_options p.descriptor) ∷ []) bytes → Sends (address_of to) bytes moment link later sent
    → q ≡ record p { table = cond sent (with_datagram (with_channel (dialled to p.moment) p.table) k true p.moment) (closed (with_channel (dialled to p.moment) p.table) k) }
    → Dials to moment sent p q link later
dials p q k to source moment sent bytes link later free none number written sends is = record {
  seat = k;
  free = free;
  none = none;
  source = source;
  local = sym number;
  bytes = bytes;
  written = written;
  sends = sends;
  is = is;
  stands = λ x most past h. subst (λ (o : SeatsState). StandsFor x most o (cond sent (Sent moment (address_of to) bytes ∷ []) [] ++ past)) (sym is) (by sent x most past h);
}
  where
    there : (x : Setting) (most : ℕ) (past : List Record) → StandsFor x most p past
        → channel_at (with_channel (dialled to p.moment) p.table) k ≡ Some (dialled to p.moment source)
    there x most past h = let made = made_is p.table k (dialled to p.moment) (λ n. refl) h.standing.seated.are free in
        dial_there (channel_at (with_channel (dialled to p.moment) p.table) k) (dialled to p.moment) made.number source made.change.there number (λ n. refl)

    by : (b : Bool) (x : Setting) (most : ℕ) (past : List Record) → StandsFor x most p past
        → StandsFor x most (record p { table = cond b (with_datagram (with_channel (dialled to p.moment) p.table) k true p.moment) (closed (with_channel (dialled to p.moment) p.table) k) })
        (cond b (Sent moment (address_of to) bytes ∷ []) [] ++ past)
    by true x most past h =
        subst (λ (d : Descriptor). IsDatagram d 0 (Handshake source (own_options p.descriptor) ∷ []) bytes
        → StandsFor x most (record p { table = with_datagram (with_channel (dialled to p.moment) p.table) k true p.moment }) (Sent moment (address_of to) bytes ∷ past)) (sym h.swarm)
        (λ w. dialled_sent x most p k to source moment (own_options p.descriptor) bytes past h free none (there x most past h)
        (ap (λ (y : plain.Datagram). y.channel) w.read) (ap (λ (y : plain.Datagram). y.messages.read) w.read)) written
    by false x most past h = dialled_refused x most p k to source past h free none (there x most past h)

-- where the link took it
pub greets_so : (p q : SeatsState) (k moment : ℕ) (greeting : Greeting) (bytes : List ℕ) (link later : LinkState) (sent : Bool) → sent ≡ true → greeting_of (channel_at p.table k) ≡ Some greeting
    → IsDatagram p.descriptor greeting.number (Handshake greeting.source (own_options p.descriptor) ∷ []) bytes → Sends (address_of greeting.address) bytes moment link later sent
    → q ≡ record p { table = with_datagram p.table k true p.moment } → IsGreeted k moment sent p q link later
greets_so p q k moment greeting bytes link later false e is_greeting written sends is = absurd cc
greets_so p q k moment greeting bytes link later true e is_greeting written sends is = greets p q k moment greeting bytes link later is_greeting written sends is

pub parts_so : (p q : SeatsState) (k moment : ℕ) (far : Far) (bytes : List ℕ) (link later : LinkState) (sent : Bool) → sent ≡ true → far_of (channel_at p.table k) ≡ Some far → far.proven ≡ true
    → IsDatagram p.descriptor far.number (Handshake 0 no_options ∷ []) bytes → Sends (address_of far.address) bytes moment link later sent
    → q ≡ record p { table = with_datagram p.table k false p.moment } → IsParted k moment sent p q link later
parts_so p q k moment far bytes link later false e is_far proven written sends is = absurd cc
parts_so p q k moment far bytes link later true e is_far proven written sends is = parts p q k moment far bytes link later is_far proven written sends is

-- the channels by whether the link took a dial
pub dial_table : (t : Seats) (k at : ℕ) (sent : Bool) → sent ≡ true → with_datagram t k true at ≡ cond sent (with_datagram t k true at) (closed t k)
dial_table t k at false e = absurd cc
dial_table t k at true e = refl

pub dial_dropped : (t : Seats) (k at : ℕ) (sent : Bool) → sent ≡ false → closed t k ≡ cond sent (with_datagram t k true at) (closed t k)
dial_dropped t k at true e = absurd cc
dial_dropped t k at false e = refl

-- ---- channels whose time is over

pub ends : (p q : SeatsState) (k : ℕ) → position (is_over p.moment) p.table.channels ≡ Some k → q ≡ record p { table = closed p.table k } → Ends k p q
ends p q k over is = record { over = over; is = is; stands = λ x most past h. subst (λ (o : SeatsState). StandsFor x most o past) (sym is) (ended x most p k past h over) }

pub ends_none : (p q : SeatsState) (result : Option ℕ) → p ≡ q → result ≡ None → position (is_over p.moment) p.table.channels ≡ None
    → MatchOption result (EndsNone q q) (λ k. Ends k q q)
ends_none p q result same is over =
    subst (λ (o : Option ℕ). MatchOption o (EndsNone q q) (λ k. Ends k q q)) (sym is)
    (record { over = subst (λ (o : SeatsState). position (is_over o.moment) o.table.channels ≡ None) same over; same = refl })
