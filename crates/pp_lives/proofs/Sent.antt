-- A datagram that was sent on a seat, and changes that leave a life as it is.
use Rattle.std.proofs.Common.{◌≡◌, ◌≢◌, inl, inr, ⊎_elim, ℕ, ◌<◌, eqb, Bool, true, false, cond, not, ◌||◌, ◌&&◌, leb, Option, Some, None, List, [], ◌∷◌, length, refl, sym, ◌∙◌, ap, subst, arith}
use Rattle.std.proofs.lemmas.Bool.{cases_Bool, or_right, and_parts, and_from, and_left, and_right, cond-true, cond-false, false_from_ne_true, eqb-true, eqb-false, eq-eqb, ne_eqb}
use Rattle.std.specs.Cmp.Lexicographic.{pointwise, same_text}
use Rattle.std.specs.Prelude.{nat_eq}
use Rattle.pp_terms.specs.format.Traffic as traffic
use Rattle.pp_terms.specs.format.Traffic.{Record, Received, Sent, same_address}
use Rattle.pp_terms.specs.format.Descriptor.{Descriptor}
use Rattle.pp_terms.specs.format.Messages.{Message}
use Rattle.pp_terms.proofs.Facts.{bytes_same}
use Rattle.pp_traffic.specs.Past.{now, read, goes_to, is_number, some_since, is_at}
use Rattle.pp_traffic.specs.Life.{Life, greets, answers, begins_as}
use Rattle.pp_traffic.specs.Story.{Line, say, said_in, behind}
use Rattle.pp_traffic.proofs.OneMore.{closed_no}
use Rattle.pp_outside.specs.Outside.{address_of, is_same}
use Rattle.pp_channels.specs.Seats.{AreSeats, is_begun, is_source, has_remote, is_dialled}
use Rattle.pp_channels.specs.Timing.{is_greeted}
use Rattle.pp_channels.specs.declared.channel.State.{State}
use Rattle.pp_channels.specs.declared.channel.Channel.{Channel}
use Rattle.pp_outside.specs.declared.link.Address.{Address}
use Rattle.pp_lives.specs.Reading.{opens, shows, is_blank}
use Rattle.pp_promises.specs.ReadStory.{read_story}
use Rattle.pp_lives.specs.Reading.{is_proven, is_waiting}
use Rattle.pp_channels.specs.Seats.{Seats, channel_at}
use Rattle.pp_lives.specs.Standing.{Stands, StandsAt, once_known, read_of, read_at, WaitsBlank, Seated}
use Rattle.pp_lives.specs.Calls.{Changes, Steady, Says, said_more}
use Rattle.pp_lives.proofs.Each.{each_by}
use Rattle.pp_lives.proofs.Bare.{bare_more}
use Rattle.pp_lives.proofs.Telling.{since_more, since_same, now_later, heard_same, shows_none, read_sent, replied_stays}
use Rattle.pp_lives.proofs.Staying.{Misses, began, at_apart}
use Rattle.pp_lives.proofs.Own.{stands_of, still_apart, at_seat_now, told_is}
use Rattle.pp_lives.proofs.Edits.{steady_waits, steady_alike, source_moves, was_steady}

-- nothing that is sent is heard
pub sent_misses : (d : Descriptor) (c : Channel) (life : Life) (moment : ℕ) (receiver : traffic.Address) (bytes : List ℕ) → Misses d c life (Sent moment receiver bytes)
sent_misses d c life moment receiver bytes = record { waits = λ w. refl; known = λ k. refl }

-- ---- addresses

pub same_self : (a : traffic.Address) → same_address a a ≡ true
same_self (traffic.V4 bytes port) = and_from (pointwise nat_eq bytes bytes) (eqb port port) (bytes_same bytes) (eq-eqb port port refl)
same_self (traffic.V6 bytes port) = and_from (pointwise nat_eq bytes bytes) (eqb port port) (bytes_same bytes) (eq-eqb port port refl)

pub same_is : (a b : traffic.Address) → same_address a b ≡ true → a ≡ b
same_is (traffic.V4 a p) (traffic.V4 b q) e =
    let parts = and_parts (pointwise nat_eq a b) (eqb p q) e in
    ap (λ (xs : List ℕ). traffic.V4 xs p) (same_text a b (sym parts.0)) ∙ ap (λ (n : ℕ). traffic.V4 b n) (eqb-true p q parts.1)
same_is (traffic.V4 a p) (traffic.V6 b q) e = absurd cc
same_is (traffic.V6 a p) (traffic.V4 b q) e = absurd cc
same_is (traffic.V6 a p) (traffic.V6 b q) e =
    let parts = and_parts (pointwise nat_eq a b) (eqb p q) e in
    ap (λ (xs : List ℕ). traffic.V6 xs p) (same_text a b (sym parts.0)) ∙ ap (λ (n : ℕ). traffic.V6 b n) (eqb-true p q parts.1)

-- ---- a seat whose channel stays

pub unchanged : (t : Seats) (seat : ℕ) (c : Channel) → channel_at t seat ≡ Some c → Changes t t seat (Some c)
unchanged t seat c there = record { there = there; others = λ other ne. refl }

pub same_there : (t new : Seats) (seat : ℕ) (c : Channel) → channel_at t seat ≡ Some c → Changes t new seat (Some c) → (other : ℕ) → channel_at new other ≡ channel_at t other
same_there t new seat c there ch other = ⊎_elim
    (λ same. ap (channel_at new) (eqb-true other seat same) ∙ ch.there ∙ sym there ∙ ap (channel_at t) (sym (eqb-true other seat same)))
    (λ apart. ch.others other (eqb-false other seat apart))
    (cases_Bool (eqb other seat))

-- ---- whose a sent datagram is

pub said_none : (d : Descriptor) (life : Life) (r : Record) → (goes_to life.address r && is_number life.remote (read d r).channel) ≡ false → is_number 0 (read d r).channel ≡ false → said_in d life r ≡ []
said_none d life r apart some = by (goes_to life.address r) (is_number life.remote (read d r).channel) (is_number 0 (read d r).channel) (read d r).messages.read (behind life.local (read d r).messages.read) apart some
  where
    by : (g n z : Bool) (ms rest : List Message) → (g && n) ≡ false → z ≡ false → cond (not g) [] (cond n ms (cond z rest [])) ≡ []
    by false n z ms rest a s = refl
    by true true z ms rest a s = absurd cc
    by true false true ms rest a s = absurd cc
    by true false false ms rest a s = refl

pub said_own : (d : Descriptor) (life : Life) (r : Record) → goes_to life.address r ≡ true → is_number life.remote (read d r).channel ≡ true → said_in d life r ≡ (read d r).messages.read
said_own d life r goes is =
    cond-false (not (goes_to life.address r)) [] (cond (is_number life.remote (read d r).channel) (read d r).messages.read (cond (is_number 0 (read d r).channel) (behind life.local (read d r).messages.read) [])) (ap not goes)
    ∙ cond-true (is_number life.remote (read d r).channel) (read d r).messages.read (cond (is_number 0 (read d r).channel) (behind life.local (read d r).messages.read) []) is

-- the datagram of one seat is said on no other
pub others_unsaid : (d : Descriptor) (t : Seats) (lives : ℕ → Option Life) (past : List Record) (seat : ℕ) (c : Channel) (life : Life) (moment : ℕ) (bytes : List ℕ)
    → Seated d t lives past → channel_at t seat ≡ Some c → lives seat ≡ Some life → is_waiting c ≡ false → (read d (Sent moment (address_of c.address) bytes)).channel ≡ Some life.remote
    → (other : ℕ) (e : Channel) (l : Life) → other ≢ seat → channel_at t other ≡ Some e → lives other ≡ Some l → is_waiting e ≡ false
    → (goes_to l.address (Sent moment (address_of c.address) bytes) && is_number l.remote (read d (Sent moment (address_of c.address) bytes)).channel) ≡ false
others_unsaid d t lives past seat c life moment bytes s there living known number other e l ne also lives_there known_too =
    let r = Sent moment (address_of c.address) bytes in
    let st = stands_of d (channel_at t seat) (lives seat) c life past (s.each seat) there living in
    let su = stands_of d (channel_at t other) (lives other) e l past (s.each other) also lives_there in
    false_from_ne_true (goes_to l.address r && is_number l.remote (read d r).channel) (λ both.
    let parts = and_parts (goes_to l.address r) (is_number l.remote (read d r).channel) both in
    let same_number : life.remote ≡ l.remote = eqb-true life.remote l.remote (sym (ap (is_number l.remote) number) ∙ parts.1) in
    ne (sym (s.apart seat other c e life.remote there also (st.remote known).0 ((su.remote known_too).0 ∙ ap (λ (n : ℕ). Some n) (sym same_number))
    (same_is (address_of c.address) (address_of e.address) (subst (λ (a : traffic.Address). same_address (address_of c.address) a ≡ true) su.address parts.0)))))

-- nor is it this peer's handshake there
pub others_unanswered : (d : Descriptor) (t : Seats) (lives : ℕ → Option Life) (past : List Record) (seat : ℕ) (c : Channel) (life : Life) (moment : ℕ) (bytes : List ℕ)
    → Seated d t lives past → channel_at t seat ≡ Some c → lives seat ≡ Some life → is_waiting c ≡ false → (read d (Sent moment (address_of c.address) bytes)).channel ≡ Some life.remote
    → (other : ℕ) (e : Channel) (l : Life) → other ≢ seat → channel_at t other ≡ Some e → lives other ≡ Some l → answers d l (Sent moment (address_of c.address) bytes) ≡ false
others_unanswered d t lives past seat c life moment bytes s there living known number other e l ne also lives_there =
    let r = Sent moment (address_of c.address) bytes in
    let st = stands_of d (channel_at t seat) (lives seat) c life past (s.each seat) there living in
    let su = stands_of d (channel_at t other) (lives other) e l past (s.each other) also lives_there in
    and_left (goes_to l.address r && is_number (cond l.is_dialled 0 l.remote) (read d r).channel) (begins_as l.local (read d r).messages.read)
    (⊎_elim
    (λ dialled. and_right (goes_to l.address r) (is_number (cond l.is_dialled 0 l.remote) (read d r).channel)
    (ap (λ (b : Bool). is_number (cond b 0 l.remote) (read d r).channel) dialled ∙ ap (is_number 0) number ∙ ne_eqb life.remote 0 (λ z. let some = (st.remote known).1 in omega arith)))
    (λ answered. ap (λ (b : Bool). goes_to l.address r && is_number (cond b 0 l.remote) (read d r).channel) answered
    ∙ others_unsaid d t lives past seat c life moment bytes s there living known number other e l ne also lives_there
    (and_left (is_dialled e.opening) (is_greeted e.state) (sym su.dialled ∙ answered)))
    (cases_Bool l.is_dialled))

-- ---- the seat

pub stands_said : (d : Descriptor) (c c' : Channel) (life : Life) (moment : ℕ) (receiver : traffic.Address) (bytes : List ℕ) (past : List Record) → Steady c c'
    → is_begun c'.opening ≡ (answers d life (Sent moment receiver bytes) || is_begun c.opening) → Stands d c life past → Stands d c' life (Sent moment receiver bytes ∷ past)
stands_said d c c' life moment receiver bytes past st begun s =
    let r = Sent moment receiver bytes in
    let lt = began d c life past s in
    let g = s.goes in
    let proven : is_proven c' ≡ is_proven c = ap (λ (x : State). not (is_greeted x)) st.state in
    let waits = steady_waits c c' st in
    record {
      address = s.address ∙ ap address_of (sym st.address);
      local = s.local ∙ sym st.local;
      dialled = s.dialled ∙ sym st.dialled;
      remote = λ k. let n = s.remote (sym waits ∙ k) in (st.remote ∙ n.0, n.1);
      local_some = s.local_some;
      opened = or_right (eqb life.opening (length past) && opens d life r) (is_at (opens d life) life.opening past) s.opened;
      made = st.made ∙ s.made ∙ sym (now_later life.opening r past lt);
      goes = record {
        open_still = closed_no d life r past refl g.open_still;
        has_begun = begun ∙ ap (λ (b : Bool). answers d life r || b) g.has_begun ∙ sym (since_more (answers d life) life.opening r past (omega arith));
        proven = proven ∙ g.proven ∙ sym (since_same (shows d life) life.opening r past (shows_none d life r refl));
        heard = λ p. heard_same d life r past refl ∙ g.heard (sym proven ∙ p) ∙ ap (λ (n : ℕ). Some n) (sym st.heard);
        greeted = λ k. or_right (leb life.opening (length past) && greets d life r) (some_since (greets d life) life.opening past) (g.greeted (sym waits ∙ k));
        bare = λ k. bare_more d life r past (omega (arith, lt)) (replied_stays d life r past (g.greeted (sym waits ∙ k))) (g.bare (sym waits ∙ k));
      };
    }

-- the waiting channel of another seat: what is said to a number of its address is said on this one
blank_said : (d : Descriptor) (t new : Seats) (seat : ℕ) (c c' e e' : Channel) (life l : Life) (moment : ℕ) (bytes : List ℕ) (past : List Record)
    → channel_at t seat ≡ Some c → Steady c c' → Changes t new seat (Some c') → e'.address ≡ e.address → e'.shadowed ≡ e.shadowed → c.remote ≡ Some life.remote → 0 < life.remote
    → (read d (Sent moment (address_of c.address) bytes)).channel ≡ Some life.remote
    → Stands d e l past → WaitsBlank d t e l past → WaitsBlank d new e' l (Sent moment (address_of c.address) bytes ∷ past)
blank_said d t new seat c c' e e' life l moment bytes past there st ch address shadow remote_is some number s was remote wants =
    let r = Sent moment (address_of c.address) bytes in
    let other = record l { remote = remote } in
    let moved : (k : ℕ) → is_source e.address remote (channel_at t k) ≡ true → is_source e'.address remote (channel_at new k) ≡ true = λ k is.
    ap (λ (a : Address). is_source a remote (channel_at new k)) address ∙ source_moves t new seat c c' there st ch e.address remote k is in
    ⊎_elim
    (λ said.
    let parts = and_parts (goes_to l.address r) (is_number remote (read d r).channel) said in
    inr (inr (
      seat,
      moved seat (subst (λ (o : Option Channel). is_source e.address remote o ≡ true) (sym there)
          (and_from (has_remote remote c.remote) (is_same c.address e.address)
          (ap (has_remote remote) remote_is ∙ sym (ap (is_number remote) number) ∙ parts.1)
          (subst (λ (a : traffic.Address). same_address (address_of c.address) a ≡ true) s.address parts.0))),
    )))
    (λ unsaid. ⊎_elim
    (λ blank. inl (ap is_blank (read_sent d other moment (address_of c.address) bytes past (began d e l past s)
    ∙ ap (λ (ms : List Message). say (now past) ms (read_story d other past)) (said_none d other r unsaid (ap (is_number 0) number ∙ ne_eqb life.remote 0 (λ z. omega arith)))) ∙ blank))
    (λ elsewhere. ⊎_elim
    (λ shadowed. inr (inl (shadow ∙ shadowed)))
    (λ source. inr (inr (source.0, moved source.0 source.1)))
    elsewhere)
    (was remote wants))
    (cases_Bool (goes_to l.address r && is_number remote (read d r).channel))

pub said_seated : (d : Descriptor) (t new : Seats) (lives : ℕ → Option Life) (seat : ℕ) (c c' : Channel) (life : Life) (moment : ℕ) (bytes : List ℕ) (past : List Record)
    → Seated d t lives past → channel_at t seat ≡ Some c → lives seat ≡ Some life → is_waiting c ≡ false → (read d (Sent moment (address_of c.address) bytes)).channel ≡ Some life.remote
    → Steady c c' → is_begun c'.opening ≡ (answers d life (Sent moment (address_of c.address) bytes) || is_begun c.opening) → AreSeats new.channels → Changes t new seat (Some c')
    → Seated d new lives (Sent moment (address_of c.address) bytes ∷ past)
said_seated d t new lives seat c c' life moment bytes past s there living known number st begun are ch =
    let r = Sent moment (address_of c.address) bytes in
    let own = stands_of d (channel_at t seat) (lives seat) c life past (s.each seat) there living in
    record {
      are = are;
      each = each_by (λ (k : ℕ). StandsAt d (channel_at new k) (lives k) (r ∷ past)) seat
          (at_seat_now d (channel_at new seat) (lives seat) c' life (r ∷ past) ch.there living
          (stands_said d c c' life moment (address_of c.address) bytes past st begun own))
          (λ other ne. subst (λ (x : Option Channel). StandsAt d x (lives other) (r ∷ past)) (sym (ch.others other ne))
          (at_apart d (channel_at t other) (lives other) r past
          (λ e l also lives_there. (others_unanswered d t lives past seat c life moment bytes s there living known number other e l ne also lives_there, sent_misses d e l moment (address_of c.address) bytes))
          (s.each other)));
      apart = still_apart d t new lives past seat c c' s there (steady_alike c c' st) ch;
      blank = λ other e l also lives_there waits.
          let x = was_steady t new seat c c' there st ch other e also in
          blank_said d t new seat c c' x.channel e life l moment bytes past there st ch x.address x.shadowed (own.remote known).0 (own.remote known).1 number
          (stands_of d (channel_at t other) (lives other) x.channel l past (s.each other) x.there lives_there)
          (s.blank other x.channel l x.there lives_there (sym x.waits ∙ waits));
      unknown = λ other e also waits.
          let x = was_steady t new seat c c' there st ch other e also in x.remote ∙ s.unknown other x.channel x.there (sym x.waits ∙ waits);
    }

pub told_unsaid : (d : Descriptor) (o : Option Channel) (l : Option Life) (moment : ℕ) (receiver : traffic.Address) (bytes : List ℕ) (past : List Record) → StandsAt d o l past
    → ((c : Channel) (life : Life) → o ≡ Some c → l ≡ Some life → is_waiting c ≡ false → said_in d life (Sent moment receiver bytes) ≡ [])
    → read_of d o l (Sent moment receiver bytes ∷ past) ≡ read_of d o l past
told_unsaid d None l moment receiver bytes past s m = refl
told_unsaid d (Some c) None moment receiver bytes past s m = refl
told_unsaid d (Some c) (Some life) moment receiver bytes past s m = ⊎_elim
    (λ waits. at_waiting (is_waiting c) (read_story d life (Sent moment receiver bytes ∷ past)) (read_story d life past) waits)
    (λ known. ap (once_known (is_waiting c)) (read_sent d life moment receiver bytes past (began d c life past s)
    ∙ ap (λ (ms : List Message). say (now past) ms (read_story d life past)) (m c life refl refl known)))
    (cases_Bool (is_waiting c))
  where
    at_waiting : (waits : Bool) (new old : List Line) → waits ≡ true → once_known waits new ≡ once_known waits old
    at_waiting true new old e = refl
    at_waiting false new old e = absurd cc

pub said_tells : (d : Descriptor) (t new : Seats) (lives : ℕ → Option Life) (seat : ℕ) (c c' : Channel) (life : Life) (moment : ℕ) (bytes : List ℕ) (past : List Record)
    → Seated d t lives past → channel_at t seat ≡ Some c → lives seat ≡ Some life → is_waiting c ≡ false → (read d (Sent moment (address_of c.address) bytes)).channel ≡ Some life.remote
    → Steady c c' → Changes t new seat (Some c')
    → Says (now past) seat (read d (Sent moment (address_of c.address) bytes)).messages.read (read_at d t lives past) (read_at d new lives (Sent moment (address_of c.address) bytes ∷ past))
said_tells d t new lives seat c c' life moment bytes past s there living known number steady ch =
    let r = Sent moment (address_of c.address) bytes in
    let st = stands_of d (channel_at t seat) (lives seat) c life past (s.each seat) there living in
    let goes : goes_to life.address r ≡ true = subst (λ (a : traffic.Address). same_address (address_of c.address) a ≡ true) (sym st.address) (same_self (address_of c.address)) in
    record {
      own = told_is d (channel_at new seat) (lives seat) c' life (r ∷ past) ch.there living (steady_waits c c' steady ∙ known)
          ∙ ap (λ (x : List Line). Some x) (read_sent d life moment (address_of c.address) bytes past (began d c life past st)
          ∙ ap (λ (ms : List Message). say (now past) ms (read_story d life past)) (said_own d life r goes (ap (is_number life.remote) number ∙ eq-eqb life.remote life.remote refl)))
          ∙ ap (said_more (now past) (read d r).messages.read) (sym (told_is d (channel_at t seat) (lives seat) c life past there living known));
      others = λ other ne. ap (λ (o : Option Channel). read_of d o (lives other) (r ∷ past)) (ch.others other ne)
          ∙ told_unsaid d (channel_at t other) (lives other) moment (address_of c.address) bytes past (s.each other)
          (λ e l also lives_there known_too. said_none d l r
          (others_unsaid d t lives past seat c life moment bytes s there living known number other e l ne also lives_there known_too)
          (ap (is_number 0) number ∙ ne_eqb life.remote 0 (λ z. let some = (st.remote known).1 in omega arith)));
    }
