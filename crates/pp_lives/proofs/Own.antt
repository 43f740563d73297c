-- A datagram for the number of a seat.
use Rattle.std.proofs.Common.{◌≡◌, ◌≢◌, inl, inr, ⊎_elim, ℕ, max, leb, eqb, Bool, true, false, cond, not, ◌&&◌, Option, Some, None, List, ◌∷◌, length, refl, sym, ◌∙◌, ap, subst, arith}
use Rattle.std.proofs.lemmas.Bool.{and_from, and_right, or_left, or_right, cases_Bool, both_ways, le-leb, eq-eqb, eqb-true, eqb-false, ne_eqb}
use Rattle.std.proofs.lemmas.Option.{same_Some}
use Rattle.pp_terms.specs.format.Traffic as traffic
use Rattle.pp_terms.specs.format.Traffic.{Record, Received, Sent, same_address}
use Rattle.pp_terms.specs.format.Descriptor.{Descriptor}
use Rattle.pp_traffic.specs.Past.{now, read, is_number, comes_from, some_since, is_at}
use Rattle.pp_traffic.specs.Life.{Life, greets, answers, comes_on, shakes_on, closes}
use Rattle.pp_traffic.specs.Story.{Line, Taken, hear}
use Rattle.pp_traffic.proofs.OneMore.{closed_no}
use Rattle.pp_outside.specs.Outside.{address_of, is_same}
use Rattle.pp_outside.specs.declared.link.Address.{Address}
use Rattle.pp_channels.specs.Seats.{AreSeats, is_dialled, is_source, has_remote}
use Rattle.pp_channels.specs.Timing.{is_greeted}
use Rattle.pp_channels.specs.declared.channel.Channel.{Channel}
use Rattle.pp_lives.specs.Reading.{opens, shows, is_blank}
use Rattle.pp_promises.specs.ReadStory.{is_read, read_story}
use Rattle.pp_lives.specs.Reading.{is_waiting}
use Rattle.pp_channels.specs.Seats.{Seats, channel_at}
use Rattle.pp_lives.specs.Standing.{Stands, StandsAt, once_known, read_of, read_at, WaitsBlank, Seated}
use Rattle.pp_lives.specs.Calls.{Changes, hears, looked, heard_more, TellsOne}
use Rattle.pp_lives.proofs.Each.{each_by}
use Rattle.pp_lives.proofs.Bare.{bare_more}
use Rattle.pp_lives.proofs.Telling.{since_same, now_later, heard_now, no_shake, read_more, replied_stays}
use Rattle.pp_lives.proofs.Staying.{Misses, began, at_apart, read_missed, blank_missed}

-- ---- seats

pub stands_of : (d : Descriptor) (o : Option Channel) (l : Option Life) (c : Channel) (life : Life) (past : List Record)
    → StandsAt d o l past → o ≡ Some c → l ≡ Some life → Stands d c life past
stands_of d o l c life past s is lives =
    subst (λ (x : Option Life). StandsAt d (Some c) x past) lives (subst (λ (x : Option Channel). StandsAt d x l past) is s)

-- a number is of one seat
pub others_apart : (d : Descriptor) (t : Seats) (lives : ℕ → Option Life) (past : List Record) (seat : ℕ) (c : Channel) (r : Record)
    → Seated d t lives past → channel_at t seat ≡ Some c → (read d r).channel ≡ Some c.local
    → (other : ℕ) (e : Channel) (life : Life) → other ≢ seat → channel_at t other ≡ Some e → lives other ≡ Some life → comes_on d life r ≡ false
others_apart d t lives past seat c r s there is other e life ne also lives_there =
    let st = stands_of d (channel_at t other) (lives other) e life past (s.each other) also lives_there in
    and_right (comes_from life.address r) (is_number life.local (read d r).channel)
    (ap (is_number life.local) is ∙ ne_eqb c.local life.local (λ same. ne (sym (s.are.differ seat other c e there also (same ∙ st.local)))))

pub missed_by : (d : Descriptor) (c : Channel) (life : Life) (r : Record) → comes_on d life r ≡ false → Misses d c life r
missed_by d c life r apart = record { waits = λ w. no_shake d life r apart; known = λ k. apart }

-- ---- the seat

-- A channel that is known and that this peer dialled was shown.
pub was_shown : (d : Descriptor) (c : Channel) (life : Life) (past : List Record) → Stands d c life past → is_waiting c ≡ false → life.is_dialled ≡ true
    → some_since (shows d life) life.opening past ≡ true
was_shown d c life past s known dialled =
    let greeted : is_greeted c.state ≡ false = subst (λ (b : Bool). (b && is_greeted c.state) ≡ false) (sym s.dialled ∙ dialled) known in
    sym s.goes.proven ∙ ap not greeted

pub was_shaken : (d : Descriptor) (c : Channel) (life : Life) (past : List Record) → Stands d c life past → is_waiting c ≡ false → life.is_dialled ≡ true
    → some_since (shakes_on d life) life.opening past ≡ true
was_shaken d c life past s known dialled =
    subst (λ (b : Bool). some_since (λ r. cond b (shakes_on d life r) (comes_on d life r)) life.opening past ≡ true) dialled (was_shown d c life past s known dialled)

-- a datagram on it shows it
shows_now : (d : Descriptor) (c : Channel) (life : Life) (r : Record) (past : List Record) → Stands d c life past → is_waiting c ≡ false
    → comes_on d life r ≡ true → some_since (shows d life) life.opening (r ∷ past) ≡ true
shows_now d c life r past s known on = ⊎_elim
    (λ dialled. or_right (leb life.opening (length past) && shows d life r) (some_since (shows d life) life.opening past) (was_shown d c life past s known dialled))
    (λ answered. or_left (leb life.opening (length past) && shows d life r) (some_since (shows d life) life.opening past)
    (and_from (leb life.opening (length past)) (shows d life r) (le-leb life.opening (length past) (omega (arith, began d c life past s))) (rw answered on)))
    (cases_Bool life.is_dialled)

-- and is read
pub reads_on : (d : Descriptor) (c : Channel) (life : Life) (r : Record) (past : List Record) → Stands d c life past → is_waiting c ≡ false
    → is_read d life (r ∷ past) ≡ true
reads_on d c life r past s known = replied_stays d life r past (s.goes.greeted known)

pub stands_heard : (d : Descriptor) (c : Channel) (life : Life) (moment : ℕ) (sender : traffic.Address) (bytes : List ℕ) (past : List Record)
    → closes (read d (Received moment sender bytes)).messages.read ≡ false
    → Stands d c life past → is_waiting c ≡ false → comes_on d life (Received moment sender bytes) ≡ true
    → Stands d (hears (max moment (now past)) c) life (Received moment sender bytes ∷ past)
stands_heard d c life moment sender bytes past open_still s known on =
    let r = Received moment sender bytes in
    let lt = began d c life past s in
    let g = s.goes in
    let remote = s.remote known in
    record {
      address = s.address;
      local = s.local;
      dialled = s.dialled;
      remote = λ k. remote;
      local_some = s.local_some;
      opened = or_right (eqb life.opening (length past) && opens d life r) (is_at (opens d life) life.opening past) s.opened;
      made = s.made ∙ sym (now_later life.opening r past lt);
      goes = record {
        open_still = closed_no d life r past (and_right (comes_on d life r) (closes (read d r).messages.read) open_still) g.open_still;
        has_begun = g.has_begun ∙ sym (since_same (answers d life) life.opening r past refl);
        proven = sym (shows_now d c life r past s known on);
        heard = λ p. heard_now d life r past lt on;
        greeted = λ k. or_right (leb life.opening (length past) && greets d life r) (some_since (greets d life) life.opening past) (g.greeted known);
        bare = λ k. bare_more d life r past (omega (arith, lt)) (reads_on d c life r past s known) (g.bare known);
      };
    }

read_heard : (d : Descriptor) (c : Channel) (life : Life) (moment : ℕ) (sender : traffic.Address) (bytes : List ℕ) (past : List Record)
    → Stands d c life past → is_waiting c ≡ false → comes_on d life (Received moment sender bytes) ≡ true
    → read_story d life (Received moment sender bytes ∷ past) ≡ Taken (max moment (now past)) ∷ hear (max moment (now past)) (read d (Received moment sender bytes)).messages.read (read_story d life past)
read_heard d c life moment sender bytes past s known on =
    read_more d life moment sender bytes past (began d c life past s) (reads_on d c life (Received moment sender bytes) past s known) on

-- ---- what is read of the others

pub looked_known : (waits : Bool) (now : ℕ) (s : List Line) → once_known waits (Taken now ∷ s) ≡ looked now (once_known waits s)
looked_known true now s = refl
looked_known false now s = refl

pub at_waiting : (waits : Bool) (now : ℕ) (new old : List Line) → waits ≡ true → once_known waits new ≡ looked now (once_known waits old)
at_waiting true now new old e = refl
at_waiting false now new old e = absurd cc

pub told_missed : (d : Descriptor) (o : Option Channel) (l : Option Life) (moment : ℕ) (sender : traffic.Address) (bytes : List ℕ) (past : List Record)
    → StandsAt d o l past → ((c : Channel) (life : Life) → o ≡ Some c → l ≡ Some life → Misses d c life (Received moment sender bytes))
    → read_of d o l (Received moment sender bytes ∷ past) ≡ looked (max moment (now past)) (read_of d o l past)
told_missed d None l moment sender bytes past s m = refl
told_missed d (Some c) None moment sender bytes past s m = refl
told_missed d (Some c) (Some life) moment sender bytes past s m = ⊎_elim
    (λ waits. at_waiting (is_waiting c) (max moment (now past)) (read_story d life (Received moment sender bytes ∷ past)) (read_story d life past) waits)
    (λ known. ap (once_known (is_waiting c)) (read_missed d c life moment sender bytes past s (m c life refl refl) known)
    ∙ looked_known (is_waiting c) (max moment (now past)) (read_story d life past))
    (cases_Bool (is_waiting c))

-- ---- all seats

-- Channels whose address and peer's number are those of other channels at their seats: so they are of one channel still.
pub record Alike (e0 e : Channel) : Type 0 where
  pub address : e.address ≡ e0.address
  pub remote : e.remote ≡ e0.remote
  pub waits : is_waiting e ≡ is_waiting e0

pub alike : (e : Channel) → Alike e e
alike e = record { address = refl; remote = refl; waits = refl }

-- what stands at a seat now stood there alike
pub was_alike : (t new : Seats) (seat : ℕ) (c c' : Channel) → channel_at t seat ≡ Some c → Alike c c' → Changes t new seat (Some c')
    → (other : ℕ) (e : Channel) → channel_at new other ≡ Some e → (e0 : Channel) × (channel_at t other ≡ Some e0) × Alike e0 e
was_alike t new seat c c' there like ch other e also = ⊎_elim
    (λ same. (
      c,
      ap (channel_at t) (eqb-true other seat same) ∙ there,
      subst (λ (x : Channel). Alike c x) (same_Some c' e (sym ch.there ∙ ap (channel_at new) (sym (eqb-true other seat same)) ∙ also)) like,
    ))
    (λ apart. (e, sym (ch.others other (eqb-false other seat apart)) ∙ also, alike e))
    (cases_Bool (eqb other seat))

pub still_apart : (d : Descriptor) (t new : Seats) (lives : ℕ → Option Life) (past : List Record) (seat : ℕ) (c c' : Channel)
    → Seated d t lives past → channel_at t seat ≡ Some c → Alike c c' → Changes t new seat (Some c')
    → (one other : ℕ) (a e : Channel) (remote : ℕ) → channel_at new one ≡ Some a → channel_at new other ≡ Some e → a.remote ≡ Some remote → e.remote ≡ Some remote
    → address_of a.address ≡ address_of e.address → one ≡ other
still_apart d t new lives past seat c c' s there like ch one other a e remote at_one at_other ra re same =
    let x = was_alike t new seat c c' there like ch one a at_one in
    let y = was_alike t new seat c c' there like ch other e at_other in
    s.apart one other x.0 y.0 remote x.1 y.1 (sym x.2.remote ∙ ra) (sym y.2.remote ∙ re)
    (ap address_of (sym x.2.address) ∙ same ∙ ap address_of y.2.address)

pub at_seat_now : (d : Descriptor) (o : Option Channel) (l : Option Life) (c : Channel) (life : Life) (past : List Record)
    → o ≡ Some c → l ≡ Some life → Stands d c life past → StandsAt d o l past
at_seat_now d o l c life past is lives s =
    subst (λ (x : Option Channel). StandsAt d x l past) (sym is) (subst (λ (x : Option Life). StandsAt d (Some c) x past) (sym lives) s)

pub at_others : (d : Descriptor) (t new : Seats) (seat : ℕ) (o : Option Channel) (l : Option Life) (past : List Record) (other : ℕ) → other ≢ seat
    → Changes t new seat o → StandsAt d (channel_at t other) l past → StandsAt d (channel_at new other) l past
at_others d t new seat o l past other ne ch s =
    subst (λ (x : Option Channel). StandsAt d x l past) (sym (ch.others other ne)) s

pub told_is : (d : Descriptor) (o : Option Channel) (l : Option Life) (c : Channel) (life : Life) (past : List Record) → o ≡ Some c → l ≡ Some life → is_waiting c ≡ false
    → read_of d o l past ≡ Some (read_story d life past)
told_is d o l c life past is lives known =
    ap (λ (x : Option Channel). read_of d x l past) is ∙ ap (λ (x : Option Life). read_of d (Some c) x past) lives ∙ ap (λ (b : Bool). once_known b (read_story d life past)) known

-- Whether a number of an address was sent to elsewhere, one record more.
pub still_blank : (d : Descriptor) (t new : Seats) (seat : ℕ) (c c' e : Channel) (life : Life) (moment : ℕ) (sender : traffic.Address) (bytes : List ℕ) (past : List Record)
    → channel_at t seat ≡ Some c → Alike c c' → Changes t new seat (Some c')
    → Stands d e life past → Misses d e life (Received moment sender bytes) → is_waiting e ≡ true
    → WaitsBlank d t e life past → WaitsBlank d new e life (Received moment sender bytes ∷ past)
still_blank d t new seat c c' e life moment sender bytes past there like ch s m waits was remote some = ⊎_elim
    (λ blank. inl (ap is_blank (blank_missed d e life remote moment sender bytes past s m waits) ∙ blank))
    (λ elsewhere. ⊎_elim
    (λ shadowed. inr (inl shadowed))
    (λ source. inr (inr (
      source.0,
      ⊎_elim
          (λ same. subst (λ (o : Option Channel). is_source e.address remote o ≡ true) (sym ch.there ∙ ap (channel_at new) (sym (eqb-true source.0 seat same)))
          (source_alike e.address remote c c' like (subst (λ (o : Option Channel). is_source e.address remote o ≡ true) (ap (channel_at t) (eqb-true source.0 seat same) ∙ there) source.1)))
          (λ apart. subst (λ (o : Option Channel). is_source e.address remote o ≡ true) (sym (ch.others source.0 (eqb-false source.0 seat apart))) source.1)
          (cases_Bool (eqb source.0 seat)),
    )))
    elsewhere)
    (was remote some)
  where
    source_alike : (a : Address) (remote : ℕ) (c c' : Channel) → Alike c c' → is_source a remote (Some c) ≡ true → is_source a remote (Some c') ≡ true
    source_alike a remote c c' like e =
        ap (λ (o : Option ℕ). has_remote remote o && is_same c'.address a) like.remote
        ∙ ap (λ (b : Address). has_remote remote c.remote && is_same b a) like.address ∙ e

-- A datagram came for the number of a seat, whose peer's number is known.
pub heard_seated : (d : Descriptor) (t new : Seats) (lives : ℕ → Option Life) (seat : ℕ) (c : Channel) (life : Life) (moment : ℕ) (sender : traffic.Address) (bytes : List ℕ) (past : List Record)
    → Seated d t lives past → AreSeats new.channels → Changes t new seat (Some (hears (max moment (now past)) c))
    → channel_at t seat ≡ Some c → lives seat ≡ Some life → is_waiting c ≡ false
    → (read d (Received moment sender bytes)).channel ≡ Some c.local → same_address sender (address_of c.address) ≡ true
    → closes (read d (Received moment sender bytes)).messages.read ≡ false
    → Seated d new lives (Received moment sender bytes ∷ past)
heard_seated d t new lives seat c life moment sender bytes past s are ch there living known number from open_still =
    let r = Received moment sender bytes in
    let ms = (read d r).messages.read in
    let c' = hears (max moment (now past)) c in
    let stands = stands_of d (channel_at t seat) (lives seat) c life past (s.each seat) there living in
    let on : comes_on d life r ≡ true = and_from (comes_from life.address r) (is_number life.local (read d r).channel)
    (ap (λ (a : traffic.Address). same_address sender a) stands.address ∙ from) (ap (is_number life.local) number ∙ eq-eqb c.local life.local (sym stands.local)) in
    let like : Alike c c' = record { address = refl; remote = refl; waits = and_right (is_dialled c.opening) (is_greeted c'.state) refl ∙ sym known } in
    record {
      are = are;
      each = each_by (λ (k : ℕ). StandsAt d (channel_at new k) (lives k) (r ∷ past)) seat
          (at_seat_now d (channel_at new seat) (lives seat) c' life (r ∷ past) ch.there living
          (stands_heard d c life moment sender bytes past open_still stands known on))
          (λ other ne. at_others d t new seat (Some c') (lives other) (r ∷ past) other ne ch
          (at_apart d (channel_at t other) (lives other) r past
          (λ e l also lives_there. (refl, missed_by d e l r (others_apart d t lives past seat c r s there number other e l ne also lives_there)))
          (s.each other)));
      apart = still_apart d t new lives past seat c c' s there like ch;
      blank = λ other e l also lives_there waits. ⊎_elim
          (λ same. absurd (both_ways (is_waiting c) known (sym (like.waits) ∙ ap is_waiting (same_Some c' e (sym ch.there ∙ ap (channel_at new) (sym (eqb-true other seat same)) ∙ also)) ∙ waits)))
          (λ apart.
          let before = sym (ch.others other (eqb-false other seat apart)) ∙ also in
          still_blank d t new seat c c' e l moment sender bytes past there like ch
          (stands_of d (channel_at t other) (lives other) e l past (s.each other) before lives_there)
          (missed_by d e l r (others_apart d t lives past seat c r s there number other e l (eqb-false other seat apart) before lives_there)) waits
          (s.blank other e l before lives_there waits))
          (cases_Bool (eqb other seat));
      unknown = λ other e also waits.
          let x = was_alike t new seat c c' there like ch other e also in x.2.remote ∙ s.unknown other x.0 x.1 (sym x.2.waits ∙ waits);
    }

-- and so more is read of it, and nothing of the others
pub heard_tells : (d : Descriptor) (t new : Seats) (lives : ℕ → Option Life) (seat : ℕ) (c : Channel) (life : Life) (moment : ℕ) (sender : traffic.Address) (bytes : List ℕ) (past : List Record)
    → Seated d t lives past → Changes t new seat (Some (hears (max moment (now past)) c))
    → channel_at t seat ≡ Some c → lives seat ≡ Some life → is_waiting c ≡ false
    → (read d (Received moment sender bytes)).channel ≡ Some c.local → same_address sender (address_of c.address) ≡ true
    → TellsOne (max moment (now past)) seat (read d (Received moment sender bytes)).messages.read (read_at d t lives past) (read_at d new lives (Received moment sender bytes ∷ past))
heard_tells d t new lives seat c life moment sender bytes past s ch there living known number from =
    let r = Received moment sender bytes in
    let ms = (read d r).messages.read in
    let c' = hears (max moment (now past)) c in
    let stands = stands_of d (channel_at t seat) (lives seat) c life past (s.each seat) there living in
    let on : comes_on d life r ≡ true = and_from (comes_from life.address r) (is_number life.local (read d r).channel)
    (ap (λ (a : traffic.Address). same_address sender a) stands.address ∙ from) (ap (is_number life.local) number ∙ eq-eqb c.local life.local (sym stands.local)) in
    record {
      own = told_is d (channel_at new seat) (lives seat) c' life (r ∷ past) ch.there living (and_right (is_dialled c.opening) (is_greeted c'.state) refl)
          ∙ ap (λ (x : List Line). Some x) (read_heard d c life moment sender bytes past stands known on)
          ∙ ap (heard_more (max moment (now past)) ms) (sym (told_is d (channel_at t seat) (lives seat) c life past there living known));
      others = λ other ne. ap (λ (o : Option Channel). read_of d o (lives other) (r ∷ past)) (ch.others other ne)
          ∙ told_missed d (channel_at t other) (lives other) moment sender bytes past (s.each other)
          (λ e l also lives_there. missed_by d e l r (others_apart d t lives past seat c r s there number other e l ne also lives_there));
    }
