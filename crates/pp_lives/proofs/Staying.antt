-- A record that is for no seat.
use Rattle.std.proofs.Common.{◌≡◌, ⊎_elim, ℕ, ◌<◌, max, ltb, leb, eqb, Bool, true, false, cond, not, ◌&&◌, ◌||◌, Option, Some, None, List, ◌∷◌, length, refl, sym, ◌∙◌, subst, arith}
use Rattle.std.proofs.lemmas.Bool.{and_parts, and_left, and_right, or_right, or_from, cases_Bool, not-true}
use Rattle.pp_terms.specs.format.Traffic.{Address, Record, Received}
use Rattle.pp_terms.specs.format.Descriptor.{Descriptor}
use Rattle.pp_traffic.specs.Past.{now, read, some_since, is_at}
use Rattle.pp_traffic.specs.Life.{Life, greets, answers, comes_on, shakes_on, closes, closes_on, is_closed}
use Rattle.pp_traffic.specs.Story.{Taken}
use Rattle.pp_traffic.proofs.OneMore.{at_within, closed_no}
use Rattle.pp_channels.specs.Seats.{is_dialled}
use Rattle.pp_channels.specs.Timing.{is_greeted}
use Rattle.pp_channels.specs.declared.channel.Channel.{Channel}
use Rattle.pp_lives.specs.Reading.{opens, shows}
use Rattle.pp_promises.specs.ReadStory.{read_story}
use Rattle.pp_lives.specs.Reading.{is_proven, is_waiting}
use Rattle.pp_lives.specs.Standing.{Stands, StandsAt}
use Rattle.pp_lives.proofs.Bare.{bare_more}
use Rattle.pp_lives.proofs.Telling.{since_same, now_later, heard_same, shows_none, read_apart, read_unread, dialled_unread, replied_stays}

-- The datagram isn't for the channel; where the channel waits, it is no handshake for it.
pub record Misses (d : Descriptor) (c : Channel) (life : Life) (r : Record) : Type 0 where
  pub waits : is_waiting c ≡ true → shakes_on d life r ≡ false
  pub known : is_waiting c ≡ false → comes_on d life r ≡ false

pub began : (d : Descriptor) (c : Channel) (life : Life) (past : List Record) → Stands d c life past → life.opening < length past
began d c life past s = at_within (opens d life) life.opening past s.opened

pub waits_dialled : (c : Channel) → is_waiting c ≡ true → is_dialled c.opening ≡ true
waits_dialled c w = (and_parts (is_dialled c.opening) (is_greeted c.state) w).0

pub waits_unproven : (c : Channel) → is_waiting c ≡ true → is_proven c ≡ false
waits_unproven c w = let g = (and_parts (is_dialled c.opening) (is_greeted c.state) w).1 in rw g refl

pub proven_known : (c : Channel) → is_proven c ≡ true → is_waiting c ≡ false
proven_known c p = and_right (is_dialled c.opening) (is_greeted c.state) (not-true (is_greeted c.state) p)

-- while it waits no handshake has come on it
pub none_shaken : (d : Descriptor) (c : Channel) (life : Life) (past : List Record) → Stands d c life past → is_waiting c ≡ true
    → some_since (shakes_on d life) life.opening past ≡ false
none_shaken d c life past s w =
    let e : some_since (shows d life) life.opening past ≡ false = sym s.goes.proven ∙ waits_unproven c w in
    subst (λ (b : Bool). some_since (λ r. cond b (shakes_on d life r) (comes_on d life r)) life.opening past ≡ false) (s.dialled ∙ waits_dialled c w) e

misses_shows : (d : Descriptor) (c : Channel) (life : Life) (r : Record) (past : List Record) → Stands d c life past → Misses d c life r → shows d life r ≡ false
misses_shows d c life r past s m = ⊎_elim
    (λ waits. rw (s.dialled ∙ waits_dialled c waits) (m.waits waits))
    (λ known. shows_none d life r (m.known known))
    (cases_Bool (is_waiting c))

misses_open : (d : Descriptor) (c : Channel) (life : Life) (r : Record) (past : List Record) → Stands d c life past → Misses d c life r
    → is_closed d life (r ∷ past) ≡ false
misses_open d c life r past s m = ⊎_elim
    (λ waits.
    let none = none_shaken d c life past s waits in
    let isnt = m.waits waits in
    let dialled : life.is_dialled ≡ true = s.dialled ∙ waits_dialled c waits in
    let unread : (not life.is_dialled || shakes_on d life r || some_since (shakes_on d life) life.opening past) ≡ false = rw (dialled, isnt, none) refl in
    or_from
    (ltb life.opening (length past) && closes_on d life r && (not life.is_dialled || shakes_on d life r || some_since (shakes_on d life) life.opening past))
    (is_closed d life past)
    (and_right (ltb life.opening (length past) && closes_on d life r) (not life.is_dialled || shakes_on d life r || some_since (shakes_on d life) life.opening past) unread)
    s.goes.open_still)
    (λ known. closed_no d life r past (and_left (comes_on d life r) (closes (read d r).messages.read) (m.known known)) s.goes.open_still)
    (cases_Bool (is_waiting c))

-- so it stays as it was
pub stands_apart : (d : Descriptor) (c : Channel) (life : Life) (r : Record) (past : List Record) → answers d life r ≡ false → Misses d c life r
    → Stands d c life past → Stands d c life (r ∷ past)
stands_apart d c life r past none m s =
    let lt = began d c life past s in
    record {
      address = s.address;
      local = s.local;
      dialled = s.dialled;
      remote = s.remote;
      local_some = s.local_some;
      opened = or_right (eqb life.opening (length past) && opens d life r) (is_at (opens d life) life.opening past) s.opened;
      made = s.made ∙ sym (now_later life.opening r past lt);
      goes = record {
        open_still = misses_open d c life r past s m;
        has_begun = s.goes.has_begun ∙ sym (since_same (answers d life) life.opening r past none);
        proven = s.goes.proven ∙ sym (since_same (shows d life) life.opening r past (misses_shows d c life r past s m));
        heard = λ p. heard_same d life r past (m.known (proven_known c p)) ∙ s.goes.heard p;
        greeted = λ k. or_right (leb life.opening (length past) && greets d life r) (some_since (greets d life) life.opening past) (s.goes.greeted k);
        bare = λ k. bare_more d life r past (omega (arith, lt)) (replied_stays d life r past (s.goes.greeted k)) (s.goes.bare k);
      };
    }

pub at_apart : (d : Descriptor) (o : Option Channel) (l : Option Life) (r : Record) (past : List Record)
    → ((c : Channel) (life : Life) → o ≡ Some c → l ≡ Some life → (answers d life r ≡ false) × Misses d c life r)
    → StandsAt d o l past → StandsAt d o l (r ∷ past)
at_apart d None l r past m s = tt
at_apart d (Some c) None r past m s = s
at_apart d (Some c) (Some life) r past m s = let it = m c life refl refl in stands_apart d c life r past it.0 it.1 s

-- and so does what is read of it, but that a wait ended
pub read_missed : (d : Descriptor) (c : Channel) (life : Life) (moment : ℕ) (sender : Address) (bytes : List ℕ) (past : List Record)
    → Stands d c life past → Misses d c life (Received moment sender bytes) → is_waiting c ≡ false
    → read_story d life (Received moment sender bytes ∷ past) ≡ Taken (max moment (now past)) ∷ read_story d life past
read_missed d c life moment sender bytes past s m known = read_apart d life moment sender bytes past (began d c life past s) (m.known known)

pub blank_missed : (d : Descriptor) (c : Channel) (life : Life) (remote : ℕ) (moment : ℕ) (sender : Address) (bytes : List ℕ) (past : List Record)
    → Stands d c life past → Misses d c life (Received moment sender bytes) → is_waiting c ≡ true
    → read_story d (record life { remote = remote }) (Received moment sender bytes ∷ past) ≡ Taken (max moment (now past)) ∷ read_story d (record life { remote = remote }) past
blank_missed d c life remote moment sender bytes past s m waits =
    read_unread d (record life { remote = remote }) moment sender bytes past (began d c life past s)
    (dialled_unread d (record life { remote = remote }) (Received moment sender bytes) past (s.dialled ∙ waits_dialled c waits) (m.waits waits) (none_shaken d c life past s waits))
