-- Changes of the seats that no record goes with.
use Rattle.std.specs.Prelude.{min, nat_lt}
use Rattle.std.proofs.Common.{◌≡◌, ◌+◌, arith, inl, inr, ⊎_elim, ℕ, eqb, Bool, true, false, not, ◌&&◌, Option, Some, None, List, refl, sym, ◌∙◌, ap, subst}
use Rattle.std.proofs.lemmas.Bool.{cases_Bool, cond-true, cond-false, eqb-true, eqb-false, eq-eqb, ne_eqb, lt-ltb}
use Rattle.std.proofs.lemmas.Option.{same_Some}
use Rattle.pp_terms.specs.format.Traffic.{Record}
use Rattle.pp_terms.specs.format.Descriptor.{Descriptor}
use Rattle.pp_traffic.specs.Life.{Life}
use Rattle.pp_outside.specs.Outside.{address_of, is_same}
use Rattle.pp_outside.specs.declared.link.Address.{Address}
use Rattle.pp_channels.specs.Seats.{AreSeats, is_begun, is_source, has_remote, is_dialled, dialled, unreplied, with_handshake}
use Rattle.pp_channels.specs.Timing.{is_greeted}
use Rattle.pp_channels.specs.declared.channel.State.{State}
use Rattle.pp_channels.specs.declared.channel.Reply.TheVariants.{Due, Sent, DueAgain}
use Rattle.pp_channels.specs.declared.channel.Opening.{Opening}
use Rattle.pp_channels.specs.declared.channel.Opening.TheVariants.{Dialled, Answered}
use Rattle.pp_channels.specs.declared.channel.Channel.{Channel}
use Rattle.pp_promises.specs.ReadStory.{read_story}
use Rattle.pp_lives.specs.Reading.{is_proven, is_waiting}
use Rattle.pp_channels.specs.Seats.{Seats, channel_at}
use Rattle.pp_lives.specs.Standing.{Stands, IsUnbegun, StandsAt, once_known, read_of, read_at, Seated}
use Rattle.pp_lives.specs.Calls.{Changes, Steady, with_life}
use Rattle.pp_lives.proofs.Each.{each_by}
use Rattle.pp_lives.proofs.Own.{Alike, still_apart}

-- ---- what stays

pub steady_waits : (c new : Channel) → Steady c new → is_waiting new ≡ is_waiting c
steady_waits c new st = ap (λ (b : Bool). b && is_greeted new.state) st.dialled ∙ ap (λ (x : State). is_dialled c.opening && is_greeted x) st.state

pub steady_alike : (c new : Channel) → Steady c new → Alike c new
steady_alike c new st = record { address = st.address; remote = st.remote; waits = steady_waits c new st }

pub stands_steady : (d : Descriptor) (c new : Channel) (life : Life) (past : List Record) → Steady c new → is_begun new.opening ≡ is_begun c.opening → Stands d c life past → Stands d new life past
stands_steady d c new life past st begun s =
    let proven : is_proven new ≡ is_proven c = ap (λ (x : State). not (is_greeted x)) st.state in
    let waits = steady_waits c new st in
    record {
      address = s.address ∙ ap address_of (sym st.address);
      local = s.local ∙ sym st.local;
      dialled = s.dialled ∙ sym st.dialled;
      remote = λ k. let r = s.remote (sym waits ∙ k) in (st.remote ∙ r.0, r.1);
      local_some = s.local_some;
      opened = s.opened;
      made = st.made ∙ s.made;
      goes = let g = s.goes in record {
        open_still = g.open_still;
        has_begun = begun ∙ g.has_begun;
        proven = proven ∙ g.proven;
        heard = λ p. g.heard (sym proven ∙ p) ∙ ap (λ (n : ℕ). Some n) (sym st.heard);
        greeted = λ k. g.greeted (sym waits ∙ k);
        bare = λ k. g.bare (sym waits ∙ k);
      };
    }

at_steady : (d : Descriptor) (c new : Channel) (l : Option Life) (past : List Record) → Steady c new → is_begun new.opening ≡ is_begun c.opening → StandsAt d (Some c) l past → StandsAt d (Some new) l past
at_steady d c new None past st begun s = record { none = begun ∙ s.none; waits = steady_waits c new st ∙ s.waits }
at_steady d c new (Some life) past st begun s = stands_steady d c new life past st begun s

told_steady : (d : Descriptor) (c new : Channel) (l : Option Life) (past : List Record) → Steady c new → read_of d (Some new) l past ≡ read_of d (Some c) l past
told_steady d c new None past st = refl
told_steady d c new (Some life) past st = ap (λ (b : Bool). once_known b (read_story d life past)) (steady_waits c new st)

source_steady : (a : Address) (n : ℕ) (c new : Channel) → Steady c new → is_source a n (Some c) ≡ true → is_source a n (Some new) ≡ true
source_steady a n c new st e =
    ap (λ (o : Option ℕ). has_remote n o && is_same new.address a) st.remote ∙ ap (λ (b : Address). has_remote n c.remote && is_same b a) st.address ∙ e

-- a number of an address is that of a seat still
pub source_moves : (t new : Seats) (seat : ℕ) (c c' : Channel) → channel_at t seat ≡ Some c → Steady c c' → Changes t new seat (Some c')
    → (a : Address) (n other : ℕ) → is_source a n (channel_at t other) ≡ true → is_source a n (channel_at new other) ≡ true
source_moves t new seat c c' there st ch a n other e = ⊎_elim
    (λ same. ap (is_source a n) (ap (channel_at new) (eqb-true other seat same) ∙ ch.there)
    ∙ source_steady a n c c' st (ap (is_source a n) (sym (ap (channel_at t) (eqb-true other seat same) ∙ there)) ∙ e))
    (λ apart. ap (is_source a n) (ch.others other (eqb-false other seat apart)) ∙ e)
    (cases_Bool (eqb other seat))

-- What stands at a seat stood there, the same to the traffic.
pub record Was (t : Seats) (other : ℕ) (e : Channel) : Type 0 where
  pub channel : Channel
  pub there : channel_at t other ≡ Some channel
  pub address : e.address ≡ channel.address
  pub remote : e.remote ≡ channel.remote
  pub shadowed : e.shadowed ≡ channel.shadowed
  pub waits : is_waiting e ≡ is_waiting channel

pub was_steady : (t new : Seats) (seat : ℕ) (c c' : Channel) → channel_at t seat ≡ Some c → Steady c c' → Changes t new seat (Some c')
    → (other : ℕ) (e : Channel) → channel_at new other ≡ Some e → Was t other e
was_steady t new seat c c' there st ch other e also = ⊎_elim
    (λ same. subst (λ (x : Channel). Was t other x) (same_Some c' e (sym ch.there ∙ ap (channel_at new) (sym (eqb-true other seat same)) ∙ also)) (record {
      channel = c;
      there = ap (channel_at t) (eqb-true other seat same) ∙ there;
      address = st.address;
      remote = st.remote;
      shadowed = st.shadowed;
      waits = steady_waits c c' st;
    }))
    (λ apart. record { channel = e; there = sym (ch.others other (eqb-false other seat apart)) ∙ also; address = refl; remote = refl; shadowed = refl; waits = refl })
    (cases_Bool (eqb other seat))

pub steady_seated : (d : Descriptor) (t new : Seats) (lives : ℕ → Option Life) (seat : ℕ) (c c' : Channel) (past : List Record)
    → Seated d t lives past → channel_at t seat ≡ Some c → Steady c c' → is_begun c'.opening ≡ is_begun c.opening → AreSeats new.channels → Changes t new seat (Some c') → Seated d new lives past
steady_seated d t new lives seat c c' past s there st begun are ch = record {
  are = are;
  each = each_by (λ (k : ℕ). StandsAt d (channel_at new k) (lives k) past) seat
      (subst (λ (o : Option Channel). StandsAt d o (lives seat) past) (sym ch.there)
      (at_steady d c c' (lives seat) past st begun (subst (λ (o : Option Channel). StandsAt d o (lives seat) past) there (s.each seat))))
      (λ other ne. subst (λ (o : Option Channel). StandsAt d o (lives other) past) (sym (ch.others other ne)) (s.each other));
  apart = still_apart d t new lives past seat c c' s there (steady_alike c c' st) ch;
  blank = λ other e l also lives_there waits remote some.
      let x = was_steady t new seat c c' there st ch other e also in
      ⊎_elim
      (λ blank. inl blank)
      (λ elsewhere. ⊎_elim
      (λ shadowed. inr (inl (x.shadowed ∙ shadowed)))
      (λ source. inr (inr (
        source.0,
        ap (λ (a : Address). is_source a remote (channel_at new source.0)) x.address ∙ source_moves t new seat c c' there st ch x.channel.address remote source.0 source.1,
      )))
      elsewhere)
      (s.blank other x.channel l x.there lives_there (sym x.waits ∙ waits) remote some);
  unknown = λ other e also waits.
      let x = was_steady t new seat c c' there st ch other e also in x.remote ∙ s.unknown other x.channel x.there (sym x.waits ∙ waits);
}

pub steady_tells : (d : Descriptor) (t new : Seats) (lives : ℕ → Option Life) (seat : ℕ) (c c' : Channel) (past : List Record) → channel_at t seat ≡ Some c → Steady c c' → Changes t new seat (Some c')
    → (other : ℕ) → read_at d new lives past other ≡ read_at d t lives past other
steady_tells d t new lives seat c c' past there st ch other = ⊎_elim
    (λ same. ap (λ (k : ℕ). read_at d new lives past k) (eqb-true other seat same) ∙ ap (λ (o : Option Channel). read_of d o (lives seat) past) ch.there
    ∙ told_steady d c c' (lives seat) past st
    ∙ sym (ap (λ (k : ℕ). read_at d t lives past k) (eqb-true other seat same) ∙ ap (λ (o : Option Channel). read_of d o (lives seat) past) there))
    (λ apart. ap (λ (o : Option Channel). read_of d o (lives other) past) (ch.others other (eqb-false other seat apart)))
    (cases_Bool (eqb other seat))

-- ---- which changes are such

pub steady_wrote : (c : Channel) (moment : ℕ) → Steady c (record c { wrote = moment })
steady_wrote c moment = record { address = refl; local = refl; remote = refl; state = refl; dialled = refl; made = refl; heard = refl; shadowed = refl }

still_dialled : (o : Opening) → is_dialled (unreplied o) ≡ is_dialled o
still_dialled (Dialled handshakes) = refl
still_dialled (Answered replied) = refl

-- a reply that is due again was sent, or wasn't
pub still_begun : (o : Opening) → is_begun (unreplied o) ≡ is_begun o
still_begun (Dialled handshakes) = refl
still_begun (Answered Due) = refl
still_begun (Answered Sent) = refl
still_begun (Answered DueAgain) = refl

pub still_opened : (o : Opening) → is_dialled (with_handshake o) ≡ is_dialled o
still_opened (Dialled handshakes) = refl
still_opened (Answered replied) = refl

pub steady_again : (c : Channel) → Steady c (record c { opening = unreplied c.opening })
steady_again c = record { address = refl; local = refl; remote = refl; state = refl; dialled = still_dialled c.opening; made = refl; heard = refl; shadowed = refl }

-- after a handshake was sent, one was
counted : (n : ℕ) → nat_lt 0 (min (n + 1) 255) ≡ true
counted n = lt-ltb 0 (min (n + 1) 255) (omega arith)

pub now_begun : (o : Opening) → is_begun (with_handshake o) ≡ true
now_begun (Dialled handshakes) = counted handshakes
now_begun (Answered at) = refl

pub steady_shaken : (c : Channel) → Steady c (record c { opening = with_handshake c.opening })
steady_shaken c = record { address = refl; local = refl; remote = refl; state = refl; dialled = still_opened c.opening; made = refl; heard = refl; shadowed = refl }

-- ---- a channel that this peer is to open

pub dials_seated : (d : Descriptor) (t new : Seats) (lives : ℕ → Option Life) (seat : ℕ) (receiver : Address) (moment local : ℕ) (past : List Record)
    → Seated d t lives past → channel_at t seat ≡ None → AreSeats new.channels → Changes t new seat (Some (dialled receiver moment local))
    → Seated d new (with_life seat None lives) past
dials_seated d t new lives seat receiver moment local past s free are ch =
    let c' = dialled receiver moment local in
    let lives' = with_life seat None lives in
    let living_there : lives' seat ≡ None = cond-true (eqb seat seat) None (lives seat) (eq-eqb seat seat refl) in
    let living_else : (other : ℕ) → eqb other seat ≡ false → lives' other ≡ lives other = λ other apart. cond-false (eqb other seat) None (lives other) apart in
    let was_else : (other : ℕ) (e : Channel) → eqb other seat ≡ false → channel_at new other ≡ Some e → channel_at t other ≡ Some e = λ other e apart also. sym (ch.others other (eqb-false other seat apart)) ∙ also in
    let is_there : (other : ℕ) (e : Channel) → eqb other seat ≡ true → channel_at new other ≡ Some e → c' ≡ e = λ other e same also. same_Some c' e (sym ch.there ∙ ap (channel_at new) (sym (eqb-true other seat same)) ∙ also) in
    let hasnt : IsUnbegun c' = record { none = refl; waits = refl } in
    record {
      are = are;
      each = each_by (λ (k : ℕ). StandsAt d (channel_at new k) (lives' k) past) seat
          (subst (λ (o : Option Channel). StandsAt d o (lives' seat) past) (sym ch.there)
          (subst (λ (l : Option Life). StandsAt d (Some c') l past) (sym living_there) hasnt))
          (λ other ne. subst (λ (x : Option Life). StandsAt d (channel_at new other) x past) (sym (living_else other (ne_eqb other seat ne)))
          (subst (λ (o : Option Channel). StandsAt d o (lives other) past) (sym (ch.others other ne)) (s.each other)));
      apart = λ one other a e n at_one at_other ra re same. ⊎_elim
          (λ one_is. absurd (let x = ap (λ (z : Channel). z.remote) (is_there one a one_is at_one) ∙ ra in cc))
          (λ one_apart. ⊎_elim
          (λ other_is. absurd (let x = ap (λ (z : Channel). z.remote) (is_there other e other_is at_other) ∙ re in cc))
          (λ other_apart. s.apart one other a e n (was_else one a one_apart at_one) (was_else other e other_apart at_other) ra re same)
          (cases_Bool (eqb other seat)))
          (cases_Bool (eqb one seat));
      blank = λ other e l also lives_there waits. ⊎_elim
          (λ same. absurd (let x = sym living_there ∙ ap lives' (sym (eqb-true other seat same)) ∙ lives_there in cc))
          (λ apart. λ n some. ⊎_elim
          (λ blank. inl blank)
          (λ elsewhere. ⊎_elim
          (λ shadowed. inr (inl shadowed))
          (λ source. ⊎_elim
          (λ here. absurd (let none = ap (is_source e.address n) (sym (ap (channel_at t) (eqb-true source.0 seat here) ∙ free)) ∙ source.1 in cc))
          (λ there. inr (inr (source.0, ap (is_source e.address n) (ch.others source.0 (eqb-false source.0 seat there)) ∙ source.1)))
          (cases_Bool (eqb source.0 seat)))
          elsewhere)
          (s.blank other e l (was_else other e apart also) (sym (living_else other apart) ∙ lives_there) waits n some))
          (cases_Bool (eqb other seat));
      unknown = λ other e also waits. ⊎_elim
          (λ same. ap (λ (z : Channel). z.remote) (sym (is_there other e same also)))
          (λ apart. s.unknown other e (was_else other e apart also) waits)
          (cases_Bool (eqb other seat));
    }
