-- The reply to a dialled channel.
use Rattle.std.proofs.Common.{◌≡◌, inl, inr, ⊎_elim, ℕ, ◌<◌, max, eqb, leb, Bool, true, false, ◌&&◌, Option, Some, None, List, ◌∷◌, length, refl, sym, ◌∙◌, ap, subst, arith}
use Rattle.std.proofs.lemmas.Bool.{cases_Bool, or_left, or_right, and_from, and_right, both_ways, cond-true, cond-false, eqb-true, eqb-false, eq-eqb, ne_eqb, le-leb}
use Rattle.std.proofs.lemmas.Option.{same_Some}
use Rattle.pp_terms.specs.format.Traffic as traffic
use Rattle.pp_terms.specs.format.Traffic.{Record, Received, Sent, same_address}
use Rattle.pp_terms.specs.format.Descriptor.{Descriptor}
use Rattle.pp_traffic.specs.Past.{now, read, comes_from, is_number, some_since, is_at}
use Rattle.pp_traffic.specs.Life.{Life, greets, answers, begins, begins_fitting, comes_on, shakes_on, closes, is_closed}
use Rattle.pp_traffic.specs.Story.{Line}
use Rattle.pp_traffic.proofs.OneMore.{closed_no}
use Rattle.pp_outside.specs.Outside.{address_of, is_same}
use Rattle.pp_outside.specs.declared.link.Address.{Address}
use Rattle.pp_channels.specs.Seats.{AreSeats, is_begun, is_source, has_remote, is_dialled}
use Rattle.pp_channels.specs.Timing.{is_greeted}
use Rattle.pp_channels.specs.declared.channel.Channel.{Channel}
use Rattle.pp_lives.specs.Reading.{opens, is_blank}
use Rattle.pp_promises.specs.ReadStory.{read_story}
use Rattle.pp_lives.specs.Reading.{is_waiting}
use Rattle.pp_channels.specs.Seats.{Seats, channel_at}
use Rattle.pp_lives.specs.Standing.{Stands, StandsAt, once_known, read_of, read_at, Seated}
use Rattle.pp_lives.specs.Calls.{Changes, with_life, replied, as_dial, TellsFirst}
use Rattle.pp_lives.specs.Arrived.{IsRepliedBy}
use Rattle.pp_lives.proofs.Each.{each_by}
use Rattle.pp_lives.proofs.Bare.{bare_more, blank_bare}
use Rattle.pp_lives.proofs.Telling.{since_same, now_later, heard_now, read_more, replied_read, fitting_begins}
use Rattle.pp_lives.proofs.Staying.{Misses, began, waits_dialled, at_apart, blank_missed}
use Rattle.pp_lives.proofs.Own.{stands_of, others_apart, missed_by, at_seat_now, at_others, told_is, told_missed}
use Rattle.pp_lives.proofs.Sent.{same_self}

-- The datagram begins with the reply, from another number of an address than any seat has.
pub record IsReplyFor (d : Descriptor) (t : Seats) (seat : ℕ) (c : Channel) (remote : ℕ) (r : Record) : Type 0 where
  pub there : channel_at t seat ≡ Some c
  pub waits : is_waiting c ≡ true
  pub from : comes_from (address_of c.address) r ≡ true
  pub number : (read d r).channel ≡ Some c.local
  pub fitting : begins_fitting d true remote (read d r).messages.read ≡ true
  pub some : 0 < remote
  pub unshadowed : c.shadowed ≡ false
  pub new_source : (other : ℕ) → is_source c.address remote (channel_at t other) ≡ false

pub dial_is : (d : Descriptor) (c : Channel) (life : Life) (past : List Record) → Stands d c life past → is_waiting c ≡ true → (remote : ℕ)
    → record life { remote = remote } ≡ as_dial life remote
dial_is d c life past s waits remote =
    ap (λ (b : Bool). let x : Life = record { address = life.address; local = life.local; remote = remote; is_dialled = b; opening = life.opening } in x) (s.dialled ∙ waits_dialled c waits)

-- until its reply nothing was said on the channel
blank_until : (d : Descriptor) (t : Seats) (lives : ℕ → Option Life) (seat : ℕ) (c : Channel) (life : Life) (remote : ℕ) (past : List Record) (r : Record)
    → Seated d t lives past → IsReplyFor d t seat c remote r → lives seat ≡ Some life → is_blank (read_story d (as_dial life remote) past) ≡ true
blank_until d t lives seat c life remote past r s is living =
    let st = stands_of d (channel_at t seat) (lives seat) c life past (s.each seat) is.there living in
    ap (λ (x : Life). is_blank (read_story d x past)) (sym (dial_is d c life past st is.waits remote)) ∙ ⊎_elim
    (λ blank. blank)
    (λ elsewhere. ⊎_elim
    (λ shadowed. absurd (both_ways c.shadowed is.unshadowed shadowed))
    (λ source. absurd (both_ways (is_source c.address remote (channel_at t source.0)) (is.new_source source.0) source.1))
    elsewhere)
    (s.blank seat c life is.there living is.waits remote is.some)

stands_replied : (d : Descriptor) (t : Seats) (seat : ℕ) (c : Channel) (life : Life) (remote moment : ℕ) (sender : traffic.Address) (bytes : List ℕ) (past : List Record)
    → closes (read d (Received moment sender bytes)).messages.read ≡ false
    → IsReplyFor d t seat c remote (Received moment sender bytes) → Stands d c life past → is_blank (read_story d (as_dial life remote) past) ≡ true
    → Stands d (replied remote (max moment (now past)) c) (as_dial life remote) (Received moment sender bytes ∷ past)
stands_replied d t seat c life remote moment sender bytes past open_still is s blank =
    let r = Received moment sender bytes in
    let new = as_dial life remote in
    let lt = began d c life past s in
    let g = s.goes in
    let dialled : life.is_dialled ≡ true = s.dialled ∙ waits_dialled c is.waits in
    let same : life ≡ as_dial life life.remote = dial_is d c life past s is.waits life.remote in
    let from : comes_from life.address r ≡ true = subst (λ (a : traffic.Address). comes_from a r ≡ true) (sym s.address) is.from in
    let on : comes_on d new r ≡ true = and_from (comes_from life.address r) (is_number life.local (read d r).channel) from (ap (is_number life.local) is.number ∙ eq-eqb c.local life.local (sym s.local)) in
    let shakes : shakes_on d new r ≡ true = and_from (comes_on d new r) (begins (read d r).messages.read) on (fitting_begins d true remote (read d r).messages.read is.fitting) in
    let here : leb life.opening (length past) ≡ true = le-leb life.opening (length past) (omega arith) in
    let greeted : some_since (greets d new) life.opening (r ∷ past) ≡ true = or_left (leb life.opening (length past) && greets d new r) (some_since (greets d new) life.opening past)
    (and_from (leb life.opening (length past)) (greets d new r) here (and_from (comes_from life.address r && is_number life.local (read d r).channel) (begins_fitting d true remote (read d r).messages.read) on is.fitting)) in
    record {
      address = s.address;
      local = s.local;
      dialled = sym (waits_dialled c is.waits);
      remote = λ k. (refl, is.some);
      local_some = s.local_some;
      opened = or_right (eqb life.opening (length past) && answers d new r) (is_at (answers d new) life.opening past)
          (subst (λ (l : Life). is_at (opens d l) life.opening past ≡ true) same s.opened);
      made = s.made ∙ sym (now_later life.opening r past lt);
      goes = record {
        open_still = closed_no d new r past (and_right (comes_on d new r) (closes (read d r).messages.read) open_still) (subst (λ (l : Life). is_closed d l past ≡ false) same g.open_still);
        has_begun = subst (λ (l : Life). is_begun c.opening ≡ some_since (answers d l) life.opening past) same g.has_begun ∙ sym (since_same (answers d new) life.opening r past refl);
        proven = sym (or_left (leb life.opening (length past) && shakes_on d new r) (some_since (shakes_on d new) life.opening past) (and_from (leb life.opening (length past)) (shakes_on d new r) here shakes));
        heard = λ p. heard_now d new r past lt on;
        greeted = λ k. greeted;
        bare = λ k. bare_more d new r past (omega (arith, lt)) (replied_read d new (r ∷ past) greeted) (blank_bare d new past blank);
      };
    }

-- no seat had the peer's number, so none but this has it now
source_other : (a : Address) (remote : ℕ) (e : Channel) → e.remote ≡ Some remote → address_of e.address ≡ address_of a → is_source a remote (Some e) ≡ true
source_other a remote e re same = and_from (has_remote remote e.remote) (is_same e.address a) (ap (has_remote remote) re ∙ eq-eqb remote remote refl)
    (subst (λ (x : traffic.Address). same_address x (address_of a) ≡ true) (sym same) (same_self (address_of a)))

pub replied_seated : (d : Descriptor) (t new : Seats) (lives : ℕ → Option Life) (seat : ℕ) (c : Channel) (life : Life) (remote moment : ℕ) (sender : traffic.Address) (bytes : List ℕ) (past : List Record)
    → Seated d t lives past → IsReplyFor d t seat c remote (Received moment sender bytes) → lives seat ≡ Some life
    → AreSeats new.channels → Changes t new seat (Some (replied remote (max moment (now past)) c))
    → closes (read d (Received moment sender bytes)).messages.read ≡ false
    → Seated d new (with_life seat (Some (as_dial life remote)) lives) (Received moment sender bytes ∷ past)
replied_seated d t new lives seat c life remote moment sender bytes past s is living are ch open_still =
    let r = Received moment sender bytes in
    let ms = (read d r).messages.read in
    let c' = replied remote (max moment (now past)) c in
    let l' = as_dial life remote in
    let lives' = with_life seat (Some l') lives in
    let st = stands_of d (channel_at t seat) (lives seat) c life past (s.each seat) is.there living in
    let unwaits : is_waiting c' ≡ false = and_right (is_dialled c.opening) (is_greeted c'.state) refl in
    let living_there : lives' seat ≡ Some l' = cond-true (eqb seat seat) (Some l') (lives seat) (eq-eqb seat seat refl) in
    let living_else : (other : ℕ) → eqb other seat ≡ false → lives' other ≡ lives other = λ other apart. cond-false (eqb other seat) (Some l') (lives other) apart in
    -- the channel at a seat, old or new
    let was_else : (other : ℕ) (e : Channel) → eqb other seat ≡ false → channel_at new other ≡ Some e → channel_at t other ≡ Some e = λ other e apart also. sym (ch.others other (eqb-false other seat apart)) ∙ also in
    let is_there : (other : ℕ) (e : Channel) → eqb other seat ≡ true → channel_at new other ≡ Some e → c' ≡ e = λ other e same also. same_Some c' e (sym ch.there ∙ ap (channel_at new) (sym (eqb-true other seat same)) ∙ also) in
    let misses : (other : ℕ) (e : Channel) (l : Life) → eqb other seat ≡ false → channel_at t other ≡ Some e → lives other ≡ Some l → Misses d e l r =
    λ other e l apart also lives_there. missed_by d e l r (others_apart d t lives past seat c r s is.there is.number other e l (eqb-false other seat apart) also lives_there) in
    record {
      are = are;
      each = each_by (λ (k : ℕ). StandsAt d (channel_at new k) (lives' k) (r ∷ past)) seat
          (at_seat_now d (channel_at new seat) (lives' seat) c' l' (r ∷ past) ch.there living_there
          (stands_replied d t seat c life remote moment sender bytes past open_still is st (blank_until d t lives seat c life remote past (Received moment sender bytes) s is living)))
          (λ other ne. subst (λ (x : Option Life). StandsAt d (channel_at new other) x (r ∷ past)) (sym (living_else other (ne_eqb other seat ne)))
          (at_others d t new seat (Some c') (lives other) (r ∷ past) other ne ch
          (at_apart d (channel_at t other) (lives other) r past (λ e l also lives_there. (refl, misses other e l (ne_eqb other seat ne) also lives_there)) (s.each other))));
      apart = λ one other a e n at_one at_other ra re same. ⊎_elim
          (λ one_is. ⊎_elim
          (λ other_is. eqb-true one seat one_is ∙ sym (eqb-true other seat other_is))
          (λ other_apart.
          let mine = is_there one a one_is at_one in
          let n_is : remote ≡ n = same_Some remote n (ap (λ (x : Channel). x.remote) mine ∙ ra) in
          absurd (both_ways (is_source c.address remote (channel_at t other)) (is.new_source other)
          (ap (is_source c.address remote) (was_else other e other_apart at_other) ∙ source_other c.address remote e (re ∙ ap (λ (k : ℕ). Some k) (sym n_is)) (sym same ∙ ap (λ (x : Channel). address_of x.address) (sym mine)))))
          (cases_Bool (eqb other seat)))
          (λ one_apart. ⊎_elim
          (λ other_is.
          let mine = is_there other e other_is at_other in
          let n_is : remote ≡ n = same_Some remote n (ap (λ (x : Channel). x.remote) mine ∙ re) in
          absurd (both_ways (is_source c.address remote (channel_at t one)) (is.new_source one)
          (ap (is_source c.address remote) (was_else one a one_apart at_one) ∙ source_other c.address remote a (ra ∙ ap (λ (k : ℕ). Some k) (sym n_is)) (same ∙ ap (λ (x : Channel). address_of x.address) (sym mine)))))
          (λ other_apart. s.apart one other a e n (was_else one a one_apart at_one) (was_else other e other_apart at_other) ra re same)
          (cases_Bool (eqb other seat)))
          (cases_Bool (eqb one seat));
      blank = λ other e l also lives_there waits. ⊎_elim
          (λ same. absurd (both_ways (is_waiting c') unwaits (ap is_waiting (is_there other e same also) ∙ waits)))
          (λ apart.
          let before = was_else other e apart also in
          let lived = sym (living_else other apart) ∙ lives_there in
          let su = stands_of d (channel_at t other) (lives other) e l past (s.each other) before lived in
          λ n some. ⊎_elim
          (λ blank. inl (ap is_blank (blank_missed d e l n moment sender bytes past su (misses other e l apart before lived) waits) ∙ blank))
          (λ elsewhere. ⊎_elim
          (λ shadowed. inr (inl shadowed))
          (λ source. ⊎_elim
          (λ here. absurd (both_ways (is_source e.address n (Some c)) (none_yet e.address n c (s.unknown seat c is.there is.waits)) (ap (is_source e.address n) (sym (ap (channel_at t) (eqb-true source.0 seat here) ∙ is.there)) ∙ source.1)))
          (λ there. inr (inr (source.0, ap (is_source e.address n) (ch.others source.0 (eqb-false source.0 seat there)) ∙ source.1)))
          (cases_Bool (eqb source.0 seat)))
          elsewhere)
          (s.blank other e l before lived waits n some))
          (cases_Bool (eqb other seat));
      unknown = λ other e also waits. ⊎_elim
          (λ same. absurd (both_ways (is_waiting c') unwaits (ap is_waiting (is_there other e same also) ∙ waits)))
          (λ apart. s.unknown other e (was_else other e apart also) waits)
          (cases_Bool (eqb other seat));
    }
  where
    none_yet : (a : Address) (n : ℕ) (x : Channel) → x.remote ≡ None → is_source a n (Some x) ≡ false
    none_yet a n x none = ap (λ (o : Option ℕ). has_remote n o && is_same x.address a) none

-- so the record is the reply to the dial
pub replied_by : (d : Descriptor) (t : Seats) (lives : ℕ → Option Life) (seat : ℕ) (c : Channel) (life : Life) (remote : ℕ) (r : Record) (past : List Record)
    → Seated d t lives past → IsReplyFor d t seat c remote r → lives seat ≡ Some life → IsRepliedBy d r past (as_dial life remote)
replied_by d t lives seat c life remote r past s is living =
    let l' = as_dial life remote in
    let st = stands_of d (channel_at t seat) (lives seat) c life past (s.each seat) is.there living in
    let lt = began d c life past st in
    let from : comes_from life.address r ≡ true = subst (λ (a : traffic.Address). comes_from a r ≡ true) (sym st.address) is.from in
    let on : comes_on d l' r ≡ true = and_from (comes_from life.address r) (is_number life.local (read d r).channel) from (ap (is_number life.local) is.number ∙ eq-eqb c.local life.local (sym st.local)) in
    let greets_it : greets d l' r ≡ true = and_from (comes_from life.address r && is_number life.local (read d r).channel) (begins_fitting d true remote (read d r).messages.read) on is.fitting in
    record {
      begun = lt;
      dialled = refl;
      on = on;
      reads = replied_read d l' (r ∷ past) (or_left (leb life.opening (length past) && greets d l' r) (some_since (greets d l') life.opening past)
          (and_from (leb life.opening (length past)) (greets d l' r) (le-leb life.opening (length past) (omega (arith, lt))) greets_it));
      blank = blank_until d t lives seat c life remote past r s is living;
    }

-- what is read of it begins
pub replied_tells : (d : Descriptor) (t new : Seats) (lives : ℕ → Option Life) (seat : ℕ) (c : Channel) (life : Life) (remote moment : ℕ) (sender : traffic.Address) (bytes : List ℕ) (past : List Record)
    → Seated d t lives past → IsReplyFor d t seat c remote (Received moment sender bytes) → lives seat ≡ Some life
    → Changes t new seat (Some (replied remote (max moment (now past)) c))
    → TellsFirst (max moment (now past)) seat (read d (Received moment sender bytes)).messages.read (read_at d t lives past)
    (read_at d new (with_life seat (Some (as_dial life remote)) lives) (Received moment sender bytes ∷ past))
replied_tells d t new lives seat c life remote moment sender bytes past s is living ch =
    let r = Received moment sender bytes in
    let c' = replied remote (max moment (now past)) c in
    let l' = as_dial life remote in
    let lives' = with_life seat (Some l') lives in
    let st = stands_of d (channel_at t seat) (lives seat) c life past (s.each seat) is.there living in
    let unwaits : is_waiting c' ≡ false = and_right (is_dialled c.opening) (is_greeted c'.state) refl in
    let from : comes_from life.address r ≡ true = subst (λ (a : traffic.Address). comes_from a r ≡ true) (sym st.address) is.from in
    let on : comes_on d l' r ≡ true = and_from (comes_from life.address r) (is_number life.local (read d r).channel) from (ap (is_number life.local) is.number ∙ eq-eqb c.local life.local (sym st.local)) in
    let lt = began d c life past st in
    let greets_it : greets d l' r ≡ true = and_from (comes_from life.address r && is_number life.local (read d r).channel) (begins_fitting d true remote (read d r).messages.read) on is.fitting in
    let greeted : some_since (greets d l') life.opening (r ∷ past) ≡ true = or_left (leb life.opening (length past) && greets d l' r) (some_since (greets d l') life.opening past)
    (and_from (leb life.opening (length past)) (greets d l' r) (le-leb life.opening (length past) (omega arith)) greets_it) in
    record {
      none = ap (λ (o : Option Channel). read_of d o (lives seat) past) is.there ∙ ap (λ (x : Option Life). read_of d (Some c) x past) living ∙ ap (λ (b : Bool). once_known b (read_story d life past)) is.waits;
      own = record {
        before = read_story d l' past;
        nothing = blank_until d t lives seat c life remote past r s is living;
        is = told_is d (channel_at new seat) (lives' seat) c' l' (r ∷ past) ch.there (cond-true (eqb seat seat) (Some l') (lives seat) (eq-eqb seat seat refl)) unwaits
            ∙ ap (λ (x : List Line). Some x) (read_more d l' moment sender bytes past (began d c life past st)
            (replied_read d l' (r ∷ past) greeted) on);
      };
      others = λ other ne.
          ap (λ (o : Option Channel). read_of d o (lives' other) (r ∷ past)) (ch.others other ne)
          ∙ ap (λ (x : Option Life). read_of d (channel_at t other) x (r ∷ past)) (cond-false (eqb other seat) (Some l') (lives other) (ne_eqb other seat ne))
          ∙ told_missed d (channel_at t other) (lives other) moment sender bytes past (s.each other)
          (λ e l also lives_there. missed_by d e l r (others_apart d t lives past seat c r s is.there is.number other e l ne also lives_there));
    }
