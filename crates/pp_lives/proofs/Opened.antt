-- A handshake that opens a channel at a free seat.
use Rattle.std.proofs.Common.{◌≡◌, inl, inr, ⊎_elim, ℕ, ◌<◌, ◌≤◌, max, eqb, leb, ltb, true, false, not, ◌||◌, ◌&&◌, Option, Some, None, List, [], ◌∷◌, length, drop, refl, sym, ◌∙◌, ap, subst, arith}
use Rattle.std.proofs.lemmas.Bool.{cases_Bool, or_left, and_from, and_left, and_right, or_from, both_ways, cond-true, cond-false, eqb-true, eqb-false, eq-eqb, ne_eqb, le-leb, le-ltb}
use Rattle.std.proofs.lemmas.Option.{same_Some}
use Rattle.pp_terms.specs.format.Traffic as traffic
use Rattle.pp_terms.specs.format.Traffic.{Record, Received, Sent, same_address}
use Rattle.pp_terms.specs.format.Descriptor.{Descriptor}
use Rattle.pp_traffic.specs.Past.{now, now_at, read, comes_from, is_number, some_since, is_at}
use Rattle.pp_traffic.specs.Life.{Life, greets, answers, begins_fitting, comes_on, shakes_on, closes_on, is_closed}
use Rattle.pp_traffic.specs.Story.{Line}
use Rattle.pp_traffic.proofs.Plains.{none_from_end}
use Rattle.pp_outside.specs.Outside.{address_of, is_same}
use Rattle.pp_outside.specs.declared.link.Address.{Address}
use Rattle.pp_channels.specs.Seats.{AreSeats, is_source, has_remote, answered}
use Rattle.pp_channels.specs.declared.channel.Channel.{Channel}
use Rattle.pp_promises.proofs.ReadStories.{unread_before}
use Rattle.pp_lives.specs.Reading.{is_blank}
use Rattle.pp_promises.specs.ReadStory.{read_story}
use Rattle.pp_lives.specs.Reading.{is_waiting}
use Rattle.pp_channels.specs.Seats.{Seats, channel_at}
use Rattle.pp_lives.specs.Standing.{Stands, StandsAt, read_of, read_at, Seated}
use Rattle.pp_lives.specs.Calls.{Changes, with_life, opened_life, TellsFirst}
use Rattle.pp_lives.proofs.Each.{each_by}
use Rattle.pp_lives.proofs.Bare.{bare_more, bare_before}
use Rattle.pp_lives.proofs.Telling.{since_same}
use Rattle.pp_lives.proofs.Staying.{at_apart, blank_missed}
use Rattle.pp_lives.proofs.Own.{stands_of, at_seat_now, told_is, told_missed}
use Rattle.pp_lives.proofs.Missed.{zero_misses}
use Rattle.pp_lives.proofs.Sent.{same_self}

-- The datagram is for channel 0 and begins with a handshake, from another number of its address than any seat has.
pub record IsOpeningFor (d : Descriptor) (t : Seats) (seat : ℕ) (sender : Address) (remote local : ℕ) (r : Record) : Type 0 where
  pub free : channel_at t seat ≡ None
  pub from : comes_from (address_of sender) r ≡ true
  pub number : (read d r).channel ≡ Some 0
  pub fitting : begins_fitting d false remote (read d r).messages.read ≡ true
  pub some : 0 < remote
  pub local_some : 0 < local
  pub new_source : (other : ℕ) → is_source sender remote (channel_at t other) ≡ false

-- nothing closed it before it began
pub none_closed : (d : Descriptor) (life : Life) (past : List Record) → length past ≤ life.opening → is_closed d life past ≡ false
none_closed d life [] le = refl
none_closed d life (r ∷ past) le =
    or_from (ltb life.opening (length past) && closes_on d life r && (not life.is_dialled || shakes_on d life r || some_since (shakes_on d life) life.opening past)) (is_closed d life past)
    (and_left (ltb life.opening (length past) && closes_on d life r) (not life.is_dialled || shakes_on d life r || some_since (shakes_on d life) life.opening past)
    (and_left (ltb life.opening (length past)) (closes_on d life r) (le-ltb life.opening (length past) (omega arith))))
    (none_closed d life past (omega arith))

pub closed_at_opening : (d : Descriptor) (life : Life) (r : Record) (past : List Record) → length past ≤ life.opening → is_closed d life (r ∷ past) ≡ false
closed_at_opening d life r past le =
    or_from (ltb life.opening (length past) && closes_on d life r && (not life.is_dialled || shakes_on d life r || some_since (shakes_on d life) life.opening past)) (is_closed d life past)
    (and_left (ltb life.opening (length past) && closes_on d life r) (not life.is_dialled || shakes_on d life r || some_since (shakes_on d life) life.opening past)
    (and_left (ltb life.opening (length past)) (closes_on d life r) (le-ltb life.opening (length past) le)))
    (none_closed d life past le)

stands_opened : (d : Descriptor) (t : Seats) (seat : ℕ) (sender : Address) (remote local moment : ℕ) (bytes : List ℕ) (past : List Record)
    → IsOpeningFor d t seat sender remote local (Received moment (address_of sender) bytes)
    → Stands d (answered sender remote (max moment (now past)) local) (opened_life (address_of sender) local remote (length past)) (Received moment (address_of sender) bytes ∷ past)
stands_opened d t seat sender remote local moment bytes past is =
    let r = Received moment (address_of sender) bytes in
    let life = opened_life (address_of sender) local remote (length past) in
    let greets_now : greets d life r ≡ true = and_from (comes_from life.address r && is_number 0 (read d r).channel) (begins_fitting d false remote (read d r).messages.read)
    (and_from (comes_from life.address r) (is_number 0 (read d r).channel) is.from (ap (is_number 0) is.number)) is.fitting in
    let apart : comes_on d life r ≡ false = and_right (comes_from life.address r) (is_number local (read d r).channel)
    (ap (is_number local) is.number ∙ ne_eqb 0 local (λ e. let some = is.local_some in omega arith)) in
    record {
      address = refl;
      local = refl;
      dialled = refl;
      remote = λ k. (refl, is.some);
      local_some = is.local_some;
      opened = or_left (eqb (length past) (length past) && greets d life r) (is_at (greets d life) (length past) past)
          (and_from (eqb (length past) (length past)) (greets d life r) (eq-eqb (length past) (length past) refl) greets_now);
      made = sym (cond-true (eqb (length past) (length past)) (max moment (now past)) (now_at (length past) past) (eq-eqb (length past) (length past) refl));
      goes = record {
        open_still = closed_at_opening d life r past (omega arith);
        has_begun = sym (since_same (answers d life) (length past) r past refl ∙ none_from_end (answers d life) (length past) past (omega arith));
        proven = sym (since_same (comes_on d life) (length past) r past apart ∙ none_from_end (comes_on d life) (length past) past (omega arith));
        heard = λ p. absurd cc;
        greeted = λ k. or_left (leb (length past) (length past) && greets d life r) (some_since (greets d life) (length past) past)
            (and_from (leb (length past) (length past)) (greets d life r) (le-leb (length past) (length past) (omega arith)) greets_now);
        bare = λ k. bare_more d life r past (omega arith) refl (bare_before d life past (omega arith));
      };
    }

pub source_other : (a : Address) (remote : ℕ) (e : Channel) → e.remote ≡ Some remote → address_of e.address ≡ address_of a → is_source a remote (Some e) ≡ true
source_other a remote e re same = and_from (has_remote remote e.remote) (is_same e.address a) (ap (has_remote remote) re ∙ eq-eqb remote remote refl)
    (subst (λ (x : traffic.Address). same_address x (address_of a) ≡ true) (sym same) (same_self (address_of a)))

pub opened_seated : (d : Descriptor) (t new : Seats) (lives : ℕ → Option Life) (seat : ℕ) (sender : Address) (remote local moment : ℕ) (bytes : List ℕ) (past : List Record)
    → Seated d t lives past → IsOpeningFor d t seat sender remote local (Received moment (address_of sender) bytes)
    → AreSeats new.channels → Changes t new seat (Some (answered sender remote (max moment (now past)) local))
    → Seated d new (with_life seat (Some (opened_life (address_of sender) local remote (length past))) lives) (Received moment (address_of sender) bytes ∷ past)
opened_seated d t new lives seat sender remote local moment bytes past s is are ch =
    let r = Received moment (address_of sender) bytes in
    let c' = answered sender remote (max moment (now past)) local in
    let l' = opened_life (address_of sender) local remote (length past) in
    let lives' = with_life seat (Some l') lives in
    let living_there : lives' seat ≡ Some l' = cond-true (eqb seat seat) (Some l') (lives seat) (eq-eqb seat seat refl) in
    let living_else : (other : ℕ) → eqb other seat ≡ false → lives' other ≡ lives other = λ other apart. cond-false (eqb other seat) (Some l') (lives other) apart in
    let was_else : (other : ℕ) (e : Channel) → eqb other seat ≡ false → channel_at new other ≡ Some e → channel_at t other ≡ Some e = λ other e apart also. sym (ch.others other (eqb-false other seat apart)) ∙ also in
    let is_there : (other : ℕ) (e : Channel) → eqb other seat ≡ true → channel_at new other ≡ Some e → c' ≡ e = λ other e same also. same_Some c' e (sym ch.there ∙ ap (channel_at new) (sym (eqb-true other seat same)) ∙ also) in
    let misses = zero_misses d t lives r past s is.number in
    record {
      are = are;
      each = each_by (λ (k : ℕ). StandsAt d (channel_at new k) (lives' k) (r ∷ past)) seat
          (at_seat_now d (channel_at new seat) (lives' seat) c' l' (r ∷ past) ch.there living_there
          (stands_opened d t seat sender remote local moment bytes past is))
          (λ other ne. subst (λ (x : Option Life). StandsAt d (channel_at new other) x (r ∷ past)) (sym (living_else other (ne_eqb other seat ne)))
          (subst (λ (x : Option Channel). StandsAt d x (lives other) (r ∷ past)) (sym (ch.others other ne))
          (at_apart d (channel_at t other) (lives other) r past (λ e l also lives_there. (refl, misses other e l also lives_there)) (s.each other))));
      apart = λ one other a e n at_one at_other ra re same. ⊎_elim
          (λ one_is. ⊎_elim
          (λ other_is. eqb-true one seat one_is ∙ sym (eqb-true other seat other_is))
          (λ other_apart.
          let mine = is_there one a one_is at_one in
          let n_is : remote ≡ n = same_Some remote n (ap (λ (x : Channel). x.remote) mine ∙ ra) in
          absurd (both_ways (is_source sender remote (channel_at t other)) (is.new_source other)
          (ap (is_source sender remote) (was_else other e other_apart at_other) ∙ source_other sender remote e (re ∙ ap (λ (k : ℕ). Some k) (sym n_is)) (sym same ∙ ap (λ (x : Channel). address_of x.address) (sym mine)))))
          (cases_Bool (eqb other seat)))
          (λ one_apart. ⊎_elim
          (λ other_is.
          let mine = is_there other e other_is at_other in
          let n_is : remote ≡ n = same_Some remote n (ap (λ (x : Channel). x.remote) mine ∙ re) in
          absurd (both_ways (is_source sender remote (channel_at t one)) (is.new_source one)
          (ap (is_source sender remote) (was_else one a one_apart at_one) ∙ source_other sender remote a (ra ∙ ap (λ (k : ℕ). Some k) (sym n_is)) (same ∙ ap (λ (x : Channel). address_of x.address) (sym mine)))))
          (λ other_apart. s.apart one other a e n (was_else one a one_apart at_one) (was_else other e other_apart at_other) ra re same)
          (cases_Bool (eqb other seat)))
          (cases_Bool (eqb one seat));
      blank = λ other e l also lives_there waits. ⊎_elim
          (λ same. absurd (let w = ap is_waiting (is_there other e same also) ∙ waits in cc))
          (λ apart.
          let before = was_else other e apart also in
          let lived = sym (living_else other apart) ∙ lives_there in
          let su = stands_of d (channel_at t other) (lives other) e l past (s.each other) before lived in
          λ n some. ⊎_elim
          (λ blank. inl (ap is_blank (blank_missed d e l n moment (address_of sender) bytes past su (misses other e l before lived) waits) ∙ blank))
          (λ elsewhere. ⊎_elim
          (λ shadowed. inr (inl shadowed))
          (λ source. ⊎_elim
          (λ here. absurd (let none = ap (is_source e.address n) (sym (ap (channel_at t) (eqb-true source.0 seat here) ∙ is.free)) ∙ source.1 in cc))
          (λ there. inr (inr (source.0, ap (is_source e.address n) (ch.others source.0 (eqb-false source.0 seat there)) ∙ source.1)))
          (cases_Bool (eqb source.0 seat)))
          elsewhere)
          (s.blank other e l before lived waits n some))
          (cases_Bool (eqb other seat));
      unknown = λ other e also waits. ⊎_elim
          (λ same. absurd (let w = ap is_waiting (is_there other e same also) ∙ waits in cc))
          (λ apart. s.unknown other e (was_else other e apart also) waits)
          (cases_Bool (eqb other seat));
    }

-- what is read of it begins with what stands behind the handshake
pub opened_tells : (d : Descriptor) (t new : Seats) (lives : ℕ → Option Life) (seat : ℕ) (sender : Address) (remote local moment : ℕ) (bytes : List ℕ) (past : List Record)
    → Seated d t lives past → IsOpeningFor d t seat sender remote local (Received moment (address_of sender) bytes)
    → Changes t new seat (Some (answered sender remote (max moment (now past)) local))
    → TellsFirst (max moment (now past)) seat (drop 1 (read d (Received moment (address_of sender) bytes)).messages.read) (read_at d t lives past)
    (read_at d new (with_life seat (Some (opened_life (address_of sender) local remote (length past))) lives) (Received moment (address_of sender) bytes ∷ past))
opened_tells d t new lives seat sender remote local moment bytes past s is ch =
    let r = Received moment (address_of sender) bytes in
    let c' = answered sender remote (max moment (now past)) local in
    let l' = opened_life (address_of sender) local remote (length past) in
    let lives' = with_life seat (Some l') lives in
    let greets_now : greets d l' r ≡ true = and_from (comes_from l'.address r && is_number 0 (read d r).channel) (begins_fitting d false remote (read d r).messages.read)
    (and_from (comes_from l'.address r) (is_number 0 (read d r).channel) is.from (ap (is_number 0) is.number)) is.fitting in
    let since_opening : leb (length past) (length past) ≡ true = le-leb (length past) (length past) (omega arith) in
    let at_opening : eqb (length past) (length past) ≡ true = eq-eqb (length past) (length past) refl in
    let none : read_story d l' past ≡ [] = unread_before d l' past (omega arith) in
    record {
      none = ap (λ (o : Option Channel). read_of d o (lives seat) past) is.free;
      own = record {
        before = [];
        nothing = refl;
        is = told_is d (channel_at new seat) (lives' seat) c' l' (r ∷ past) ch.there (cond-true (eqb seat seat) (Some l') (lives seat) (eq-eqb seat seat refl)) refl
            ∙ ap (λ (x : List Line). Some x) (rw (since_opening, at_opening, none, greets_now) refl);
      };
      others = λ other ne.
          ap (λ (o : Option Channel). read_of d o (lives' other) (r ∷ past)) (ch.others other ne)
          ∙ ap (λ (x : Option Life). read_of d (channel_at t other) x (r ∷ past)) (cond-false (eqb other seat) (Some l') (lives other) (ne_eqb other seat ne))
          ∙ told_missed d (channel_at t other) (lives other) moment (address_of sender) bytes past (s.each other)
          (λ e l also lives_there. zero_misses d t lives r past s is.number other e l also lives_there);
    }
