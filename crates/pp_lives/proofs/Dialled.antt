-- This peer dials: a channel is made, and its handshake is sent, for the first time or again.
use Rattle.std.proofs.Common.{◌≡◌, ◌≢◌, inl, inr, ⊎_elim, ℕ, ◌<◌, eqb, leb, Bool, true, false, cond, not, ◌||◌, ◌&&◌, Option, Some, None, List, [], ◌∷◌, length, refl, sym, ◌∙◌, ap, subst, arith}
use Rattle.std.proofs.lemmas.Bool.{cases_Bool, or_left, and_from, and_right, both_ways, cond-true, cond-false, eqb-true, eqb-false, eq-eqb, ne_eqb, le-leb}
use Rattle.std.proofs.lemmas.Option.{same_Some}
use Rattle.pp_terms.specs.format.Traffic as traffic
use Rattle.pp_terms.specs.format.Traffic.{Record, Received, Sent, same_address}
use Rattle.pp_terms.specs.format.Descriptor.{Descriptor}
use Rattle.pp_terms.specs.format.Messages.{Message}
use Rattle.pp_traffic.specs.Past.{now, now_at, read, goes_to, is_number, some_since, is_at}
use Rattle.pp_traffic.specs.Life.{Life, answers, begins_as, shakes_on}
use Rattle.pp_traffic.specs.Story.{Line, say, said_in, behind}
use Rattle.pp_traffic.proofs.Plains.{none_from_end}
use Rattle.pp_outside.specs.Outside.{address_of}
use Rattle.pp_outside.specs.declared.link.Address.{Address}
use Rattle.pp_channels.specs.Seats.{AreSeats, is_begun, is_source}
use Rattle.pp_channels.specs.declared.channel.Channel.{Channel}
use Rattle.pp_promises.proofs.ReadStories.{unread_before}
use Rattle.pp_lives.specs.Reading.{is_blank}
use Rattle.pp_promises.specs.ReadStory.{is_read, read_story}
use Rattle.pp_lives.specs.Reading.{is_proven, is_waiting}
use Rattle.pp_channels.specs.Seats.{Seats, channel_at}
use Rattle.pp_lives.specs.Standing.{Stands, StandsAt, once_known, read_of, read_at, WaitsBlank, Seated}
use Rattle.pp_lives.specs.Calls.{Changes, Steady, with_life, dialled_life, IsDialOf}
use Rattle.pp_lives.proofs.Each.{each_by}
use Rattle.pp_lives.proofs.Telling.{since_same, same_both, read_sent}
use Rattle.pp_lives.proofs.Staying.{began, waits_dialled, waits_unproven, at_apart}
use Rattle.pp_lives.proofs.Own.{stands_of, still_apart, at_seat_now}
use Rattle.pp_lives.proofs.Edits.{steady_waits, steady_alike, source_moves, was_steady}
use Rattle.pp_lives.proofs.Sent.{sent_misses, stands_said, told_unsaid}
use Rattle.pp_lives.proofs.Opened.{closed_at_opening}

-- nothing of it is said on any life whose peer's number isn't 0
pub dial_says_none : (d : Descriptor) (c : Channel) (l : Life) (r : Record) → IsDialOf d c r → 0 < l.remote → said_in d l r ≡ []
dial_says_none d c l r is some =
    ap (λ (n : Bool). cond (not (goes_to l.address r)) [] (cond n (read d r).messages.read (cond (is_number 0 (read d r).channel) (behind l.local (read d r).messages.read) [])))
    (ap (is_number l.remote) is.number ∙ ne_eqb 0 l.remote (λ e. omega arith))
    ∙ ap (λ (ms : List Message). cond (not (goes_to l.address r)) [] (cond (is_number 0 (read d r).channel) (behind l.local ms) [])) is.alone
    ∙ by (not (goes_to l.address r)) (is_number 0 (read d r).channel) (eqb c.local l.local)
  where
    nil : List Message
    nil = []

    by : (a b e : Bool) → cond a nil (cond b (cond e nil nil) nil) ≡ nil
    by true b e = refl
    by false false e = refl
    by false true true = refl
    by false true false = refl

-- it is no other seat's handshake
pub dial_of_one : (d : Descriptor) (t : Seats) (lives : ℕ → Option Life) (past : List Record) (seat : ℕ) (c : Channel) (r : Record) → Seated d t lives past → channel_at t seat ≡ Some c → IsDialOf d c r
    → (other : ℕ) (e : Channel) (l : Life) → other ≢ seat → channel_at t other ≡ Some e → lives other ≡ Some l → answers d l r ≡ false
dial_of_one d t lives past seat c r s there is other e l ne also lives_there =
    let su = stands_of d (channel_at t other) (lives other) e l past (s.each other) also lives_there in
    and_right (goes_to l.address r && is_number (cond l.is_dialled 0 l.remote) (read d r).channel) (begins_as l.local (read d r).messages.read)
    (ap (begins_as l.local) is.alone ∙ ne_eqb c.local l.local (λ same. ne (sym (s.are.differ seat other c e there also (same ∙ su.local)))))

-- what was sent before to a number of its address
blank_dialled : (d : Descriptor) (t new : Seats) (seat : ℕ) (c c' e e' : Channel) (l : Life) (moment : ℕ) (receiver : traffic.Address) (bytes : List ℕ) (past : List Record)
    → channel_at t seat ≡ Some c → Steady c c' → Changes t new seat (Some c') → e'.address ≡ e.address → e'.shadowed ≡ e.shadowed → IsDialOf d c (Sent moment receiver bytes)
    → Stands d e l past → WaitsBlank d t e l past → WaitsBlank d new e' l (Sent moment receiver bytes ∷ past)
blank_dialled d t new seat c c' e e' l moment receiver bytes past there st ch address shadow is s was remote some = ⊎_elim
    (λ blank. inl (ap is_blank (read_sent d (record l { remote = remote }) moment receiver bytes past (began d e l past s)
    ∙ ap (λ (ms : List Message). say (now past) ms (read_story d (record l { remote = remote }) past)) (dial_says_none d c (record l { remote = remote }) (Sent moment receiver bytes) is some)) ∙ blank))
    (λ elsewhere. ⊎_elim
    (λ shadowed. inr (inl (shadow ∙ shadowed)))
    (λ source. inr (inr (
      source.0,
      ap (λ (a : Address). is_source a remote (channel_at new source.0)) address ∙ source_moves t new seat c c' there st ch e.address remote source.0 source.1,
    )))
    elsewhere)
    (was remote some)

stands_dialled : (d : Descriptor) (c : Channel) (moment : ℕ) (receiver : traffic.Address) (bytes : List ℕ) (past : List Record) → IsDialOf d c (Sent moment receiver bytes) → is_waiting c ≡ true → 0 < c.local → c.made ≡ now past
    → (c' : Channel) → Steady c c' → is_begun c'.opening ≡ true
    → Stands d c' (dialled_life (address_of c.address) c.local (length past)) (Sent moment receiver bytes ∷ past)
stands_dialled d c moment receiver bytes past is was_waiting some made c' st begun =
    let r = Sent moment receiver bytes in
    let life = dialled_life (address_of c.address) c.local (length past) in
    let waits : is_waiting c' ≡ true = steady_waits c c' st ∙ was_waiting in
    let here : eqb (length past) (length past) ≡ true = eq-eqb (length past) (length past) refl in
    let from : leb (length past) (length past) ≡ true = le-leb (length past) (length past) (omega arith) in
    let answers_now : answers d life r ≡ true = and_from (goes_to life.address r && is_number 0 (read d r).channel) (begins_as c.local (read d r).messages.read)
    (and_from (goes_to life.address r) (is_number 0 (read d r).channel) is.to (ap (is_number 0) is.number)) (ap (begins_as c.local) is.alone ∙ eq-eqb c.local c.local refl) in
    record {
      address = ap address_of (sym st.address);
      local = sym st.local;
      dialled = sym (waits_dialled c' waits);
      remote = λ k. absurd (both_ways (is_waiting c') k waits);
      local_some = some;
      opened = or_left (eqb (length past) (length past) && answers d life r) (is_at (answers d life) (length past) past) (and_from (eqb (length past) (length past)) (answers d life r) here answers_now);
      made = st.made ∙ made ∙ sym (cond-true (eqb (length past) (length past)) (now past) (now_at (length past) past) here);
      goes = record {
        open_still = closed_at_opening d life r past (omega arith);
        has_begun = begun ∙ sym (or_left (leb (length past) (length past) && answers d life r) (some_since (answers d life) (length past) past) (and_from (leb (length past) (length past)) (answers d life r) from answers_now));
        proven = waits_unproven c' waits ∙ sym (since_same (shakes_on d life) (length past) r past refl ∙ none_from_end (shakes_on d life) (length past) past (omega arith));
        heard = λ p. absurd (both_ways (is_proven c') (waits_unproven c' waits) p);
        greeted = λ k. absurd (both_ways (is_waiting c') k waits);
        bare = λ k. absurd (both_ways (is_waiting c') k waits);
      };
    }

blank_first : (d : Descriptor) (c : Channel) (moment : ℕ) (receiver : traffic.Address) (bytes : List ℕ) (past : List Record) (remote : ℕ) → IsDialOf d c (Sent moment receiver bytes) → 0 < remote
    → read_story d (record (dialled_life (address_of c.address) c.local (length past)) { remote = remote }) (Sent moment receiver bytes ∷ past) ≡ []
blank_first d c moment receiver bytes past remote is some =
    let r = Sent moment receiver bytes in
    let life = record (dialled_life (address_of c.address) c.local (length past)) { remote = remote } in
    let from : leb (length past) (length past) ≡ true = le-leb (length past) (length past) (omega arith) in
    let said : List Line = say (now past) (said_in d life r) (read_story d life past) in
    cond-true (leb (length past) (length past)) (cond (is_read d life (r ∷ past)) said said) [] from
    ∙ same_both (is_read d life (r ∷ past)) said said refl
    ∙ ap (λ (ms : List Message). say (now past) ms (read_story d life past)) (dial_says_none d c life r is some) ∙ unread_before d life past (omega arith)

-- The first handshake was sent: the life begins.
pub dialled_seated : (d : Descriptor) (t new : Seats) (lives : ℕ → Option Life) (seat : ℕ) (c c' : Channel) (moment : ℕ) (receiver : traffic.Address) (bytes : List ℕ) (past : List Record)
    → Seated d t lives past → channel_at t seat ≡ Some c → lives seat ≡ None → is_waiting c ≡ true → c.made ≡ now past → IsDialOf d c (Sent moment receiver bytes)
    → Steady c c' → is_begun c'.opening ≡ true → AreSeats new.channels → Changes t new seat (Some c')
    → Seated d new (with_life seat (Some (dialled_life (address_of c.address) c.local (length past))) lives) (Sent moment receiver bytes ∷ past)
dialled_seated d t new lives seat c c' moment receiver bytes past s there living waits_here made is st begun are ch =
    let r = Sent moment receiver bytes in
    let l' = dialled_life (address_of c.address) c.local (length past) in
    let lives' = with_life seat (Some l') lives in
    let living_there : lives' seat ≡ Some l' = cond-true (eqb seat seat) (Some l') (lives seat) (eq-eqb seat seat refl) in
    let living_else : (other : ℕ) → eqb other seat ≡ false → lives' other ≡ lives other = λ other apart. cond-false (eqb other seat) (Some l') (lives other) apart in
    record {
      are = are;
      each = each_by (λ (k : ℕ). StandsAt d (channel_at new k) (lives' k) (r ∷ past)) seat
          (at_seat_now d (channel_at new seat) (lives' seat) c' l' (r ∷ past) ch.there living_there
          (stands_dialled d c moment receiver bytes past is waits_here (s.are.some seat c there) made c' st begun))
          (λ other ne. subst (λ (x : Option Life). StandsAt d (channel_at new other) x (r ∷ past)) (sym (living_else other (ne_eqb other seat ne)))
          (subst (λ (x : Option Channel). StandsAt d x (lives other) (r ∷ past)) (sym (ch.others other ne))
          (at_apart d (channel_at t other) (lives other) r past
          (λ e l also lives_there. (dial_of_one d t lives past seat c r s there is other e l ne also lives_there, sent_misses d e l moment receiver bytes)) (s.each other))));
      apart = still_apart d t new lives past seat c c' s there (steady_alike c c' st) ch;
      blank = λ other e l also lives_there waits. ⊎_elim
          (λ same. λ n some. inl (
          let l_is : l' ≡ l = same_Some l' l (sym living_there ∙ ap lives' (sym (eqb-true other seat same)) ∙ lives_there) in
          subst (λ (x : Life). is_blank (read_story d (record x { remote = n }) (r ∷ past)) ≡ true) l_is (ap is_blank (blank_first d c moment receiver bytes past n is some))))
          (λ apart.
          let x = was_steady t new seat c c' there st ch other e also in
          let lived = sym (living_else other apart) ∙ lives_there in
          blank_dialled d t new seat c c' x.channel e l moment receiver bytes past there st ch x.address x.shadowed is
          (stands_of d (channel_at t other) (lives other) x.channel l past (s.each other) x.there lived) (s.blank other x.channel l x.there lived (sym x.waits ∙ waits)))
          (cases_Bool (eqb other seat));
      unknown = λ other e also waits.
          let x = was_steady t new seat c c' there st ch other e also in x.remote ∙ s.unknown other x.channel x.there (sym x.waits ∙ waits);
    }

-- It was sent again.
pub redialled_seated : (d : Descriptor) (t new : Seats) (lives : ℕ → Option Life) (seat : ℕ) (c c' : Channel) (life : Life) (moment : ℕ) (receiver : traffic.Address) (bytes : List ℕ) (past : List Record)
    → Seated d t lives past → channel_at t seat ≡ Some c → lives seat ≡ Some life → IsDialOf d c (Sent moment receiver bytes)
    → Steady c c' → is_begun c'.opening ≡ (answers d life (Sent moment receiver bytes) || is_begun c.opening) → AreSeats new.channels → Changes t new seat (Some c')
    → Seated d new lives (Sent moment receiver bytes ∷ past)
redialled_seated d t new lives seat c c' life moment receiver bytes past s there living is st begun are ch =
    let r = Sent moment receiver bytes in
    let own = stands_of d (channel_at t seat) (lives seat) c life past (s.each seat) there living in
    record {
      are = are;
      each = each_by (λ (k : ℕ). StandsAt d (channel_at new k) (lives k) (r ∷ past)) seat
          (at_seat_now d (channel_at new seat) (lives seat) c' life (r ∷ past) ch.there living
          (stands_said d c c' life moment receiver bytes past st begun own))
          (λ other ne. subst (λ (x : Option Channel). StandsAt d x (lives other) (r ∷ past)) (sym (ch.others other ne))
          (at_apart d (channel_at t other) (lives other) r past
          (λ e l also lives_there. (dial_of_one d t lives past seat c r s there is other e l ne also lives_there, sent_misses d e l moment receiver bytes)) (s.each other)));
      apart = still_apart d t new lives past seat c c' s there (steady_alike c c' st) ch;
      blank = λ other e l also lives_there waits.
          let x = was_steady t new seat c c' there st ch other e also in
          blank_dialled d t new seat c c' x.channel e l moment receiver bytes past there st ch x.address x.shadowed is
          (stands_of d (channel_at t other) (lives other) x.channel l past (s.each other) x.there lives_there) (s.blank other x.channel l x.there lives_there (sym x.waits ∙ waits));
      unknown = λ other e also waits.
          let x = was_steady t new seat c c' there st ch other e also in x.remote ∙ s.unknown other x.channel x.there (sym x.waits ∙ waits);
    }

-- either way nothing more is read of any
pub dialled_tells : (d : Descriptor) (t new : Seats) (lives lives' : ℕ → Option Life) (seat : ℕ) (c c' : Channel) (moment : ℕ) (receiver : traffic.Address) (bytes : List ℕ) (past : List Record)
    → Seated d t lives past → channel_at t seat ≡ Some c → is_waiting c ≡ true → IsDialOf d c (Sent moment receiver bytes) → Steady c c' → Changes t new seat (Some c')
    → ((other : ℕ) → other ≢ seat → lives' other ≡ lives other)
    → (other : ℕ) → read_at d new lives' (Sent moment receiver bytes ∷ past) other ≡ read_at d t lives past other
dialled_tells d t new lives lives' seat c c' moment receiver bytes past s there waits is st ch same_lives other = ⊎_elim
    (λ same. ap (λ (k : ℕ). read_at d new lives' (Sent moment receiver bytes ∷ past) k) (eqb-true other seat same)
    ∙ waits_none c' (channel_at new seat) (lives' seat) (Sent moment receiver bytes ∷ past) ch.there (steady_waits c c' st ∙ waits)
    ∙ sym (ap (λ (k : ℕ). read_at d t lives past k) (eqb-true other seat same) ∙ waits_none c (channel_at t seat) (lives seat) past there waits))
    (λ apart. ap (λ (o : Option Channel). read_of d o (lives' other) (Sent moment receiver bytes ∷ past)) (ch.others other (eqb-false other seat apart))
    ∙ ap (λ (x : Option Life). read_of d (channel_at t other) x (Sent moment receiver bytes ∷ past)) (same_lives other (eqb-false other seat apart))
    ∙ told_unsaid d (channel_at t other) (lives other) moment receiver bytes past (s.each other)
    (λ e l also lives_there known. dial_says_none d c l (Sent moment receiver bytes) is
    ((stands_of d (channel_at t other) (lives other) e l past (s.each other) also lives_there).remote known).1))
    (cases_Bool (eqb other seat))
  where
    waits_none : (e : Channel) (o : Option Channel) (l : Option Life) (xs : List Record) → o ≡ Some e → is_waiting e ≡ true → read_of d o l xs ≡ None
    waits_none e o None xs is waits = ap (λ (x : Option Channel). read_of d x None xs) is
    waits_none e o (Some l) xs is waits = ap (λ (x : Option Channel). read_of d x (Some l) xs) is ∙ ap (λ (b : Bool). once_known b (read_story d l xs)) waits
