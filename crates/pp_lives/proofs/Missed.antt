-- A datagram for no seat, and a wait in which none came.
use Rattle.std.proofs.Common.{◌≡◌, inl, inr, ⊎_elim, ℕ, max, false, Option, Some, None, List, ◌∷◌, refl, ◌∙◌, ap, arith}
use Rattle.pp_terms.specs.format.Traffic as traffic
use Rattle.pp_terms.specs.format.Traffic.{Record, Received}
use Rattle.pp_terms.specs.format.Descriptor.{Descriptor}
use Rattle.pp_traffic.specs.Past.{now, read, is_number, comes_from}
use Rattle.pp_traffic.specs.Life.{Life, comes_on}
use Rattle.std.proofs.lemmas.Bool.{and_right, ne_eqb}
use Rattle.pp_channels.specs.declared.channel.Channel.{Channel}
use Rattle.pp_lives.specs.Reading.{is_blank}
use Rattle.pp_promises.specs.ReadStory.{read_story}
use Rattle.pp_lives.specs.Reading.{is_waiting}
use Rattle.pp_channels.specs.Seats.{Seats, channel_at}
use Rattle.pp_lives.specs.Standing.{StandsAt, once_known, read_of, read_at, Seated}
use Rattle.pp_lives.specs.Calls.{looked, TellsNone}
use Rattle.pp_lives.proofs.Telling.{read_quiet}
use Rattle.pp_lives.proofs.Staying.{Misses, began, at_apart, blank_missed}
use Rattle.pp_lives.proofs.Own.{stands_of, told_missed, looked_known}

-- it is for none of them
abbrev pub MissesAll : Descriptor → Seats → (ℕ → Option Life) → Record → Type 0
MissesAll d t lives r = (seat : ℕ) (c : Channel) (life : Life) → channel_at t seat ≡ Some c → lives seat ≡ Some life → Misses d c life r

pub missed_seated : (d : Descriptor) (t : Seats) (lives : ℕ → Option Life) (moment : ℕ) (sender : traffic.Address) (bytes : List ℕ) (past : List Record)
    → Seated d t lives past → MissesAll d t lives (Received moment sender bytes) → Seated d t lives (Received moment sender bytes ∷ past)
missed_seated d t lives moment sender bytes past s m =
    let r = Received moment sender bytes in
    record {
      are = s.are;
      each = λ seat. at_apart d (channel_at t seat) (lives seat) r past (λ c life there living. (refl, m seat c life there living)) (s.each seat);
      apart = s.apart;
      blank = λ seat c life there living waits remote some. ⊎_elim
          (λ blank. inl (ap is_blank (blank_missed d c life remote moment sender bytes past
          (stands_of d (channel_at t seat) (lives seat) c life past (s.each seat) there living) (m seat c life there living) waits) ∙ blank))
          (λ elsewhere. inr elsewhere)
          (s.blank seat c life there living waits remote some);
      unknown = s.unknown;
    }

pub missed_tells : (d : Descriptor) (t : Seats) (lives : ℕ → Option Life) (moment : ℕ) (sender : traffic.Address) (bytes : List ℕ) (past : List Record)
    → Seated d t lives past → MissesAll d t lives (Received moment sender bytes)
    → TellsNone (max moment (now past)) (read_at d t lives past) (read_at d t lives (Received moment sender bytes ∷ past))
missed_tells d t lives moment sender bytes past s m seat =
    told_missed d (channel_at t seat) (lives seat) moment sender bytes past (s.each seat) (λ c life there living. m seat c life there living)

-- a datagram for channel 0, and one of too few bytes, is for none
pub zero_misses : (d : Descriptor) (t : Seats) (lives : ℕ → Option Life) (r : Record) (past : List Record) → Seated d t lives past → (read d r).channel ≡ Some 0 → MissesAll d t lives r
zero_misses d t lives r past s is seat c life there living =
    let st = stands_of d (channel_at t seat) (lives seat) c life past (s.each seat) there living in
    let apart : comes_on d life r ≡ false = and_right (comes_from life.address r) (is_number life.local (read d r).channel)
    (ap (is_number life.local) is ∙ ne_eqb 0 life.local (λ e. omega (arith, st.local_some))) in
    record { waits = λ w. rw apart refl; known = λ k. apart }

pub short_misses : (d : Descriptor) (t : Seats) (lives : ℕ → Option Life) (r : Record) → (read d r).channel ≡ None → MissesAll d t lives r
short_misses d t lives r is seat c life there living =
    let apart : comes_on d life r ≡ false = and_right (comes_from life.address r) (is_number life.local (read d r).channel) (ap (is_number life.local) is) in
    record { waits = λ w. rw apart refl; known = λ k. apart }

-- ---- a wait

pub quiet_seated : (d : Descriptor) (t : Seats) (lives : ℕ → Option Life) (moment : ℕ) (past : List Record) → Seated d t lives past → Seated d t lives (traffic.Quiet moment ∷ past)
quiet_seated d t lives moment past s =
    let r = traffic.Quiet moment in
    record {
      are = s.are;
      each = λ seat. at_apart d (channel_at t seat) (lives seat) r past (λ c life there living. (refl, record { waits = λ w. refl; known = λ k. refl })) (s.each seat);
      apart = s.apart;
      blank = λ seat c life there living waits remote some. ⊎_elim
          (λ blank. inl (ap is_blank (read_quiet d (record life { remote = remote }) moment past
          (began d c life past (stands_of d (channel_at t seat) (lives seat) c life past (s.each seat) there living))) ∙ blank))
          (λ elsewhere. inr elsewhere)
          (s.blank seat c life there living waits remote some);
      unknown = s.unknown;
    }

told_quiet : (d : Descriptor) (o : Option Channel) (l : Option Life) (moment : ℕ) (past : List Record) → StandsAt d o l past
    → read_of d o l (traffic.Quiet moment ∷ past) ≡ looked (max moment (now past)) (read_of d o l past)
told_quiet d None l moment past s = refl
told_quiet d (Some c) None moment past s = refl
told_quiet d (Some c) (Some life) moment past s =
    ap (once_known (is_waiting c)) (read_quiet d life moment past (began d c life past s)) ∙ looked_known (is_waiting c) (max moment (now past)) (read_story d life past)

pub quiet_tells : (d : Descriptor) (t : Seats) (lives : ℕ → Option Life) (moment : ℕ) (past : List Record) → Seated d t lives past
    → TellsNone (max moment (now past)) (read_at d t lives past) (read_at d t lives (traffic.Quiet moment ∷ past))
quiet_tells d t lives moment past s seat = told_quiet d (channel_at t seat) (lives seat) moment past (s.each seat)
