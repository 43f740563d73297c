-- Where a size came from.
use Rattle.std.proofs.Common.{◌≡◌, ⊎_elim, arith, ◌<◌, ℕ, ◌^◌, ◌≤◌, max, Bool, true, false, ◌||◌, Option, Some, None, List, [], ◌∷◌, length, take, refl, ◌∙◌, ap, subst}
use Rattle.std.proofs.lemmas.Bool.{cases_Bool}
use Rattle.pp_terms.specs.format.Descriptor.{Descriptor}
use Rattle.pp_terms.specs.format.Messages.{Message}
use Rattle.pp_terms.specs.format.Traffic.{Record, Received}
use Rattle.pp_terms.specs.tree.Claims.{Claim, latest}
use Rattle.pp_traffic.specs.Claims.{claims_in}
use Rattle.pp_traffic.specs.Life.{Life, closes, comes_on}
use Rattle.pp_traffic.specs.Past.{now}
use Rattle.pp_traffic.specs.Story.{Line, hear}
use Rattle.pp_promises.specs.ReadStory.{is_read, read_story}
use Rattle.pp_outside.specs.Outside.{address_of}
use Rattle.pp_outside.specs.declared.link.Address.{Address}
use Rattle.pp_outside.specs.declared.link.Event.TheVariants.{Datagram, Quiet}
use Rattle.pp_channels.specs.Seats.{Seats, channel_at}
use Rattle.pp_channels.specs.declared.channel.Channel.{Channel}
use Rattle.pp_lives.specs.Arrived.{Arrived}
use Rattle.pp_lives.specs.Arriving.{Arrives}
use Rattle.pp_lives.proofs.Changing.{within}
use Rattle.pp_lives.specs.Standing.{once_known, read_at, read_of}
use Rattle.pp_lives.specs.declared.arriving.Arrival.{Arrival}
use Rattle.pp_lives.specs.declared.arriving.Arrival.TheVariants as arrivals
use Rattle.pp_lives.proofs.Arrivals.{contents_read}
use Rattle.pp_lives.proofs.Own.{stands_of}
use Rattle.pp_lives.proofs.Wholes.{keeps_standing}
use Rattle.pp_targets.specs.Learn.{IsLearned}
use Rattle.pp_targets.specs.Names.{name_of}
use Rattle.pp_targets.specs.Target.{SwarmName}
use Rattle.pp_learner.specs.Absorbing.{TellsBy, after_datagram, after_wait, is_for_zero}
use Rattle.pp_learner.specs.Following.{Follows, FollowsIf, StandsFor}
use Rattle.pp_learner.specs.Laws.{IsLearnedFrom, LearnsFrom}
use Rattle.pp_learner.specs.Learners.{LearnerState}
use Rattle.pp_learner.specs.Reading.{ArePassed, Tells, messages_from, row_at}
use Rattle.pp_learner.specs.Rows.{RowState, begun, heard, heard_all}
use Rattle.pp_learner.specs.Standing.{stand_in}
use Rattle.pp_learner.proofs.Following.{blank_follows, hear_follows}
use Rattle.pp_learner.proofs.Staying.{closes_first}

-- messages that were passed close nothing
passed_open : (name : SwarmName) (ms : List Message) (row : RowState) → ArePassed name ms row → closes ms ≡ false
passed_open name [] row passed = refl
passed_open name (m ∷ ms) row passed =
    closes_first m ms ∙ ap (λ (b : Bool). b || closes ms) passed.0 ∙ passed_open name ms (heard m row) passed.2

-- what a row claims is what its story claims
learned_by : (name : SwarmName) (story : List Line) (row : RowState) (chunk : ℕ) (bytes : List ℕ) (e : Descriptor) → Follows story row
    → IsLearned name (latest row.claims) chunk bytes e → IsLearned name (latest (take 128 (claims_in (2 ^ 20) story))) chunk bytes e
learned_by name story row chunk bytes e f is = subst (λ (cs : List Claim). IsLearned name (latest cs) chunk bytes e) f.claims is

module _ (p : LearnerState) (past : List Record) (s : StandsFor p past) (at : ℕ) (sender : Address) (bytes : List ℕ) (e : Descriptor) where
  abbrev name : SwarmName
  name = name_of p.name

  abbrev d : Descriptor
  d = stand_in name

  abbrev r : Record
  r = Received at (address_of sender) bytes

  from_life : (life : Life) (row : RowState) → life.is_dialled ≡ true → comes_on d life r ≡ true → is_read d life (r ∷ past) ≡ true
      → Follows (read_story d life past) row → Tells name e (messages_from name bytes 4).read row → 4 ≤ length bytes → IsLearnedFrom name r past e
  from_life life row dialled comes reads f t long = record {
    life = life;
    dialled = dialled;
    comes = comes;
    reads = reads;
    front = t.before;
    chunk = t.chunk;
    sent_at = t.sent_at;
    bytes = t.bytes;
    rest = t.after;
    messages = ap (λ m. m.read) (contents_read d bytes long) ∙ t.among;
    open_still = passed_open name t.before row t.passed;
    few = t.few;
    valid = t.proof.valid;
    learned = learned_by name (hear (now (r ∷ past)) t.before (read_story d life past)) (heard_all t.before row) t.chunk t.bytes e
        (hear_follows (now (r ∷ past)) t.before (read_story d life past) row f) t.proof.proves;
  }

  -- the reply brought it
  from_reply : (n seat : ℕ) (table : Seats) → Arrived d p.lives s.lives r past n bytes (arrivals.Replied seat) table
      → Tells name e (messages_from name bytes 4).read begun → 4 ≤ length bytes → IsLearnedFrom name r past e
  from_reply n seat table x t long = from_life x.life begun x.is_on.dialled x.is_on.on x.is_on.reads (blank_follows (read_story d x.life past) x.is_on.blank) t long

  -- a later datagram brought it
  from_heard : (n seat : ℕ) (table : Seats) → Arrived d p.lives s.lives r past n bytes (arrivals.Heard seat) table
      → Tells name e (messages_from name bytes 4).read (row_at p.rows seat) → 4 ≤ length bytes → IsLearnedFrom name r past e
  from_heard n seat table x t long =
      let was = x.is_on.there in
      let st = stands_of d (channel_at p.lives seat) (s.lives seat) was.channel x.life past (s.standing.seated.each seat) was.was was.living in
      let lt = within p.lives.channels seat was.channel was.was in
      let under : seat < 64 = omega (arith, lt, s.standing.seated.are.seats) in
      let told : read_at d p.lives s.lives past seat ≡ Some (read_story d x.life past) =
      ap (λ (o : Option Channel). read_of d o (s.lives seat) past) was.was
      ∙ ap (λ (l : Option Life). read_of d (Some was.channel) l past) was.living
      ∙ ap (λ (b : Bool). once_known b (read_story d x.life past)) was.known in
      from_life x.life (row_at p.rows seat) (st.dialled ∙ s.dialled seat was.channel was.was) x.is_on.on x.is_on.reads
      (subst (λ (o : Option (List Line)). FollowsIf o (row_at p.rows seat)) told (s.follows seat under)) t long

  from_arrival : (a : Arrival) (table : Seats) → Arrives d p.lives sender (max at p.moment) bytes a table
      → TellsBy a bytes (after_datagram (after_wait at p)) e → IsLearnedFrom name r past e
  from_arrival (arrivals.Replied seat) table h t = from_reply (max at p.moment) seat table
      (keeps_standing d p.lives table sender (max at p.moment) bytes (arrivals.Replied seat) h s.lives at past (ap (λ (m : ℕ). max at m) s.now_is) s.standing s.begun) t h.long
  from_arrival (arrivals.Heard seat) table h t = from_heard (max at p.moment) seat table
      (keeps_standing d p.lives table sender (max at p.moment) bytes (arrivals.Heard seat) h s.lives at past (ap (λ (m : ℕ). max at m) s.now_is) s.standing s.begun) t h.long
  from_arrival arrivals.Short table h t = absurd t
  from_arrival arrivals.NoGreeting table h t = absurd t
  from_arrival arrivals.Unwelcome table h t = absurd t
  from_arrival (arrivals.Again seat) table h t = absurd t
  from_arrival (arrivals.Late seat) table h t = absurd t
  from_arrival arrivals.Unseated table h t = absurd t
  from_arrival (arrivals.Opened seat next) table h t = absurd t
  from_arrival arrivals.NoChannel table h t = absurd t
  from_arrival (arrivals.NoReply seat) table h t = absurd t
  from_arrival (arrivals.Cut seat) table h t = absurd t
  from_arrival (arrivals.Differs seat) table h t = absurd t
  from_arrival (arrivals.Given seat) table h t = absurd t

some_none : (e : Descriptor) → Some e ≡ None → ⊥
some_none e is = cc

pub learns_from : LearnsFrom
learns_from (Quiet at) bytes e old new past does s = absurd (some_none e does.0)
learns_from (Datagram sender len at) bytes e old new past does s = ⊎_elim
    (λ zero. absurd (some_none e (does.zero zero).none))
    (λ other. let a = does.other other in
    from_arrival old past s at sender bytes e a.arrival a.table a.arrives ((a.learned e).0 refl))
    (cases_Bool (is_for_zero bytes))
