-- A learner that stands for its traffic still does with what it sends.
use Rattle.std.proofs.Common.{◌≡◌, ◌≢◌, ◌⊎◌, inl, inr, ⊎_elim, ℕ, zero, suc, ◌+◌, ◌<◌, eqb, Bool, true, false, Option, Some, None, List, [], ◌∷◌, ◌++◌, length, refl, sym, ◌∙◌, ap, subst, arith, append_assoc}
use Rattle.std.specs.List.{AllByRecursion}
use Rattle.std.specs.Prelude.{map, slice_set, if◌then◌else◌, option_map, unwrap_or, position, ◌||◌}
use Rattle.std.proofs.lemmas.Bool.{cases_Bool, eqb-true, eqb-false, false≢true}
use Rattle.std.proofs.lemmas.List.{length-set}
use Rattle.pp_terms.specs.tree.Range.{Span, IsTiling, leaves_of}
use Rattle.pp_terms.specs.tree.Tree.{Node}
use Rattle.pp_terms.specs.format.Messages as plain
use Rattle.pp_terms.specs.format.Messages.{Message, Datagram}
use Rattle.pp_terms.specs.format.Options.{Options}
use Rattle.pp_draft.specs.Datagrams.{IsDatagram}
use Rattle.pp_terms.specs.format.Descriptor.{Descriptor, Method, Bin32, Range32, Bin64, Range64}
use Rattle.pp_terms.specs.format.Traffic.{LinkState, Record, Sent}
use Rattle.pp_terms.proofs.Addressed.{same_self}
use Rattle.pp_terms.proofs.Risings.{gains_nothing, gains_twice}
use Rattle.pp_traffic.specs.Past.{now, read}
use Rattle.pp_traffic.specs.Life.{Life, begins_as}
use Rattle.pp_traffic.specs.Story.{Line, Said, say}
use Rattle.pp_counts.specs.declared.counts.Counts.{Counts}
use Rattle.pp_outside.specs.Outside.{address_of}
use Rattle.pp_channels.specs.Seats.{Seats, channel_at, closed, is_begun, with_handshake}
use Rattle.pp_channels.specs.Timing.{handshake_due, is_over, is_silent}
use Rattle.pp_channels.specs.declared.channel.Channel.{Channel}
use Rattle.pp_draft.specs.Notes as notes
use Rattle.pp_draft.specs.Notes.{AreNames, NamesRange, own_options}
use Rattle.pp_draft.specs.declared.note.Note.TheVariants.{Handshake, KeepAlive, Request}
use Rattle.pp_lives.specs.Calls.{IsDialOf, said_more}
use Rattle.pp_lives.specs.Laws.{sent_on}
use Rattle.pp_lives.specs.Reading.{is_proven, is_waiting}
use Rattle.pp_lives.specs.Sending.{with_datagram}
use Rattle.pp_lives.specs.Standing.{Standing, read_at}
use Rattle.pp_lives.proofs.Arrivals.{living_of, there_of}
use Rattle.pp_lives.proofs.Begun.{begun_dropped}
use Rattle.pp_lives.proofs.Changing.{changed_is, dropped_is, within}
use Rattle.pp_lives.proofs.Edits.{still_opened}
use Rattle.pp_lives.proofs.Kept.{again_keeps, begun_kept, sent_keeps}
use Rattle.pp_lives.proofs.Own.{stands_of}
use Rattle.pp_lives.proofs.Staying.{proven_known}
use Rattle.pp_lives.proofs.Wholes.{expired_stays}
use Rattle.pp_targets.specs.Names.{name_of}
use Rattle.pp_targets.specs.declared.target.SwarmName.{SwarmName}
use Rattle.pp_learner.specs.Dialling.{Drops}
use Rattle.pp_learner.specs.Following.{AreTallied, Follows, FollowsIf, AllDialled, StandsFor}
use Rattle.pp_learner.specs.Laws.{SendsAlone, Speaks, StandsOn}
use Rattle.pp_learner.specs.Learners.{LearnerState, IsWhole}
use Rattle.pp_learner.specs.Reading.{row_at}
use Rattle.pp_learner.specs.Rows.{RowState}
use Rattle.pp_learner.specs.Sending.{Scene, EachBelow, SendsDue, SendsOn, SpeaksAt, after_sending, asks, due_of, greeting_due, note_for, on_channel, on_proven, row_said, speaks}
use Rattle.pp_learner.specs.declared.due.Due.{Due}
use Rattle.pp_counts.specs.Counts.{after_note}
use Rattle.pp_counts.specs.declared.note.Note.TheVariants as counts
use Rattle.pp_learner.specs.Standing.{stand_in}
use Rattle.pp_learner.proofs.Modest.{IsModestNote, all_both, says_modest}
use Rattle.pp_learner.proofs.Staying.{dialled_changed, dialled_closed, dialled_twice, row_same, row_other}
use Rattle.pp_learner.proofs.Still.{over_there}
use Rattle.pp_learner.proofs.Tallying.{other_tallied, sent_tallied}

-- ---- one step behind another

pub alone_same : (old new : LinkState) → new ≡ old → SendsAlone old new
alone_same old new same = record {
  nexts = ap (λ (l : LinkState). l.nexts) same;
  bound = ap (λ (l : LinkState). l.bound) same;
  later = let faults : new.faults ≡ old.faults = ap (λ (l : LinkState). l.faults) same in omega (arith, faults);
}

pub alone_twice : (a b c : LinkState) → SendsAlone a b → SendsAlone b c → SendsAlone a c
alone_twice a b c x y = record {
  nexts = y.nexts ∙ x.nexts;
  bound = y.bound ∙ x.bound;
  later = omega (arith, x.later, y.later);
}

-- A step keeps a learner whole, with its name, and standing; of the link it calls sendings alone, and what it sends is handshakes and
-- REQUESTs.
pub record Goes (old new : Scene) (past : List Record) : Type 0 where
  pub whole : IsWhole new.parts
  pub on : StandsOn old new past
  pub name : new.parts.name ≡ old.parts.name
  pub speaks : AllByRecursion (Speaks (stand_in (name_of old.parts.name))) on.added
  pub alone : SendsAlone old.link new.link

abbrev pub GoesAt : (ℕ → Scene → Scene → Type 0) → Type 0
GoesAt Step = (i : ℕ) (old new : Scene) (past : List Record) → Step i old new → IsWhole old.parts → StandsFor old.parts past → Goes old new past

-- nothing was sent
pub goes_none : (old new : Scene) (past : List Record) → new ≡ old → IsWhole old.parts → StandsFor old.parts past → Goes old new past
goes_none old new past same whole s = record {
  whole = subst (λ (x : Scene). IsWhole x.parts) (sym same) whole;
  on = record {
    added = [];
    gained = gains_nothing old.link.traffic new.link.traffic (ap (λ (x : Scene). x.link.traffic) same);
    stands = subst (λ (x : Scene). StandsFor x.parts past) (sym same) s;
    tallies = λ refused a. subst (λ (x : Scene). AreTallied refused x.parts.counts past) (sym same) a;
  };
  name = ap (λ (x : Scene). x.parts.name) same;
  speaks = tt;
  alone = alone_same old.link new.link (ap (λ (x : Scene). x.link) same);
}

abbrev pub goes_then : (a b c : Scene) (past : List Record) → (x : Goes a b past) → Goes b c (x.on.added ++ past) → Goes a c past
goes_then a b c past x y = record {
  whole = y.whole;
  on = record {
    added = y.on.added ++ x.on.added;
    gained = gains_twice a.link.traffic b.link.traffic c.link.traffic x.on.added y.on.added x.on.gained y.on.gained;
    stands = subst (StandsFor c.parts) (sym (append_assoc y.on.added x.on.added past)) y.on.stands;
    tallies = λ refused k. subst (AreTallied refused c.parts.counts) (sym (append_assoc y.on.added x.on.added past))
        (y.on.tallies refused (x.on.tallies refused k));
  };
  name = y.name ∙ x.name;
  speaks = all_both (Speaks (stand_in (name_of a.parts.name))) y.on.added x.on.added
      (subst (λ (n : SwarmName). AllByRecursion (Speaks (stand_in (name_of n))) y.on.added) x.name y.speaks) x.speaks;
  alone = alone_twice a.link b.link c.link x.alone y.alone;
}

pub each_goes : (n : ℕ) (Step : ℕ → Scene → Scene → Type 0) → GoesAt Step → (old new : Scene) (past : List Record) → EachBelow n Step old new
    → IsWhole old.parts → StandsFor old.parts past → Goes old new past
unfolding EachBelow
each_goes zero Step goes old new past each whole s = goes_none old new past each whole s
each_goes (suc n) Step goes old new past each whole s =
    let before = each_goes n Step goes old each.0 past each.1 whole s in
    let last = goes n each.0 new (before.on.added ++ past) each.2 before.whole before.on.stands in
    goes_then old each.0 new past before last

-- ---- channels whose time is over

-- the learner with other channels
abbrev with_lives : LearnerState → Seats → LearnerState
with_lives p t = record p { lives = t }

drop_stands : (p : LearnerState) (past : List Record) (seat : ℕ) → position (is_over p.moment) p.lives.channels ≡ Some seat → StandsFor p past
    → StandsFor (with_lives p (closed p.lives seat)) past
drop_stands p past seat over s =
    let test = over_there p.moment p.lives seat over in
    let e = there_of (is_over p.moment) (channel_at p.lives seat) refl test in
    let late : is_over (now past) (Some e.0) ≡ true = ap (λ (n : ℕ). is_over n (Some e.0)) (sym s.now_is) ∙ ap (is_over p.moment) (sym e.1) ∙ test in
    let x = expired_stays (stand_in (name_of p.name)) p.lives s.lives seat e.0 past s.standing e.1 late in
    record {
      now_is = s.now_is;
      lives = s.lives;
      standing = x.0;
      begun = begun_dropped p.lives (closed p.lives seat) seat e.0 (dropped_is p.lives seat e.0 e.1) s.begun;
      dialled = dialled_closed p.lives seat e.0 e.1 s.dialled;
      follows = λ other lt. ⊎_elim
          (λ is. subst (λ (o : Option (List Line)). FollowsIf o (row_at p.rows other))
          (sym (ap (read_at (stand_in (name_of p.name)) (closed p.lives seat) s.lives past) (eqb-true other seat is) ∙ x.1.own)) tt)
          (λ ne. subst (λ (o : Option (List Line)). FollowsIf o (row_at p.rows other)) (sym (x.1.others other (eqb-false other seat ne))) (s.follows other lt))
          (cases_Bool (eqb other seat));
    }

pub drops_stand : (seats : List ℕ) (p : LearnerState) (new : Seats) (past : List Record) → Drops p.moment seats p.lives new → StandsFor p past
    → StandsFor (with_lives p new) past
drops_stand [] p new past drops s = subst (λ (t : Seats). StandsFor (with_lives p t) past) (sym drops.0) s
drops_stand (seat ∷ seats) p new past drops s =
    drops_stand seats (with_lives p (closed p.lives seat)) new past drops.1 (drop_stands p past seat drops.0 s)

-- ---- what a note says

-- a REQUEST was sent at that moment, and nothing else of what is kept changed
abbrev asked_at : ℕ → RowState → RowState
asked_at now row = record row { asked = Some now; owes = false }

requests_follow : (now : ℕ) (spans : List Span) (story : List Line) (row : RowState) → Follows story (asked_at now row)
    → Follows (say now (map (λ span. plain.Request span) spans) story) (asked_at now row)
requests_follow now [] story row f = f
requests_follow now (span ∷ spans) story row f = requests_follow now spans (Said now (plain.Request span) ∷ story) row
    (record { claims = f.claims; offer = f.offer; chokes = f.chokes; asked = refl })

some_requests : (now : ℕ) (span : Span) (spans : List Span) (story : List Line) (row : RowState) → Follows story row
    → Follows (say now (map (λ span. plain.Request span) (span ∷ spans)) story) (asked_at now row)
some_requests now span spans story row f = requests_follow now spans (Said now (plain.Request span) ∷ story) row
    (record { claims = f.claims; offer = f.offer; chokes = f.chokes; asked = refl })

-- a chunk has a name
record AreSome (spans : List Span) : Type 0 where
  first : Span
  rest : List Span
  is : spans ≡ first ∷ rest

bins_some : (chunk : ℕ) (spans : List Span) → notes.AreBins (record { first = chunk; last = chunk }) spans → AreSome spans
bins_some chunk spans b = by b.nodes b.cover.tiles b.leaves
  where
    by : (nodes : List Node) → IsTiling chunk (chunk + 1) nodes → spans ≡ map leaves_of nodes → AreSome spans
    by [] tiles is = absurd (omega (arith, tiles))
    by (node ∷ more) tiles is = record { first = leaves_of node; rest = map leaves_of more; is = is }

names_some : (method : Method) (chunk : ℕ) (spans : List Span) → AreNames method (record { first = chunk; last = chunk }) spans → AreSome spans
names_some Bin32 chunk spans is = bins_some chunk spans is
names_some Bin64 chunk spans is = bins_some chunk spans is
names_some Range32 chunk spans is = record { first = record { first = chunk; last = chunk }; rest = []; is = is }
names_some Range64 chunk spans is = record { first = record { first = chunk; last = chunk }; rest = []; is = is }

pub request_follows : (method : Method) (now chunk : ℕ) (ms : List Message) (story : List Line) (row : RowState)
    → NamesRange method (record { first = chunk; last = chunk }) (λ span. plain.Request span) ms → Follows story row
    → Follows (say now ms story) (asked_at now row)
request_follows method now chunk ms story row n f =
    let some = names_some method chunk n.spans n.names in
    let is : ms ≡ map (λ span. plain.Request span) (some.first ∷ some.rest) = n.messages ∙ ap (λ xs. map (λ span. plain.Request span) xs) some.is in
    subst (λ (xs : List Message). Follows (say now xs story) (asked_at now row)) (sym is) (some_requests now some.first some.rest story row f)

-- a datagram without a message
silent_follows : (now : ℕ) (o : Option (List Line)) (row : RowState) → FollowsIf o row → FollowsIf (said_more now [] o) (record row { owes = false })
silent_follows now None row f = tt
silent_follows now (Some story) row f = record { claims = f.claims; offer = f.offer; chokes = f.chokes; asked = f.asked }

asked_follows : (method : Method) (n moment chunk : ℕ) (ms : List Message) (o : Option (List Line)) (row : RowState) → moment ≡ n
    → NamesRange method (record { first = chunk; last = chunk }) (λ span. plain.Request span) ms → FollowsIf o row
    → FollowsIf (said_more n ms o) (asked_at moment row)
asked_follows method n moment chunk ms None row same names f = tt
asked_follows method n moment chunk ms (Some story) row same names f =
    subst (λ (k : ℕ). Follows (say n ms story) (asked_at k row)) (sym same) (request_follows method n chunk ms story row names f)

-- ---- one seat

-- no handshake stands first
begins_none : (number : ℕ) (spans : List Span) → begins_as number (map (λ span. plain.Request span) spans) ≡ false
begins_none number [] = refl
begins_none number (span ∷ spans) = refl

module _ (p : LearnerState) (past : List Record) (whole : IsWhole p) (s : StandsFor p past) (moment seat : ℕ) (c : Channel)
    (there : channel_at p.lives seat ≡ Some c) where
  abbrev d : Descriptor
  d = stand_in (name_of p.name)

  abbrev noted : Bool → Seats
  noted handshake = with_datagram p.lives seat handshake p.moment

  low : seat < length p.rows
  low = let lt = within p.lives.channels seat c there in omega (arith, lt, s.standing.seated.are.seats, whole.seats)

  noted_dialled : (handshake : Bool) → AllDialled (noted handshake)
  noted_dialled true = dialled_twice p.lives seat c (λ x. record x { wrote = p.moment }) (λ x. record x { opening = with_handshake x.opening }) there (still_opened c.opening) s.dialled
  noted_dialled false = dialled_changed p.lives (noted false) seat c (record c { wrote = p.moment }) there refl
      (changed_is p.lives seat c (λ x. record x { wrote = p.moment }) there) s.dialled

  living : (is_waiting c ≡ false) ⊎ (is_begun c.opening ≡ true) → (l : Life) × (s.lives seat ≡ Some l)
  living either = living_of d p.lives s.lives past seat c s.standing.seated there either

  module _ (handshake : Bool) (row : RowState) (counts : Counts) (bytes : List ℕ) where
    abbrev r : Record
    r = sent_on c moment bytes

    abbrev after : LearnerState
    after = record p { lives = noted handshake; rows = slice_set p.rows seat row; counts = counts }

    said_stands : Standing d (noted handshake) s.lives (r ∷ past) → FollowsIf (read_at d (noted handshake) s.lives (r ∷ past) seat) row
        → ((other : ℕ) → other ≢ seat → read_at d (noted handshake) s.lives (r ∷ past) other ≡ read_at d p.lives s.lives past other)
        → StandsFor after (r ∷ past)
    said_stands standing own others = record {
      now_is = s.now_is;
      lives = s.lives;
      standing = standing;
      begun = begun_kept.sent p.lives seat c handshake p.moment there s.begun;
      dialled = noted_dialled handshake;
      follows = λ other lt. ⊎_elim
          (λ is. subst (λ (k : ℕ). FollowsIf (read_at d (noted handshake) s.lives (r ∷ past) k) (row_at (slice_set p.rows seat row) k)) (sym (eqb-true other seat is))
          (subst (λ (w : RowState). FollowsIf (read_at d (noted handshake) s.lives (r ∷ past) seat) w) (sym (row_same p.rows seat row low)) own))
          (λ ne. let apart = eqb-false other seat ne in
          subst (λ (o : Option (List Line)). FollowsIf o (row_at (slice_set p.rows seat row) other)) (sym (others other apart))
          (subst (λ (w : RowState). FollowsIf (read_at d p.lives s.lives past other) w) (sym (row_other p.rows seat other row apart)) (s.follows other lt)))
          (cases_Bool (eqb other seat));
    }

  -- by the descriptor that stands for the swarm's
  as_stand : (channel : ℕ) (ms : List Message) (bytes : List ℕ) → IsDatagram p.outbox channel ms bytes → IsDatagram d channel ms bytes
  as_stand channel ms bytes w = subst (λ (x : Descriptor). IsDatagram x channel ms bytes) whole.swarm w

  -- this peer's handshake went again, while its reply is awaited
  greeted_stands : (counts : Counts) (options : Options) (bytes : List ℕ) → is_waiting c ≡ true → seat < 64
      → IsDatagram p.outbox 0 (plain.Handshake c.local options ∷ []) bytes → StandsFor (after true (row_at p.rows seat) counts bytes) (sent_on c moment bytes ∷ past)
  greeted_stands counts options bytes waits under w =
      let l = living (inr (s.begun seat c there waits)) in
      let v = as_stand 0 (plain.Handshake c.local options ∷ []) bytes w in
      let dial : IsDialOf d c (sent_on c moment bytes) = record {
        to = same_self (address_of c.address);
        number = ap (λ (x : Datagram). x.channel) v.read;
        options = options;
        alone = ap (λ (x : Datagram). x.messages.read) v.read;
      } in
      let x = again_keeps d p.lives s.lives seat c l.0 p.moment moment bytes past s.standing there l.1 waits dial in
      said_stands true (row_at p.rows seat) counts bytes x.0
      (subst (λ (o : Option (List Line)). FollowsIf o (row_at p.rows seat)) (sym (x.1 seat)) (s.follows seat under))
      (λ other ne. x.1 other)

  -- messages went to the other peer's number, of which none opens the channel anew
  spoken_stands : (row : RowState) (counts : Counts) (ms : List Message) (bytes : List ℕ) → is_waiting c ≡ false → ((number : ℕ) → begins_as number ms ≡ false)
      → IsDatagram p.outbox (unwrap_or c.remote 0) ms bytes
      → FollowsIf (said_more (now past) ms (read_at d p.lives s.lives past seat)) row → StandsFor (after false row counts bytes) (sent_on c moment bytes ∷ past)
  spoken_stands row counts ms bytes known none w own =
      let l = living (inl known) in
      let v = as_stand (unwrap_or c.remote 0) ms bytes w in
      let st = stands_of d (channel_at p.lives seat) (s.lives seat) c l.0 past (s.standing.seated.each seat) there l.1 in
      let remote = (st.remote known).0 in
      let ms_is : (read d (sent_on c moment bytes)).messages.read ≡ ms = ap (λ (x : Datagram). x.messages.read) v.read in
      let channel : (read d (sent_on c moment bytes)).channel ≡ Some l.0.remote = ap (λ (x : Datagram). x.channel) v.read ∙ ap (λ (o : Option ℕ). Some (unwrap_or o 0)) remote in
      let quiet : (number : ℕ) → begins_as number (read d (sent_on c moment bytes)).messages.read ≡ false = λ number. ap (begins_as number) ms_is ∙ none number in
      let x = sent_keeps d p.lives s.lives seat c l.0 false p.moment moment bytes past s.standing there l.1 known channel
      (λ number some is. absurd (false≢true (sym (quiet number) ∙ is))) (sym (quiet c.local)) in
      said_stands false row counts bytes x.0
      (subst (λ (o : Option (List Line)). FollowsIf o row) (sym (x.1.own ∙ ap (λ (xs : List Message). said_more (now past) xs (read_at d p.lives s.lives past seat)) ms_is)) own)
      (λ other ne. x.1.others other ne)

-- ---- what is due on a seat

-- what was refused is counted, and sent nothing
refused_goes : (old new : Scene) (past : List Record) → IsWhole old.parts → StandsFor old.parts past → new.link.traffic ≡ old.link.traffic
    → SendsAlone old.link new.link → new.parts ≡ record old.parts { counts = after_note counts.SendFault old.parts.counts } → Goes old new past
refused_goes old new past whole s same alone is = record {
  whole = subst IsWhole (sym is) (record { size = whole.size; swarm = whole.swarm; seats = whole.seats });
  on = record {
    added = [];
    gained = gains_nothing old.link.traffic new.link.traffic same;
    stands = subst (λ (p : LearnerState). StandsFor p past) (sym is)
        (record { now_is = s.now_is; lives = s.lives; standing = s.standing; begun = s.begun; dialled = s.dialled; follows = s.follows });
    tallies = λ refused a. subst (λ (p : LearnerState). AreTallied refused p.counts past) (sym is) (other_tallied refused past counts.SendFault old.parts.counts tt a);
  };
  name = ap (λ (p : LearnerState). p.name) is;
  speaks = tt;
  alone = alone;
}

-- a note that was said, in the words on traffic
pub said_speaks : (p : LearnerState) (due : Due) (moment : ℕ) (sent : Bool) (old new : LinkState) → IsWhole p → IsModestNote due.note
    → (sends : SendsDue p.outbox due moment sent old new) → Speaks (stand_in (name_of p.name)) (Sent moment (address_of due.to.address) sends.bytes)
said_speaks p due moment sent old new whole modest sends = (
  moment,
  record {
    receiver = address_of due.to.address;
    channel = due.to.channel;
    messages = sends.messages;
    bytes = sends.bytes;
    is = refl;
    written = subst (λ (x : Descriptor). IsDatagram x due.to.channel sends.messages sends.bytes) whole.swarm sends.written;
    modest = says_modest p.outbox due.note sends.messages modest sends.said;
  },
)

pub due_alone : (d : Descriptor) (due : Due) (moment : ℕ) (sent : Bool) (old new : LinkState) → SendsDue d due moment sent old new → SendsAlone old new
due_alone d due moment sent old new s = record { nexts = s.sends.nexts; bound = s.sends.bound; later = s.sends.later }

pub whole_after : (seat : ℕ) (due : Due) (p : LearnerState) → IsWhole p → IsWhole (after_sending seat due true p)
whole_after seat due p whole = record {
  size = whole.size;
  swarm = whole.swarm;
  seats = length-set p.rows seat (row_said due.note p.moment (row_at p.rows seat)) ∙ whole.seats;
}

-- what is due was sent, or refused
sends_goes : (old new : Scene) (past : List Record) (moment seat : ℕ) (due : Due) (sent : Bool) → IsWhole old.parts → StandsFor old.parts past
    → IsModestNote due.note
    → (sends : SendsDue old.parts.outbox due moment sent old.link new.link) → new.parts ≡ after_sending seat due sent old.parts
    → StandsFor (after_sending seat due true old.parts) (Sent moment (address_of due.to.address) sends.bytes ∷ past) → Goes old new past
sends_goes old new past moment seat due true whole s modest sends is stands = record {
  whole = subst IsWhole (sym is) (whole_after seat due old.parts whole);
  on = record {
    added = Sent moment (address_of due.to.address) sends.bytes ∷ [];
    gained = sends.sends.outcome;
    stands = subst (λ (p : LearnerState). StandsFor p (Sent moment (address_of due.to.address) sends.bytes ∷ past)) (sym is) stands;
    tallies = λ refused a. subst (λ (p : LearnerState). AreTallied refused p.counts (Sent moment (address_of due.to.address) sends.bytes ∷ past)) (sym is)
        (sent_tallied refused moment (address_of due.to.address) sends.bytes past old.parts.counts a);
  };
  name = ap (λ (p : LearnerState). p.name) is;
  speaks = (said_speaks old.parts due moment true old.link new.link whole modest sends, tt);
  alone = due_alone old.parts.outbox due moment true old.link new.link sends;
}
sends_goes old new past moment seat due false whole s modest sends is stands =
    refused_goes old new past whole s sends.sends.outcome.0 (due_alone old.parts.outbox due moment false old.link new.link sends) is

module _ (old new : Scene) (past : List Record) (moment seat : ℕ) (whole : IsWhole old.parts) (s : StandsFor old.parts past) where
  abbrev p : LearnerState
  p = old.parts

  module _ (c : Channel) (there : channel_at old.parts.lives seat ≡ Some c) where
    under : seat < 64
    under = let lt = within old.parts.lives.channels seat c there in omega (arith, lt, s.standing.seated.are.seats)

    greeting_goes : is_waiting c ≡ true → (h : Bool)
        → SendsOn (if h then Some (record { to = record { address = c.address; channel = if is_waiting c then 0 else unwrap_or c.remote 0 }; note = Handshake c.local }) else None) seat moment old new
        → Goes old new past
    greeting_goes waits false sends = goes_none old new past sends whole s
    greeting_goes waits true sends =
        let due : Due = record { to = record { address = c.address; channel = if is_waiting c then 0 else unwrap_or c.remote 0 }; note = Handshake c.local } in
        let w = sends.1.written in
        let number : (if is_waiting c then 0 else unwrap_or c.remote 0) ≡ 0 = ap (λ (b : Bool). if b then 0 else unwrap_or c.remote 0) waits in
        let own = subst (λ (n : ℕ). IsDatagram old.parts.outbox n (plain.Handshake c.local (own_options old.parts.outbox) ∷ []) sends.1.bytes) number
        (subst (λ (xs : List Message). IsDatagram old.parts.outbox (if is_waiting c then 0 else unwrap_or c.remote 0) xs sends.1.bytes) sends.1.said w) in
        sends_goes old new past moment seat _ sends.0 whole s tt sends.1 sends.2
        (greeted_stands old.parts past whole s moment seat c there (after_note counts.Sent old.parts.counts) (own_options old.parts.outbox) sends.1.bytes waits under own)

    -- a note is said on a channel that is proven
    speech_goes : is_proven c ≡ true → (asks : Option ℕ) (quiet : Bool) → SendsOn (option_map (on_channel c) (note_for asks quiet)) seat moment old new → Goes old new past
    speech_goes proven None false sends = goes_none old new past sends whole s
    speech_goes proven None true sends =
        let own = subst (λ (xs : List Message). IsDatagram old.parts.outbox (unwrap_or c.remote 0) xs sends.1.bytes) sends.1.said sends.1.written in
        sends_goes old new past moment seat (on_channel c KeepAlive) sends.0 whole s tt sends.1 sends.2
        (spoken_stands old.parts past whole s moment seat c there (record (row_at old.parts.rows seat) { owes = false }) (after_note counts.Sent old.parts.counts) [] sends.1.bytes
        (proven_known c proven) (λ number. refl) own
        (silent_follows (now past) (read_at (stand_in (name_of old.parts.name)) old.parts.lives s.lives past seat) (row_at old.parts.rows seat) (s.follows seat under)))
    speech_goes proven (Some chunk) quiet sends =
        let n = sends.1.said in
        let none : (number : ℕ) → begins_as number sends.1.messages ≡ false = λ number. ap (begins_as number) n.messages ∙ begins_none number n.spans in
        sends_goes old new past moment seat (on_channel c (Request (record { first = chunk; last = chunk }))) sends.0 whole s tt sends.1 sends.2
        (spoken_stands old.parts past whole s moment seat c there (asked_at old.parts.moment (row_at old.parts.rows seat)) (after_note counts.Sent old.parts.counts) sends.1.messages sends.1.bytes
        (proven_known c proven) none sends.1.written
        (asked_follows old.parts.outbox.method (now past) old.parts.moment chunk sends.1.messages (read_at (stand_in (name_of old.parts.name)) old.parts.lives s.lives past seat) (row_at old.parts.rows seat)
        s.now_is n (s.follows seat under)))

    proven_goes : (b : Bool) → is_proven c ≡ b → (asks : Option ℕ) (quiet : Bool)
        → SendsOn (if b then option_map (on_channel c) (note_for asks quiet) else None) seat moment old new → Goes old new past
    proven_goes true proven asks quiet sends = speech_goes proven asks quiet sends
    proven_goes false proven asks quiet sends = goes_none old new past sends whole s

    waiting_goes : (b : Bool) → is_waiting c ≡ b
        → SendsOn (if b then greeting_due old.parts.moment (Some c) else on_proven c (speaks (is_silent old.parts.moment c) old.parts.moment (row_at old.parts.rows seat))) seat moment old new
        → Goes old new past
    waiting_goes true waits sends = greeting_goes waits (handshake_due old.parts.moment c) sends
    waiting_goes false waits sends = proven_goes (is_proven c) refl (asks old.parts.moment (row_at old.parts.rows seat))
        ((row_at old.parts.rows seat).owes || is_silent old.parts.moment c) sends

  seat_goes : (o : Option Channel) → channel_at old.parts.lives seat ≡ o → SendsOn (due_of old.parts.moment o (row_at old.parts.rows seat)) seat moment old new → Goes old new past
  seat_goes None there sends = goes_none old new past sends whole s
  seat_goes (Some c) there sends = waiting_goes c there (is_waiting c) refl sends

pub speak_goes : (moment : ℕ) → GoesAt (SpeaksAt moment)
speak_goes moment seat old new past sends whole s = seat_goes old new past moment seat whole s (channel_at old.parts.lives seat) refl sends
