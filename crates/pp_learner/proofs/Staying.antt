-- A learner that stands for its traffic still does once something came.
use Rattle.std.proofs.Common.{◌≡◌, ◌≢◌, ◌⊎◌, inl, inr, ⊎_elim, ℕ, ◌<◌, ◌≤◌, eqb, max, Bool, true, false, ◌||◌, Option, Some, None, List, [], ◌∷◌, length, take, refl, sym, ◌∙◌, ap, subst, arith}
use Rattle.std.specs.Int.{w32, from_be_bytes}
use Rattle.std.specs.Prelude.{is_some, slice_set, if◌then◌else◌}
use Rattle.std.proofs.lemmas.Bool.Decides.{nat_tests}
use Rattle.rand_chacha.specs.ChaCha.{of_seed}
use Rattle.pp_outside.specs.declared.link.Event.TheVariants.{Datagram, Quiet}
use Rattle.pp_lives.specs.Standing.{read_of}
use Rattle.pp_lives.proofs.Missed.{zero_misses}
use Rattle.pp_lives.proofs.Seated.{meant}
use Rattle.pp_learner.specs.Laws.{AbsorbStands, OpenStands}
use Rattle.std.proofs.lemmas.Bool.{cases_Bool, eqb-true, eqb-false}
use Rattle.std.proofs.lemmas.List.{get_or-set_same, get_or-set_other, length-set}
use Rattle.std.proofs.lemmas.Option.{same_Some}
use Rattle.pp_terms.specs.format.Traffic as traffic
use Rattle.pp_terms.specs.format.Traffic.{Record, Received}
use Rattle.pp_terms.specs.format.Descriptor.{Descriptor}
use Rattle.pp_terms.specs.format.Messages.{Message, Handshake, Data, Ack, Have, Integrity, Pex4, PexReq, Request, Cancel, Choke, Unchoke, Pex6}
use Rattle.pp_traffic.specs.Past.{now}
use Rattle.pp_traffic.specs.Life.{Life, closes}
use Rattle.pp_traffic.specs.Story.{Line, Taken, hear}
use Rattle.pp_counts.specs.declared.counts.Counts.{Counts}
use Rattle.pp_outside.specs.Outside.{address_of}
use Rattle.pp_outside.specs.declared.link.Address.{Address}
use Rattle.pp_channels.specs.Seats.{Seats, channel_at, changed, closed, is_dialled}
use Rattle.pp_channels.specs.declared.channel.Channel.{Channel}
use Rattle.pp_lives.specs.Arriving.{Arrives, contents, is_proven_at}
use Rattle.pp_lives.specs.Arrived.{Arrived, Stays, GivesUp, IsHeardOn, IsRepliedBy, Reads}
use Rattle.pp_lives.specs.Calls.{Changes, TellsOne, TellsFirst, looked, heard_more}
use Rattle.pp_lives.specs.Standing.{Standing, AllBegun, read_at}
use Rattle.pp_lives.specs.declared.arriving.Arrival.{Arrival}
use Rattle.pp_lives.specs.declared.arriving.Arrival.TheVariants as arrivals
use Rattle.pp_channels.proofs.Seating.{none_there}
use Rattle.pp_lives.proofs.Arrivals.{found_there, number_read, stays, there_of}
use Rattle.pp_lives.proofs.Changing.{changed_is, changes_then, dropped_is}
use Rattle.pp_lives.proofs.Closing.{before_drop}
use Rattle.pp_lives.proofs.Wholes.{keeps_standing, stands_at_first, quiet_stays}
use Rattle.pp_targets.specs.Names.{name_of}
use Rattle.pp_targets.specs.Target.{SwarmName}
use Rattle.pp_targets.specs.declared.target.SwarmName as targets
use Rattle.pp_learner.specs.Absorbing.{IsOnProven, OpensNone, TakesDatagram, after_arrival, after_datagram, after_wait, counted, is_for_zero, learned_from, table_after, with_keepalive}
use Rattle.pp_learner.specs.Learners.{LearnerState, opened}
use Rattle.pp_learner.specs.Reading.{Hearing, after_some, is_closing, learned_in, messages_from, read_from, reading, stopped, row_at}
use Rattle.pp_learner.specs.declared.reading.Ending.{Ending}
use Rattle.pp_learner.specs.Standing.{stand_in}
use Rattle.pp_learner.specs.declared.reading.Ending.TheVariants as endings
use Rattle.pp_learner.specs.Following.{Follows, FollowsIf, AllDialled, StandsFor}
use Rattle.pp_learner.specs.Rows.{RowState, begun, blank, heard, heard_all, size_in, noted}
use Rattle.pp_learner.proofs.Arrivals.{other_number}
use Rattle.pp_learner.proofs.Following.{blank_follows, hear_follows, taken_follows}

-- ---- each channel was opened by this peer

dialled_same : (t new : Seats) → new ≡ t → AllDialled t → AllDialled new
dialled_same t new is all = subst AllDialled (sym is) all

pub dialled_changed : (t new : Seats) (seat : ℕ) (c c' : Channel) → channel_at t seat ≡ Some c → is_dialled c'.opening ≡ is_dialled c.opening
    → Changes t new seat (Some c') → AllDialled t → AllDialled new
dialled_changed t new seat c c' there same change all other e also = ⊎_elim
    (λ is.
    let at : channel_at new seat ≡ Some e = ap (channel_at new) (sym (eqb-true other seat is)) ∙ also in
    ap (λ (x : Channel). is_dialled x.opening) (sym (same_Some c' e (sym change.there ∙ at))) ∙ same ∙ all seat c there)
    (λ apart. all other e (sym (change.others other (eqb-false other seat apart)) ∙ also))
    (cases_Bool (eqb other seat))

pub dialled_closed : (t : Seats) (seat : ℕ) (c : Channel) → channel_at t seat ≡ Some c → AllDialled t → AllDialled (closed t seat)
dialled_closed t seat c there all other e also =
    let b = before_drop t (closed t seat) seat c (dropped_is t seat c there) other e also in
    ap (λ (x : Channel). is_dialled x.opening) b.1.2 ∙ all other b.1.0 b.1.1

pub dialled_twice : (t : Seats) (seat : ℕ) (c : Channel) (f g : Channel → Channel) → channel_at t seat ≡ Some c
    → is_dialled (g (f c)).opening ≡ is_dialled c.opening → AllDialled t → AllDialled (changed (changed t seat f) seat g)
dialled_twice t seat c f g there same all =
    let once = changed_is t seat c f there in
    let twice = changed_is (changed t seat f) seat (f c) g once.there in
    dialled_changed t (changed (changed t seat f) seat g) seat c (g (f c)) there same
    (changes_then t (changed t seat f) (changed (changed t seat f) seat g) seat (Some (f c)) (Some (g (f c))) once twice) all

module _ (d : Descriptor) (t : Seats) (sender : Address) (now : ℕ) (bytes : List ℕ) (new : Seats) (other : is_for_zero bytes ≡ false) (all : AllDialled t) where
  at_number : (a : Arrival) → Arrives d t sender now bytes a new → 4 ≤ length bytes → from_be_bytes w32 (take 4 bytes) ≢ 0
  at_number a h long = other_number bytes other long

  pub dialled_after : (a : Arrival) → Arrives d t sender now bytes a new → AllDialled new
  dialled_after arrivals.Short h = dialled_same t new h.1 all
  dialled_after arrivals.NoGreeting h = absurd ((h.other (other_number bytes other h.long)).does.1.does)
  dialled_after arrivals.Unwelcome h = absurd ((h.other (other_number bytes other h.long)).does.1.does)
  dialled_after (arrivals.Again seat) h = absurd ((h.other (other_number bytes other h.long)).does.1.does)
  dialled_after (arrivals.Late seat) h = absurd ((h.other (other_number bytes other h.long)).does.1.does)
  dialled_after arrivals.Unseated h = absurd ((h.other (other_number bytes other h.long)).does.1.does)
  dialled_after (arrivals.Opened seat next) h = absurd ((h.other (other_number bytes other h.long)).does.1.does)
  dialled_after arrivals.NoChannel h = dialled_same t new (h.other (other_number bytes other h.long)).1 all
  dialled_after (arrivals.NoReply seat) h = dialled_same t new (h.other (other_number bytes other h.long)).does.1.3 all
  dialled_after (arrivals.Cut seat) h = dialled_same t new (h.other (other_number bytes other h.long)).does.1.2 all
  dialled_after (arrivals.Differs seat) h =
      let o = h.other (other_number bytes other h.long) in
      let f = found_there t o.seat (from_be_bytes w32 (take 4 bytes)) sender o.found in
      dialled_same (closed t o.seat) new o.does.1.does.2 (dialled_closed t o.seat f.channel f.there all)
  dialled_after (arrivals.Given seat) h =
      let o = h.other (other_number bytes other h.long) in
      let f = found_there t o.seat (from_be_bytes w32 (take 4 bytes)) sender o.found in
      dialled_same (closed t o.seat) new o.does.1.does.3 (dialled_closed t o.seat f.channel f.there all)
  dialled_after (arrivals.Replied seat) h =
      let o = h.other (other_number bytes other h.long) in
      let f = found_there t o.seat (from_be_bytes w32 (take 4 bytes)) sender o.found in
      dialled_same _ new o.does.1.does.3 (dialled_twice t o.seat f.channel _ _ f.there refl all)
  dialled_after (arrivals.Heard seat) h =
      let o = h.other (other_number bytes other h.long) in
      let f = found_there t o.seat (from_be_bytes w32 (take 4 bytes)) sender o.found in
      dialled_same _ new o.does.2 (dialled_twice t o.seat f.channel _ _ f.there refl all)

-- ---- what is told of a seat

looked_follows : (now : ℕ) (o : Option (List Line)) (row : RowState) → FollowsIf o row → FollowsIf (looked now o) row
looked_follows now None row f = tt
looked_follows now (Some story) row f = taken_follows now story row f

-- ---- what the messages of a datagram come to

-- All were read, or one closed the channel, or one told a size.
abbrev Outcome : List Message → RowState → Hearing → Type 0
Outcome ms row h = ((h.ending ≡ endings.Read) × (closes ms ≡ false) × (h.row ≡ heard_all ms row))
    ⊎ (((h.ending ≡ endings.Closed) × (closes ms ≡ true)) ⊎ ((e : Descriptor) × (h.ending ≡ endings.Learned e)))

pub closes_first : (m : Message) (ms : List Message) → closes (m ∷ ms) ≡ is_closing m || closes ms
closes_first (Handshake source options) ms = refl
closes_first (Data i sent_at bytes) ms = refl
closes_first (Ack span delay) ms = refl
closes_first (Have span) ms = refl
closes_first (Integrity span digest) ms = refl
closes_first (Pex4 address port) ms = refl
closes_first PexReq ms = refl
closes_first (Request span) ms = refl
closes_first (Cancel span) ms = refl
closes_first Choke ms = refl
closes_first Unchoke ms = refl
closes_first (Pex6 address port) ms = refl

outcome_more : (m : Message) (ms : List Message) (row : RowState) (h : Hearing) → is_closing m ≡ false → Outcome ms (heard m row) h → Outcome (m ∷ ms) row h
outcome_more m ms row h open_still (inl o) =
    inl (o.0, closes_first m ms ∙ ap (λ (b : Bool). b || closes ms) open_still ∙ o.1, o.2)
outcome_more m ms row h open_still (inr (inl o)) =
    inr (inl (o.0, closes_first m ms ∙ ap (λ (b : Bool). b || closes ms) open_still ∙ o.1))
outcome_more m ms row h open_still (inr (inr o)) = inr (inr o)

module _ (name : SwarmName) (cut : Bool) where
  outcome_first : (m : Message) (ms : List Message) (row : RowState) (counts : Counts) (b : Bool) (o : Option Descriptor) → is_closing m ≡ b → size_in name m row ≡ o
      → Outcome ms (heard m row) (reading name cut ms (heard m row) (after_some (noted name m row) counts))
      → Outcome (m ∷ ms) row (if b then record { row = row; counts = counts; ending = endings.Closed }
      else stopped o (heard m row) (after_some (noted name m row) counts) (reading name cut ms (heard m row) (after_some (noted name m row) counts)))
  outcome_first m ms row counts true o closing size rest = inr (inl (refl, closes_first m ms ∙ ap (λ (b : Bool). b || closes ms) closing))
  outcome_first m ms row counts false (Some e) closing size rest = inr (inr (e, refl))
  outcome_first m ms row counts false None closing size rest =
      outcome_more m ms row (reading name cut ms (heard m row) (after_some (noted name m row) counts)) closing rest

  outcome : (ms : List Message) (row : RowState) (counts : Counts) → Outcome ms row (reading name cut ms row counts)
  outcome [] row counts = inl (refl, refl, refl)
  outcome (m ∷ ms) row counts = outcome_first m ms row counts (is_closing m) (size_in name m row) refl refl
      (outcome ms (heard m row) (after_some (noted name m row) counts))

-- ---- rows

pub row_same : (rows : List RowState) (seat : ℕ) (row : RowState) → seat < length rows → row_at (slice_set rows seat row) seat ≡ row
row_same rows seat row lt = get_or-set_same rows seat row blank lt

pub row_other : (rows : List RowState) (seat other : ℕ) (row : RowState) → other ≢ seat → row_at (slice_set rows seat row) other ≡ row_at rows other
row_other rows seat other row ne = get_or-set_other rows seat other row blank ne

more_follows : (now : ℕ) (ms : List Message) (o : Option (List Line)) (row : RowState) → FollowsIf o row → FollowsIf (heard_more now ms o) (heard_all ms row)
more_follows now ms None row f = tt
more_follows now ms (Some story) row f = taken_follows now (hear now ms story) (heard_all ms row) (hear_follows now ms story row f)

pub zero_number : (bytes : List ℕ) → is_for_zero bytes ≡ true → (4 ≤ length bytes) × (from_be_bytes w32 (take 4 bytes) ≡ 0)
zero_number bytes is = (grind (arith, nat_tests), grind (arith, nat_tests))

none_some : (e : Descriptor) → None ≡ Some e → ⊥
none_some e is = cc

-- ---- a learner and what came

module _ (p : LearnerState) (past : List Record) (s : StandsFor p past) where
  abbrev d : Descriptor
  d = stand_in (name_of p.name)

  pub quiet_stands : (at : ℕ) → StandsFor (after_wait at p) (traffic.Quiet at ∷ past)
  quiet_stands at =
      let q = quiet_stays d p.lives s.lives at past s.standing in
      record {
        now_is = ap (λ (n : ℕ). max at n) s.now_is;
        lives = s.lives;
        standing = q.0;
        begun = s.begun;
        dialled = s.dialled;
        follows = λ seat lt. subst (λ (o : Option (List Line)). FollowsIf o (row_at p.rows seat)) (sym (q.1 seat))
            (looked_follows (max at (now past)) (read_at d p.lives s.lives past seat) (row_at p.rows seat) (s.follows seat lt));
      }

  module _ (at : ℕ) (sender : Address) (bytes : List ℕ) where
    abbrev r : Record
    r = Received at (address_of sender) bytes

    abbrev told : (Seats → (ℕ → Option Life) → ℕ → Option (List Line))
    told t lives seat = read_at d t lives (r ∷ past) seat

    -- nothing was read
    stays_stands : (table : Seats) (n : ℕ) (counts : Counts) → Stays d n p.lives table s.lives r past → AllDialled table
        → StandsFor (record p { lives = table; moment = max at p.moment; counts = counts }) (r ∷ past)
    stays_stands table n counts x all = record {
      now_is = ap (λ (m : ℕ). max at m) s.now_is;
      lives = s.lives;
      standing = x.standing;
      begun = x.begun s.begun;
      dialled = all;
      follows = λ seat lt. subst (λ (o : Option (List Line)). FollowsIf o (row_at p.rows seat)) (sym (x.tells seat))
          (looked_follows n (read_at d p.lives s.lives past seat) (row_at p.rows seat) (s.follows seat lt));
    }

    -- a seat was dropped, whose row may be any
    gives_stands : (table : Seats) (n seat : ℕ) (lives : ℕ → Option Life) (rows : List RowState) (counts : Counts) → GivesUp d n seat p.lives table s.lives lives r past
        → AllDialled table → ((other : ℕ) → other ≢ seat → row_at rows other ≡ row_at p.rows other)
        → StandsFor (record p { lives = table; moment = max at p.moment; rows = rows; counts = counts }) (r ∷ past)
    gives_stands table n seat lives rows counts x all same = record {
      now_is = ap (λ (m : ℕ). max at m) s.now_is;
      lives = lives;
      standing = x.standing;
      begun = x.begun s.begun;
      dialled = all;
      follows = λ other lt. ⊎_elim
          (λ is. subst (λ (o : Option (List Line)). FollowsIf o (row_at rows other)) (sym (ap (told table lives) (eqb-true other seat is) ∙ x.own)) tt)
          (λ ne. let apart = eqb-false other seat ne in
          subst (λ (o : Option (List Line)). FollowsIf o (row_at rows other)) (sym (x.others other apart))
          (subst (λ (w : RowState). FollowsIf (looked n (read_at d p.lives s.lives past other)) w) (sym (same other apart))
          (looked_follows n (read_at d p.lives s.lives past other) (row_at p.rows other) (s.follows other lt))))
          (cases_Bool (eqb other seat));
    }

    -- messages were read on a seat
    reads_stands : (table : Seats) (n seat : ℕ) (lives : ℕ → Option Life) (rows : List RowState) (counts : Counts) → Standing d table lives (r ∷ past)
        → (AllBegun p.lives → AllBegun table) → AllDialled table → FollowsIf (told table lives seat) (row_at rows seat)
        → ((other : ℕ) → other ≢ seat → told table lives other ≡ looked n (read_at d p.lives s.lives past other))
        → ((other : ℕ) → other ≢ seat → row_at rows other ≡ row_at p.rows other)
        → StandsFor (record p { lives = table; moment = max at p.moment; rows = rows; counts = counts }) (r ∷ past)
    reads_stands table n seat lives rows counts standing begun all own others same = record {
      now_is = ap (λ (m : ℕ). max at m) s.now_is;
      lives = lives;
      standing = standing;
      begun = begun s.begun;
      dialled = all;
      follows = λ other lt. ⊎_elim
          (λ is. subst (λ (k : ℕ). FollowsIf (told table lives k) (row_at rows k)) (sym (eqb-true other seat is)) own)
          (λ ne. let apart = eqb-false other seat ne in
          subst (λ (o : Option (List Line)). FollowsIf o (row_at rows other)) (sym (others other apart))
          (subst (λ (w : RowState). FollowsIf (looked n (read_at d p.lives s.lives past other)) w) (sym (same other apart))
          (looked_follows n (read_at d p.lives s.lives past other) (row_at p.rows other) (s.follows other lt))))
          (cases_Bool (eqb other seat));
    }

    -- what reading came to, on a seat with a row
    module _ (table : Seats) (n seat : ℕ) (row : RowState) (rows : List RowState) (counts : Counts) (lt : seat < length rows) (all : AllDialled table)
        (c : Channel) (there : channel_at table seat ≡ Some c) (same : (other : ℕ) → other ≢ seat → row_at rows other ≡ row_at p.rows other) where
      same_set : (w : RowState) (other : ℕ) → other ≢ seat → row_at (slice_set rows seat w) other ≡ row_at p.rows other
      same_set w other ne = row_other rows seat other w ne ∙ same other ne

      abbrev After : Hearing → Type 0
      After h = StandsFor (record p { lives = table_after seat h.ending table; moment = max at p.moment; rows = slice_set rows seat h.row; counts = h.counts }) (r ∷ past)

      replied_stands : (ms : List Message) (h : Hearing) → Outcome ms row h → row ≡ begun → None ≡ learned_in h.ending
          → Reads d n seat ms TellsFirst (IsRepliedBy d r past) p.lives table s.lives r past → After h
      replied_stands ms h (inl (ending, open_still, row_is)) begins none x =
          let t = x.tells open_still in
          subst (λ (e : Ending). StandsFor (record p { lives = table_after seat e table; moment = max at p.moment; rows = slice_set rows seat h.row; counts = h.counts }) (r ∷ past)) (sym ending)
          (reads_stands table n seat x.living (slice_set rows seat h.row) h.counts (x.goes_on open_still) x.begun all
          (subst (λ (o : Option (List Line)). FollowsIf o (row_at (slice_set rows seat h.row) seat)) (sym t.own.is)
          (subst (λ (w : RowState). Follows (Taken n ∷ hear n ms t.own.before) w) (sym (row_same rows seat h.row lt ∙ row_is ∙ ap (λ (w : RowState). heard_all ms w) begins))
          (taken_follows n (hear n ms t.own.before) (heard_all ms begun) (hear_follows n ms t.own.before begun (blank_follows t.own.before t.own.nothing)))))
          t.others (same_set h.row))
      replied_stands ms h (inr (inl (ending, shut))) begins none x =
          let g = x.shuts shut in
          subst (λ (e : Ending). StandsFor (record p { lives = table_after seat e table; moment = max at p.moment; rows = slice_set rows seat h.row; counts = h.counts }) (r ∷ past)) (sym ending)
          (gives_stands (closed table seat) n seat g.0 (slice_set rows seat h.row) h.counts g.1 (dialled_closed table seat c there all) (same_set h.row))
      replied_stands ms h (inr (inr (e, ending))) begins none x = absurd (none_some e (none ∙ ap learned_in ending))

      heard_stands : (ms : List Message) (h : Hearing) → Outcome ms row h → row ≡ row_at p.rows seat → seat < 64 → None ≡ learned_in h.ending
          → Reads d n seat ms TellsOne (IsHeardOn d p.lives s.lives r past seat) p.lives table s.lives r past → After h
      heard_stands ms h (inl (ending, open_still, row_is)) was low none x =
          let t = x.tells open_still in
          subst (λ (e : Ending). StandsFor (record p { lives = table_after seat e table; moment = max at p.moment; rows = slice_set rows seat h.row; counts = h.counts }) (r ∷ past)) (sym ending)
          (reads_stands table n seat x.living (slice_set rows seat h.row) h.counts (x.goes_on open_still) x.begun all
          (subst (λ (o : Option (List Line)). FollowsIf o (row_at (slice_set rows seat h.row) seat)) (sym t.own)
          (subst (λ (w : RowState). FollowsIf (heard_more n ms (read_at d p.lives s.lives past seat)) w)
          (sym (row_same rows seat h.row lt ∙ row_is ∙ ap (λ (w : RowState). heard_all ms w) was))
          (more_follows n ms (read_at d p.lives s.lives past seat) (row_at p.rows seat) (s.follows seat low))))
          t.others (same_set h.row))
      heard_stands ms h (inr (inl (ending, shut))) was low none x =
          let g = x.shuts shut in
          subst (λ (e : Ending). StandsFor (record p { lives = table_after seat e table; moment = max at p.moment; rows = slice_set rows seat h.row; counts = h.counts }) (r ∷ past)) (sym ending)
          (gives_stands (closed table seat) n seat g.0 (slice_set rows seat h.row) h.counts g.1 (dialled_closed table seat c there all) (same_set h.row))
      heard_stands ms h (inr (inr (e, ending))) was low none x = absurd (none_some e (none ∙ ap learned_in ending))

    -- a datagram for a channel's number
    module _ (other : is_for_zero bytes ≡ false) (seats : length p.rows ≡ 64) (table : Seats) (counts : Counts) where
      abbrev n : ℕ
      n = max at p.moment

      abbrev q : LearnerState
      q = record p { lives = table; moment = max at p.moment; counts = counts }

      abbrev Comes : Arrival → Type 0
      Comes a = Arrives d p.lives sender n bytes a table

      arrived_at : (a : Arrival) → Comes a → Arrived d p.lives s.lives r past n bytes a table
      arrived_at a h = keeps_standing d p.lives table sender n bytes a h s.lives at past (ap (λ (m : ℕ). max at m) s.now_is) s.standing s.begun

      all_after : (a : Arrival) → Comes a → AllDialled table
      all_after a h = dialled_after d p.lives sender n bytes table other s.dialled a h

      on_reply : (seat : ℕ) → Comes (arrivals.Replied seat) → is_proven_at (channel_at table seat) ≡ true → None ≡ learned_from (arrivals.Replied seat) bytes q
          → StandsFor (after_arrival (arrivals.Replied seat) bytes q) (r ∷ past)
      on_reply seat h proven none =
          let used = (meant d p.lives table sender n bytes (arrivals.Replied seat) s.standing.seated.are h).seated in
          let e = there_of is_proven_at (channel_at table seat) refl proven in
          let lt : seat < length p.rows = omega (arith, used.0, seats) in
          let rows : List RowState = slice_set p.rows seat begun in
          let row : RowState = row_at (slice_set p.rows seat begun) seat in
          let size : length (slice_set p.rows seat begun) ≡ length p.rows = length-set p.rows seat begun in
          replied_stands table n seat (row_at (slice_set p.rows seat begun) seat) (slice_set p.rows seat begun) counts (omega (arith, lt, size)) (all_after (arrivals.Replied seat) h) e.0 e.1
          (λ k ne. row_other p.rows seat k begun ne) (contents d bytes).read (read_from (name_of p.name) bytes 4 (row_at (slice_set p.rows seat begun) seat) counts)
          (outcome (name_of p.name) (is_some (messages_from (name_of p.name) bytes 4).fault) (contents d bytes).read (row_at (slice_set p.rows seat begun) seat) counts)
          (row_same p.rows seat begun lt) none (arrived_at (arrivals.Replied seat) h)

      on_heard : (seat : ℕ) → Comes (arrivals.Heard seat) → is_proven_at (channel_at table seat) ≡ true → None ≡ learned_from (arrivals.Heard seat) bytes q
          → StandsFor (after_arrival (arrivals.Heard seat) bytes q) (r ∷ past)
      on_heard seat h proven none =
          let used = (meant d p.lives table sender n bytes (arrivals.Heard seat) s.standing.seated.are h).seated in
          let e = there_of is_proven_at (channel_at table seat) refl proven in
          let low = used.0 in
          let lt : seat < length p.rows = omega (arith, low, seats) in
          heard_stands table n seat (row_at p.rows seat) p.rows (with_keepalive bytes q).counts lt (all_after (arrivals.Heard seat) h) e.0 e.1
          (λ k ne. refl) (contents d bytes).read (read_from (name_of p.name) bytes 4 (row_at p.rows seat) (with_keepalive bytes q).counts)
          (outcome (name_of p.name) (is_some (messages_from (name_of p.name) bytes 4).fault) (contents d bytes).read (row_at p.rows seat) (with_keepalive bytes q).counts)
          refl low none (arrived_at (arrivals.Heard seat) h)

      arrival_stands : (a : Arrival) → Comes a → OpensNone a → IsOnProven a table → None ≡ learned_from a bytes q → StandsFor (after_arrival a bytes q) (r ∷ past)
      arrival_stands arrivals.Short h opens proven none = stays_stands table n counts (arrived_at arrivals.Short h) (all_after arrivals.Short h)
      arrival_stands arrivals.NoGreeting h opens proven none = stays_stands table n counts (arrived_at arrivals.NoGreeting h) (all_after arrivals.NoGreeting h)
      arrival_stands arrivals.Unwelcome h opens proven none = stays_stands table n counts (arrived_at arrivals.Unwelcome h) (all_after arrivals.Unwelcome h)
      arrival_stands (arrivals.Again seat) h opens proven none = stays_stands table n counts (arrived_at (arrivals.Again seat) h) (all_after (arrivals.Again seat) h)
      arrival_stands (arrivals.Late seat) h opens proven none = stays_stands table n counts (arrived_at (arrivals.Late seat) h) (all_after (arrivals.Late seat) h)
      arrival_stands arrivals.Unseated h opens proven none = stays_stands table n counts (arrived_at arrivals.Unseated h) (all_after arrivals.Unseated h)
      arrival_stands (arrivals.Opened seat next) h opens proven none = absurd opens
      arrival_stands arrivals.NoChannel h opens proven none = stays_stands table n counts (arrived_at arrivals.NoChannel h) (all_after arrivals.NoChannel h)
      arrival_stands (arrivals.NoReply seat) h opens proven none = stays_stands table n counts (arrived_at (arrivals.NoReply seat) h) (all_after (arrivals.NoReply seat) h)
      arrival_stands (arrivals.Cut seat) h opens proven none = stays_stands table n counts (arrived_at (arrivals.Cut seat) h) (all_after (arrivals.Cut seat) h)
      arrival_stands (arrivals.Differs seat) h opens proven none =
          gives_stands table n seat s.lives p.rows counts (arrived_at (arrivals.Differs seat) h) (all_after (arrivals.Differs seat) h) (λ k ne. refl)
      arrival_stands (arrivals.Given seat) h opens proven none =
          gives_stands table n seat s.lives p.rows counts (arrived_at (arrivals.Given seat) h) (all_after (arrivals.Given seat) h) (λ k ne. refl)
      arrival_stands (arrivals.Replied seat) h opens proven none = on_reply seat h proven none
      arrival_stands (arrivals.Heard seat) h opens proven none = on_heard seat h proven none

    -- a datagram for channel 0, which is refused
    zero_stands : (counts : Counts) → is_for_zero bytes ≡ true → StandsFor (record p { moment = max at p.moment; counts = counts }) (r ∷ past)
    zero_stands counts zero =
        let z = zero_number bytes zero in
        stays_stands p.lives (max at (now past)) counts
        (stays d p.lives p.lives s.lives at (address_of sender) bytes past s.standing refl
        (zero_misses d p.lives s.lives r past s.standing.seated (number_read d r bytes refl z.0 ∙ ap Some z.1))) s.dialled

    datagram_stands : (new : LearnerState) → length p.rows ≡ 64 → TakesDatagram sender bytes None (after_datagram (after_wait at p)) new → StandsFor new (r ∷ past)
    datagram_stands new seats does = ⊎_elim
        (λ zero. subst (λ (l : LearnerState). StandsFor l (r ∷ past)) (sym (does.zero zero).rest) (zero_stands _ zero))
        (λ other. let a = does.other other in
        subst (λ (l : LearnerState). StandsFor l (r ∷ past)) (sym a.after)
        (arrival_stands other seats a.table (after_some (counted a.arrival) (after_datagram (after_wait at p)).counts) a.arrival a.arrives a.opens_none a.proven a.answers))
        (cases_Bool (is_for_zero bytes))

pub absorb_stands : AbsorbStands
absorb_stands (Datagram sender len at) bytes old new past whole does s = datagram_stands old past s at sender bytes new whole.seats does
absorb_stands (Quiet at) bytes old new past whole does s = subst (λ (l : LearnerState). StandsFor l (traffic.Quiet at ∷ past)) (sym does.1) (quiet_stands old past s at)

-- ---- with no traffic

open_stands_for : (name : targets.SwarmName) (seed : List ℕ) (dial : List Address) → StandsFor (opened name seed dial) []
open_stands_for name seed dial = record {
  now_is = refl;
  lives = λ seat. None;
  standing = stands_at_first (stand_in (name_of name)) (of_seed seed);
  begun = λ seat c there waits. absurd (let none = none_there 64 seat in cc);
  dialled = λ seat c there. absurd (let none = none_there 64 seat in cc);
  follows = λ seat lt. subst (λ (o : Option Channel). FollowsIf (read_of (stand_in (name_of name)) o None []) (row_at (opened name seed dial).rows seat))
      (sym (none_there 64 seat)) tt;
}

pub open_stands : OpenStands
open_stands name seed dial = (open_stands_for name seed dial, record { turns = refl; datagrams = refl; sent = refl; short = refl; receive_faults = refl })
