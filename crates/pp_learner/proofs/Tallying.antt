-- The counts are those of the traffic.
use Rattle.std.proofs.Common.{◌≡◌, ⊎_elim, ℕ, ◌+◌, ◌<◌, ◌≤◌, max, Bool, true, false, ◌||◌, Option, Some, None, List, [], ◌∷◌, length, refl, sym, ◌∙◌, ap, subst, arith}
use Rattle.std.specs.Prelude.{◌==◌, cond, if◌then◌else◌, is_some, nat_lt, slice_set}
use Rattle.std.proofs.lemmas.Bool.{cases_Bool}
use Rattle.std.proofs.lemmas.Bool.Decides.{nat_tests}
use Rattle.pp_terms.specs.Count.{capped, one_more}
use Rattle.pp_terms.specs.tree.Range.{Span}
use Rattle.pp_terms.specs.tree.Tree.{Node}
use Rattle.pp_terms.specs.format.Descriptor.{Descriptor}
use Rattle.pp_terms.specs.format.Messages.{Message, Handshake, Data, Ack, Have, Integrity, Pex4, PexReq, Request, Cancel, Choke, Unchoke, Pex6}
use Rattle.pp_terms.specs.format.Traffic as traffic
use Rattle.pp_terms.specs.format.Traffic.{Record, Received}
use Rattle.pp_traffic.specs.Claims.{named}
use Rattle.pp_traffic.specs.Tallied.{came, came_short, went}
use Rattle.pp_traffic.specs.Turns.{events}
use Rattle.pp_counts.specs.Counts.{after_note}
use Rattle.pp_counts.specs.declared.counts.Counts.{Counts}
use Rattle.pp_counts.specs.declared.note.Note.{Note}
use Rattle.pp_counts.specs.declared.note.Note.TheVariants as notes
use Rattle.pp_seat.specs.Lines.{inside}
use Rattle.pp_targets.specs.Target.{SwarmName}
use Rattle.pp_targets.specs.declared.learning.Learned.{Learned}
use Rattle.pp_targets.specs.declared.learning.Learned.TheVariants.{Size, SixtyFour, Missing, Wrong}
use Rattle.pp_outside.specs.Outside.{address_of}
use Rattle.pp_outside.specs.declared.link.Address.{Address}
use Rattle.pp_outside.specs.declared.link.Event.TheVariants.{Datagram, Quiet}
use Rattle.pp_channels.specs.Seats.{Seats}
use Rattle.pp_lives.specs.Arriving.{Arrives, contents, is_faulty}
use Rattle.pp_lives.specs.declared.arriving.Arrival.{Arrival}
use Rattle.pp_lives.specs.declared.arriving.Arrival.TheVariants as arrivals
use Rattle.pp_traffic.specs.Life.{begins}
use Rattle.pp_targets.specs.Names.{name_of}
use Rattle.pp_learner.specs.Absorbing.{TakesDatagram, after_arrival, after_datagram, after_wait, counted, greeting_note, is_for_zero}
use Rattle.pp_learner.specs.Following.{AreTallied}
use Rattle.pp_learner.specs.Laws.{EventsTally, RefusalTallies}
use Rattle.pp_learner.specs.Learners.{LearnerState}
use Rattle.pp_learner.specs.Standing.{stand_in}
use Rattle.pp_learner.specs.Reading.{after_some, is_closing, messages_from, reading, row_at, stopped}
use Rattle.pp_learner.specs.Rows.{RowState, begun, heard, note_of, noted, not_a_node_or, outside_or, size_in, weighed}
use Rattle.pp_learner.specs.declared.reading.Ending.TheVariants as endings

-- ---- notes that change none of the five counts

abbrev pub IsOther : Note → Type 0
IsOther notes.Turn = ⊥
IsOther notes.Datagram = ⊥
IsOther notes.Sent = ⊥
IsOther notes.Short = ⊥
IsOther notes.ReceiveFault = ⊥
IsOther _ = Unit {0}

abbrev pub IsOtherIf : Option Note → Type 0
IsOtherIf None = Unit {0}
IsOtherIf (Some note) = IsOther note

module _ (refused : ℕ) (past : List Record) where
  tallied_as : (k new : Counts) → new.turns ≡ k.turns → new.datagrams ≡ k.datagrams → new.sent ≡ k.sent → new.short ≡ k.short → new.receive_faults ≡ k.receive_faults
      → AreTallied refused k past → AreTallied refused new past
  tallied_as k new turns datagrams sent short faults a = record {
    turns = turns ∙ a.turns;
    datagrams = datagrams ∙ a.datagrams;
    sent = sent ∙ a.sent;
    short = short ∙ a.short;
    receive_faults = faults ∙ a.receive_faults;
  }

  pub other_tallied : (note : Note) (k : Counts) → IsOther note → AreTallied refused k past → AreTallied refused (after_note note k) past
  other_tallied notes.Turn k other a = absurd other
  other_tallied notes.Datagram k other a = absurd other
  other_tallied notes.Sent k other a = absurd other
  other_tallied notes.Short k other a = absurd other
  other_tallied notes.ReceiveFault k other a = absurd other
  other_tallied notes.Stored k other a = tallied_as k (after_note notes.Stored k) refl refl refl refl refl a
  other_tallied notes.KeepAlive k other a = tallied_as k (after_note notes.KeepAlive k) refl refl refl refl refl a
  other_tallied notes.Stranger k other a = tallied_as k (after_note notes.Stranger k) refl refl refl refl refl a
  other_tallied notes.RefusedHandshake k other a = tallied_as k (after_note notes.RefusedHandshake k) refl refl refl refl refl a
  other_tallied notes.NoSeat k other a = tallied_as k (after_note notes.NoSeat k) refl refl refl refl refl a
  other_tallied notes.Cut k other a = tallied_as k (after_note notes.Cut k) refl refl refl refl refl a
  other_tallied notes.Outside k other a = tallied_as k (after_note notes.Outside k) refl refl refl refl refl a
  other_tallied notes.NotANode k other a = tallied_as k (after_note notes.NotANode k) refl refl refl refl refl a
  other_tallied notes.Full k other a = tallied_as k (after_note notes.Full k) refl refl refl refl refl a
  other_tallied notes.Choked k other a = tallied_as k (after_note notes.Choked k) refl refl refl refl refl a
  other_tallied notes.Unheld k other a = tallied_as k (after_note notes.Unheld k) refl refl refl refl refl a
  other_tallied notes.Missing k other a = tallied_as k (after_note notes.Missing k) refl refl refl refl refl a
  other_tallied notes.Wrong k other a = tallied_as k (after_note notes.Wrong k) refl refl refl refl refl a
  other_tallied notes.Repeat k other a = tallied_as k (after_note notes.Repeat k) refl refl refl refl refl a
  other_tallied notes.Damaged k other a = tallied_as k (after_note notes.Damaged k) refl refl refl refl refl a
  other_tallied notes.ReadFault k other a = tallied_as k (after_note notes.ReadFault k) refl refl refl refl refl a
  other_tallied notes.SendFault k other a = tallied_as k (after_note notes.SendFault k) refl refl refl refl refl a

  pub some_tallied : (o : Option Note) (k : Counts) → IsOtherIf o → AreTallied refused k past → AreTallied refused (after_some o k) past
  some_tallied None k other a = a
  some_tallied (Some note) k other a = other_tallied note k other a

  -- ---- what is noted of messages

  module _ (name : SwarmName) (cut : Bool) where
    weighed_other : (o : Option Learned) → IsOtherIf (note_of o)
    weighed_other None = tt
    weighed_other (Some (Size e)) = tt
    weighed_other (Some SixtyFour) = tt
    weighed_other (Some (Missing node)) = tt
    weighed_other (Some (Wrong found kept)) = tt

    have_other : (o : Option Span) → IsOtherIf (outside_or o None)
    have_other None = tt
    have_other (Some range) = tt

    claim_other : (o : Option Span) (n : Option Node) → IsOtherIf (outside_or o (not_a_node_or n None))
    claim_other None n = tt
    claim_other (Some range) None = tt
    claim_other (Some range) (Some node) = tt

    noted_other_if : (m : Message) (row : RowState) → IsOtherIf (noted name m row)
    noted_other_if (Data i sent_at bytes) row = weighed_other (weighed name row.claims i bytes)
    noted_other_if (Have span) row = have_other (inside 1048576 span)
    noted_other_if (Integrity span digest) row = claim_other (inside 1048576 span) (named 1048576 span)
    noted_other_if (Handshake source options) row = tt
    noted_other_if (Ack span delay) row = tt
    noted_other_if (Pex4 address port) row = tt
    noted_other_if PexReq row = tt
    noted_other_if (Request span) row = tt
    noted_other_if (Cancel span) row = tt
    noted_other_if Choke row = tt
    noted_other_if Unchoke row = tt
    noted_other_if (Pex6 address port) row = tt

    cut_tallied : (b : Bool) (k : Counts) → AreTallied refused k past → AreTallied refused (if b then after_note notes.Cut k else k) past
    cut_tallied true k a = other_tallied notes.Cut k tt a
    cut_tallied false k a = a

    first_tallied : (b : Bool) (o : Option Descriptor) (m : Message) (ms : List Message) (row : RowState) (k : Counts) → AreTallied refused k past
        → AreTallied refused (reading name cut ms (heard m row) (after_some (noted name m row) k)).counts past
        → AreTallied refused (if b then record { row = row; counts = k; ending = endings.Closed }
        else stopped o (heard m row) (after_some (noted name m row) k) (reading name cut ms (heard m row) (after_some (noted name m row) k))).counts past
    first_tallied true o m ms row k a rest = a
    first_tallied false (Some e) m ms row k a rest = some_tallied (noted name m row) k (noted_other_if m row) a
    first_tallied false None m ms row k a rest = rest

    pub reading_tallied : (ms : List Message) (row : RowState) (k : Counts) → AreTallied refused k past → AreTallied refused (reading name cut ms row k).counts past
    reading_tallied [] row k a = cut_tallied cut k a
    reading_tallied (m ∷ ms) row k a = first_tallied (is_closing m) (size_in name m row) m ms row k a
        (reading_tallied ms (heard m row) (after_some (noted name m row) k) (some_tallied (noted name m row) k (noted_other_if m row) a))

-- ---- the five

more : (n : ℕ) → one_more (capped n) ≡ capped (n + 1)
more n = omega arith

pub quiet_tallied : (refused at : ℕ) (past : List Record) (k : Counts) → AreTallied refused k past → AreTallied refused (after_note notes.Turn k) (traffic.Quiet at ∷ past)
quiet_tallied refused at past k a = record {
  turns = ap one_more a.turns ∙ more (events past + refused) ∙ ap capped (let same : events past + refused + 1 ≡ events past + 1 + refused = omega arith in same);
  datagrams = a.datagrams;
  sent = a.sent;
  short = a.short;
  receive_faults = a.receive_faults;
}

pub refusal_tallied : (refused : ℕ) (past : List Record) (k : Counts) → AreTallied refused k past → AreTallied (refused + 1) (after_note notes.ReceiveFault (after_note notes.Turn k)) past
refusal_tallied refused past k a = record {
  turns = ap one_more a.turns ∙ more (events past + refused) ∙ ap capped (let same : events past + refused + 1 ≡ events past + (refused + 1) = omega arith in same);
  datagrams = a.datagrams;
  sent = a.sent;
  short = a.short;
  receive_faults = ap one_more a.receive_faults ∙ more refused;
}

pub sent_tallied : (refused moment : ℕ) (receiver : traffic.Address) (bytes : List ℕ) (past : List Record) (k : Counts) → AreTallied refused k past
    → AreTallied refused (after_note notes.Sent k) (traffic.Sent moment receiver bytes ∷ past)
sent_tallied refused moment receiver bytes past k a = record {
  turns = a.turns;
  datagrams = a.datagrams;
  sent = ap one_more a.sent ∙ more (went past);
  short = a.short;
  receive_faults = a.receive_faults;
}

-- a datagram came, of four bytes at least; and a shorter one
module _ (refused at : ℕ) (sender : traffic.Address) (bytes : List ℕ) (past : List Record) (k : Counts) (a : AreTallied refused k past) where
  abbrev r : Record
  r = Received at sender bytes

  turned : capped (events past + refused + 1) ≡ capped (events (r ∷ past) + refused)
  turned = ap capped (let same : events past + refused + 1 ≡ events past + 1 + refused = omega arith in same)

  pub long_tallied : 4 ≤ length bytes → AreTallied refused (after_note notes.Datagram (after_note notes.Turn k)) (r ∷ past)
  long_tallied long =
      let test : nat_lt (length bytes) 4 ≡ false = grind (arith, nat_tests) in
      record {
        turns = ap one_more a.turns ∙ more (events past + refused) ∙ turned;
        datagrams = ap one_more a.datagrams ∙ more (came past);
        sent = a.sent;
        short = a.short ∙ ap capped (sym (ap (λ (b : Bool). cond b (came_short past + 1) (came_short past)) test));
        receive_faults = a.receive_faults;
      }

  pub short_tallied : length bytes < 4 → AreTallied refused (after_note notes.Short (after_note notes.Datagram (after_note notes.Turn k))) (r ∷ past)
  short_tallied few =
      let test : nat_lt (length bytes) 4 ≡ true = grind (arith, nat_tests) in
      record {
        turns = ap one_more a.turns ∙ more (events past + refused) ∙ turned;
        datagrams = ap one_more a.datagrams ∙ more (came past);
        sent = a.sent;
        short = ap one_more a.short ∙ more (came_short past) ∙ ap capped (sym (ap (λ (b : Bool). cond b (came_short past + 1) (came_short past)) test));
        receive_faults = a.receive_faults;
      }

-- ---- an event

greeting_other : (b : Bool) → IsOther (if b then notes.RefusedHandshake else notes.Stranger)
greeting_other true = tt
greeting_other false = tt

alive_tallied : (refused : ℕ) (past : List Record) (b : Bool) (k : Counts) → AreTallied refused k past
    → AreTallied refused (if b then after_note notes.KeepAlive k else k) past
alive_tallied refused past true k a = other_tallied refused past notes.KeepAlive k tt a
alive_tallied refused past false k a = a

zero_long : (bytes : List ℕ) → is_for_zero bytes ≡ true → 4 ≤ length bytes
zero_long bytes is = grind (arith, nat_tests)

module _ (p : LearnerState) (refused at : ℕ) (sender : Address) (bytes : List ℕ) (past : List Record) (a : AreTallied refused p.counts past) where
  abbrev record_came : Record
  record_came = Received at (address_of sender) bytes

  abbrev mid : Counts
  mid = after_note notes.Datagram (after_note notes.Turn p.counts)

  abbrev Tallied : Counts → Type 0
  Tallied k = AreTallied refused k (record_came ∷ past)

  came_long : 4 ≤ length bytes → Tallied mid
  came_long long = long_tallied refused at (address_of sender) bytes past p.counts a long

  counted_long : (o : Option Note) → IsOtherIf o → 4 ≤ length bytes → Tallied (after_some o mid)
  counted_long o other long = some_tallied refused (record_came ∷ past) o mid other (came_long long)

  abbrev q : Seats → Arrival → LearnerState
  q table arrival = record p { lives = table; moment = max at p.moment; counts = after_some (counted arrival) mid }

  arrival_tallied : (table : Seats) (arrival : Arrival) → Arrives (stand_in (name_of p.name)) p.lives sender (max at p.moment) bytes arrival table
      → Tallied (after_arrival arrival bytes (q table arrival)).counts
  arrival_tallied table arrivals.Short h = short_tallied refused at (address_of sender) bytes past p.counts a h.0
  arrival_tallied table arrivals.NoGreeting h = counted_long (Some notes.Stranger) tt h.long
  arrival_tallied table arrivals.Unwelcome h = counted_long (Some notes.RefusedHandshake) tt h.long
  arrival_tallied table (arrivals.Again seat) h = counted_long None tt h.long
  arrival_tallied table (arrivals.Late seat) h = counted_long (Some notes.RefusedHandshake) tt h.long
  arrival_tallied table arrivals.Unseated h = counted_long (Some notes.NoSeat) tt h.long
  arrival_tallied table (arrivals.Opened seat next) h = counted_long None tt h.long
  arrival_tallied table arrivals.NoChannel h = counted_long (Some notes.Stranger) tt h.long
  arrival_tallied table (arrivals.NoReply seat) h = counted_long (Some notes.Stranger) tt h.long
  arrival_tallied table (arrivals.Cut seat) h = counted_long (Some notes.Cut) tt h.long
  arrival_tallied table (arrivals.Differs seat) h = counted_long (Some notes.RefusedHandshake) tt h.long
  arrival_tallied table (arrivals.Given seat) h = counted_long None tt h.long
  arrival_tallied table (arrivals.Replied seat) h =
      reading_tallied refused (record_came ∷ past) (name_of p.name) (is_some (messages_from (name_of p.name) bytes 4).fault) (messages_from (name_of p.name) bytes 4).read
      (row_at (slice_set p.rows seat begun) seat) mid (came_long h.long)
  arrival_tallied table (arrivals.Heard seat) h =
      reading_tallied refused (record_came ∷ past) (name_of p.name) (is_some (messages_from (name_of p.name) bytes 4).fault) (messages_from (name_of p.name) bytes 4).read
      (row_at p.rows seat) (if length bytes == 4 then after_note notes.KeepAlive mid else mid)
      (alive_tallied refused (record_came ∷ past) (length bytes == 4) mid (came_long h.long))

  datagram_tallied : (answer : Option Descriptor) (new : LearnerState) → TakesDatagram sender bytes answer (after_datagram (after_wait at p)) new → Tallied new.counts
  datagram_tallied answer new does = ⊎_elim
      (λ zero. subst (λ (l : LearnerState). Tallied l.counts) (sym (does.zero zero).rest)
      (other_tallied refused (record_came ∷ past) (greeting_note (stand_in (name_of p.name)) bytes) mid
      (greeting_other (is_faulty (contents (stand_in (name_of p.name)) bytes) || begins (contents (stand_in (name_of p.name)) bytes).read)) (came_long (zero_long bytes zero))))
      (λ other. let x = does.other other in
      subst (λ (l : LearnerState). Tallied l.counts) (sym x.after) (arrival_tallied x.table x.arrival x.arrives))
      (cases_Bool (is_for_zero bytes))

pub events_tally : EventsTally
events_tally (Datagram sender len at) bytes answer old new refused past does a = datagram_tallied old refused at sender bytes past a answer new does
events_tally (Quiet at) bytes answer old new refused past does a =
    subst (λ (l : LearnerState). AreTallied refused l.counts (traffic.Quiet at ∷ past)) (sym does.1) (quiet_tallied refused at past old.counts a)

pub refusal_tallies : RefusalTallies
refusal_tallies p refused past a = refusal_tallied refused past p.counts a
