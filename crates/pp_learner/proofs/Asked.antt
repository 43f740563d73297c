-- At the end of a turn each channel that may be asked was asked.
use Rattle.std.proofs.Common.{◌≡◌, ◌≢◌, ◌⊎◌, inl, inr, ⊎_elim, ℕ, zero, suc, ◌<◌, ◌≤◌, Bool, true, false, Option, Some, None, List, length, refl, sym, ◌∙◌, ap, subst, arith}
use Rattle.std.specs.Prelude.{is_some, not, nat_lt, ◌&&◌, ◌||◌, option_map, if◌then◌else◌, unwrap_or}
use Rattle.std.proofs.lemmas.Bool.{cases_lt, false≢true}
use Rattle.std.proofs.lemmas.Option.{same_Some}
use Rattle.pp_terms.specs.Count.{HasRisen}
use Rattle.pp_terms.specs.format.Traffic.{Record}
use Rattle.pp_terms.proofs.Risings.{risen_less, risen_more}
use Rattle.pp_traffic.specs.Life.{Life}
use Rattle.pp_traffic.specs.Story.{Line}
use Rattle.pp_promises.specs.ReadStory.{read_story}
use Rattle.std.specs.List.{list_any}
use Rattle.std.proofs.lemmas.List.{length-set}
use Rattle.pp_channels.specs.Seats.{channel_at, changed, free_seat, has_address, is_dialled, with_handshake}
use Rattle.pp_channels.specs.Timing.{handshake_due, is_greeted, is_silent}
use Rattle.pp_channels.specs.declared.channel.Channel.{Channel}
use Rattle.pp_draft.specs.declared.note.Note.TheVariants.{Handshake, KeepAlive, Request}
use Rattle.pp_lives.specs.Reading.{is_proven, is_waiting}
use Rattle.pp_lives.specs.Sending.{with_datagram}
use Rattle.pp_lives.specs.Standing.{once_known, read_at, read_of}
use Rattle.pp_lives.proofs.Changing.{changed_is, within}
use Rattle.pp_lives.proofs.Staying.{proven_known}
use Rattle.pp_targets.specs.Names.{name_of}
use Rattle.pp_learner.specs.Dialling.{Dials, DialsAt, DialsFree, StepsDial, Tries}
use Rattle.pp_learner.specs.declared.dials.Dial.{Dial}
use Rattle.pp_learner.specs.Following.{FollowsIf, StandsFor}
use Rattle.pp_learner.specs.Flushing.{Flushes}
use Rattle.pp_learner.specs.Laws.{AllAsked}
use Rattle.pp_learner.specs.Learners.{IsWhole, LearnerState}
use Rattle.pp_learner.specs.Reading.{row_at}
use Rattle.pp_learner.specs.Rows.{RowState}
use Rattle.pp_learner.specs.Sending.{EachBelow, Scene, SendsDue, SendsOn, SpeaksAt, after_sending, asks, due_at, due_of, greeting_due, is_handshake, note_for, on_channel, on_proven, row_said, speaks, was_asked}
use Rattle.pp_learner.specs.Standing.{stand_in}
use Rattle.pp_learner.specs.declared.due.Due.{Due}
use Rattle.pp_learner.proofs.Modest.{dial_keeps, each_keeps, match_cases, speak_keeps}
use Rattle.pp_learner.proofs.Staying.{row_other, row_same}
use Rattle.pp_learner.proofs.Still.{sent_other}

-- ---- on one seat

-- the other peer doesn't choke, and offers a chunk: then it was asked
abbrev pub IsAskedIf : RowState → Type 0
IsAskedIf row = row.chokes ≡ false → (chunk : ℕ) → row.offer ≡ Some chunk → is_some row.asked ≡ true

-- so it is on a seat with a channel that is proven
abbrev pub IsAskedOn : LearnerState → ℕ → Type 0
IsAskedOn p seat = (c : Channel) → channel_at p.lives seat ≡ Some c → is_proven c ≡ true → IsAskedIf (row_at p.rows seat)

-- who isn't to be asked was asked before
pub asked_before : (now : ℕ) (chokes : Bool) (asked offer : Option ℕ) → (if chokes || was_asked now asked then None else offer) ≡ None → chokes ≡ false
    → (chunk : ℕ) → offer ≡ Some chunk → is_some asked ≡ true
asked_before now true asked offer none free chunk is = absurd (false≢true (sym free))
asked_before now false (Some moment) offer none free chunk is = refl
asked_before now false None offer none free chunk is = absurd (some_none chunk (sym is ∙ none))
  where
    some_none : (n : ℕ) → Some n ≡ None → ⊥
    some_none n e = cc

module _ (seat : ℕ) (p : LearnerState) (c : Channel) (there : channel_at p.lives seat ≡ Some c) (low : seat < length p.rows) where
  -- the channel on which something was sent, as far as it counts here
  sent_proven : (handshake : Bool) (now : ℕ) (e : Channel) → channel_at (with_datagram p.lives seat handshake now) seat ≡ Some e → is_proven e ≡ is_proven c
  sent_proven true now e also =
      let once = changed_is p.lives seat c (λ x. record x { wrote = now }) there in
      let twice = changed_is (changed p.lives seat (λ x. record x { wrote = now })) seat (record c { wrote = now }) (λ x. record x { opening = with_handshake x.opening }) once.there in
      ap is_proven (same_Some e _ (sym also ∙ twice.there))
  sent_proven false now e also =
      let once = changed_is p.lives seat c (λ x. record x { wrote = now }) there in
      ap is_proven (same_Some e _ (sym also ∙ once.there))

  -- after a note was said, by the row that is left
  said_asked : (due : Due) → (is_proven c ≡ true → IsAskedIf (row_said due.note p.moment (row_at p.rows seat))) → IsAskedOn (after_sending seat due true p) seat
  said_asked due row e also proven =
      subst IsAskedIf (sym (row_same p.rows seat (row_said due.note p.moment (row_at p.rows seat)) low))
      (row (sym (sent_proven (is_handshake due.note) p.moment e also) ∙ proven))

-- ---- a step on the seat

module _ (moment seat : ℕ) (old new : Scene) (low : seat < length old.parts.rows) where
  abbrev Result : Type 0
  Result = HasRisen old.link.faults new.link.faults ⊎ IsAskedOn new.parts seat

  asked_same : new ≡ old → IsAskedOn old.parts seat → Result
  asked_same same is = inr (subst (λ (x : Scene). IsAskedOn x.parts seat) (sym same) is)

  module _ (c : Channel) (there : channel_at old.parts.lives seat ≡ Some c) where
    unproven_asked : is_proven c ≡ false → IsAskedOn old.parts seat
    unproven_asked un e also proven = absurd (false≢true (sym un ∙ ap is_proven (same_Some c e (sym there ∙ also)) ∙ proven))

    quiet_asked : asks old.parts.moment (row_at old.parts.rows seat) ≡ None → IsAskedOn old.parts seat
    quiet_asked none e also proven free chunk offers =
        asked_before old.parts.moment (row_at old.parts.rows seat).chokes (row_at old.parts.rows seat).asked (row_at old.parts.rows seat).offer none free chunk offers

    sent_asked : (due : Due) (sent : Bool) → SendsDue old.parts.outbox due moment sent old.link new.link → new.parts ≡ after_sending seat due sent old.parts
        → (is_proven c ≡ true → IsAskedIf (row_said due.note old.parts.moment (row_at old.parts.rows seat))) → Result
    sent_asked due true sends is row = inr (subst (λ (p : LearnerState). IsAskedOn p seat) (sym is) (said_asked seat old.parts c there low due row))
    sent_asked due false sends is row = inl sends.sends.outcome.1

    greeting_asked : is_waiting c ≡ true → (h : Bool)
        → SendsOn (if h then Some (record { to = record { address = c.address; channel = if is_waiting c then 0 else unwrap_or c.remote 0 }; note = Handshake c.local }) else None) seat moment old new
        → Result
    greeting_asked waits false sends = asked_same sends (λ e also proven. absurd (waits_proven waits e also proven))
      where
        waits_proven : is_waiting c ≡ true → (e : Channel) → channel_at old.parts.lives seat ≡ Some e → is_proven e ≡ true → ⊥
        waits_proven w e also proven = false≢true (sym (proven_known c (ap is_proven (same_Some c e (sym there ∙ also)) ∙ proven)) ∙ w)
    greeting_asked waits true sends = sent_asked _ sends.0 sends.1 sends.2 (λ proven. absurd (false≢true (sym (proven_known c proven) ∙ waits)))

    note_asked : (o : Option ℕ) (quiet : Bool) → asks old.parts.moment (row_at old.parts.rows seat) ≡ o → SendsOn (option_map (on_channel c) (note_for o quiet)) seat moment old new → Result
    note_asked None false none sends = asked_same sends (quiet_asked none)
    note_asked None true none sends = sent_asked (on_channel c KeepAlive) sends.0 sends.1 sends.2
        (λ proven free chunk offers. quiet_asked none c there proven free chunk offers)
    note_asked (Some chunk) quiet some sends = sent_asked (on_channel c (Request (record { first = chunk; last = chunk }))) sends.0 sends.1 sends.2
        (λ proven free k offers. refl)

    proven_asked : (b : Bool) → is_proven c ≡ b
        → SendsOn (if b then option_map (on_channel c) (note_for (asks old.parts.moment (row_at old.parts.rows seat)) ((row_at old.parts.rows seat).owes || is_silent old.parts.moment c)) else None) seat moment old new
        → Result
    proven_asked true proven sends = note_asked (asks old.parts.moment (row_at old.parts.rows seat)) ((row_at old.parts.rows seat).owes || is_silent old.parts.moment c) refl sends
    proven_asked false un sends = asked_same sends (unproven_asked un)

    waiting_asked : (b : Bool) → is_waiting c ≡ b
        → SendsOn (if b then greeting_due old.parts.moment (Some c) else on_proven c (speaks (is_silent old.parts.moment c) old.parts.moment (row_at old.parts.rows seat))) seat moment old new
        → Result
    waiting_asked true waits sends = greeting_asked waits (handshake_due old.parts.moment c) sends
    waiting_asked false waits sends = proven_asked (is_proven c) refl sends

  seat_asked : (o : Option Channel) → channel_at old.parts.lives seat ≡ o → SendsOn (due_of old.parts.moment o (row_at old.parts.rows seat)) seat moment old new → Result
  seat_asked None there sends = asked_same sends (λ e also proven. absurd (none_there e (sym there ∙ also)))
    where
      none_there : (e : Channel) → None ≡ Some e → ⊥
      none_there e is = cc
  seat_asked (Some c) there sends = waiting_asked c there (is_waiting c) refl sends

-- ---- a step on another seat

other_asked : (moment seat other : ℕ) (o : Option Due) (old new : Scene) → seat ≢ other → SendsOn o other moment old new → IsAskedOn old.parts seat → IsAskedOn new.parts seat
other_asked moment seat other None old new ne sends is = subst (λ (x : Scene). IsAskedOn x.parts seat) (sym sends) is
other_asked moment seat other (Some due) old new ne (true, sends, parts) is = subst (λ (p : LearnerState). IsAskedOn p seat) (sym parts)
    (λ e also proven. subst IsAskedIf (sym (row_other old.parts.rows other seat (row_said due.note old.parts.moment (row_at old.parts.rows other)) ne))
    (is e (sym (sent_other old.parts.lives other seat (is_handshake due.note) old.parts.moment ne) ∙ also) proven))
other_asked moment seat other (Some due) old new ne (false, sends, parts) is = subst (λ (p : LearnerState). IsAskedOn p seat) (sym parts) is

later_of : (moment seat : ℕ) (old new : Scene) → SpeaksAt moment seat old new → old.link.faults ≤ new.link.faults
later_of moment seat old new sends = (speak_keeps moment seat old new sends).sends.later

rows_of : (moment seat : ℕ) (o : Option Due) (old new : Scene) → SendsOn o seat moment old new → length new.parts.rows ≡ length old.parts.rows
rows_of moment seat None old new sends = ap (λ (x : Scene). length x.parts.rows) sends
rows_of moment seat (Some due) old new (true, sends, parts) = ap (λ (p : LearnerState). length p.rows) parts ∙ length-set old.parts.rows seat (row_said due.note old.parts.moment (row_at old.parts.rows seat))
rows_of moment seat (Some due) old new (false, sends, parts) = ap (λ (p : LearnerState). length p.rows) parts

-- ---- one after the other

-- so many seats were asked, or the link refused something
record AreAsked (n : ℕ) (old new : Scene) : Type 0 where
  rows : length new.parts.rows ≡ length old.parts.rows
  later : old.link.faults ≤ new.link.faults
  asked : HasRisen old.link.faults new.link.faults ⊎ ((seat : ℕ) → seat < n → IsAskedOn new.parts seat)

asked_more : (moment n : ℕ) (old mid new : Scene) → n < length old.parts.rows → AreAsked n old mid → SpeaksAt moment n mid new → AreAsked (suc n) old new
asked_more moment n old mid new low before step =
    let later = later_of moment n mid new step in
    record {
      rows = rows_of moment n (due_at mid.parts n) mid new step ∙ before.rows;
      later = omega (arith, before.later, later);
      asked = ⊎_elim
          (λ risen. inl (risen_more old.link.faults mid.link.faults new.link.faults later risen))
          (λ all. ⊎_elim
          (λ risen. inl (risen_less old.link.faults mid.link.faults new.link.faults before.later risen))
          (λ own. inr (λ seat lt. ⊎_elim
          (λ less. other_asked moment seat n (due_at mid.parts n) mid new (λ same. absurd (omega (arith, same, less))) step (all seat less))
          (λ ge. let at : n ≡ seat = omega (arith, lt, ge) in subst (IsAskedOn new.parts) at own)
          (cases_lt seat n)))
          (seat_asked moment n mid new (omega (arith, low, before.rows)) (channel_at mid.parts.lives n) refl step))
          before.asked;
    }

each_asked : (moment n : ℕ) (old new : Scene) → n ≤ length old.parts.rows → EachBelow n (SpeaksAt moment) old new → AreAsked n old new
unfolding EachBelow
each_asked moment zero old new le each = record {
  rows = ap (λ (x : Scene). length x.parts.rows) each;
  later = (let same = ap (λ (x : Scene). x.link.faults) each in omega (arith, same));
  asked = inr (λ seat lt. absurd (omega (arith, lt)));
}
each_asked moment (suc n) old new le each =
    asked_more moment n old each.0 new (omega (arith, le)) (each_asked moment n old each.0 (omega (arith, le)) each.1) each.2

-- ---- in the words on traffic

-- a channel that this peer dialled, and whose peer's number is known, is proven
dialled_proven : (c : Channel) → is_dialled c.opening ≡ true → is_waiting c ≡ false → is_proven c ≡ true
dialled_proven c dialled known = by (is_greeted c.state) (sym (ap (λ (b : Bool). b && is_greeted c.state) dialled) ∙ known)
  where
    by : (b : Bool) → (true && b) ≡ false → not b ≡ true
    by true e = absurd (false≢true (sym e))
    by false e = refl

pub all_asked : (p : LearnerState) (past : List Record) → StandsFor p past → ((seat : ℕ) → seat < 64 → IsAskedOn p seat) → AllAsked (stand_in (name_of p.name)) past
all_asked p past s asked life dialled plain free chunk offers =
    let h = s.standing.plains.plain life plain in
    let lt = within p.lives.channels h.seat h.channel h.there in
    let under : h.seat < 64 = omega (arith, lt, s.standing.seated.are.seats) in
    let told : read_at (stand_in (name_of p.name)) p.lives s.lives past h.seat ≡ Some (read_story (stand_in (name_of p.name)) life past) =
    ap (λ (o : Option Channel). read_of (stand_in (name_of p.name)) o (s.lives h.seat) past) h.there
    ∙ ap (λ (l : Option Life). read_of (stand_in (name_of p.name)) (Some h.channel) l past) h.lives_there
    ∙ ap (λ (b : Bool). once_known b (read_story (stand_in (name_of p.name)) life past)) h.known in
    let f = subst (λ (o : Option (List Line)). FollowsIf o (row_at p.rows h.seat)) told (s.follows h.seat under) in
    let proven = dialled_proven h.channel (s.dialled h.seat h.channel h.there) h.known in
    ap is_some (sym f.asked) ∙ asked h.seat under h.channel h.there proven (f.chokes ∙ free) chunk (f.offer ∙ offers)

-- a dial changes no row
free_rows : (o : Option ℕ) (dial : Dial) (from : Option ℕ) (moment : ℕ) (old new : Scene) → DialsFree o dial from moment old new → length new.parts.rows ≡ length old.parts.rows
free_rows None dial from moment old new x = ap (λ (y : Scene). length y.parts.rows) x.0
free_rows (Some at) dial from moment old new x = match_cases (nat_lt old.parts.moment at) x
    (λ (n : (new ≡ old) × (from ≡ dial.from)). ap (λ (y : Scene). length y.parts.rows) n.0)
    (λ (y : Tries dial from moment old new). ⊎_elim
    (λ (z : (sent : Bool) × Dials dial.address moment sent old new × (from ≡ None)). ap (λ (p : LearnerState). length p.rows) z.1.is)
    (λ (n : (free_seat old.parts.lives ≡ None) × (new ≡ old) × (from ≡ dial.from)). ap (λ (q : Scene). length q.parts.rows) n.1) y)

steps_rows : (dial : Dial) (from : Option ℕ) (moment : ℕ) (old new : Scene) → StepsDial dial from moment old new → length new.parts.rows ≡ length old.parts.rows
steps_rows dial from moment old new x = match_cases (list_any (has_address dial.address) old.parts.lives.channels) x
    (λ (n : (new ≡ old) × (from ≡ None)). ap (λ (y : Scene). length y.parts.rows) n.0)
    (λ (y : DialsFree dial.from dial from moment old new). free_rows dial.from dial from moment old new y)

dial_rows : (moment i : ℕ) (old new : Scene) → DialsAt moment i old new → length new.parts.rows ≡ length old.parts.rows
dial_rows moment i old new x = ap (λ (y : Scene). length y.parts.rows) x.is ∙ steps_rows x.dial x.from moment old x.mid x.steps

each_rows : (n moment : ℕ) (old new : Scene) → EachBelow n (DialsAt moment) old new → length new.parts.rows ≡ length old.parts.rows
unfolding EachBelow
each_rows zero moment old new each = ap (λ (x : Scene). length x.parts.rows) each
each_rows (suc n) moment old new each = dial_rows moment n each.0 new each.2 ∙ each_rows n moment old each.0 each.1

-- at the end of a turn
pub turn_asked : (moment : ℕ) (old new : Scene) → IsWhole old.parts → Flushes moment old new
    → HasRisen old.link.faults new.link.faults ⊎ ((seat : ℕ) → seat < 64 → IsAskedOn new.parts seat)
turn_asked moment old new whole f =
    let start : Scene = record { parts = f.dropped; link = old.link } in
    let dials = each_keeps moment (length old.parts.dials) (DialsAt moment) start f.mid (dial_keeps moment) f.dials in
    let rows : length f.mid.parts.rows ≡ 64 = each_rows (length old.parts.dials) moment start f.mid f.dials
    ∙ ap (λ (p : LearnerState). length p.rows) f.dropped_is ∙ whole.seats in
    ⊎_elim
    (λ risen. inl (risen_less old.link.faults f.mid.link.faults new.link.faults dials.sends.later risen))
    (λ all. inr all)
    (each_asked moment 64 f.mid new (omega (arith, rows)) f.speaks).asked
