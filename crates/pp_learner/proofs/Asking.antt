-- That each proven channel is asked, and closed.
use Rattle.std.proofs.Common.{◌≡◌, ◌≢◌, ⊎_elim, inl, inr, ℕ, zero, suc, ◌<◌, ◌≤◌, Bool, true, false, Option, Some, None, [], ◌∷◌, refl, sym, ◌∙◌, ap, subst, arith}
use Rattle.std.specs.Prelude.{◌||◌, nat_lt, option_map, if◌then◌else◌, unwrap_or, cond}
use Rattle.std.specs.List.{list_any}
use Rattle.std.proofs.lemmas.Bool.{cases_lt}
use Rattle.std.proofs.lemmas.List.{get_or-set_other}
use Rattle.pp_terms.specs.format.Descriptor.{Descriptor}
use Rattle.pp_terms.specs.format.Traffic.{Sent}
use Rattle.pp_terms.proofs.Risings.{risen_more, risen_less, gains_twice}
use Rattle.pp_outside.specs.Outside.{address_of}
use Rattle.pp_outside.specs.declared.link.Address.{Address}
use Rattle.pp_channels.specs.Seats.{channel_at, closed, dialled, free_seat, has_address}
use Rattle.pp_channels.specs.Timing.{is_silent}
use Rattle.pp_channels.specs.declared.channel.Channel.{Channel}
use Rattle.pp_lives.specs.Reading.{is_proven}
use Rattle.pp_lives.specs.Sending.{with_datagram}
use Rattle.pp_lives.proofs.Staying.{proven_known}
use Rattle.pp_draft.specs.declared.note.Note.{Note}
use Rattle.pp_draft.specs.declared.note.Note.TheVariants.{Close}
use Rattle.pp_draft.specs.Notes.{Says}
use Rattle.pp_draft.specs.Datagrams.{IsDatagram}
use Rattle.pp_learner.specs.Rows.{RowState, blank}
use Rattle.pp_learner.specs.Reading.{row_at}
use Rattle.pp_learner.specs.Sending.{on_channel, on_proven, note_for, asks, speaks, greeting_due, due_of, due_at, farewell_of, row_said, is_handshake, after_sending, SendsDue, Scene, SendsOn, SpeaksAt, PartsAt, EachBelow}
use Rattle.pp_learner.specs.Dialling.{with_dial, Dials, Tries, DialsFree, DialsAt}
use Rattle.pp_learner.specs.Flushing.{IsSaidUnless, request_of, AsksEach, ClosesEach, Flushes, Closes}
use Rattle.pp_learner.specs.declared.parts.Parts.{Parts}
use Rattle.pp_learner.specs.declared.due.Due.{Due}
use Rattle.pp_learner.specs.declared.dials.Dial.{Dial}
use Rattle.pp_learner.proofs.Modest.{Keeps, keeps_same, keeps_twice, match_cases, speak_keeps, part_keeps, dial_keeps, drop_keeps, each_keeps}
use Rattle.pp_learner.proofs.Still.{Still, still_there, still_same, still_dropped, drops_still, sent_other, used_apart, made_other, made_there}

-- ---- one seat, while others are spoken on

-- the seat's channel is there, and its row is the same
pub record Waits (seat : ℕ) (c : Channel) (row : RowState) (p : Parts) : Type 0 where
  pub channel : Still c (channel_at p.lives seat)
  pub kept : row_at p.rows seat ≡ row

after_other : (seat other : ℕ) (due : Due) (sent : Bool) (c : Channel) (row : RowState) (p : Parts) → seat ≢ other → Waits seat c row p
    → Waits seat c row (after_sending other due sent p)
after_other seat other due true c row p ne w = record {
  channel = still_same c (channel_at p.lives seat) _ (sent_other p.lives other seat (is_handshake due.note) p.moment ne) w.channel;
  kept = get_or-set_other p.rows other seat (row_said due.note p.moment (row_at p.rows other)) blank ne ∙ w.kept;
}
after_other seat other due false c row p ne w = record { channel = w.channel; kept = w.kept }

sent_waits : (moment seat other : ℕ) (what : Option Due) (c : Channel) (row : RowState) (old new : Scene) → seat ≢ other → SendsOn what other moment old new
    → Waits seat c row old.parts → Waits seat c row new.parts
sent_waits moment seat other None c row old new ne sends w = subst (λ (s : Scene). Waits seat c row s.parts) (sym sends) w
sent_waits moment seat other (Some due) c row old new ne sends w = subst (Waits seat c row) (sym sends.2) (after_other seat other due sends.0 c row old.parts ne w)

-- ---- while addresses are dialled

dials_waits : (address : Address) (moment seat : ℕ) (sent : Bool) (c : Channel) (row : RowState) (old new : Scene) → Dials address moment sent old new
    → Waits seat c row old.parts → Waits seat c row new.parts
dials_waits address moment seat sent c row old new d w = record {
  channel = subst (λ (p : Parts). Still c (channel_at p.lives seat)) (sym d.is) (there sent);
  kept = ap (λ (p : Parts). row_at p.rows seat) d.is ∙ w.kept;
}
  where
    apart : seat ≢ d.seat
    apart = used_apart old.parts.lives seat d.seat c w.channel d.free

    made : Still c (channel_at (with_dial address old.parts) seat)
    made = still_same c (channel_at old.parts.lives seat) _ (made_other old.parts.lives seat d.seat (dialled address old.parts.moment) d.free apart) w.channel

    there : (b : Bool) → Still c (channel_at (cond b (with_datagram (with_dial address old.parts) d.seat true old.parts.moment) (closed (with_dial address old.parts) d.seat)) seat)
    there true = still_same c (channel_at (with_dial address old.parts) seat) _ (sent_other (with_dial address old.parts) d.seat seat true old.parts.moment apart) made
    there false =
        let new_one = made_there old.parts.lives d.seat (dialled address old.parts.moment) d.free in
        still_dropped c new_one.0 (with_dial address old.parts) seat d.seat new_one.1 apart made

same_waits : (seat : ℕ) (c : Channel) (row : RowState) (old new : Scene) → new ≡ old → Waits seat c row old.parts → Waits seat c row new.parts
same_waits seat c row old new same w = subst (λ (s : Scene). Waits seat c row s.parts) (sym same) w

free_waits : (o : Option ℕ) (dial : Dial) (from : Option ℕ) (moment seat : ℕ) (c : Channel) (row : RowState) (old new : Scene) → DialsFree o dial from moment old new
    → Waits seat c row old.parts → Waits seat c row new.parts
free_waits None dial from moment seat c row old new d w = same_waits seat c row old new d.0 w
free_waits (Some at) dial from moment seat c row old new d w = match_cases (nat_lt old.parts.moment at) d
    (λ (n : (new ≡ old) × (from ≡ dial.from)). same_waits seat c row old new n.0 w)
    (λ (t : Tries dial from moment old new). ⊎_elim
    (λ (x : (sent : Bool) × Dials dial.address moment sent old new × (from ≡ None)). dials_waits dial.address moment seat x.0 c row old new x.1 w)
    (λ (n : (free_seat old.parts.lives ≡ None) × (new ≡ old) × (from ≡ dial.from)). same_waits seat c row old new n.1 w) t)

dial_waits : (moment seat : ℕ) (c : Channel) (row : RowState) (i : ℕ) (old new : Scene) → DialsAt moment i old new → Waits seat c row old.parts → Waits seat c row new.parts
dial_waits moment seat c row i old new d w =
    let mid : Waits seat c row d.mid.parts = match_cases (list_any (has_address d.dial.address) old.parts.lives.channels) d.steps
    (λ (n : (d.mid ≡ old) × (d.from ≡ None)). same_waits seat c row old d.mid n.0 w)
    (λ (f : DialsFree d.dial.from d.dial d.from moment old d.mid). free_waits d.dial.from d.dial d.from moment seat c row old d.mid f w) in
    subst (λ (s : Scene). Waits seat c row s.parts) (sym d.is) (record { channel = mid.channel; kept = mid.kept })

each_waits : (moment seat : ℕ) (c : Channel) (row : RowState) (n : ℕ) (old new : Scene) → EachBelow n (DialsAt moment) old new → Waits seat c row old.parts → Waits seat c row new.parts
unfolding EachBelow
each_waits moment seat c row zero old new each w = same_waits seat c row old new each w
each_waits moment seat c row (suc n) old new each w = dial_waits moment seat c row n each.0 new each.2 (each_waits moment seat c row n old each.0 each.1 w)

-- ---- the step of one seat among others

-- Before it the other seats' steps were made, and after it.
record Among (moment : ℕ) (Step : ℕ → Scene → Scene → Type 0) (seat : ℕ) (old new : Scene) : Type 0 where
  a : Scene
  b : Scene
  before : Keeps moment old a
  waits : (c : Channel) (row : RowState) → Waits seat c row old.parts → Waits seat c row a.parts
  step : Step seat a b
  after : Keeps moment b new

record AreApart (moment : ℕ) (Step : ℕ → Scene → Scene → Type 0) : Type 0 where
  keeps : (i : ℕ) (a b : Scene) → Step i a b → Keeps moment a b
  others : (seat i : ℕ) (c : Channel) (row : RowState) (a b : Scene) → seat ≢ i → Step i a b → Waits seat c row a.parts → Waits seat c row b.parts

waits_below : (moment n seat : ℕ) (Step : ℕ → Scene → Scene → Type 0) (old new : Scene) (c : Channel) (row : RowState) → AreApart moment Step → n ≤ seat
    → EachBelow n Step old new → Waits seat c row old.parts → Waits seat c row new.parts
unfolding EachBelow
waits_below moment zero seat Step old new c row apart le each w = same_waits seat c row old new each w
waits_below moment (suc n) seat Step old new c row apart le each w =
    apart.others seat n c row each.0 new (λ same. absurd (omega (arith, same, le))) each.2 (waits_below moment n seat Step old each.0 c row apart (omega arith) each.1 w)

among : (moment n seat : ℕ) (Step : ℕ → Scene → Scene → Type 0) (old new : Scene) → AreApart moment Step → seat < n → EachBelow n Step old new → Among moment Step seat old new
unfolding EachBelow
among moment zero seat Step old new apart lt each = absurd (omega arith)
among moment (suc n) seat Step old new apart lt each = ⊎_elim
    (λ (less : seat < n).
    let x = among moment n seat Step old each.0 apart less each.1 in
    record { a = x.a; b = x.b; before = x.before; waits = x.waits; step = x.step; after = keeps_twice moment x.b each.0 new x.after (apart.keeps n each.0 new each.2) })
    (λ (more : n ≤ seat).
    let same : n ≡ seat = omega arith in
    record {
      a = each.0;
      b = new;
      before = each_keeps moment n Step old each.0 apart.keeps each.1;
      waits = λ c row w. waits_below moment n seat Step old each.0 c row apart more each.1 w;
      step = subst (λ (i : ℕ). Step i each.0 new) same each.2;
      after = keeps_same moment new;
    }) (cases_lt seat n)

-- ---- what is said

-- what was due on a channel was said, or refused
said_step : (moment : ℕ) (c : Channel) (mark : Bool) (note : Note) (old a b new : Scene) (sent : Bool) → Keeps moment old a → Keeps moment b new
    → SendsDue a.parts.outbox (on_channel (record c { shadowed = mark }) note) moment sent a.link b.link → IsSaidUnless moment c note old new
said_step moment c mark note old a b new true before after s = inl (record {
  messages = s.messages;
  said = subst (λ (d : Descriptor). Says d note s.messages) before.outbox s.said;
  bytes = s.bytes;
  written = subst (λ (d : Descriptor). IsDatagram d (unwrap_or c.remote 0) s.messages s.bytes) before.outbox s.written;
  newer = after.sends.added;
  older = before.sends.added;
  gained = gains_twice old.link.traffic b.link.traffic new.link.traffic (Sent moment (address_of c.address) s.bytes ∷ before.sends.added) after.sends.added
      (gains_twice old.link.traffic a.link.traffic b.link.traffic before.sends.added (Sent moment (address_of c.address) s.bytes ∷ []) before.sends.gained s.sends.outcome)
      after.sends.gained;
})
said_step moment c mark note old a b new false before after s =
    inr (risen_less old.link.faults a.link.faults new.link.faults before.sends.later (risen_more a.link.faults b.link.faults new.link.faults after.sends.later s.sends.outcome.1))

-- what is due on a proven channel, whether it is marked or not
request_due : (now : ℕ) (c : Channel) (mark : Bool) (row : RowState) (chunk : ℕ) → is_proven c ≡ true → asks now row ≡ Some chunk
    → due_of now (Some (record c { shadowed = mark })) row ≡ Some (on_channel (record c { shadowed = mark }) (request_of chunk))
request_due now c mark row chunk proven is =
    let e : Channel = record c { shadowed = mark } in
    ap (λ (b : Bool). if b then greeting_due now (Some e) else on_proven e (speaks (is_silent now e) now row)) (proven_known c proven)
    ∙ ap (λ (b : Bool). if b then option_map (on_channel e) (speaks (is_silent now e) now row) else None) proven
    ∙ ap (λ (o : Option ℕ). option_map (on_channel e) (note_for o (row.owes || is_silent now e))) is

farewell_due : (c : Channel) (mark : Bool) → is_proven c ≡ true
    → farewell_of (Some (record c { shadowed = mark })) ≡ Some (on_channel (record c { shadowed = mark }) Close)
farewell_due c mark proven =
    let e : Channel = record c { shadowed = mark } in
    ap (λ (b : Bool). if b then None else on_proven e (Some Close)) (proven_known c proven)
    ∙ ap (λ (b : Bool). if b then option_map (on_channel e) (Some Close) else None) proven

speaks_apart : (moment : ℕ) → AreApart moment (SpeaksAt moment)
speaks_apart moment = record {
  keeps = speak_keeps moment;
  others = λ seat i c row a b ne step w. sent_waits moment seat i (due_at a.parts i) c row a b ne step w;
}

parts_apart : (moment : ℕ) → AreApart moment (PartsAt moment)
parts_apart moment = record {
  keeps = part_keeps moment;
  others = λ seat i c row a b ne step w. sent_waits moment seat i (farewell_of (channel_at a.parts.lives i)) c row a b ne step w;
}

pub flush_asks : (moment : ℕ) (old new : Scene) → Flushes moment old new → AsksEach moment old new
flush_asks moment old new f seat chunk c lt there proven lasts is =
    let row : RowState = row_at old.parts.rows seat in
    let start : Scene = record { parts = f.dropped; link = old.link } in
    let began : Waits seat c row start.parts = record {
      channel = drops_still old.parts.moment f.seats old.parts.lives f.dropped.lives seat c f.drops lasts (still_there c (channel_at old.parts.lives seat) there);
      kept = ap (λ (p : Parts). row_at p.rows seat) f.dropped_is;
    } in
    let dialled = each_waits moment seat c row _ start f.mid f.dials began in
    let x = among moment 64 seat (SpeaksAt moment) f.mid new (speaks_apart moment) lt f.speaks in
    let w = x.waits c row dialled in
    let before = keeps_twice moment old start x.a (drop_keeps moment old f.dropped f.dropped_is)
    (keeps_twice moment start f.mid x.a (each_keeps moment _ (DialsAt moment) start f.mid (dial_keeps moment) f.dials) x.before) in
    let due : due_at x.a.parts seat ≡ Some (on_channel (record c { shadowed = w.channel.mark }) (request_of chunk)) =
    ap (λ (now : ℕ). due_of now (channel_at x.a.parts.lives seat) (row_at x.a.parts.rows seat)) before.now
    ∙ ap (λ (o : Option Channel). due_of old.parts.moment o (row_at x.a.parts.rows seat)) w.channel.is
    ∙ ap (λ (r : RowState). due_of old.parts.moment (Some (record c { shadowed = w.channel.mark })) r) w.kept
    ∙ request_due old.parts.moment c w.channel.mark row chunk proven is in
    let sent = subst (λ (o : Option Due). SendsOn o seat moment x.a x.b) due x.step in
    said_step moment c w.channel.mark (request_of chunk) old x.a x.b new sent.0 before x.after sent.1

pub close_says : (moment : ℕ) (old new : Scene) → Closes moment old new → ClosesEach moment old new
close_says moment old new each seat c lt there proven =
    let row : RowState = row_at old.parts.rows seat in
    let x = among moment 64 seat (PartsAt moment) old new (parts_apart moment) lt each in
    let w = x.waits c row (record { channel = still_there c (channel_at old.parts.lives seat) there; kept = refl }) in
    let due : farewell_of (channel_at x.a.parts.lives seat) ≡ Some (on_channel (record c { shadowed = w.channel.mark }) Close) =
    ap farewell_of w.channel.is ∙ farewell_due c w.channel.mark proven in
    let sent = subst (λ (o : Option Due). SendsOn o seat moment x.a x.b) due x.step in
    said_step moment c w.channel.mark Close old x.a x.b new sent.0 x.before x.after sent.1
