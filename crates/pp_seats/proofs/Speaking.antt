-- Notes that were delivered on a seat, in the words of its call.
use Rattle.std.proofs.Common.{◌≡◌, ℕ, ◌+◌, ◌<◌, ◌≤◌, Bool, true, false, cond, not, Option, Some, None, List, [], ◌∷◌, ◌++◌, length, drop, refl, sym, ◌∙◌, ap, subst, take, arith}
use Rattle.std.specs.Prelude.{unwrap_or, is_some}
use Rattle.std.specs.List.{slice_get, AllByRecursion}
use Rattle.std.proofs.Math.ListN.{set}
use Rattle.std.proofs.lemmas.Bool.{lt-ltb, le-ltb}
use Rattle.std.proofs.lemmas.Option.{same_Some}
use Rattle.pp_terms.specs.format.Messages as plain
use Rattle.pp_terms.proofs.Risings.{gains_nothing}
use Rattle.pp_terms.specs.format.Traffic.{Record, LinkState}
use Rattle.pp_terms.specs.format.Descriptor.{Descriptor}
use Rattle.pp_channels.specs.Seats.{Seats, channel_at}
use Rattle.pp_channels.specs.Timing.{handshake_due}
use Rattle.pp_channels.specs.declared.channel.Channel.{Channel}
use Rattle.pp_lives.specs.Fars.{far_of}
use Rattle.pp_lives.specs.Sending.{with_datagram}
use Rattle.pp_lives.specs.declared.lives.Far.{Far}
use Rattle.pp_draft.specs.declared.note.Note.{Note}
use Rattle.pp_draft.specs.declared.note.Note.TheVariants.{Handshake}
use Rattle.pp_draft.specs.Notes.{own_options}
use Rattle.pp_seat.specs.Seats.{SeatState}
use Rattle.pp_desk.specs.declared.steps.Delivered.{Delivered}
use Rattle.pp_desk.specs.Steps.{IsPlain}
use Rattle.pp_desk.specs.Delivers.{Way, Batch, At, none_delivered, DeliversEach, BeginsSent, Withholds, GoesIf, Goes, notes_of}
use Rattle.pp_desk.specs.Laws.{records_of}
use Rattle.pp_desk.proofs.Following.{link_carries, each_counts}
use Rattle.pp_seats.specs.Reading.{opening_of}
use Rattle.pp_seats.specs.Standing.{SeatsState, Setting, AllHold, StandsFor}
use Rattle.pp_seats.specs.Sending.{HoldsAnnounced, MaySay, with_told, way_of, with_sent, opening_at, SpeaksBy, Speaks}
use Rattle.pp_seats.proofs.Lists.{set_holds, set_length, refilled}
use Rattle.pp_seats.proofs.Outgoing.{W, After, IsFar, far_is, spoken, told_held, told_known}
use Rattle.pp_seats.proofs.Opened.{opened, begins_with, some_sent, withheld}

-- ---- the number of a channel on which a handshake is due

pub opening_is : (at : ℕ) (o : Option Channel) (c : Channel) (source : ℕ) → o ≡ Some c → opening_of at o ≡ Some source → source ≡ c.local
opening_is at o c source there is = by (handshake_due at c) (sym (ap (opening_of at) there) ∙ is)
  where
    by : (b : Bool) → cond b (Some c.local) None ≡ Some source → source ≡ c.local
    by true e = sym (same_Some c.local source e)
    by false e = absurd cc

-- the channels by whether something was sent
pub with_some : (t : Seats) (k : ℕ) (opens : Bool) (sent at : ℕ) → 0 < sent → with_datagram t k opens at ≡ with_sent t k opens sent at
with_some t k opens sent at some = ap (λ (b : Bool). cond b (with_datagram t k opens at) t) (sym (lt-ltb 0 sent some))

pub with_none : (t : Seats) (k : ℕ) (opens : Bool) (sent at : ℕ) → sent ≤ 0 → t ≡ with_sent t k opens sent at
with_none t k opens sent at none = ap (λ (b : Bool). cond b (with_datagram t k opens at) t) (sym (le-ltb 0 sent none))

-- what is asked of the notes, and of the traffic before
record MayGo (p : SeatsState) (x : Setting) (most : ℕ) (past : List Record) (held : ℕ → Bool) (notes : List Note) (before : SeatState) : Type 0 where
  stands : StandsFor x most p past
  holds : HoldsAnnounced x held past
  may : MaySay held notes before

-- what follows of them: the seats stand for records more, and all that is announced then is in the set
record Went (k : ℕ) (notes : List Note) (more : ℕ) (new : SeatsState) (added : List Record) (x : Setting) (past : List Record) (held : ℕ → Bool) : Type 0 where
  stands : StandsFor (with_told k notes x) more new (added ++ past)
  announced : HoldsAnnounced (with_told k notes x) held (added ++ past)

abbrev AllGo : SeatsState → ℕ → List Note → SeatState → ℕ → SeatsState → List Record → Type 0
AllGo p k notes before refused new added =
    (x : Setting) (most : ℕ) (past : List Record) (held : ℕ → Bool) → MayGo p x most past held notes before → Went k notes (most + refused) new added x past held

-- the setting's swarm is that of the seats
of_swarm : (p : SeatsState) (k : ℕ) (notes : List Note) (before : SeatState) (refused : ℕ) (new : SeatsState) (added : List Record)
    → ((found : ℕ → Bool) (aware : ℕ → ℕ → Bool) (most : ℕ) (past : List Record) (held : ℕ → Bool)
    → (let x : Setting = record { d = p.descriptor; is_found = found; known_of = aware } in MayGo p x most past held notes before → Went k notes (most + refused) new added x past held))
    → AllGo p k notes before refused new added
of_swarm p k notes before refused new added go x most past held m =
    subst (λ (d : Descriptor). (let y : Setting = record { d = d; is_found = x.is_found; known_of = x.known_of } in
    MayGo p y most past held notes before → Went k notes (most + refused) new added y past held)) m.stands.swarm
    (go x.is_found x.known_of most past held) m

module _ (p q : SeatsState) (k : ℕ) (notes : List Note) (moment : ℕ) (delivered : Delivered) (link later : LinkState) (far : Far) (before after : SeatState)
    (is_far : far_of (channel_at p.table k) ≡ Some far) (has : slice_get p.seats k ≡ Some before) (plains : AllByRecursion IsPlain notes) where
  abbrev from : At
  from = record { seat = before; link = link; so_far = none_delivered }

  abbrev to : At
  to = record { seat = after; link = later; so_far = delivered }

  abbrev w : Way
  w = way_of p far moment

  -- the seats then
  abbrev after_all : (opens : Bool) → SeatsState
  after_all opens = record p { table = with_sent p.table k opens delivered.sent p.moment; seats = set p.seats k after }

  f : IsFar (channel_at p.table k) far
  f = far_is (channel_at p.table k) far is_far

  -- the way by the channel
  abbrev v : Way
  v = W p.descriptor f.channel (unwrap_or f.channel.remote 0) moment p.moment

  same_way : w ≡ v
  same_way = ap (λ (y : Far). way_of p y moment) f.is

  -- without a handshake
  plainly : (bs : List Batch) → notes_of bs ≡ notes → DeliversEach w bs from to → AllGo p k notes before delivered.refused (after_all false) (records_of w bs)
  plainly bs each_once each_w = of_swarm p k notes before delivered.refused (after_all false) (records_of w bs) (λ found aware most past held m.
      let x : Setting = record { d = p.descriptor; is_found = found; known_of = aware } in
      let each : DeliversEach v bs from to = subst (λ (y : Way). DeliversEach y bs from to) same_way each_w in
      let may : MaySay held (notes_of bs) before = subst (λ (ns : List Note). MaySay held ns before) (sym each_once) m.may in
      subst (λ (y : Way). Went k notes (most + delivered.refused) (after_all false) (records_of y bs) x past held) (sym same_way)
      (subst (λ (ns : List Note). Went k ns (most + delivered.refused) (after_all false) (records_of v bs) x past held) each_once (record {
        stands = spoken found aware most p k f.channel moment bs before after link later delivered past held m.stands f.there f.known has
            (subst (λ (ns : List Note). AllByRecursion IsPlain ns) (sym each_once) plains) each m.holds may;
        announced = told_held x p.descriptor f.channel (unwrap_or f.channel.remote 0) moment p.moment k bs from to past held refl each may.announces m.holds;
      })))

  -- with one that was taken
  openly : (source : ℕ) (bs : List Batch) → BeginsSent bs → source ≡ f.channel.local → notes_of bs ≡ Handshake source ∷ notes → DeliversEach w bs from to
      → AllGo p k notes before delivered.refused (after_all true) (records_of w bs)
  openly source [] sent own each_once each_w = absurd sent
  openly source (b ∷ bs) sent own each_once each_w = of_swarm p k notes before delivered.refused (after_all true) (records_of w (b ∷ bs)) (λ found aware most past held m.
      let x : Setting = record { d = p.descriptor; is_found = found; known_of = aware } in
      let each : DeliversEach v (b ∷ bs) from to = subst (λ (y : Way). DeliversEach y (b ∷ bs) from to) same_way each_w in
      let opening : MaySay held (Handshake source ∷ notes) before = record { announces = (tt, m.may.announces); passes = (tt, m.may.passes); first = m.may.first; fit = m.may.fit } in
      let may : MaySay held (notes_of (b ∷ bs)) before = subst (λ (ns : List Note). MaySay held ns before) (sym each_once) opening in
      let begins = begins_with p.descriptor source notes b bs each.1.some each.1.said each_once plains in
      let counts = each_counts v (b ∷ bs) from to each in
      let some = some_sent v (b ∷ bs) sent in
      let table = with_some p.table k true delivered.sent p.moment (let n = counts.sent in omega (arith, some, n)) in
      subst (λ (y : Way). Went k notes (most + delivered.refused) (after_all true) (records_of y (b ∷ bs)) x past held) (sym same_way) (record {
        stands = subst (λ (t : Seats). StandsFor (with_told k notes x) (most + delivered.refused) (record p { table = t; seats = set p.seats k after }) (After v (b ∷ bs) past)) table
            (subst (λ (ns : List Note). StandsFor (with_told k ns x) (most + delivered.refused) (record p { table = with_datagram p.table k true p.moment; seats = set p.seats k after }) (After v (b ∷ bs) past)) each_once
            (opened found aware most p k f.channel moment (own_options p.descriptor) begins.messages b bs before after link later delivered past held m.stands f.there f.known has sent
            (begins.begins ∙ ap (λ (n : ℕ). plain.Handshake n (own_options p.descriptor) ∷ begins.messages) own) begins.plains each m.holds may));
        announced = subst (λ (ns : List Note). HoldsAnnounced (with_told k ns x) held (After v (b ∷ bs) past)) each_once
            (told_held x p.descriptor f.channel (unwrap_or f.channel.remote 0) moment p.moment k (b ∷ bs) from to past held refl each may.announces m.holds);
      }))

  -- with one that was refused
  withholding : Withholds w from to → AllGo p k notes before delivered.refused (after_all true) []
  withholding g x most past held m =
      let none : delivered.sent ≡ 0 = ap (λ (o : Delivered). o.sent) g.count in
      let one : delivered.refused ≡ 1 = ap (λ (o : Delivered). o.refused) g.count in
      record {
        stands = subst (λ (t : Seats). StandsFor (with_told k notes x) (most + delivered.refused) (record p { table = t; seats = set p.seats k after }) past)
            (with_none p.table k true delivered.sent p.moment (omega (arith, none)))
            (subst (λ (n : ℕ). StandsFor (with_told k notes x) (most + n) (record p { seats = set p.seats k after }) past) (sym one)
            (withheld x most p k notes before after past m.stands has g.seat));
        announced = record {
          found = m.holds.found;
          announced = m.holds.announced;
          known = told_known x k notes held m.may.announces m.holds.known;
        };
      }

  speaks : (o : Option ℕ) → opening_at p k ≡ o → (o ≡ None → far.begun ≡ true) → Goes o w notes from to → q ≡ after_all (is_some o)
      → SpeaksBy o k notes moment delivered p q link later
  speaks None opening begun g is = record {
    far = far;
    is_far = is_far;
    begun = begun;
    before = before;
    after = after;
    there = has;
    is = is;
    goes = g;
    added = records_of w g.batches;
    added_are = refl;
    gained = (link_carries w g.batches from to g.each).gained;
    stands = λ x most past held h holds may. subst (λ (s : SeatsState). StandsFor (with_told k notes x) (most + delivered.refused) s (records_of w g.batches ++ past)) (sym is)
        (plainly g.batches g.each_once g.each x most past held (record { stands = h; holds = holds; may = may })).stands;
    announced = λ x most past held h holds may. (plainly g.batches g.each_once g.each x most past held (record { stands = h; holds = holds; may = may })).announced;
  }
  speaks (Some source) opening begun g is = by g.0 g.1
    where
      own : source ≡ f.channel.local
      own = opening_is p.moment (channel_at p.table k) f.channel source f.there opening

      by : (taken : Bool) → GoesIf taken source w notes from to → SpeaksBy (Some source) k notes moment delivered p q link later
      by true h = record {
        far = far;
        is_far = is_far;
        begun = begun;
        before = before;
        after = after;
        there = has;
        is = is;
        goes = (true, h);
        added = records_of w h.delivers.batches;
        added_are = refl;
        gained = (link_carries w h.delivers.batches from to h.delivers.each).gained;
        stands = λ x most past held s holds may. subst (λ (o : SeatsState). StandsFor (with_told k notes x) (most + delivered.refused) o (records_of w h.delivers.batches ++ past)) (sym is)
            (openly source h.delivers.batches h.first own h.delivers.each_once h.delivers.each x most past held (record { stands = s; holds = holds; may = may })).stands;
        announced = λ x most past held s holds may.
            (openly source h.delivers.batches h.first own h.delivers.each_once h.delivers.each x most past held (record { stands = s; holds = holds; may = may })).announced;
      }
      by false h = record {
        far = far;
        is_far = is_far;
        begun = begun;
        before = before;
        after = after;
        there = has;
        is = is;
        goes = (false, h);
        added = [];
        added_are = refl;
        gained = gains_nothing link.traffic later.traffic h.goes.outcome.0;
        stands = λ x most past held s holds may. subst (λ (o : SeatsState). StandsFor (with_told k notes x) (most + delivered.refused) o past) (sym is)
            (withholding h x most past held (record { stands = s; holds = holds; may = may })).stands;
        announced = λ x most past held s holds may. (withholding h x most past held (record { stands = s; holds = holds; may = may })).announced;
      }

  pub speaks_so : (o : Option ℕ) → opening_at p k ≡ o → (o ≡ None → far.begun ≡ true) → Goes o w notes from to → q ≡ after_all (is_some o)
      → Speaks k notes moment delivered p q link later
  speaks_so o opening begun goes is =
      subst (λ (x : Option ℕ). SpeaksBy x k notes moment delivered p q link later) (sym opening) (speaks o opening begun goes is)

-- what the seats keep of themselves, once one of them was changed and a datagram was written
pub kept_whole : (chunks out_len : ℕ) (seats : List SeatState) (k : ℕ) (before after : SeatState) (out old_out : List ℕ) → length seats ≡ 64 → AllHold chunks seats
    → slice_get seats k ≡ Some before → after.told.chunks ≡ before.told.chunks → out_len ≡ length out → length out ≡ 16384
    → (length (set seats k after) ≡ 64) × AllHold chunks (set seats k after) × (length (take out_len (out ++ drop (length out) old_out)) ≡ 16384)
kept_whole chunks out_len seats k before after out old_out size room has same out_is most =
    (set_length seats k after ∙ size, set_holds chunks seats k before after room has same, ap (λ (xs : List ℕ). length xs) (refilled out (drop (length out) old_out) out_len out_is) ∙ most)
