-- What is known of a CHOKE once all was said.
use Rattle.std.proofs.Common.{◌≡◌, ◌⊎◌, inl, inr, ⊎_elim, ℕ, ◌<◌, ◌≤◌, Bool, true, false, cond, ◌||◌, not, Option, Some, None, List, [], ◌∷◌, refl, sym, ◌∙◌, ap, subst, arith}
use Rattle.std.specs.List.{list_any, slice_get}
use Rattle.std.proofs.lemmas.Bool.{cases_Bool, or_cases, both_ways, false≢true}
use Rattle.std.proofs.lemmas.List.Folds.{list_any-append}
use Rattle.std.proofs.lemmas.Option.{same_Some}
use Rattle.pp_terms.specs.Count.{HasRisen}
use Rattle.pp_terms.specs.disk.Disk.{moment_of}
use Rattle.pp_terms.specs.format.Traffic.{Record}
use Rattle.pp_terms.proofs.Risings.{risen_more, risen_less}
use Rattle.pp_draft.specs.declared.note.Note.{Note}
use Rattle.pp_draft.specs.declared.note.Note.TheVariants.{KeepAlive, Handshake, Close, Choke, Unchoke, Ack, Have, Request, Cancel, PexReq, Pex4, Pex6}
use Rattle.pp_channels.specs.Seats.{channel_at}
use Rattle.pp_channels.specs.declared.channel.Channel.{Channel}
use Rattle.pp_lives.specs.Fars.{far_of}
use Rattle.pp_lives.specs.Standing.{StandsAt}
use Rattle.pp_lives.specs.declared.lives.Far.{Far}
use Rattle.pp_seat.specs.Seats.{SeatState}
use Rattle.pp_seat.specs.Turns.{due_turn}
use Rattle.pp_seat.specs.declared.service.Turn.TheVariants as turns
use Rattle.pp_desk.specs.declared.steps.Delivered.{Delivered}
use Rattle.pp_desk.specs.Steps.{Moves, IsAfter, AreAfter, Follow}
use Rattle.pp_desk.specs.Delivers.{Way, Batch, At, counted, none_delivered, DeliversEach, notes_of, GoesIf, Goes}
use Rattle.pp_seats.specs.Sending.{Speaks, way_of, opening_at}
use Rattle.pp_seats.specs.Standing.{SeatsState, Setting, StandsFor}
use Rattle.pp_seats.proofs.Lists.{get_set_there}
use Rattle.pp_seats.proofs.Outgoing.{far_is}
use Rattle.pp_agenda.specs.Laws.{is_choke, is_choke_due}
use Rattle.pp_agenda.proofs.Agreeing.{chokes_where_due}
use Rattle.pp_peer.specs.declared.parts.Parts.{Parts}
use Rattle.pp_peer.specs.declared.speaking.Speaker.{Speaker}
use Rattle.pp_peer.specs.Flushing.{Scene}
use Rattle.pp_peer.specs.Slotting.{TurnsSlots}
use Rattle.pp_peer.specs.Speaking.{SpeaksTo, SpeaksOn, TurnsIf, TurnsTo, TurnsBelow}
use Rattle.pp_peer.proofs.Ending.{far_stays}
use Rattle.pp_core.proofs.Before.{slots_kept}
use Rattle.pp_core.proofs.Kept.{StateKept, StateAt, Kept}
use Rattle.pp_core.proofs.Leaving.{lives_at}
use Rattle.pp_core.proofs.Rooms.{greets_unknown, goes_risen}
use Rattle.pp_core.proofs.Spoken.{back_known}
use Rattle.pp_core.proofs.Turns.{attends_kept, has_turn}

-- ---- a seat's state

-- A seat without a slot has its CHOKE.
abbrev pub HasChoke : SeatState → Type 0
HasChoke s = s.slot ≡ false → s.choked ≡ true

-- One that has neither owes a CHOKE.
abbrev pub OwesChoke : SeatState → Type 0
OwesChoke s = s.slot ≡ false → s.choked ≡ false → s.owes ≡ true

alike : (old new : SeatState) → new.slot ≡ old.slot → new.choked ≡ old.choked → HasChoke old → HasChoke new
alike old new slot choked has free = choked ∙ has (sym slot ∙ free)

pub kept_choke : (now : ℕ) (s left : SeatState) → StateKept now s left → HasChoke s → HasChoke left
kept_choke now s left k has = alike s left (ap (λ (x : SeatState). x.slot) k.rest) (ap (λ (x : SeatState). x.choked) k.rest) has

kept_owes : (now : ℕ) (s left : SeatState) → StateKept now s left → OwesChoke s → OwesChoke left
kept_owes now s left k owes free unchoked =
    k.owes (owes (sym (ap (λ (x : SeatState). x.slot) k.rest) ∙ free) (sym (ap (λ (x : SeatState). x.choked) k.rest) ∙ unchoked))

-- a state of a seat that was kept comes from one before
pub kept_from : (now : ℕ) (o p : Option SeatState) (new : SeatState) → p ≡ Some new → StateAt now o p
    → (old : SeatState) × (o ≡ Some old) × StateKept now old new
kept_from now None p new e s = let x : None ≡ Some new = sym s ∙ e in absurd cc
kept_from now (Some old) p new e s = (old, refl, subst (λ (x : SeatState). StateKept now old x) (same_Some s.0 new (sym s.1 ∙ e)) s.2)

-- ---- notes that were sent

-- A note is a CHOKE, or the seat had its CHOKE before.
abbrev Either : Bool → SeatState → Type 0
Either chokes s = (chokes ≡ true) ⊎ HasChoke s

was : (s : SeatState) → Either false s → HasChoke s
was s (inl e) = absurd (false≢true e)
was s (inr has) = has

same : (old new : SeatState) → new ≡ old → HasChoke old → HasChoke new
same old new e has = subst HasChoke (sym e) has

moved : (back : Bool) (end : ℕ) (old new : SeatState) → Moves back end old new → HasChoke old → HasChoke new
moved true end old new m has = same old new m has
moved false end old new m has = alike old new (ap (λ (x : SeatState). x.slot) m) (ap (λ (x : SeatState). x.choked) m) has

unchoked : (old new : SeatState)
    → (old.choked ≡ true → new ≡ record old { slot = true; choked = false; owes = false }) × (old.choked ≡ false → new ≡ old)
    → HasChoke old → HasChoke new
unchoked old new h has free = ⊎_elim
    (λ yes. absurd (false≢true (sym free ∙ ap (λ (x : SeatState). x.slot) (h.0 yes))))
    (λ no. same old new (h.1 no) has free)
    (cases_Bool old.choked)

note_choke : (now : ℕ) (back : Bool) (note : Note) (old new : SeatState) → IsAfter now back note old new → Either (is_choke note) old
    → HasChoke new
note_choke now back Choke old new after either = λ free. ap (λ (x : SeatState). x.choked) after
note_choke now back Unchoke old new after either = unchoked old new after (was old either)
note_choke now back (Have range) old new after either = moved back _ old new after (was old either)
note_choke now back (Request range) old new after either =
    alike old new (ap (λ (x : SeatState). x.slot) after.0) (ap (λ (x : SeatState). x.choked) after.0) (was old either)
note_choke now back (Cancel range) old new after either =
    alike old new (ap (λ (x : SeatState). x.slot) after.0) (ap (λ (x : SeatState). x.choked) after.0) (was old either)
note_choke now back PexReq old new after either =
    alike old new (ap (λ (x : SeatState). x.slot) after) (ap (λ (x : SeatState). x.choked) after) (was old either)
note_choke now back (Pex4 address port) old new after either =
    alike old new (ap (λ (x : SeatState). x.slot) after) (ap (λ (x : SeatState). x.choked) after) (was old either)
note_choke now back (Pex6 address port) old new after either =
    alike old new (ap (λ (x : SeatState). x.slot) after) (ap (λ (x : SeatState). x.choked) after) (was old either)
note_choke now back KeepAlive old new after either = same old new after (was old either)
note_choke now back (Handshake source) old new after either = same old new after (was old either)
note_choke now back Close old new after either = same old new after (was old either)
note_choke now back (Ack range delay) old new after either = same old new after (was old either)

-- behind one of two parts
behind : (x y : Bool) (old mid : SeatState) → (Either x old → HasChoke mid) → Either (x || y) old → Either y mid
behind x y old mid by (inl e) = ⊎_elim (λ first. inr (by (inl first))) (λ later. inl later) (or_cases x y e)
behind x y old mid by (inr has) = inr (by (inr has))

notes_choke : (now : ℕ) (back : Bool) (notes : List Note) (old new : SeatState) → AreAfter now back notes old new
    → Either (list_any is_choke notes) old → HasChoke new
notes_choke now back [] old new after either = same old new after (was old either)
notes_choke now back (note ∷ notes) old new after either = notes_choke now back notes after.0 new after.2
    (behind (is_choke note) (list_any is_choke notes) old after.0 (note_choke now back note old after.0 after.1) either)

-- ---- datagrams that went or were refused

counted_more : (sent : Bool) (notes : List Note) (d : Delivered) → d.refused ≤ (counted sent notes d).refused
counted_more true notes d = omega arith
counted_more false notes d = omega arith

each_more : (w : Way) (bs : List Batch) (old new : At) → DeliversEach w bs old new → old.so_far.refused ≤ new.so_far.refused
each_more w [] old new d = (let e = ap (λ (x : At). x.so_far.refused) d in omega (arith, e))
each_more w (b ∷ bs) old new d =
    let more = counted_more b.sent b.notes old.so_far in
    let e = ap (λ (x : Delivered). x.refused) d.1.count in
    let rest = each_more w bs d.0 new d.2 in
    omega (arith, more, e, rest)

each_choke : (w : Way) (bs : List Batch) (old new : At) → DeliversEach w bs old new → Either (list_any is_choke (notes_of bs)) old.seat
    → HasChoke new.seat ⊎ (old.so_far.refused < new.so_far.refused)
each_choke w [] old new d either = inl (same old.seat new.seat (ap (λ (x : At). x.seat) d) (was old.seat either))
each_choke w (b ∷ bs) old new d either = of b.sent d.1.seat d.1.count (λ next. each_choke w bs d.0 new d.2 next)
  where
    of : (sent : Bool) → Follow w.now old.so_far.set_back sent b.notes old.seat d.0.seat → d.0.so_far ≡ counted sent b.notes old.so_far
        → (Either (list_any is_choke (notes_of bs)) d.0.seat → HasChoke new.seat ⊎ (d.0.so_far.refused < new.so_far.refused))
        → HasChoke new.seat ⊎ (old.so_far.refused < new.so_far.refused)
    of true f c more = ⊎_elim (λ has. inl has)
        (λ lt. inr (let e = ap (λ (x : Delivered). x.refused) c in omega (arith, lt, e)))
        (more (behind (list_any is_choke b.notes) (list_any is_choke (notes_of bs)) old.seat d.0.seat
        (notes_choke w.now old.so_far.set_back b.notes old.seat d.0.seat f.after)
        (subst (λ (x : Bool). Either x old.seat) (list_any-append is_choke b.notes (notes_of bs)) either)))
    of false f c more =
        inr (let e = ap (λ (x : Delivered). x.refused) c in let rest = each_more w bs d.0 new d.2 in omega (arith, e, rest))

goes_choke : (opening : Option ℕ) (w : Way) (notes : List Note) (old new : At) → Goes opening w notes old new → old.so_far ≡ none_delivered
    → Either (list_any is_choke notes) old.seat → HasChoke new.seat ⊎ (0 < new.so_far.refused)
goes_choke None w notes old new g none either = ⊎_elim (λ has. inl has) (λ more. inr (omega (arith, more)))
    (each_choke w g.batches old new g.each (subst (λ (ns : List Note). Either (list_any is_choke ns) old.seat) (sym g.each_once) either))
goes_choke (Some source) w notes old new g none either = of g.0 g.1
  where
    of : (taken : Bool) → GoesIf taken source w notes old new → HasChoke new.seat ⊎ (0 < new.so_far.refused)
    of true h = ⊎_elim (λ has. inl has) (λ more. inr (omega (arith, more)))
        (each_choke w h.delivers.batches old new h.delivers.each
        (subst (λ (ns : List Note). Either (list_any is_choke ns) old.seat) (sym h.delivers.each_once) either))
    of false h = inr (let e = ap (λ (x : Delivered). x.refused) h.count in omega (arith, e))

-- ---- a seat's turn

due_choke : (slot choked owes : Bool) → slot ≡ false → choked ≡ false → owes ≡ true
    → is_choke_due (cond owes (cond (slot || not choked) (Some turns.Choke) (Some turns.Unchoke)) None) ≡ true
due_choke true choked owes s c o = absurd (false≢true (sym s))
due_choke false true owes s c o = absurd (false≢true (sym c))
due_choke false false true s c o = refl
due_choke false false false s c o = absurd (false≢true o)

-- The notes have the CHOKE that a seat owes.
owed_goes : (chokes : Bool) (s : SeatState) → chokes ≡ is_choke_due (due_turn s) → OwesChoke s → Either chokes s
owed_goes chokes s is owes = ⊎_elim
    (λ slot. inr (λ free. absurd (both_ways s.slot free slot)))
    (λ free. ⊎_elim
    (λ choked. inr (λ no. choked))
    (λ unchoked. inl (is ∙ due_choke s.slot s.choked s.owes free unchoked (owes free unchoked)))
    (cases_Bool s.choked))
    (cases_Bool s.slot)

module _ (k : ℕ) (far : Far) (greets : Bool) (refused : ℕ) (speaker left : Speaker) (a b : Scene)
    (s : SpeaksOn (record { seat = k; far = far; greets = greets }) refused speaker left a b) where
  abbrev to : SpeaksTo (record { seat = k; far = far; greets = greets }) refused speaker left (record a { parts = s.back })
      (record b { parts = s.said })
  to = s.speaks

  abbrev sp : Speaks k left.agenda (moment_of a.disk.history) to.delivered to.picked.seats to.said.seats a.link b.link
  sp = to.says.speaks

  known_is : sp.before ≡ to.fills.known
  known_is = same_Some sp.before to.fills.known (sym sp.there ∙ to.fills.there)

  back_is : to.fills.known ≡ record s.sets_back.known { cursor = to.fills.known.cursor }
  back_is = back_known s.sets_back.known.proven greets speaker.news.ranges k a.parts s.back s.sets_back.known to.fills.known s.sets_back.sets
      s.sets_back.there (ap (λ (p : Parts). slice_get p.seats.seats k) (sym to.are_picked.rest) ∙ to.fills.there)

  owes_then : OwesChoke s.sets_back.known → OwesChoke to.fills.known
  owes_then owes free unchoked = ap (λ (x : SeatState). x.owes) back_is
      ∙ owes (sym (ap (λ (x : SeatState). x.slot) back_is) ∙ free) (sym (ap (λ (x : SeatState). x.choked) back_is) ∙ unchoked)

  said_there : slice_get s.said.seats.seats k ≡ Some sp.after
  said_there = ap (λ (p : Parts). slice_get p.seats.seats k) to.settles.rest ∙ ap (λ (x : SeatsState). slice_get x.seats k) sp.is
      ∙ get_set_there to.picked.seats.seats k sp.after sp.before sp.there

  spoken_choke : OwesChoke s.sets_back.known → (new : SeatState) → slice_get b.parts.seats.seats k ≡ Some new
      → HasChoke new ⊎ HasRisen a.link.faults b.link.faults
  spoken_choke owes new there =
      let kept = attends_kept k k _ s.said b.parts s.attends.attends in
      let from = kept_from s.said.seats.moment (slice_get s.said.seats.seats k) (slice_get b.parts.seats.seats k) new there kept.seats.state in
      ⊎_elim
      (λ (has : HasChoke sp.after). inl (kept_choke s.said.seats.moment from.0 new from.2
      (subst HasChoke (same_Some sp.after from.0 (sym said_there ∙ from.1)) has)))
      (λ some. inr (goes_risen _ _ left.agenda _ _ sp.goes refl some))
      (goes_choke (opening_at to.picked.seats k) (way_of to.picked.seats sp.far (moment_of a.disk.history)) left.agenda
      (record { seat = sp.before; link = a.link; so_far = none_delivered })
      (record { seat = sp.after; link = b.link; so_far = to.delivered }) sp.goes refl
      (subst (λ (x : SeatState). Either (list_any is_choke left.agenda) x) (sym known_is)
      (owed_goes (list_any is_choke left.agenda) to.fills.known
      (chokes_where_due to.fills.known to.fills.due left.agenda to.fills.agenda).chokes (owes_then owes))))

-- behind the turn of a seat on whose channel this peer's handshake was sent
turn_choke : (k refused : ℕ) (speaker left : Speaker) (a b : Scene) → TurnsTo k refused speaker left a b
    → (far : Far) → far_of (channel_at b.parts.seats.table k) ≡ Some far → far.begun ≡ true
    → ((was : Far) → far_of (channel_at a.parts.seats.table k) ≡ Some was → (old : SeatState) → slice_get a.parts.seats.seats k ≡ Some old
    → OwesChoke old)
    → (new : SeatState) → slice_get b.parts.seats.seats k ≡ Some new → HasChoke new ⊎ HasRisen a.link.faults b.link.faults
turn_choke k refused speaker left a b t far is_far begun owes new there = of (far_of (channel_at a.parts.seats.table k)) refl t
  where
    of : (o : Option Far) → far_of (channel_at a.parts.seats.table k) ≡ o → TurnsIf o k refused speaker left a b
        → HasChoke new ⊎ HasRisen a.link.faults b.link.faults
    of None is g =
        let x : None ≡ Some far = sym (greets_unknown k _ g.greeted a.parts b.parts a.link b.link g.greets is) ∙ is_far in absurd cc
    of (Some before) is (inl n) =
        let same_far : before ≡ far = same_Some before far (sym is
        ∙ ap (λ (p : Parts). far_of (channel_at p.seats.table k)) (sym n.silent.parts) ∙ is_far) in
        absurd (both_ways before.begun n.begun (ap (λ (f : Far). f.begun) same_far ∙ begun))
    of (Some before) is (inr s) =
        spoken_choke k before s.0 refused speaker left a b s.1 (owes before is s.1.sets_back.known s.1.sets_back.there) new there

-- ---- the turns of all seats

-- On each channel whose peer is known each seat without a slot owes a CHOKE that it hasn't.
abbrev pub AllOwe : SeatsState → ℕ → Type 0
AllOwe p n = (far : Far) → far_of (channel_at p.table n) ≡ Some far → (s : SeatState) → slice_get p.seats n ≡ Some s → OwesChoke s

owe_kept : (n : ℕ) (p q : Parts) → Kept n p q → AllOwe p.seats n → AllOwe q.seats n
owe_kept n p q k owe far is_far s there =
    let from = kept_from p.seats.moment (slice_get p.seats.seats n) (slice_get q.seats.seats n) s there k.seats.state in
    kept_owes p.seats.moment from.0 s from.2
    (owe far (sym (far_stays (channel_at p.seats.table n) (channel_at q.seats.table n) k.seats.channel) ∙ is_far) from.0 from.1)

pub slots_owe : (n : ℕ) (p q : Parts) → TurnsSlots p q → AllOwe p.seats n → AllOwe q.seats n
slots_owe n p q t owe = owe_kept n p q (slots_kept n p q t) owe

pub all_owe : (x : Setting) (most : ℕ) (p : SeatsState) (past : List Record) (n : ℕ) → StandsFor x most p past → AllOwe p n
all_owe x most p past n h far is_far s there =
    let f = far_is (channel_at p.table n) far is_far in
    let l = lives_at x.d f.channel (h.lives n) past
    (subst (λ (o : Option Channel). StandsAt x.d o (h.lives n) past) f.there (h.standing.seated.each n)) f.known in
    (h.follow n f.channel l.0 s f.there f.known l.1 there).follows.slot.due

-- Once all seats had their turns, a seat without a slot on whose channel this peer's handshake was sent has its CHOKE, unless the link
-- refused a datagram.
pub said_choke : (refused : ℕ) (speaker left : Speaker) (a b : Scene) → TurnsBelow 64 refused speaker left a b → (n : ℕ) → n < 64
    → AllOwe a.parts.seats n → (far : Far) → far_of (channel_at b.parts.seats.table n) ≡ Some far → far.begun ≡ true
    → (s : SeatState) → slice_get b.parts.seats.seats n ≡ Some s → HasChoke s ⊎ HasRisen a.link.faults b.link.faults
said_choke refused speaker left a b t n low owe far is_far begun s there =
    let h = has_turn n 64 refused speaker left a b low t in
    let end = h.end.parts.seats in
    let last = kept_from end.moment (slice_get end.seats n) (slice_get b.parts.seats.seats n) s there h.after.kept.seats.state in
    let end_far : far_of (channel_at end.table n) ≡ Some far =
    sym (far_stays (channel_at end.table n) (channel_at b.parts.seats.table n) h.after.kept.seats.channel) ∙ is_far in
    ⊎_elim
    (λ has. inl (kept_choke end.moment last.0 s last.2 has))
    (λ risen. inr (risen_more a.link.faults h.end.link.faults b.link.faults h.after.grows.faults
    (risen_less a.link.faults h.begin.link.faults h.end.link.faults h.before.grows.faults risen)))
    (turn_choke n h.refused h.middle h.left h.begin h.end h.turn far end_far begun (owe_kept n a.parts h.begin.parts h.before.kept owe) last.0 last.1)
