-- Who keeps an upload slot.
use Rattle.std.proofs.Common.{◌≡◌, ◌≢◌, ◌⊎◌, inl, inr, ⊎_elim, ℕ, zero, suc, ◌+◌, ◌<◌, ◌≤◌, Bool, true, false, Option, Some, None, List, [], ◌∷◌, refl, sym, ◌∙◌, ap, subst, arith}
use Rattle.std.specs.Prelude.{slice_get}
use Rattle.std.proofs.lemmas.Bool.{cases_eq, both_ways}
use Rattle.std.proofs.lemmas.List.{get_or-set_other}
use Rattle.std.proofs.lemmas.Option.{same_Some}
use Rattle.pp_terms.specs.disk.Disk.{moment_of}
use Rattle.pp_terms.specs.format.Traffic.{LinkState}
use Rattle.pp_terms.specs.tree.Range.{Span}
use Rattle.pp_requests.specs.Seats.{Seating, since}
use Rattle.pp_channels.specs.Seats.{channel_at}
use Rattle.pp_channels.specs.Timing.{is_over}
use Rattle.pp_channels.specs.declared.channel.Channel.{Channel}
use Rattle.pp_lives.specs.Fars.{far_of}
use Rattle.pp_lives.specs.declared.lives.Far.{Far}
use Rattle.pp_seat.specs.Seats.{SeatState}
use Rattle.pp_seat.specs.Turns.{due_turn}
use Rattle.pp_seat.specs.declared.service.Turn.{Turn}
use Rattle.pp_seat.specs.declared.service.Turn.TheVariants.{Choke, Unchoke}
use Rattle.pp_seats.specs.Standing.{SeatsState}
use Rattle.pp_seats.specs.Turning.{Rewinds}
use Rattle.pp_seats.proofs.Lists.{get_set_other}
use Rattle.pp_peer.specs.declared.dialling.Dial.{Dial}
use Rattle.pp_peer.specs.declared.parts.Parts.{Parts}
use Rattle.pp_peer.specs.declared.speaking.Speaker.{Speaker}
use Rattle.pp_peer.specs.Flushing.{Scene}
use Rattle.pp_peer.specs.Greeting.{IsUntouched, IsGreeted, Drops, LetsGoAt}
use Rattle.pp_peer.specs.Slotting.{without_slot, Grants, GrantsInTurn, TurnsLongest, TurnsNone}
use Rattle.pp_peer.specs.Speaking.{SetsBackTo, SpeaksTo, was_choked, AttendsTo, SpeaksOn, TurnsIf, TurnsTo, TurnsBelow}
use Rattle.pp_peer.specs.Sending.{SendsAll}
use Rattle.pp_peer.proofs.Dialled.{all_dialling}
use Rattle.pp_core.specs.Telling.{IsLasting}
use Rattle.pp_core.specs.Slots.{IsTurned, HasSlot}
use Rattle.pp_core.proofs.Before.{dials_goes}
use Rattle.pp_core.proofs.Spoken.{back_known}

-- ---- what of a seat stays

-- The same of CHOKE and UNCHOKE is due.
abbrev SameTurn : Option SeatState → Option SeatState → Type 0
SameTurn None new = new ≡ None
SameTurn (Some s) new = (left : SeatState) × (new ≡ Some left) × (due_turn left ≡ due_turn s)

same_turn : (o p : Option SeatState) → p ≡ o → SameTurn o p
same_turn None p e = e
same_turn (Some s) p e = (s, e, refl)

turn_twice : (o p q : Option SeatState) → SameTurn o p → SameTurn p q → SameTurn o q
turn_twice None p q one two = let t = subst (λ (x : Option SeatState). SameTurn x q) one two in t
turn_twice (Some s) p q one two = let t = subst (λ (x : Option SeatState). SameTurn x q) one.1 two in (t.0, t.1, t.2 ∙ one.2)

-- A seat that doesn't wait has its slot as it had it, and the same is due there.
record Sits (seat : ℕ) (old new : Parts) : Type 0 where
  slot : since new.slots.slots seat ≡ since old.slots.slots seat
  waits : since new.slots.waiting seat ≡ since old.slots.waiting seat
  turn : SameTurn (slice_get old.seats.seats seat) (slice_get new.seats.seats seat)

abbrev StaysSeated : ℕ → Parts → Parts → Type 0
StaysSeated seat old new = since old.slots.waiting seat ≡ None → Sits seat old new

sits_twice : (seat : ℕ) (a b c : Parts) → StaysSeated seat a b → StaysSeated seat b c → StaysSeated seat a c
sits_twice seat a b c one two none =
    let s = one none in
    let t = two (s.waits ∙ none) in
    record {
      slot = t.slot ∙ s.slot;
      waits = t.waits ∙ s.waits;
      turn = turn_twice (slice_get a.seats.seats seat) (slice_get b.seats.seats seat) (slice_get c.seats.seats seat) s.turn t.turn;
    }

sits_by : (seat : ℕ) (old new : Parts) → new.slots ≡ old.slots → slice_get new.seats.seats seat ≡ slice_get old.seats.seats seat
    → StaysSeated seat old new
sits_by seat old new slots messages none = record {
  slot = ap (λ (x : Seating). since x.slots seat) slots;
  waits = ap (λ (x : Seating). since x.waiting seat) slots;
  turn = same_turn (slice_get old.seats.seats seat) (slice_get new.seats.seats seat) messages;
}

sits_same : (seat : ℕ) (old new : Parts) → new ≡ old → StaysSeated seat old new
sits_same seat old new same = sits_by seat old new (ap (λ (p : Parts). p.slots) same) (ap (λ (p : Parts). slice_get p.seats.seats seat) same)

-- ---- slots that are granted and given up

sits_granted : (seat k : ℕ) (old new : Parts) → Grants k old new → StaysSeated seat old new
sits_granted seat k old new g none =
    let ne : seat ≢ k = λ is. absurd (let e : None ≡ Some g.longest.moment = sym none ∙ ap (λ (n : ℕ). since old.slots.waiting n) is
    ∙ g.longest.is_there in cc) in
    record {
      slot = ap (λ (p : Parts). since p.slots.slots seat) g.rest ∙ get_or-set_other old.slots.slots k seat (Some old.seats.moment) None ne;
      waits = ap (λ (p : Parts). since p.slots.waiting seat) g.rest ∙ get_or-set_other old.slots.waiting k seat None None ne;
      turn = same_turn (slice_get old.seats.seats seat) (slice_get new.seats.seats seat)
          (ap (λ (x : SeatsState). slice_get x.seats seat) g.turns.is ∙ get_set_other old.seats.seats k seat g.turns.after ne);
    }

sits_each : (seat : ℕ) (list : List ℕ) (old new : Parts) → GrantsInTurn list old new → StaysSeated seat old new
sits_each seat [] old new g = sits_same seat old new g.0
sits_each seat (k ∷ list) old new g = sits_twice seat old g.0 new (sits_granted seat k old g.0 g.1) (sits_each seat list g.0 new g.2)

sits_attended : (seat k : ℕ) (b : Bool) (old new : Parts) → seat ≢ k → AttendsTo b k old new → StaysSeated seat old new
sits_attended seat k true old new ne a = sits_twice seat old (record old { slots = without_slot k old.seats.moment old.slots }) new
    (λ none. record {
      slot = get_or-set_other old.slots.slots k seat None None ne;
      waits = get_or-set_other old.slots.waiting k seat (Some old.seats.moment) None ne;
      turn = same_turn (slice_get old.seats.seats seat) (slice_get old.seats.seats seat) refl;
    })
    (sits_each seat a.0 (record old { slots = without_slot k old.seats.moment old.slots }) new a.1)
sits_attended seat k false old new ne a = sits_same seat old new a

-- ---- the turns of others

back_sits : (seat k : ℕ) (proven greets : Bool) (news : List Span) (old new : Parts) → seat ≢ k → SetsBackTo proven greets news k old new
    → StaysSeated seat old new
back_sits seat k proven greets news old new ne s = of proven greets news s
  where
    moved : (to : ℕ) → Rewinds k to old.seats new.seats → new ≡ record old { seats = new.seats } → StaysSeated seat old new
    moved to r rest = sits_by seat old new (ap (λ (p : Parts). p.slots) rest)
        (ap (λ (x : SeatsState). slice_get x.seats seat) r.is ∙ get_set_other old.seats.seats k seat r.after ne)

    of : (proven greets : Bool) (news : List Span) → SetsBackTo proven greets news k old new → StaysSeated seat old new
    of true greets news s = sits_same seat old new s
    of false true news s = moved 0 s.0 s.1
    of false false [] s = sits_same seat old new s
    of false false (x ∷ xs) s = moved x.first s.0 s.1

speaks_sits : (seat k : ℕ) (far : Far) (greets : Bool) (refused : ℕ) (speaker left : Speaker) (old new : Scene) → seat ≢ k
    → SpeaksTo (record { seat = k; far = far; greets = greets }) refused speaker left old new → StaysSeated seat old.parts new.parts
speaks_sits seat k far greets refused speaker left old new ne s =
    let sp = s.says.speaks in
    sits_by seat old.parts new.parts
    (ap (λ (p : Parts). p.slots) s.settles.rest ∙ ap (λ (p : Parts). p.slots) s.says.rest ∙ ap (λ (p : Parts). p.slots) s.are_picked.rest)
    (ap (λ (p : Parts). slice_get p.seats.seats seat) s.settles.rest ∙ ap (λ (x : SeatsState). slice_get x.seats seat) sp.is
    ∙ get_set_other s.picked.seats.seats k seat sp.after ne ∙ ap (λ (p : Parts). slice_get p.seats.seats seat) s.are_picked.rest)

greeted_slots : (k moment : ℕ) (sent : Bool) (old new : Parts) (link later : LinkState)
    → IsGreeted k moment sent old new link later → new.slots ≡ old.slots
greeted_slots k moment true old new link later g = ap (λ (p : Parts). p.slots) g.rest
greeted_slots k moment false old new link later (inl g) = ap (λ (p : Parts). p.slots) g.rest
greeted_slots k moment false old new link later (inr g) = ap (λ (p : Parts). p.slots) g.same

greeted_states : (k moment : ℕ) (sent : Bool) (old new : Parts) (link later : LinkState) → IsGreeted k moment sent old new link later
    → new.seats.seats ≡ old.seats.seats
greeted_states k moment true old new link later g = ap (λ (x : SeatsState). x.seats) g.greets.is
greeted_states k moment false old new link later (inl g) = ap (λ (p : Parts). p.seats.seats) g.rest
greeted_states k moment false old new link later (inr g) = ap (λ (p : Parts). p.seats.seats) g.same

sits_if : (seat k refused : ℕ) (speaker left : Speaker) (old new : Scene) (o : Option Far) → seat ≢ k → TurnsIf o k refused speaker left old new
    → StaysSeated seat old.parts new.parts
sits_if seat k refused speaker left old new None ne t = sits_by seat old.parts new.parts
    (greeted_slots k (moment_of old.disk.history) t.greeted old.parts new.parts old.link new.link t.greets)
    (ap (λ (xs : List SeatState). slice_get xs seat) (greeted_states k
    (moment_of old.disk.history) t.greeted old.parts new.parts old.link new.link t.greets))
sits_if seat k refused speaker left old new (Some far) ne (inl t) = sits_same seat old.parts new.parts t.silent.parts
sits_if seat k refused speaker left old new (Some far) ne (inr t) =
    let s = t.1 in
    sits_twice seat old.parts s.said new.parts
    (sits_twice seat old.parts s.back s.said
    (back_sits seat k s.sets_back.known.proven t.0 speaker.news.ranges old.parts s.back ne s.sets_back.sets)
    (speaks_sits seat k far t.0 refused speaker left (record old { parts = s.back }) (record new { parts = s.said }) ne s.speaks))
    (sits_attended seat k _ s.said new.parts ne s.attends.attends)

sits_turn : (seat k refused : ℕ) (speaker left : Speaker) (old new : Scene) → seat ≢ k → TurnsTo k refused speaker left old new
    → StaysSeated seat old.parts new.parts
sits_turn seat k refused speaker left old new ne t = sits_if seat k refused speaker left old new (far_of (channel_at old.parts.seats.table k)) ne t

sits_below : (seat n refused : ℕ) (speaker left : Speaker) (old new : Scene) → n ≤ seat → TurnsBelow n refused speaker left old new
    → StaysSeated seat old.parts new.parts
unfolding TurnsBelow
sits_below seat zero refused speaker left old new high t = sits_same seat old.parts new.parts t.parts
sits_below seat (suc n) refused speaker left old new high t =
    let ne : seat ≢ n = λ is. omega (arith, is, high) in
    sits_twice seat old.parts t.3.parts new.parts (sits_below seat n t.0 speaker t.2 old t.3 (omega (arith, high)) t.4)
    (sits_turn seat n t.1 t.2 left t.3 new ne t.5)

-- ---- its own turn

-- The slots of a seat are as they were.
record SlotStays (seat : ℕ) (old new : Parts) : Type 0 where
  slot : since new.slots.slots seat ≡ since old.slots.slots seat
  waits : since new.slots.waiting seat ≡ since old.slots.waiting seat

slot_by : (seat : ℕ) (old new : Parts) → new.slots ≡ old.slots → SlotStays seat old new
slot_by seat old new same = record { slot = ap (λ (x : Seating). since x.slots seat) same; waits = ap (λ (x : Seating). since x.waiting seat) same }

not_choked : (before after : Option Turn) → (before ≡ Some Choke → ⊥) → was_choked before after ≡ false
not_choked None after idle = refl
not_choked (Some Choke) None idle = absurd (idle refl)
not_choked (Some Choke) (Some x) idle = refl
not_choked (Some Unchoke) after idle = refl

not_attended : (seat : ℕ) (b : Bool) (old new : Parts) → b ≡ false → AttendsTo b seat old new → new ≡ old
not_attended seat true old new e a = absurd cc
not_attended seat false old new e a = a

back_slots : (seat : ℕ) (proven greets : Bool) (news : List Span) (old new : Parts)
    → SetsBackTo proven greets news seat old new → new.slots ≡ old.slots
back_slots seat true greets news old new s = ap (λ (p : Parts). p.slots) s
back_slots seat false true news old new s = ap (λ (p : Parts). p.slots) s.1
back_slots seat false false [] old new s = ap (λ (p : Parts). p.slots) s
back_slots seat false false (x ∷ xs) old new s = ap (λ (p : Parts). p.slots) s.1

own_slots : (seat : ℕ) (far : Far) (greets : Bool) (refused : ℕ) (speaker left : Speaker) (old new : Scene) (known : SeatState)
    → slice_get old.parts.seats.seats seat ≡ Some known → (due_turn known ≡ Some Choke → ⊥)
    → SpeaksOn (record { seat = seat; far = far; greets = greets }) refused speaker left old new
    → new.parts.slots ≡ old.parts.slots
own_slots seat far greets refused speaker left old new known there idle s =
    let b = s.sets_back in
    let begun : b.known ≡ known = same_Some b.known known (sym b.there ∙ there) in
    let back = back_known b.known.proven greets speaker.news.ranges seat old.parts s.back b.known s.known b.sets b.there s.there in
    let turn : due_turn s.known ≡ due_turn known = ap due_turn back ∙ ap due_turn begun in
    let same = not_attended seat _ s.said new.parts (not_choked (due_turn s.known) (due_turn s.attends.known)
    (λ due. idle (sym turn ∙ due))) s.attends.attends in
    ap (λ (p : Parts). p.slots) same
    ∙ ap (λ (p : Parts). p.slots) s.speaks.settles.rest ∙ ap (λ (p : Parts). p.slots) s.speaks.says.rest
    ∙ ap (λ (p : Parts). p.slots) s.speaks.are_picked.rest
    ∙ back_slots seat b.known.proven greets speaker.news.ranges old.parts s.back b.sets

own_if : (seat refused : ℕ) (speaker left : Speaker) (old new : Scene) (o : Option Far) (known : SeatState)
    → slice_get old.parts.seats.seats seat ≡ Some known
    → (due_turn known ≡ Some Choke → ⊥) → TurnsIf o seat refused speaker left old new → new.parts.slots ≡ old.parts.slots
own_if seat refused speaker left old new None known there idle t = greeted_slots seat
    (moment_of old.disk.history) t.greeted old.parts new.parts old.link new.link t.greets
own_if seat refused speaker left old new (Some far) known there idle (inl t) = ap (λ (p : Parts). p.slots) t.silent.parts
own_if seat refused speaker left old new (Some far) known there idle
    (inr t) = own_slots seat far t.0 refused speaker left old new known there idle t.1

state_of : (o p : Option SeatState) (known : SeatState) → o ≡ Some known → SameTurn o p
    → (left : SeatState) × (p ≡ Some left) × (due_turn left ≡ due_turn known)
state_of o p known is s = let t = subst (λ (x : Option SeatState). SameTurn x p) is s in t

turns_keep : (seat n refused : ℕ) (speaker left : Speaker) (old new : Scene) (known : SeatState) → seat < n
    → slice_get old.parts.seats.seats seat ≡ Some known
    → (due_turn known ≡ Some Choke → ⊥) → since old.parts.slots.waiting seat ≡ None → TurnsBelow n refused speaker left old new
    → SlotStays seat old.parts new.parts
unfolding TurnsBelow
turns_keep seat zero refused speaker left old new known low there idle none t = absurd (omega (arith, low))
turns_keep seat (suc n) refused speaker left old new known low there idle none t =
    of (cases_eq seat n) (λ lt. turns_keep seat n t.0 speaker t.2 old t.3 known lt there idle none t.4)
  where
    of : (seat ≡ n) ⊎ (seat ≡ n → ⊥) → (seat < n → SlotStays seat old.parts t.3.parts) → SlotStays seat old.parts new.parts
    of (inl is) below =
        let s = sits_below seat n t.0 speaker t.2 old t.3 (omega (arith, is)) t.4 none in
        let k = state_of (slice_get old.parts.seats.seats seat) (slice_get t.3.parts.seats.seats seat) known there s.turn in
        let same = own_if seat t.1 t.2 left t.3 new (far_of (channel_at t.3.parts.seats.table seat)) k.0 k.1 (λ due. idle (sym k.2 ∙ due))
        (subst (λ (m : ℕ). TurnsTo m t.1 t.2 left t.3 new) (sym is) t.5) in
        let u = slot_by seat t.3.parts new.parts same in
        record { slot = u.slot ∙ s.slot; waits = u.waits ∙ s.waits }
    of (inr ne) below =
        let s = below (omega (arith, low, ne)) in
        let u = sits_turn seat n t.1 t.2 left t.3 new ne t.5 (s.waits ∙ none) in
        record { slot = u.slot ∙ s.slot; waits = u.waits ∙ s.waits }

-- ---- before the turns

let_go_turn : (now : ℕ) (o p : Option SeatState) → LetsGoAt now o p → SameTurn o p
let_go_turn now None p l = l
let_go_turn now (Some s) p l = (l.0, l.1, ap due_turn l.2.rest)

untouched : (seat : ℕ) (c : Channel) (old new : Parts) → IsLasting seat c old → Drops old new → IsUntouched seat old new
untouched seat c old new h d = ⊎_elim (λ u. u)
    (λ over. absurd (both_ways (is_over old.seats.moment (channel_at old.seats.table seat)) (ap (is_over old.seats.moment) h.there ∙ h.lasts) over.0))
    (d.each seat h.below)

module _ (dials lefts : List Dial) (speaker left : Speaker) (refused : ℕ) (old new : Scene)
    (s : SendsAll dials lefts speaker left refused old new) where
  -- the slots before they are turned are those after channels were dropped
  slots_then : s.dialled.parts.slots ≡ s.dropped.slots
  slots_then = ap (λ (p : Parts). p.slots) (all_dialling dials lefts
      (record old { parts = s.given }) s.dials_all.0 s.dialled s.dials_all.1 s.dials_all.2).only
      ∙ ap (λ (p : Parts). p.slots) s.gives_up.rest

  slot_then : (seat : ℕ) (c : Channel) → IsLasting seat c old.parts → since s.dialled.parts.slots.slots seat ≡ since old.parts.slots.slots seat
  slot_then seat c h = ap (λ (x : Seating). since x.slots seat) slots_then ∙ (untouched seat c old.parts s.dropped h s.drops).slot

  moment_then : s.dialled.parts.seats.moment ≡ old.parts.seats.moment
  moment_then = (all_dialling dials lefts (record old { parts = s.given }) s.dials_all.0 s.dialled s.dials_all.1 s.dials_all.2).flushes.moment
      ∙ ap (λ (p : Parts). p.seats.moment) s.gives_up.rest ∙ s.drops.moment

  until_turned : (seat : ℕ) (c : Channel) → IsLasting seat c old.parts → Sits seat old.parts s.dialled.parts
  until_turned seat c h =
      let u = untouched seat c old.parts s.dropped h s.drops in
      record {
        slot = slot_then seat c h;
        waits = ap (λ (x : Seating). since x.waiting seat) slots_then ∙ u.waits;
        turn = turn_twice (slice_get old.parts.seats.seats seat) (slice_get s.given.seats.seats seat) (slice_get s.dialled.parts.seats.seats seat)
            (turn_twice (slice_get old.parts.seats.seats seat) (slice_get s.dropped.seats.seats seat) (slice_get s.given.seats.seats seat)
            (same_turn (slice_get old.parts.seats.seats seat) (slice_get s.dropped.seats.seats seat) u.messages)
            (let_go_turn s.dropped.seats.moment (slice_get s.dropped.seats.seats seat) (slice_get s.given.seats.seats seat) (s.gives_up.each seat)))
            (same_turn (slice_get s.given.seats.seats seat) (slice_get s.dialled.parts.seats.seats seat)
            (ap (λ (xs : List SeatState). slice_get xs seat) (dials_goes seat dials lefts
            (record old { parts = s.given }) s.dialled s.dials_all).messages));
      }

  -- the seat whose slot was turned had it longest
  is_turned : (seat moment : ℕ) (mid : Parts) → (h : HasSlot seat moment old.parts) → (t : TurnsLongest s.dialled.parts mid) → seat ≡ t.seat
      → IsTurned seat moment old.parts
  is_turned seat moment mid h t is =
      let had : since s.dialled.parts.slots.slots t.seat ≡ Some moment =
      ap (λ (n : ℕ). since s.dialled.parts.slots.slots n) (sym is) ∙ slot_then seat h.channel h.lasting ∙ h.has in
      let same : t.longest.moment ≡ moment = same_Some t.longest.moment moment (sym t.longest.is_there ∙ had) in
      let turned : s.dialled.parts.slots.turned ≡ old.parts.slots.turned = ap (λ (x : Seating). x.turned) slots_then ∙ s.drops.turned in
      record {
        rested = subst (λ (n : ℕ). n + 30_000_000 ≤ old.parts.seats.moment) turned
            (subst (λ (n : ℕ). s.dialled.parts.slots.turned + 30_000_000 ≤ n) moment_then t.due.long);
        longest = λ other m c lasting at.
            subst (λ (n : ℕ). (moment < m) ⊎ ((moment ≡ m) × (n ≤ other))) (sym is)
            (subst (λ (n : ℕ). (n < m) ⊎ ((n ≡ m) × (t.seat ≤ other))) same (t.longest.first other m (slot_then other c lasting ∙ at)));
      }

  -- each seat but that one stays as it is
  slots_turned : (seat moment : ℕ) (mid : Parts) → HasSlot seat moment old.parts → TurnsLongest s.dialled.parts mid ⊎ TurnsNone s.dialled.parts mid
      → StaysSeated seat s.dialled.parts mid ⊎ IsTurned seat moment old.parts
  slots_turned seat moment mid h (inr t) = inl (sits_same seat s.dialled.parts mid t.same)
  slots_turned seat moment mid h (inl t) = ⊎_elim
      (λ (is : seat ≡ t.seat). inr (is_turned seat moment mid h t is))
      (λ (ne : seat ≡ t.seat → ⊥). inl (λ none. record {
        slot = ap (λ (p : Parts). since p.slots.slots seat) t.rest;
        waits = ap (λ (p : Parts). since p.slots.waiting seat) t.rest;
        turn = same_turn (slice_get s.dialled.parts.seats.seats seat) (slice_get mid.seats.seats seat)
            (ap (λ (x : SeatsState). slice_get x.seats seat) t.turns.is ∙ get_set_other s.dialled.parts.seats.seats t.seat seat t.turns.after ne);
      }))
      (cases_eq seat t.seat)

  kept_on : (seat moment : ℕ) → (h : HasSlot seat moment old.parts) → StaysSeated seat s.dialled.parts s.turns.mid
      → since new.parts.slots.slots seat ≡ Some moment
  kept_on seat moment h stays =
      let first = until_turned seat h.channel h.lasting in
      let rest = sits_twice seat s.dialled.parts s.turns.mid s.turned stays (sits_each seat s.turns.grants.0 s.turns.mid s.turned s.turns.grants.1)
      (first.waits ∙ h.waits_not) in
      let k = state_of (slice_get old.parts.seats.seats seat) (slice_get s.turned.seats.seats seat) h.known h.messages
      (turn_twice (slice_get old.parts.seats.seats seat) (slice_get s.dialled.parts.seats.seats seat)
      (slice_get s.turned.seats.seats seat) first.turn rest.turn) in
      let t = turns_keep seat 64 s.unsaid s.speaks.gathered left (record s.dialled { parts = s.turned }) s.said k.0 h.lasting.below k.1
      (λ due. h.idle (sym k.2 ∙ due))
      (rest.waits ∙ first.waits ∙ h.waits_not) s.speaks.turns in
      ap (λ (p : Parts). since p.slots.slots seat) s.only ∙ t.slot ∙ rest.slot ∙ first.slot ∙ h.has

  pub slots_kept : (seat moment : ℕ) → HasSlot seat moment old.parts
      → (since new.parts.slots.slots seat ≡ Some moment) ⊎ IsTurned seat moment old.parts
  slots_kept seat moment h = ⊎_elim (λ (stays : StaysSeated seat s.dialled.parts s.turns.mid). inl
      (kept_on seat moment h stays)) (λ turned. inr turned)
      (slots_turned seat moment s.turns.mid h s.turns.turned)
