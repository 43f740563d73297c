-- What is said on a proven channel in a flush.
use Rattle.std.proofs.Common.{◌≡◌, ◌⊎◌, inl, inr, ⊎_elim, ℕ, min, Bool, true, false, cond, Option, Some, None, List, [], ◌∷◌, refl, sym, ◌∙◌, ap, subst, arith}
use Rattle.std.specs.Prelude.{unwrap_or}
use Rattle.std.specs.List.{slice_get, list_any}
use Rattle.std.proofs.lemmas.Bool.{false≢true, both_ways}
use Rattle.std.proofs.lemmas.Option.{same_Some}
use Rattle.pp_terms.specs.disk.Disk.{moment_of}
use Rattle.pp_terms.specs.format.Descriptor.{Descriptor}
use Rattle.pp_terms.specs.format.Messages.{Message}
use Rattle.pp_terms.specs.format.Traffic.{LinkState}
use Rattle.pp_terms.specs.tree.Range.{Span}
use Rattle.pp_channels.specs.Seats.{channel_at, is_begun}
use Rattle.pp_channels.specs.Timing.{handshake_due}
use Rattle.pp_channels.specs.declared.channel.Channel.{Channel}
use Rattle.pp_holding.specs.Holding.{HoldingState}
use Rattle.pp_lives.specs.Fars.{far_of}
use Rattle.pp_lives.specs.Reading.{is_waiting, is_proven}
use Rattle.pp_lives.specs.declared.lives.Far.{Far}
use Rattle.pp_draft.specs.declared.note.Note.{Note}
use Rattle.pp_draft.specs.Notes.{SayAll}
use Rattle.pp_seat.specs.Seats.{SeatState}
use Rattle.pp_seat.specs.Turns.{due_turn}
use Rattle.pp_seat.specs.declared.service.Turn.{Turn}
use Rattle.pp_seats.specs.Reading.{is_due_at, opening_of}
use Rattle.pp_seats.specs.Turning.{Rewinds}
use Rattle.pp_seats.proofs.Lists.{get_set_there}
use Rattle.pp_peer.specs.Greeting.{StaysBut}
use Rattle.pp_seats.specs.Standing.{SeatsState}
use Rattle.pp_seats.specs.Sending.{opening_at}
use Rattle.pp_desk.specs.Delivers.{none_delivered}
use Rattle.pp_news.specs.News.{AreRunsOf}
use Rattle.pp_peer.specs.declared.dialling.Dial.{Dial}
use Rattle.pp_peer.specs.declared.parts.Parts.{Parts}
use Rattle.pp_peer.specs.declared.speaking.Speaker.{Speaker}
use Rattle.pp_peer.specs.Flushing.{Scene}
use Rattle.pp_peer.specs.Sending.{SendsAll}
use Rattle.pp_peer.specs.Speaking.{SetsBackTo, SpeaksTo, SpeaksOn, SpeaksNot, TurnsIf, TurnsTo}
use Rattle.pp_peer.proofs.Ending.{far_stays}
use Rattle.pp_core.specs.Telling.{end_of, IsLasting, HasPeer}
use Rattle.pp_core.proofs.Links.{Grows, grows_twice, Reached, reached_amid}
use Rattle.pp_core.proofs.Delivered.{goes_reach}
use Rattle.pp_core.proofs.Kept.{StateKept, StateAt, turn_stays, Kept, kept_none, kept_twice}
use Rattle.pp_core.proofs.Turns.{has_turn, picked_kept, picked_rest}
use Rattle.pp_core.proofs.Before.{before_turns}

-- A seat's channel has a peer of a known number, and its time isn't over.
pub record IsHeard (seat : ℕ) (c : Channel) (far : Far) (p : Parts) : Type 0 where
  pub lasting : IsLasting seat c p
  pub is_far : far_of (Some c) ≡ Some far

known_end : (waits : Bool) (c : Channel) → waits ≡ false
    → cond {A = Option Far} waits None
    (Some (record { address = c.address; number = unwrap_or c.remote 0; proven = is_proven c; begun = is_begun c.opening }))
    ≡ Some (record { address = c.address; number = cond waits 0 (unwrap_or c.remote 0); proven = is_proven c; begun = is_begun c.opening })
known_end true c e = absurd cc
known_end false c e = refl

pub heard_at : (seat : ℕ) (c : Channel) (p : Parts) → IsLasting seat c p → is_waiting c ≡ false → IsHeard seat c (end_of c) p
heard_at seat c p h numbered = record { lasting = h; is_far = known_end (is_waiting c) c numbered }

pub is_heard : (seat : ℕ) (c : Channel) (p : Parts) → HasPeer seat c p → IsHeard seat c (end_of c) p
is_heard seat c p h = heard_at seat c p h.lasting h.numbered

-- ---- the turn of a seat whose channel is there

-- A seat's turn in a flush, with what of it is kept before, and what the link gained around it.
pub record SeatTurn (seat : ℕ) (old : Scene) (later : LinkState) : Type 0 where
  pub refused : ℕ
  pub speaker : Speaker
  pub left : Speaker
  pub begin : Scene
  pub end : Scene
  pub turn : TurnsTo seat refused speaker left begin end
  pub kept : Kept seat old.parts begin.parts
  pub ranges : AreRunsOf old.parts.holding.queue.tickets speaker.news.ranges
  pub before : Grows old.link begin.link
  pub behind : Grows end.link later

pub seat_turn : (seat : ℕ) (c : Channel) (dials lefts : List Dial) (speaker left : Speaker) (refused : ℕ) (old new : Scene)
    → IsLasting seat c old.parts
    → SendsAll dials lefts speaker left refused old new → SeatTurn seat old new.link
seat_turn seat c dials lefts speaker left refused old new open_at s =
    let start : Scene = record s.dialled { parts = s.turned } in
    let first = before_turns seat c dials lefts old s.dropped s.given s.turned s.dialled open_at.below open_at.there open_at.lasts
    s.drops s.gives_up s.dials_all s.turns in
    let h = has_turn seat 64 s.unsaid s.speaks.gathered left start s.said open_at.below s.speaks.turns in
    record {
      refused = h.refused;
      speaker = h.middle;
      left = h.left;
      begin = h.begin;
      end = h.end;
      turn = h.turn;
      kept = kept_twice seat old.parts s.turned h.begin.parts first.0 h.before.kept;
      ranges = subst (λ (rs : List Span). AreRunsOf old.parts.holding.queue.tickets rs) (sym h.before.news)
          (subst (λ (x : HoldingState). AreRunsOf x.queue.tickets s.speaks.gathered.news.ranges) first.0.holding s.speaks.ranges);
      before = grows_twice old.link start.link h.begin.link first.1 h.before.grows;
      behind = grows_twice h.end.link s.said.link new.link h.after.grows
          (record { added = s.serves.flushes.added; gained = s.serves.flushes.gained; faults = s.serves.flushes.later });
    }

-- ---- what is said there

-- It was said on the channel what was due.
pub record IsSpoken (seat : ℕ) (far : Far) (old : Scene) (later : LinkState) : Type 0 where
  pub turn : SeatTurn seat old later
  pub is_far : far_of (channel_at turn.begin.parts.seats.table seat) ≡ Some far
  pub greets : Bool
  pub speaks : SpeaksOn (record { seat = seat; far = far; greets = greets }) turn.refused turn.speaker turn.left turn.begin turn.end

spoken_by : (seat : ℕ) (far : Far) (old : Scene) (later : LinkState) (t : SeatTurn seat old later)
    → far_of (channel_at t.begin.parts.seats.table seat) ≡ Some far
    → TurnsIf (Some far) seat t.refused t.speaker t.left t.begin t.end → (SpeaksNot seat t.refused far t.speaker t.left t.begin t.end → ⊥)
    → IsSpoken seat far old later
spoken_by seat far old later t is (inl turn) not = absurd (not turn)
spoken_by seat far old later t is (inr turn) not = record { turn = t; is_far = is; greets = turn.0; speaks = turn.1 }

pub marked_due : (seat : ℕ) (old begin : Parts) (c : Channel) → Kept seat old begin → channel_at old.seats.table seat ≡ Some c
    → handshake_due old.seats.moment c ≡ true
    → (is_due_at begin.seats.moment (channel_at begin.seats.table seat) ≡ true) ×
    (opening_of begin.seats.moment (channel_at begin.seats.table seat) ≡ Some c.local)
marked_due seat old begin c k there due =
    let m = subst (λ (o : Option Channel). StaysBut o (channel_at begin.seats.table seat)) there k.seats.channel in
    let is_due : handshake_due begin.seats.moment c ≡ true = ap (λ (n : ℕ). handshake_due n c) k.seats.moment ∙ due in
    (ap (is_due_at begin.seats.moment) m.1 ∙ is_due, ap (opening_of begin.seats.moment) m.1 ∙ ap (λ (b : Bool). cond b (Some c.local) None) is_due)

-- what was due was said where a handshake had been sent, or was due
pub spoken : (seat : ℕ) (c : Channel) (far : Far) (old : Scene) (later : LinkState) → IsHeard seat c far old.parts
    → (far.begun ≡ true) ⊎ (handshake_due old.parts.seats.moment c ≡ true) → SeatTurn seat old later → IsSpoken seat far old later
spoken seat c far old later h begun t =
    let is : far_of (channel_at t.begin.parts.seats.table seat) ≡ Some far =
    far_stays (channel_at old.parts.seats.table seat) (channel_at t.begin.parts.seats.table seat) t.kept.seats.channel
    ∙ ap far_of h.lasting.there ∙ h.is_far in
    spoken_by seat far old later t is (subst (λ (o : Option Far). TurnsIf o seat t.refused t.speaker t.left t.begin t.end) is t.turn)
    (λ not. ⊎_elim (λ was. both_ways far.begun not.begun was)
    (λ due. both_ways (is_due_at t.begin.parts.seats.moment (channel_at t.begin.parts.seats.table seat)) not.due
    (marked_due seat old.parts t.begin.parts c t.kept h.lasting.there due).0)
    begun)

module _ (seat : ℕ) (far : Far) (old : Scene) (later : LinkState) (s : IsSpoken seat far old later) where
  abbrev t : SeatTurn seat old later
  t = s.turn

  abbrev to : SpeaksTo (record { seat = seat; far = far; greets = s.greets }) t.refused t.speaker t.left (record t.begin { parts = s.speaks.back })
      (record t.end { parts = s.speaks.said })
  to = s.speaks.speaks

  pub seats_rest : to.picked.seats ≡ record t.begin.parts.seats { seats = to.picked.seats.seats }
  seats_rest = picked_rest seat s.speaks.sets_back.known.proven s.greets t.speaker.news.ranges to.picks t.speaker.order t.begin.parts s.speaks.back
      to.picked
      s.speaks.sets_back.sets to.are_picked

  far_is : to.says.speaks.far ≡ far
  far_is = same_Some to.says.speaks.far far (sym to.says.speaks.is_far
      ∙ ap (λ (x : SeatsState). far_of (channel_at x.table seat)) seats_rest ∙ s.is_far)

  swarm : to.picked.seats.descriptor ≡ old.parts.seats.descriptor
  swarm = ap (λ (x : SeatsState). x.descriptor) seats_rest ∙ t.kept.seats.swarm

  -- a datagram that went in the seat's turn went in the flush
  pub turn_reaches : (says : List Message → Type 0) → Reached to.picked.seats.descriptor to.says.speaks.far says t.begin.link t.end.link
      → Reached old.parts.seats.descriptor far says old.link later
  turn_reaches says r =
      reached_amid old.parts.seats.descriptor far says old.link t.begin.link t.end.link later t.before
      (subst (λ (d : Descriptor). Reached d far says t.begin.link t.end.link) swarm
      (subst (λ (x : Far). Reached to.picked.seats.descriptor x says t.begin.link t.end.link) far_is r)) t.behind

  -- notes of which one passes a test went, whose messages are then as they are to be
  pub notes_reach : (says : List Message → Type 0) (test : Note → Bool)
      → ((notes : List Note) (ms : List Message) → list_any test notes ≡ true → SayAll to.picked.seats.descriptor notes ms → says ms)
      → list_any test t.left.agenda ≡ true → Reached old.parts.seats.descriptor far says old.link later
  notes_reach says test by some = turn_reaches says
      (goes_reach (opening_at to.picked.seats seat) to.picked.seats.descriptor to.says.speaks.far
      (moment_of t.begin.disk.history) to.picked.seats.moment says test by t.left.agenda
      (record { seat = to.says.speaks.before; link = t.begin.link; so_far = none_delivered })
      (record { seat = to.says.speaks.after; link = t.end.link; so_far = to.delivered }) to.says.speaks.goes some)

-- ---- what the notes are made of

state_there : (now : ℕ) (o p : Option SeatState) (known then : SeatState) → o ≡ Some known → p ≡ Some then → StateAt now o p
    → StateKept now known then
state_there now o p known then is there s =
    let k = subst (λ (x : Option SeatState). StateAt now x p) is s in
    subst (λ (x : SeatState). StateKept now known x) (same_Some k.0 then (sym k.1 ∙ there)) k.2

-- a seat's state when its turn begins
pub begins_kept : (seat : ℕ) (far : Far) (known : SeatState) (old : Scene) (later : LinkState) → slice_get old.parts.seats.seats seat ≡ Some known
    → (s : IsSpoken seat far old later) → StateKept old.parts.seats.moment known s.speaks.sets_back.known
begins_kept seat far known old later there s =
    state_there old.parts.seats.moment (slice_get old.parts.seats.seats seat)
    (slice_get s.turn.begin.parts.seats.seats seat) known s.speaks.sets_back.known there
    s.speaks.sets_back.there s.turn.kept.seats.state

-- What its notes are made of is as it was before the flush.
pub record IsFilled (seat : ℕ) (far : Far) (known : SeatState) (old : Scene) (later : LinkState) : Type 0 where
  pub spoken : IsSpoken seat far old later
  pub kept : Kept seat old.parts spoken.speaks.speaks.picked
  pub state : StateKept old.parts.seats.moment known spoken.speaks.speaks.fills.known

not_back : (proven greets : Bool) (news : List Span) (seat : ℕ) (a b : Parts) → proven ≡ true → SetsBackTo proven greets news seat a b → b ≡ a
not_back true greets news seat a b e s = s
not_back false greets news seat a b e s = absurd (false≢true e)

-- on a proven channel the cursor isn't set back
pub filled : (seat : ℕ) (far : Far) (known : SeatState) (old : Scene) (later : LinkState)
    → slice_get old.parts.seats.seats seat ≡ Some known → known.proven ≡ true
    → IsSpoken seat far old later → IsFilled seat far known old later
filled seat far known old later there is_proven s =
    let b = s.speaks.sets_back in
    let proven : b.known.proven ≡ true = ap (λ (x : SeatState). x.proven) (begins_kept seat far known old later there s).rest ∙ is_proven in
    let back : s.speaks.back
    ≡ s.turn.begin.parts = not_back b.known.proven s.greets s.turn.speaker.news.ranges seat s.turn.begin.parts s.speaks.back proven b.sets in
    let kept = kept_twice seat old.parts s.speaks.back s.speaks.speaks.picked
    (kept_twice seat old.parts s.turn.begin.parts s.speaks.back s.turn.kept (kept_none seat s.turn.begin.parts s.speaks.back back))
    (picked_kept seat seat s.turn.speaker.order s.speaks.speaks.picks s.speaks.back s.speaks.speaks.picked s.speaks.speaks.are_picked) in
    record {
      spoken = s;
      kept = kept;
      state = state_there old.parts.seats.moment (slice_get old.parts.seats.seats seat)
          (slice_get s.speaks.speaks.picked.seats.seats seat) known s.speaks.speaks.fills.known there
          s.speaks.speaks.fills.there kept.seats.state;
    }

-- ---- on any channel

-- Where the cursor was set back, the seat is as it was else.
pub back_known : (proven greets : Bool) (news : List Span) (seat : ℕ) (a b : Parts) (x y : SeatState) → SetsBackTo proven greets news seat a b
    → slice_get a.seats.seats seat ≡ Some x → slice_get b.seats.seats seat ≡ Some y → y ≡ record x { cursor = y.cursor }
back_known proven greets news seat a b x y s one two = of proven greets news s
  where
    same : b ≡ a → y ≡ record x { cursor = y.cursor }
    same is =
        let e : y ≡ x = same_Some y x (sym two ∙ ap (λ (p : Parts). slice_get p.seats.seats seat) is ∙ one) in
        e ∙ ap (λ (n : ℕ). record x { cursor = n }) (sym (ap (λ (z : SeatState). z.cursor) e))

    moved : (to : ℕ) → Rewinds seat to a.seats b.seats → y ≡ record x { cursor = y.cursor }
    moved to r =
        let e : r.before ≡ x = same_Some r.before x (sym r.there ∙ one) in
        let f : y ≡ r.after = same_Some y r.after (sym two ∙ ap (λ (p : SeatsState). slice_get p.seats seat) r.is
        ∙ get_set_there a.seats.seats seat r.after r.before r.there) in
        let g : y ≡ record x { cursor = min r.before.cursor to } = f ∙ r.exact
        ∙ ap (λ (z : SeatState). record z { cursor = min r.before.cursor to }) e in
        g ∙ ap (λ (n : ℕ). record x { cursor = n }) (sym (ap (λ (z : SeatState). z.cursor) g))

    of : (proven greets : Bool) (news : List Span) → SetsBackTo proven greets news seat a b → y ≡ record x { cursor = y.cursor }
    of true greets news s = same s
    of false true news s = moved 0 s.0
    of false false [] s = same s
    of false false (z ∷ zs) s = moved z.first s.0

first_known : (proven : Bool) (news : List Span) (seat : ℕ) (a b : Parts) (y : SeatState) → proven ≡ false → SetsBackTo proven true news seat a b
    → slice_get b.seats.seats seat ≡ Some y → y.cursor ≡ 0
first_known true news seat a b y e s two = absurd cc
first_known false news seat a b y e s two =
    let r = s.0 in
    let f : y ≡ r.after = same_Some y r.after (sym two ∙ ap (λ (p : SeatsState). slice_get p.seats seat) r.is
    ∙ get_set_there a.seats.seats seat r.after r.before r.there) in
    let g : y.cursor ≡ min r.before.cursor 0 = ap (λ (z : SeatState). z.cursor) (f ∙ r.exact) in
    omega (arith, g)

back_holding : (proven greets : Bool) (news : List Span) (seat : ℕ) (a b : Parts) → SetsBackTo proven greets news seat a b → b.holding ≡ a.holding
back_holding true greets news seat a b s = ap (λ (p : Parts). p.holding) s
back_holding false true news seat a b s = ap (λ (p : Parts). p.holding) s.1
back_holding false false [] seat a b s = ap (λ (p : Parts). p.holding) s
back_holding false false (x ∷ xs) seat a b s = ap (λ (p : Parts). p.holding) s.1

module _ (seat : ℕ) (far : Far) (known : SeatState) (old : Scene) (later : LinkState) (there : slice_get old.parts.seats.seats seat ≡ Some known)
    (s : IsSpoken seat far old later) where
  in_back : slice_get s.speaks.back.seats.seats seat ≡ Some s.speaks.speaks.fills.known
  in_back = ap (λ (p : Parts). slice_get p.seats.seats seat) (sym s.speaks.speaks.are_picked.rest) ∙ s.speaks.speaks.fills.there

  -- what is due of CHOKE and UNCHOKE then
  pub turn_then : (turn : Turn) → due_turn known ≡ Some turn → due_turn s.speaks.speaks.fills.known ≡ Some turn
  turn_then turn due =
      let b = s.speaks.sets_back in
      ap due_turn (back_known b.known.proven s.greets s.turn.speaker.news.ranges seat s.turn.begin.parts s.speaks.back b.known
      s.speaks.speaks.fills.known b.sets b.there in_back)
      ∙ turn_stays old.parts.seats.moment known b.known turn (begins_kept seat far known old later there s) due

  -- all is told behind a handshake on a channel that isn't proven
  pub cursor_first : s.greets ≡ true → known.proven ≡ false → s.speaks.speaks.fills.known.cursor ≡ 0
  cursor_first greets unproven =
      let b = s.speaks.sets_back in
      first_known b.known.proven s.turn.speaker.news.ranges seat s.turn.begin.parts s.speaks.back s.speaks.speaks.fills.known
      (ap (λ (x : SeatState). x.proven) (begins_kept seat far known old later there s).rest ∙ unproven)
      (subst (λ (g : Bool). SetsBackTo b.known.proven g s.turn.speaker.news.ranges seat s.turn.begin.parts s.speaks.back) greets b.sets) in_back

  pub holding_then : s.speaks.speaks.picked.holding ≡ old.parts.holding
  holding_then = ap (λ (p : Parts). p.holding) s.speaks.speaks.are_picked.rest
      ∙ back_holding s.speaks.sets_back.known.proven s.greets s.turn.speaker.news.ranges seat s.turn.begin.parts s.speaks.back
      s.speaks.sets_back.sets ∙ s.turn.kept.holding
