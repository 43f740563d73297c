-- A flush tells of no chunk from a seat's cursor on, on the channel of that seat, unless the link refused a datagram.
use Rattle.std.proofs.Common.{◌≡◌, ◌≢◌, inl, inr, ⊎_elim, ℕ, zero, suc, ◌<◌, ◌≤◌, Bool, true, false, cond, Option, Some, None, List, [], ◌∷◌, refl, sym, ◌∙◌, ap, subst, arith}
use Rattle.std.specs.Prelude.{nat_lt, slice_get, unwrap_or}
use Rattle.std.specs.List.{AllByRecursion, list_any}
use Rattle.std.proofs.lemmas.Bool.{cases_eq, cases_lt}
use Rattle.pp_terms.specs.Count.{HasRisen}
use Rattle.pp_terms.specs.disk.Disk.{DiskState, moment_of}
use Rattle.pp_terms.specs.format.Descriptor.{Descriptor}
use Rattle.pp_terms.specs.format.Messages.{Handshake}
use Rattle.pp_terms.specs.format.Traffic.{Record, Sent, LinkState}
use Rattle.pp_terms.proofs.Risings.{risen_more, risen_less}
use Rattle.pp_traffic.specs.Life.{Life}
use Rattle.pp_promises.specs.OwnSide.{has_in}
use Rattle.pp_outside.specs.Outside.{address_of}
use Rattle.pp_channels.specs.Seats.{Seats, channel_at}
use Rattle.pp_channels.specs.declared.channel.Channel.{Channel}
use Rattle.pp_lives.specs.Fars.{far_of}
use Rattle.pp_lives.specs.Reading.{is_waiting}
use Rattle.pp_lives.specs.Sending.{with_datagram}
use Rattle.pp_lives.specs.Standing.{Stands, StandsAt, Standing}
use Rattle.pp_lives.specs.declared.lives.Far.{Far}
use Rattle.pp_draft.specs.Datagrams.{IsDatagram}
use Rattle.pp_draft.specs.Notes.{own_options}
use Rattle.pp_draft.specs.declared.note.Note.{Note}
use Rattle.pp_draft.specs.declared.note.Note.TheVariants as notes
use Rattle.pp_seat.specs.Seats.{SeatState}
use Rattle.pp_desk.specs.Delivers.{Way, none_delivered}
use Rattle.pp_desk.specs.Steps.{cursor_after}
use Rattle.pp_seats.specs.Sending.{opening_at, way_of, tells_note, with_sent, Speaks}
use Rattle.pp_seats.specs.Standing.{SeatsState, Setting}
use Rattle.pp_seats.proofs.Lists.{get_set_there}
use Rattle.pp_seats.proofs.Outgoing.{far_is}
use Rattle.pp_agenda.proofs.Parts.{all_same, all_turned}
use Rattle.pp_peer.specs.declared.parts.Parts.{Parts}
use Rattle.pp_peer.specs.declared.speaking.Speaker.{Speaker}
use Rattle.pp_peer.specs.Delivering.{IsServedAt}
use Rattle.pp_peer.specs.Flushing.{Scene}
use Rattle.pp_peer.specs.Greeting.{StaysBut, IsGreeted}
use Rattle.pp_peer.specs.Sending.{SendsAll}
use Rattle.pp_peer.specs.Speaking.{SpeaksTo, SpeaksOn, TurnsIf, TurnsTo, TurnsBelow}
use Rattle.pp_peer.specs.Standing.{Beginning, setting, StandsFor}
use Rattle.pp_peer.proofs.Dialled.{IsDialling, all_dialling}
use Rattle.pp_core.specs.Peers.{PeerState}
use Rattle.pp_core.specs.Turning.{scene, Sends}
use Rattle.pp_core.proofs.Kept.{StateAt, Kept, datagram_there}
use Rattle.pp_core.proofs.Lately.{IsAlike, alike_same, alike_twice, alike_waits, written_from}
use Rattle.pp_core.proofs.Leaving.{lives_at}
use Rattle.pp_core.proofs.Passed.{goes_cursor}
use Rattle.pp_core.proofs.Rooms.{slots_alike, goes_risen}
use Rattle.pp_core.proofs.Rounds.{IsStepwise, turns_kept}
use Rattle.pp_core.proofs.Saying.{Stood, all_dialled, deliveries_are}
use Rattle.pp_core.proofs.Turns.{attends_kept, apart_turn, apart_below, back_rest, picked_rest}
use Rattle.pp_core.proofs.Unsaid.{IsNotIn, IsNotRead, GainsNone, none_read, none_said}
use Rattle.pp_core.proofs.Untold.{IsUntold, read_untold, elsewhere_untold, have_test, note_untold, below_after, GainsOnly, only_still, only_both, none_only, one_only, Passes, goes_only, weaker}
use Rattle.pp_core.proofs.Writing.{gained_alike}

-- ---- channels that stay alike

-- Each channel is one that was there, but for what went on it.
abbrev AreAlike : Seats → Seats → Type 0
AreAlike t new = (k : ℕ) (c : Channel) → channel_at new k ≡ Some c → (e : Channel) × (channel_at t k ≡ Some e) × IsAlike e c

are_same : (t new : Seats) → new ≡ t → AreAlike t new
are_same t new same k c there = (c, ap (λ (x : Seats). channel_at x k) (sym same) ∙ there, alike_same c c refl)

are_twice : (a b c : Seats) → AreAlike a b → AreAlike b c → AreAlike a c
are_twice a b c one two k x there =
    let late = two k x there in
    let early = one k late.0 late.1 in
    (early.0, early.1, alike_twice early.0 late.0 x early.2 late.2)

are_on : (t mid new : Seats) → new ≡ mid → AreAlike t mid → AreAlike t new
are_on t mid new same are = subst (λ (x : Seats). AreAlike t x) (sym same) are

written_alike : (t : Seats) (k : ℕ) (opens : Bool) (now : ℕ) → AreAlike t (with_datagram t k opens now)
written_alike t k opens now n c there = ⊎_elim
    (λ (here : n ≡ k).
    let w = written_from t k opens now c (ap (λ (m : ℕ). channel_at (with_datagram t k opens now) m) (sym here) ∙ there) in
    (w.was, ap (λ (m : ℕ). channel_at t m) here ∙ w.there, w.alike))
    (λ (ne : n ≢ k). (c, sym (datagram_there t k n opens now ne) ∙ there, alike_same c c refl))
    (cases_eq n k)

sent_alike : (t : Seats) (k : ℕ) (opens : Bool) (sent now : ℕ) → AreAlike t (with_sent t k opens sent now)
sent_alike t k opens sent now = of (nat_lt 0 sent)
  where
    of : (b : Bool) → AreAlike t (cond b (with_datagram t k opens now) t)
    of true = written_alike t k opens now
    of false = are_same t t refl

-- The swarm stays, and the channels stay alike.
abbrev KeepsChannels : Parts → Parts → Type 0
KeepsChannels p q = (q.seats.descriptor ≡ p.seats.descriptor) × AreAlike p.seats.table q.seats.table

same_channels : (p q : Parts) → q.seats.descriptor ≡ p.seats.descriptor → q.seats.table ≡ p.seats.table → KeepsChannels p q
same_channels p q swarm table = (swarm, are_same p.seats.table q.seats.table table)

greets_channels : (k moment : ℕ) (sent : Bool) (p q : Parts) (link later : LinkState) → IsGreeted k moment sent p q link later → KeepsChannels p q
greets_channels k moment true p q link later g = (
  ap (λ (x : SeatsState). x.descriptor) g.greets.is,
  are_on p.seats.table (with_datagram p.seats.table k true p.seats.moment) q.seats.table (ap (λ (x : SeatsState). x.table) g.greets.is)
      (written_alike p.seats.table k true p.seats.moment),
)
greets_channels k moment false p q link later (inl g) =
    same_channels p q (ap (λ (x : Parts). x.seats.descriptor) g.rest) (ap (λ (x : Parts). x.seats.table) g.rest)
greets_channels k moment false p q link later (inr g) =
    same_channels p q (ap (λ (x : Parts). x.seats.descriptor) g.same) (ap (λ (x : Parts). x.seats.table) g.same)

speaks_channels : (k : ℕ) (far : Far) (greets : Bool) (refused : ℕ) (speaker left : Speaker) (a b : Scene)
    → SpeaksTo (record { seat = k; far = far; greets = greets }) refused speaker left a b → KeepsChannels a.parts b.parts
speaks_channels k far greets refused speaker left a b s = (
  ap (λ (p : Parts). p.seats.descriptor) s.settles.rest ∙ ap (λ (x : SeatsState). x.descriptor) s.says.speaks.is
      ∙ ap (λ (p : Parts). p.seats.descriptor) s.are_picked.rest,
  are_twice a.parts.seats.table s.picked.seats.table b.parts.seats.table
      (are_same a.parts.seats.table s.picked.seats.table (ap (λ (p : Parts). p.seats.table) s.are_picked.rest))
      (are_on s.picked.seats.table (with_sent s.picked.seats.table k _ s.delivered.sent s.picked.seats.moment) b.parts.seats.table
      (ap (λ (p : Parts). p.seats.table) s.settles.rest ∙ ap (λ (x : SeatsState). x.table) s.says.speaks.is)
      (sent_alike s.picked.seats.table k _ s.delivered.sent s.picked.seats.moment)),
)

channels_stay : IsStepwise KeepsChannels
channels_stay = record {
  none = λ p. (refl, are_same p.seats.table p.seats.table refl);
  twice = λ a b c one two. (two.0 ∙ one.0, are_twice a.seats.table b.seats.table c.seats.table one.1 two.1);
  greets = λ seat moment sent old new link later g. greets_channels seat moment sent old new link later g;
  back = λ seat greets news old new s.
      let rest = back_rest seat s.known.proven greets news old new s.sets in
      same_channels old new (ap (λ (x : SeatsState). x.descriptor) rest) (ap (λ (x : SeatsState). x.table) rest);
  speaks = λ seat far greets refused speaker left old new s. speaks_channels seat far greets refused speaker left old new s;
  attends = λ seat turn old new t.
      same_channels old new (ap (λ (p : Parts). p.seats.descriptor) t.keeps.rest) (ap (λ (p : Parts). p.seats.table) t.keeps.rest);
}

-- ---- the other seats

-- The datagrams of the other seats' channels go elsewhere than those of the life.
abbrev GoElsewhere : Life → ℕ → Seats → Type 0
GoElsewhere life n t = (k : ℕ) (e : Channel) → k ≢ n → channel_at t k ≡ Some e → is_waiting e ≡ false
    → (number : ℕ) × (e.remote ≡ Some number) × (0 < number) × (address_of e.address ≡ life.address → number ≡ life.remote → ⊥)

elsewhere_stays : (life : Life) (n : ℕ) (t new : Seats) → AreAlike t new → GoElsewhere life n t → GoElsewhere life n new
elsewhere_stays life n t new are go k e ne there known =
    let w = are k e there in
    let g = go k w.0 ne w.1 (sym (alike_waits w.0 e w.2) ∙ known) in
    (g.0, w.2.remote ∙ g.1, g.2, λ same. g.3 (ap address_of (sym w.2.address) ∙ same))

-- so it is in a peer that stands for what its link carried, on whose seat the life's channel is
stands_elsewhere : (d : Descriptor) (t : Seats) (lives : ℕ → Option Life) (past : List Record) → Standing d t lives past → (n : ℕ) (c : Channel)
    (life : Life) → channel_at t n ≡ Some c → c.remote ≡ Some life.remote → life.address ≡ address_of c.address → GoElsewhere life n t
stands_elsewhere d t lives past standing n c life there remote address k e ne at known =
    let here : StandsAt d (Some e) (lives k) past = subst (λ (o : Option Channel). StandsAt d o (lives k) past) at (standing.seated.each k) in
    let l = lives_at d e (lives k) past here known in
    let s : Stands d e l.0 past = subst (λ (o : Option Life). StandsAt d (Some e) o past) l.1 here in
    let r = s.remote known in (
      l.0.remote,
      r.0,
      r.1,
      λ same number. ne (standing.seated.apart k n e c life.remote at there (r.0 ∙ ap (λ (m : ℕ). Some m) number) remote (same ∙ address)),
    )

-- ---- a seat's turn

module _ (d : Descriptor) (life : Life) (i : ℕ) where
  greeted_only : (k moment : ℕ) (sent : Bool) (p q : Parts) (link later : LinkState) → p.seats.descriptor ≡ d
      → IsGreeted k moment sent p q link later → GainsOnly (IsUntold d life i) link later
  greeted_only k moment true p q link later swarm g =
      let x = g.greets.greeting in
      one_only (IsUntold d life i) moment (address_of x.address) g.greets.bytes link later true g.greets.sends
      (read_untold d life i (Sent moment (address_of x.address) g.greets.bytes)
      (subst (λ (y : Descriptor). IsNotRead y (list_any (has_in i)) (Sent moment (address_of x.address) g.greets.bytes)) swarm
      (none_read p.seats.descriptor (list_any (has_in i)) moment x.number (address_of x.address)
      (Handshake x.source (own_options p.seats.descriptor) ∷ []) g.greets.bytes g.greets.written refl)))
  greeted_only k moment false p q link later swarm (inl g) = only_still (IsUntold d life i) link later g.refuses.traffic
  greeted_only k moment false p q link later swarm (inr g) =
      only_still (IsUntold d life i) link later (ap (λ (l : LinkState). l.traffic) g.link_same)

  module _ (k refused : ℕ) (far : Far) (greets : Bool) (speaker left : Speaker) (a b : Scene) (swarm : a.parts.seats.descriptor ≡ d)
      (s : SpeaksOn (record { seat = k; far = far; greets = greets }) refused speaker left a b) where
    abbrev to : SpeaksTo (record { seat = k; far = far; greets = greets }) refused speaker left (record a { parts = s.back })
        (record b { parts = s.said })
    to = s.speaks

    abbrev sp : Speaks k left.agenda (moment_of a.disk.history) to.delivered to.picked.seats to.said.seats a.link b.link
    sp = to.says.speaks

    abbrev way : Way
    way = way_of to.picked.seats sp.far (moment_of a.disk.history)

    rest : to.picked.seats ≡ record a.parts.seats { seats = to.picked.seats.seats }
    rest = picked_rest k s.sets_back.known.proven greets speaker.news.ranges to.picks speaker.order a.parts s.back to.picked s.sets_back.sets
        to.are_picked

    same_swarm : to.picked.seats.descriptor ≡ d
    same_swarm = ap (λ (x : SeatsState). x.descriptor) rest ∙ swarm

    only_by : (Q : Note → Type 0) → ((source : ℕ) → Q (notes.Handshake source)) → AllByRecursion Q left.agenda
        → Passes (IsUntold d life i) Q way → GainsOnly (IsUntold d life i) a.link b.link
    only_by Q greets_are all passes = goes_only (IsUntold d life i) Q way passes (opening_at to.picked.seats k) left.agenda
        (record { seat = sp.before; link = a.link; so_far = none_delivered })
        (record { seat = sp.after; link = b.link; so_far = to.delivered }) greets_are all sp.goes

    -- what is said elsewhere
    elsewhere_only : (n : ℕ) → k ≢ n → GoElsewhere life n a.parts.seats.table → GainsOnly (IsUntold d life i) a.link b.link
    elsewhere_only n ne go =
        let f = far_is (channel_at to.picked.seats.table k) sp.far sp.is_far in
        let g = go k f.channel ne (ap (λ (x : SeatsState). channel_at x.table k) (sym rest) ∙ f.there) f.known in
        let number : sp.far.number ≡ g.0 = ap (λ (x : Far). x.number) f.is ∙ ap (λ (o : Option ℕ). unwrap_or o 0) g.1 in
        let address : address_of sp.far.address ≡ address_of f.channel.address = ap (λ (x : Far). address_of x.address) f.is in
        only_by (λ x. Unit {0}) (λ source. tt) (all_same (λ x. Unit {0}) left.agenda (λ x. tt))
        (λ ns ms bytes all said written. elsewhere_untold d life i (moment_of a.disk.history) sp.far.number (address_of sp.far.address) ms bytes
        (subst (λ (x : Descriptor). IsDatagram x sp.far.number ms bytes) same_swarm written)
        (let some = g.2 in omega (arith, some, number))
        (λ same is. g.3 (sym address ∙ same) (sym number ∙ is)))

    -- ---- on the channel itself

    none_refused : (HasRisen a.link.faults b.link.faults → ⊥) → to.delivered.refused ≡ 0
    none_refused none = ⊎_elim
        (λ some. absurd (none (goes_risen _ _ left.agenda _ _ sp.goes refl some)))
        (λ (no : to.delivered.refused ≤ 0). omega (arith, no))
        (cases_lt 0 to.delivered.refused)

    said_there : slice_get s.said.seats.seats k ≡ Some sp.after
    said_there = ap (λ (p : Parts). slice_get p.seats.seats k) to.settles.rest ∙ ap (λ (x : SeatsState). slice_get x.seats k) sp.is
        ∙ get_set_there to.picked.seats.seats k sp.after sp.before sp.there

    cursor_then : (HasRisen a.link.faults b.link.faults → ⊥) → sp.after.cursor ≡ cursor_after sp.before.cursor left.agenda
    cursor_then none = goes_cursor (opening_at to.picked.seats k) way left.agenda
        (record { seat = sp.before; link = a.link; so_far = none_delivered })
        (record { seat = sp.after; link = b.link; so_far = to.delivered }) sp.goes refl (none_refused none)

    end_state : (y : SeatState) × (slice_get b.parts.seats.seats k ≡ Some y) × (y.cursor ≡ sp.after.cursor)
    end_state =
        let st = subst (λ (o : Option SeatState). StateAt s.said.seats.moment o (slice_get b.parts.seats.seats k)) said_there
        (attends_kept k k _ s.said b.parts s.attends.attends).seats.state in
        (st.0, st.1, ap (λ (x : SeatState). x.cursor) st.2.rest)

    own_only : (HasRisen a.link.faults b.link.faults → ⊥) → ((y : SeatState) → slice_get b.parts.seats.seats k ≡ Some y → y.cursor ≤ i)
        → GainsOnly (IsUntold d life i) a.link b.link
    own_only none low =
        let x = to.picked.seats.descriptor in
        let end = end_state in
        let below = low end.0 end.1 in
        let same = end.2 in
        let is = cursor_then none in
        only_by (IsNotIn x (list_any (has_in i))) (λ source. note_untold x i (notes.Handshake source) refl)
        (all_turned (λ n. tells_note i n ≡ false) (IsNotIn x (list_any (has_in i))) left.agenda (note_untold x i)
        (below_after i sp.before.cursor left.agenda (omega (arith, below, same, is))))
        (λ ns ms bytes all said written.
        let r = Sent (moment_of a.disk.history) (address_of sp.far.address) bytes in
        read_untold d life i r (subst (λ (y : Descriptor). IsNotRead y (list_any (has_in i)) r) same_swarm
        (none_read x (list_any (has_in i)) (moment_of a.disk.history) sp.far.number (address_of sp.far.address) ms bytes written
        (none_said x (list_any (has_in i)) (have_test x i) ns ms all said))))

  turn_elsewhere : (n k refused : ℕ) (speaker left : Speaker) (a b : Scene) → TurnsTo k refused speaker left a b
      → a.parts.seats.descriptor ≡ d → k ≢ n → GoElsewhere life n a.parts.seats.table → GainsOnly (IsUntold d life i) a.link b.link
  turn_elsewhere n k refused speaker left a b turn swarm ne go = of (far_of (channel_at a.parts.seats.table k)) turn
    where
      of : (o : Option Far) → TurnsIf o k refused speaker left a b → GainsOnly (IsUntold d life i) a.link b.link
      of None g = greeted_only k (moment_of a.disk.history) g.greeted a.parts b.parts a.link b.link swarm g.greets
      of (Some far) (inl silent) = only_still (IsUntold d life i) a.link b.link (ap (λ (l : LinkState). l.traffic) silent.silent.link)
      of (Some far) (inr s) = elsewhere_only k refused far s.0 speaker left a b swarm s.1 n ne go

  turn_own : (k refused : ℕ) (speaker left : Speaker) (a b : Scene) → TurnsTo k refused speaker left a b
      → a.parts.seats.descriptor ≡ d → (HasRisen a.link.faults b.link.faults → ⊥)
      → ((y : SeatState) → slice_get b.parts.seats.seats k ≡ Some y → y.cursor ≤ i) → GainsOnly (IsUntold d life i) a.link b.link
  turn_own k refused speaker left a b turn swarm none low = of (far_of (channel_at a.parts.seats.table k)) turn
    where
      of : (o : Option Far) → TurnsIf o k refused speaker left a b → GainsOnly (IsUntold d life i) a.link b.link
      of None g = greeted_only k (moment_of a.disk.history) g.greeted a.parts b.parts a.link b.link swarm g.greets
      of (Some far) (inl silent) = only_still (IsUntold d life i) a.link b.link (ap (λ (l : LinkState). l.traffic) silent.silent.link)
      of (Some far) (inr s) = own_only k refused far s.0 speaker left a b swarm s.1 none low

  -- ---- all turns

  -- Where the cursor of the seat is below a chunk behind its turn, and the link refused nothing.
  record EndsLow (n m : ℕ) (a b : Scene) : Type 0 where
    none : n < m → HasRisen a.link.faults b.link.faults → ⊥
    low : n < m → (y : SeatState) → slice_get b.parts.seats.seats n ≡ Some y → y.cursor ≤ i

  turns_only : (n m refused : ℕ) (speaker left : Speaker) (a b : Scene) → TurnsBelow m refused speaker left a b → a.parts.seats.descriptor ≡ d
      → GoElsewhere life n a.parts.seats.table → EndsLow n m a b → GainsOnly (IsUntold d life i) a.link b.link
  unfolding TurnsBelow
  turns_only n zero refused speaker left a b turns swarm go ends =
      only_still (IsUntold d life i) a.link b.link (ap (λ (l : LinkState). l.traffic) turns.link)
  turns_only n (suc k) refused speaker left a b turns swarm go ends = ⊎_elim
      (λ (here : k ≡ n). only_both (IsUntold d life i) a.link turns.3.link b.link
      (turns_only n k turns.0 speaker turns.2 a turns.3 turns.4 swarm go
      (record { none = λ lt. absurd (omega (arith, lt, here)); low = λ lt. absurd (omega (arith, lt, here)) }))
      (turn_own k turns.1 turns.2 left turns.3 b turns.5 then.0
      (λ risen. ends.none (omega (arith, here))
      (risen_less a.link.faults turns.3.link.faults b.link.faults
      (apart_below k k turns.0 speaker turns.2 a turns.3 (omega arith) turns.4).grows.faults risen))
      (λ y there. ends.low (omega (arith, here)) y (ap (λ (m : ℕ). slice_get b.parts.seats.seats m) (sym here) ∙ there))))
      (λ (ne : k ≢ n).
      let apart = apart_turn n k turns.1 turns.2 left turns.3 b (λ is. ne (sym is)) turns.5 in
      only_both (IsUntold d life i) a.link turns.3.link b.link
      (turns_only n k turns.0 speaker turns.2 a turns.3 turns.4 swarm go (record {
        none = λ lt risen. ends.none (omega (arith, lt)) (risen_more a.link.faults turns.3.link.faults b.link.faults apart.grows.faults risen);
        low = λ lt y there.
            let st = subst (λ (o : Option SeatState). StateAt turns.3.parts.seats.moment o (slice_get b.parts.seats.seats n)) there
            apart.kept.seats.state in
            let same = ap (λ (x : SeatState). x.cursor) st.2.rest in
            let le = ends.low (omega (arith, lt)) st.0 st.1 in
            omega (arith, same, le);
      }))
      (turn_elsewhere n k turns.1 turns.2 left turns.3 b turns.5 then.0 ne
      (elsewhere_stays life n a.parts.seats.table turns.3.parts.seats.table then.1 go)))
      (cases_eq k n)
    where
      kept : KeepsChannels a.parts turns.3.parts
      kept = turns_kept KeepsChannels channels_stay k turns.0 speaker turns.2 a turns.3 turns.4

      then : (turns.3.parts.seats.descriptor ≡ d) × AreAlike a.parts.seats.table turns.3.parts.seats.table
      then = (kept.0 ∙ swarm, kept.1)

-- ---- a flush

-- On the channel of a life, whose datagrams go where those of no other seat go, no chunk from the seat's cursor on was told of.
pub flush_untold : (refused : ℕ) (old new : PeerState) (link later : LinkState) (disk left : DiskState)
    → (course : Sends refused old new link later disk left) → (b : Beginning) (most : ℕ) (past before : List Record)
    → StandsFor b most old.parts past → link.traffic ≡ Some before → (HasRisen link.faults later.faults → ⊥) → (n i : ℕ) (c : Channel) (life : Life)
    → channel_at old.parts.seats.table n ≡ Some c → c.remote ≡ Some life.remote → life.address ≡ address_of c.address
    → Kept n old.parts course.sends.turned → ((y : SeatState) → slice_get course.sent.seats.seats n ≡ Some y → y.cursor ≤ i)
    → AllByRecursion (IsUntold b.d life i) course.flushes.added
flush_untold refused old new link later disk left course b most past before stands carries none n i c life there remote address kept low =
    subst (λ (rs : List Record). AllByRecursion (IsUntold b.d life i) rs)
    (gained_alike before all.added course.flushes.added link.traffic later.traffic carries all.gained course.flushes.gained) all.all
  where
    s : SendsAll old.dials new.dials old.speaker new.speaker refused (scene old.parts link disk) (scene course.sent later left)
    s = course.sends

    given : StandsFor b most s.given past
    given = s.gives_up.stands b most past (s.drops.stands b most past stands)

    x : Setting
    x = setting b given.known_of

    start : Scene
    start = scene s.given link disk

    begin : Scene
    begin = record s.dialled { parts = s.turned }

    dialling : IsDialling start s.dialled
    dialling = all_dialling old.dials new.dials start s.dials_all.0 s.dialled s.dials_all.1 s.dials_all.2

    dialled : GainsNone b.d (list_any (has_in i)) link s.dialled.link × Stood x most s.dialled
    dialled = all_dialled x most (list_any (has_in i)) (have_test b.d i) old.dials new.dials start s.dialled s.dials_all (past, given.seats)

    table : s.turned.seats.table ≡ s.dialled.parts.seats.table
    table = (slots_alike s.dialled.parts s.turned s.turns).table

    stays : (mark : Bool) × (channel_at s.turned.seats.table n ≡ Some (record c { shadowed = mark }))
    stays = subst (λ (o : Option Channel). StaysBut o (channel_at s.turned.seats.table n)) there kept.seats.channel

    elsewhere : GoElsewhere life n s.turned.seats.table
    elsewhere = subst (λ (t : Seats). GoElsewhere life n t) (sym table)
        (stands_elsewhere b.d s.dialled.parts.seats.table dialled.1.1.lives dialled.1.0 dialled.1.1.standing n (record c { shadowed = stays.0 }) life
        (ap (λ (t : Seats). channel_at t n) (sym table) ∙ stays.1) remote address)

    swarm : s.turned.seats.descriptor ≡ b.d
    swarm = kept.seats.swarm ∙ stands.seats.swarm

    said_low : (y : SeatState) → slice_get s.said.parts.seats.seats n ≡ Some y → y.cursor ≤ i
    said_low y at =
        let st = subst (λ (o : Option SeatState). IsServedAt o (slice_get course.sent.seats.seats n)) at (s.serves.alone.states n) in
        let same = ap (λ (z : SeatState). z.cursor) st.2 in
        let le = low st.0 st.1 in
        omega (arith, same, le)

    said : GainsOnly (IsUntold b.d life i) s.dialled.link s.said.link
    said = turns_only b.d life i n 64 s.unsaid s.speaks.gathered new.speaker begin s.said s.speaks.turns swarm elsewhere (record {
      none = λ lt risen. none (risen_more link.faults s.said.link.faults later.faults s.serves.flushes.later
          (risen_less link.faults s.dialled.link.faults s.said.link.faults dialling.flushes.later risen));
      low = λ lt. said_low;
    })

    said_swarm : s.said.parts.seats.descriptor ≡ b.d
    said_swarm = (turns_kept KeepsChannels channels_stay 64 s.unsaid s.speaks.gathered new.speaker begin s.said s.speaks.turns).0 ∙ swarm

    served : GainsOnly (IsUntold b.d life i) s.said.link later
    served = record {
      added = s.serves.flushes.added;
      gained = s.serves.flushes.gained;
      all = weaker (IsNotRead b.d (list_any (has_in i))) (IsUntold b.d life i) (read_untold b.d life i) s.serves.flushes.added
          (deliveries_are b.d (list_any (has_in i)) (have_test b.d i) s.said.parts.seats said_swarm s.serves.flushes.added
          s.serves.alone.deliveries);
    }

    all : GainsOnly (IsUntold b.d life i) link later
    all = only_both (IsUntold b.d life i) link s.dialled.link later (none_only b.d life i link s.dialled.link dialled.0)
        (only_both (IsUntold b.d life i) s.dialled.link s.said.link later said served)
