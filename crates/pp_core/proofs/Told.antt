-- What a flush tells.
use Rattle.std.proofs.Common.{◌≡◌, ◌⊎◌, inl, inr, ⊎_elim, ℕ, ◌+◌, ◌<◌, ◌≤◌, Bool, true, false, cond, ◌&&◌, ◌||◌, Option, Some, None, List, [], ◌∷◌, length, refl, sym, ◌∙◌, ap, subst, arith}
use Rattle.std.specs.Prelude.{is_some, slice_index_or}
use Rattle.std.specs.List.{AllByRecursion, filter, list_any, slice_get}
use Rattle.std.proofs.lemmas.Bool.{cases_Bool, and_from, or_cases, or_left, or_right, both_ways}
use Rattle.std.proofs.lemmas.Option.{same_Some}
use Rattle.pp_terms.specs.disk.Disk.{moment_of}
use Rattle.pp_terms.specs.format.Descriptor.{Descriptor}
use Rattle.pp_terms.specs.format.Messages.{Handshake}
use Rattle.pp_terms.specs.format.Traffic.{Sent, LinkState, GainsRecords}
use Rattle.pp_terms.specs.tree.Range.{Span, has}
use Rattle.pp_promises.specs.Announced.{acknowledges}
use Rattle.pp_promises.specs.OwnSide.{has_in}
use Rattle.pp_requests.specs.declared.asking.Asking.{Asking}
use Rattle.pp_requests.specs.Moments.{asked_at, entry_of, is_lost}
use Rattle.pp_requests.proofs.Chunks.{asked_some}
use Rattle.pp_outside.specs.Outside.{address_of, is_same}
use Rattle.pp_outside.specs.declared.link.Address.{Address}
use Rattle.pp_pex.specs.Exchange.{answers}
use Rattle.pp_store.specs.Store.{is_committed}
use Rattle.pp_channels.specs.Seats.{channel_at}
use Rattle.pp_channels.specs.Timing.{handshake_due, is_silent}
use Rattle.pp_channels.specs.declared.channel.Channel.{Channel}
use Rattle.pp_holding.specs.Holding.{HoldingState}
use Rattle.pp_lives.specs.declared.lives.Far.{Far}
use Rattle.pp_lives.specs.Fars.{far_of, greeting_of}
use Rattle.pp_lives.specs.Reading.{is_waiting}
use Rattle.pp_lives.specs.declared.lives.Greeting.{Greeting}
use Rattle.pp_lives.proofs.Sent.{same_self}
use Rattle.pp_draft.specs.Datagrams.{IsDatagram}
use Rattle.pp_draft.specs.Notes.{own_options}
use Rattle.pp_draft.specs.declared.note.Note.{Note}
use Rattle.pp_seat.specs.Own.{IsRested}
use Rattle.pp_seat.specs.Seats.{SeatState}
use Rattle.pp_seat.specs.Turns.{due_turn}
use Rattle.pp_seat.specs.declared.service.Turn.TheVariants.{Choke, Unchoke}
use Rattle.pp_seats.specs.Reading.{is_due_at, is_silent_at, opening_of}
use Rattle.pp_seats.specs.Sending.{tells_note, way_of, opening_at}
use Rattle.pp_seats.specs.Standing.{SeatsState}
use Rattle.pp_desk.specs.Delivers.{Goes, none_delivered}
use Rattle.pp_news.specs.News.{has_chunk, of_seat, ranges_of}
use Rattle.pp_news.specs.declared.acknowledgement.Acknowledgement.{Acknowledgement}
use Rattle.pp_news.proofs.Telling.{all_are_acknowledged}
use Rattle.pp_agenda.specs.Agendas.{AreRows}
use Rattle.pp_agenda.specs.Laws.{cancels_note, is_address_request, is_choke, is_unchoke, is_choke_due, is_unchoke_due}
use Rattle.pp_agenda.proofs.Agreeing.{covers_news, covers_rows, cancels_all, never_silent, exchanges_all, chokes_where_due}
use Rattle.pp_peer.specs.declared.dialling.Dial.{Dial}
use Rattle.pp_peer.specs.declared.parts.Parts.{Parts}
use Rattle.pp_peer.specs.declared.speaking.Speaker.{Speaker}
use Rattle.pp_peer.specs.declared.supporting.Supports.{Supports}
use Rattle.pp_peer.specs.Flushing.{Scene}
use Rattle.pp_peer.specs.Greeting.{StaysBut, IsSpent, IsGreeted}
use Rattle.pp_peer.specs.Sending.{SendsAll}
use Rattle.pp_peer.specs.Speaking.{is_taken, SpeaksTo, TurnsIf}
use Rattle.pp_core.specs.Telling.{Tells, end_of, IsTold, HasOne, IsLasting, HasPeer, IsProven, is_new_from, Acknowledges, TellsChunk, TellsFrom, Announces, BeginsWith, Greets, cancels, Cancels, brings, asks_addresses, Exchanges, chokes, unchokes, TakesTurns}
use Rattle.pp_core.proofs.Delivered.{opens_reach, said_one, acks_note, brings_note, ack_says, have_says, cancel_says, address_says, question_says, choke_says, unchoke_says, acked_notes, addressed_notes}
use Rattle.pp_core.proofs.Kept.{turn_stays}
use Rattle.pp_core.proofs.Spoken.{is_heard, heard_at, SeatTurn, seat_turn, IsSpoken, marked_due, spoken, seats_rest, turn_reaches, notes_reach, IsFilled, filled, turn_then, cursor_first, holding_then}
use Rattle.pp_core.proofs.Links.{Reached, reached_amid}

when : (b : Bool) (xs ys : List Acknowledgement) → b ≡ true → cond b xs ys ≡ xs
when true xs ys e = refl
when false xs ys e = absurd cc

when_addresses : (b : Bool) (xs ys : List Address) → b ≡ true → cond b xs ys ≡ xs
when_addresses true xs ys e = refl
when_addresses false xs ys e = absurd cc

-- what holds of each address that is in a list holds of all of them
all_in : (P : Address → Type 0) (xs : List Address) → ((a : Address) → list_any (λ b. is_same b a) xs ≡ true → P a) → AllByRecursion P xs
all_in P [] each = tt
all_in P (x ∷ xs) each = (
  each x (or_left (is_same x x) (list_any (λ b. is_same b x) xs) (same_self (address_of x))),
  all_in P xs (λ a at. each a (or_right (is_same x a) (list_any (λ b. is_same b a) xs) at)),
)

silent_stays : (now : ℕ) (o p : Option Channel) → StaysBut o p → is_silent_at now p ≡ is_silent_at now o
silent_stays now None p s = ap (is_silent_at now) s
silent_stays now (Some c) p s = ap (is_silent_at now) s.1

any_note : (notes : List Note) → 0 < length notes → list_any (λ n. true) notes ≡ true
any_note [] some = absurd (omega (arith, some))
any_note (n ∷ notes) some = refl

-- ---- chunks that are told of

have_reaches : (seat : ℕ) (c : Channel) (old : Scene) (later : LinkState) (s : IsSpoken seat (end_of c) old later) (i : ℕ)
    → list_any (tells_note i) s.turn.left.agenda ≡ true
    → TellsChunk c i old later
have_reaches seat c old later s i some = notes_reach seat (end_of c) old later s (HasOne (has_in i)) (tells_note i)
    (said_one s.speaks.speaks.picked.seats.descriptor (tells_note i) (has_in i) (have_says s.speaks.speaks.picked.seats.descriptor i)) some

rows_reach : (seat : ℕ) (c : Channel) (old : Scene) (later : LinkState) (s : IsSpoken seat (end_of c) old later) (from : ℕ)
    → s.speaks.speaks.fills.known.cursor ≡ from
    → s.speaks.speaks.fills.due.tells ≡ true → s.speaks.speaks.fills.due.committed.now ≡ old.parts.holding.store.committed
    → TellsFrom from c old later
rows_reach seat c old later s from cursor tells committed =
    let f = s.speaks.speaks.fills in
    ⊎_elim
    (λ all. inl (λ i low is.
    have_reaches seat c old later s i (all i (subst (λ (n : ℕ). n ≤ i) (sym cursor) low)
    (ap (λ (xs : List Bool). slice_index_or xs i false) committed ∙ is))))
    (λ next. inr (
      next.0,
      next.1,
      subst (λ (xs : List Bool). AreRows from xs 64 next.0) committed (subst (λ (n : ℕ). AreRows n f.due.committed.now 64 next.0) cursor next.2),
      λ i at. have_reaches seat c old later s i (next.3 i at),
    ))
    (covers_rows f.known f.due s.turn.left.agenda f.agenda tells)

-- ---- on a proven channel

module _ (seat : ℕ) (c : Channel) (known : SeatState) (old : Scene) (later : LinkState) (is_proven : known.proven ≡ true)
    (f : IsFilled seat (end_of c) known old later) where
  abbrev s : IsSpoken seat (end_of c) old later
  s = f.spoken

  abbrev to : SpeaksTo (record { seat = seat; far = end_of c; greets = s.greets }) s.turn.refused s.turn.speaker s.turn.left
      (record s.turn.begin { parts = s.speaks.back })
      (record s.turn.end { parts = s.speaks.said })
  to = s.speaks.speaks

  proven : to.fills.known.proven ≡ true
  proven = ap (λ (x : SeatState). x.proven) f.state.rest ∙ is_proven

  tells : to.fills.due.tells ≡ true
  tells = to.fills.tells ∙ or_left to.fills.known.proven s.greets proven

  cursor : to.fills.known.cursor ≡ known.cursor
  cursor = ap (λ (x : SeatState). x.cursor) f.state.rest

  committed : to.fills.due.committed.now ≡ old.parts.holding.store.committed
  committed = to.fills.committed ∙ ap (λ (h : HoldingState). h.store.committed) f.kept.holding

  -- what came is acknowledged
  pub acks : (i : ℕ) → is_new_from seat i old.parts ≡ true → IsTold c (HasOne (acknowledges i)) old later
  acks i is = notes_reach seat (end_of c) old later s (HasOne (acknowledges i)) (acks_note i)
      (said_one to.picked.seats.descriptor (acks_note i) (acknowledges i) (ack_says to.picked.seats.descriptor i))
      (acked_notes i s.turn.left.agenda
      ∙ ap (λ (xs : List Acknowledgement). has (ranges_of xs) i)
      ((exchanges_all to.fills.known to.fills.due s.turn.left.agenda to.fills.agenda).acknowledges
      ∙ when to.fills.known.proven to.fills.due.acknowledgements.now [] proven)
      ∙ all_are_acknowledged to.picked.holding.store.committed (of_seat seat to.picked.holding.queue.tickets)
      (of_seat seat to.picked.holding.queue.repeats)
      to.fills.due.acknowledgements.now to.fills.acknowledgements i
      (or_cases (has_chunk (of_seat seat to.picked.holding.queue.tickets) i) (has_chunk (of_seat seat to.picked.holding.queue.repeats) i)
      (ap (λ (h : HoldingState). has_chunk (of_seat seat h.queue.tickets) i || has_chunk (of_seat seat h.queue.repeats) i) f.kept.holding ∙ is)))

  -- what was committed is told of
  pub news : (i : ℕ) → has_chunk old.parts.holding.queue.tickets i ≡ true → i < known.cursor → TellsChunk c i old later
  news i is low = have_reaches seat c old later s i (covers_news to.fills.known to.fills.due s.turn.left.agenda to.fills.agenda proven tells i
      (ap (λ (xs : List Span). has xs i) to.fills.news ∙ s.turn.ranges.same i ∙ is) (subst (λ (n : ℕ). i < n) (sym cursor) low))

  pub rows : TellsFrom known.cursor c old later
  rows = rows_reach seat c old later s known.cursor cursor tells committed

  -- something goes where a datagram is due
  pub goes_any : channel_at old.parts.seats.table seat ≡ Some c
      → (is_silent old.parts.seats.moment c ≡ true) ⊎ (slice_index_or old.parts.to_prove seat false ≡ true)
      → IsTold c (λ messages. Unit {0}) old later
  goes_any there due = notes_reach seat (end_of c) old later s (λ messages. Unit {0}) (λ n. true) (λ notes ms some said. tt)
      (any_note s.turn.left.agenda (never_silent to.fills.known to.fills.due s.turn.left.agenda to.fills.agenda (inl tells)
      (to.fills.silent ∙ ⊎_elim
      (λ silent. or_right (slice_index_or to.picked.to_prove seat false) (is_silent_at to.picked.seats.moment (channel_at to.picked.seats.table seat))
      (silent_stays to.picked.seats.moment (channel_at old.parts.seats.table seat) (channel_at to.picked.seats.table seat) f.kept.seats.channel
      ∙ ap (λ (n : ℕ). is_silent_at n (channel_at old.parts.seats.table seat)) f.kept.seats.moment
      ∙ ap (is_silent_at old.parts.seats.moment) there ∙ silent))
      (λ prove. or_left (slice_index_or to.picked.to_prove seat false) (is_silent_at to.picked.seats.moment (channel_at to.picked.seats.table seat))
      (f.kept.proof ∙ prove))
      due)))

  -- what isn't awaited any more is cancelled
  pub drops : (i : ℕ) (request : Asking) → entry_of known.own i ≡ Some request → old.parts.seats.moment < request.moment + 10_000_000
      → is_lost request ≡ false → is_committed old.parts.holding.store i ≡ true
      → IsTold c (HasOne (cancels i)) old later
  drops i request was lately kept is = notes_reach seat (end_of c) old later s (HasOne (cancels i)) (cancels_note i)
      (said_one to.picked.seats.descriptor (cancels_note i) (cancels i) (cancel_says to.picked.seats.descriptor i))
      (cancels_all to.fills.known to.fills.due s.turn.left.agenda to.fills.agenda i
      ∙ and_from to.fills.known.proven (is_some (asked_at to.fills.known.own i) && slice_index_or to.fills.due.committed.now i false) proven
      (and_from (is_some (asked_at to.fills.known.own i)) (slice_index_or to.fills.due.committed.now i false)
      (asked_some to.fills.known.own i ∙ ap (λ (o : Option Asking). is_some o) (still (f.state.own i)))
      (ap (λ (xs : List Bool). slice_index_or xs i false) committed ∙ is)))
    where
      still : (entry_of to.fills.known.own i ≡ entry_of known.own i) ⊎ IsSpent old.parts.seats.moment (entry_of known.own i)
          → entry_of to.fills.known.own i ≡ Some request
      still (inl same) = same ∙ was
      still (inr gone) = ⊎_elim
          (λ late. absurd (omega (arith, late, lately)))
          (λ lost. absurd (both_ways (is_lost request) kept lost))
          (subst (λ (o : Option Asking). IsSpent old.parts.seats.moment o) was gone)

  -- addresses are told, and asked for
  told_addresses : (takes : Supports) → slice_get old.parts.supports seat ≡ Some takes → slice_index_or old.parts.questions seat false ≡ true
      → IsRested known.answer old.parts.seats.moment 10_000_000
      → to.fills.due.addresses.now ≡ filter (is_taken takes.v6) (answers old.parts.pex.table c.address old.parts.seats.moment)
  told_addresses takes has asked rested =
      let a = to.fills.addresses in
      let takes_is : a.takes ≡ takes = same_Some a.takes takes (sym a.supports ∙ ap (λ xs. slice_get xs seat) f.kept.supports ∙ has) in
      let same : a.known ≡ to.fills.known = same_Some a.known to.fills.known (sym a.there ∙ to.fills.there) in
      let answer : a.known.answer ≡ known.answer = ap (λ (x : SeatState). x.answer) same ∙ ap (λ (x : SeatState). x.answer) f.state.rest in
      a.asked (f.kept.question ∙ asked)
      (subst (λ (n : ℕ). IsRested a.known.answer n 10_000_000) (sym f.kept.seats.moment)
      (subst (λ (o : Option ℕ). IsRested o old.parts.seats.moment 10_000_000) (sym answer) rested))
      ∙ ap (λ (x : Supports). filter (is_taken x.v6) (answers to.picked.pex.table c.address to.picked.seats.moment)) takes_is
      ∙ ap (λ table. filter (is_taken takes.v6) (answers table c.address to.picked.seats.moment)) f.kept.table
      ∙ ap (λ (n : ℕ). filter (is_taken takes.v6) (answers old.parts.pex.table c.address n)) f.kept.seats.moment

  pub tells_all : (takes : Supports) → slice_get old.parts.supports seat ≡ Some takes → slice_index_or old.parts.questions seat false ≡ true
      → IsRested known.answer old.parts.seats.moment 10_000_000
      → AllByRecursion (λ a. IsTold c (HasOne (brings a)) old later)
      (filter (is_taken takes.v6) (answers old.parts.pex.table c.address old.parts.seats.moment))
  tells_all takes has asked rested = all_in (λ a. IsTold c (HasOne (brings a)) old later)
      (filter (is_taken takes.v6) (answers old.parts.pex.table c.address old.parts.seats.moment))
      (λ a at. notes_reach seat (end_of c) old later s (HasOne (brings a)) (brings_note a)
      (said_one to.picked.seats.descriptor (brings_note a) (brings a) (address_says to.picked.seats.descriptor a))
      (addressed_notes a s.turn.left.agenda
      ∙ ap (λ (xs : List Address). list_any (λ b. is_same b a) xs)
      ((exchanges_all to.fills.known to.fills.due s.turn.left.agenda to.fills.agenda).tells_addresses
      ∙ when_addresses to.fills.known.proven to.fills.due.addresses.now [] proven
      ∙ told_addresses takes has asked rested)
      ∙ at))

  pub asks_some : (takes : Supports) → slice_get old.parts.supports seat ≡ Some takes → takes.requests ≡ true → is_some old.parts.fetching ≡ true
      → IsRested known.question old.parts.seats.moment 60_000_000 → IsTold c (HasOne asks_addresses) old later
  asks_some takes has requests fetches rested = notes_reach seat (end_of c) old later s (HasOne asks_addresses) is_address_request
      (said_one to.picked.seats.descriptor is_address_request asks_addresses (question_says to.picked.seats.descriptor))
      ((exchanges_all to.fills.known to.fills.due s.turn.left.agenda to.fills.agenda).asks_addresses
      ∙ and_from to.fills.known.proven to.fills.due.asks_addresses proven
      (to.fills.asks (subst (λ (n : ℕ). IsRested to.fills.known.question n 60_000_000) (sym f.kept.seats.moment)
      (subst (λ (o : Option ℕ). IsRested o old.parts.seats.moment 60_000_000) (sym (ap (λ (x : SeatState). x.question) f.state.rest)) rested))
      ∙ and_from (is_some to.picked.fetching) to.fills.takes.requests (f.kept.fetches ∙ fetches)
      (ap (λ (x : Supports). x.requests) (same_Some to.fills.takes takes
      (sym to.fills.supports ∙ ap (λ xs. slice_get xs seat) f.kept.supports ∙ has)) ∙ requests)))

  pub unchoked : due_turn known ≡ Some Unchoke → IsTold c (HasOne unchokes) old later
  unchoked due = notes_reach seat (end_of c) old later s (HasOne unchokes) is_unchoke
      (said_one to.picked.seats.descriptor is_unchoke unchokes (unchoke_says to.picked.seats.descriptor))
      ((chokes_where_due to.fills.known to.fills.due s.turn.left.agenda to.fills.agenda).unchokes
      ∙ and_from to.fills.known.proven (is_unchoke_due (due_turn to.fills.known)) proven
      (ap is_unchoke_due (turn_stays old.parts.seats.moment known to.fills.known Unchoke f.state due)))

-- ---- handshakes

greets_spoken : (seat : ℕ) (c : Channel) (old : Scene) (later : LinkState) → channel_at old.parts.seats.table seat ≡ Some c
    → handshake_due old.parts.seats.moment c ≡ true → IsSpoken seat (end_of c) old later
    → IsTold c (BeginsWith old.parts.seats.descriptor c.local) old later
greets_spoken seat c old later there due s =
    let to = s.speaks.speaks in
    let sp = to.says.speaks in
    let is = marked_due seat old.parts s.turn.begin.parts c s.turn.kept there due in
    let rest = seats_rest seat (end_of c) old later s in
    let opening : opening_at to.picked.seats seat ≡ Some c.local = ap
    (λ (x : SeatsState). opening_of x.moment (channel_at x.table seat)) rest ∙ is.1 in
    let swarm : to.picked.seats.descriptor ≡ old.parts.seats.descriptor = ap (λ (x : SeatsState). x.descriptor) rest ∙ s.turn.kept.seats.swarm in
    turn_reaches seat (end_of c) old later s (BeginsWith old.parts.seats.descriptor c.local)
    (subst (λ (d : Descriptor). Reached to.picked.seats.descriptor sp.far (BeginsWith d c.local) s.turn.begin.link s.turn.end.link) swarm
    (opens_reach to.picked.seats.descriptor sp.far (moment_of s.turn.begin.disk.history) to.picked.seats.moment c.local s.turn.left.agenda
    (record { seat = sp.before; link = s.turn.begin.link; so_far = none_delivered })
    (record { seat = sp.after; link = s.turn.end.link; so_far = to.delivered })
    (subst (λ (o : Option ℕ). Goes o (way_of to.picked.seats sp.far (moment_of s.turn.begin.disk.history)) s.turn.left.agenda
    (record { seat = sp.before; link = s.turn.begin.link; so_far = none_delivered })
    (record { seat = sp.after; link = s.turn.end.link; so_far = to.delivered })) opening sp.goes)))

-- the handshake alone
alone_tells : (d : Descriptor) (c : Channel) (moment : ℕ) (bytes : List ℕ) (link later : LinkState) (g : Greeting)
    → g ≡ record { source = c.local; address = c.address; number = (end_of c).number }
    → IsDatagram d g.number (Handshake g.source (own_options d) ∷ []) bytes
    → GainsRecords link.traffic (Sent moment (address_of g.address) bytes ∷ []) later.traffic → Tells d (end_of c) (BeginsWith d c.local) link later
alone_tells d c moment bytes link later g is written gained = record {
  messages = Handshake c.local (own_options d) ∷ [];
  bytes = bytes;
  written = subst (λ (x : Greeting). IsDatagram d x.number (Handshake x.source (own_options d) ∷ []) bytes) is written;
  holds = ([], refl);
  moment = moment;
  newer = [];
  older = [];
  gained = subst (λ (x : Greeting). GainsRecords link.traffic (Sent moment (address_of x.address) bytes ∷ []) later.traffic) is gained;
}

alone_reaches : (seat moment : ℕ) (c : Channel) (sent : Bool) (old new : Parts) (link later : LinkState)
    → is_due_at old.seats.moment (channel_at old.seats.table seat) ≡ true
    → StaysBut (Some c) (channel_at old.seats.table seat) → IsGreeted seat moment sent old new link later
    → Reached old.seats.descriptor (end_of c) (BeginsWith old.seats.descriptor c.local) link later
alone_reaches seat moment c true old new link later due m g =
    let is = same_Some g.greets.greeting (record { source = c.local; address = c.address; number = (end_of c).number })
    (sym g.greets.is_greeting ∙ ap greeting_of m.1) in
    inl (alone_tells old.seats.descriptor c moment g.greets.bytes link later g.greets.greeting is g.greets.written g.greets.sends.outcome)
alone_reaches seat moment c false old new link later due m (inl g) = inr g.refuses.risen
alone_reaches seat moment c false old new link later due m (inr g) = absurd
    (both_ways (is_due_at old.seats.moment (channel_at old.seats.table seat)) g.idle due)

waits_none : (b : Bool) (far : Far) → b ≡ true → cond b None (Some far) ≡ None
waits_none true far e = refl
waits_none false far e = absurd cc

greets_alone : (seat : ℕ) (c : Channel) (old : Scene) (later : LinkState) → channel_at old.parts.seats.table seat ≡ Some c
    → handshake_due old.parts.seats.moment c ≡ true → is_waiting c ≡ true → SeatTurn seat old later
    → IsTold c (BeginsWith old.parts.seats.descriptor c.local) old later
greets_alone seat c old later there due waits t =
    let m = subst (λ (o : Option Channel). StaysBut o (channel_at t.begin.parts.seats.table seat)) there t.kept.seats.channel in
    let none : far_of (channel_at t.begin.parts.seats.table seat) ≡ None = ap far_of m.1 ∙ waits_none (is_waiting c) _ waits in
    let g = subst (λ (o : Option Far). TurnsIf o seat t.refused t.speaker t.left t.begin t.end) none t.turn in
    reached_amid old.parts.seats.descriptor (end_of c) (BeginsWith old.parts.seats.descriptor c.local) old.link t.begin.link t.end.link later t.before
    (subst (λ (d : Descriptor). Reached d (end_of c) (BeginsWith d c.local) t.begin.link t.end.link) t.kept.seats.swarm
    (alone_reaches seat (moment_of t.begin.disk.history) c g.greeted t.begin.parts t.end.parts t.begin.link t.end.link
    (marked_due seat old.parts t.begin.parts c t.kept there due).0 m g.greets)) t.behind

-- ---- the laws of a flush

module _ (dials lefts : List Dial) (speaker left : Speaker) (refused : ℕ) (old new : Scene)
    (s : SendsAll dials lefts speaker left refused old new) where
  abbrev turn_of : (seat : ℕ) (c : Channel) → IsLasting seat c old.parts → SeatTurn seat old new.link
  turn_of seat c h = seat_turn seat c dials lefts speaker left refused old new h s

  abbrev speak : (seat : ℕ) (c : Channel) → HasPeer seat c old.parts → IsSpoken seat (end_of c) old new.link
  speak seat c h = spoken seat c (end_of c) old new.link (is_heard seat c old.parts h) h.begun (turn_of seat c h.lasting)

  abbrev fill : (seat : ℕ) (c : Channel) → (h : IsProven seat c old.parts) → IsFilled seat (end_of c) h.peer.known old new.link
  fill seat c h = filled seat (end_of c) h.peer.known old new.link h.peer.messages h.proven (speak seat c h.peer)

  pub acknowledged : Acknowledges old new.link
  acknowledged seat i c h is = acks seat c h.peer.known old new.link h.proven (fill seat c h) i is

  first_rows : (seat : ℕ) (c : Channel) → (h : HasPeer seat c old.parts) → handshake_due old.parts.seats.moment c ≡ true → h.known.proven ≡ false
      → TellsFrom 0 c old new.link
  first_rows seat c h due unproven =
      let sp = speak seat c h in
      let greets : sp.greets ≡ true = sp.speaks.due ∙ (marked_due seat old.parts sp.turn.begin.parts c sp.turn.kept h.lasting.there due).0 in
      rows_reach seat c old new.link sp 0 (cursor_first seat (end_of c) h.known old new.link h.messages sp greets unproven)
      (sp.speaks.speaks.fills.tells ∙ or_right sp.speaks.speaks.fills.known.proven sp.greets greets)
      (sp.speaks.speaks.fills.committed ∙ ap (λ (x : HoldingState). x.store.committed)
      (holding_then seat (end_of c) h.known old new.link h.messages sp))

  pub announced : Announces old new.link
  announced = record {
    news = λ seat i c h is low. news seat c h.peer.known old new.link h.proven (fill seat c h) i is low;
    rest = λ seat c h. rows seat c h.peer.known old new.link h.proven (fill seat c h);
    first = first_rows;
  }

  greets_due : (seat : ℕ) (c : Channel) → IsLasting seat c old.parts → handshake_due old.parts.seats.moment c ≡ true
      → IsTold c (BeginsWith old.parts.seats.descriptor c.local) old new.link
  greets_due seat c h due = ⊎_elim
      (λ (waits : is_waiting c ≡ true). greets_alone seat c old new.link h.there due waits (turn_of seat c h))
      (λ (known : is_waiting c ≡ false). greets_spoken seat c old new.link h.there due
      (spoken seat c (end_of c) old new.link (heard_at seat c old.parts h known) (inr due) (turn_of seat c h)))
      (cases_Bool (is_waiting c))

  pub greeted : Greets old new.link
  greeted = record {
    due = greets_due;
    silent = λ seat c h due. goes_any seat c h.peer.known old new.link h.proven (fill seat c h) h.peer.lasting.there due;
  }

  pub cancelled : Cancels old new.link
  cancelled seat i asked c h was lately is = drops seat c h.peer.known old new.link h.proven (fill seat c h) i asked was lately is

  pub exchanged : Exchanges old new.link
  exchanged = record {
    answers_all = λ seat c takes h has asked rested. tells_all seat c h.peer.known old new.link h.proven (fill seat c h) takes has asked rested;
    asks = λ seat c takes h has requests fetches rested. asks_some seat c h.peer.known old new.link h.proven
        (fill seat c h) takes has requests fetches rested;
  }

  choke_goes : (seat : ℕ) (c : Channel) → (h : HasPeer seat c old.parts) → due_turn h.known ≡ Some Choke → IsTold c (HasOne chokes) old new.link
  choke_goes seat c h due =
      let sp = speak seat c h in
      let f = sp.speaks.speaks.fills in
      notes_reach seat (end_of c) old new.link sp (HasOne chokes) is_choke
      (said_one sp.speaks.speaks.picked.seats.descriptor is_choke chokes (choke_says sp.speaks.speaks.picked.seats.descriptor))
      ((chokes_where_due f.known f.due sp.turn.left.agenda f.agenda).chokes
      ∙ ap is_choke_due (turn_then seat (end_of c) h.known old new.link h.messages sp Choke due))

  pub turned : TakesTurns old new.link
  turned = record {
    chokes_due = choke_goes;
    unchokes_due = λ seat c h due. unchoked seat c h.peer.known old new.link h.proven (fill seat c h) due;
  }
