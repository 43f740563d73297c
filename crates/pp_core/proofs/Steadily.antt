-- Along a path all stays of the content: each message keeps of how many chunks a seat is, and each put of what content the store is.
use Rattle.std.proofs.Common.{◌≡◌, ◌⊎◌, inl, inr, ⊎_elim, ℕ, ◌<◌, Bool, true, false, Option, List, refl, sym, ◌∙◌, ap, subst, Some, None}
use Rattle.std.specs.Prelude.{slice_get, IfSome}
use Rattle.std.proofs.lemmas.Bool.{cases_Bool}
use Rattle.std.proofs.lemmas.Option.{same_Some}
use Rattle.pp_terms.specs.format.Descriptor.{Descriptor, chunks_of, IsDescriptor}
use Rattle.pp_terms.specs.format.Traffic.{Record}
use Rattle.pp_outside.specs.Arrivals.{IsEvent}
use Rattle.pp_outside.specs.Outside.{record_of}
use Rattle.pp_paths.specs.Judge.{KeepsEntries}
use Rattle.pp_complete.specs.Shipped.{StoresShipped}
use Rattle.pp_store.specs.Store.{is_held}
use Rattle.pp_peer.specs.Standing.{Beginning, StandsFor}
use Rattle.pp_core.specs.Storing.{StoresWhatFits, StoresIn, CommitsTold}
use Rattle.pp_terms.specs.format.Messages.{Message, Data, Ack, Have, Integrity, Request, Cancel, Choke, Unchoke}
use Rattle.pp_terms.specs.tree.Book.{IsRooted}
use Rattle.pp_terms.specs.tree.Range.{Span}
use Rattle.pp_tree.specs.Book.{entry}
use Rattle.pp_counts.specs.declared.note.Note.{Note}
use Rattle.pp_outside.specs.declared.link.Address.{Address}
use Rattle.pp_outside.specs.declared.link.Event.{Event}
use Rattle.pp_outside.specs.declared.link.Event.TheVariants as events
use Rattle.pp_lives.specs.declared.arriving.Arrival.{Arrival}
use Rattle.pp_lives.specs.declared.arriving.Arrival.TheVariants as arrivals
use Rattle.pp_holding.specs.Holding.{HoldingState, AreTied}
use Rattle.pp_plan.specs.Told.{ToldNodes}
use Rattle.pp_seat.specs.Lines.{inside}
use Rattle.pp_seat.specs.Seats.{SeatState}
use Rattle.pp_desk.specs.Hearing.{HearsPart, HearsAck, HearsHave, HearsIntegrity, HearsRequest, HearsCancel, Hears}
use Rattle.pp_seats.specs.Hearing.{Begins, IsShown, BeginsShown, IsAnswered, Prepares}
use Rattle.pp_seats.specs.Standing.{SeatsState, AllHold}
use Rattle.pp_peer.specs.declared.parts.Parts.{Parts}
use Rattle.pp_peer.specs.Messages.{TakesData, TakesOther, Does}
use Rattle.pp_peer.specs.Events.{with_channel, with_seated, HearsArrival, TakesEvent}
use Rattle.pp_core.specs.Paths.{path_heard, path_of}
use Rattle.pp_core.proofs.Paths.{seat_after, heeded_beside, data_or_other}
use Rattle.pp_core.proofs.Storing.{proven_same, does_keep}
use Rattle.pp_core.proofs.Claiming.{HasRoom, data_seats}
use Rattle.pp_core.proofs.Proven.{JudgesRooted, Steady, IsOfContent, EachSteady, each_steady}
use Rattle.pp_core.proofs.Promised.{first_room, shown_room, begun_room, TakesSteadily, event_proved}
use Rattle.pp_core.proofs.Shipping.{event_shipped}

-- ---- what is heard on a seat

-- of a message of a span only what lies in the content counts
part_told : (span : Span) (hears : Span → Type 0) (noted : Option Note) (old new : SeatState) → HearsPart span hears noted old new
    → ((range : Span) → hears range → new.told ≡ old.told ⊎ (new.told.chunks ≡ old.told.chunks)) → new.told.chunks ≡ old.told.chunks
part_told span hears noted old new h each = by (inside old.told.chunks span) refl
  where
    by : (o : Option Span) → inside old.told.chunks span ≡ o → new.told.chunks ≡ old.told.chunks
    by None e = ap (λ (s : SeatState). s.told.chunks) (h.outside e).1
    by (Some range) e = ⊎_elim (λ same. ap (λ (t : ToldNodes). t.chunks) same) (λ same. same) (each range (h.part range e))

request_told : (range : Span) (noted : Option Note) (old new : SeatState) → HearsRequest range noted old new → new.told ≡ old.told
request_told range noted old new h = ⊎_elim
    (λ slot. ⊎_elim (λ is. ap (λ (s : SeatState). s.told) is.rest) (λ full. ap (λ (s : SeatState). s.told) full.same) (h.slot slot))
    (λ none. ap (λ (s : SeatState). s.told) (h.choked none).1)
    (cases_Bool old.slot)

integrity_told : (range : Span) (digest : List ℕ) (noted : Option Note) (old new : SeatState) → HearsIntegrity range digest noted old new
    → new.told ≡ old.told
integrity_told range digest noted old new h = ⊎_elim
    (λ proven. ⊎_elim (λ is. ap (λ (s : SeatState). s.told) is.exact) (λ none. ap (λ (s : SeatState). s.told) none.same) (h.proven proven))
    (λ unproven. ap (λ (s : SeatState). s.told) (h.unproven unproven).1)
    (cases_Bool old.proven)

module _ (d : Descriptor) where
  told : (moment : ℕ) (m : Message) (noted : Option Note) (old new : SeatState) → Hears moment m noted old new
      → new.told.chunks ≡ old.told.chunks
  told moment (Data chunk sent_at bytes) noted old new h = absurd h
  told moment (Ack span delay) noted old new h =
      part_told span (λ range. HearsAck range delay moment noted old new) noted old new h
      (λ range here. inr here.room)
  told moment (Have span) noted old new h =
      part_told span (λ range. HearsHave range noted old new) noted old new h (λ range here. inr here.room)
  told moment (Integrity span digest) noted old new h =
      part_told span (λ range. HearsIntegrity range digest noted old new) noted old new h
      (λ range here. inl (integrity_told range digest noted old new here))
  told moment (Request span) noted old new h =
      part_told span (λ range. HearsRequest range noted old new) noted old new h (λ range here. inl (request_told range noted old new here))
  told moment (Cancel span) noted old new h =
      part_told span (λ range. HearsCancel range noted old new) noted old new h
      (λ range here. inl (ap (λ (s : SeatState). s.told) here.exact))
  told moment Choke noted old new h = ap (λ (s : SeatState). s.told.chunks) h.1
  told moment Unchoke noted old new h = ap (λ (s : SeatState). s.told.chunks) h.1
  told moment m noted old new h = ap (λ (s : SeatState). s.told.chunks) h.1

  -- ---- one message

  data_room : (seat chunk sent_at : ℕ) (bytes : List ℕ) (old new : Parts) → TakesData seat chunk sent_at bytes old new
      → HasRoom seat (chunks_of d) old → HasRoom seat (chunks_of d) new
  data_room seat chunk sent_at bytes old new takes has = record {
    room = λ s there.
        let answered = takes.ends.answered in
        let here = same_Some answered.after s (sym (seat_after seat (IsAnswered chunk takes.ends.was) old.seats takes.mid.seats answered)
        ∙ ap (λ (x : SeatsState). slice_get x.seats seat) (sym (data_seats seat chunk sent_at bytes old new takes)) ∙ there) in
        ap (λ (x : SeatState). x.told.chunks) (sym here) ∙ ap (λ (x : SeatState). x.told.chunks) answered.changes.rest
        ∙ has.room answered.before answered.there;
  }

  other_room : (seat : ℕ) (m : Message) (old new : Parts) → TakesOther seat m old new → HasRoom seat (chunks_of d) old
      → HasRoom seat (chunks_of d) new
  other_room seat m old new takes has = record {
    room = λ s there.
        let heard = takes.heard in
        let here = same_Some heard.after s
        (sym (seat_after seat (Hears takes.mid.seats.moment m takes.noted) takes.mid.seats new.seats heard) ∙ there) in
        ap (λ (x : SeatState). x.told.chunks) (sym here) ∙ told takes.mid.seats.moment m takes.noted heard.before heard.after heard.changes
        ∙ has.room heard.before
        (ap (λ (x : SeatsState). slice_get x.seats seat) (sym (heeded_beside seat m old takes.mid takes.heeds).seats) ∙ heard.there);
  }

  message_keeps : (seat : ℕ) (m : Message) (old new : Parts) → Does seat m old new → Steady d seat m old → IsOfContent d seat new
  message_keeps seat m old new does here = record {
    room = data_or_other (HasRoom seat (chunks_of d) new) seat m old new does
        (λ chunk sent_at bytes takes. data_room seat chunk sent_at bytes old new takes here.room)
        (λ takes. other_room seat m old new takes here.room);
    swarm = does_keep (λ h. h.store.descriptor ≡ d) (λ ticket bytes claims before after p was. p.swarm ∙ was)
        seat m old new does here.swarm;
  }

  message_rooted : (seat : ℕ) (m : Message) (old new : Parts) → Does seat m old new → IsOfContent d seat old → JudgesRooted d seat m old
  message_rooted seat (Data chunk sent_at bytes) old new does of = λ within proven.
      let same : does.mid.holding ≡ old.holding = ap (λ (p : Parts). p.holding) does.ends.rest in
      let swarm : does.mid.holding.store.descriptor ≡ d = ap (λ (h : HoldingState). h.store.descriptor) same ∙ of.swarm in
      let judged = does.judged (subst (λ (e : Descriptor). chunk < chunks_of e) (sym swarm) within)
      (proven_same seat chunk old does.mid does.ends ∙ proven) in
      subst (λ (h : HoldingState). IsRooted d (entry h.book)) same
      (subst (λ (e : Descriptor). IsRooted e (entry does.mid.holding.book)) swarm judged.rooted)
  message_rooted seat m old new does of = tt

  -- ---- the path of an event

  arrival_steady : (result : Arrival) (swarm : Descriptor) (sender : Address) (bytes : List ℕ) (slot : Bool) (old : SeatsState) (mid new : Parts)
      → Prepares swarm slot result (record mid.seats { seats = old.seats }) mid.seats → (hears : HearsArrival result sender bytes slot mid new)
      → AllHold (chunks_of d) old.seats → mid.holding.store.descriptor ≡ d
      → IfSome (path_heard result sender bytes slot mid new hears) (λ path. EachSteady d path.seat path.messages path.first path.last path.in_turn)
  arrival_steady (arrivals.Opened k next) swarm sender bytes slot old mid new makes hears all is =
      each_steady d k (message_keeps k) (message_rooted k) _ (with_channel false k bytes (with_seated slot k mid)) hears.mid hears.in_turn (record {
        room = first_room k (chunks_of d) old mid.seats (Begins swarm slot) all makes makes.changes.room
            (with_channel false k bytes (with_seated slot k mid)) refl;
        swarm = is;
      })
  arrival_steady (arrivals.Replied k) swarm sender bytes slot old mid new makes hears all is =
      each_steady d k (message_keeps k) (message_rooted k) _ hears.mid hears.reads.mid hears.reads.in_turn (record {
        room = first_room k (chunks_of d) old mid.seats (BeginsShown swarm slot) all makes
            (begun_room swarm slot makes.before makes.after makes.changes) hears.mid (ap (λ (p : Parts). p.seats) hears.hears.rest);
        swarm = ap (λ (p : Parts). p.holding.store.descriptor) hears.hears.rest ∙ is;
      })
  arrival_steady (arrivals.Heard k) swarm sender bytes slot old mid new makes hears all is =
      each_steady d k (message_keeps k) (message_rooted k) _ hears.mid hears.reads.mid hears.reads.in_turn (record {
        room = first_room k (chunks_of d) old mid.seats IsShown all makes (shown_room makes.before makes.after makes.changes) hears.mid
            (ap (λ (p : Parts). p.seats) hears.hears.rest);
        swarm = ap (λ (p : Parts). p.holding.store.descriptor) hears.hears.rest ∙ is;
      })
  arrival_steady result swarm sender bytes slot old mid new makes hears all is = tt

  pub event_steady : (event : Event) (bytes : List ℕ) (old new : Parts) (takes : TakesEvent event bytes old new)
      → AllHold (chunks_of d) old.seats.seats
      → old.holding.store.descriptor ≡ d
      → IfSome (path_of event bytes old new takes) (λ path. EachSteady d path.seat path.messages path.first path.last path.in_turn)
  event_steady (events.Datagram sender len at) bytes old new takes all is =
      arrival_steady takes.arrival old.seats.descriptor sender bytes takes.slot old.seats takes.mid new takes.makes takes.hears all
      (ap (λ (p : Parts). p.holding.store.descriptor) takes.rest ∙ is)
  event_steady (events.Quiet at) bytes old new takes all is = tt

-- ---- the whole

module _ (b : Beginning) (most : ℕ) (past : List Record) (event : Event) (bytes : List ℕ) (old new : Parts)
    (valid : IsDescriptor b.d) (all : AllHold (chunks_of b.d) old.seats.seats) (fits : IsEvent event bytes) (stands : StandsFor b most old past)
    (entries : KeepsEntries (entry old.holding.book) (entry new.holding.book)) (stores : StoresWhatFits event bytes old new) where
  takes_steadily : TakesSteadily b.d event bytes old new stores
  takes_steadily = record {
    valid = valid;
    steady = event_steady b.d event bytes old stores.absorbs.mid stores.absorbs.takes all stands.ledger.swarm;
    entries = entries;
  }

  -- what an event brings is stored as is promised, where claims prove it
  pub promised : StoresIn b.d (entry new.holding.book) new.holding.store past (record_of event bytes)
  promised = event_proved b most past bytes old new stands event fits stores takes_steadily

  -- and where it comes with the hashes that the peer lacks
  pub shipped : old.holding.store.live ≡ true → AreTied old.holding → (had : ℕ → Bool) → CommitsTold b.d had past old.holding.store
      → StoresShipped b.d had (entry new.holding.book) (is_held new.holding.store) past (record_of event bytes)
  shipped = event_shipped b most past event bytes old new stands fits stores takes_steadily
