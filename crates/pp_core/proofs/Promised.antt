-- A chunk that comes on a plain channel and is proven by claims is held, or the book contradicts what its climbs meet.
use Rattle.std.proofs.Common.{◌≡◌, ◌⊎◌, inl, inr, ⊎_elim, ℕ, ◌^◌, ◌<◌, ◌≤◌, Bool, true, Option, Some, List, [], ◌∷◌, ◌++◌, length, take, refl, sym, ◌∙◌, ap, subst}
use Rattle.std.specs.Prelude.{slice_get, IfSome}
use Rattle.std.proofs.lemmas.Option.{same_Some}
use Rattle.pp_terms.specs.format.Traffic.{Record, Received}
use Rattle.pp_terms.specs.format.Descriptor.{Descriptor, chunks_of, IsDescriptor}
use Rattle.pp_terms.specs.format.Messages.{Message, Data, Messages}
use Rattle.pp_terms.specs.tree.Book.{LookUp, IsRooted}
use Rattle.pp_terms.specs.tree.Claims.{Claim, latest, met, Contradicts}
use Rattle.pp_terms.specs.tree.Proves.{Proves}
use Rattle.pp_tree.specs.Book.{BookState, entry}
use Rattle.pp_traffic.specs.Past.{now}
use Rattle.pp_traffic.specs.Life.{Life}
use Rattle.pp_traffic.specs.Story.{Line, hear}
use Rattle.pp_promises.specs.ReadStory.{proven_story}
use Rattle.pp_promises.specs.Stored.{BringsChunk}
use Rattle.pp_promises.proofs.Growth.{contradictions_stay}
use Rattle.pp_outside.specs.Arrivals.{IsEvent}
use Rattle.pp_outside.specs.Outside.{address_of, record_of}
use Rattle.pp_outside.specs.declared.link.Address.{Address}
use Rattle.pp_outside.specs.declared.link.Event.{Event}
use Rattle.pp_outside.specs.declared.link.Event.TheVariants as events
use Rattle.pp_paths.specs.Judge.{KeepsEntries}
use Rattle.pp_paths.proofs.ProvenChunks.{counted}
use Rattle.pp_store.specs.Store.{StoreState, is_held}
use Rattle.pp_lives.specs.Arriving.{Arrives}
use Rattle.pp_lives.specs.Standing.{HasSeat}
use Rattle.pp_lives.specs.declared.arriving.Arrival.{Arrival}
use Rattle.pp_lives.specs.declared.arriving.Arrival.TheVariants as arrivals
use Rattle.pp_lives.proofs.Arrivals.{contents_read}
use Rattle.pp_lives.proofs.Plainly.{awaits_none}
use Rattle.pp_holding.specs.Holding.{HoldingState}
use Rattle.pp_seat.specs.Seats.{SeatState}
use Rattle.pp_traffic.specs.Claims as traffic
use Rattle.pp_seats.specs.Hearing.{ChangesSeat, IsShown, BeginsShown, Prepares}
use Rattle.pp_seats.specs.Standing.{SeatsState, AllHold}
use Rattle.pp_seats.specs.Standing as seats
use Rattle.pp_peer.specs.declared.parts.Parts.{Parts}
use Rattle.pp_peer.specs.Standing.{Beginning, setting, StandsFor}
use Rattle.pp_peer.specs.Taking.{read_at}
use Rattle.pp_peer.specs.Messages.{is_proven_in, claims_in, InTurn, before_close}
use Rattle.pp_peer.specs.Events.{HearsArrival, TakesDatagram, after_datagram}
use Rattle.pp_peer.proofs.Arrived.{datagram_is}
use Rattle.pp_core.specs.Paths.{Path, path_read, path_heard, path_of}
use Rattle.pp_core.specs.Storing.{IsJudgedFit, HoldsFitting, StoresWhatFits, StoresIn}
use Rattle.pp_core.proofs.Paths.{Ends, on_path, seat_after}
use Rattle.pp_core.proofs.Arriving.{on_its_seat}
use Rattle.pp_core.proofs.Claiming.{HasRoom, ClaimsAt}
use Rattle.pp_core.proofs.Deciding.{contradicts_or_not}
use Rattle.pp_core.proofs.Judging.{proven_judged, proven_within}
use Rattle.pp_core.proofs.Proven.{front_heard, EachSteady, ComesAt, HasBegun, begun_first, comes_behind, none_claimed}

-- ---- the path of the datagram

-- There is a path, on the seat: of the messages behind the channel's number, from the seats as they were made ready for them.
pub record IsPathOn (seat : ℕ) (bytes : List ℕ) (o : Option Path) (ready : Parts) : Type 0 where
  pub path : Path
  pub is : o ≡ Some path
  pub seat_is : path.seat ≡ seat
  pub messages : path.messages ≡ before_close (read_at ready.seats.descriptor bytes 4)
  pub seats : path.first.seats ≡ ready.seats

pub heard_path : (result : Arrival) (sender : Address) (bytes : List ℕ) (slot : Bool) (old new : Parts)
    (hears : HearsArrival result sender bytes slot old new)
    (seat : ℕ) → result ≡ arrivals.Heard seat → IsPathOn seat bytes (path_heard result sender bytes slot old new hears) old
heard_path (arrivals.Heard k) sender bytes slot old new hears seat e = record {
  path = path_read k hears.mid.seats.descriptor bytes 4 hears.mid new hears.reads;
  is = refl;
  seat_is = cc;
  messages = ap (λ (p : Parts). before_close (read_at p.seats.descriptor bytes 4)) hears.hears.rest;
  seats = ap (λ (p : Parts). p.seats) hears.hears.rest;
}
heard_path result sender bytes slot old new hears seat e = absurd cc

pub replied_path : (result : Arrival) (sender : Address) (bytes : List ℕ) (slot : Bool) (old new : Parts)
    (hears : HearsArrival result sender bytes slot old new)
    (seat : ℕ) → result ≡ arrivals.Replied seat → IsPathOn seat bytes (path_heard result sender bytes slot old new hears) old
replied_path (arrivals.Replied k) sender bytes slot old new hears seat e = record {
  path = path_read k hears.mid.seats.descriptor bytes 4 hears.mid new hears.reads;
  is = refl;
  seat_is = cc;
  messages = ap (λ (p : Parts). before_close (read_at p.seats.descriptor bytes 4)) hears.hears.rest;
  seats = ap (λ (p : Parts). p.seats) hears.hears.rest;
}
replied_path result sender bytes slot old new hears seat e = absurd cc

-- a path of given messages, read as such
on_messages : (path : Path) (d : Descriptor) (moment : ℕ) (store : StoreState) (m : Message) (front rest : List Message) (story : List Line)
    (first : HoldingState)
    → path.messages ≡ front ++ m ∷ rest → chunks_of d ≤ 2 ^ 20 → HoldsFitting store path.seat path.messages path.first path.last path.in_turn
    → EachSteady d path.seat path.messages path.first path.last path.in_turn → ClaimsAt path.seat (chunks_of d) story path.first
    → HasBegun first path.first.holding → ComesAt d path.seat store m (hear moment front story) first path.last
on_messages path d moment store m front rest story first is most holds_all steady claims begun =
    subst (λ (ms : List Message). (in_turn : InTurn path.seat ms path.first path.last) → HoldsFitting store path.seat ms path.first path.last in_turn
    → EachSteady d path.seat ms path.first path.last in_turn → ComesAt d path.seat store m (hear moment front story) first path.last) (sym is)
    (λ in_turn h s. comes_behind d path.seat moment store m front rest story first path.first path.last in_turn most h s claims begun)
    path.in_turn holds_all steady

-- ---- what is claimed before the first message

module _ (b : Beginning) (most : ℕ) (known_of : ℕ → ℕ → Bool) (old ready : SeatsState) (past : List Record)
    (stands : seats.StandsFor (setting b known_of) most old past)
    (life : Life) where
  -- on a channel that is known
  pub shown_claims : (h : HasSeat old.table stands.lives life) → ChangesSeat h.seat IsShown (record ready { seats = old.seats }) ready
      → (p : Parts) → p.seats ≡ ready → ClaimsAt h.seat (chunks_of b.d) (proven_story b.d life past) p
  shown_claims h c p same =
      let followed = stands.follow h.seat h.channel life c.before h.there h.known h.lives_there c.there in
      let there = ap (λ (s : SeatsState). slice_get s.seats h.seat) same ∙ seat_after h.seat IsShown (record ready { seats = old.seats }) ready c in
      record {
        proven = ap is_proven_in there ∙ ap (λ (s : SeatState). s.proven) c.changes.exact;
        claims = ap claims_in there ∙ ap (λ (s : SeatState). s.claims) c.changes.exact ∙ followed.follows.claims;
      }

  -- where the reply came
  pub begun_claims : (seat : ℕ) (d : Descriptor) (slot : Bool) → ChangesSeat seat (BeginsShown d slot) (record ready { seats = old.seats }) ready
      → traffic.claims_in (chunks_of b.d) (proven_story b.d life past) ≡ []
      → (p : Parts) → p.seats ≡ ready → ClaimsAt seat (chunks_of b.d) (proven_story b.d life past) p
  begun_claims seat d slot c none p same =
      let there = ap (λ (s : SeatsState). slice_get s.seats seat) same ∙ seat_after seat (BeginsShown d slot)
      (record ready { seats = old.seats }) ready c in
      record {
        proven = ap is_proven_in there ∙ ap (λ (s : SeatState). s.proven) c.changes.shown.exact;
        claims = ap claims_in there ∙ ap (λ (s : SeatState). s.claims) c.changes.shown.exact ∙ c.changes.begins.fresh.claims
            ∙ sym (ap (take 128) none);
      }

-- ---- of what content the seat is

-- where each seat is of the content, so is that of a path
pub first_room : (seat chunks : ℕ) (old ready : SeatsState) (P : SeatState → SeatState → Type 0) → AllHold chunks old.seats
    → (c : ChangesSeat seat P (record ready { seats = old.seats }) ready) → c.after.told.chunks ≡ c.before.told.chunks
    → (p : Parts) → p.seats ≡ ready → HasRoom seat chunks p
first_room seat chunks old ready P all c same p is = record {
  room = λ s there.
      let here = same_Some c.after s (sym (seat_after seat P (record ready { seats = old.seats }) ready c)
      ∙ ap (λ (x : SeatsState). slice_get x.seats seat) (sym is) ∙ there) in
      ap (λ (x : SeatState). x.told.chunks) (sym here) ∙ same ∙ all seat c.before c.there;
}

-- it is so when a channel is shown, and when it begins with the other peer's reply
pub shown_room : (before after : SeatState) → IsShown before after → after.told.chunks ≡ before.told.chunks
shown_room before after shown = ap (λ (s : SeatState). s.told.chunks) shown.exact

pub begun_room : (d : Descriptor) (slot : Bool) (before after : SeatState) → BeginsShown d slot before after → after.told.chunks ≡ before.told.chunks
begun_room d slot before after begun = shown_room begun.mid after begun.shown ∙ begun.begins.room

-- ---- one chunk

-- Where the chunk comes, the book contradicts what its climbs meet, or the chunk is held.
chunk_judged : (d : Descriptor) (seat : ℕ) (store : StoreState) (i sent_at : ℕ) (bytes : List ℕ) (story : List Line) (first : HoldingState)
    (last : Parts)
    → (c : ComesAt d seat store (Data i sent_at bytes) story first last) → IsDescriptor d
    → Proves d (traffic.claimed (chunks_of d) story) i bytes
    → (book : LookUp) → KeepsEntries (entry c.at.holding.book) book
    → (is_held store i ≡ true) ⊎ Contradicts book (met d (traffic.claimed (chunks_of d) story) i bytes)
chunk_judged d seat store i sent_at bytes story first last c is proof book keeps = ⊎_elim
    (λ against. inr (contradictions_stay (entry c.at.holding.book) book (met d known i bytes) keeps against))
    (λ none. inl (c.holds (record { proven = c.claims.proven; judged_fit = fit none })))
    (contradicts_or_not d (entry c.at.holding.book) known i bytes)
  where
    known : LookUp
    known = traffic.claimed (chunks_of d) story

    at : HoldingState
    at = c.at.holding

    within : i < chunks_of d
    within = proven_within d known i bytes proof

    swarm : d ≡ at.store.descriptor
    swarm = sym c.steady.swarm

    fit : (Contradicts (entry c.at.holding.book) (met d known i bytes) → ⊥)
        → IsJudgedFit at (latest (claims_in (slice_get c.at.seats.seats seat))) i bytes
    fit none = subst (λ (claims : List Claim). IsJudgedFit at (latest claims) i bytes) (sym c.claims.claims)
        (proven_judged at known i bytes
        (subst (λ (e : Descriptor). Proves e known i bytes) swarm proof)
        (subst IsDescriptor swarm is)
        (subst (λ (e : Descriptor). IsRooted e (entry at.book)) swarm (c.steady.rooted within c.claims.proven))
        (subst (λ (e : Descriptor). Contradicts (entry at.book) (met e known i bytes) → ⊥) swarm none)
        (subst (λ (e : Descriptor). i < chunks_of e) swarm within))

-- ---- the whole

-- An event was taken: along its path all stays of the content, and the book keeps its entries.
pub record TakesSteadily (d : Descriptor) (event : Event) (bytes : List ℕ) (old new : Parts) (stores : StoresWhatFits event bytes old new) : Type 0 where
  pub valid : IsDescriptor d
  pub steady : IfSome (path_of event bytes old stores.absorbs.mid stores.absorbs.takes)
      (λ path. EachSteady d path.seat path.messages path.first path.last path.in_turn)
  pub entries : KeepsEntries (entry old.holding.book) (entry new.holding.book)

pub if_some : (P : Path → Type 0) (o : Option Path) (path : Path) → o ≡ Some path → IfSome o P → P path
if_some P o path is h = subst (λ (x : Option Path). IfSome x P) is h

-- A message came behind others, and the new book has the entries of the one that it met.
pub record ComesBy (d : Descriptor) (past : List Record) (life : Life) (came : Record) (front : List Message) (m : Message) (old new : Parts) : Type 0 where
  pub seat : ℕ
  pub last : Parts
  pub comes : ComesAt d seat new.holding.store m (hear (now (came ∷ past)) front (proven_story d life past)) old.holding last
  pub keeps : KeepsEntries (entry comes.at.holding.book) (entry new.holding.book)

module _ (b : Beginning) (most : ℕ) (past : List Record) (bytes : List ℕ) (old new : Parts)
    (stands : StandsFor b most old past) where
  datagram_comes : (sender : Address) (len stamp : ℕ) (stores : StoresWhatFits (events.Datagram sender len stamp) bytes old new)
      → TakesSteadily b.d (events.Datagram sender len stamp) bytes old new stores → (life : Life) (i : ℕ) (text : List ℕ)
      → (brings : BringsChunk b.d life past (Received stamp (address_of sender) bytes) i text)
      → ComesBy b.d past life (Received stamp (address_of sender) bytes) brings.front (Data i brings.sent_at text) old new
  datagram_comes sender len stamp stores takes life i text brings = ⊎_elim
      (λ heard. on_path_of heard.has.seat heard.long
      (heard_path t.arrival sender bytes t.slot t.mid mid t.hears heard.has.seat heard.is)
      (λ p same. shown_claims b most stands.known_of old.seats t.mid.seats past stands.seats life heard.has
      (subst (λ (x : Arrival). Prepares old.seats.descriptor t.slot x
      (record t.mid.seats { seats = old.seats.seats }) t.mid.seats) heard.is t.makes) p same))
      (λ replied. on_path_of replied.has.seat replied.long
      (replied_path t.arrival sender bytes t.slot t.mid mid t.hears replied.has.seat replied.is)
      (λ p same. begun_claims b most stands.known_of old.seats t.mid.seats past stands.seats life replied.has.seat old.seats.descriptor t.slot
      (subst (λ (x : Arrival). Prepares old.seats.descriptor t.slot x
      (record t.mid.seats { seats = old.seats.seats }) t.mid.seats) replied.is t.makes)
      (none_claimed (chunks_of b.d) b.d life past (awaits_none b.d life past replied.of_peer.0 replied.of_peer.1)) p same))
      (on_its_seat b.d old.seats.table t.mid.seats.table stands.seats.lives past sender stamp t.mid.seats.moment bytes t.arrival
      life stands.seats.standing
      (subst (λ (e : Descriptor). Arrives e old.seats.table sender t.mid.seats.moment bytes t.arrival t.mid.seats.table) stands.seats.swarm t.arrives)
      brings.plain brings.comes)
    where
      mid : Parts
      mid = stores.absorbs.mid

      t : TakesDatagram sender bytes stamp (after_datagram old) stores.absorbs.mid
      t = stores.absorbs.takes

      came : Record
      came = Received stamp (address_of sender) bytes

      kept : (o : HoldingState) → new.holding.book ≡ o.book → KeepsEntries (entry o.book) (entry new.holding.book)
      kept o same = subst (λ (x : BookState). KeepsEntries (entry x) (entry new.holding.book)) same (λ k j x here. here)

      on_path_of : (seat : ℕ) → 4 ≤ length bytes → IsPathOn seat bytes (path_heard t.arrival sender bytes t.slot t.mid mid t.hears) t.mid
          → ((p : Parts) → p.seats ≡ t.mid.seats → ClaimsAt seat (chunks_of b.d) (proven_story b.d life past) p)
          → ComesBy b.d past life came brings.front (Data i brings.sent_at text) old new
      on_path_of seat long on claims =
          let path = on.path in
          let ends = if_some (λ path. Ends path old mid) (path_of (events.Datagram sender len stamp) bytes old mid t) path on.is
          (on_path (λ path. Ends path old mid) (events.Datagram sender len stamp) bytes old mid t (λ path ends. ends)) in
          let swarm : t.mid.seats.descriptor ≡ b.d = t.swarm ∙ stands.seats.swarm in
          let read_is : read_at b.d bytes 4 ≡ brings.front ++ Data i brings.sent_at text ∷ brings.rest =
          ap (λ (m : Messages). m.read) (sym (contents_read b.d bytes long)) ∙ brings.messages in
          let messages : path.messages ≡ brings.front ++ Data i brings.sent_at text ∷ before_close brings.rest =
          on.messages ∙ ap (λ (e : Descriptor). before_close (read_at e bytes 4)) swarm ∙ ap before_close read_is
          ∙ front_heard brings.front (Data i brings.sent_at text ∷ brings.rest) brings.open_still in
          let comes = on_messages path b.d (now (came ∷ past)) new.holding.store (Data i brings.sent_at text) brings.front (before_close brings.rest)
          (proven_story b.d life past) old.holding messages (counted b.d takes.valid).most
          (if_some (λ path. HoldsFitting new.holding.store path.seat path.messages path.first path.last path.in_turn)
          (path_of (events.Datagram sender len stamp) bytes old mid t) path on.is stores.holds)
          (if_some (λ path. EachSteady b.d path.seat path.messages path.first path.last path.in_turn)
          (path_of (events.Datagram sender len stamp) bytes old mid t) path on.is takes.steady)
          (subst (λ (k : ℕ). ClaimsAt k (chunks_of b.d) (proven_story b.d life past) path.first) (sym on.seat_is) (claims path.first on.seats))
          (begun_first old.holding path.first.holding ends.begins) in
          record {
            seat = path.seat;
            last = path.last;
            comes = comes;
            keeps = keeps_then comes.at.holding path.last.holding comes.keeps
                (kept path.last.holding (stores.absorbs.book ∙ ap (λ (h : HoldingState). h.book) ends.holding));
          }
        where
          keeps_then : (at last : HoldingState) → (at ≡ old.holding) ⊎ KeepsEntries (entry at.book) (entry last.book)
              → KeepsEntries (entry last.book) (entry new.holding.book) → KeepsEntries (entry at.book) (entry new.holding.book)
          keeps_then at last (inl same) from_last =
              subst (λ (h : HoldingState). KeepsEntries (entry h.book) (entry new.holding.book)) (sym same) takes.entries
          keeps_then at last (inr to_last) from_last = λ k j x here. from_last k j x (to_last k j x here)

  -- what an event brings comes along a path
  pub event_comes : (event : Event) → IsEvent event bytes → (stores : StoresWhatFits event bytes old new)
      → TakesSteadily b.d event bytes old new stores → (life : Life) (i : ℕ) (text : List ℕ)
      → (brings : BringsChunk b.d life past (record_of event bytes) i text)
      → ComesBy b.d past life (record_of event bytes) brings.front (Data i brings.sent_at text) old new
  event_comes (events.Datagram sender len stamp) fits stores takes =
      subst (λ (r : Record). (life : Life) (i : ℕ) (text : List ℕ) → (brings : BringsChunk b.d life past r i text)
      → ComesBy b.d past life r brings.front (Data i brings.sent_at text) old new)
      (sym (datagram_is (events.Datagram sender len stamp) bytes sender len stamp refl fits))
      (datagram_comes sender len stamp stores takes)
  event_comes (events.Quiet stamp) fits stores takes = λ life i text brings. absurd (let never = brings.comes in cc)

  -- and is stored as is promised
  pub event_proved : (event : Event) → IsEvent event bytes → (stores : StoresWhatFits event bytes old new)
      → TakesSteadily b.d event bytes old new stores → StoresIn b.d (entry new.holding.book) new.holding.store past (record_of event bytes)
  event_proved event fits stores takes = λ life i text brings proof.
      let by = event_comes event fits stores takes life i text brings in
      chunk_judged b.d by.seat new.holding.store i brings.sent_at text
      (hear (now (record_of event bytes ∷ past)) brings.front (proven_story b.d life past)) old.holding by.last by.comes takes.valid proof
      (entry new.holding.book) by.keeps
