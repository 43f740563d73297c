-- What a peer knows of what it told and wrote, from one turn to the next.
use Rattle.std.proofs.Common.{◌≡◌, ◌⊎◌, ℕ, ◌≤◌, true, Option, Some, List, [], ◌∷◌, ◌++◌, length, refl, sym, ◌∙◌, ap, subst, arith}
use Rattle.pp_terms.specs.Count.{HasRisen}
use Rattle.pp_terms.specs.disk.Disk.{DiskState, History, moment_of}
use Rattle.pp_terms.specs.format.Descriptor.{Descriptor, chunks_of}
use Rattle.pp_terms.specs.format.Options.{IsBytes}
use Rattle.pp_terms.specs.format.Traffic.{Record, LinkState}
use Rattle.pp_terms.specs.tree.Content.{IsChunkSize}
use Rattle.pp_traffic.specs.Keeping.{StoodThroughout}
use Rattle.pp_promises.specs.Announced.{TellsOfHeld}
use Rattle.pp_promises.specs.Answered.{KeepsUp}
use Rattle.pp_promises.specs.LastTurn.{sent_since}
use Rattle.pp_outside.specs.Arrivals.{IsEvent}
use Rattle.pp_outside.specs.Outside.{record_of}
use Rattle.pp_outside.specs.declared.link.Address.{Address}
use Rattle.pp_outside.specs.declared.link.Event.{Event}
use Rattle.pp_outside.specs.declared.link.Event.TheVariants as events
use Rattle.pp_avail.specs.declared.ranker.Rank.{Rank}
use Rattle.pp_holding.specs.Queue.{QueueState}
use Rattle.pp_holding.specs.Holding.{HoldingState}
use Rattle.pp_peer.specs.declared.parts.Parts.{Parts}
use Rattle.pp_peer.specs.Events.{Absorbs}
use Rattle.pp_peer.specs.Standing.{Beginning, StandsFor}
use Rattle.pp_core.specs.Opening.{HasBegun}
use Rattle.pp_core.specs.Peers.{PeerState}
use Rattle.pp_core.specs.Turning.{after_refusal, Sends}
use Rattle.pp_core.proofs.AbsorbsTold.{absorb_told}
use Rattle.pp_core.proofs.LatelySent.{awaits_number, flush_wrote}
use Rattle.pp_core.proofs.Roomy.{event_room}
use Rattle.pp_core.proofs.StaysTold.{all_below, begun_told, flush_told}
use Rattle.pp_core.proofs.PassesTold.{begun_passes, refused_passes, absorb_passes, flush_passes}
use Rattle.pp_core.proofs.Telling.{flush_tells}
use Rattle.pp_core.proofs.Ticketed.{HasTicketRoom, absorbs_few}
use Rattle.pp_core.specs.Remembering.{KeepsWrote, KeepsTold, HasNoTicket}
use Rattle.pp_core.proofs.Writing.{flush_keeps_up}
use Rattle.pp_core.proofs.Wrote.{absorbs_wrote}

-- ---- when datagrams last went

-- It stays known through a turn.
pub turn_wrote : (refused : ℕ) (event : Event) (bytes : List ℕ) (old mid new : PeerState) (link later : LinkState) (disk left : DiskState)
    → Absorbs event bytes old.parts mid.parts → (course : Sends refused mid new link later disk left)
    → (b : Beginning) (most : ℕ) (past before : List Record) → b.since ≤ moment_of disk.history → StandsFor b most old.parts past
    → StandsFor b most mid.parts (record_of event bytes ∷ past) → link.traffic ≡ Some before → KeepsWrote b.d old.parts past
    → KeepsWrote b.d new.parts (course.flushes.added ++ record_of event bytes ∷ past)
turn_wrote refused event bytes old mid new link later disk left absorbs course b most past before since stands then carries keeps =
    flush_wrote refused mid new link later disk left course b most (record_of event bytes ∷ past) before since then carries
    (absorbs_wrote event bytes old.parts mid.parts absorbs (awaits_number b most old.parts past stands) b.d (record_of event bytes) past keeps)

-- And so one went lately on each plain channel at the turn's end, unless the link refused one.
pub turn_keeps_up : (refused : ℕ) (event : Event) (bytes : List ℕ) (old mid new : PeerState) (link later : LinkState) (disk left : DiskState)
    → Absorbs event bytes old.parts mid.parts → (course : Sends refused mid new link later disk left)
    → (b : Beginning) (most : ℕ) (past before : List Record) → StandsFor b most old.parts past
    → StandsFor b most mid.parts (record_of event bytes ∷ past) → link.traffic ≡ Some before → KeepsWrote b.d old.parts past
    → KeepsUp b.d (course.flushes.added ++ record_of event bytes ∷ past) ⊎ HasRisen link.faults later.faults
turn_keeps_up refused event bytes old mid new link later disk left absorbs course b most past before stands then carries keeps =
    flush_keeps_up refused mid new link later disk left course b most (record_of event bytes ∷ past) before then
    (absorbs_wrote event bytes old.parts mid.parts absorbs (awaits_number b most old.parts past stands) b.d (record_of event bytes) past keeps)
    carries

-- ---- what was told

pub begun_keeps : (d swarm : Descriptor) (random : List ℕ) (asks : Option Rank) (dial : List Address) (p : PeerState)
    → HasBegun swarm random asks dial p → KeepsTold d p.parts []
begun_keeps d swarm random asks dial p h = record {
  told = begun_told d swarm random asks dial p h;
  few = (let none = ap (λ (q : QueueState). length q.waiting) h.holding.empty in omega (arith, none));
  passes = begun_passes d swarm random asks dial p h;
}

pub begun_taken : (swarm : Descriptor) (random : List ℕ) (asks : Option Rank) (dial : List Address) (p : PeerState)
    → HasBegun swarm random asks dial p → HasNoTicket p.parts
begun_taken swarm random asks dial p h = ap (λ (q : QueueState). q.tickets) h.holding.empty

pub refused_keeps : (d : Descriptor) (p : PeerState) (past : List Record) → KeepsTold d p.parts past → KeepsTold d (after_refusal p).parts past
refused_keeps d p past keeps = record { told = keeps.told; few = keeps.few; passes = refused_passes d p past keeps.passes }

-- It is kept when something comes, where all tickets were taken before,
pub absorb_keeps : (b : Beginning) (most : ℕ) (past : List Record) (event : Event) (bytes : List ℕ) (old new : Parts)
    → Absorbs event bytes old new → IsEvent event bytes → IsBytes bytes → IsChunkSize b.d.chunk → StandsFor b most old past
    → StandsFor b most new (record_of event bytes ∷ past) → HasNoTicket old → KeepsTold b.d old past
    → KeepsTold b.d new (record_of event bytes ∷ past)
absorb_keeps b most past event bytes old new absorbs is fits size stands then taken keeps = record {
  told = absorb_told b most past event bytes old new absorbs is stands then room keeps.told;
  few = absorbs_few event bytes old new absorbs room;
  passes = absorb_passes b most past event bytes old new absorbs is stands then keeps.passes;
}
  where
    room : HasTicketRoom old.seats.descriptor bytes old.holding
    room = subst (λ (x : Descriptor). HasTicketRoom x bytes old.holding) (sym stands.seats.swarm)
        (event_room b.d event bytes old.holding size fits is taken keeps.few)

-- and by a flush in which the link refused no datagram; and then all tickets are taken.
pub flush_keeps : (refused : ℕ) (old new : PeerState) (link later : LinkState) (disk left : DiskState)
    → (course : Sends refused old new link later disk left) → (b : Beginning) (most : ℕ) (past before : List Record)
    → b.since ≤ moment_of disk.history → StandsFor b most old.parts past → link.traffic ≡ Some before → (HasRisen link.faults later.faults → ⊥)
    → KeepsTold b.d old.parts past → KeepsTold b.d new.parts (course.flushes.added ++ past)
flush_keeps refused old new link later disk left course b most past before since stands carries none keeps = record {
  told = flush_told refused old new link later disk left course b most past before since stands carries none keeps.told;
  few =
      let waits = ap (λ (p : Parts). length p.holding.queue.waiting) course.rest
      ∙ ap (λ (h : HoldingState). length h.queue.waiting) course.flushes.holding in
      let few = keeps.few in
      omega (arith, waits, few);
  passes = flush_passes refused old new link later disk left course b most past before since stands carries none keeps.passes;
}

pub flush_taken : (refused : ℕ) (old new : PeerState) (link later : LinkState) (disk left : DiskState)
    → Sends refused old new link later disk left → HasNoTicket new.parts
flush_taken refused old new link later disk left course = ap (λ (p : Parts). p.holding.queue.tickets) course.rest

-- nothing was sent since an event came
none_since : (event : Event) (bytes : List ℕ) (past : List Record) → sent_since (record_of event bytes ∷ past) ≡ []
none_since (events.Datagram sender len at) bytes past = refl
none_since (events.Quiet at) bytes past = refl

-- What is to be known of was told at the end of a turn, or many new chunks were, unless the link refused a datagram.
pub turn_tells : (refused : ℕ) (event : Event) (bytes : List ℕ) (old mid new : PeerState) (link later : LinkState) (disk left : DiskState)
    → Absorbs event bytes old.parts mid.parts → (course : Sends refused mid new link later disk left) → (b : Beginning) (most : ℕ)
    → (past before : List Record) (h : History) → b.since ≤ moment_of disk.history → StandsFor b most mid.parts (record_of event bytes ∷ past)
    → link.traffic ≡ Some before → ((i : ℕ) → StoodThroughout b.d h i → b.is_found i ≡ true)
    → KeepsTold b.d mid.parts (record_of event bytes ∷ past)
    → TellsOfHeld b.d h (course.flushes.added ++ record_of event bytes ∷ past) ⊎ HasRisen link.faults later.faults
turn_tells refused event bytes old mid new link later disk left absorbs course b most past before h since then carries found keeps =
    flush_tells refused mid new link later disk left course b most (record_of event bytes ∷ past) before h since then
    (absorbs.waits.committed_size ∙ ap chunks_of then.ledger.swarm) carries (none_since event bytes past) found
    (all_below b.d mid.parts (record_of event bytes ∷ past) keeps.told) keeps.passes
