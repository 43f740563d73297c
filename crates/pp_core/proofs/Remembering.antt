-- What a peer told and acknowledged at the end of a turn, and what it remembers of that for the next one.
use Rattle.std.proofs.Common.{◌≡◌, ◌⊎◌, inl, inr, ⊎_elim, ℕ, ◌≤◌, true, Option, Some, List, [], ◌∷◌, ◌++◌}
use Rattle.pp_terms.specs.Count.{HasRisen}
use Rattle.pp_terms.specs.disk.Disk.{DiskState, History, moment_of}
use Rattle.pp_terms.specs.format.Descriptor.{Descriptor}
use Rattle.pp_terms.specs.format.Options.{IsBytes}
use Rattle.pp_terms.specs.format.Traffic.{Record, LinkState}
use Rattle.pp_terms.specs.tree.Book.{LookUp}
use Rattle.pp_terms.specs.tree.Content.{IsChunkSize}
use Rattle.pp_tree.specs.Book.{entry}
use Rattle.pp_traffic.specs.Keeping.{StoodThroughout}
use Rattle.pp_promises.specs.Announced.{AcknowledgesFirst, TellsOfHeld}
use Rattle.pp_outside.specs.Arrivals.{IsEvent}
use Rattle.pp_outside.specs.Outside.{record_of}
use Rattle.pp_outside.specs.declared.link.Address.{Address}
use Rattle.pp_outside.specs.declared.link.Event.{Event}
use Rattle.pp_avail.specs.declared.ranker.Rank.{Rank}
use Rattle.pp_paths.specs.Judge.{KeepsEntries}
use Rattle.pp_peer.specs.declared.parts.Parts.{Parts}
use Rattle.pp_peer.specs.Events.{Absorbs}
use Rattle.pp_peer.specs.Standing.{Beginning, StandsFor}
use Rattle.pp_core.specs.Remembering.{KeepsTold, HasNoTicket, KeepsAcks, HasNoRepeat}
use Rattle.pp_core.specs.Opening.{HasBegun}
use Rattle.pp_core.specs.Peers.{PeerState}
use Rattle.pp_core.specs.Storing.{StoresIn}
use Rattle.pp_core.specs.Turning.{after_refusal, Sends}
use Rattle.pp_core.proofs.Acknowledging.{turn_acknowledges}
use Rattle.pp_core.proofs.Firsts.{begun_acks, begun_unrepeated, refused_acks, absorb_acks, flush_acks, flush_unrepeated}
use Rattle.pp_core.proofs.Remembered.{begun_keeps, begun_taken, refused_keeps, absorb_keeps, flush_keeps, flush_taken, turn_tells}
use Rattle.pp_core.proofs.Served.{risen_or}

-- What was told and what is to be acknowledged is known, and all tickets were taken.
pub record Remembers (d : Descriptor) (book : LookUp) (p : Parts) (past : List Record) : Type 0 where
  pub told : KeepsTold d p past
  pub acks : KeepsAcks d book p past
  pub taken : HasNoTicket p
  pub unrepeated : HasNoRepeat p

-- so it is of a peer that has begun, and once a wait was refused
pub begun_remembers : (d swarm : Descriptor) (random : List ℕ) (asks : Option Rank) (dial : List Address) (p : PeerState)
    → HasBegun swarm random asks dial p → (book : LookUp) → Remembers d book p.parts []
begun_remembers d swarm random asks dial p h book = record {
  told = begun_keeps d swarm random asks dial p h;
  acks = begun_acks d swarm random asks dial p h book;
  taken = begun_taken swarm random asks dial p h;
  unrepeated = begun_unrepeated swarm random asks dial p h;
}

pub refused_remembers : (d : Descriptor) (book : LookUp) (p : PeerState) (past : List Record) → Remembers d book p.parts past
    → Remembers d book (after_refusal p).parts past
refused_remembers d book p past k = record {
  told = refused_keeps d p past k.told;
  acks = refused_acks d book p past k.acks;
  taken = k.taken;
  unrepeated = k.unrepeated;
}

-- At the end of a turn it was told what is to be known of, and acknowledged what came first; and that is remembered.
pub record TellsAndAcknowledges (d : Descriptor) (h : History) (book : LookUp) (p : Parts) (past : List Record) : Type 0 where
  pub tells : TellsOfHeld d h past
  pub acknowledges : AcknowledgesFirst d book past
  pub remembers : Remembers d book p past

none_risen : {X : Type 0} (before after : ℕ) → (HasRisen before after → ⊥) → X ⊎ HasRisen before after → X
none_risen before after none (inl x) = x
none_risen before after none (inr risen) = absurd (none risen)

-- A turn does so, unless the link refused a datagram in it, where what came is stored as is promised, and the book keeps its entries.
pub turn_remembers : (refused : ℕ) (event : Event) (bytes : List ℕ) (old mid new : PeerState) (link later : LinkState) (disk left : DiskState)
    → Absorbs event bytes old.parts mid.parts → (course : Sends refused mid new link later disk left) → IsEvent event bytes → IsBytes bytes
    → (b : Beginning) → IsChunkSize b.d.chunk → (most : ℕ) (past before : List Record) (h : History) → b.since ≤ moment_of disk.history
    → StandsFor b most old.parts past → StandsFor b most mid.parts (record_of event bytes ∷ past) → link.traffic ≡ Some before
    → ((i : ℕ) → StoodThroughout b.d h i → b.is_found i ≡ true)
    → StoresIn b.d (entry mid.parts.holding.book) mid.parts.holding.store past (record_of event bytes)
    → (book : LookUp) → KeepsEntries (entry mid.parts.holding.book) book → Remembers b.d book old.parts past
    → TellsAndAcknowledges b.d h book new.parts (course.flushes.added ++ record_of event bytes ∷ past) ⊎ HasRisen link.faults later.faults
turn_remembers refused event bytes old mid new link later disk left absorbs course is fits b size most past before h since stands then carries found
    stored book keeps k = ⊎_elim
    (λ risen. inr risen)
    (λ none. inl (record {
      tells = none_risen link.faults later.faults none
          (turn_tells refused event bytes old mid new link later disk left absorbs course b most past before h since then carries found told);
      acknowledges = none_risen link.faults later.faults none
          (turn_acknowledges refused event bytes old mid new link later disk left absorbs course b most past before since then carries book acks.awaits);
      remembers = record {
        told = flush_keeps refused mid new link later disk left course b most (record_of event bytes ∷ past) before since then carries none told;
        acks = flush_acks refused mid new link later disk left course b most (record_of event bytes ∷ past) before since then carries none book acks;
        taken = flush_taken refused mid new link later disk left course;
        unrepeated = flush_unrepeated refused mid new link later disk left course;
      };
    }))
    (risen_or link.faults later.faults)
  where
    told : KeepsTold b.d mid.parts (record_of event bytes ∷ past)
    told = absorb_keeps b most past event bytes old.parts mid.parts absorbs is fits size stands then k.taken k.told

    acks : KeepsAcks b.d book mid.parts (record_of event bytes ∷ past)
    acks = absorb_acks b most past event bytes old.parts mid.parts absorbs is fits size stands then k.taken k.unrepeated k.told stored book keeps k.acks
