-- What a flush leaves at the end of its turn, in the words of what a peer promises of its records.
use Rattle.std.specs.Prelude.{◌≡◌, ◌⊎◌, ℕ, ◌+◌, ◌-◌, ◌^◌, ◌<◌, ◌≤◌, map, length, Bool, true, false, Some, List, [], ◌∷◌, ◌++◌}
use Rattle.std.specs.List.{list_any}
use Rattle.pp_terms.specs.Count.{HasRisen}
use Rattle.pp_terms.specs.disk.Disk.{DiskState, History, moment_of}
use Rattle.pp_terms.specs.format.Descriptor.{Descriptor, chunks_of}
use Rattle.pp_terms.specs.format.Traffic as traffic
use Rattle.pp_terms.specs.format.Traffic.{same_address, LinkState, Record}
use Rattle.pp_terms.specs.tree.Book.{LookUp}
use Rattle.pp_traffic.specs.Keeping.{StoodThroughout}
use Rattle.pp_traffic.specs.Meter.{lets_send}
use Rattle.pp_traffic.specs.Turns.{is_closing}
use Rattle.pp_promises.specs.Announced.{AcknowledgesFirst, TellsOfHeld}
use Rattle.pp_promises.specs.Answered.{LetsIn, KeepsUp}
use Rattle.pp_promises.specs.Asked.{IsMissed}
use Rattle.pp_promises.specs.LastTurn.{sent_since}
use Rattle.pp_promises.specs.Served.{LeavesFew}
use Rattle.pp_outside.specs.Arrivals.{IsEvent}
use Rattle.pp_outside.specs.Outside.{address_of, record_of}
use Rattle.pp_outside.specs.declared.link.Address.{Address}
use Rattle.pp_outside.specs.declared.link.Event.{Event}
use Rattle.pp_peer.specs.declared.parts.Parts.{Parts}
use Rattle.pp_peer.specs.Delivering.{AreRefused}
use Rattle.pp_peer.specs.Dialling.{undialled}
use Rattle.pp_peer.specs.Events.{Absorbs}
use Rattle.pp_peer.specs.Flushing.{Scene}
use Rattle.pp_peer.specs.Standing.{Beginning, StandsFor}
use Rattle.pp_store.specs.Store.{is_held}
use Rattle.pp_core.specs.Offering.{KeepsOffers, AsksOrHolds, limit_of, RequestsBelow}
use Rattle.pp_core.specs.Peers.{PeerState}
use Rattle.pp_core.specs.Remembering.{KeepsWrote, StaysUnchoked, KeepsTold, HasNoTicket, AwaitsAck, KeepsAcks, HasNoRepeat}
use Rattle.pp_core.specs.Turning.{scene}

-- What stood in every image at the attachment was found.
abbrev pub IsFoundIn : Beginning → History → Type 0
IsFoundIn b h = (i : ℕ) → StoodThroughout b.d h i → b.is_found i ≡ true

-- Of the channels that may be served none is left more chunks that it asked for than were given up, unless the link refused a datagram.
abbrev pub ServesOwed : (refused : ℕ) → Scene → LinkState → List Record → Type 0
ServesOwed refused old later added = (b : Beginning) (most : ℕ) (past : List Record) (h : History) → b.since ≤ moment_of old.disk.history
    → StandsFor b most old.parts past → IsFoundIn b h
    → LeavesFew (most + refused) b.d (lets_send b.d.chunk) h (added ++ past) ⊎ HasRisen old.link.faults later.faults

-- No channel was closed, as far as the link tells.
abbrev pub ClosesNone : Scene → List Record → Type 0
ClosesNone old added = (b : Beginning) (most : ℕ) (past before : List Record) → b.since ≤ moment_of old.disk.history
    → StandsFor b most old.parts past → old.link.traffic ≡ Some before → list_any (is_closing b.d) added ≡ false

-- Of each channel it stays known when a datagram last went there, as far as the link tells.
abbrev pub StaysWrote : Scene → Parts → List Record → Type 0
StaysWrote old new added = (b : Beginning) (most : ℕ) (past before : List Record) → b.since ≤ moment_of old.disk.history
    → StandsFor b most old.parts past → old.link.traffic ≡ Some before → KeepsWrote b.d old.parts past → KeepsWrote b.d new (added ++ past)

-- On each plain channel a datagram went lately, unless the link refused one.
abbrev pub WritesLately : Scene → LinkState → List Record → Type 0
WritesLately old later added = (b : Beginning) (most : ℕ) (past before : List Record)
    → StandsFor b most old.parts past → old.link.traffic ≡ Some before → KeepsWrote b.d old.parts past
    → KeepsUp b.d (added ++ past) ⊎ HasRisen old.link.faults later.faults

-- The newcomer that came last was let in, unless the link refused a datagram.
abbrev pub LetsNewcomerIn : Scene → LinkState → List Record → Type 0
LetsNewcomerIn old later added =
    (event : Event) (bytes : List ℕ) (start : Parts) → Absorbs event bytes start old.parts → IsEvent event bytes
    → (b : Beginning) (most still : ℕ) (past before : List Record) → StandsFor b most start past
    → StandsFor b still old.parts (record_of event bytes ∷ past) → old.link.traffic ≡ Some before
    → LetsIn b.d (added ++ record_of event bytes ∷ past) ⊎ HasRisen old.link.faults later.faults

-- Of these addresses so many at most weren't dialled in a turn and didn't write then.
abbrev pub MissesFew : ℕ → Descriptor → List traffic.Address → List Record → Type 0
MissesFew r d addresses turn = (few : List traffic.Address) × (length few ≤ r)
    × ((to : traffic.Address) → IsMissed d addresses turn to → list_any (same_address to) few ≡ true)

-- At most 16 addresses, none of which was dialled yet, were dialled, but for that of a datagram that came first and as many as calls of
-- the link were refused.
abbrev pub DialsFew : PeerState → LinkState → LinkState → List Record → Type 0
DialsFew old link later added = (b : Beginning) (most : ℕ) (addresses : List Address) (past before : List Record)
    → StandsFor b most old.parts past → old.dials ≡ map undialled addresses → length past ≤ 1 → length addresses ≤ 16
    → link.traffic ≡ Some before → later.faults < 2 ^ 64 - 1
    → MissesFew (later.faults - link.faults) b.d (map address_of addresses) (added ++ past)

-- While at most eight datagrams opened a channel each has its slot, and no CHOKE went.
abbrev pub KeepsUnchoked : Scene → Parts → List Record → Type 0
KeepsUnchoked old new added = (b : Beginning) (most : ℕ) (past before : List Record) → StandsFor b most old.parts past
    → old.link.traffic ≡ Some before → StaysUnchoked b.d old.parts past → StaysUnchoked b.d new (added ++ past)

-- What was told stays known, if the link refused nothing.
abbrev pub StaysTold : Scene → Parts → LinkState → List Record → Type 0
StaysTold old new later added = (b : Beginning) (most : ℕ) (past before : List Record) → b.since ≤ moment_of old.disk.history
    → StandsFor b most old.parts past → old.link.traffic ≡ Some before → (HasRisen old.link.faults later.faults → ⊥)
    → KeepsTold b.d old.parts past → KeepsTold b.d new (added ++ past)

-- What is held was told of on each plain channel, or 64 new chunks were, behind what came last; unless the link refused a datagram.
abbrev pub TellsHeld : Scene → LinkState → List Record → Type 0
TellsHeld old later added = (b : Beginning) (most : ℕ) (past before : List Record) (h : History) → b.since ≤ moment_of old.disk.history
    → StandsFor b most old.parts past → old.link.traffic ≡ Some before → sent_since past ≡ [] → IsFoundIn b h → KeepsTold b.d old.parts past
    → TellsOfHeld b.d h (added ++ past) ⊎ HasRisen old.link.faults later.faults

-- What is to be acknowledged stays known, if the link refused nothing.
abbrev pub StaysToAcknowledge : Scene → Parts → LinkState → List Record → Type 0
StaysToAcknowledge old new later added = (b : Beginning) (most : ℕ) (past before : List Record) → b.since ≤ moment_of old.disk.history
    → StandsFor b most old.parts past → old.link.traffic ≡ Some before → (HasRisen old.link.faults later.faults → ⊥)
    → (book : LookUp) → KeepsAcks b.d book old.parts past → KeepsAcks b.d book new (added ++ past)

-- What came first and is to be acknowledged was, once nothing came; unless the link refused a datagram.
abbrev pub AcknowledgesKnown : Scene → LinkState → List Record → Type 0
AcknowledgesKnown old later added = (event : Event) (bytes : List ℕ) (start : Parts) → Absorbs event bytes start old.parts
    → (b : Beginning) (most : ℕ) (past before : List Record) → b.since ≤ moment_of old.disk.history
    → StandsFor b most old.parts (record_of event bytes ∷ past) → old.link.traffic ≡ Some before
    → (book : LookUp) → AwaitsAck b.d book old.parts (record_of event bytes ∷ past)
    → AcknowledgesFirst b.d book (added ++ record_of event bytes ∷ past) ⊎ HasRisen old.link.faults later.faults

-- What others offer stays noted.
abbrev pub StaysOffering : Scene → Parts → List Record → Type 0
StaysOffering old new added = (b : Beginning) (most : ℕ) (past : List Record) → b.since ≤ moment_of old.disk.history
    → StandsFor b most old.parts past → KeepsOffers b.d old.parts past → KeepsOffers b.d new (added ++ past)

-- A fetch asked on each channel that may be asked for each chunk below that number that it offers, but for what is held, and maybe
-- others; unless the link refused a datagram.
abbrev pub AsksAll : Scene → Parts → LinkState → List Record → Type 0
AsksAll old new later added = (b : Beginning) (most : ℕ) (past : List Record) (n : ℕ) → b.since ≤ moment_of old.disk.history
    → StandsFor b most old.parts past → KeepsOffers b.d old.parts past → limit_of old.parts.fetching ≡ Some n → n ≤ chunks_of b.d
    → (others : ℕ → Bool) → ((i : ℕ) → is_held new.holding.store i ≡ true → others i ≡ true)
    → AsksOrHolds b.d n others (added ++ past) ⊎ HasRisen old.link.faults later.faults

-- Where the link tells, each REQUEST of a fetch lies below the number below which it asks for chunks.
abbrev pub AsksBelow : Scene → List Record → Type 0
AsksBelow old added = (b : Beginning) (most : ℕ) (past before : List Record) (n : ℕ) → StandsFor b most old.parts past
    → old.link.traffic ≡ Some before → limit_of old.parts.fetching ≡ Some n → RequestsBelow b.d n added

-- What a flush promises in which so many calls were given up, and these records went.
pub record Promises (refused : ℕ) (old new : PeerState) (link later : LinkState) (disk left : DiskState)
    (added : List Record) : Type 0 where
  pub closes_none : ClosesNone (scene old.parts link disk) added
  pub serves : ServesOwed refused (scene old.parts link disk) later added
  pub lost : AreRefused refused (scene old.parts link disk) (scene new.parts later left)
  pub wrote : StaysWrote (scene old.parts link disk) new.parts added
  pub keeps_up : WritesLately (scene old.parts link disk) later added
  pub lets_in : LetsNewcomerIn (scene old.parts link disk) later added
  pub dials : DialsFew old link later added
  pub unchoked : KeepsUnchoked (scene old.parts link disk) new.parts added
  pub told : StaysTold (scene old.parts link disk) new.parts later added
  pub tells : TellsHeld (scene old.parts link disk) later added
  pub taken : HasNoTicket new.parts
  pub unrepeated : HasNoRepeat new.parts
  pub acks : StaysToAcknowledge (scene old.parts link disk) new.parts later added
  pub acknowledges : AcknowledgesKnown (scene old.parts link disk) later added
  pub offers : StaysOffering (scene old.parts link disk) new.parts added
  pub asks : AsksAll (scene old.parts link disk) new.parts later added
  pub below : AsksBelow (scene old.parts link disk) added
  pub limit : limit_of new.parts.fetching ≡ limit_of old.parts.fetching
