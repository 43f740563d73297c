-- What the turns of a peer keep of what it promises: at the end of each turn but of those in which something was refused.
use Rattle.std.specs.Prelude.{◌≡◌, ℕ, ◌+◌, ◌-◌, ◌^◌, ◌<◌, ◌≤◌, zero, suc, Bool, true, false, map, length, Some, List, [], ◌∷◌, ◌++◌}
use Rattle.std.specs.List.{list_any}
use Rattle.pp_terms.specs.Count.{HasRisen}
use Rattle.pp_terms.specs.disk.Disk.{History}
use Rattle.pp_terms.specs.format.Descriptor.{chunks_of}
use Rattle.pp_terms.specs.format.Traffic.{Record}
use Rattle.pp_traffic.specs.Meter.{lets_send}
use Rattle.pp_traffic.specs.Past.{EachRecord}
use Rattle.pp_traffic.specs.Turns.{events, is_closing, AtTurnEndsBut, AtEndsOfTurnsBut}
use Rattle.pp_promises.specs.Announced.{AcknowledgesFirst, TellsOfHeld}
use Rattle.pp_promises.specs.Answered.{LetsIn, KeepsUp}
use Rattle.pp_promises.specs.Served.{LeavesFew}
use Rattle.pp_terms.specs.tree.Book.{LookUp}
use Rattle.pp_tree.specs.Book.{entry}
use Rattle.pp_paths.specs.Judge.{KeepsEntries}
use Rattle.pp_outside.specs.Arrivals.{IsEvent}
use Rattle.pp_outside.specs.Outside.{address_of, record_of}
use Rattle.pp_outside.specs.declared.link.Address.{Address}
use Rattle.pp_outside.specs.declared.link.Event.{Event}
use Rattle.pp_peer.specs.declared.parts.Parts.{Parts}
use Rattle.pp_peer.specs.Dialling.{undialled}
use Rattle.pp_peer.specs.Events.{Absorbs}
use Rattle.pp_peer.specs.Standing.{Beginning, StandsFor}
use Rattle.pp_complete.specs.Shipped.{StoresShipped}
use Rattle.pp_store.specs.Store.{is_committed, is_held}
use Rattle.pp_core.specs.Keeping.{IsKeeping}
use Rattle.pp_core.specs.Offering.{limit_of, FetchesAll, KeepsOffers, AsksOrHolds, RequestsBelow}
use Rattle.pp_core.specs.Promising.{IsFoundIn, MissesFew}
use Rattle.pp_core.specs.Remembering.{KeepsWrote, StaysUnchoked, KeepsTold, HasNoTicket, KeepsAcks, HasNoRepeat}
use Rattle.pp_core.specs.Storing.{StoresIn}
use Rattle.pp_turns.specs.Turning.{Post, TakesTurns}

-- ---- what was refused

-- how often the link and the disk refused something so far
abbrev pub faults_of : Post → ℕ
faults_of p = p.link.faults + p.disk.faults

-- Neither count stands at the greatest number.
pub record Tells (p : Post) : Type 0 where
  pub link : p.link.faults < 2 ^ 64 - 1
  pub disk : p.disk.faults < 2 ^ 64 - 1

-- How far the last turn has come: it ended; or an event came, or the wait was refused, and what is due wasn't sent yet.
pub data Stage : Type 0 where
  Ended : Stage
  Came : Stage
  Refused : Stage

-- At the end of every turn but so many P holds; the last one doesn't count before it ended.
abbrev pub EndsBut : Stage → ℕ → (List Record → Type 0) → List Record → Type 0
EndsBut Ended few P past = AtEndsOfTurnsBut few P past
EndsBut Came few P past = AtTurnEndsBut few P past
EndsBut Refused few P past = AtTurnEndsBut few P past

-- how many turns haven't ended
abbrev pub open_of : Stage → ℕ
open_of Ended = 0
open_of Came = 1
open_of Refused = 1

-- how often more than so many a count rose: once where the last wait was refused
abbrev pub spare : Stage → ℕ
spare Ended = 0
spare Came = 0
spare Refused = 1

-- P holds at the end of every turn but of as many as something was refused since the first.
abbrev pub FailsFew : Stage → Post → Post → (List Record → Type 0) → List Record → Type 0
FailsFew stage first new P past = (few : ℕ) × (faults_of first + few + spare stage ≤ faults_of new) × EndsBut stage few P past

-- ---- promises

-- The peer kept its disk from the first on, and both counts tell.
pub record IsTelling (b : Beginning) (first new : Post) : Type 0 where
  pub keeping : IsKeeping b.since first.peer first.disk []
  pub tells : Tells new

-- While the link refuses nothing: at the end of every turn P holds; the last one doesn't count before it ended, and no wait was refused.
abbrev pub EndsAll : Stage → (List Record → Type 0) → List Record → Type 0
EndsAll Ended P past = AtEndsOfTurnsBut 0 P past
EndsAll Came P past = AtTurnEndsBut 0 P past
EndsAll Refused P past = ⊥

-- no ticket is left, but for what came last
abbrev pub TakenAt : Stage → Post → Type 0
TakenAt Ended new = HasNoTicket new.peer.parts × HasNoRepeat new.peer.parts
TakenAt Came new = Unit {0}
TakenAt Refused new = HasNoTicket new.peer.parts × HasNoRepeat new.peer.parts

-- The link refused nothing.
abbrev pub IsCalmLink : Post → Post → Type 0
IsCalmLink first new = HasRisen first.link.faults new.link.faults → ⊥

-- What came last was absorbed by a peer that stood for what came and went before.
pub record HasCome (b : Beginning) (new : Post) (added : List Record) : Type 0 where
  pub event : Event
  pub bytes : List ℕ
  pub fits : IsEvent event bytes
  pub start : Parts
  pub absorbs : Absorbs event bytes start new.peer.parts
  pub past : List Record
  pub behind : added ≡ record_of event bytes ∷ past
  pub most : ℕ
  pub stands : StandsFor b most start past

abbrev pub CameAt : Stage → Beginning → Post → List Record → Type 0
CameAt Came b new added = HasCome b new added
CameAt Ended b new added = Unit {0}
CameAt Refused b new added = Unit {0}

-- Where the last turn ended, and the link refused nothing: a fetch asked on each channel on which it may for each chunk below the
-- limit that it offers, but for what is held, and maybe others.
abbrev pub AskedAt : Stage → Beginning → Post → Post → List Record → Type 0
AskedAt Ended b first new added = IsCalmLink first new → (n : ℕ) → limit_of new.peer.parts.fetching ≡ Some n → n ≤ chunks_of b.d
    → (others : ℕ → Bool) → ((i : ℕ) → is_held new.peer.parts.holding.store i ≡ true → others i ≡ true)
    → AsksOrHolds b.d n others added
AskedAt Came b first new added = Unit {0}
AskedAt Refused b first new added = Unit {0}

-- Chunks that come on a plain channel and are proved by what its peer claims are held. No channel was closed, as far as the link
-- tells. Of the channels that may be served none is left more chunks that it was told of, and asked for, than something was
-- refused. And on each plain channel a datagram went lately, the newcomer of a turn was let in, and nobody is choked while there
-- are slots; and while the link refuses nothing, what is held was told of, and what came first was acknowledged once nothing
-- came. A peer that asks for all that it lacks asked, on each channel on which it may, for each chunk that it offers, but for
-- what is held, and maybe others.
pub record Keeps (stage : Stage) (b : Beginning) (first new : Post) (added : List Record) : Type 0 where
  pub stores : EachRecord (StoresIn b.d (entry new.peer.parts.holding.book) new.peer.parts.holding.store) added
  -- where the peer kept its disk: what comes on a plain channel with the hashes that it lacked, by what it had at first and
  -- announced, is held
  pub ships : IsKeeping b.since first.peer first.disk []
      → EachRecord (StoresShipped b.d (is_committed first.peer.parts.holding.store) (entry new.peer.parts.holding.book)
      (is_held new.peer.parts.holding.store)) added
  pub closes_none : (before : List Record) → first.link.traffic ≡ Some before → list_any (is_closing b.d) added ≡ false
  pub serves : IsTelling b first new → (h : History) → IsFoundIn b h → (most : ℕ) → faults_of new ≤ faults_of first + most
      → FailsFew stage first new (LeavesFew most b.d (lets_send b.d.chunk) h) added
  -- when a datagram last went on each channel
  pub wrote : (before : List Record) → first.link.traffic ≡ Some before → KeepsWrote b.d new.peer.parts added
  pub keeps_up : (before : List Record) → first.link.traffic ≡ Some before → Tells new → FailsFew stage first new (KeepsUp b.d) added
  pub unchoked : (before : List Record) → first.link.traffic ≡ Some before → StaysUnchoked b.d new.peer.parts added
  pub told : (before : List Record) → first.link.traffic ≡ Some before → IsCalmLink first new → KeepsTold b.d new.peer.parts added
  pub taken : TakenAt stage new
  pub tells : (before : List Record) → first.link.traffic ≡ Some before → IsCalmLink first new → (h : History) → IsFoundIn b h
      → EndsAll stage (TellsOfHeld b.d h) added
  -- what is to be acknowledged, by any book that keeps the entries of this one
  pub acks : (before : List Record) → first.link.traffic ≡ Some before → IsCalmLink first new → (book : LookUp)
      → KeepsEntries (entry new.peer.parts.holding.book) book → KeepsAcks b.d book new.peer.parts added
  pub acknowledges : (before : List Record) → first.link.traffic ≡ Some before → IsCalmLink first new → (book : LookUp)
      → KeepsEntries (entry new.peer.parts.holding.book) book → EndsAll stage (AcknowledgesFirst b.d book) added
  pub came : CameAt stage b new added
  pub lets_in : (before : List Record) → first.link.traffic ≡ Some before → Tells new → FailsFew stage first new (LetsIn b.d) added
  -- what others offer
  pub offers : KeepsOffers b.d new.peer.parts added
  pub fetches : FetchesAll b.d first.peer.parts → FetchesAll b.d new.peer.parts
  pub asks : FetchesAll b.d first.peer.parts → Tells new → (others : ℕ → Bool)
      → ((i : ℕ) → is_held new.peer.parts.holding.store i ≡ true → others i ≡ true)
      → FailsFew stage first new (AsksOrHolds b.d (chunks_of b.d) others) added
  pub asked : AskedAt stage b first new added
  -- each REQUEST lies below the number below which the peer asks for chunks now
  pub below : (before : List Record) → first.link.traffic ≡ Some before → (n : ℕ) → limit_of new.peer.parts.fetching ≡ Some n
      → RequestsBelow b.d n added

-- ---- whom it dials

-- In the first turn addresses were dialled, but for as many as something was refused.
pub record HasDialled (b : Beginning) (addresses : List Address) (first new : Post) (added : List Record) : Type 0 where
  pub rest : List Record
  pub turn : List Record
  pub behind : added ≡ rest ++ turn
  pub one : events turn ≤ 1
  pub misses : MissesFew (faults_of new - faults_of first) b.d (map address_of addresses) turn

-- The first turn hasn't ended: none was dialled, and no more came than one event.
pub record IsToDial (stage : Stage) (first new : Post) (added : List Record) : Type 0 where
  pub dials : new.peer.dials ≡ first.peer.dials
  pub few : length added ≤ open_of stage

-- The same where that many turns ended.
abbrev pub DialsIn : (ended : ℕ) → Stage → Beginning → List Address → Post → Post → List Record → Type 0
DialsIn zero stage b addresses first new added = IsToDial stage first new added
DialsIn (suc n) stage b addresses first new added = HasDialled b addresses first new added

-- ---- turns

-- A number of turns were taken, the last of which has come so far.
pub record HasTurned (stage : Stage) (b : Beginning) (taken : ℕ) (first new : Post) : Type 0 where
  pub turns : TakesTurns b taken first new
  pub keeps : Keeps stage b first new turns.went.added
  -- no more was given up than was refused
  pub lost : IsTelling b first new → faults_of first + turns.refused ≤ faults_of new
  pub within : open_of stage ≤ taken
  -- at most 16 addresses that it was told to dial
  pub dials : (addresses : List Address) → first.peer.dials ≡ map undialled addresses → length addresses ≤ 16
      → (before : List Record) → first.link.traffic ≡ Some before → Tells new → (ended : ℕ) → ended + open_of stage ≡ taken
      → DialsIn ended stage b addresses first new turns.went.added
