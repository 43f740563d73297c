-- What a turn comes to, and many turns.
use Rattle.std.specs.Prelude.{◌≡◌, ◌⊎◌, ℕ, ◌+◌, ◌<◌, ◌≤◌, Bool, true, false, Some, List, length, Result, Ok, Err}
use Rattle.pp_terms.specs.format.Descriptor.{chunks_of}
use Rattle.pp_terms.specs.format.Traffic.{Record}
use Rattle.pp_traffic.specs.Committed.{is_in}
use Rattle.pp_outside.specs.declared.disk.DiskFault.{DiskFault}
use Rattle.pp_peer.specs.Standing.{Beginning}
use Rattle.pp_core.specs.Offering.{limit_of, RequestsBelow}
use Rattle.pp_core.specs.Peers.{PeerState}
use Rattle.pp_core.specs.Turning.{Closes}
use Rattle.pp_turns.specs.Turning.{Post, Stops}
use Rattle.pp_turns.specs.Promising.{Ended, Came, Refused, HasTurned}

-- What a turn came to.
abbrev pub TurnsTo : Beginning → ℕ → Post → Post → Result (Unit {0}) DiskFault → Type 0
TurnsTo b taken old new (Ok _) = HasTurned Ended b taken old new
TurnsTo b taken old new (Err _) = Stops b taken old new

-- Whatever turns went before, there is one more.
abbrev pub TakesTurn : Post → Post → Result (Unit {0}) DiskFault → Type 0
TakesTurn old new result =
    (b : Beginning) (taken : ℕ) (first : Post) → HasTurned Ended b taken first old → TurnsTo b (taken + 1) first new result

-- The disk refused something in the turn behind a post; each REQUEST lay below the number below which its peer asked for chunks.
pub record StopsBehind (b : Beginning) (taken : ℕ) (first old new : Post) : Type 0 where
  pub stops : Stops b taken first new
  pub below : (before : List Record) → first.link.traffic ≡ Some before → (n : ℕ) → limit_of old.peer.parts.fetching ≡ Some n
      → RequestsBelow b.d n stops.went.added

-- What the wait of a turn behind a post came to: an event was taken, or the link refused to wait.
abbrev pub WaitsTo : Beginning → ℕ → Post → Post → Post → Result (Unit {0}) DiskFault → Type 0
WaitsTo b taken first old new (Ok _) = HasTurned Came b taken first new ⊎ HasTurned Refused b taken first new
WaitsTo b taken first old new (Err _) = StopsBehind b taken first old new

abbrev pub Waits : Post → Post → Result (Unit {0}) DiskFault → Type 0
Waits old new result =
    (b : Beginning) (taken : ℕ) (first : Post) → HasTurned Ended b taken first old → WaitsTo b (taken + 1) first old new result

-- What was due was sent, which ends the turn, whatever its wait came to.
abbrev pub Finishes : Post → Post → Type 0
Finishes old new = (b : Beginning) (taken : ℕ) (first : Post) → HasTurned Came b taken first old ⊎ HasTurned Refused b taken first old
    → HasTurned Ended b taken first new

-- all chunks of the peer's content are committed
abbrev pub HasAll : PeerState → Type 0
HasAll p = (i : ℕ) → i < length p.parts.holding.store.committed → is_in p.parts.holding.store.committed i ≡ true

-- some chunk isn't
abbrev pub LacksSome : PeerState → Type 0
LacksSome p = (i : ℕ) × (i < length p.parts.holding.store.committed) × (is_in p.parts.holding.store.committed i ≡ false)

-- Before the last of so many turns some chunk wasn't committed.
pub record WasNeeded (b : Beginning) (taken : ℕ) (old : Post) : Type 0 where
  pub before : ℕ
  pub last : taken ≡ before + 1
  pub mid : Post
  pub turns : HasTurned Ended b before old mid
  pub lacks : LacksSome mid.peer

-- A number of turns were taken; a peer that fetches took none once all its chunks were committed.
pub record TakesSome (b : Beginning) (taken : ℕ) (fetches : Bool) (old new : Post) : Type 0 where
  pub turns : HasTurned Ended b taken old new
  pub needed : 0 < taken → fetches ≡ true → WasNeeded b taken old

-- Turns were taken, `most` of them; or fewer, where a peer that fetches had all chunks then.
pub record TakesAll (b : Beginning) (most : ℕ) (fetches : Bool) (old new : Post) : Type 0 where
  pub taken : ℕ
  pub within : taken ≤ most
  pub some : TakesSome b taken fetches old new
  pub early : taken < most → (fetches ≡ true) × HasAll new.peer

-- The disk refused something in one of the turns.
pub record StopsIn (b : Beginning) (most : ℕ) (old new : Post) : Type 0 where
  pub taken : ℕ
  pub within : taken ≤ most
  pub stops : Stops b taken old new

abbrev pub TurnsEnd : Beginning → ℕ → Bool → Post → Post → Result (Unit {0}) DiskFault → Type 0
TurnsEnd b most fetches old new (Ok _) = TakesAll b most fetches old new
TurnsEnd b most fetches old new (Err _) = StopsIn b most old new

-- the committed set is one of all the chunks
abbrev pub IsSized : PeerState → Type 0
IsSized p = length p.parts.holding.store.committed ≡ chunks_of p.parts.holding.store.descriptor

-- Turns were taken, and then the channels closed.
pub record Ends (b : Beginning) (most : ℕ) (fetches : Bool) (old new : Post) : Type 0 where
  pub mid : Post
  pub takes : TakesAll b most fetches old mid
  pub closes : Closes mid.peer new.peer mid.link new.link mid.disk
  pub disk : new.disk ≡ mid.disk
  pub sized : IsSized new.peer
