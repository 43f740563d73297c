-- A turn of several swarms on one socket: what each of them takes of what came, and sends, as if it were alone with a link of its own.
use Rattle.std.specs.Prelude.{◌≡◌, ℕ, ◌+◌, ◌≤◌, ◌==◌, Bool, true, false, if◌then◌else◌, MatchBool, Option, Some, None, List, [], ◌∷◌, ◌++◌, length, slice_get, Result, Ok, Err, is_ok}
use Rattle.std.specs.List.{AllByRecursion}
use Rattle.pp_terms.specs.Count.{HasCause}
use Rattle.pp_terms.specs.disk.Disk.{DiskState, moment_of}
use Rattle.pp_terms.specs.format.Traffic.{LinkState, Record, GainsRecords}
use Rattle.pp_outside.specs.Outside.{DoesNext}
use Rattle.pp_outside.specs.declared.disk.DiskFault.{DiskFault}
use Rattle.pp_outside.specs.declared.link.Event.{Event}
use Rattle.pp_outside.specs.declared.link.Event.TheVariants.{Datagram, Quiet}
use Rattle.pp_outside.specs.declared.link.LinkFault.{LinkFault}
use Rattle.pp_scan.specs.Look.{KeepsAll}
use Rattle.pp_holding.specs.Holding.{stock_of}
use Rattle.pp_holding.specs.Stock.{Advances}
use Rattle.pp_peer.specs.Flushing.{IsOurs}
use Rattle.pp_peer.specs.Standing.{Beginning, StandsFor}
use Rattle.pp_core.specs.Offering.{limit_of}
use Rattle.pp_core.specs.Peers.{PeerState}
use Rattle.pp_core.specs.Turning.{Closes, after_refusal}
use Rattle.pp_turns.specs.Taking.{Waits, Finishes}
use Rattle.pp_turns.specs.Turning.{post}
use Rattle.pp_swarms.specs.Routing.{routed}

-- ---- swarms and their disks

-- the peers with their disks: disk s is that of peer s, and there may be more
pub record Fleet : Type 0 where
  pub peers : List PeerState
  pub disks : List DiskState

abbrev pub fleet : List PeerState → List DiskState → Fleet
fleet peers disks = record { peers = peers; disks = disks }

-- one of them
pub record Swarm : Type 0 where
  pub peer : PeerState
  pub disk : DiskState

abbrev pub swarm : PeerState → DiskState → Swarm
swarm peer disk = record { peer = peer; disk = disk }

abbrev pub IsAt : Fleet → ℕ → Swarm → Type 0
IsAt f s x = (slice_get f.peers s ≡ Some x.peer) × (slice_get f.disks s ≡ Some x.disk)

-- A swarm goes on until its disk refuses a write or a sync; then it has stopped.
abbrev pub is_live : PeerState → Bool
is_live p = p.parts.holding.store.live

-- As many peers and disks are there as were, and the disks that are nobody's are as they were.
pub record KeepsOrder (old new : Fleet) : Type 0 where
  pub peers : length new.peers ≡ length old.peers
  pub disks : length new.disks ≡ length old.disks
  pub others : (s : ℕ) → length old.peers ≤ s → slice_get new.disks s ≡ slice_get old.disks s

-- ---- what came

abbrev pub is_for : Option ℕ → ℕ → Bool
is_for None s = false
is_for (Some r) s = r == s

-- the moment of a wait's end
abbrev pub at_of : Event → ℕ
at_of (Datagram sender len at) = at
at_of (Quiet at) = at

-- what a wait is to a swarm: the event, where it is for it, and else that nothing came
abbrev pub event_for : Option ℕ → ℕ → Event → Event
event_for to s event = if is_for to s then event else Quiet (at_of event)

-- A swarm takes what a wait came to, over each link on which it came to that. Where its disk refuses a write or a sync it stops.
pub record Hears (event : Event) (buffer : List ℕ) (x y : Swarm) : Type 0 where
  pub result : Result (Unit {0}) DiskFault
  pub waits : (seen seen' : LinkState) → DoesNext {E = LinkFault} seen buffer (Ok event) seen'
      → Waits (post x.peer x.disk seen) (post y.peer y.disk seen') result
  pub advances : Advances (stock_of x.peer.parts.holding x.disk) (stock_of y.peer.parts.holding y.disk)
  pub cause : HasCause x.disk.hard y.disk.hard result
  pub live : is_live y.peer ≡ is_ok result
  pub limit : is_ok result ≡ true → limit_of y.peer.parts.fetching ≡ limit_of x.peer.parts.fetching

-- a swarm that goes on does so, and a stopped one is as it was
abbrev pub HearsIf : Event → List ℕ → Swarm → Swarm → Type 0
HearsIf event buffer x y = MatchBool (is_live x.peer) (Hears event buffer x y) (y ≡ x)

-- Each swarm takes its part of what came, which is for this one.
pub record HearsEach (to : Option ℕ) (event : Event) (buffer : List ℕ) (old new : Fleet) : Type 0 where
  pub keeps : KeepsOrder old new
  pub each : (s : ℕ) (x y : Swarm) → IsAt old s x → IsAt new s y → HearsIf (event_for to s event) buffer x y

abbrev pub HearsAll : Event → List ℕ → Fleet → Fleet → Type 0
HearsAll event buffer old new = HearsEach (routed old.peers event buffer) event buffer old new

-- The wait was refused, and counted, over each link that refused it.
pub record Refuses (p q : PeerState) : Type 0 where
  pub counted : q ≡ after_refusal p
  pub waits : (disk : DiskState) (buffer : List ℕ) (fault : LinkFault) (seen seen' : LinkState) → DoesNext {E = LinkFault} seen buffer (Err fault) seen'
      → Waits (post p disk seen) (post q disk seen') (Ok tt)

abbrev pub RefusesIf : PeerState → PeerState → Type 0
RefusesIf p q = MatchBool (is_live p) (Refuses p q) (q ≡ p)

-- So it was for each swarm that goes on.
pub record RefusesAll (old new : List PeerState) : Type 0 where
  pub peers : length new ≡ length old
  pub each : (s : ℕ) (p q : PeerState) → slice_get old s ≡ Some p → slice_get new s ≡ Some q → RefusesIf p q

-- ---- what went

-- the records that the swarms sent, those of each by themselves: by rising swarm, so that the last one's are the newest
abbrev pub joined : List (List Record) → List Record
joined [] = []
joined (part ∷ parts) = joined parts ++ part

-- What one swarm sees of the link that it shares, in which these records are its own: it gained those, and refused what the link refused.
pub record SeesPart (part : List Record) (link link' seen seen' : LinkState) : Type 0 where
  pub gained : GainsRecords seen.traffic part seen'.traffic
  pub tells : (before : List Record) → seen.traffic ≡ Some before → (all : List Record) × (link.traffic ≡ Some all)
  pub nexts : seen'.nexts ≡ seen.nexts
  pub bound : seen'.bound ≡ seen.bound
  pub before : seen.faults ≡ link.faults
  pub after : seen'.faults ≡ link'.faults

-- A swarm sent what was due, these datagrams, which ends its turn. What it holds stays, and its disk is only read.
pub record SendsPart (part : List Record) (x y : Swarm) (link link' : LinkState) : Type 0 where
  pub ends : (seen seen' : LinkState) → SeesPart part link link' seen seen' → Finishes (post x.peer x.disk seen) (post y.peer y.disk seen')
  pub ours : AllByRecursion (IsOurs x.peer.parts.seats.descriptor (moment_of x.disk.history)) part
  pub refused : ℕ
  pub stands : (b : Beginning) (most : ℕ) (past : List Record) → b.since ≤ moment_of x.disk.history
      → StandsFor b most x.peer.parts past → StandsFor b (most + refused) y.peer.parts (part ++ past)
  pub store : y.peer.parts.holding.store ≡ x.peer.parts.holding.store
  pub book : y.peer.parts.holding.book ≡ x.peer.parts.holding.book
  pub reads : KeepsAll x.disk y.disk
  pub limit : limit_of y.peer.parts.fetching ≡ limit_of x.peer.parts.fetching

-- a swarm that goes on does so; a stopped one sent nothing and is as it was
abbrev pub SendsIf : List Record → Swarm → Swarm → LinkState → LinkState → Type 0
SendsIf part x y link link' = MatchBool (is_live x.peer) (SendsPart part x y link link') ((y ≡ x) × (part ≡ []))

-- The link gained these records of the swarms, by rising swarm, and nothing else.
pub record GainsParts (parts : List (List Record)) (link link' : LinkState) : Type 0 where
  pub gained : GainsRecords link.traffic (joined parts) link'.traffic
  pub nexts : link'.nexts ≡ link.nexts
  pub bound : link'.bound ≡ link.bound
  pub later : link.faults ≤ link'.faults

-- one swarm sent its part alone
abbrev pub SendsOne : Swarm → Swarm → LinkState → LinkState → Type 0
SendsOne x y link link' = (part : List Record) × GainsParts (part ∷ []) link link' × SendsIf part x y link link'

-- Each swarm sent its part.
pub record SendsAll (old new : Fleet) (link link' : LinkState) : Type 0 where
  pub keeps : KeepsOrder old new
  pub parts : List (List Record)
  pub many : length parts ≡ length old.peers
  pub gains : GainsParts parts link link'
  pub each : (s : ℕ) (x y : Swarm) (part : List Record) → IsAt old s x → IsAt new s y → slice_get parts s ≡ Some part
      → SendsIf part x y link link'

-- ---- the end

-- A swarm closed its channels with these datagrams.
pub record ClosesPart (part : List Record) (x y : Swarm) (link link' : LinkState) : Type 0 where
  pub closes : (seen seen' : LinkState) → SeesPart part link link' seen seen' → Closes x.peer y.peer seen seen' x.disk
  pub ours : AllByRecursion (IsOurs x.peer.parts.seats.descriptor (moment_of x.disk.history)) part
  pub disk : y.disk ≡ x.disk

abbrev pub ClosesIf : List Record → Swarm → Swarm → LinkState → LinkState → Type 0
ClosesIf part x y link link' = MatchBool (is_live x.peer) (ClosesPart part x y link link') ((y ≡ x) × (part ≡ []))

abbrev pub ClosesOne : Swarm → Swarm → LinkState → LinkState → Type 0
ClosesOne x y link link' = (part : List Record) × GainsParts (part ∷ []) link link' × ClosesIf part x y link link'

-- Each swarm that goes on closed its channels, by rising swarm, and a stopped one sent nothing.
pub record ClosesAll (old new : Fleet) (link link' : LinkState) : Type 0 where
  pub keeps : KeepsOrder old new
  pub parts : List (List Record)
  pub many : length parts ≡ length old.peers
  pub gains : GainsParts parts link link'
  pub each : (s : ℕ) (x y : Swarm) (part : List Record) → IsAt old s x → IsAt new s y → slice_get parts s ≡ Some part
      → ClosesIf part x y link link'
