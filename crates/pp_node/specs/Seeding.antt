-- How a peer that was made ready seeds or fetches, and what is said of it.
use Rattle.std.specs.Prelude.{◌≡◌, ℕ, ◌<◌, Bool, true, false, Option, option_map, is_some, List, map, length}
use Rattle.pp_terms.specs.Count.{HasRisen}
use Rattle.pp_terms.specs.command.Report.{disk_fault_line, link_fault_line, not_a_store_line, SaysReport}
use Rattle.pp_terms.specs.command.Stream.{SinkState}
use Rattle.pp_terms.specs.command.Tally.{Tally}
use Rattle.pp_terms.specs.disk.Disk.{DiskState}
use Rattle.pp_terms.specs.format.Traffic.{Address}
use Rattle.pp_terms.specs.format.Traffic.{LinkState}
use Rattle.pp_traffic.specs.Committed.{is_in}
use Rattle.pp_promises.specs.Missing.{incomplete_line}
use Rattle.pp_counts.specs.Counts.{tally_of}
use Rattle.pp_outside.specs.Outside.{address_of}
use Rattle.pp_peer.specs.Standing.{Beginning}
use Rattle.pp_tree.specs.Book.{BookState, IsBookOf}
use Rattle.pp_core.specs.Peers.{PeerState}
use Rattle.pp_node.specs.Promising.{PeerWords}
use Rattle.pp_node.specs.Tallies.{with_earlier}
use Rattle.pp_node.specs.Text.{Says}
use Rattle.pp_turns.specs.Taking.{Ends, StopsIn}
use Rattle.pp_turns.specs.Turning.{Post, post}
use Rattle.pp_node.specs.declared.preparing.Peering.{Peering}
use Rattle.pp_node.specs.declared.preparing.SeedFault.{SeedFault}
use Rattle.pp_node.specs.declared.preparing.SeedFault.TheVariants as fault
use Rattle.pp_node.specs.declared.status.Status.{Status}
use Rattle.pp_node.specs.declared.status.Status.TheVariants.{Done, NotAStore, Incomplete, DiskFault, LinkFault, SinkFault, Memory}

-- the words as plain data
abbrev pub words_of : Peering → PeerWords
words_of w = record { store = w.store.now; descriptor = w.descriptor.now; listen = address_of w.listen.now; turns = w.turns }

-- the addresses that it is to dial
abbrev pub dials_of : Peering → List Address
dials_of w = map address_of w.dial.now.items

-- What a peer is to do: whether it fetches, how many turns it takes at most, and what was counted before it began.
pub record Service : Type 0 where
  pub fetches : Bool
  pub most : ℕ
  pub earlier : Option Tally

abbrev pub earlier_of : Peering → Option Tally
earlier_of w = option_map (λ counts. tally_of counts.now) w.earlier

abbrev pub service_of : Peering → Service
service_of w = record { fetches = is_some w.asks; most = w.turns; earlier = earlier_of w }

-- the set of a peer's committed chunks
abbrev pub set_of : PeerState → List Bool
set_of p = p.parts.holding.store.committed

-- all chunks are in the set
abbrev pub HasEvery : List Bool → Type 0
HasEvery set = (i : ℕ) → i < length set → is_in set i ≡ true

-- The first chunk that a fetch lacks is named.
pub record NamesFirst (set : List Bool) (old new : SinkState) : Type 0 where
  pub first : ℕ
  pub within : first < length set
  pub missing : is_in set first ≡ false
  pub before : (i : ℕ) → i < first → is_in set i ≡ true
  pub said : Says (incomplete_line first) old new

abbrev pub Judges : Status → Bool → PeerState → SinkState → SinkState → Type 0
Judges Done fetches p old new = (new ≡ old) × (fetches ≡ true → HasEvery (set_of p))
Judges Incomplete fetches p old new = (fetches ≡ true) × NamesFirst (set_of p) old new
Judges _ fetches p old new = ⊥

-- what is reported of a peer's counts
abbrev pub told_of : Option Tally → PeerState → Tally
told_of earlier p = with_earlier earlier (tally_of p.parts.counts)

-- The first missing chunk was named behind the report.
pub record NamesBehind (earlier : Option Tally) (p : PeerState) (old new : SinkState) : Type 0 where
  pub between : SinkState
  pub reported : SaysReport (set_of p) (told_of earlier p) old between
  pub names : NamesFirst (set_of p) between new

-- The report was said, and what is to be said behind it; or the sink refused something.
abbrev pub Finishes : Status → Service → PeerState → SinkState → SinkState → Type 0
Finishes Done service p old new =
    (service.fetches ≡ true → HasEvery (set_of p)) × SaysReport (set_of p) (told_of service.earlier p) old new
Finishes Incomplete service p old new = (service.fetches ≡ true) × NamesBehind service.earlier p old new
Finishes SinkFault service p old new = HasRisen old.faults new.faults
Finishes _ service p old new = ⊥

-- The turns were taken, the channels closed, and it was reported; or the disk refused something in a turn.
abbrev pub Serves : Status → Service → Beginning → Post → Post → SinkState → SinkState → Type 0
Serves Done service b first last old new =
    Ends b service.most service.fetches first last × Finishes Done service last.peer old new
Serves Incomplete service b first last old new =
    Ends b service.most service.fetches first last × Finishes Incomplete service last.peer old new
Serves SinkFault service b first last old new =
    Ends b service.most service.fetches first last × Finishes SinkFault service last.peer old new
Serves DiskFault service b first last old new = StopsIn b service.most first last × Says disk_fault_line old new
Serves _ service b first last old new = ⊥

-- A peer served, and its book is the book.
pub record HasServed (status : Status) (service : Service) (b : Beginning) (first : Post) (disk : DiskState) (link : LinkState)
    (book : BookState) (old new : SinkState) : Type 0 where
  pub last : PeerState
  pub serves : Serves status service b first (post last disk link) old new
  pub book_is : book ≡ last.parts.holding.book
  pub rooted : IsBookOf last.parts.holding.store.descriptor book

-- what is said of a fault, and the status that stands for it
abbrev pub ReportsSeed : SeedFault → Status → SinkState → SinkState → Type 0
ReportsSeed (fault.NotAStore at found want) status old new = (status ≡ NotAStore) × Says (not_a_store_line at found want) old new
ReportsSeed fault.Disk status old new = (status ≡ DiskFault) × Says disk_fault_line old new
ReportsSeed fault.Link status old new = (status ≡ LinkFault) × Says link_fault_line old new
ReportsSeed fault.Memory status old new = (status ≡ Memory) × (new ≡ old)
