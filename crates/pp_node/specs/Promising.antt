-- What a run of `seed STORE DESCRIPTOR LISTEN TURNS` or `fetch STORE DESCRIPTOR LISTEN TURNS ORDER PEER..` promises.
use Rattle.std.specs.Prelude.{◌≡◌, ◌⊎◌, ℕ, ◌<◌, ◌≤◌, Bool, true, Option, Some, None, List, [], ◌++◌, length}
use Rattle.std.specs.List.{AllByRecursion}
use Rattle.pp_terms.specs.Count.{HasRisen}
use Rattle.pp_terms.specs.command.Report.{disk_fault_line, SaysReport}
use Rattle.pp_terms.specs.command.Stream.{SinkState}
use Rattle.pp_terms.specs.command.Tally.{Tally}
use Rattle.pp_terms.specs.disk.Disk.{IsKnown, GainsName, moment_of}
use Rattle.pp_terms.specs.disk.Image.{is_found}
use Rattle.pp_terms.specs.disk.Untouched.{IsFreshlyAttached, IsSyncedAtMost}
use Rattle.pp_terms.specs.format.Descriptor.{Descriptor, chunks_of}
use Rattle.pp_terms.specs.format.Traffic.{Address, LinkState, Record, GainsRecords, GainsAddress}
use Rattle.pp_traffic.specs.Committed.{is_in, AreCommitted, RequestsNone}
use Rattle.pp_traffic.specs.Keeping.{Keeps}
use Rattle.pp_traffic.specs.Meter.{lets_send}
use Rattle.pp_traffic.specs.Serving.{ServesAll}
use Rattle.pp_traffic.specs.Tallied.{TookTurns, IsTallied}
use Rattle.pp_traffic.specs.Turns.{is_closing}
use Rattle.pp_promises.specs.Datagrams.{IsWhole, PlansAll}
use Rattle.pp_promises.specs.Announced.{AcknowledgesAll, TellsAll}
use Rattle.pp_promises.specs.Answered.{LetsInBut, ChokesNone, KeepsUpBut}
use Rattle.pp_promises.specs.Asked.{DialsBut, AsksBut}
use Rattle.pp_promises.specs.Premises.{Devices, IsCalm, IsWilling, IsSteady, CountsTell, refusals}
use Rattle.pp_promises.specs.Served.{ServesBut}
use Rattle.pp_promises.specs.Stored.{StoresAll}
use Rattle.pp_promises.specs.Missing.{IsComplete, IsFirstMissing, incomplete_line}
use Rattle.pp_tree.specs.Book.{entry, IsBookOf}
use Rattle.pp_lives.specs.declared.lives.Far.{Far}
use Rattle.pp_peer.specs.declared.parts.Parts.{Parts}
use Rattle.pp_peer.specs.Greeting.{fars_of}
use Rattle.pp_peer.specs.Greeting as farewells
use Rattle.pp_peer.specs.Standing.{Beginning, StandsFor}
use Rattle.pp_node.specs.Looking.{IsOf, Lasts}
use Rattle.pp_node.specs.Outside.{Outside}
use Rattle.pp_node.specs.Faults.{Faults}
use Rattle.pp_node.specs.Status.{number_of}
use Rattle.pp_node.specs.Tallies.{with_earlier}
use Rattle.pp_node.specs.Text.{Says}
use Rattle.pp_node.specs.declared.status.Status.{Status}
use Rattle.pp_node.specs.declared.status.Status.TheVariants.{Done, NotAStore, Incomplete, DiskFault, LinkFault, SinkFault, Memory}

-- what the words of a `seed` name, and the first ones of a `fetch`
pub record PeerWords : Type 0 where
  pub store : List ℕ
  pub descriptor : Descriptor
  pub listen : Address
  pub turns : ℕ

-- Behind the last turn nothing was sent but closing handshakes (RFC 7574, section 8.4): one on each channel whose other peer was
-- proven, unless the link refused something. The peer stood for the records of the turns.
pub record IsClosed (d : Descriptor) (old new : Outside) (added : List Record) : Type 0 where
  pub turned : List Record
  pub last : List Record
  pub behind : added ≡ last ++ turned
  pub closing : AllByRecursion (λ r. is_closing d r ≡ true) last
  pub beginning : Beginning
  pub swarm : beginning.d ≡ d
  pub refused : ℕ
  pub peer : Parts
  pub stands : StandsFor beginning refused peer turned
  pub each : (seat : ℕ) (far : Far) → seat < 64 → fars_of peer seat ≡ Some far → far.proven ≡ true
      → farewells.IsClosed d (moment_of new.disk.history) far last ⊎ HasRisen old.link.faults new.link.faults

-- A number of turns were taken, and the channels closed, in which the link gained these records: one set of committed chunks, and one
-- tally, of which all is said.
pub record HasRun (w : PeerWords) (taken : ℕ) (old new : Outside) (added : List Record) : Type 0 where
  pub committed : List Bool
  pub tally : Tally
  -- what was announced is committed, and stands now; what stood throughout at the attachment is committed
  pub are : AreCommitted w.descriptor new.disk added committed
  -- so are the chunks that were found at the attachment, of a file that was empty or the descriptor's
  pub found : IsKnown old.disk → (i : ℕ) → i < chunks_of w.descriptor → is_found w.descriptor new.disk.history.found i ≡ true
      → is_in committed i ≡ true
  pub begins : IsKnown old.disk → IsOf w.descriptor new.disk.history.found
  pub took : TookTurns taken old.link new.link added
  pub tallied : IsTallied tally taken added
  pub closed : IsClosed w.descriptor old new added
  pub rooted : IsBookOf w.descriptor new.book

-- The disk refused a write or a sync in the last of these turns, and nothing was sent after that.
pub record IsStopped (w : PeerWords) (old new : Outside) (added : List Record) : Type 0 where
  pub taken : ℕ
  pub some : 0 < taken
  pub within : taken ≤ w.turns
  pub took : TookTurns taken old.link new.link added
  pub hard : HasRisen old.disk.hard new.disk.hard
  pub begins : IsKnown old.disk → IsOf w.descriptor new.disk.history.found
  pub said : Says disk_fault_line old.sink new.sink
  pub rooted : IsBookOf w.descriptor new.book

-- No turn was taken; and to a file that wasn't empty nothing was written, and it was synced once at the most.
pub record IsUnturned (old new : Outside) (added : List Record) : Type 0 where
  pub none : added ≡ []
  pub nexts : new.link.nexts ≡ old.link.nexts
  pub unwritten : IsKnown old.disk → 0 < length new.disk.history.found → IsSyncedAtMost new.disk.history

-- When each status comes in which the command wasn't done to its end, and what was said.
abbrev pub FaultsIn : Status → PeerWords → Outside → Outside → List Record → Type 0
FaultsIn NotAStore w old new added = Faults true NotAStore w.descriptor old new × IsUnturned old new added
FaultsIn DiskFault w old new added =
    (Faults true DiskFault w.descriptor old new × IsUnturned old new added) ⊎ IsStopped w old new added
FaultsIn LinkFault w old new added = Faults true LinkFault w.descriptor old new × IsUnturned old new added
FaultsIn Memory w old new added = Faults true Memory w.descriptor old new × IsUnturned old new added
FaultsIn _ w old new added = ⊥

-- When each status of a `seed` comes, and what was said.
abbrev pub SeedsIn : Status → PeerWords → Outside → Outside → List Record → Type 0
SeedsIn Done w old new added = (r : HasRun w w.turns old new added) × SaysReport r.committed r.tally old.sink new.sink
SeedsIn SinkFault w old new added = HasRun w w.turns old new added × HasRisen old.sink.faults new.sink.faults
SeedsIn status w old new added = FaultsIn status w old new added

-- Some chunk isn't in the set, and the first of those was named behind the report.
pub record IsIncomplete (d : Descriptor) (set : List Bool) (tally : Tally) (old new : SinkState) : Type 0 where
  pub first : ℕ
  pub missing : IsFirstMissing d set first
  pub between : SinkState
  pub reported : SaysReport set tally old between
  pub said : Says (incomplete_line first) between new

-- At most the turns that the words name were taken; fewer only where all chunks were committed then.
pub record HasFetched (w : PeerWords) (old new : Outside) (added : List Record) : Type 0 where
  pub taken : ℕ
  pub within : taken ≤ w.turns
  pub run : HasRun w taken old new added
  pub early : taken < w.turns → IsComplete w.descriptor run.committed

-- When each status of a `fetch` comes, and what was said: the report adds what was counted before the peer began.
abbrev pub FetchesIn : Status → (earlier : Option Tally) → PeerWords → Outside → Outside → List Record → Type 0
FetchesIn Done earlier w old new added = (f : HasFetched w old new added) × IsComplete w.descriptor f.run.committed
    × SaysReport f.run.committed (with_earlier earlier f.run.tally) old.sink new.sink
FetchesIn Incomplete earlier w old new added = (r : HasRun w w.turns old new added)
    × IsIncomplete w.descriptor r.committed (with_earlier earlier r.tally) old.sink new.sink
FetchesIn SinkFault earlier w old new added = HasFetched w old new added × HasRisen old.sink.faults new.sink.faults
FetchesIn status earlier w old new added = FaultsIn status w old new added

-- Nothing was done on the disk since the attachment, where the file is another's, the link refused to listen or memory ran out.
pub record LeavesFile (status : Status) (old new : Outside) : Type 0 where
  pub other : status ≡ NotAStore → IsKnown old.disk → IsFreshlyAttached new.disk.history
  pub unbound : status ≡ LinkFault → IsKnown old.disk → IsFreshlyAttached new.disk.history
  pub no_memory : status ≡ Memory → IsKnown old.disk → IsFreshlyAttached new.disk.history

-- The link was bound to that address, unless it refused, or the store was refused before.
abbrev pub Binds : Status → Address → LinkState → LinkState → Type 0
Binds NotAStore listen old new = (new.bound ≡ old.bound) ⊎ GainsAddress old.bound listen new.bound
Binds DiskFault listen old new = (new.bound ≡ old.bound) ⊎ GainsAddress old.bound listen new.bound
Binds LinkFault listen old new = new.bound ≡ old.bound
Binds _ listen old new = GainsAddress old.bound listen new.bound

-- the devices that count what they refuse
abbrev pub devices_of : Outside → Devices
devices_of o = record { disk = o.disk; link = o.link; sink = o.sink }

-- What a run promises of the ends of its turns, while the disk, which is honest and tells, refuses nothing but readings. Where every
-- image was sound at the attachment, what comes on a plain channel and is proved by what its peer claims is held, or the book
-- contradicts it. Of a link that tells, at the end of every turn but so many as something was refused: of the channels that may be
-- served none is left more chunks that it was told of, and asked for, than something was refused; a datagram went on each plain
-- channel in the last 120 seconds; a newcomer that began the turn was let in. Nobody was choked while there were slots for all. Where
-- the link refused nothing, each plain channel was told of what was announced before, or stood in every image at the attachment, or
-- of 64 new chunks in the turn; and a chunk that came first, and is proved and agrees with the book, was acknowledged on its channel
-- by the end of the next turn in which nothing came.
pub record IsKeptTo (d : Descriptor) (old new : Outside) (added : List Record) : Type 0 where
  pub stores : IsSteady d old.disk new.disk → StoresAll d (entry new.book) new.disk.history.reads added
  pub serves_owed : (before : List Record) → old.link.traffic ≡ Some before → IsSteady d old.disk new.disk → CountsTell (devices_of new)
      → ServesBut (refusals (devices_of old) (devices_of new)) d (lets_send d.chunk) new.disk.history added
  pub keeps_up : (before : List Record) → old.link.traffic ≡ Some before → IsWilling old.disk new.disk → CountsTell (devices_of new)
      → KeepsUpBut (refusals (devices_of old) (devices_of new)) d added
  pub lets_in : (before : List Record) → old.link.traffic ≡ Some before → IsWilling old.disk new.disk → CountsTell (devices_of new)
      → LetsInBut (refusals (devices_of old) (devices_of new)) d added
  pub chokes_none : (before : List Record) → old.link.traffic ≡ Some before → IsWilling old.disk new.disk
      → ChokesNone (refusals (devices_of old) (devices_of new)) d added
  pub tells : (before : List Record) → old.link.traffic ≡ Some before → IsSteady d old.disk new.disk
      → IsCalm old.link.faults new.link.faults → TellsAll d new.disk.history added
  pub acknowledges : (before : List Record) → old.link.traffic ≡ Some before → IsSteady d old.disk new.disk
      → IsCalm old.link.faults new.link.faults → AcknowledgesAll d (entry new.book) added

-- What each of them promises, whatever the status. Of a link that tells its traffic, every chunk that was sent has its hash path in
-- the book, answers an outstanding request of an unchoked peer, brings the hashes that the peer lacks, exactly those of its plan, and
-- fits its LEDBAT window (RFC 6817); every datagram that was sent is read to its end. Of a disk that is honest and tells, every
-- announced chunk, and each that stood in every image at the attachment, stands in each image that a crash at any later moment leaves:
-- the first if every image was sound at the attachment, and then each goes on being sound.
pub record PeerEnds (result : ℕ) (w : PeerWords) (old new : Outside) : Type 0 where
  pub status : Status
  pub number : result ≡ number_of status
  -- what the link gained
  pub added : List Record
  pub gained : GainsRecords old.link.traffic added new.link.traffic
  pub serves : ServesAll w.descriptor (entry new.book) (lets_send w.descriptor.chunk) added
  pub plans : PlansAll w.descriptor (lets_send w.descriptor.chunk) added
  pub whole : AllByRecursion (IsWhole w.descriptor) added
  pub keeps : IsKnown old.disk → Keeps w.descriptor new.disk.history added
  pub lasts : IsKnown old.disk → Lasts w.descriptor new.disk.history
  -- the store was attached by its name and the link bound to its address; the source isn't read
  pub named : IsKnown old.disk → GainsName old.disk.history.names w.store new.disk.history.names
  pub bound : Binds status w.listen old.link new.link
  pub leaves : LeavesFile status old new
  pub unread : new.source ≡ old.source
  pub rooted : (new.book ≡ old.book) ⊎ IsBookOf w.descriptor new.book

-- A run of `seed`, by the number that it answers: why it ended so, and what was said. No chunk is asked for.
pub record SeedEnds (result : ℕ) (w : PeerWords) (old new : Outside) : Type 0 where
  pub run : PeerEnds result w old new
  pub kept_to : IsKeptTo w.descriptor old new run.added
  pub asks_none : RequestsNone w.descriptor run.added
  pub ends : SeedsIn run.status w old new run.added

-- Where a turn was taken, each of at most 16 addresses was dialled in the first, but that of a datagram that came in it, and but for
-- as many as something was refused.
abbrev pub DialsAsTold : Descriptor → List Address → Outside → Outside → List Record → Type 0
DialsAsTold d dial old new added = length dial ≤ 16 → old.link.nexts < new.link.nexts → (before : List Record)
    → old.link.traffic ≡ Some before → IsWilling old.disk new.disk → CountsTell (devices_of new)
    → DialsBut (refusals (devices_of old) (devices_of new)) d dial added

-- While the disk, which is honest and tells, refuses nothing but readings, and every image was sound at the attachment: at the end of
-- every turn but so many as something was refused, each chunk was asked for that a channel offers which may be asked, or is held at
-- the end.
abbrev pub AsksAsOffered : Descriptor → Outside → Outside → List Record → Type 0
AsksAsOffered d old new added = (before : List Record) → old.link.traffic ≡ Some before
    → IsSteady d old.disk new.disk → CountsTell (devices_of new)
    → AsksBut (refusals (devices_of old) (devices_of new)) d new.disk.history.reads added

-- A run of `fetch`, which is to dial these addresses, behind a part of the run that counted something.
pub record FetchEndsBehind (earlier : Option Tally) (result : ℕ) (w : PeerWords) (dial : List Address) (old new : Outside) : Type 0 where
  pub run : PeerEnds result w old new
  pub kept_to : IsKeptTo w.descriptor old new run.added
  pub dials : DialsAsTold w.descriptor dial old new run.added
  pub asks : AsksAsOffered w.descriptor old new run.added
  pub ends : FetchesIn run.status earlier w old new run.added

-- A run of `fetch`, with nothing before it.
abbrev pub FetchEnds : (result : ℕ) → PeerWords → List Address → Outside → Outside → Type 0
FetchEnds = FetchEndsBehind None
