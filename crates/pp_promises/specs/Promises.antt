-- What a run of `seed` or `fetch` promises once its turns began, whatever status it ends with: of every record that its link
-- gained, and of the ends of its turns.
use Rattle.std.specs.Prelude.{◌≡◌, ℕ, ◌<◌, ◌≤◌, Bool, List}
use Rattle.std.specs.List.{AllByRecursion}
use Rattle.pp_terms.specs.command.Report.{SaysReport}
use Rattle.pp_terms.specs.command.Tally.{Tally}
use Rattle.pp_terms.specs.disk.Disk.{DiskState, IsKnown}
use Rattle.pp_terms.specs.format.Descriptor.{Descriptor}
use Rattle.pp_terms.specs.format.Traffic.{Address, Record, GainsRecords}
use Rattle.pp_terms.specs.tree.Book.{LookUp, IsRooted}
use Rattle.pp_traffic.specs.Committed.{AreCommitted, RequestsNone}
use Rattle.pp_traffic.specs.Keeping.{Keeps}
use Rattle.pp_traffic.specs.Serving.{window_of, ServesAll}
use Rattle.pp_traffic.specs.Tallied.{TookTurns, IsTallied}
use Rattle.pp_traffic.specs.Turns.{ClosesLast}
use Rattle.pp_promises.specs.Premises.{Devices, IsCalm, IsWilling, IsSteady, CountsTell, refusals}
use Rattle.pp_promises.specs.Stored.{StoresAll}
use Rattle.pp_promises.specs.Served.{ServesBut}
use Rattle.pp_promises.specs.Announced.{AcknowledgesAll, TellsAll}
use Rattle.pp_promises.specs.Answered.{LetsInBut, ChokesNone, KeepsUpBut}
use Rattle.pp_promises.specs.Asked.{DialsBut, AsksBut}
use Rattle.pp_promises.specs.Datagrams.{IsWhole, PlansAll}
use Rattle.pp_promises.specs.Missing.{IsComplete, IsFirstMissing, SaysIncomplete}

-- What the words of a command ask of a run: for how many turns, whether it fetches, and from whom.
pub data Task : Type 0 where
  Seeding : (turns : ℕ) → Task
  Fetching : (turns : ℕ) (dial : List Address) → Task

abbrev pub turns_of : Task → ℕ
turns_of (Seeding turns) = turns
turns_of (Fetching turns dial) = turns

-- What a run came to: the book that it left, how many turns it took, and the records that its link gained.
pub record Course : Type 0 where
  pub book : LookUp
  pub taken : ℕ
  pub added : List Record

-- Over any disk and any link: every chunk that was sent has its hash path in the book, answers an outstanding request of an
-- unchoked peer, brings the hashes that the peer lacks, and no others, and fits its window; and every datagram is whole.
pub record IsSafe (d : Descriptor) (book : LookUp) (added : List Record) : Type 0 where
  pub serves : ServesAll d book (window_of d) added
  pub plans : PlansAll d (window_of d) added
  pub whole : AllByRecursion (IsWhole d) added
  pub closes_last : ClosesLast d added

-- While the disk is honest and tells, began sound and refuses nothing but readings, what is proved is stored.
abbrev pub IsStored : Descriptor → LookUp → DiskState → List Record → Type 0
IsStored d book new added = StoresAll d book new.history.reads added

-- While the link refuses nothing either, what came is acknowledged, and what is held is told of.
pub record IsAnnounced (d : Descriptor) (book : LookUp) (new : DiskState) (added : List Record) : Type 0 where
  pub acknowledges : AcknowledgesAll d book added
  pub tells : TellsAll d new.history added

-- But for so many turns or peers: who knocks is let in, nobody is choked without need or left in silence.
pub record IsPrompt (r : ℕ) (d : Descriptor) (added : List Record) : Type 0 where
  pub lets_in : LetsInBut r d added
  pub chokes_none : ChokesNone r d added
  pub keeps_up : KeepsUpBut r d added

-- A peer that fetches dials all that it was given, and asks for all that it is offered, but for so many.
pub record IsAsking (r : ℕ) (d : Descriptor) (dial : List Address) (new : DiskState) (run : Course) : Type 0 where
  pub dials : 0 < run.taken → DialsBut r d dial run.added
  pub asks : AsksBut r d new.history.reads run.added

abbrev pub Asks : ℕ → Descriptor → Task → DiskState → Course → Type 0
Asks r d (Seeding turns) new run = Unit {0}
Asks r d (Fetching turns dial) new run = IsAsking r d dial new run

-- A peer that doesn't fetch asks for nothing.
abbrev pub AsksAsTold : Descriptor → Task → List Record → Type 0
AsksAsTold d (Seeding turns) added = RequestsNone d added
AsksAsTold d (Fetching turns dial) added = Unit {0}

-- The whole promise on traffic.
pub record Promises (d : Descriptor) (task : Task) (old new : Devices) (run : Course) : Type 0 where
  pub gained : GainsRecords old.link.traffic run.added new.link.traffic
  pub few : run.taken ≤ turns_of task
  pub took : TookTurns run.taken old.link new.link run.added
  pub rooted : IsRooted d run.book
  pub safe : IsSafe d run.book run.added
  pub keeps : IsKnown old.disk → Keeps d new.disk.history run.added
  pub requests : AsksAsTold d task run.added
  pub stores : IsSteady d old.disk new.disk → IsStored d run.book new.disk run.added
  pub announces : IsSteady d old.disk new.disk → IsCalm old.link.faults new.link.faults
      → IsAnnounced d run.book new.disk run.added
  pub serves : IsSteady d old.disk new.disk → CountsTell new → ServesBut (refusals old new) d (window_of d) new.disk.history run.added
  pub prompt : IsWilling old.disk new.disk → CountsTell new → IsPrompt (refusals old new) d run.added
  pub asks : IsSteady d old.disk new.disk → CountsTell new → Asks (refusals old new) d task new.disk run

-- ---- the ends that report

-- One set of committed chunks, and one tally, are meant by all that is said.
pub record IsCounted (d : Descriptor) (new : DiskState) (run : Course) (committed : List Bool) (tally : Tally) : Type 0 where
  pub are : AreCommitted d new run.added committed
  pub tallied : IsTallied tally run.taken run.added

-- A run of `seed` is done after all its turns.
pub record IsSeeded (d : Descriptor) (task : Task) (old new : Devices) (run : Course) : Type 0 where
  pub all : run.taken ≡ turns_of task
  pub committed : List Bool
  pub tally : Tally
  pub counted : IsCounted d new.disk run committed tally
  pub said : SaysReport committed tally old.sink new.sink

-- A run of `fetch` is done once it has every chunk; and it is incomplete where all turns were taken and it hasn't.
pub record IsFetched (d : Descriptor) (old new : Devices) (run : Course) : Type 0 where
  pub committed : List Bool
  pub tally : Tally
  pub counted : IsCounted d new.disk run committed tally
  pub complete : IsComplete d committed
  pub said : SaysReport committed tally old.sink new.sink

pub record IsIncomplete (d : Descriptor) (task : Task) (old new : Devices) (run : Course) : Type 0 where
  pub all : run.taken ≡ turns_of task
  pub committed : List Bool
  pub tally : Tally
  pub counted : IsCounted d new.disk run committed tally
  pub first : ℕ
  pub missing : IsFirstMissing d committed first
  pub said : SaysIncomplete committed tally first old.sink new.sink
