-- What runs of `record PEER LIFE` do.
use Rattle.std.specs.Prelude.{◌≡◌, ◌⊎◌, ℕ, ◌+◌, ◌-◌, ◌<◌, Option, None, Some, List, [], ◌++◌, length, reverse, slice_get, codes, decimal, Ok}
use Rattle.pp_terms.specs.Count.{HasRisen}
use Rattle.pp_terms.specs.command.Report.{line, source_fault_line}
use Rattle.pp_terms.specs.command.Stream.{SourceState, SinkState, Gains}
use Rattle.pp_traffic.specs.Serving.{window_of, ServesAll}
use Rattle.pp_world.specs.Outcome.{PeerEnd}
use Rattle.pp_world.specs.Schedule.{Schedule, most_text}
use Rattle.pp_world.specs.ScheduleRead.{read_schedule}
use Rattle.pp_world.specs.Session.{Session}
use Rattle.pp_world.specs.Worlds.{swarm_of}
use Rattle.pp_play.specs.Recording.{IsLifeRecorded, IsNoLife, IsTooLarge}
use Rattle.pp_play.specs.Replaying.{IsEnded}
use Rattle.pp_play.specs.declared.replaying.Outcome.{Outcome}
use Rattle.pp_recording.specs.Recording.{Recorded, recording_text, IsWithin}
use Rattle.pp_recording.specs.Sessions.{session}
use Rattle.pp_recording.specs.State.{RecordingState, recorded}
use Rattle.pp_store.specs.Import.{TakesAtMost}
use Rattle.pp_verdict.specs.Answers.{KnowsTreeAlone}
use Rattle.pp_node.specs.Outside.{Outside}
use Rattle.pp_node.specs.Replaying.{IsFaulty, IsCutOff}
use Rattle.pp_node.specs.Text.{Says}
use Rattle.pp_node.specs.Status.{number_of}
use Rattle.pp_node.specs.declared.status.Status.{Status}
use Rattle.pp_node.specs.declared.status.Status.TheVariants.{Done, SourceFault, SinkFault, Schedule as NoSchedule, Memory, NoLife, TooLarge}

-- ---- lines

unfoldable pub no_life_line : ℕ → ℕ → List ℕ
no_life_line peer life = line (codes "no life: peer " ++ decimal peer ++ codes " life " ++ decimal life)

unfoldable pub too_large_line : List ℕ
too_large_line = line (codes "recording: too large")

-- ---- sessions

-- the sessions of a peer, the oldest first; none where there is no such peer
abbrev pub sessions_in : Option PeerEnd → List Session
sessions_in None = []
sessions_in (Some end) = reverse end.state.sessions

abbrev pub sessions_of : List PeerEnd → ℕ → List Session
sessions_of peers peer = sessions_in (slice_get peers peer)

-- what is recorded of a session
abbrev pub recording_of : Schedule → Session → Recorded
recording_of s it = session (swarm_of s) it.book it.traffic

-- These are the peers at the end of worlds of the text's schedule.
pub record HasEnded (text : List ℕ) (schedule : Schedule) (peers : List PeerEnd) : Type 0 where
  pub read : read_schedule text ≡ Ok schedule
  pub ended : IsEnded schedule peers

-- The peer has that session, counted from 1.
pub record IsSessionOf (peers : List PeerEnd) (peer number : ℕ) (it : Session) : Type 0 where
  pub some : 0 < number
  pub there : slice_get (sessions_of peers peer) (number - 1) ≡ Some it

-- The sink gained the recording of that session of the peer, each of whose chunks was served by the rules; all that its book
-- knows of the tree is in it.
pub record IsTaped (text : List ℕ) (peer number : ℕ) (old new : SinkState) : Type 0 where
  pub schedule : Schedule
  pub peers : List PeerEnd
  pub ended : HasEnded text schedule peers
  pub it : Session
  pub is : IsSessionOf peers peer number it
  pub within : IsWithin (recording_of schedule it)
  pub alone : KnowsTreeAlone (swarm_of schedule) it.book
  pub served : ServesAll (swarm_of schedule) it.book (window_of (swarm_of schedule)) it.traffic
  pub gained : Gains old.taken (recording_text (recording_of schedule it)) new.taken

-- The peer has fewer sessions, and this is said.
pub record IsUnknownLife (text : List ℕ) (peer number : ℕ) (old new : SinkState) : Type 0 where
  pub schedule : Schedule
  pub peers : List PeerEnd
  pub ended : HasEnded text schedule peers
  pub none : (number ≡ 0) ⊎ (length (sessions_of peers peer) < number)
  pub said : Says (no_life_line peer number) old new

-- The recording of that session would pass a limit, and this is said.
pub record IsOver (text : List ℕ) (peer number : ℕ) (old new : SinkState) : Type 0 where
  pub schedule : Schedule
  pub peers : List PeerEnd
  pub ended : HasEnded text schedule peers
  pub it : Session
  pub is : IsSessionOf peers peer number it
  pub over : IsWithin (recording_of schedule it) → ⊥
  pub said : Says too_large_line old new

-- When each status comes, and what was said.
abbrev pub TapesText : List ℕ → ℕ → ℕ → Status → SinkState → SinkState → Type 0
TapesText text peer number Done old new = IsTaped text peer number old new
TapesText text peer number NoSchedule old new = IsFaulty text old new
TapesText text peer number NoLife old new = IsUnknownLife text peer number old new
TapesText text peer number TooLarge old new = IsOver text peer number old new
TapesText text peer number SinkFault old new = IsCutOff text old new
TapesText text peer number Memory old new = new ≡ old
TapesText text peer number _ old new = ⊥

-- The bytes that the source gave are read as a text.
pub record IsTapedFrom (status : Status) (peer number : ℕ) (source : SourceState) (old new : SinkState) : Type 0 where
  pub text : List ℕ
  pub same : (content : List ℕ) → source.left ≡ Some content → read_schedule content ≡ read_schedule text
  pub tapes : TapesText text peer number status old new

-- the source and the sink before and after
pub record Streams : Type 0 where
  pub source : SourceState
  pub sink : SinkState

abbrev pub streams : SourceState → SinkState → Streams
streams source sink = record { source = source; sink = sink }

abbrev pub RecordsIn : Status → ℕ → ℕ → Streams → Streams → Type 0
RecordsIn SourceFault peer number old new = HasRisen old.source.faults new.source.faults × Says source_fault_line old.sink new.sink
RecordsIn Memory peer number old new = new.sink ≡ old.sink
RecordsIn status peer number old new = IsTapedFrom status peer number old.source old.sink new.sink

-- A run of `record PEER LIFE`, by the number that it answers. It takes at most one byte more than a schedule's text may have.
pub record RecordEnds (result peer number : ℕ) (old new : Outside) : Type 0 where
  pub status : Status
  pub is_number : result ≡ number_of status
  pub ends : RecordsIn status peer number (streams old.source old.sink) (streams new.source new.sink)
  pub takes : TakesAtMost (most_text + 1) old.source new.source
  pub disk : new.disk ≡ old.disk

-- ---- a replay's outcome

-- The sink gained the recording of that life.
pub record IsPut (outcome : Outcome) (peer number : ℕ) (old new : SinkState) : Type 0 where
  pub r : RecordingState
  pub is : IsLifeRecorded outcome peer number r
  pub gained : Gains old.taken (recording_text (recorded r)) new.taken

-- When each status comes of a life of an outcome.
abbrev pub PutsLife : Outcome → ℕ → ℕ → Status → SinkState → SinkState → Type 0
PutsLife outcome peer number Done old new = IsPut outcome peer number old new
PutsLife outcome peer number NoLife old new = ((lives : ℕ) × IsNoLife outcome peer number lives) × Says (no_life_line peer number) old new
PutsLife outcome peer number TooLarge old new =
    ((records : ℕ) × (nodes : ℕ) × (bytes : ℕ) × IsTooLarge outcome peer number records nodes bytes) × Says too_large_line old new
PutsLife outcome peer number SinkFault old new = HasRisen old.faults new.faults
PutsLife outcome peer number Memory old new = new ≡ old
PutsLife outcome peer number _ old new = ⊥
