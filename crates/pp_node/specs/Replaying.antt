-- What runs of `replay` and `rehearse NUMBER` do.
use Rattle.std.specs.Prelude.{◌≡◌, ℕ, ◌+◌, Some, List, Ok, Err}
use Rattle.pp_terms.specs.Count.{HasRisen}
use Rattle.pp_terms.specs.command.Report.{source_fault_line}
use Rattle.pp_terms.specs.command.Stream.{SourceState, SinkState, Gains}
use Rattle.pp_world.specs.Outcome.{AreLines, PeerEnd}
use Rattle.pp_world.specs.Rehearsal.{first_words, rehearsal_key, rehearsal_text}
use Rattle.pp_world.specs.Schedule.{Schedule, most_text}
use Rattle.pp_world.specs.ScheduleFault.{ScheduleFault, schedule_line}
use Rattle.pp_world.specs.ScheduleRead.{read_schedule}
use Rattle.pp_play.specs.Replaying.{IsEnded}
use Rattle.pp_store.specs.Import.{TakesAtMost}
use Rattle.pp_node.specs.Outside.{Outside}
use Rattle.pp_node.specs.Text.{Says}
use Rattle.pp_node.specs.Status.{number_of}
use Rattle.pp_node.specs.declared.status.Status.{Status}
use Rattle.pp_node.specs.declared.status.Status.TheVariants.{Done, SourceFault, SinkFault, Schedule as NoSchedule, Memory}

-- The text is a schedule, and the sink gained a line for each of its peers, as they are at the end of worlds of it.
pub record IsShown (text : List ℕ) (old new : SinkState) : Type 0 where
  pub schedule : Schedule
  pub read : read_schedule text ≡ Ok schedule
  pub peers : List PeerEnd
  pub ended : IsEnded schedule peers
  pub lines : List ℕ
  pub are : AreLines 0 peers lines
  pub gained : Gains old.taken lines new.taken

-- The text is no schedule, and its first faulty line was named.
pub record IsFaulty (text : List ℕ) (old new : SinkState) : Type 0 where
  pub fault : ScheduleFault
  pub read : read_schedule text ≡ Err fault
  pub said : Says (schedule_line fault) old new

-- The text is a schedule, and the sink refused a line.
pub record IsCutOff (text : List ℕ) (old new : SinkState) : Type 0 where
  pub schedule : Schedule
  pub read : read_schedule text ≡ Ok schedule
  pub risen : HasRisen old.faults new.faults

-- When each status comes, and what was said.
abbrev pub PlaysText : List ℕ → Status → SinkState → SinkState → Type 0
PlaysText text Done old new = IsShown text old new
PlaysText text NoSchedule old new = IsFaulty text old new
PlaysText text SinkFault old new = IsCutOff text old new
PlaysText text Memory old new = new ≡ old
PlaysText text _ old new = ⊥

-- The bytes that the source gave are read as a text.
pub record IsRead (status : Status) (source : SourceState) (old new : SinkState) : Type 0 where
  pub text : List ℕ
  pub same : (content : List ℕ) → source.left ≡ Some content → read_schedule content ≡ read_schedule text
  pub plays : PlaysText text status old new

abbrev pub ReplaysIn : Status → (source source' : SourceState) → (old new : SinkState) → Type 0
ReplaysIn SourceFault source source' old new = HasRisen source.faults source'.faults × Says source_fault_line old new
ReplaysIn Memory source source' old new = new ≡ old
ReplaysIn status source source' old new = IsRead status source old new

-- A run of `replay`, by the number that it answers. It takes at most one byte more than a text may have.
pub record ReplayEnds (result : ℕ) (old new : Outside) : Type 0 where
  pub status : Status
  pub number : result ≡ number_of status
  pub ends : ReplaysIn status old.source new.source old.sink new.sink
  pub takes : TakesAtMost (most_text + 1) old.source new.source
  pub disk : new.disk ≡ old.disk

-- A run of `rehearse NUMBER`.
pub record RehearseEnds (result number : ℕ) (old new : Outside) : Type 0 where
  pub status : Status
  pub is_number : result ≡ number_of status
  pub ends : PlaysText (rehearsal_text (first_words 2002 (rehearsal_key number))) status old.sink new.sink
  pub source : new.source ≡ old.source
  pub disk : new.disk ≡ old.disk
