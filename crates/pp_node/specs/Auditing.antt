-- What runs of `audit` do.
use Rattle.std.specs.Prelude.{◌≡◌, ℕ, ◌+◌, Some, List, ◌++◌, take, codes, decimal}
use Rattle.pp_terms.specs.Count.{HasRisen}
use Rattle.pp_terms.specs.command.Report.{line, source_fault_line}
use Rattle.pp_terms.specs.command.Stream.{SourceState, SinkState, Gains}
use Rattle.pp_tree.specs.Book.{entry}
use Rattle.pp_recording.specs.Recording.{recording_text, most_text, IsFirstFault}
use Rattle.pp_recording.specs.State.{RecordingState, recorded, IsWhole}
use Rattle.pp_store.specs.Import.{TakesAtMost}
use Rattle.pp_verdict.specs.Answers as answers
use Rattle.pp_verdict.specs.Answers.{IsServed}
use Rattle.pp_verdict.specs.Faults as parts
use Rattle.pp_verdict.specs.declared.answer.Part.{Part}
use Rattle.pp_node.specs.Outside.{Outside}
use Rattle.pp_node.specs.Recordings.{Streams, streams}
use Rattle.pp_node.specs.Text.{Says}
use Rattle.pp_node.specs.Status.{number_of}
use Rattle.pp_node.specs.declared.status.Status.{Status}
use Rattle.pp_node.specs.declared.status.Status.TheVariants.{Done, SourceFault, SinkFault, Memory, AuditNo, Recording as NoRecording}

-- ---- lines

unfoldable pub audit_yes_line : ℕ → ℕ → List ℕ
audit_yes_line records chunks = line (codes "audit yes " ++ decimal records ++ codes " records " ++ decimal chunks ++ codes " data")

unfoldable pub audit_no_line : ℕ → Part → List ℕ
audit_no_line place part = line (codes "audit no record " ++ decimal place ++ codes " part " ++ decimal (parts.number_of part))

unfoldable pub recording_fault_line : ℕ → List ℕ
recording_fault_line n = line (codes "recording: line " ++ decimal n)

-- ---- the answer

-- Each chunk that was sent was served, and the sink gained the line.
pub record IsYesSaid (r : RecordingState) (old new : SinkState) : Type 0 where
  pub records : ℕ
  pub chunks : ℕ
  pub served : IsServed r.descriptor (entry r.book) (recorded r).records records chunks
  pub gained : Gains old.taken (audit_yes_line records chunks) new.taken

-- The first record that isn't served was named, with its part.
pub record IsNoSaid (r : RecordingState) (old new : SinkState) : Type 0 where
  pub place : ℕ
  pub part : Part
  pub fault : answers.IsFirstFault r.descriptor (entry r.book) (recorded r).records place part
  pub said : Says (audit_no_line place part) old new

-- Each chunk was served, and the sink refused the line.
pub record IsYesRefused (r : RecordingState) (old new : SinkState) : Type 0 where
  pub records : ℕ
  pub chunks : ℕ
  pub served : IsServed r.descriptor (entry r.book) (recorded r).records records chunks
  pub risen : HasRisen old.faults new.faults

abbrev pub AnswersIn : RecordingState → Status → SinkState → SinkState → Type 0
AnswersIn r Done old new = IsYesSaid r old new
AnswersIn r AuditNo old new = IsNoSaid r old new
AnswersIn r SinkFault old new = IsYesRefused r old new
AnswersIn r Memory old new = new ≡ old
AnswersIn r _ old new = ⊥

-- The text is that of a recording, and is answered so.
pub record IsAudited (text : List ℕ) (status : Status) (old new : SinkState) : Type 0 where
  pub r : RecordingState
  pub whole : IsWhole r
  pub spelled : text ≡ recording_text (recorded r)
  pub answer : AnswersIn r status old new

-- The text is no recording's within the limits, and its first faulty line was named, 0 for a text that is too long.
pub record IsNoRecording (text : List ℕ) (old new : SinkState) : Type 0 where
  pub at : ℕ
  pub fault : IsFirstFault text at
  pub said : Says (recording_fault_line at) old new

-- When each status comes, and what was said.
abbrev pub AuditsText : List ℕ → Status → SinkState → SinkState → Type 0
AuditsText text NoRecording old new = IsNoRecording text old new
AuditsText text Memory old new = new ≡ old
AuditsText text status old new = IsAudited text status old new

-- The bytes that the source gave, but for what stands behind one byte more than a text may have, are the text.
pub record IsAuditedFrom (status : Status) (source : SourceState) (old new : SinkState) : Type 0 where
  pub text : List ℕ
  pub same : (content : List ℕ) → source.left ≡ Some content → text ≡ take (most_text + 1) content
  pub audits : AuditsText text status old new

abbrev pub AuditsIn : Status → Streams → Streams → Type 0
AuditsIn SourceFault old new = HasRisen old.source.faults new.source.faults × Says source_fault_line old.sink new.sink
AuditsIn Memory old new = new.sink ≡ old.sink
AuditsIn status old new = IsAuditedFrom status old.source old.sink new.sink

-- A run of `audit`, by the number that it answers. It takes at most one byte more than a recording's text may have.
pub record AuditEnds (result : ℕ) (old new : Outside) : Type 0 where
  pub status : Status
  pub number : result ≡ number_of status
  pub ends : AuditsIn status (streams old.source old.sink) (streams new.source new.sink)
  pub takes : TakesAtMost (most_text + 1) old.source new.source
  pub disk : new.disk ≡ old.disk
