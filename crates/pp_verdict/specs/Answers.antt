-- What is meant by the answer of an audit: each chunk that was sent was served, or a record is the first that was not.
use Rattle.std.specs.Prelude.{◌≡◌, ℕ, Some, List, ◌∷◌, ◌++◌, length, count_by}
use Rattle.pp_terms.specs.format.Traffic.{Record}
use Rattle.pp_terms.specs.format.Descriptor.{Descriptor}
use Rattle.pp_terms.specs.tree.Book.{LookUp}
use Rattle.pp_traffic.specs.Serving.{window_of, ServesAll}
use Rattle.pp_tree.specs.Book.{entry, IsInTree}
use Rattle.pp_recording.specs.Recording.{recording_text, IsWithin}
use Rattle.pp_recording.specs.Sessions.{session}
use Rattle.pp_recording.specs.State.{RecordingState, recorded, IsWhole}
use Rattle.pp_verdict.specs.Chunks.{has_chunk}
use Rattle.pp_verdict.specs.Faults.{Fails}
use Rattle.pp_verdict.specs.declared.answer.Part.{Part}
use Rattle.pp_verdict.specs.declared.answer.Answer.{Answer}
use Rattle.pp_verdict.specs.declared.answer.Answer.TheVariants.{Yes, No}

-- Each record serves; there are so many, and so many sent datagrams with a chunk.
pub record IsServed (d : Descriptor) (book : LookUp) (rs : List Record) (records chunks : ℕ) : Type 0 where
  pub all : ServesAll d book (window_of d) rs
  pub count : records ≡ length rs
  pub sent : chunks ≡ count_by (has_chunk d) rs

-- Each record before this one serves, and here the part is the first that fails.
pub record IsFirstFault (d : Descriptor) (book : LookUp) (rs : List Record) (place : ℕ) (part : Part) : Type 0 where
  pub later : List Record
  pub here : Record
  pub before : List Record
  pub split : rs ≡ later ++ here ∷ before
  pub at : length before ≡ place
  pub served : ServesAll d book (window_of d) before
  pub fails : Fails d book before here part

abbrev pub IsAnswer : Descriptor → LookUp → List Record → Answer → Type 0
IsAnswer d book rs (Yes records chunks) = IsServed d book rs records chunks
IsAnswer d book rs (No place part) = IsFirstFault d book rs place part

abbrev pub IsYes : Answer → Type 0
IsYes (Yes records chunks) = Unit {0}
IsYes (No place part) = ⊥

-- There is one answer.
abbrev pub AnswersAreOne : Type 0
AnswersAreOne = (d : Descriptor) (book : LookUp) (rs : List Record) (answer other : Answer)
    → IsAnswer d book rs answer → IsAnswer d book rs other → answer ≡ other

-- The book knows nodes of the tree alone.
abbrev pub KnowsTreeAlone : Descriptor → LookUp → Type 0
KnowsTreeAlone d book = (k j : ℕ) (x : List ℕ) → book k j ≡ Some x → IsInTree d k j

-- A recording with the text of a session, each of whose chunks was served, is answered yes.
abbrev pub ServedAreYes : Type 0
ServedAreYes = (d : Descriptor) (book : LookUp) (past : List Record) (r : RecordingState) (answer : Answer)
    → KnowsTreeAlone d book → IsWithin (session d book past) → ServesAll d book (window_of d) past
    → IsWhole r → recording_text (recorded r) ≡ recording_text (session d book past)
    → IsAnswer r.descriptor (entry r.book) (recorded r).records answer → IsYes answer
