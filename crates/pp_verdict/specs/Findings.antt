-- How a record stands to the rule on the lives that were looked at so far.
use Rattle.std.specs.Prelude.{◌≡◌, ℕ, ◌<◌, Some, List, [], ◌∷◌, ◌++◌, length, take, slice_index_or, Contains}
use Rattle.pp_terms.specs.format.Traffic.{Record}
use Rattle.pp_terms.specs.format.Descriptor.{Descriptor, chunks_of}
use Rattle.pp_terms.specs.tree.Book.{LookUp}
use Rattle.pp_traffic.specs.Life.{Life, IsLife}
use Rattle.pp_recorded.specs.declared.entry.Entry.{Entry}
use Rattle.pp_recorded.specs.Entries.{record_of, past}
use Rattle.pp_verdict.specs.Chunks.{SentChunk, chunk_of}
use Rattle.pp_verdict.specs.Faults.{Suits, Passes, FailsOn, IsNoLater}
use Rattle.pp_verdict.specs.declared.answer.Part.{Part}
use Rattle.pp_verdict.specs.declared.judgement.Judgement.{Judgement}
use Rattle.pp_verdict.specs.declared.judgement.Judgement.TheVariants as judged
use Rattle.pp_verdict.specs.declared.findings.Finding.{Finding}
use Rattle.pp_verdict.specs.declared.findings.Finding.TheVariants.{Unseen, Passed, Failed}

-- A record with those before it, and the swarm and the book by which it is judged.
pub record Case : Type 0 where
  pub descriptor : Descriptor
  pub book : LookUp
  pub past : List Record
  pub here : Record

abbrev pub case_of : Descriptor → LookUp → List Record → Record → Case
case_of d book past here = record { descriptor = d; book = book; past = past; here = here }

-- The chunk is the first in the record, and one of the content.
pub record IsIn (s : SentChunk) (c : Case) : Type 0 where
  pub is : chunk_of c.descriptor c.here ≡ Some s
  pub within : s.number < chunks_of c.descriptor

-- ---- on one life

-- how a chunk that was sent on the life stands to the rule; elsewhere, it isn't one of the content
abbrev pub JudgesChunk : Descriptor → LookUp → List Record → SentChunk → Life → Judgement → Type 0
JudgesChunk d book past s life judged.Elsewhere = s.number < chunks_of d → ⊥
JudgesChunk d book past s life judged.Passes = (s.number < chunks_of d) × Passes d book past s life
JudgesChunk d book past s life (judged.Fails part) = (s.number < chunks_of d) × FailsOn d book past s life part

-- The record has a chunk that suits the life.
pub record LiesOn (c : Case) (life : Life) : Type 0 where
  pub chunk : SentChunk
  pub is : IsIn chunk c
  pub suits : Suits c.descriptor c.past chunk life

-- how the record stands to the rule on the life
abbrev pub Judges : Case → Life → Judgement → Type 0
Judges c life judged.Elsewhere = LiesOn c life → ⊥
Judges c life judged.Passes = (on : LiesOn c life) × Passes c.descriptor c.book c.past on.chunk life
Judges c life (judged.Fails part) = (on : LiesOn c life) × FailsOn c.descriptor c.book c.past on.chunk life part

-- ---- on several

-- None of the lives on which the record lies passes, and this one of them is the latest, on which the part fails.
pub record HasFailed (c : Case) (lives : List Life) (life : Life) (part : Part) : Type 0 where
  pub on : LiesOn c life
  pub fails : FailsOn c.descriptor c.book c.past on.chunk life part
  pub none : (other : Life) → Contains lives other → Suits c.descriptor c.past on.chunk other
      → Passes c.descriptor c.book c.past on.chunk other → ⊥
  pub latest : (other : Life) → Contains lives other → Suits c.descriptor c.past on.chunk other → IsNoLater other life

-- how the record stands to the rule on the lives
abbrev pub Finds : Case → List Life → Finding → Type 0
Finds c lives Unseen = (life : Life) → Contains lives life → LiesOn c life → ⊥
Finds c lives Passed = (life : Life) × (on : LiesOn c life) × Passes c.descriptor c.book c.past on.chunk life
Finds c lives (Failed opening local part) =
    (life : Life) × (life.opening ≡ opening) × (life.local ≡ local) × HasFailed c lives life part

-- One life more was looked at.
abbrev pub Notes : Case → Life → Finding → Finding → Type 0
Notes c life old new = (lives : List Life) → Finds c lives old → Finds c (lives ++ life ∷ []) new

-- ---- in a recorded list

abbrev pub case_at : Descriptor → LookUp → List Entry → ℕ → Entry → Case
case_at d book entries k x = case_of d book (past (take k entries)) (record_of x)

-- each finding is that of the entry at its place
abbrev pub AreFound : Descriptor → LookUp → List Entry → List Life → List Finding → Type 0
AreFound d book entries lives findings = (k : ℕ) (x : Entry) (f : Finding) → k < length entries
    → x ≡ slice_index_or entries k x → f ≡ slice_index_or findings k f → Finds (case_at d book entries k x) lives f

-- each finding is that of the entry at its place, with one life more
abbrev pub AreNoted : Descriptor → LookUp → List Entry → Life → List Finding → List Finding → Type 0
AreNoted d book entries life old new = (k : ℕ) (x : Entry) (f g : Finding) → k < length entries
    → x ≡ slice_index_or entries k x → f ≡ slice_index_or old k f → g ≡ slice_index_or new k g
    → Notes (case_at d book entries k x) life f g

-- each channel that is open at some place is one of the lives
abbrev pub AreAll : Descriptor → List Entry → List Life → Type 0
AreAll d entries lives = (k : ℕ) (life : Life) → IsLife d life (past (take k entries)) → Contains lives life

-- how a record stands to the rule on all lives that are open before it
abbrev pub IsSettled : Case → Finding → Type 0
IsSettled c finding = (lives : List Life)
    × ((life : Life) → IsLife c.descriptor life c.past → Contains lives life) × Finds c lives finding
