-- The recording of a session: of its link's traffic, and of what its book knows of a swarm's tree.
use Rattle.std.specs.Prelude.{◌≡◌, ℕ, ◌-◌, ◌^◌, ◌<◌, ◌≤◌, ◌↔◌, Bool, None, List, length, reverse, take, IsTrue}
use Rattle.pp_terms.specs.tree.Book.{LookUp}
use Rattle.pp_terms.specs.format.Descriptor.{Descriptor}
use Rattle.pp_terms.specs.format.Traffic.{Record}
use Rattle.pp_outside.specs.declared.records.Mark.{Mark}
use Rattle.pp_outside.specs.declared.records.Mark.TheVariants as marks
use Rattle.pp_tree.specs.Book.{entry, IsInTree}
use Rattle.pp_recording.specs.Recording.{Recorded, nodes_of, recording_text, most_text, most_nodes, most_records, AreKeptRecords, IsWithin}
use Rattle.pp_recording.specs.State.{RecordingState, recorded, records_of, Fill}
use Rattle.pp_recording.specs.declared.recording.Entry.{Entry}
use Rattle.pp_recording.specs.declared.recording.Entry.TheVariants.{Received, Quiet, Sent}
use Rattle.pp_recording.specs.declared.session.Traffic.{Traffic}
use Rattle.pp_recording.specs.declared.session.SessionFault.{SessionFault}
use Rattle.pp_recording.specs.declared.session.Size.{Size}
use Rattle.pp_recording.specs.declared.session.SessionFault.TheVariants.{Limit, Memory}

-- what a session of a swarm comes to, by what its book knew at the end and its traffic, the newest record first
abbrev pub session : Descriptor → LookUp → List Record → Recorded
session d book past = record { descriptor = d; nodes = nodes_of d book; records = past }

-- The recording is the session's and keeps the limits, and its book knows of the tree what the session's knew, and nothing else.
pub record IsOfSession (d : Descriptor) (book : LookUp) (past : List Record) (r : RecordingState) : Type 0 where
  pub is : recorded r ≡ session d book past
  pub within : IsWithin (session d book past)
  pub same : (k j : ℕ) → IsInTree d k j → entry r.book k j ≡ book k j
  pub none : (k j : ℕ) → (IsInTree d k j → ⊥) → entry r.book k j ≡ None

-- The session has no recording within the limits, and is of that size.
pub record IsOversize (d : Descriptor) (book : LookUp) (past : List Record) (records nodes bytes : ℕ) : Type 0 where
  pub over : IsWithin (session d book past) → ⊥
  pub records_are : records ≡ length past
  pub nodes_are : nodes ≡ length (nodes_of d book)
  pub bytes_are : bytes ≡ length (recording_text (session d book past))

-- No clause says when there is no memory.
abbrev pub IsSessionFault : Descriptor → LookUp → List Record → SessionFault → Type 0
IsSessionFault d book past (Limit records nodes bytes) = IsOversize d book past records nodes bytes
IsSessionFault d book past Memory = Unit {0}

-- ---- the parts

-- the entry of a mark whose datagram lies so
abbrev pub entry_at : Mark → ℕ → ℕ → Entry
entry_at (marks.Received at sender) start len = Received at sender start len
entry_at (marks.Quiet at) start len = Quiet at
entry_at (marks.Sent moment receiver) start len = Sent moment receiver start len

-- These are the entries of the first n records, the oldest first.
pub record IsTraffic (n : ℕ) (records : List Record) (t : Traffic) : Type 0 where
  pub are : records_of t.bytes.items t.entries.items ≡ reverse (take n records)
  pub filled : Fill 0 t.entries.items (length t.bytes.items)
  pub kept : IsTrue t.is_kept ↔ AreKeptRecords (reverse (take n records))

-- The size is within the limits, and each record may stand in a recording.
pub record IsSmall (is_kept : Bool) (size : Size) : Type 0 where
  pub kept : IsTrue is_kept
  pub records : size.records ≤ most_records
  pub nodes : size.nodes ≤ most_nodes
  pub bytes : size.bytes ≤ most_text

-- The nodes of which that is so are known as another book knows them, and the other ones as before.
pub record IsCopied (Is : ℕ → ℕ → Type 0) (book old new : LookUp) : Type 0 where
  pub within : (k j : ℕ) → Is k j → new k j ≡ book k j
  pub others : (k j : ℕ) → (Is k j → ⊥) → new k j ≡ old k j

-- one node; the first n of a layer; those of the lowest n layers of a tree of height h
abbrev pub IsNode : ℕ → ℕ → ℕ → ℕ → Type 0
IsNode layer offset k j = (k ≡ layer) × (j ≡ offset)

abbrev pub IsFirst : ℕ → ℕ → ℕ → ℕ → Type 0
IsFirst layer n k j = (k ≡ layer) × (j < n)

abbrev pub IsLow : ℕ → ℕ → ℕ → ℕ → Type 0
IsLow h n k j = (k < n) × (j < 2 ^ (h - k))
