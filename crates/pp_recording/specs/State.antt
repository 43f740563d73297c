-- A recording in memory, and the recording that it stands for.
use Rattle.std.specs.Prelude.{◌≡◌, ℕ, ◌+◌, ◌≤◌, List, [], ◌∷◌, map, reverse, take, drop, length}
use Rattle.pp_terms.specs.format.Descriptor.{Descriptor}
use Rattle.pp_terms.specs.format.Traffic as terms
use Rattle.pp_terms.specs.format.Traffic.{Record}
use Rattle.pp_outside.specs.Outside.{address_of}
use Rattle.pp_tree.specs.Book.{BookState, entry, IsPreparedFor}
use Rattle.pp_recording.specs.Recording.{Recorded, nodes_of, IsWithin}
use Rattle.pp_recording.specs.declared.recording.Entry.{Entry}
use Rattle.pp_recording.specs.declared.recording.Entry.TheVariants.{Received, Quiet, Sent}

-- The entries stand the oldest first, and name the bytes of their datagrams.
pub record RecordingState : Type 0 where
  pub descriptor : Descriptor
  pub book : BookState
  pub entries : List Entry
  pub bytes : List ℕ

-- the record of an entry
abbrev pub record_of : List ℕ → Entry → Record
record_of bytes (Received at sender start len) = terms.Received at (address_of sender) (take len (drop start bytes))
record_of bytes (Quiet at) = terms.Quiet at
record_of bytes (Sent moment receiver start len) = terms.Sent moment (address_of receiver) (take len (drop start bytes))

-- the records of the entries, the newest first
abbrev pub records_of : List ℕ → List Entry → List Record
records_of bytes entries = reverse (map (record_of bytes) entries)

abbrev pub recorded : RecordingState → Recorded
recorded s = record { descriptor = s.descriptor; nodes = nodes_of s.descriptor (entry s.book); records = records_of s.bytes s.entries }

-- the entry's datagram lies in so many bytes
abbrev pub LiesIn : Entry → ℕ → Type 0
LiesIn (Received at sender start len) size = start + len ≤ size
LiesIn (Quiet at) size = Unit {0}
LiesIn (Sent moment receiver start len) size = start + len ≤ size

-- the datagrams of the entries fill the bytes from one place to another, one after the other
abbrev pub Fill : ℕ → List Entry → ℕ → Type 0
Fill from [] to = from ≡ to
Fill from (Received at sender start len ∷ es) to = (start ≡ from) × Fill (from + len) es to
Fill from (Quiet at ∷ es) to = Fill from es to
Fill from (Sent moment receiver start len ∷ es) to = (start ≡ from) × Fill (from + len) es to

-- The book was prepared for the descriptor, the datagrams fill the bytes, and the recording keeps the limits.
pub record IsWhole (s : RecordingState) : Type 0 where
  pub book : IsPreparedFor s.descriptor s.book
  pub filled : Fill 0 s.entries (length s.bytes)
  pub within : IsWithin (recorded s)
