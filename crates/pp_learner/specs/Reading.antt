-- What the messages of a datagram come to on a proven channel.
use Rattle.std.specs.Prelude.{◌≡◌, ℕ, ◌^◌, ◌<◌, ◌≤◌, ◌==◌, Bool, false, if◌then◌else◌, Option, Some, None, is_some, List, [], ◌∷◌, ◌++◌, length, drop, slice_index_or, slice_set}
use Rattle.pp_terms.specs.tree.Claims.{Claim, latest}
use Rattle.pp_terms.specs.format.Descriptor.{Descriptor, IsDescriptor}
use Rattle.pp_terms.specs.format.Messages.{Message, Messages, Handshake, Data, messages_at}
use Rattle.pp_counts.specs.Counts.{after_note}
use Rattle.pp_counts.specs.declared.counts.Counts.{Counts}
use Rattle.pp_counts.specs.declared.note.Note.{Note}
use Rattle.pp_counts.specs.declared.note.Note.TheVariants as notes
use Rattle.pp_targets.specs.Target.{SwarmName}
use Rattle.pp_targets.specs.Law.{TellsSize}
use Rattle.pp_targets.specs.Learn.{IsLearned, learned}
use Rattle.pp_targets.specs.declared.learning.Learned.TheVariants.{Size}
use Rattle.pp_learner.specs.Rows.{RowState, blank, heard, heard_all, size_in, noted}
use Rattle.pp_learner.specs.declared.reading.Ending.{Ending}
use Rattle.pp_learner.specs.declared.reading.Ending.TheVariants.{Read, Closed, Learned}

-- a closing handshake (RFC 7574, section 8.4)
abbrev pub is_closing : Message → Bool
is_closing (Handshake source options) = source == 0
is_closing _ = false

-- a DATA has at least one byte, and at most a chunk of them
abbrev pub IsPiece : ℕ → Message → Type 0
IsPiece chunk (Data i sent_at bytes) = (0 < length bytes) × (length bytes ≤ chunk)
IsPiece chunk _ = Unit {0}

-- the counts with a note, or with none
abbrev pub after_some : Option Note → Counts → Counts
after_some None counts = counts
after_some (Some note) counts = after_note note counts

-- What is kept of a channel and counted, and what the messages came to.
pub record Hearing : Type 0 where
  pub row : RowState
  pub counts : Counts
  pub ending : Ending

-- nothing is read behind a message that tells the size
abbrev pub stopped : Option Descriptor → RowState → Counts → Hearing → Hearing
stopped None row counts rest = rest
stopped (Some e) row counts rest = record { row = row; counts = counts; ending = Learned e }

-- The messages are read one after the other, up to one that closes the channel or tells the size. Behind the last one there may be
-- a faulty one, where the datagram was cut.
abbrev pub reading : SwarmName → (cut : Bool) → List Message → RowState → Counts → Hearing
reading name cut [] row counts =
    record { row = row; counts = if cut then after_note notes.Cut counts else counts; ending = Read }
reading name cut (m ∷ ms) row counts =
    if is_closing m then record { row = row; counts = counts; ending = Closed }
    else stopped (size_in name m row) (heard m row) (after_some (noted name m row) counts)
    (reading name cut ms (heard m row) (after_some (noted name m row) counts))

-- the messages from a byte of a datagram on
abbrev pub messages_from : SwarmName → List ℕ → ℕ → Messages
messages_from name bytes at = messages_at name.method name.chunk at (drop at bytes)

abbrev pub read_from : SwarmName → List ℕ → ℕ → RowState → Counts → Hearing
read_from name bytes at row counts =
    reading name (is_some (messages_from name bytes at).fault) (messages_from name bytes at).read row counts

-- ---- on a seat's channel

-- the row of a seat
abbrev pub row_at : List RowState → ℕ → RowState
row_at rows seat = slice_index_or rows seat blank

-- What is kept of all channels and counted, and what the messages came to.
pub record Hearings : Type 0 where
  pub rows : List RowState
  pub counts : Counts
  pub ending : Ending

abbrev pub with_hearing : ℕ → List RowState → Hearing → Hearings
with_hearing seat rows h = record { rows = slice_set rows seat h.row; counts = h.counts; ending = h.ending }

-- a datagram's messages, behind its channel's number, are read on the channel of a seat
abbrev pub read_at : SwarmName → List ℕ → ℕ → List RowState → Counts → Hearings
read_at name bytes seat rows counts = with_hearing seat rows (read_from name bytes 4 (row_at rows seat) counts)

-- the size that was learned
abbrev pub learned_in : Ending → Option Descriptor
learned_in Read = None
learned_in Closed = None
learned_in (Learned e) = Some e

-- ---- the same, plainly

-- None of the messages closes the channel or tells the size.
abbrev pub ArePassed : SwarmName → List Message → RowState → Type 0
ArePassed name [] row = Unit {0}
ArePassed name (m ∷ ms) row = (is_closing m ≡ false) × (size_in name m row ≡ None) × ArePassed name ms (heard m row)

-- Of a content of the name the bytes are the last chunk, as the latest claims prove, and its size is the descriptor's.
pub record IsProof (name : SwarmName) (claims : List Claim) (chunk : ℕ) (bytes : List ℕ) (e : Descriptor) : Type 0 where
  pub proves : IsLearned name (latest claims) chunk bytes e
  pub valid : IsDescriptor e
  pub tells : TellsSize name e (latest claims) chunk bytes

-- Among the messages is a DATA of which, by what is claimed before it, the name's size is learned; none before it closes the channel
-- or tells the size.
pub record Tells (name : SwarmName) (e : Descriptor) (ms : List Message) (row : RowState) : Type 0 where
  pub before : List Message
  pub after : List Message
  pub chunk : ℕ
  pub sent_at : ℕ
  pub bytes : List ℕ
  pub among : ms ≡ before ++ Data chunk sent_at bytes ∷ after
  pub passed : ArePassed name before row
  pub few : chunk < 2 ^ 20
  pub tells : learned name (latest (heard_all before row).claims) chunk bytes ≡ Size e
  pub proof : IsProof name (heard_all before row).claims chunk bytes e

-- the message is a DATA that proves this
abbrev pub IsProofIn : SwarmName → Descriptor → Message → RowState → Type 0
IsProofIn name e (Data chunk sent_at bytes) row = IsProof name row.claims chunk bytes e
IsProofIn name e _ row = ⊥
