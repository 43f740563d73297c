-- The chunks that are committed at the end of a run: one set, of which all is said that a run says of its chunks (RFC 7574,
-- sections 3.2 and 3.3).
use Rattle.std.specs.Prelude.{◌≡◌, ℕ, Bool, true, false, List, [], ◌∷◌, length, slice_index_or}
use Rattle.std.specs.List.{list_any}
use Rattle.pp_terms.specs.disk.Disk.{DiskState, IsKnown, moment_of}
use Rattle.pp_terms.specs.disk.Sound.{BeganSound}
use Rattle.pp_terms.specs.format.Descriptor.{Descriptor, chunks_of}
use Rattle.pp_terms.specs.format.Messages.{Message, Request}
use Rattle.pp_terms.specs.format.Traffic.{Record, Received, Quiet, Sent}
use Rattle.pp_traffic.specs.Past.{read}
use Rattle.pp_traffic.specs.Keeping.{EachAnnounced, StoodThroughout, StandsSince}

abbrev pub is_in : List Bool → ℕ → Bool
is_in committed i = slice_index_or committed i false

-- Each chunk that was announced is in the set. Over a disk that is honest and tells, each in it stands in every image that a
-- crash now may leave, if every image was sound at the attachment; and each that stood in every image then is in it.
pub record AreCommitted (d : Descriptor) (disk' : DiskState) (added : List Record) (committed : List Bool) : Type 0 where
  pub size : length committed ≡ chunks_of d
  pub announced : EachAnnounced d (λ moment i. is_in committed i ≡ true) added
  pub stand : IsKnown disk' → BeganSound d disk'.history → (i : ℕ) → is_in committed i ≡ true
      → StandsSince d disk'.history (moment_of disk'.history) i
  pub kept : IsKnown disk' → (i : ℕ) → StoodThroughout d disk'.history i → is_in committed i ≡ true

-- the record was sent, and asks for chunks
abbrev pub has_request : List Message → Bool
has_request [] = false
has_request (Request span ∷ ms) = true
has_request (_ ∷ ms) = has_request ms

abbrev pub requests : Descriptor → Record → Bool
requests d (Received at sender bytes) = false
requests d (Quiet at) = false
requests d (Sent moment receiver bytes) = has_request (read d (Sent moment receiver bytes)).messages.read

-- A peer that doesn't fetch asks for nothing.
abbrev pub RequestsNone : Descriptor → List Record → Type 0
RequestsNone d past = list_any (requests d) past ≡ false
