-- Claims that prove a chunk are enough.
use Rattle.std.specs.Prelude.{◌≡◌, ◌⊎◌, ℕ, zero, suc, ◌-◌, ◌/◌, Some, List, ◌++◌}
use Rattle.sha2.specs.Sha256.{sha256}
use Rattle.pp_terms.specs.tree.Book.{LookUp, IsJoined, IsRooted}
use Rattle.pp_terms.specs.format.Descriptor.{Descriptor, chunks_of, height_of, IsDescriptor}
use Rattle.pp_terms.specs.tree.Proves.{joined, filled, last_layer, peak_offset, Proves}
use Rattle.pp_terms.specs.tree.Bins.{sibling}
use Rattle.pp_terms.specs.tree.Claims.{met, Contradicts}
use Rattle.pp_paths.specs.declared.settling.Settled.TheVariants.{Known}
use Rattle.pp_paths.specs.declared.judging.Verdict.TheVariants.{Fits}
use Rattle.pp_paths.specs.Climb.{AddsPath}
use Rattle.pp_paths.specs.Judge.{judged}
use Rattle.pp_paths.specs.Settle.{settled, path_of_peaks}

-- On the way of n layers up from node (k, j), two texts with one digest: the climb's pair and that of the book.
abbrev pub ClimbClashes : LookUp → LookUp → ℕ → ℕ → ℕ → List ℕ → Type 0
ClimbClashes book known zero k j digest = ⊥
ClimbClashes book known (suc n) k j digest =
    (other : List ℕ) × (known k (sibling j) ≡ Some other)
    × (((left : List ℕ) × (right : List ℕ) × IsJoined book k (j / 2) left right
    × (joined j digest other ≡ left ++ right → ⊥) × (sha256 (joined j digest other) ≡ sha256 (left ++ right)))
    ⊎ ClimbClashes book known n (suc k) (j / 2) (sha256 (joined j digest other)))

-- Two texts with one digest on the climbs of a proof, one of the claims or the bytes and one of the book.
abbrev pub ProofClashes : (d : Descriptor) (book claims : LookUp) (i : ℕ) (bytes : List ℕ) → Proves d claims i bytes → Type 0
ProofClashes d book claims i bytes proof =
    ClimbClashes book claims proof.top 0 i (sha256 bytes)
    ⊎ ((digest : List ℕ) × (claims (last_layer (chunks_of d)) (peak_offset (last_layer (chunks_of d)) (chunks_of d)) ≡ Some digest)
    × ClimbClashes book (filled (chunks_of d) claims) (height_of d - last_layer (chunks_of d)) (last_layer (chunks_of d))
    (peak_offset (last_layer (chunks_of d)) (chunks_of d)) digest)

-- Where claims prove a chunk, a rooted book has no other digest at a node that the climbs meet, or two different texts
-- have one digest.
abbrev pub ProvenOrClash : Type 0
ProvenOrClash = (d : Descriptor) (book claims : LookUp) (i : ℕ) (bytes : List ℕ) (proof : Proves d claims i bytes)
    → IsDescriptor d → IsRooted d book
    → (Contradicts book (met d claims i bytes) → ⊥) ⊎ ProofClashes d book claims i bytes proof

-- Where claims prove a chunk, the peaks are settled by them, if the book doesn't contradict what the climbs meet.
abbrev pub ProvenIsSettled : Type 0
ProvenIsSettled = (d : Descriptor) (book claims : LookUp) (i : ℕ) (bytes : List ℕ) (proof : Proves d claims i bytes)
    → IsDescriptor d → IsRooted d book → (Contradicts book (met d claims i bytes) → ⊥)
    → settled (chunks_of d) book claims ≡ Known

-- Where the peaks are settled so, the chunk fits in the book with them.
abbrev pub ProvenFits : Type 0
ProvenFits = (d : Descriptor) (book peaked claims : LookUp) (i : ℕ) (bytes : List ℕ) (proof : Proves d claims i bytes)
    → IsDescriptor d → IsRooted d book → (Contradicts book (met d claims i bytes) → ⊥)
    → AddsPath (path_of_peaks (chunks_of d) book claims) book peaked → IsRooted d peaked
    → judged d peaked claims i bytes ≡ Fits
