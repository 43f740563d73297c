-- Whether what is claimed proves a chunk, as a test.
use Rattle.std.specs.Prelude.{◌≡◌, ◌↔◌, ℕ, ◌-◌, ◌/◌, ◌^◌, ◌≤◌, ◌==◌, nat_lt, nat_eq, Bool, true, false, ◌&&◌, Option, Some, None, is_some, option_and_then, List, length}
use Rattle.std.specs.List.{list_all}
use Rattle.std.specs.Cmp.Lexicographic.{pointwise}
use Rattle.sha2.specs.Sha256.{sha256}
use Rattle.pp_terms.specs.format.Descriptor.{Descriptor, chunks_of, height_of}
use Rattle.pp_terms.specs.tree.Book.{LookUp, AreDigests}
use Rattle.pp_terms.specs.tree.Content.{chunk_length}
use Rattle.pp_terms.specs.tree.Proves.{climbed, filled, last_layer, peak_offset, Proves}
use Rattle.pp_terms.specs.tree.Tree.{peaks, is_peak}
use Rattle.pp_recorded.specs.Search.{some_below}

-- what is known over so many chunks, with the empty hashes or without
abbrev pub looked_up : Bool → ℕ → LookUp → LookUp
looked_up false n known = known
looked_up true n known = filled n known

-- both are the same digest, or neither is there
abbrev pub is_same : Option (List ℕ) → Option (List ℕ) → Bool
is_same None None = true
is_same None (Some y) = false
is_same (Some x) None = false
is_same (Some x) (Some y) = pointwise nat_eq x y

-- a digest is known of each peak
abbrev pub has_peaks : ℕ → LookUp → Bool
has_peaks n known = list_all (λ p. is_some (known p.layer p.offset)) (peaks n)

-- the climb from a chunk leads to the digest of the peak above it, which lies in that layer
abbrev pub leads_at : ℕ → LookUp → ℕ → List ℕ → ℕ → Bool
leads_at n known i digest top =
    is_peak n (record { layer = top; offset = i / 2 ^ top }) && is_same (climbed known top 0 i digest) (known top (i / 2 ^ top))

-- the climb from a chunk leads to a peak above it, in some layer
unfoldable pub leads_up : ℕ → LookUp → ℕ → List ℕ → Bool
leads_up n known i digest = some_below (leads_at n known i digest) 21

-- the climb from the last peak, so many layers up; and whether it leads to the root
abbrev pub climbed_last : ℕ → LookUp → ℕ → Option (List ℕ)
climbed_last n known layers =
    option_and_then (climbed (filled n known) layers (last_layer n) (peak_offset (last_layer n) n))
    (known (last_layer n) (peak_offset (last_layer n) n))

abbrev pub leads_to_root : Descriptor → LookUp → Bool
leads_to_root d known = is_same (climbed_last (chunks_of d) known (height_of d - last_layer (chunks_of d))) (Some d.root)

-- the claims prove that the bytes are the chunk; which is one of the content
abbrev pub proves_bytes : Descriptor → LookUp → ℕ → List ℕ → Bool
proves_bytes d known i bytes =
    (length bytes == chunk_length d.size d.chunk i)
    && (has_peaks (chunks_of d) known && (leads_up (chunks_of d) known i (sha256 bytes) && leads_to_root d known))

abbrev pub proves : Descriptor → LookUp → ℕ → List ℕ → Bool
proves d known i bytes = nat_lt i (chunks_of d) && proves_bytes d known i bytes

-- which they do, where all digests have 32 bytes
abbrev pub ProvesIsTested : Type 0
ProvesIsTested = (d : Descriptor) (known : LookUp) (i : ℕ) (bytes : List ℕ) → chunks_of d ≤ 2 ^ 20 → AreDigests known
    → (proves d known i bytes ≡ true) ↔ Proves d known i bytes
