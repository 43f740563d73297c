-- What an image of a store lets be known, read from the root down, and which chunks it holds.
use Rattle.std.specs.Prelude.{ℕ, zero, suc, ◌-◌, ◌/◌, ◌%◌, ◌<◌, ◌==◌, Bool, false, cond, ◌&&◌, Option, Some, None, is_some, nat_le, List, length, take, drop, slice_index, IsTrue, nat_eq}
use Rattle.std.specs.Cmp.Lexicographic.{pointwise}
use Rattle.sha2.specs.Sha256.{sha256}
use Rattle.pp_terms.specs.tree.Content.{chunk_length}
use Rattle.pp_terms.specs.tree.Book.{LookUp, has_peaks}
use Rattle.pp_terms.specs.format.Descriptor.{Descriptor, chunks_of, height_of}
use Rattle.pp_terms.specs.disk.Store.{header, chunk_place, pair_place, gate_place, Has}

-- n bytes at a place, or as many of them as the image has
abbrev pub slice : List ℕ → ℕ → ℕ → List ℕ
slice image place n = take n (drop place image)

-- the half of a pair that is child j's
abbrev pub half : ℕ → List ℕ → List ℕ
half j both = cond (j % 2 == 0) (take 32 both) (drop 32 both)

-- A child is known with its half of its parent's pair where the parent is known, the 64 bytes lie inside the image and
-- the parent is their digest.
abbrev pub child : List ℕ → ℕ → Option (List ℕ) → Option (List ℕ)
child both j None = None
child both j (Some digest) = cond ((length both == 64) && pointwise nat_eq (sha256 both) digest) (Some (half j both)) None

-- node j of the layer that lies n layers below the root
abbrev pub known_below : Descriptor → List ℕ → ℕ → ℕ → Option (List ℕ)
known_below d image zero j = cond (j == 0) (Some d.root) None
known_below d image (suc n) j =
    child (slice image (pair_place d.chunk (height_of d - suc n) (j / 2)) 64) j (known_below d image n (j / 2))

-- what is known in an image, as a look-up; no layer lies above the root
abbrev pub known : Descriptor → List ℕ → LookUp
known d image k j = cond (nat_le k (height_of d)) (known_below d image (height_of d - k) j) None

-- the book has this digest
abbrev pub matches : Option (List ℕ) → List ℕ → Bool
matches None digest = false
matches (Some kept) digest = pointwise nat_eq kept digest

-- The image holds chunk i: every peak is known, and the chunk's bytes lie inside the image and have its leaf's digest.
abbrev pub holds : Descriptor → List ℕ → ℕ → Bool
holds d image i =
    let bytes = slice image (chunk_place d.chunk i) (chunk_length d.size d.chunk i) in
    has_peaks (known d image) (chunks_of d)
    && (length bytes == chunk_length d.size d.chunk i)
    && matches (known d image 0 i) (sha256 bytes)

-- the gate of chunk i lies in the image and is open
abbrev pub is_open : Descriptor → List ℕ → ℕ → Bool
is_open d image i = slice_index image (gate_place d.chunk i) == 0x4f

-- What an opening answers of a chunk, by what reads give: its gate is open, and its leaf and all peaks are known. The
-- chunk's bytes aren't looked at.
abbrev pub is_found : Descriptor → List ℕ → ℕ → Bool
is_found d reads i = is_open d reads i && has_peaks (known d reads) (chunks_of d) && is_some (known d reads 0 i)

-- Chunk i stands in the image: it begins with the descriptor's header, the chunk's gate is open, and it holds the chunk.
pub record StandsIn (d : Descriptor) (image : List ℕ) (i : ℕ) : Type 0 where
  pub begins : Has 0 (header d) image
  pub within : i < chunks_of d
  pub opened : IsTrue (is_open d image i)
  pub held : IsTrue (holds d image i)
