-- The file of a store, version 1: a header that names that version, and then slots of a chunk and a pair of digests each,
-- without a gate.
use Rattle.std.specs.Prelude.{◌≡◌, ℕ, zero, suc, ◌+◌, ◌-◌, ◌*◌, ◌/◌, ◌^◌, ◌<◌, ◌==◌, nat_le, Bool, cond, ◌&&◌, Option, Some, None, List, ◌++◌, length, take, replicate, codes, slice_index}
use Rattle.std.specs.Int.{w32, w64, to_be_bytes}
use Rattle.sha2.specs.Sha256.{sha256}
use Rattle.pp_terms.specs.tree.Content.{chunk_length}
use Rattle.pp_terms.specs.tree.Book.{LookUp, has_peaks}
use Rattle.pp_terms.specs.format.Descriptor.{Descriptor, chunks_of, height_of}
use Rattle.pp_terms.specs.disk.Store.{pair_slot}
use Rattle.pp_terms.specs.disk.Image.{slice, child, matches}

-- The header: "PPSTORE1", the chunk size (4 bytes), the content size (8), the root (32) and 12 zero bytes.
unfoldable pub old_header : Descriptor → List ℕ
old_header d = codes "PPSTORE1" ++ to_be_bytes w32 d.chunk ++ to_be_bytes w64 d.size ++ d.root ++ replicate 12 0

-- A file's first 64 bytes, zeros past its end, are that header.
abbrev pub HasOldHeader : Descriptor → List ℕ → Type 0
HasOldHeader d file = (k : ℕ) → k < 64 → slice_index file k ≡ slice_index (old_header d) k

-- the room of one chunk and its pair
abbrev pub old_slot_size : ℕ → ℕ
old_slot_size chunk = chunk + 64

-- where slot i begins, and chunk i with it; and where the pair of node (k + 1, j) stands
abbrev pub old_chunk_place : ℕ → ℕ → ℕ
old_chunk_place chunk i = 64 + i * old_slot_size chunk

abbrev pub old_pair_place : ℕ → ℕ → ℕ → ℕ
old_pair_place chunk k j = old_chunk_place chunk (pair_slot k j) + chunk

-- the most bytes that such a file has
abbrev pub old_size : Descriptor → ℕ
old_size d = old_chunk_place d.chunk (2 ^ height_of d)

-- ---- what is known in it, from the root down, and which chunks it holds

abbrev pub old_known_below : Descriptor → List ℕ → ℕ → ℕ → Option (List ℕ)
old_known_below d file zero j = cond (j == 0) (Some d.root) None
old_known_below d file (suc n) j =
    child (slice file (old_pair_place d.chunk (height_of d - suc n) (j / 2)) 64) j (old_known_below d file n (j / 2))

abbrev pub old_known : Descriptor → List ℕ → LookUp
old_known d file k j = cond (nat_le k (height_of d)) (old_known_below d file (height_of d - k) j) None

-- Every peak is known, and chunk i's bytes lie inside the file and have its leaf's digest.
abbrev pub old_holds : Descriptor → List ℕ → ℕ → Bool
old_holds d file i =
    let bytes = slice file (old_chunk_place d.chunk i) (chunk_length d.size d.chunk i) in
    has_peaks (old_known d file) (chunks_of d)
    && (length bytes == chunk_length d.size d.chunk i)
    && matches (old_known d file 0 i) (sha256 bytes)

-- the bytes of a source as such a file: no more than it may have, and zeros past their end
abbrev pub old_file : Descriptor → List ℕ → List ℕ
old_file d bytes = take (old_size d) bytes ++ replicate (old_size d - length bytes) 0
