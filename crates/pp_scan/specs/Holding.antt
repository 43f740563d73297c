-- Whether a chunk's bytes are in a file.
use Rattle.std.specs.Prelude.{ℕ, ◌==◌, ◌&&◌, Bool, List, length}
use Rattle.sha2.specs.Sha256.{sha256}
use Rattle.pp_terms.specs.tree.Content.{chunk_length}
use Rattle.pp_terms.specs.tree.Book.{LookUp}
use Rattle.pp_terms.specs.format.Descriptor.{Descriptor}
use Rattle.pp_terms.specs.disk.Image.{matches, slice}
use Rattle.pp_terms.specs.disk.Store.{chunk_place}

-- chunk i's bytes lie inside the file and have the digest of its leaf in the book
abbrev pub is_there : Descriptor → List ℕ → LookUp → ℕ → Bool
is_there d reads book i =
    let bytes = slice reads (chunk_place d.chunk i) (chunk_length d.size d.chunk i) in
    (length bytes == chunk_length d.size d.chunk i) && matches (book 0 i) (sha256 bytes)
