-- How a chunk is judged by a book and by claims (RFC 7574, sections 5.2 and 5.6).
use Rattle.std.specs.Prelude.{◌≡◌, ℕ, ◌==◌, Bool, cond, Option, Some, None, nat_eq, List, length}
use Rattle.std.specs.Cmp.Lexicographic.{pointwise}
use Rattle.sha2.specs.Sha256.{sha256}
use Rattle.pp_terms.specs.tree.Content.{chunk_length}
use Rattle.pp_terms.specs.tree.Tree as tree
use Rattle.pp_terms.specs.tree.Book.{LookUp}
use Rattle.pp_terms.specs.format.Descriptor.{Descriptor, chunks_of, height_of}
use Rattle.pp_terms.specs.tree.Proves.{first_absent}
use Rattle.pp_tree.specs.declared.node.Node.{Node}
use Rattle.pp_paths.specs.declared.climbing.Climb.{Climb}
use Rattle.pp_paths.specs.declared.climbing.Climb.TheVariants.{Reached, Lacks}
use Rattle.pp_paths.specs.declared.judging.Verdict.{Verdict}
use Rattle.pp_paths.specs.declared.judging.Verdict.TheVariants.{Fits, Missing, Wrong, Length}
use Rattle.pp_paths.specs.Climb.{node_at, climb}

-- two digests have the same bytes
abbrev pub same : List ℕ → List ℕ → Bool
same = pointwise nat_eq

-- a peak that isn't there comes first
abbrev pub missing_or : Option tree.Node → Verdict → Verdict
missing_or None rest = rest
missing_or (Some at) rest = Missing (node_at at.layer at.offset)

-- by the end of the climb: the first node that the book has, or the first sibling that isn't known
abbrev pub verdict_of : Climb → Verdict
verdict_of (Lacks at) = Missing at
verdict_of (Reached at found kept) = cond (same found kept) Fits (Wrong at found kept)

-- The verdict on bytes as chunk i. Their length comes first, then the leftmost peak that the book lacks, then the climb
-- from their digest.
abbrev pub judged : Descriptor → LookUp → LookUp → ℕ → List ℕ → Verdict
judged d book claims i bytes =
    let want = chunk_length d.size d.chunk i in
    cond (length bytes == want)
    (missing_or (first_absent book (chunks_of d)) (verdict_of (climb book claims (height_of d) 0 i (sha256 bytes))))
    (Length (length bytes) want)

-- The bytes have the chunk's length, the book has all peaks, and the climb from their digest reaches a node of the book
-- with that node's digest.
pub record FitsAs (d : Descriptor) (book claims : LookUp) (i : ℕ) (bytes : List ℕ) : Type 0 where
  pub whole : length bytes ≡ chunk_length d.size d.chunk i
  pub peaks_known : first_absent book (chunks_of d) ≡ None
  pub at : Node
  pub digest : List ℕ
  pub reaches : climb book claims (height_of d) 0 i (sha256 bytes) ≡ Reached at digest digest

-- every entry stays
abbrev pub KeepsEntries : LookUp → LookUp → Type 0
KeepsEntries old new = (k j : ℕ) (digest : List ℕ) → old k j ≡ Some digest → new k j ≡ Some digest
