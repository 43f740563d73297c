-- The tree of a content beside a book of a descriptor that may have another height. Their nodes are compared at one depth, from
-- the roots down.
use Rattle.std.specs.Prelude.{◌≡◌, ℕ, zero, suc, ◌+◌, ◌-◌, ◌*◌, ◌^◌, ◌<◌, ◌≤◌, nat_lt, if◌then◌else◌, Option, Some, None, List, ◌++◌, length}
use Rattle.sha2.specs.Sha256.{sha256}
use Rattle.pp_terms.specs.tree.Content.{chunk_of, chunk_count}
use Rattle.pp_terms.specs.tree.Tree.{node, pair, leaf_of, height, above, empty_hash}
use Rattle.pp_terms.specs.tree.Book.{LookUp}
use Rattle.pp_terms.specs.format.Descriptor.{Descriptor, height_of}

-- how many chunks the content has, and the layer of its root
abbrev pub count_in : List ℕ → ℕ → ℕ
count_in content chunk = chunk_count (length content) chunk

abbrev pub height_in : List ℕ → ℕ → ℕ
height_in content chunk = height (count_in content chunk)

-- the digest of the content's node
abbrev pub digest_in : List ℕ → ℕ → ℕ → ℕ → List ℕ
digest_in content chunk k j = node (leaf_of content chunk) (count_in content chunk) k j

-- The text that the content's node is the digest of: a chunk, or its two children joined. A node that covers no chunk has none.
abbrev pub text_in : List ℕ → ℕ → ℕ → ℕ → Option (List ℕ)
text_in content chunk zero j = if nat_lt j (count_in content chunk) then Some (chunk_of content chunk j) else None
text_in content chunk (suc k) j =
    if nat_lt (j * 2 ^ suc k) (count_in content chunk)
    then Some (pair (leaf_of content chunk) (count_in content chunk) k j)
    else None

-- two digests joined, where both are known
abbrev pub join_both : Option (List ℕ) → Option (List ℕ) → Option (List ℕ)
join_both None right = None
join_both (Some left) None = None
join_both (Some left) (Some right) = Some (left ++ right)

-- The text of the book's node above a chunk: its two children joined, or the chunk's bytes.
abbrev pub text_by : LookUp → List ℕ → ℕ → ℕ → Option (List ℕ)
text_by book bytes zero j = Some bytes
text_by book bytes (suc k) j = join_both (book k (2 * j)) (book k (2 * j + 1))

-- The digest of the text of the book's node, in layer k, is that of the content's node in layer m with the same offset. The
-- text of that one is another, or none.
pub record TextsClash (content : List ℕ) (chunk : ℕ) (book : LookUp) (bytes : List ℕ) (k m j : ℕ) : Type 0 where
  pub text : List ℕ
  pub text_is : text_by book bytes k j ≡ Some text
  pub same : sha256 text ≡ digest_in content chunk m j
  pub other : text_in content chunk m j ≡ Some text → ⊥

-- Two texts with one digest, at some depth on the way to chunk i.
pub record DepthClash (e : Descriptor) (content : List ℕ) (book : LookUp) (i : ℕ) (bytes : List ℕ) : Type 0 where
  pub depth : ℕ
  pub within : depth ≤ height_of e
  pub within_content : depth ≤ height_in content e.chunk
  pub clash : (let k = height_of e - depth in let m = height_in content e.chunk - depth in
      TextsClash content e.chunk book bytes k m (above k i))

-- Some node of the content that covers a chunk is 32 zero bytes, as one that covers none.
pub record HasZeroNode (content : List ℕ) (chunk : ℕ) : Type 0 where
  pub layer : ℕ
  pub offset : ℕ
  pub within : layer ≤ height_in content chunk
  pub covers : offset * 2 ^ layer < count_in content chunk
  pub zeros : digest_in content chunk layer offset ≡ empty_hash
