-- The leaf digests of a content's first chunks (RFC 7574, section 5.1).
use Rattle.std.specs.Prelude.{◌≡◌, ℕ, ◌<◌, List, [], slice_index_or}
use Rattle.sha2.specs.Sha256.{sha256}
use Rattle.pp_terms.specs.tree.Content.{chunk_of}

abbrev pub HasLeaves : List ℕ → ℕ → ℕ → List (List ℕ) → Type 0
HasLeaves content chunk count digests = (i : ℕ) → i < count → slice_index_or digests i [] ≡ sha256 (chunk_of content chunk i)
