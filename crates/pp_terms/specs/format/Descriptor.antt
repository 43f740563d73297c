-- What names a swarm: its root, chunk size, content size and chunk addressing method (RFC 7574, section 7), with
-- the text that people hand on.
use Rattle.std.specs.Prelude.{◌≡◌, ℕ, List, ◌++◌, length, codes, decimal}
use Rattle.hex.specs.Hex.{encode_lower}
use Rattle.pp_terms.specs.tree.Content.{chunk_count, IsChunkSize, IsContentSize}
use Rattle.pp_terms.specs.tree.Tree.{height, root_of}

-- The chunk addressing methods (section 7.8): bins or ranges of chunks, in numbers of 32 or 64 bits.
pub data Method : Type 0 where
  Bin32 : Method
  Range32 : Method
  Bin64 : Method
  Range64 : Method

-- the number of a method (section 7.8)
abbrev pub method_number : Method → ℕ
method_number Bin32 = 0
method_number Range32 = 2
method_number Bin64 = 3
method_number Range64 = 4

-- A swarm's descriptor; chunk and size in bytes.
pub record Descriptor : Type 0 where
  pub root : List ℕ
  pub chunk : ℕ
  pub size : ℕ
  pub method : Method

abbrev pub chunks_of : Descriptor → ℕ
chunks_of d = chunk_count d.size d.chunk

abbrev pub height_of : Descriptor → ℕ
height_of d = height (chunks_of d)

-- A descriptor that a swarm can have.
pub record IsDescriptor (d : Descriptor) : Type 0 where
  pub root_length : length d.root ≡ 32
  pub chunk_size : IsChunkSize d.chunk
  pub content_size : IsContentSize d.chunk d.size

-- The content is one of the descriptor's size and root.
pub record IsContentOf (d : Descriptor) (content : List ℕ) : Type 0 where
  pub size : length content ≡ d.size
  pub root : root_of content d.chunk ≡ d.root

-- the descriptor of a content
abbrev pub descriptor_of : List ℕ → ℕ → Method → Descriptor
descriptor_of content chunk method =
    record { root = root_of content chunk; chunk = chunk; size = length content; method = method }

-- its text: "ppspp1:ROOT:CHUNK:SIZE:METHOD", the root in lower-case hexadecimal digits and the others in decimal
unfoldable pub descriptor_text : Descriptor → List ℕ
descriptor_text d =
    codes "ppspp1:" ++ encode_lower d.root ++ codes ":" ++ decimal d.chunk ++ codes ":" ++ decimal d.size ++ codes ":"
    ++ decimal (method_number d.method)
