-- A swarm that is named with its size or without, and what it may be the name of.
use Rattle.std.specs.Prelude.{◌≡◌, ◌≢◌, ℕ, ◌-◌, ◌^◌, ◌<◌, ◌≤◌, List, length}
use Rattle.pp_terms.specs.tree.Content.{chunk_count, chunk_length}
use Rattle.pp_terms.specs.tree.Tree.{root_of}
use Rattle.pp_terms.specs.format.Descriptor.{Method, Descriptor, IsContentOf}

-- A swarm's root, chunk size and method: what names it to those who don't know the content's size.
pub record SwarmName : Type 0 where
  pub root : List ℕ
  pub chunk : ℕ
  pub method : Method

-- What a peer is told to fetch or to serve.
pub data Target : Type 0 where
  Sized : Descriptor → Target
  Auto : SwarmName → Target

-- the length of the last chunk
abbrev pub last_length : ℕ → ℕ → ℕ
last_length bytes chunk = chunk_length bytes chunk (chunk_count bytes chunk - 1)

-- The content has the name's root. Its last chunk doesn't have the 64 bytes of two digests joined.
pub record FitsName (name : SwarmName) (content : List ℕ) : Type 0 where
  pub some : 0 < length content
  pub few : chunk_count (length content) name.chunk ≤ 2 ^ 20
  pub root : root_of content name.chunk ≡ name.root
  pub last : last_length (length content) name.chunk ≢ 64

-- the content is one of the target
abbrev pub Fits : Target → List ℕ → Type 0
Fits (Sized d) content = IsContentOf d content
Fits (Auto name) content = FitsName name content

-- A descriptor of the name, with any size whose last chunk doesn't have 64 bytes.
pub record IsOfName (name : SwarmName) (e : Descriptor) : Type 0 where
  pub root : e.root ≡ name.root
  pub chunk : e.chunk ≡ name.chunk
  pub method : e.method ≡ name.method
  pub last : last_length e.size e.chunk ≢ 64

-- the descriptor is one of the target
abbrev pub IsOf : Target → Descriptor → Type 0
IsOf (Sized d) e = e ≡ d
IsOf (Auto name) e = IsOfName name e
