-- Datagrams by their bytes, and what is read of them.
use Rattle.std.specs.Prelude.{◌≡◌, ℕ, ◌≤◌, Some, None, unwrap_or, List, [], ◌∷◌, ◌++◌, map, length}
use Rattle.std.specs.Int.{w32, to_be_bytes}
use Rattle.pp_terms.specs.tree.Book.{LookUp}
use Rattle.pp_terms.specs.tree.Tree.{Node}
use Rattle.pp_terms.specs.tree.Range.{leaves_of}
use Rattle.pp_terms.specs.format.Descriptor.{Descriptor, Method}
use Rattle.pp_terms.specs.format.Messages.{Message, Data, Integrity, spell, datagram}

-- the messages' bytes, one message after the other
abbrev pub spelled : Method → List Message → List ℕ
spelled method [] = []
spelled method (m ∷ ms) = spell method m ++ spelled method ms

-- the number of a channel, and messages
abbrev pub datagram_text : Method → ℕ → List Message → List ℕ
datagram_text method channel ms = to_be_bytes w32 channel ++ spelled method ms

-- A datagram of at most 16,384 bytes, which is read to its end as a channel's number and these messages.
pub record IsDatagram (d : Descriptor) (channel : ℕ) (ms : List Message) (bytes : List ℕ) : Type 0 where
  pub text : bytes ≡ datagram_text d.method channel ms
  pub read : datagram d.method d.chunk bytes ≡ record { channel = Some channel; messages = record { read = ms; fault = None } }
  pub short : length bytes ≤ 16384

-- a node by the chunks under it, with its digest in the book
abbrev pub hash_of : LookUp → Node → Message
hash_of book n = Integrity (leaves_of n) (unwrap_or (book n.layer n.offset) [])

-- a chunk behind the hashes of nodes
abbrev pub delivery : LookUp → List Node → ℕ → ℕ → List ℕ → List Message
delivery book nodes chunk sent_at bytes = map (hash_of book) nodes ++ Data chunk sent_at bytes ∷ []
