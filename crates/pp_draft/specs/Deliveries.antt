-- The datagram of a chunk, whose bytes a reader puts into it.
use Rattle.std.specs.Prelude.{◌≡◌, ℕ, ◌+◌, ◌<◌, ◌≤◌, Bool, Result, Ok, Err, List, ◌++◌, map, length, take}
use Rattle.std.specs.List.{AllByRecursion}
use Rattle.pp_terms.specs.tree.Content.{chunk_length}
use Rattle.pp_terms.specs.format.Descriptor.{Descriptor, chunks_of}
use Rattle.pp_terms.specs.format.Messages.{Message, Data, IsSpelt}
use Rattle.pp_traffic.specs.Laws.{IsInBook}
use Rattle.pp_tree.specs.Book.{entry}
use Rattle.pp_tree.specs.Node.{node_of}
use Rattle.pp_wire.specs.Put.{data_head}
use Rattle.pp_draft.specs.declared.chunk.Delivery.{Delivery}
use Rattle.pp_draft.specs.declared.chunk.Unread.{Unread}
use Rattle.pp_draft.specs.Datagrams.{datagram_text, hash_of, IsDatagram, delivery}
use Rattle.pp_draft.specs.Puts.{Stands}

-- the hashes before the chunk
abbrev pub hashes_of : Delivery → List Message
hashes_of x = map (hash_of (entry x.book.now)) (map node_of x.nodes.now)

-- the datagram's messages: the hashes, and the chunk with these bytes behind them
abbrev pub delivers : Delivery → List ℕ → List Message
delivers x bytes = delivery (entry x.book.now) (map node_of x.nodes.now) x.chunk x.sent_at bytes

-- how many bytes the chunk has
abbrev pub length_of : Descriptor → Delivery → ℕ
length_of d x = chunk_length d.size d.chunk x.chunk

-- The chunk is one of the content, and the book has the nodes.
pub record CanGo (d : Descriptor) (x : Delivery) : Type 0 where
  pub inside : x.chunk < chunks_of d
  pub few : length x.nodes.now ≤ 48
  pub given : AllByRecursion (IsInBook d (entry x.book.now)) (map node_of x.nodes.now)

-- The head of a DATA was put.
pub record AddsHead (d : Descriptor) (chunk sent_at : ℕ) (old : List ℕ) (at end : ℕ) (new : List ℕ) : Type 0 where
  pub within : end ≤ length new
  pub ends : end ≡ at + length (data_head d.method chunk sent_at)
  pub text : take end new ≡ take at old ++ data_head d.method chunk sent_at
  pub spelt : (bytes : List ℕ) → 0 < length bytes → IsSpelt d.method (Data chunk sent_at bytes) (data_head d.method chunk sent_at ++ bytes)

-- The first bytes of a buffer, so many, are the datagram but for the chunk's bytes.
pub record HasFront (d : Descriptor) (x : Delivery) (end : ℕ) (out : List ℕ) : Type 0 where
  pub within : end ≤ length out
  pub text : take end out ≡ datagram_text d.method x.to.channel (hashes_of x) ++ data_head d.method x.chunk x.sent_at
  pub stand : AllByRecursion (Stands d) (hashes_of x)
  pub spelt : (bytes : List ℕ) → 0 < length bytes
      → IsSpelt d.method (Data x.chunk x.sent_at bytes) (data_head d.method x.chunk x.sent_at ++ bytes)

-- The first bytes of a buffer, so many, are the datagram; the chunk's are what the reader gave, of which `read` holds.
pub record IsFetched (d : Descriptor) (x : Delivery) (read : List ℕ → Type 0) (end : ℕ) (out : List ℕ) : Type 0 where
  pub bytes : List ℕ
  pub given : read bytes
  pub whole : length bytes ≡ length_of d x
  pub written : IsDatagram d x.to.channel (delivers x bytes) (take end out)
  pub within : end ≤ length out

-- what a reader answers, by the bytes that the buffer has then
abbrev pub Answer : Type 0
Answer = Result (Unit {0}) Unread

abbrev pub Fetches : Descriptor → Delivery → (Answer → List ℕ → Type 0) → List ℕ → Result ℕ Unread → Type 0
Fetches d x reads out (Ok end) = IsFetched d x (reads (Ok tt)) end out
Fetches d x reads out (Err why) = (bytes : List ℕ) × reads (Err why) bytes

-- A datagram of the chunk, of which it holds that it was sent, or refused.
pub record PostsChunk (d : Descriptor) (x : Delivery) (read : List ℕ → Type 0) (does : List ℕ → Type 0) : Type 0 where
  pub bytes : List ℕ
  pub given : read bytes
  pub whole : length bytes ≡ length_of d x
  pub datagram : List ℕ
  pub written : IsDatagram d x.to.channel (delivers x bytes) datagram
  pub goes : does datagram

-- A chunk was sent, or refused; or it wasn't read, and then nothing was sent.
abbrev pub Delivers : Descriptor → Delivery → (Answer → List ℕ → Type 0) → Type 0 → (List ℕ → Bool → Type 0) → Result Bool Unread → Type 0
Delivers d x reads unsent does (Ok sent) = PostsChunk d x (reads (Ok tt)) (λ datagram. does datagram sent)
Delivers d x reads unsent does (Err why) = ((bytes : List ℕ) × reads (Err why) bytes) × unsent
