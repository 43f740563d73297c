-- What a peer stores (RFC 7574, sections 3.4, 3.5 and 5.6): a chunk that came on a plain channel whose peer has claimed
-- hashes that prove it.
use Rattle.std.specs.Prelude.{◌≡◌, ◌⊎◌, ℕ, true, false, List, ◌∷◌, ◌++◌}
use Rattle.pp_terms.specs.disk.Image.{holds}
use Rattle.pp_terms.specs.format.Descriptor.{Descriptor, chunks_of}
use Rattle.pp_terms.specs.format.Messages.{Message, Data}
use Rattle.pp_terms.specs.format.Traffic.{Record}
use Rattle.pp_terms.specs.tree.Book.{LookUp}
use Rattle.pp_terms.specs.tree.Claims.{met, Contradicts}
use Rattle.pp_terms.specs.tree.Proves.{Proves}
use Rattle.pp_traffic.specs.Claims.{claimed}
use Rattle.pp_traffic.specs.Life.{Life, closes, comes_on}
use Rattle.pp_traffic.specs.Past.{now, read, EachRecord}
use Rattle.pp_traffic.specs.Plain.{IsPlainUpTo}
use Rattle.pp_traffic.specs.Story.{hear}
use Rattle.pp_promises.specs.ReadStory.{proven_story}

-- A datagram came on a channel that was plain up to it. It has a chunk, and nothing before that closes the channel.
pub record BringsChunk (d : Descriptor) (life : Life) (before : List Record) (r : Record) (i : ℕ) (bytes : List ℕ) : Type 0 where
  pub plain : IsPlainUpTo d life before r
  pub comes : comes_on d life r ≡ true
  pub front : List Message
  pub sent_at : ℕ
  pub rest : List Message
  pub messages : (read d r).messages.read ≡ front ++ Data i sent_at bytes ∷ rest
  pub open_still : closes front ≡ false

-- what the peer has claimed before a message that stands behind these in the datagram
abbrev pub claimed_before : Descriptor → Life → Record → List Record → List Message → LookUp
claimed_before d life r before front = claimed (chunks_of d) (hear (now (r ∷ before)) front (proven_story d life before))

-- what the climbs of a chunk there meet, by these claims
abbrev pub met_before : Descriptor → Life → Record → List Record → List Message → ℕ → List ℕ → LookUp
met_before d life r before front i bytes = met d (claimed_before d life r before front) i bytes

-- A chunk that such claims prove is held in what the disk reads, or the book contradicts the climb at a node that can be named.
abbrev pub StoresProved : Descriptor → LookUp → List ℕ → List Record → Record → Type 0
StoresProved d book reads before r = (life : Life) (i : ℕ) (bytes : List ℕ) → (b : BringsChunk d life before r i bytes)
    → Proves d (claimed_before d life r before b.front) i bytes
    → (holds d reads i ≡ true) ⊎ Contradicts book (met_before d life r before b.front i bytes)

-- Each record's chunks are stored so.
abbrev pub StoresAll : Descriptor → LookUp → List ℕ → List Record → Type 0
StoresAll d book reads past = EachRecord (StoresProved d book reads) past
