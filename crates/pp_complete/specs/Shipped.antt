-- A chunk that comes on a plain channel, with the hashes that the receiver lacks by what it announced, is held.
use Rattle.std.specs.Prelude.{◌≡◌, ◌⊎◌, ℕ, ◌≤◌, ◌<◌, Bool, true, List, length}
use Rattle.std.specs.List.{AllByRecursion}
use Rattle.pp_terms.specs.format.Descriptor.{Descriptor, chunks_of}
use Rattle.pp_terms.specs.format.Messages.{Message}
use Rattle.pp_terms.specs.format.Traffic.{Record}
use Rattle.pp_terms.specs.tree.Book.{LookUp, IsBacked}
use Rattle.pp_terms.specs.tree.Tree.{Node}
use Rattle.pp_traffic.specs.Hashes.{completes, brings, Carries}
use Rattle.pp_traffic.specs.Life.{Life}
use Rattle.pp_promises.specs.Datagrams.{hash_spans}
use Rattle.pp_promises.specs.Stored.{BringsChunk}
use Rattle.pp_world.specs.Knowing.{is_told_by}
use Rattle.pp_world.specs.Outcome.{is_announced_in}
use Rattle.pp_complete.specs.Faults.{AreAtFault}
use Rattle.pp_complete.specs.Laws.{AllPeaksOrNone}

-- Who announced a chunk of some set, or one in these records, has told of each of the nodes.
abbrev pub AreTold : Descriptor → (had : ℕ → Bool) → List Record → (Node → Bool) → Type 0
AreTold d had past told = (n : Node) → told n ≡ true
    → (i : ℕ) × (is_told_by (chunks_of d) i n ≡ true) × ((had i ≡ true) ⊎ (is_announced_in d i past ≡ true))

-- how many hashes come with a chunk at most: as many as claims are kept of a channel
abbrev pub most_hashes : ℕ
most_hashes = 128

-- The chunk is one of a book, and comes with hashes of that book which complete its path for who told of these nodes.
pub record IsShipped (d : Descriptor) (had : ℕ → Bool) (past : List Record) (told : Node → Bool) (theirs : LookUp) (i : ℕ) (bytes : List ℕ)
    (front : List Message) : Type 0 where
  pub told_of : AreTold d had past told
  pub peaks : AllPeaksOrNone (chunks_of d) told
  pub backed : IsBacked d theirs i bytes
  pub hashes : AllByRecursion (Carries theirs) front
  -- each of a node of chunks of the content: past it a span would name another node
  pub inside : AllByRecursion (λ span. span.last < chunks_of d) (hash_spans front)
  pub few : length (hash_spans front) ≤ most_hashes
  pub path : completes (chunks_of d) (brings front) told i ≡ true

-- Each chunk that a record brings so is held, unless one of the books is at fault.
abbrev pub StoresShipped : Descriptor → (had : ℕ → Bool) → (book : LookUp) → (is_held : ℕ → Bool) → List Record → Record → Type 0
StoresShipped d had book is_held before r = (life : Life) (i : ℕ) (bytes : List ℕ) → (b : BringsChunk d life before r i bytes)
    → (told : Node → Bool) (theirs : LookUp) → IsShipped d had before told theirs i bytes b.front
    → (is_held i ≡ true) ⊎ AreAtFault d book theirs
