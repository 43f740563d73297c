-- The pairs of digests that a store keeps behind its chunks, and which of them a chunk needs.
use Rattle.std.specs.Prelude.{◌≡◌, ℕ, suc, ◌*◌, ◌^◌, ◌<◌, ◌≤◌, Bool, true, false, List, ◌++◌, length, slice_index_or, is_some}
use Rattle.pp_terms.specs.tree.Content.{chunk_length}
use Rattle.pp_terms.specs.tree.Tree.{above}
use Rattle.pp_terms.specs.tree.Book.{LookUp, IsJoined}
use Rattle.pp_terms.specs.format.Descriptor.{Descriptor, chunks_of, height_of}
use Rattle.pp_terms.specs.disk.Store.{pair_slot, pair_place, Has}
use Rattle.pp_terms.specs.disk.Image.{StandsIn}
use Rattle.pp_terms.specs.disk.Disk.{DiskState, History, IsKnown, Throughout, moment_of}
use Rattle.pp_scan.specs.Holding.{is_there}
use Rattle.pp_store.specs.Behind.{KeepsBehind}
use Rattle.pp_store.specs.Sound.{StaysGated}

-- whether the pair of node (k + 1, j) is stored; it is told by its slot
abbrev pub has_pair : List Bool → ℕ → ℕ → Bool
has_pair pairs k j = slice_index_or pairs (pair_slot k j) false

-- The node of layer k + 1 behind the full ones covers a chunk: of the layer's nodes that do, it alone isn't full.
pub record IsUnfilled (d : Descriptor) (k : ℕ) : Type 0 where
  pub inner : k < height_of d
  pub covers : above (suc k) (chunks_of d) * 2 ^ suc k < chunks_of d

-- The pairs that a chunk needs are stored: those on its way to the root, and those above the peaks.
pub record HasItsPairs (d : Descriptor) (pairs : List Bool) (i : ℕ) : Type 0 where
  pub way : (k : ℕ) → k < height_of d → has_pair pairs k (above (suc k) i) ≡ true
  pub unfilled : (k : ℕ) → IsUnfilled d k → has_pair pairs k (above (suc k) (chunks_of d)) ≡ true

-- The pair of node (k + 1, j) stands in a file with the book's digests.
pub record PairStands (d : Descriptor) (book : LookUp) (reads : List ℕ) (k j : ℕ) : Type 0 where
  pub left : List ℕ
  pub right : List ℕ
  pub joined : IsJoined book k j left right
  pub there : Has (pair_place d.chunk k j) (left ++ right) reads

-- each pair that is stored does
abbrev pub PairsStand : Descriptor → LookUp → List Bool → List ℕ → Type 0
PairsStand d book pairs reads = (k j : ℕ) → k < height_of d → has_pair pairs k j ≡ true → PairStands d book reads k j

-- Exactly the pairs are stored whose digests the book has, of the nodes that cover a chunk.
abbrev pub HasMarked : Descriptor → LookUp → List Bool → Type 0
HasMarked d book pairs =
    (k j : ℕ) → k < height_of d → j * 2 ^ suc k < chunks_of d → has_pair pairs k j ≡ is_some (book k (2 * j))

-- what is stored stays so
abbrev pub KeepsPairs : List Bool → List Bool → Type 0
KeepsPairs old new = (slot : ℕ) → slice_index_or old slot false ≡ true → slice_index_or new slot false ≡ true

-- Chunk i goes on standing in every image that a crash may leave, since whatever moment it has.
abbrev pub GoesOnSince : Descriptor → ℕ → History → History → Type 0
GoesOnSince d i old new =
    (moment : ℕ) → moment ≤ moment_of old → Throughout old moment (λ image. StandsIn d image i)
    → Throughout new moment (λ image. StandsIn d image i)

-- Pairs were written that weren't stored, refused ones among them: every chunk goes on standing whose pairs were stored.
pub record WritesPairs (d : Descriptor) (book : LookUp) (pairs pairs' : List Bool) (old new : History) : Type 0 where
  pub past : new.past ≡ old.past
  pub chunks_kept : (i : ℕ) → 0 < chunk_length d.size d.chunk i → is_there d old.reads book i ≡ true → is_there d new.reads book i ≡ true
  pub pairs_stand : PairsStand d book pairs old.reads → PairsStand d book pairs' new.reads
  pub goes_on : (i : ℕ) → HasItsPairs d pairs i → GoesOnSince d i old new
  pub gated : (member : ℕ → Bool) → ((i : ℕ) → member i ≡ true → HasItsPairs d pairs i) → StaysGated d member member old new

-- The same over any disk.
pub record PutsPairs (d : Descriptor) (book : LookUp) (pairs pairs' : List Bool) (old new : DiskState) : Type 0 where
  pub keeps : KeepsBehind old new
  pub size : length pairs' ≡ length pairs
  pub stays : KeepsPairs pairs pairs'
  pub writes : IsKnown old → WritesPairs d book pairs pairs' old.history new.history

-- The same of a chunk and its pairs, for the other chunks.
pub record WritesChunk (d : Descriptor) (book : LookUp) (at : ℕ) (pairs pairs' : List Bool) (old new : History) : Type 0 where
  pub past : new.past ≡ old.past
  pub chunks_kept : (i : ℕ) → (i ≡ at → ⊥) → 0 < chunk_length d.size d.chunk i → is_there d old.reads book i ≡ true
      → is_there d new.reads book i ≡ true
  pub pairs_stand : PairsStand d book pairs old.reads → PairsStand d book pairs' new.reads
  pub goes_on : (i : ℕ) → (i ≡ at → ⊥) → HasItsPairs d pairs i → GoesOnSince d i old new
  pub gated : (member : ℕ → Bool) → member at ≡ false → ((i : ℕ) → member i ≡ true → HasItsPairs d pairs i)
      → StaysGated d member member old new

pub record PutsChunk (d : Descriptor) (book : LookUp) (at : ℕ) (pairs pairs' : List Bool) (old new : DiskState) : Type 0 where
  pub keeps : KeepsBehind old new
  pub size : length pairs' ≡ length pairs
  pub stays : KeepsPairs pairs pairs'
  pub writes : IsKnown old → WritesChunk d book at pairs pairs' old.history new.history
