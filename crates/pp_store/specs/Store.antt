-- What is meant by an open store.
use Rattle.std.specs.Prelude.{◌≡◌, ℕ, ◌-◌, ◌*◌, ◌<◌, ◌||◌, Bool, true, false, IsTrue, List, [], ◌∷◌, length, replicate, slice_index_or, slice_set, is_some}
use Rattle.pp_terms.specs.tree.Book.{LookUp, has_peaks}
use Rattle.pp_terms.specs.format.Descriptor.{Descriptor, chunks_of}
use Rattle.pp_terms.specs.disk.Store.{header, file_size, Has, HasHeader}
use Rattle.pp_terms.specs.disk.Image.{holds, StandsIn}
use Rattle.pp_terms.specs.disk.Disk.{History, Throughout, moment_of}
use Rattle.pp_scan.specs.Look.{synced}
use Rattle.pp_scan.specs.Holding.{is_there}
use Rattle.pp_store.specs.declared.admitting.Put.{Put}
use Rattle.pp_store.specs.declared.admitting.Put.TheVariants.{Stored, Held, Missing, Wrong, Length}
use Rattle.pp_store.specs.Keep.{kept}
use Rattle.pp_store.specs.Pairs.{HasItsPairs, PairsStand}
use Rattle.pp_store.specs.Writes.{pairs_for, with_pairs}

-- The content's descriptor; of each chunk whether it is committed and whether it is pending; of each slot whether the
-- pair in it is stored; and whether the store may still be used.
pub record StoreState : Type 0 where
  pub descriptor : Descriptor
  pub committed : List Bool
  pub pending : List Bool
  pub pairs : List Bool
  pub live : Bool

-- chunk i is in one of the sets
abbrev pub in_either : List Bool → List Bool → ℕ → Bool
in_either committed pending i = slice_index_or committed i false || slice_index_or pending i false

-- The sets are of the content's chunks and slots, no chunk is in both, and of each chunk that is held the pairs are stored.
pub record IsSized (d : Descriptor) (committed pending pairs : List Bool) : Type 0 where
  pub committed_size : length committed ≡ chunks_of d
  pub pending_size : length pending ≡ chunks_of d
  pub pairs_size : length pairs ≡ 2 * chunks_of d
  pub supported : (i : ℕ) → in_either committed pending i ≡ true → HasItsPairs d pairs i
  pub apart : (i : ℕ) → slice_index_or pending i false ≡ true → slice_index_or committed i false ≡ false

-- the disk once a zero byte was kept at a store's last place, and then its header
abbrev pub filled : Descriptor → History → History
filled d h = kept (kept h (file_size d - 1) (0 ∷ [])) 0 (header d)

-- the disk once eight zero bytes are kept at the front of its file
abbrev pub cleared : History → History
cleared h = kept (synced h) 0 (replicate 8 0)

-- The disk once an empty file was made a store that holds no chunk: before that it is cleared, so that no crash leaves a
-- header before the file has its length.
abbrev pub made : Descriptor → History → History
made d h = filled d (cleared h)

-- An empty file was made a store; of any other what was written is on the disk.
pub record IsOpened (d : Descriptor) (old new : History) : Type 0 where
  pub fresh : old.reads ≡ [] → new ≡ made d old
  pub scanned : 0 < length old.reads → new ≡ synced old

-- Each chunk of the set stands in every image that a crash from now on may leave.
abbrev pub AllStand : Descriptor → List Bool → History → Type 0
AllStand d set h = (i : ℕ) → slice_index_or set i false ≡ true → Throughout h (moment_of h) (λ image. StandsIn d image i)

-- What stands in every image that a crash may leave goes on standing.
abbrev pub GoesOn : Descriptor → History → History → Type 0
GoesOn d old new = (i : ℕ) → Throughout old (moment_of old) (λ image. StandsIn d image i)
    → Throughout new (moment_of old) (λ image. StandsIn d image i)

-- whether chunk i is committed
abbrev pub is_committed : StoreState → ℕ → Bool
is_committed s i = slice_index_or s.committed i false

-- whether chunk i is committed or pending
abbrev pub is_held : StoreState → ℕ → Bool
is_held s i = in_either s.committed s.pending i

-- The store is what a file has: it begins with the header, zeros past its end, each chunk that is committed or pending is
-- there with the digest of its leaf, and each stored pair stands there with the book's digests.
pub record AgreesWith (s : StoreState) (book : LookUp) (reads : List ℕ) : Type 0 where
  pub begins : HasHeader s.descriptor reads
  pub chunks : (i : ℕ) → is_held s i ≡ true → is_there s.descriptor reads book i ≡ true
  pub pairs_stand : PairsStand s.descriptor book s.pairs reads

-- The file begins with the header and holds chunk i, which stands in it once its gate is open.
pub record HoldsIn (d : Descriptor) (reads : List ℕ) (i : ℕ) : Type 0 where
  pub begins : Has 0 (header d) reads
  pub within : i < chunks_of d
  pub held : IsTrue (holds d reads i)

-- the same of each chunk that is committed or pending
abbrev pub HoldsAll : StoreState → List ℕ → Type 0
HoldsAll s reads = (i : ℕ) → is_held s i ≡ true → HoldsIn s.descriptor reads i

-- The store after an answer: a stored chunk is pending, and the pairs that it needs are stored.
abbrev pub after_put : Put → ℕ → StoreState → StoreState
after_put Stored i s = record s { pending = slice_set s.pending i true; pairs = with_pairs s.pairs (pairs_for s.descriptor i) }
after_put Held i s = s
after_put (Missing at) i s = s
after_put (Wrong at found kept) i s = s
after_put (Length found want) i s = s

-- Each chunk that was pending is committed, and none is pending; all else stays.
pub record HasCommitted (old new : StoreState) : Type 0 where
  pub others : new ≡ record old { committed = new.committed; pending = replicate (chunks_of old.descriptor) false }
  pub size : length new.committed ≡ length old.committed
  pub each : (i : ℕ) → slice_index_or new.committed i false ≡ is_held old i

-- The book has the leaf of each chunk that is committed or pending, and all peaks where there is one.
pub record KnowsHeld (s : StoreState) (book : LookUp) : Type 0 where
  pub leaf : (i : ℕ) → is_held s i ≡ true → is_some (book 0 i) ≡ true
  pub peaks : (i : ℕ) → is_held s i ≡ true → has_peaks book (chunks_of s.descriptor) ≡ true
