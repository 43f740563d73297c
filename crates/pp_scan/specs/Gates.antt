-- Gates that are read beside pairs.
use Rattle.std.specs.Prelude.{◌≡◌, ℕ, ◌+◌, ◌*◌, ◌^◌, ◌<◌, ◌≤◌, Bool, true, false, List, slice_index_or, is_some}
use Rattle.pp_terms.specs.tree.Book.{LookUp}
use Rattle.pp_terms.specs.format.Descriptor.{Descriptor, chunks_of}
use Rattle.pp_terms.specs.disk.Image.{is_open}

-- Slot s lies under node (k, i): the pair in it is that node's, or that of a node under it. The last leaf's slot has none.
pub record IsSlotUnder (k i s : ℕ) : Type 0 where
  pub from : i * 2 ^ k ≤ s
  pub to : s + 1 < (i + 1) * 2 ^ k

-- the set tells of a chunk whose leaf is in the book whether its gate is open
abbrev pub ShowsGate : Descriptor → List ℕ → LookUp → List Bool → ℕ → Type 0
ShowsGate d reads book set s = s < chunks_of d → is_some (book 0 s) ≡ true → slice_index_or set s false ≡ is_open d reads s

-- the same of each chunk whose slot lies under a node
abbrev pub ShowsGates : Descriptor → List ℕ → ℕ → ℕ → LookUp → List Bool → Type 0
ShowsGates d reads k i book set = (s : ℕ) → IsSlotUnder k i s → ShowsGate d reads book set s
