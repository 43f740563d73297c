-- Hashes that complete the path of a chunk are enough for who has what it was left out for: the chunk fits.
use Rattle.std.specs.Prelude.{◌≡◌, ◌⊎◌, ℕ, Bool, true, false, Some, List, is_some}
use Rattle.pp_terms.specs.format.Descriptor.{Descriptor, chunks_of, IsDescriptor}
use Rattle.pp_terms.specs.tree.Book.{LookUp, IsRooted, IsBacked}
use Rattle.pp_terms.specs.tree.Tree.{Node, is_full, is_peak}
use Rattle.pp_traffic.specs.Hashes.{completes}
use Rattle.pp_paths.specs.declared.settling.Settled.TheVariants.{Known}
use Rattle.pp_paths.specs.declared.judging.Verdict.TheVariants.{Fits}
use Rattle.pp_paths.specs.Climb.{AddsPath}
use Rattle.pp_paths.specs.Judge.{judged}
use Rattle.pp_paths.specs.Settle.{settled, path_of_peaks}
use Rattle.pp_complete.specs.Faults.{AreAtFault}

-- the book has the node
abbrev pub HasNode : LookUp → Node → Type 0
HasNode book n = is_some (book n.layer n.offset) ≡ true

-- The node is claimed with the digest that a book has of it.
pub record IsClaimedBy (claims book : LookUp) (n : Node) : Type 0 where
  pub digest : List ℕ
  pub claimed : claims n.layer n.offset ≡ Some digest
  pub is : book n.layer n.offset ≡ Some digest

-- The test names all peaks, or no node at all.
abbrev pub AllPeaksOrNone : (chunks : ℕ) → (Node → Bool) → Type 0
AllPeaksOrNone chunks told = ((n : Node) → is_peak chunks n ≡ true → told n ≡ true) ⊎ ((n : Node) → told n ≡ false)

-- A chunk of the sender's book comes with hashes of that book. They complete its path for a receiver that told of some nodes, all peaks
-- among them or none, and has these in its book.
pub record IsCompleted (d : Descriptor) (mine theirs claims : LookUp) (brought told : Node → Bool) (i : ℕ) (bytes : List ℕ) : Type 0 where
  pub rooted : IsRooted d mine
  pub backed : IsBacked d theirs i bytes
  pub has : (n : Node) → told n ≡ true → HasNode mine n
  pub peaks : AllPeaksOrNone (chunks_of d) told
  pub claimed : (n : Node) → is_full (chunks_of d) n ≡ true → brought n ≡ true → IsClaimedBy claims theirs n
  pub path : completes (chunks_of d) brought told i ≡ true

-- Then the peaks are settled, unless one of the books is at fault.
abbrev pub CompletedIsSettled : Type 0
CompletedIsSettled = (d : Descriptor) (mine theirs claims : LookUp) (brought told : Node → Bool) (i : ℕ) (bytes : List ℕ)
    → IsDescriptor d → IsCompleted d mine theirs claims brought told i bytes
    → (settled (chunks_of d) mine claims ≡ Known) ⊎ AreAtFault d mine theirs

-- In the book with the settled peaks the chunk fits, unless one of the books is at fault.
abbrev pub CompletedFits : Type 0
CompletedFits = (d : Descriptor) (mine theirs claims : LookUp) (brought told : Node → Bool) (i : ℕ) (bytes : List ℕ)
    → IsDescriptor d → IsCompleted d mine theirs claims brought told i bytes → (peaked : LookUp)
    → AddsPath (path_of_peaks (chunks_of d) mine claims) mine peaked
    → (judged d peaked claims i bytes ≡ Fits) ⊎ AreAtFault d mine theirs
