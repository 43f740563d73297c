-- Books that have no other digest than a climb.
use Rattle.std.proofs.Common.{◌≡◌, ℕ, zero, suc, ◌-◌, ◌/◌, ◌%◌, ◌≤◌, Some, List}
use Rattle.std.specs.Prelude.{IfSome}
use Rattle.sha2.specs.Sha256.{sha256}
use Rattle.pp_terms.specs.tree.Tree.{above}
use Rattle.pp_terms.specs.tree.Book.{LookUp}
use Rattle.pp_terms.specs.format.Descriptor.{Descriptor, chunks_of, height_of}
use Rattle.pp_terms.specs.tree.Proves.{joined, filled, last_layer, peak_offset, Proves}
use Rattle.pp_terms.specs.tree.Bins.{sibling}

-- At each node on the way of n layers up the book has the climb's digest, or none.
abbrev pub Follows : LookUp → LookUp → ℕ → ℕ → ℕ → List ℕ → Type 0
Follows book known zero k j digest = IfSome (book k j) (λ kept. kept ≡ digest)
Follows book known (suc n) k j digest =
    IfSome (book k j) (λ kept. kept ≡ digest)
    × ((other : List ℕ) → known k (sibling j) ≡ Some other → Follows book known n (suc k) (j / 2) (sha256 (joined j digest other)))

-- The book has no other digest than the climbs from the chunk to its peak and from the last peak to the root.
pub record HasNoOther (d : Descriptor) (book known : LookUp) (i : ℕ) (bytes : List ℕ) (proof : Proves d known i bytes) : Type 0 where
  pub to_peak : Follows book known proof.top 0 i (sha256 bytes)
  pub to_root :
      let last = last_layer (chunks_of d) in
      (digest : List ℕ) → known last (peak_offset last (chunks_of d)) ≡ Some digest
      → Follows book (filled (chunks_of d) known) (height_of d - last) last (peak_offset last (chunks_of d)) digest

-- Nor has it another digest of a peak.
pub record IsFollowed (d : Descriptor) (book known : LookUp) (i : ℕ) (bytes : List ℕ) (proof : Proves d known i bytes) : Type 0 where
  pub climbs : HasNoOther d book known i bytes proof
  pub peaks : (k : ℕ) (digest : List ℕ) → k ≤ height_of d → above k (chunks_of d) % 2 ≡ 1
      → known k (peak_offset k (chunks_of d)) ≡ Some digest
      → IfSome (book k (peak_offset k (chunks_of d))) (λ kept. kept ≡ digest)
