-- Worked examples of claims: a content "abc" in chunks of one byte, whose peaks are (1, 0) and (0, 2).
use Rattle.std.specs.Prelude.{◌≡◌, ℕ, Some, None, List, [], ◌∷◌, codes, replicate}
use Rattle.pp_terms.specs.tree.Tree.{leaf_of, node}
use Rattle.pp_terms.specs.tree.Book.{LookUp}
use Rattle.pp_terms.specs.tree.Proves.{Proves}
use Rattle.pp_terms.specs.tree.Claims.{Claim, latest, met, Contradicts}
use Rattle.pp_terms.specs.format.Descriptor.{Descriptor, Range32, descriptor_of}

abbrev pub three : Descriptor
three = descriptor_of (codes "abc") 1 Range32

-- the digest of a node of its tree
abbrev pub digest_at : ℕ → ℕ → List ℕ
digest_at k j = node (leaf_of (codes "abc") 1) 3 k j

abbrev pub claim : ℕ → ℕ → List ℕ → Claim
claim k j digest = record { node = record { layer = k; offset = j }; digest = digest }

-- both peaks, and the second leaf
abbrev pub enough : List Claim
enough = claim 1 0 (digest_at 1 0) ∷ claim 0 2 (digest_at 0 2) ∷ claim 0 1 (digest_at 0 1) ∷ []

-- a book with another digest of the first peak
abbrev pub another : LookUp
another = latest (claim 1 0 (replicate 32 7) ∷ [])

pub record ClaimExamples : Type 0 where
  -- the newest claim of a node counts, and a node without one has none
  pub newest : latest (claim 0 1 (codes "new") ∷ claim 0 1 (codes "old") ∷ []) 0 1 ≡ Some (codes "new")
  pub unclaimed : latest (claim 0 1 (codes "new") ∷ []) 0 2 ≡ None
  -- what the climb of the first chunk meets: its leaf and its peak, the other peak, and the nodes above that one
  pub leaf : met three (latest enough) 0 (codes "a") 0 0 ≡ Some (digest_at 0 0)
  pub peak : met three (latest enough) 0 (codes "a") 1 0 ≡ Some (digest_at 1 0)
  pub other_peak : met three (latest enough) 0 (codes "a") 0 2 ≡ Some (digest_at 0 2)
  pub above_peaks : met three (latest enough) 0 (codes "a") 1 1 ≡ Some (digest_at 1 1)
  pub root : met three (latest enough) 0 (codes "a") 2 0 ≡ Some three.root
  -- but not the sibling of its leaf
  pub sibling : met three (latest enough) 0 (codes "a") 0 1 ≡ None
  -- these claims prove the chunk, and a book with another digest of its peak contradicts them
  pub proves : Proves three (latest enough) 0 (codes "a")
  pub contradicts : Contradicts another (met three (latest enough) 0 (codes "a"))
  -- a claim of 68 bytes proves nothing
  pub too_long : (i : ℕ) (bytes : List ℕ) → Proves three (latest (claim 0 1 (replicate 68 7) ∷ enough)) i bytes → ⊥
