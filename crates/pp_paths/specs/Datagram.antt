-- What a peer sends with a chunk is enough for its receiver (RFC 7574, sections 5.3 to 5.6).
use Rattle.std.specs.Prelude.{◌≡◌, ◌⊎◌, ℕ, suc, ◌*◌, ◌/◌, ◌^◌, ◌<◌, ◌≤◌, Bool, true, false, Some, is_some, List, length}
use Rattle.std.specs.List.{list_all}
use Rattle.sha2.specs.Sha256.{sha256}
use Rattle.pp_terms.specs.tree.Content.{chunk_length}
use Rattle.pp_terms.specs.tree.Tree.{Node, empty_hash, peaks}
use Rattle.pp_terms.specs.tree.Book.{LookUp, AreDigests, IsRooted}
use Rattle.pp_terms.specs.format.Descriptor.{Descriptor, chunks_of, IsDescriptor}
use Rattle.pp_traffic.specs.Hashes.{completes}
use Rattle.pp_paths.specs.declared.settling.Settled.TheVariants.{Known}
use Rattle.pp_paths.specs.declared.judging.Verdict.TheVariants.{Fits}
use Rattle.pp_paths.specs.Climb.{AddsPath}
use Rattle.pp_paths.specs.Judge.{judged}
use Rattle.pp_paths.specs.Settle.{settled, path_of_peaks}

-- A chunk and the hashes of some nodes are the sender's, and complete the chunk's path for what the receiver is known to have.
-- The claims are what was claimed last of each node, so of those nodes what was sent.
pub record IsSent (d : Descriptor) (receiver sender claims : LookUp) (sent told : Node → Bool) (i : ℕ) (bytes : List ℕ) : Type 0 where
  pub receives : IsRooted d receiver
  pub sends : IsRooted d sender
  -- the books agree
  pub agree : (k j : ℕ) (x y : List ℕ) → receiver k j ≡ Some x → sender k j ≡ Some y → x ≡ y
  -- the sender's has the empty hash at a node that covers no chunk beside one that does
  pub empty : (k j : ℕ) (x : List ℕ) → sender k j ≡ Some x → chunks_of d ≤ j * 2 ^ k → j / 2 * 2 ^ suc k < chunks_of d → x ≡ empty_hash
  pub whole : length bytes ≡ chunk_length d.size d.chunk i
  pub leaf : sender 0 i ≡ Some (sha256 bytes)
  pub digests : AreDigests claims
  pub claimed : (n : Node) → sent n ≡ true
      → (x : List ℕ) × (claims n.layer n.offset ≡ Some x) × (sender n.layer n.offset ≡ Some x)
  -- it is known to have nothing, or all peaks and perhaps more
  pub has : (n : Node) → told n ≡ true → is_some (receiver n.layer n.offset) ≡ true
  pub all_or_none : (list_all told (peaks (chunks_of d)) ≡ true) ⊎ ((n : Node) → told n ≡ false)
  pub path : completes (chunks_of d) sent told i ≡ true

-- Then the peaks are settled, and in the book with them the chunk fits.
pub record SentIsEnough : Type 0 where
  pub settled_by : (d : Descriptor) (receiver sender claims : LookUp) (sent told : Node → Bool) (i : ℕ) (bytes : List ℕ)
      → IsDescriptor d → i < chunks_of d → IsSent d receiver sender claims sent told i bytes
      → settled (chunks_of d) receiver claims ≡ Known
  pub fits : (d : Descriptor) (receiver peaked sender claims : LookUp) (sent told : Node → Bool) (i : ℕ) (bytes : List ℕ)
      → IsDescriptor d → i < chunks_of d → IsSent d receiver sender claims sent told i bytes
      → AddsPath (path_of_peaks (chunks_of d) receiver claims) receiver peaked → IsRooted d peaked
      → judged d peaked claims i bytes ≡ Fits
