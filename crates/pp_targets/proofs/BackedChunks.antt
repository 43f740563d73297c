-- What a book of any descriptor of a target backs.
use Rattle.std.proofs.Common.{◌≡◌, ◌⊎◌, ℕ, zero, suc, ◌+◌, ◌-◌, ◌*◌, ◌^◌, ◌≤◌, ◌<◌, Some, List, ◌++◌, length, sym, ◌∙◌, ap, inl, inr, arith}
use Rattle.std.proofs.Math.Nat.{div-eq_of_lt}
use Rattle.sha2.specs.Sha256.{sha256}
use Rattle.pp_terms.specs.tree.Content.{chunk_count, chunk_length}
use Rattle.pp_terms.specs.tree.Tree.{above, height, root_of}
use Rattle.pp_terms.specs.tree.Book.{LookUp, IsRooted, IsBacked}
use Rattle.pp_terms.specs.format.Descriptor.{Descriptor, chunks_of, height_of, IsDescriptor}
use Rattle.pp_terms.proofs.Heights.{height_is}
use Rattle.pp_terms.proofs.Nodes.{hung}
use Rattle.pp_terms.proofs.Peaks.{above_is}
use Rattle.pp_tree.proofs.Sizes.{chunk_count_range, chunk_size_range}
use Rattle.pp_targets.specs.Target.{SwarmName, Target, Sized, Auto, Fits, FitsName, IsOf, IsOfName}
use Rattle.pp_targets.specs.Depth.{height_in}
use Rattle.pp_targets.specs.Law.{BackedIsChunkOfTarget}
use Rattle.pp_targets.proofs.Descent.{IsWay, IsApart, from_roots}
use Rattle.pp_targets.proofs.Parts.{length-chunk_of, only_last}

-- the root is above each chunk
pub root_above : (e : Descriptor) (i : ℕ) → IsDescriptor e → i < chunks_of e → above (height_of e) i ≡ 0
root_above e i is within =
    let range = chunk_size_range e.chunk is.chunk_size in
    let count = chunk_count_range e.size e.chunk (omega arith) is.content_size in
    let tall = height_is (chunks_of e) count.0 count.1 in
    let below : i < 2 ^ height_of e = omega (arith, tall.covers) in
    above_is (height_of e) i ∙ div-eq_of_lt below

-- a rooted book that has a leaf has all nodes above it
all_above : (e : Descriptor) (book : LookUp) (i : ℕ) (leaf : List ℕ) → IsRooted e book → book 0 i ≡ Some leaf → (k : ℕ) → k ≤ height_of e
    → (x : List ℕ) × (book k (above k i) ≡ Some x)
all_above e book i leaf rooted at zero low = (leaf, at)
all_above e book i leaf rooted at (suc k) low =
    let (x, here) = all_above e book i leaf rooted at k (omega arith) in
    let up : k + suc (height_of e - suc k) ≡ height_of e = omega arith in
    let (a, b, joined) = hung e book k (height_of e - suc k) (above k i) x rooted up here in
    (sha256 (a ++ b), joined.joined)

pub way_of_backed : (e : Descriptor) (book : LookUp) (i : ℕ) (bytes : List ℕ) → IsDescriptor e → IsBacked e book i bytes → IsWay e book i bytes
way_of_backed e book i bytes is backed = record {
  root_is = ap (λ (j : ℕ). book (height_of e) j) (root_above e i is backed.within) ∙ backed.rooted.root_is;
  leaf_is = backed.leaf;
  pairs = λ k lt.
      let (x, here) = all_above e book i (sha256 bytes) backed.rooted backed.leaf k (omega arith) in
      let up : k + suc (height_of e - suc k) ≡ height_of e = omega arith in
      let (a, b, joined) = hung e book k (height_of e - suc k) (above k i) x backed.rooted up here in (
        a,
        b,
        joined,
        backed.rooted.digests k (2 * above (suc k) i) a joined.left_is,
        backed.rooted.digests k (2 * above (suc k) i + 1) b joined.right_is,
      );
}

-- the root of a content of the target
pub root_of_fit : (target : Target) (content : List ℕ) (e : Descriptor) → IsOf target e → Fits target content → e.root ≡ root_of content e.chunk
root_of_fit (Sized d) content e is fits = ap (λ (x : Descriptor). x.root) is ∙ sym fits.root ∙ ap (λ (x : Descriptor). root_of content x.chunk) (sym is)
root_of_fit (Auto name) content e is fits = is.root ∙ sym fits.root ∙ ap (λ (c : ℕ). root_of content c) (sym is.chunk)

-- no chunk that isn't the last has 64 bytes
pub apart_by_name : (name : SwarmName) (content : List ℕ) (e : Descriptor) (i : ℕ) (bytes : List ℕ) → IsDescriptor e → IsOfName name e
    → FitsName name content → length bytes ≡ chunk_length e.size e.chunk i → IsApart content e.chunk bytes
apart_by_name name content e i bytes is of fits whole =
    let range = chunk_size_range e.chunk is.chunk_size in
    let wide : 256 ≤ name.chunk = omega (arith, of.chunk, range.0) in
    record {
      bytes_apart = λ long. only_last e.size e.chunk i range.0 of.last (sym whole ∙ long);
      chunks_apart = λ l long. only_last (length content) name.chunk l wide fits.last
          (ap (λ (c : ℕ). chunk_length (length content) c l) (sym of.chunk) ∙ sym (length-chunk_of content e.chunk l) ∙ long);
    }

heights : (target : Target) (content : List ℕ) (e : Descriptor) (i : ℕ) (bytes : List ℕ) → IsDescriptor e → IsOf target e → Fits target content
    → length bytes ≡ chunk_length e.size e.chunk i → (height_of e ≡ height_in content e.chunk) ⊎ IsApart content e.chunk bytes
heights (Sized d) content e i bytes is of fits whole =
    let size : e.size ≡ length content = ap (λ (x : Descriptor). x.size) of ∙ sym fits.size in
    inl (ap (λ (s : ℕ). height (chunk_count s e.chunk)) size)
heights (Auto name) content e i bytes is of fits whole = inr (apart_by_name name content e i bytes is of fits whole)

pub backed_is_chunk_of_target : BackedIsChunkOfTarget
backed_is_chunk_of_target target content e book i bytes is of fits backed =
    elim (from_roots e content book i bytes (way_of_backed e book i bytes is backed) (heights target content e i bytes is of fits backed.whole)
    (root_of_fit target content e of fits) (root_above e i is backed.within)) [
      | inl way ↦ inl way.chunk_is
      | inr clash ↦ inr clash
    ]
