-- Nodes of the tree: their digests, the full ones of each layer, and where an entry of a rooted book hangs.
use Rattle.std.proofs.Common.{◌≡◌, inl, inr, ⊎_elim, ℕ, zero, suc, ◌+◌, ◌-◌, ◌*◌, ◌/◌, ◌%◌, ◌^◌, ◌<◌, ◌≤◌, nat_lt, true, false, cond, Some, List, ◌++◌, length, refl, arith, add-one, pow-suc}
use Rattle.std.proofs.lemmas.Bool.{cases_eq, cases_lt}
use Rattle.std.proofs.lemmas.Bool.Decides.{nat_tests}
use Rattle.std.proofs.lemmas.List.{length-replicate}
use Rattle.sha2.specs.Sha256.{sha256}
use Rattle.sha2.proofs.Facts256.{length-sha256}
use Rattle.pp_terms.specs.tree.Tree.{empty_hash, node, above, height, IsHeight}
use Rattle.pp_terms.specs.tree.Book.{LookUp, IsJoined, IsRooted}
use Rattle.pp_terms.specs.format.Descriptor.{Descriptor, height_of}

-- a digest has 32 bytes
pub length-node : (leaf : ℕ → List ℕ) (n k j : ℕ) → ((i : ℕ) → length (leaf i) ≡ 32) → length (node leaf n k j) ≡ 32
unfolding node empty_hash
length-node leaf n zero j long = elim (nat_lt j n) as (λ b. length (cond b (leaf j) empty_hash) ≡ 32)
    [ true ↦ long j | false ↦ length-replicate {A = ℕ} 32 0 ]
length-node leaf n (suc k) j long = elim (nat_lt (j * 2 ^ suc k) n)
    as (λ b. length (cond b (sha256 (node leaf n k (2 * j) ++ node leaf n k (2 * j + 1))) empty_hash) ≡ 32)
    [ true ↦ length-sha256 (node leaf n k (2 * j) ++ node leaf n k (2 * j + 1)) | false ↦ length-replicate {A = ℕ} 32 0 ]

-- a node with no leaf under it is empty
pub node_empty : (leaf : ℕ → List ℕ) (n k j : ℕ) → n ≤ j * 2 ^ k → node leaf n k j ≡ empty_hash
unfolding node
node_empty leaf n zero j le = let test : nat_lt j n ≡ false = grind (arith, nat_tests) in rw test refl
node_empty leaf n (suc k) j le = let test : nat_lt (j * 2 ^ suc k) n ≡ false = grind (arith, nat_tests) in rw test refl

-- the full nodes of the next layer are half as many
pub above_up : (k c : ℕ) → above (k + 1) c ≡ above k c / 2
above_up k c = rw add-one refl

pub fewer : (layers c : ℕ) → c < 2 ^ suc layers → c / 2 < 2 ^ layers
fewer layers c lt = let e : 2 ^ suc layers ≡ 2 ^ layers * 2 = pow-suc 2 layers in omega (arith, e)

-- where the node of an offset below the count of full nodes isn't a peak, its parent's offset is below theirs
pub goes_on : (count offset : ℕ) → offset < count → ((count % 2 ≡ 1) × (offset ≡ count - 1) → ⊥) → offset / 2 < count / 2
goes_on count offset lt none = ⊎_elim
    (λ last. ⊎_elim (λ odd. absurd (none (odd, last))) (λ even. omega arith) (cases_eq (count % 2) 1))
    (λ other. omega arith)
    (cases_eq offset (count - 1))

-- the height of a content bounds the way up
pub height_bound : (chunks : ℕ) → IsHeight chunks (height chunks) → chunks ≤ 2 ^ 20 → height chunks ≤ 20
height_bound chunks is le = ⊎_elim
    (λ more. absurd (let few : 2 ^ 20 < chunks = is.least 20 more in omega arith))
    (λ fits. fits)
    (cases_lt 20 (height chunks))

-- where an entry hangs, below the root
pub hung : (d : Descriptor) (book : LookUp) (k n j : ℕ) (x : List ℕ) → IsRooted d book → k + suc n ≡ height_of d
    → book k j ≡ Some x → (a : List ℕ) × (b : List ℕ) × IsJoined book k (j / 2) a b
hung d book k n j x rooted low at = elim (rooted.hangs k j x at) [
  | inl (top, first) ↦ absurd (omega arith)
  | inr pair ↦ pair
]
