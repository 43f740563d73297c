-- Peaks layer by layer: which the first absent one is, which the last one, and what a rooted book that has the last has.
use Rattle.std.proofs.Common.{◌≡◌, ℕ, zero, suc, ◌+◌, ◌-◌, ◌*◌, ◌/◌, ◌%◌, ◌^◌, ◌≤◌, ◌<◌, ◌==◌, Bool, true, false, cond, Option, Some, None, List, [], ◌∷◌, ◌++◌, refl, sym, ◌∙◌, ap, inl, inr, arith}
use Rattle.std.specs.Prelude.{map, is_none, nat_lt, replicate}
use Rattle.std.specs.Option.{option_map}
use Rattle.std.specs.List.{find}
use Rattle.std.specs.Int.{w32, trailing_zeros}
use Rattle.std.proofs.lemmas.Bool.{cases_eq, cases_lt}
use Rattle.std.proofs.lemmas.Bool.Decides.{nat_tests}
use Rattle.std.proofs.lemmas.Nat.Bits.{bit_at-trailing_zeros}
use Rattle.std.proofs.lemmas.Nat.{pow_pos}
use Rattle.std.proofs.Math.Nat.{div-eq_of_lt, div-lt_iff_lt-mul}
use Rattle.std.proofs.Math.Pow.{pow_mono, pow-lt}
use Rattle.sha2.specs.Sha256.{sha256}
use Rattle.pp_terms.specs.tree.Tree as tree
use Rattle.pp_terms.specs.tree.Tree.{above, peaks_below, peaks, empty_hash}
use Rattle.pp_terms.specs.tree.Book.{LookUp, IsRooted}
use Rattle.pp_terms.specs.format.Descriptor.{Descriptor, chunks_of, height_of}
use Rattle.pp_terms.specs.tree.Proves.{first_absent, last_layer, peak_offset, filled}
use Rattle.pp_terms.proofs.Heights.{height_is}
use Rattle.pp_terms.proofs.Nodes.{hung}
use Rattle.pp_tree.specs.Node.{node_of}
use Rattle.pp_tree.specs.declared.node.Node.{Node}
use Rattle.pp_terms.proofs.Peaks.{above_is}
use Rattle.pp_paths.proofs.Growth.{option_cases}

-- whether the look-up lacks a node
abbrev lacks : LookUp → tree.Node → Bool
lacks known at = is_none (known at.layer at.offset)

find_node : (known : LookUp) (nodes : List Node)
    → option_map node_of (find (λ at. is_none (known at.layer at.offset)) nodes) ≡ find (lacks known) (map node_of nodes)
find_node known [] = refl
find_node known (at ∷ rest) = elim (is_none (known at.layer at.offset))
    as (λ b. option_map node_of (cond b (Some at) (find (λ n. is_none (known n.layer n.offset)) rest))
    ≡ cond b (Some (node_of at)) (find (lacks known) (map node_of rest))) [
      | true ↦ refl
      | false ↦ find_node known rest
    ]

-- the first of the peaks as the code finds it
pub first_absent_is : (known : LookUp) (n : ℕ) (nodes : List Node) (found : Option Node) → map node_of nodes ≡ peaks n
    → found ≡ find (λ at. is_none (known at.layer at.offset)) nodes → option_map node_of found ≡ first_absent known n
unfolding first_absent
first_absent_is known n nodes found all is =
    ap (λ o. option_map node_of o) is ∙ find_node known nodes ∙ ap (λ xs. find (lacks known) xs) all

-- no peak of the lowest layers is absent exactly where the look-up has each
found_below : (known : LookUp) (n m : ℕ) → find (lacks known) (peaks_below m n) ≡ None → (k : ℕ) → k < m → above k n % 2 ≡ 1
    → (x : List ℕ) × (known k (peak_offset k n) ≡ Some x)
found_below known n zero none k low odd = absurd (omega arith)
found_below known n (suc m) none k low odd = elim (cases_eq (above m n % 2) 1) [
  | inl here ↦
      let test : (above m n % 2 == 1) ≡ true = grind (arith, nat_tests) in
      let all : find (lacks known) (record { layer = m; offset = above m n - 1 } ∷ peaks_below m n) ≡ None =
      sym (ap (λ b. find (lacks known) (cond b (record { layer = m; offset = above m n - 1 } ∷ peaks_below m n) (peaks_below m n))) test) ∙ none in
      elim (option_cases (known m (above m n - 1))) [
        | inl lacking ↦
            let e : find (lacks known) (record { layer = m; offset = above m n - 1 } ∷ peaks_below m n) ≡ Some (record { layer = m; offset = above m n - 1 }) =
            rw lacking refl in
            cc
        | inr (x, at) ↦
            let rest : find (lacks known) (peaks_below m n) ≡ None = rw at at all in
            elim (cases_lt k m) [
              | inl lt ↦ found_below known n m rest k lt odd
              | inr ge ↦ (let e : k ≡ m = omega arith in (x, ap (λ i. known i (peak_offset i n)) e ∙ at))
            ]
      ]
  | inr none_here ↦
      let test : (above m n % 2 == 1) ≡ false = grind (arith, nat_tests) in
      let rest : find (lacks known) (peaks_below m n) ≡ None =
      sym (ap (λ b. find (lacks known) (cond b (record { layer = m; offset = above m n - 1 } ∷ peaks_below m n) (peaks_below m n))) test) ∙ none in
      elim (cases_lt k m) [
        | inl lt ↦ found_below known n m rest k lt odd
        | inr ge ↦ (let e : k ≡ m = omega arith in absurd (none_here (ap (λ i. above i n % 2) (sym e) ∙ odd)))
      ]
]

all_below : (known : LookUp) (n m : ℕ)
    → ((k : ℕ) → k < m → above k n % 2 ≡ 1 → (x : List ℕ) × (known k (peak_offset k n) ≡ Some x))
    → find (lacks known) (peaks_below m n) ≡ None
all_below known n zero each = refl
all_below known n (suc m) each =
    let rest = all_below known n m (λ k low odd. each k (omega arith) odd) in
    elim (cases_eq (above m n % 2) 1) [
      | inl here ↦
          let test : (above m n % 2 == 1) ≡ true = grind (arith, nat_tests) in
          let (x, at) = each m (omega arith) here in
          ap (λ b. find (lacks known) (cond b (record { layer = m; offset = above m n - 1 } ∷ peaks_below m n) (peaks_below m n))) test
          ∙ ap (λ o. cond (is_none o) (Some (record { layer = m; offset = above m n - 1 })) (find (lacks known) (peaks_below m n))) at
          ∙ rest
      | inr none_here ↦
          let test : (above m n % 2 == 1) ≡ false = grind (arith, nat_tests) in
          ap (λ b. find (lacks known) (cond b (record { layer = m; offset = above m n - 1 } ∷ peaks_below m n) (peaks_below m n))) test
          ∙ rest
    ]

pub peak_known : (known : LookUp) (n k : ℕ) → first_absent known n ≡ None → k < 21 → above k n % 2 ≡ 1
    → (x : List ℕ) × (known k (peak_offset k n) ≡ Some x)
unfolding first_absent
peak_known known n k none low odd = found_below known n 21 none k low odd

pub peaks_known : (known : LookUp) (n : ℕ)
    → ((k : ℕ) → k < 21 → above k n % 2 ≡ 1 → (x : List ℕ) × (known k (peak_offset k n) ≡ Some x))
    → first_absent known n ≡ None
unfolding first_absent
peaks_known known n each = all_below known n 21 each

-- The last peak of n chunks lies in layer k.
pub record IsLast (n k : ℕ) : Type 0 where
  pub odd : above k n % 2 ≡ 1
  pub lower : (l : ℕ) → l < k → above l n % 2 ≡ 0
  pub low : k < 32

pub last_is : (n : ℕ) → 0 < n → n < 2 ^ 32 → IsLast n (last_layer n)
unfolding last_layer
last_is n some fits =
    let bits = bit_at-trailing_zeros w32 n some fits in
    record {
      odd = ap (λ (m : ℕ). m % 2) (above_is (trailing_zeros w32 n) n) ∙ bits.1;
      lower = λ l lt. ap (λ (m : ℕ). m % 2) (above_is l n) ∙ bits.2 l lt;
      low = bits.0;
    }

-- a layer that has a full node isn't above the root's
pub layer_within : (n k h : ℕ) → n ≤ 2 ^ h → 0 < above k n → k ≤ h
layer_within n k h covers some = elim (cases_lt h k) [
  | inr le ↦ le
  | inl lt ↦
      let up : 2 ^ h < 2 ^ k = pow-lt lt in
      let less : n < 2 ^ k = omega arith in
      let none : n / 2 ^ k ≡ 0 = div-eq_of_lt less in
      absurd (omega (arith, above_is k n))
]

-- the root's layer has one node
pub at_most_one : (n l : ℕ) → n ≤ 2 ^ l → above l n ≤ 1
at_most_one n l covers =
    let some : 0 < 2 ^ l = pow_pos l in
    let low : n < 2 * 2 ^ l = omega arith in
    let one : n / 2 ^ l < 2 = (div-lt_iff_lt-mul some).1 low in
    omega (arith, above_is l n)

-- in a rooted book that has the last peak: the nodes above it that cover a chunk and aren't full
spine : (d : Descriptor) (book : LookUp) (k : ℕ) (x : List ℕ) → IsRooted d book → IsLast (chunks_of d) k
    → book k (peak_offset k (chunks_of d)) ≡ Some x → (l : ℕ) → k < l → l ≤ height_of d
    → (y : List ℕ) × (book l (above l (chunks_of d)) ≡ Some y)
spine d book k x rooted last at zero past below = absurd (omega arith)
spine d book k x rooted last at (suc l) past below =
    let rest : l + suc (height_of d - suc l) ≡ height_of d = omega arith in
    elim (cases_eq k l) [
      | inl e ↦
          let odd = last.odd in
          let here : book l (peak_offset k (chunks_of d)) ≡ Some x = ap (λ i. book i (peak_offset k (chunks_of d))) (sym e) ∙ at in
          let (a, b, joined) = hung d book l (height_of d - suc l) (peak_offset k (chunks_of d)) x rooted rest here in
          let half : peak_offset k (chunks_of d) / 2 ≡ above k (chunks_of d) / 2 = omega arith in
          (sha256 (a ++ b), ap (λ (i : ℕ). book (suc l) (above i (chunks_of d) / 2)) (sym e) ∙ ap (λ i. book (suc l) i) (sym half) ∙ joined.joined)
      | inr ne ↦
          let (y, here) = spine d book k x rooted last at l (omega arith) (omega arith) in
          let (a, b, joined) = hung d book l (height_of d - suc l) (above l (chunks_of d)) y rooted rest here in
          (sha256 (a ++ b), joined.joined)
    ]

-- and so it has all peaks
pub peaks_there : (d : Descriptor) (book : LookUp) (k : ℕ) (x : List ℕ) → IsRooted d book → 0 < chunks_of d → chunks_of d ≤ 2 ^ 20
    → IsLast (chunks_of d) k → book k (peak_offset k (chunks_of d)) ≡ Some x → first_absent book (chunks_of d) ≡ None
peaks_there d book k x rooted some most last at = peaks_known book (chunks_of d) (λ l low odd.
    let tall = height_is (chunks_of d) some most in
    let within : l ≤ height_of d = layer_within (chunks_of d) l (height_of d) tall.covers (omega arith) in
    elim (cases_lt l k) [
      | inl lt ↦ (let even = last.lower l lt in absurd (omega arith))
      | inr ge ↦ elim (cases_eq l k) [
        | inl e ↦ (x, ap (λ i. book i (peak_offset i (chunks_of d))) e ∙ at)
        | inr ne ↦ elim (cases_eq l (height_of d)) [
          | inl top ↦
              let one : above l (chunks_of d) ≤ 1 = at_most_one (chunks_of d) l (omega (arith, tall.covers, ap (λ (i : ℕ). 2 ^ i) top)) in
              let first : peak_offset l (chunks_of d) ≡ 0 = omega arith in
              (d.root, ap (λ i. book l i) first ∙ ap (λ i. book i 0) top ∙ rooted.root_is)
          | inr under ↦
              let (y, here) = spine d book k x rooted last at l (omega arith) within in
              let rest : l + suc (height_of d - suc l) ≡ height_of d = omega arith in
              let (a, b, joined) = hung d book l (height_of d - suc l) (above l (chunks_of d)) y rooted rest here in
              let left : peak_offset l (chunks_of d) ≡ 2 * (above l (chunks_of d) / 2) = omega arith in
              (a, ap (λ i. book l i) left ∙ joined.left_is)
        ]
      ]
    ])

-- the last peak, as the code counts
pub last_some : (n : ℕ) → 0 < n → n < 2 ^ 32 → 1 ≤ n / 2 ^ last_layer n
last_some n some fits =
    let last = last_is n some fits in omega (arith, last.odd, above_is (last_layer n) n)

pub last_offset : (n : ℕ) → n / 2 ^ last_layer n - 1 ≡ peak_offset (last_layer n) n
last_offset n = ap (λ (m : ℕ). m - 1) (sym (above_is (last_layer n) n))

-- a node above all layers of 32 bits covers a chunk only where it is the first
pub covers_none : (n k j : ℕ) → n < 2 ^ 32 → (j ≡ 0 → ⊥) → 32 ≤ k → nat_lt k 32 ≡ nat_lt (j * 2 ^ k) n
covers_none n k j fits some high =
    let up : 2 ^ 32 ≤ 2 ^ k = pow_mono high in
    let more : 2 ^ k ≤ j * 2 ^ k = at_least j (2 ^ k) some in
    let left : nat_lt k 32 ≡ false = grind (arith, nat_tests) in
    let right : nat_lt (j * 2 ^ k) n ≡ false = grind (arith, nat_tests) in
    left ∙ sym right
  where
    at_least : (a b : ℕ) → (a ≡ 0 → ⊥) → b ≤ a * b
    at_least zero b some' = absurd (some' refl)
    at_least (suc a) b some' = omega arith

-- a node that covers no chunk
pub filled_empty : (n : ℕ) (known : LookUp) (k j : ℕ) (test : Bool) (digest : List ℕ) → test ≡ nat_lt (j * 2 ^ k) n → test ≡ false
    → digest ≡ replicate 32 0 → Some digest ≡ filled n known k j
unfolding empty_hash
filled_empty n known k j test digest is false_is digest_is =
    let e : nat_lt (j * 2 ^ k) n ≡ false = sym is ∙ false_is in
    rw (e, digest_is) refl
