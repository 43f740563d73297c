-- The children of a node, by its pair.
use Rattle.std.proofs.Common.{◌≡◌, ⊎_elim, ℕ, suc, ◌+◌, ◌-◌, ◌*◌, ◌/◌, ◌^◌, ◌<◌, ◌≤◌, ◌==◌, nat_eq, Bool, true, false, cond, Option, Some, None, List, length, take, drop, refl, sym, ◌∙◌, ap, arith}
use Rattle.std.specs.Prelude.{◌&&◌}
use Rattle.std.specs.Cmp.Lexicographic.{pointwise}
use Rattle.std.proofs.Math.Pow.{pow_mono}
use Rattle.std.proofs.lemmas.Nat.{pow_pos}
use Rattle.std.proofs.lemmas.Bool.Decides.{nat_tests}
use Rattle.std.proofs.lemmas.List.{length-take, length-drop}
use Rattle.sha2.specs.Sha256.{sha256}
use Rattle.pp_terms.specs.tree.Book.{LookUp}
use Rattle.pp_terms.specs.disk.Image.{slice, half, child}
use Rattle.pp_terms.proofs.Halves.{half_odd, half_even}
use Rattle.pp_terms.proofs.Facts.{which_half}
use Rattle.pp_tree.specs.Book.{IsAdopted}

pub child_none : (both : List ℕ) (j : ℕ) (o : Option (List ℕ)) → o ≡ None → child both j o ≡ None
child_none both j o is = ap (λ (p : Option (List ℕ)). child both j p) is

pub child_known : (both digest : List ℕ) (j : ℕ) → length both ≡ 64 → pointwise nat_eq (sha256 both) digest ≡ true → child both j (Some digest) ≡ Some (half j both)
child_known both digest j long same =
    let test : (length both == 64) ≡ true = grind (arith, nat_tests) in
    ap (λ (b : Bool). cond (b && pointwise nat_eq (sha256 both) digest) (Some (half j both)) None) test
    ∙ ap (λ (b : Bool). cond b (Some (half j both)) None) same

pub child_other : (both digest : List ℕ) (j : ℕ) → pointwise nat_eq (sha256 both) digest ≡ false → child both j (Some digest) ≡ None
child_other both digest j differ =
    ap (λ (b : Bool). cond ((length both == 64) && b) (Some (half j both)) None) differ
    ∙ (elim (length both == 64) as (λ t. cond (t && false) (Some (half j both)) None ≡ None) [ true ↦ refl | false ↦ refl ])

child_short_of : (both : List ℕ) (j : ℕ) (o : Option (List ℕ)) → (length both ≡ 64 → ⊥) → child both j o ≡ None
child_short_of both j None short = refl
child_short_of both j (Some digest) short =
    let test : (length both == 64) ≡ false = grind (arith, nat_tests) in
    ap (λ (b : Bool). cond (b && pointwise nat_eq (sha256 both) digest) (Some (half j both)) None) test

-- a pair that doesn't lie inside the file
pub child_short : (reads : List ℕ) (place j : ℕ) (o : Option (List ℕ)) → length reads < place + 64 → child (slice reads place 64) j o ≡ None
child_short reads place j o short =
    child_short_of (slice reads place 64) j o (λ e. omega (arith, e, length-take 64 (drop place reads), length-drop place reads))

-- the children that were adopted
pub adopted_children : (pair digest left right : List ℕ) (k i : ℕ) (old new : LookUp) → length pair ≡ 64 → left ≡ take 32 pair → right ≡ drop 32 pair
    → pointwise nat_eq (sha256 pair) digest ≡ true → IsAdopted k i left right old new
    → (j : ℕ) → j / 2 ≡ i → new k j ≡ child pair j (Some digest)
adopted_children pair digest left right k i old new long left_is right_is same is j under = ⊎_elim
    (λ even. ap (λ (n : ℕ). new k n) even ∙ is.left_is ∙ ap (λ (x : List ℕ). Some x) (left_is ∙ sym (half_even j i pair even)) ∙ sym (child_known pair digest j long same))
    (λ odd. ap (λ (n : ℕ). new k n) odd ∙ is.right_is ∙ ap (λ (x : List ℕ). Some x) (right_is ∙ sym (half_odd j i pair odd)) ∙ sym (child_known pair digest j long same))
    (which_half j i under)

pub left_absent : (k i : ℕ) (book : LookUp) → ((j : ℕ) → j / 2 ≡ i → book k j ≡ None) → (book k (2 * i) ≡ None) × (book k (2 * i + 1) ≡ None)
left_absent k i book absent = (absent (2 * i) (omega arith), absent (2 * i + 1) (omega arith))

-- the bounds and the place that the code computes
pub node_slot : (k offset : ℕ) → 0 < k → k ≤ 20 → (offset + 1) * 2 ^ k ≤ 2 ^ 20
    → (offset * 2 ^ k < 2 ^ 32) × (offset * 2 ^ k + 2 ^ (k - 1) - 1 ≡ offset * 2 ^ suc (k - 1) + 2 ^ (k - 1) - 1)
    × (offset * 2 ^ k + 2 ^ (k - 1) ≤ 2 ^ 21) × (0 < 2 ^ (k - 1))
node_slot k offset some few first =
    let up : suc (k - 1) ≡ k = omega arith in
    let e : 2 ^ suc (k - 1) ≡ 2 ^ k = ap (λ (n : ℕ). 2 ^ n) up in
    let f : offset * 2 ^ suc (k - 1) ≡ offset * 2 ^ k = ap (λ (p : ℕ). offset * p) e in
    let pos : 0 < 2 ^ (k - 1) = pow_pos (k - 1) in
    let low : k - 1 ≤ 20 = omega arith in
    let mono : 2 ^ (k - 1) ≤ 2 ^ 20 = pow_mono low in
    (omega arith, omega arith, omega arith, pos)
