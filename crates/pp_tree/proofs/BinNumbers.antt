-- The cells of a book: bin numbers tell nodes apart, and the cells of a node's children lie on both sides of its own.
use Rattle.std.proofs.Common.{◌≡◌, ℕ, zero, suc, ◌+◌, ◌-◌, ◌*◌, ◌%◌, ◌^◌, ◌≤◌, ◌<◌, Option, Some, None, List, length, get_or, refl, ◌∙◌, ap, subst, inl, inr, arith}
use Rattle.std.proofs.lemmas.Nat.{pow_pos}
use Rattle.std.proofs.Math.Pow.{pow_mono, pow-lt}
use Rattle.std.proofs.Math.Nat.{mod-eq_of_lt}
use Rattle.std.proofs.lemmas.Bool.{cases_lt}
use Rattle.std.proofs.lemmas.List.{get_or_past}
use Rattle.pp_tree.specs.Book.{cell_of}
use Rattle.pp_terms.proofs.Peaks.{doubled}

-- twice a number, under a power of two
twice : (k n : ℕ) → 2 ^ suc k * n ≡ 2 * (2 ^ k * n)
twice k n = grind arith

-- a number is an odd number and a power of two in one way
pub same_odd : (k l i j : ℕ) → 2 ^ k * (2 * i + 1) ≡ 2 ^ l * (2 * j + 1) → (k ≡ l) × (i ≡ j)
same_odd zero zero i j e = (refl, omega arith)
same_odd zero (suc l) i j e = let even = twice l (2 * j + 1) in absurd (omega arith)
same_odd (suc k) zero i j e = let even = twice k (2 * i + 1) in absurd (omega arith)
same_odd (suc k) (suc l) i j e =
    let left = twice k (2 * i + 1) in
    let right = twice l (2 * j + 1) in
    let rest = same_odd k l i j (omega arith) in
    (ap (λ (n : ℕ). suc n) rest.0, rest.1)

pub bin_some : (k j : ℕ) → 0 < 2 ^ k * (2 * j + 1)
bin_some k j =
    let some : 0 < 2 ^ k = pow_pos k in omega arith

-- two nodes of one cell are one
pub same_cell : (k l i j : ℕ) → cell_of k i ≡ cell_of l j → (k ≡ l) × (i ≡ j)
same_cell k l i j e =
    let left = bin_some k i in
    let right = bin_some l j in
    same_odd k l i j (omega arith)

-- where the left child's cell lies
pub left_cell : (k i : ℕ) → cell_of (suc k) i - 2 ^ k ≡ cell_of k (2 * i)
left_cell k i =
    let some : 0 < 2 ^ k = pow_pos k in
    let up = twice k (2 * i + 1) in
    omega arith

pub right_cell : (k i : ℕ) → cell_of (suc k) i + 2 ^ k ≡ cell_of k (2 * i + 1)
right_cell k i =
    let some : 0 < 2 ^ k = pow_pos k in
    let up = twice k (2 * i + 1) in
    omega arith

-- a power of two above an odd multiple of 2 ^ k is above the next multiple
odd_below : (k h i : ℕ) → 2 ^ k * (2 * i + 1) < 2 ^ h → 2 ^ k * (2 * i + 2) ≤ 2 ^ h
odd_below zero zero i lt = absurd (omega arith)
odd_below zero (suc h) i lt = let even = doubled h in omega arith
odd_below (suc k) zero i lt = let some = bin_some (suc k) i in absurd (omega arith)
odd_below (suc k) (suc h) i lt =
    let down : 2 ^ k * (2 * i + 1) < 2 ^ h = (let left = twice k (2 * i + 1) in let right = doubled h in omega arith) in
    let rest = odd_below k h i down in
    let left = twice k (2 * i + 2) in
    let right = doubled h in
    omega arith

-- the right child's cell is one of the cells of a tree where the node's is
pub child_cell_in : (k i h n : ℕ) → n ≡ 2 ^ h - 1 → cell_of (suc k) i < n → cell_of (suc k) i + 2 ^ k < n
child_cell_in k i h n size lt =
    let some = bin_some (suc k) i in
    let below : 2 ^ suc k * (2 * i + 1) < 2 ^ h = omega arith in
    let next = odd_below (suc k) h i below in
    let step : 2 ^ suc k ≡ 2 * 2 ^ k = grind arith in
    let more : 2 ^ suc k * (2 * i + 2) ≡ 2 ^ suc k * (2 * i + 1) + 2 ^ suc k = grind arith in
    let one : 0 < 2 ^ k = pow_pos k in
    omega arith

-- a node of a tree has a cell there
odd_within : (k h j : ℕ) → k ≤ h → j < 2 ^ (h - k) → 2 ^ k * (2 * j + 1) < 2 ^ suc h
odd_within zero h j low lt =
    let all : 2 ^ (h - 0) ≡ 2 ^ h = ap (λ (n : ℕ). 2 ^ n) (omega arith) in
    let up = doubled h in
    omega arith
odd_within (suc k) zero j low lt = absurd (omega arith)
odd_within (suc k) (suc h) j low lt =
    let below : k ≤ h = omega arith in
    let down : suc h - suc k ≡ h - k = omega arith in
    let rest = odd_within k h j below (subst (λ (n : ℕ). j < 2 ^ n) down lt) in
    let left = twice k (2 * j + 1) in
    let right = doubled (suc h) in
    omega arith

pub node_below : (k h j : ℕ) → k ≤ h → j < 2 ^ (h - k) → cell_of k j < 2 ^ suc h - 1
node_below k h j low lt =
    let within = odd_within k h j low lt in
    let some = bin_some k j in
    omega arith

-- a cell of a tree is that of one of its nodes
node_of_odd : (k h j : ℕ) → 2 ^ k * (2 * j + 1) < 2 ^ suc h → (k ≤ h) × (j < 2 ^ (h - k))
node_of_odd zero h j lt =
    let all : 2 ^ (h - 0) ≡ 2 ^ h = ap (λ (n : ℕ). 2 ^ n) (omega arith) in
    let up = doubled h in
    (omega arith, omega arith)
node_of_odd (suc k) zero j lt =
    let left = twice k (2 * j + 1) in
    let some = bin_some k j in
    absurd (omega arith)
node_of_odd (suc k) (suc h) j lt =
    let down : 2 ^ k * (2 * j + 1) < 2 ^ suc h = (let left = twice k (2 * j + 1) in let right = doubled (suc h) in omega arith) in
    let rest = node_of_odd k h j down in
    let layers : h - k ≡ suc h - suc k = omega arith in
    (omega (arith, rest.0), subst (λ (n : ℕ). j < 2 ^ n) layers rest.1)

pub node_of_cell : (k h j : ℕ) → cell_of k j < 2 ^ suc h - 1 → (k ≤ h) × (j < 2 ^ (h - k))
node_of_cell k h j lt =
    let some = bin_some k j in
    node_of_odd k h j (omega arith)

-- layers above all of a tree have no cells
pub high_cell : (k j h n : ℕ) → n ≡ 2 ^ h - 1 → h ≤ 21 → 20 < k → n ≤ cell_of k j
high_cell k j h n size few high =
    let h_below : h ≤ k = omega arith in
    let up : 2 ^ h ≤ 2 ^ k = pow_mono h_below in
    let times : 2 ^ k ≤ 2 ^ k * (2 * j + 1) = omega arith in
    omega arith

-- what is in a cell isn't past the last
pub cell_in : {X : Type 0} (cells : List (Option X)) (n : ℕ) (x : X) → get_or cells n None ≡ Some x → n < length cells
cell_in cells n x e = elim (cases_lt n (length cells)) [
  | inl lt ↦ lt
  | inr ge ↦ let none = get_or_past cells n None ge in cc
]

-- a shifted bit of the code
pub shifted : (k : ℕ) → k < 64 → 1 * 2 ^ k % 18446744073709551616 ≡ 2 ^ k
shifted k lt =
    let below : 2 ^ k < 2 ^ 64 = pow-lt lt in
    let one : 1 * 2 ^ k ≡ 2 ^ k = omega arith in
    ap (λ (n : ℕ). n % 18446744073709551616) one ∙ mod-eq_of_lt below

-- the cells of both children, by the distance of the code
pub child_cells : (cells : List (Option (List ℕ))) (m i at step h : ℕ) → 0 < m → m ≤ 20 → at ≡ cell_of m i
    → step ≡ 1 * 2 ^ (m - 1) % 18446744073709551616 → length cells ≡ 2 ^ h - 1 → at < length cells
    → (at - step ≡ cell_of (m - 1) (2 * i)) × (at + step ≡ cell_of (m - 1) (2 * i + 1)) × (at + step < length cells)
child_cells cells zero i at step h some few at_is step_is size lt = absurd (omega arith)
child_cells cells (suc k) i at step h some few at_is step_is size lt =
    let down : suc k - 1 ≡ k = omega arith in
    let small : k < 64 = omega arith in
    let step_at : step ≡ 2 ^ k = step_is ∙ ap (λ (n : ℕ). 1 * 2 ^ n % 18446744073709551616) down ∙ shifted k small in
    let left = left_cell k i in
    let right = right_cell k i in
    let in_it : cell_of (suc k) i < length cells = omega arith in
    let inside = child_cell_in k i h (length cells) size in_it in
    rw down (omega (arith, left, step_at), omega (arith, right, step_at), omega (arith, inside, step_at))
