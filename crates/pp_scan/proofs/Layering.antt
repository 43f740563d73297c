-- The nodes under a node, half by half.
use Rattle.std.proofs.Common.{◌≡◌, ◌⊎◌, ⊎_elim, ℕ, zero, suc, ◌+◌, ◌-◌, ◌*◌, ◌/◌, ◌%◌, ◌^◌, ◌<◌, ◌≤◌, ◌==◌, ◌&&◌, nat_le, nat_eq, Bool, true, false, cond, Option, Some, None, List, length, refl, sym, ◌∙◌, ap, subst, inl, inr, arith}
use Rattle.std.specs.Prelude.{is_some}
use Rattle.std.specs.Cmp.Lexicographic.{pointwise}
use Rattle.std.proofs.Math.Nat.{mul-le-mul_left, mod-eq_of_lt}
use Rattle.std.proofs.Math.Pow.{pow-lt}
use Rattle.std.proofs.lemmas.Nat.{pow_pos}
use Rattle.std.proofs.lemmas.Bool.{cases_lt, cases_eq}
use Rattle.std.proofs.lemmas.Bool.Decides.{nat_tests}
use Rattle.sha2.specs.Sha256.{sha256}
use Rattle.pp_terms.specs.tree.Tree.{above}
use Rattle.pp_terms.specs.tree.Book.{LookUp}
use Rattle.pp_terms.specs.format.Descriptor.{Descriptor, height_of}
use Rattle.pp_terms.specs.disk.Image.{slice, half, child, known, known_below}
use Rattle.pp_terms.specs.disk.Store.{chunk_place, pair_place}
use Rattle.pp_tree.specs.Book.{HasRootAlone}
use Rattle.pp_terms.proofs.Facts.{which_half}
use Rattle.pp_tree.proofs.Halving.{above_half}
use Rattle.pp_scan.specs.Layers.{IsUnder, IsBareUnder, HasKnownUnder, HasOnlyKnownUnder, HasOnlyKnown, HasKnown}
use Rattle.pp_scan.proofs.Children.{node_slot, child_none}

-- a power of two as the code computes it
pub shifted : (k : ℕ) → k ≤ 20 → 1 * 2 ^ k % 4294967296 ≡ 2 ^ k
shifted k le =
    let less : k < 32 = omega arith in
    let below : 2 ^ k < 2 ^ 32 = pow-lt less in
    let one : 1 * 2 ^ k ≡ 2 ^ k = omega arith in
    ap (λ (n : ℕ). n % 4294967296) one ∙ mod-eq_of_lt below

-- where the code looks for the pair
pub children_place : (chunk k offset place from : ℕ) → 0 < k → k ≤ 20 → (offset + 1) * 2 ^ k ≤ 2 ^ 20
    → place ≡ chunk_place chunk (offset * 2 ^ k % 4294967296 + 1 * 2 ^ (k - 1) % 4294967296 - 1) → from ≡ chunk
    → place + from ≡ pair_place chunk (k - 1) offset
children_place chunk k offset place from some few first place_is from_is =
    let slot = node_slot k offset some few first in
    let a : offset * 2 ^ k % 4294967296 ≡ offset * 2 ^ k = mod-eq_of_lt slot.0 in
    let b : 1 * 2 ^ (k - 1) % 4294967296 ≡ 2 ^ (k - 1) = shifted (k - 1) (omega arith) in
    (λ i. (place_is ∙ ap (λ (s : ℕ). chunk_place chunk s) ((λ j. a j + b j - 1) ∙ slot.1)) i + from_is i)

-- what is known of a child
pub known_child : (d : Descriptor) (image : List ℕ) (k j : ℕ) → suc k ≤ height_of d
    → known d image k j ≡ child (slice image (pair_place d.chunk k (j / 2)) 64) j (known d image (suc k) (j / 2))
known_child d image k j le =
    let here : nat_le k (height_of d) ≡ true = within k (omega arith) in
    let up : nat_le (suc k) (height_of d) ≡ true = within (suc k) le in
    let down : height_of d - k ≡ suc (height_of d - suc k) = omega arith in
    let layer : height_of d - suc (height_of d - suc k) ≡ k = omega arith in
    ap (λ (b : Bool). cond {A = Option (List ℕ)} b (known_below d image (height_of d - k) j) None) here
    ∙ ap (λ (n : ℕ). known_below d image n j) down
    ∙ ap (λ (l : ℕ). child (slice image (pair_place d.chunk l (j / 2)) 64) j (known_below d image (height_of d - suc k) (j / 2))) layer
    ∙ ap (λ (o : Option (List ℕ)). child (slice image (pair_place d.chunk k (j / 2)) 64) j o)
    (sym (ap (λ (b : Bool). cond {A = Option (List ℕ)} b (known_below d image (height_of d - suc k) (j / 2)) None) up))
  where
    within : (l : ℕ) → l ≤ height_of d → nat_le l (height_of d) ≡ true
    within l low = grind (arith, nat_tests)

-- under what isn't known nothing is
pub unknown_under : (d : Descriptor) (image : List ℕ) (k i l j : ℕ) → k ≤ height_of d → IsUnder k i l j → known d image k i ≡ None → known d image l j ≡ None
unknown_under d image k i l j low under none = down under.down l j under.some under.layer under.way
  where
    down : (m l j : ℕ) → 0 < m → l + m ≡ k → above m j ≡ i → known d image l j ≡ None
    down zero l j some layer way = absurd (omega arith)
    down (suc zero) l j some layer way =
        let up : suc l ≡ k = omega arith in
        known_child d image l j (omega arith)
        ∙ child_none (slice image (pair_place d.chunk l (j / 2)) 64) j (known d image (suc l) (j / 2))
        (ap (λ (n : ℕ). known d image n (j / 2)) up ∙ ap (λ (o : ℕ). known d image k o) way ∙ none)
    down (suc (suc m)) l j some layer way =
        known_child d image l j (omega arith)
        ∙ child_none (slice image (pair_place d.chunk l (j / 2)) 64) j (known d image (suc l) (j / 2))
        (down (suc m) (suc l) (j / 2) (omega arith) (omega arith) (above_half (suc m) j ∙ way))

-- ---- under a node, and under its children

-- what lies under a node is a child, or lies under one
pub under_child : (k i l j : ℕ) → IsUnder (suc k) i l j → ((l ≡ k) × (j / 2 ≡ i)) ⊎ (IsUnder k (2 * i) l j ⊎ IsUnder k (2 * i + 1) l j)
under_child k i l j under = by under.down under.some under.layer under.way
  where
    by : (m : ℕ) → 0 < m → l + m ≡ suc k → above m j ≡ i → ((l ≡ k) × (j / 2 ≡ i)) ⊎ (IsUnder k (2 * i) l j ⊎ IsUnder k (2 * i + 1) l j)
    by zero some layer way = absurd (omega arith)
    by (suc zero) some layer way = inl (omega arith, way)
    by (suc (suc m)) some layer way = inr (⊎_elim
        (λ left. inl (record { down = suc m; some = omega arith; layer = omega arith; way = left }))
        (λ right. inr (record { down = suc m; some = omega arith; layer = omega arith; way = right }))
        (which_half (above (suc m) j) i way))

pub child_under : (k i c l j : ℕ) → IsUnder k c l j → c / 2 ≡ i → IsUnder (suc k) i l j
child_under k i c l j under half = record {
  down = suc under.down;
  some = omega arith;
  layer = omega (arith, under.layer);
  way = ap (λ (m : ℕ). m / 2) under.way ∙ half;
}

pub is_child : (k i j : ℕ) → j / 2 ≡ i → IsUnder (suc k) i k j
is_child k i j half = record { down = 1; some = omega arith; layer = omega arith; way = half }

apart : (k c e l j : ℕ) → IsUnder k c l j → IsUnder k e l j → c ≡ e
apart k c e l j one two =
    let same : one.down ≡ two.down = omega (arith, one.layer, two.layer) in
    sym one.way ∙ ap (λ (m : ℕ). above m j) same ∙ two.way

not_beside : (k c e l : ℕ) → l ≡ k → IsUnder k c l e → ⊥
not_beside k c e l here under = omega (arith, under.some, under.layer)

both_none : (both : List ℕ) (j m : ℕ) (o : Option (List ℕ)) → child both j o ≡ None → child both m o ≡ None
both_none both j m None none = refl
both_none both j m (Some digest) none = by ((length both == 64) && pointwise nat_eq (sha256 both) digest) none
  where
    by : (b : Bool) → cond b (Some (half j both)) None ≡ None → cond b (Some (half m both)) None ≡ None
    by true e = cc
    by false e = refl

-- A node's children were looked up: the book before, and after.
pub record HasLooked (d : Descriptor) (image : List ℕ) (k i : ℕ) (old new : LookUp) : Type 0 where
  pub low : suc k ≤ height_of d
  pub others : (l j : ℕ) → ((l ≡ k) × (j / 2 ≡ i) → ⊥) → new l j ≡ old l j
  pub children : (j : ℕ) → j / 2 ≡ i → new k j ≡ child (slice image (pair_place d.chunk k i) 64) j (old (suc k) i)
  pub parent : old (suc k) i ≡ known d image (suc k) i

-- so the children are known
pub children_known : (d : Descriptor) (image : List ℕ) (k i j : ℕ) (old new : LookUp) → HasLooked d image k i old new → j / 2 ≡ i
    → new k j ≡ known d image k j
children_known d image k i j old new looked half =
    looked.children j half
    ∙ ap (λ (o : Option (List ℕ)). child (slice image (pair_place d.chunk k i) 64) j o) looked.parent
    ∙ ap (λ (o : ℕ). child (slice image (pair_place d.chunk k o) 64) j (known d image (suc k) o)) (sym half)
    ∙ sym (known_child d image k j looked.low)

-- under each of them the book is still bare
pub bare_child : (k i c : ℕ) (old new : LookUp) → ((l j : ℕ) → ((l ≡ k) × (j / 2 ≡ i) → ⊥) → new l j ≡ old l j) → c / 2 ≡ i
    → IsBareUnder (suc k) i old → IsBareUnder k c new
bare_child k i c old new others half bare l j under =
    others l j (λ same. not_beside k c j l same.0 under) ∙ bare l j (child_under k i c l j under half)

pub bare_beside : (k i : ℕ) (mid new : LookUp) → ((l j : ℕ) → (IsUnder k (2 * i) l j → ⊥) → new l j ≡ mid l j)
    → IsBareUnder k (2 * i + 1) mid → IsBareUnder k (2 * i + 1) new
bare_beside k i mid new others bare l j under =
    others l j (λ left. omega (arith, apart k (2 * i) (2 * i + 1) l j left under)) ∙ bare l j under

-- where the left child isn't known, nothing under the node is
pub none_under : (d : Descriptor) (image : List ℕ) (k i : ℕ) (old new : LookUp) → HasLooked d image k i old new → IsBareUnder (suc k) i old
    → new k (2 * i) ≡ None → HasKnownUnder d image (suc k) i new
none_under d image k i old new looked bare none l j under = ⊎_elim
    (λ child'. ap (λ (n : ℕ). new n j) child'.0 ∙ children_known d image k i j old new looked child'.1 ∙ ap (λ (n : ℕ). known d image n j) (sym child'.0))
    (λ deeper. ⊎_elim
    (λ left. bare_child k i (2 * i) old new looked.others (omega arith) bare l j left
    ∙ sym (unknown_under d image k (2 * i) l j (let low = looked.low in omega arith) left (sym (children_known d image k i (2 * i) old new looked (omega arith)) ∙ none)))
    (λ right. bare_child k i (2 * i + 1) old new looked.others (omega arith) bare l j right
    ∙ sym (unknown_under d image k (2 * i + 1) l j (let low = looked.low in omega arith) right
    (sym (children_known d image k i (2 * i + 1) old new looked (omega arith)) ∙ none_beside)))
    deeper)
    (under_child k i l j under)
  where
    none_beside : new k (2 * i + 1) ≡ None
    none_beside =
        looked.children (2 * i + 1) (omega arith)
        ∙ both_none (slice image (pair_place d.chunk k i) 64) (2 * i) (2 * i + 1) (old (suc k) i) (sym (looked.children (2 * i) (omega arith)) ∙ none)

pub only_from : (d : Descriptor) (image : List ℕ) (k i : ℕ) (book : LookUp) → HasKnownUnder d image k i book → HasOnlyKnownUnder d image k i book
only_from d image k i book known' l j digest under at = sym (known' l j under) ∙ at

pub only_bare : (d : Descriptor) (image : List ℕ) (k i : ℕ) (book : LookUp) → IsBareUnder k i book → HasOnlyKnownUnder d image k i book
only_bare d image k i book bare l j digest under at = let none = bare l j under in cc

pub right_known : (d : Descriptor) (image : List ℕ) (k i : ℕ) (old new mid : LookUp) → HasLooked d image k i old new
    → ((l j : ℕ) → (IsUnder k (2 * i) l j → ⊥) → mid l j ≡ new l j) → mid k (2 * i + 1) ≡ known d image k (2 * i + 1)
right_known d image k i old new mid looked others =
    others k (2 * i + 1) (λ under. not_beside k (2 * i) (2 * i + 1) k refl under) ∙ children_known d image k i (2 * i + 1) old new looked (omega arith)

-- only the left half
pub only_left : (d : Descriptor) (image : List ℕ) (k i : ℕ) (old new mid : LookUp) → HasLooked d image k i old new → IsBareUnder (suc k) i old
    → ((l j : ℕ) → (IsUnder k (2 * i) l j → ⊥) → mid l j ≡ new l j) → HasOnlyKnownUnder d image k (2 * i) mid
    → HasOnlyKnownUnder d image (suc k) i mid
only_left d image k i old new mid looked bare others left l j digest under at = ⊎_elim
    (λ child'. sym (ap (λ (n : ℕ). mid n j) child'.0 ∙ others k j (λ u. not_beside k (2 * i) j k refl u)
    ∙ children_known d image k i j old new looked child'.1 ∙ ap (λ (n : ℕ). known d image n j) (sym child'.0)) ∙ at)
    (λ deeper. ⊎_elim
    (λ in_left. left l j digest in_left at)
    (λ in_right. let none = others l j (λ u. omega (arith, apart k (2 * i) (2 * i + 1) l j u in_right))
    ∙ bare_child k i (2 * i + 1) old new looked.others (omega arith) bare l j in_right in cc)
    deeper)
    (under_child k i l j under)

-- both halves
pub known_halves : (d : Descriptor) (image : List ℕ) (k i : ℕ) (old new mid end : LookUp) → HasLooked d image k i old new
    → ((l j : ℕ) → (IsUnder k (2 * i) l j → ⊥) → mid l j ≡ new l j) → HasKnownUnder d image k (2 * i) mid
    → ((l j : ℕ) → (IsUnder k (2 * i + 1) l j → ⊥) → end l j ≡ mid l j) → HasKnownUnder d image k (2 * i + 1) end
    → HasKnownUnder d image (suc k) i end
known_halves d image k i old new mid end looked others left others' right l j under = ⊎_elim
    (λ child'. ap (λ (n : ℕ). end n j) child'.0 ∙ others' k j (λ u. not_beside k (2 * i + 1) j k refl u)
    ∙ others k j (λ u. not_beside k (2 * i) j k refl u)
    ∙ children_known d image k i j old new looked child'.1 ∙ ap (λ (n : ℕ). known d image n j) (sym child'.0))
    (λ deeper. ⊎_elim
    (λ in_left. others' l j (λ u. omega (arith, apart k (2 * i) (2 * i + 1) l j in_left u)) ∙ left l j in_left)
    (λ in_right. right l j in_right)
    deeper)
    (under_child k i l j under)

pub only_halves : (d : Descriptor) (image : List ℕ) (k i : ℕ) (old new mid end : LookUp) → HasLooked d image k i old new
    → ((l j : ℕ) → (IsUnder k (2 * i) l j → ⊥) → mid l j ≡ new l j) → HasKnownUnder d image k (2 * i) mid
    → ((l j : ℕ) → (IsUnder k (2 * i + 1) l j → ⊥) → end l j ≡ mid l j) → HasOnlyKnownUnder d image k (2 * i + 1) end
    → HasOnlyKnownUnder d image (suc k) i end
only_halves d image k i old new mid end looked others left others' right l j digest under at = ⊎_elim
    (λ child'. sym (ap (λ (n : ℕ). end n j) child'.0 ∙ others' k j (λ u. not_beside k (2 * i + 1) j k refl u)
    ∙ others k j (λ u. not_beside k (2 * i) j k refl u)
    ∙ children_known d image k i j old new looked child'.1 ∙ ap (λ (n : ℕ). known d image n j) (sym child'.0)) ∙ at)
    (λ deeper. ⊎_elim
    (λ in_left. sym (others' l j (λ u. omega (arith, apart k (2 * i) (2 * i + 1) l j in_left u)) ∙ left l j in_left) ∙ at)
    (λ in_right. right l j digest in_right at)
    deeper)
    (under_child k i l j under)

-- ---- the same, as the code counts layers

pub layer_up : (k : ℕ) → 0 < k → suc (k - 1) ≡ k
layer_up k some = omega arith

-- what was looked for and isn't there
pub none_at : (o e : Option (List ℕ)) → o ≡ e → is_some o ≡ false → e ≡ None
none_at None e same none = sym same
none_at (Some x) e same none = cc

-- and what is there
pub some_at : (o e : Option (List ℕ)) → o ≡ e → is_some o ≡ true → is_some e ≡ true
some_at o e same some = ap (λ (p : Option (List ℕ)). is_some p) (sym same) ∙ some

-- what of the tree is meant
pub low_from_first : (k i : ℕ) → (i + 1) * 2 ^ k ≤ 2 ^ 20 → k ≤ 20
low_from_first k i first = ⊎_elim
    (λ high. let up : 2 ^ 20 < 2 ^ k = pow-lt high in
    let some : 0 < 2 ^ k = pow_pos k in
    let times = mul-le-mul_left (2 ^ k) (one i) in
    absurd (omega arith))
    (λ low. low)
    (cases_lt 20 k)
  where
    one : (i : ℕ) → 1 ≤ i + 1
    one i = omega arith

pub halves_first : (k i : ℕ) → 0 < k → (i + 1) * 2 ^ k ≤ 2 ^ 20
    → ((2 * i + 1) * 2 ^ (k - 1) ≤ 2 ^ 20) × ((2 * i + 1 + 1) * 2 ^ (k - 1) ≤ 2 ^ 20)
halves_first k i some first =
    let both : (i + 1) * 2 ^ suc (k - 1) ≡ (2 * i + 1 + 1) * 2 ^ (k - 1) = grind arith in
    let e : (i + 1) * 2 ^ suc (k - 1) ≡ (i + 1) * 2 ^ k = ap (λ (n : ℕ). (i + 1) * 2 ^ n) (layer_up k some) in
    let less : (2 * i + 1) * 2 ^ (k - 1) + 2 ^ (k - 1) ≡ (2 * i + 1 + 1) * 2 ^ (k - 1) = grind arith in
    (omega (arith, both, e, less), omega (arith, both, e))

pub bare_children : (k i j : ℕ) (book : LookUp) → 0 < k → IsBareUnder k i book → j / 2 ≡ i → book (k - 1) j ≡ None
bare_children k i j book some bare half =
    bare (k - 1) j (subst (λ (n : ℕ). IsUnder n i (k - 1) j) (layer_up k some) (is_child (k - 1) i j half))

pub bare_half : (k i c : ℕ) (old new : LookUp) → 0 < k → ((l j : ℕ) → ((l ≡ k - 1) × (j / 2 ≡ i) → ⊥) → new l j ≡ old l j) → c / 2 ≡ i
    → IsBareUnder k i old → IsBareUnder (k - 1) c new
bare_half k i c old new some others half bare =
    bare_child (k - 1) i c old new others half (subst (λ (n : ℕ). IsBareUnder n i old) (sym (layer_up k some)) bare)

pub elsewhere_children : (k i l j : ℕ) (old new : LookUp) → 0 < k → ((l j : ℕ) → ((l ≡ k - 1) × (j / 2 ≡ i) → ⊥) → new l j ≡ old l j)
    → (IsUnder k i l j → ⊥) → new l j ≡ old l j
elsewhere_children k i l j old new some one off = one l j (λ same. off (subst (λ (n : ℕ). IsUnder n i l j) (layer_up k some)
    (subst (λ (n : ℕ). IsUnder (suc (k - 1)) i n j) (sym same.0) (is_child (k - 1) i j same.1))))

pub elsewhere_half : (k i c l j : ℕ) (old new mid : LookUp) → 0 < k → c / 2 ≡ i
    → ((l j : ℕ) → (IsUnder k i l j → ⊥) → new l j ≡ old l j) → ((l j : ℕ) → (IsUnder (k - 1) c l j → ⊥) → mid l j ≡ new l j)
    → (IsUnder k i l j → ⊥) → mid l j ≡ old l j
elsewhere_half k i c l j old new mid some half one two off =
    two l j (λ u. off (subst (λ (n : ℕ). IsUnder n i l j) (layer_up k some) (child_under (k - 1) i c l j u half))) ∙ one l j off

module _ (d : Descriptor) (image : List ℕ) (k i : ℕ) (old new : LookUp) (some : 0 < k) (low : k ≤ height_of d) (bare : IsBareUnder k i old)
    (others : (l j : ℕ) → ((l ≡ k - 1) × (j / 2 ≡ i) → ⊥) → new l j ≡ old l j)
    (children : (j : ℕ) → j / 2 ≡ i → new (k - 1) j ≡ child (slice image (pair_place d.chunk (k - 1) i) 64) j (old k i))
    (parent : old k i ≡ known d image k i) where
  looked : HasLooked d image (k - 1) i old new
  looked = record {
    low = omega (arith, layer_up k some);
    others = others;
    children = λ j half. children j half ∙ ap (λ (n : ℕ). child (slice image (pair_place d.chunk (k - 1) i) 64) j (old n i)) (sym (layer_up k some));
    parent = subst (λ (n : ℕ). old n i ≡ known d image n i) (sym (layer_up k some)) parent;
  }

  bare_up : IsBareUnder (suc (k - 1)) i old
  bare_up = subst (λ (n : ℕ). IsBareUnder n i old) (sym (layer_up k some)) bare

  pub child_found : (j : ℕ) → j / 2 ≡ i → new (k - 1) j ≡ known d image (k - 1) j
  child_found j half = children_known d image (k - 1) i j old new looked half

  pub found_none : new (k - 1) (2 * i) ≡ None → HasKnownUnder d image k i new
  found_none none = subst (λ (n : ℕ). HasKnownUnder d image n i new) (layer_up k some) (none_under d image (k - 1) i old new looked bare_up none)

  pub found_left : (mid : LookUp) → ((l j : ℕ) → (IsUnder (k - 1) (2 * i) l j → ⊥) → mid l j ≡ new l j)
      → HasOnlyKnownUnder d image (k - 1) (2 * i) mid → HasOnlyKnownUnder d image k i mid
  found_left mid others' left =
      subst (λ (n : ℕ). HasOnlyKnownUnder d image n i mid) (layer_up k some) (only_left d image (k - 1) i old new mid looked bare_up others' left)

  pub found_beside : (mid : LookUp) → ((l j : ℕ) → (IsUnder (k - 1) (2 * i) l j → ⊥) → mid l j ≡ new l j)
      → mid (k - 1) (2 * i + 1) ≡ known d image (k - 1) (2 * i + 1)
  found_beside mid others' = right_known d image (k - 1) i old new mid looked others'

  pub found_both : (mid end : LookUp) → ((l j : ℕ) → (IsUnder (k - 1) (2 * i) l j → ⊥) → mid l j ≡ new l j)
      → HasKnownUnder d image (k - 1) (2 * i) mid → ((l j : ℕ) → (IsUnder (k - 1) (2 * i + 1) l j → ⊥) → end l j ≡ mid l j)
      → HasKnownUnder d image (k - 1) (2 * i + 1) end → HasKnownUnder d image k i end
  found_both mid end others' left others'' right =
      subst (λ (n : ℕ). HasKnownUnder d image n i end) (layer_up k some)
      (known_halves d image (k - 1) i old new mid end looked others' left others'' right)

  pub found_only : (mid end : LookUp) → ((l j : ℕ) → (IsUnder (k - 1) (2 * i) l j → ⊥) → mid l j ≡ new l j)
      → HasKnownUnder d image (k - 1) (2 * i) mid → ((l j : ℕ) → (IsUnder (k - 1) (2 * i + 1) l j → ⊥) → end l j ≡ mid l j)
      → HasOnlyKnownUnder d image (k - 1) (2 * i + 1) end → HasOnlyKnownUnder d image k i end
  found_only mid end others' left others'' right =
      subst (λ (n : ℕ). HasOnlyKnownUnder d image n i end) (layer_up k some)
      (only_halves d image (k - 1) i old new mid end looked others' left others'' right)

-- ---- the whole tree

-- a node past the last of its layer isn't known
known_outside : (d : Descriptor) (image : List ℕ) (m j : ℕ) → (above m j ≡ 0 → ⊥) → known_below d image m j ≡ None
known_outside d image zero j off = let test : (j == 0) ≡ false = grind (arith, nat_tests) in ap (λ (b : Bool). cond {A = Option (List ℕ)} b (Some d.root) None) test
known_outside d image (suc m) j off =
    ap (λ (o : Option (List ℕ)). child (slice image (pair_place d.chunk (height_of d - suc m) (j / 2)) 64) j o)
    (known_outside d image m (j / 2) (λ e. off (sym (above_half m j) ∙ e)))

-- The root, a node under it, or no node of the tree.
root_or_under : (d : Descriptor) (image : List ℕ) (k j : ℕ) → ((k ≡ height_of d) × (j ≡ 0))
    ⊎ (IsUnder (height_of d) 0 k j ⊎ ((IsUnder (height_of d) 0 k j → ⊥) × (((k ≡ height_of d) × (j ≡ 0)) → ⊥) × (known d image k j ≡ None)))
root_or_under d image k j = ⊎_elim
    (λ over. inr (inr (
      λ u. omega (arith, u.layer),
      λ same. omega (arith, same.0),
      let test : nat_le k (height_of d) ≡ false = grind (arith, nat_tests) in
          ap (λ (b : Bool). cond {A = Option (List ℕ)} b (known_below d image (height_of d - k) j) None) test,
    )))
    (λ low. let test : nat_le k (height_of d) ≡ true = grind (arith, nat_tests) in
    let goal : known d image k j ≡ known_below d image (height_of d - k) j =
    ap (λ (b : Bool). cond {A = Option (List ℕ)} b (known_below d image (height_of d - k) j) None) test in
    ⊎_elim
    (λ first. ⊎_elim
    (λ here. inl (omega (arith, here), sym (ap (λ (m : ℕ). above m j) here) ∙ first))
    (λ deep. inr (inl (record { down = height_of d - k; some = omega arith; layer = omega arith; way = first })))
    (cases_eq (height_of d - k) 0))
    (λ off. inr (inr (
      λ u. off (ap (λ (m : ℕ). above m j) (let e : height_of d - k ≡ u.down = omega (arith, u.layer) in e) ∙ u.way),
      λ same. off (ap (λ (m : ℕ). above m j) (let e : height_of d - k ≡ 0 = omega (arith, same.0) in e) ∙ same.1),
      goal ∙ known_outside d image (height_of d - k) j off,
    )))
    (cases_eq (above (height_of d - k) j) 0))
    (cases_lt (height_of d) k)

pub known_root : (d : Descriptor) (image : List ℕ) → known d image (height_of d) 0 ≡ Some d.root
known_root d image =
    let test : nat_le (height_of d) (height_of d) ≡ true = grind (arith, nat_tests) in
    let none : height_of d - height_of d ≡ 0 = omega arith in
    ap (λ (b : Bool). cond {A = Option (List ℕ)} b (known_below d image (height_of d - height_of d) 0) None) test
    ∙ ap (λ (n : ℕ). known_below d image n 0) none

pub bare_alone : (d : Descriptor) (book : LookUp) → HasRootAlone d book → IsBareUnder (height_of d) 0 book
bare_alone d book alone l j under = alone.others l j (λ same. omega (arith, same.0, under.some, under.layer))

pub all_known : (d : Descriptor) (image : List ℕ) (old new : LookUp) → HasRootAlone d old
    → ((l j : ℕ) → (IsUnder (height_of d) 0 l j → ⊥) → new l j ≡ old l j) → HasKnownUnder d image (height_of d) 0 new → HasKnown d image new
all_known d image old new alone others under k j = ⊎_elim
    (λ root. ap (λ (n : ℕ). new n j) root.0 ∙ ap (λ (m : ℕ). new (height_of d) m) root.1
    ∙ others (height_of d) 0 (λ u. omega (arith, u.some, u.layer)) ∙ alone.root_is ∙ sym (known_root d image)
    ∙ ap (λ (m : ℕ). known d image (height_of d) m) (sym root.1) ∙ ap (λ (n : ℕ). known d image n j) (sym root.0))
    (λ rest. ⊎_elim
    (λ u. under k j u)
    (λ outside. others k j outside.0 ∙ alone.others k j outside.1 ∙ sym outside.2)
    rest)
    (root_or_under d image k j)

pub only_known : (d : Descriptor) (image : List ℕ) (old new : LookUp) → HasRootAlone d old
    → ((l j : ℕ) → (IsUnder (height_of d) 0 l j → ⊥) → new l j ≡ old l j) → HasOnlyKnownUnder d image (height_of d) 0 new → HasOnlyKnown d image new
only_known d image old new alone others under k j digest at = ⊎_elim
    (λ root. ap (λ (n : ℕ). known d image n j) root.0 ∙ ap (λ (m : ℕ). known d image (height_of d) m) root.1 ∙ known_root d image
    ∙ sym (ap (λ (n : ℕ). new n j) root.0 ∙ ap (λ (m : ℕ). new (height_of d) m) root.1
    ∙ others (height_of d) 0 (λ u. omega (arith, u.some, u.layer)) ∙ alone.root_is) ∙ at)
    (λ rest. ⊎_elim
    (λ u. under k j digest u at)
    (λ outside. let none = others k j outside.0 ∙ alone.others k j outside.1 in cc)
    rest)
    (root_or_under d image k j)
