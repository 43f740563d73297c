-- Nodes of a book, and the spans over them.
use Rattle.std.proofs.Common.{◌≡◌, ◌↔◌, ⊎_elim, ℕ, zero, suc, ◌+◌, ◌*◌, ◌/◌, ◌^◌, ◌<◌, ◌≤◌, eqb, Bool, true, false, Option, Some, List, [], ◌∷◌, length, take, refl, sym, ◌∙◌, ap, subst, arith}
use Rattle.std.specs.List.{AllByRecursion}
use Rattle.std.proofs.lemmas.Bool.{and_parts, and_from, eqb-true, eq-eqb}
use Rattle.std.proofs.lemmas.Nat.{pow_pos}
use Rattle.std.proofs.Math.Nat.{mul-le-mul_right}
use Rattle.pp_terms.specs.tree.Tree.{Node}
use Rattle.pp_terms.specs.tree.Bins.{first_leaf, last_leaf}
use Rattle.pp_terms.specs.tree.Book.{LookUp, IsRooted}
use Rattle.pp_terms.specs.format.Descriptor.{Descriptor, height_of}
use Rattle.pp_terms.specs.format.Messages.{Message}
use Rattle.pp_terms.specs.tree.Range.{Span, leaves_of}
use Rattle.pp_terms.proofs.Binning.{one_bin, leaves}
use Rattle.pp_terms.specs.tree.Range as ranges
use Rattle.pp_traffic.specs.Hashes.{is_span_of}
use Rattle.pp_tree.specs.Book.{in_cells, cell_of}
use Rattle.pp_tree.proofs.BinNumbers.{cell_in}

below_power : (k : ℕ) → k < 2 ^ k
below_power zero = omega arith
below_power (suc k) = let low = below_power k in let step : 2 ^ suc k ≡ 2 * 2 ^ k = grind arith in omega arith

-- a cell of a layer lies behind as many cells as the layer counts
layer_in : (cells : List (Option (List ℕ))) (k j : ℕ) (x : List ℕ) → in_cells cells k j ≡ Some x → k < length cells
layer_in cells k j x e =
    let within = cell_in cells (cell_of k j) x e in
    let low = below_power k in
    let more : 2 ^ k ≤ 2 ^ k * (2 * j + 1) = grind arith in
    omega arith

twice : (a p : ℕ) → a * (2 * p) ≡ 2 * a * p
twice a p = omega arith

halves : (j k top : ℕ) → (j / 2 + 1) * 2 ^ suc k ≤ top → (j + 1) * 2 ^ k ≤ top
halves j k top le =
    let step : 2 ^ suc k ≡ 2 * 2 ^ k = grind arith in
    let round : j + 1 ≤ 2 * (j / 2 + 1) = omega arith in
    let wide : (j + 1) * 2 ^ k ≤ 2 * (j / 2 + 1) * 2 ^ k = mul-le-mul_right (2 ^ k) round in
    let same : (j / 2 + 1) * 2 ^ suc k ≡ 2 * (j / 2 + 1) * 2 ^ k = ap (λ (p : ℕ). (j / 2 + 1) * p) step ∙ twice (j / 2 + 1) (2 ^ k) in
    le_through ((j + 1) * 2 ^ k) (2 * (j / 2 + 1) * 2 ^ k) ((j / 2 + 1) * 2 ^ suc k) top wide same le
  where
    le_through : (a b c d : ℕ) → a ≤ b → c ≡ b → c ≤ d → a ≤ d
    le_through a b c d p q r = omega arith

-- a rooted book has no node but those of the tree
in_tree : (d : Descriptor) (cells : List (Option (List ℕ))) → IsRooted d (in_cells cells) → (fuel k j : ℕ) (x : List ℕ) → length cells ≤ k + fuel
    → in_cells cells k j ≡ Some x → (j + 1) * 2 ^ k ≤ 2 ^ height_of d
in_tree d cells rooted zero k j x far e = absurd (let within = layer_in cells k j x e in omega arith)
in_tree d cells rooted (suc fuel) k j x far e = ⊎_elim
    (λ root. let one : (0 + 1) * 2 ^ height_of d ≤ 2 ^ height_of d = omega arith in
    subst (λ (m : ℕ). (m + 1) * 2 ^ k ≤ 2 ^ height_of d) (sym root.1) (subst (λ (l : ℕ). (0 + 1) * 2 ^ l ≤ 2 ^ height_of d) (sym root.0) one))
    (λ joined. halves j k (2 ^ height_of d) (in_tree d cells rooted fuel (suc k) (j / 2) _ (omega arith) joined.2.joined))
    (rooted.hangs k j x e)

pub few_leaves : (d : Descriptor) (cells : List (Option (List ℕ))) (n : Node) (x : List ℕ) → IsRooted d (in_cells cells)
    → in_cells cells n.layer n.offset ≡ Some x → last_leaf n < 2 ^ height_of d
few_leaves d cells n x rooted e =
    let low = in_tree d cells rooted (length cells) n.layer n.offset x (omega arith) e in
    let some = pow_pos n.layer in
    let one : 2 ^ n.layer ≤ (n.offset + 1) * 2 ^ n.layer = grind arith in
    omega arith

pub span_is : (n : Node) (s : Span) → is_span_of n s ≡ true → (s.first ≡ first_leaf n) × (s.last ≡ last_leaf n)
span_is n s e =
    let p = and_parts (eqb s.first (first_leaf n)) (eqb s.last (last_leaf n)) e in
    (eqb-true s.first (first_leaf n) p.0, eqb-true s.last (last_leaf n) p.1)

pub is_span : (n : Node) (s : Span) → s.first ≡ first_leaf n → s.last ≡ last_leaf n → is_span_of n s ≡ true
is_span n s a b = and_from (eqb s.first (first_leaf n)) (eqb s.last (last_leaf n)) (eq-eqb s.first (first_leaf n) a) (eq-eqb s.last (last_leaf n) b)

-- a span is over one node
pub one_node : (a b : Node) (s : Span) → is_span_of a s ≡ true → is_span_of b s ≡ true → a ≡ b
one_node a b s is also =
    let p = span_is a s is in
    let q = span_is b s also in
    one_bin a b (sym (leaves a) ∙ (let e : first_leaf a + last_leaf a ≡ first_leaf b + last_leaf b = omega (arith, p.0, p.1, q.0, q.1) in e) ∙ leaves b)

-- its first leaf isn't past its last
pub in_order : (n : Node) (s : Span) → is_span_of n s ≡ true → s.first ≤ s.last
in_order n s e =
    let p = span_is n s e in
    let some = pow_pos n.layer in
    omega (arith, p.0, p.1)

-- a node in a book is the one that was found
pub entered : (book : LookUp) (n found : Node) (s : Span) (x : List ℕ) → is_span_of found s ≡ true → is_span_of n s ≡ true → book n.layer n.offset ≡ Some x
    → book found.layer found.offset ≡ Some x
entered book n found s x is also e = subst (λ (m : Node). book m.layer m.offset ≡ Some x) (one_node n found s also is) e

-- whether a span's node is entered, by the node that was found
pub found_entry : (book : LookUp) (found : Node) (s : Span) (x : List ℕ) (b : Bool) → is_span_of found s ≡ true → ((b ≡ true) ↔ (book found.layer found.offset ≡ Some x))
    → (b ≡ true) ↔ ((n : Node) × (is_span_of n s ≡ true) × (book n.layer n.offset ≡ Some x))
found_entry book found s x b is iff = (λ e. (found, is, iff.0 e), λ (n, also, there). iff.1 (entered book n found s x is also there))

no_entry : (P : Type 0) → (P → ⊥) → (◌≡◌ {A = Bool} false true) ↔ P
no_entry P none = (λ e. absurd cc, λ p. absurd (none p))

pub past_entry : (d : Descriptor) (cells : List (Option (List ℕ))) (s : Span) (x : List ℕ) → IsRooted d (in_cells cells) → 2 ^ height_of d ≤ s.last
    → (◌≡◌ {A = Bool} false true) ↔ ((n : Node) × (is_span_of n s ≡ true) × (in_cells cells n.layer n.offset ≡ Some x))
past_entry d cells s x rooted far =
    no_entry _ (λ (n, is, there). let p = span_is n s is in let low = few_leaves d cells n x rooted there in omega (arith, p.1))

pub over : (n : Node) (s : Span) (r : ranges.Span) → leaves_of n ≡ r → r.first ≡ s.first → r.last ≡ s.last → is_span_of n s ≡ true
over n s r e first last = is_span n s (sym first ∙ ap (λ (t : ranges.Span). t.first) (sym e)) (sym last ∙ ap (λ (t : ranges.Span). t.last) (sym e))

-- ---- what is left of a list of messages

-- Each of the whole has P exactly where each of the part has.
pub record IsLeft (P : Message → Type 0) (whole part : List Message) : Type 0 where
  pub forward : AllByRecursion P whole → AllByRecursion P part
  pub back : AllByRecursion P part → AllByRecursion P whole

pub left_first : (P : Message → Type 0) (whole part : List Message) → whole ≡ part → IsLeft P whole part
left_first P whole part e = record {
  forward = λ a. subst (λ (ms : List Message). AllByRecursion P ms) e a;
  back = λ a. subst (λ (ms : List Message). AllByRecursion P ms) (sym e) a;
}

pub left_more : (P : Message → Type 0) (whole ms rest : List Message) (m : Message) (left next : ℕ) → IsLeft P whole (take left ms) → left ≡ suc next → ms ≡ m ∷ rest → P m
    → IsLeft P whole (take next rest)
left_more P whole ms rest m left next so_far one e has =
    let front : take left ms ≡ m ∷ take next rest = ap (λ (n : ℕ). take n ms) one ∙ ap (λ (xs : List Message). take (suc next) xs) e in
    record {
      forward = λ a. (subst (λ (xs : List Message). AllByRecursion P xs) front (so_far.forward a)).1;
      back = λ a. so_far.back (subst (λ (xs : List Message). AllByRecursion P xs) (sym front) (has, a));
    }

pub left_stop : (P : Message → Type 0) (whole ms rest : List Message) (m : Message) (left next : ℕ) → IsLeft P whole (take left ms) → left ≡ suc next → ms ≡ m ∷ rest → (P m → ⊥)
    → (◌≡◌ {A = Bool} false true) ↔ AllByRecursion P whole
left_stop P whole ms rest m left next so_far one e lacks =
    let front : take left ms ≡ m ∷ take next rest = ap (λ (n : ℕ). take n ms) one ∙ ap (λ (xs : List Message). take (suc next) xs) e in
    no_entry _ (λ a. lacks (subst (λ (xs : List Message). AllByRecursion P xs) front (so_far.forward a)).0)

pub left_end : (P : Message → Type 0) (whole ms : List Message) (left : ℕ) → IsLeft P whole (take left ms) → ms ≡ [] → (◌≡◌ {A = Bool} true true) ↔ AllByRecursion P whole
left_end P whole ms left so_far e = (λ t. so_far.back (subst (λ (xs : List Message). AllByRecursion P (take left xs)) (sym e) (nothing left)), λ a. refl)
  where
    nothing : (n : ℕ) → AllByRecursion P (take n [])
    nothing zero = tt
    nothing (suc n) = tt

pub left_none : (P : Message → Type 0) (whole ms : List Message) (left : ℕ) → IsLeft P whole (take left ms) → left ≤ 0 → (◌≡◌ {A = Bool} true true) ↔ AllByRecursion P whole
left_none P whole ms left so_far e = (λ t. so_far.back (subst (λ (n : ℕ). AllByRecursion P (take n ms)) (let z : 0 ≡ left = omega arith in z) tt), λ a. refl)
