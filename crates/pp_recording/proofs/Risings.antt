-- The nodes of any book rise, and lie in the tree.
use Rattle.std.proofs.Common.{◌≡◌, ◌⊎◌, ℕ, zero, suc, ◌-◌, ◌^◌, ◌<◌, ◌≤◌, Option, Some, None, List, [], ◌∷◌, ◌++◌, length, refl, sym, ◌∙◌, subst, inl, inr, arith, append_assoc}
use Rattle.std.proofs.lemmas.List.{append-nil}
use Rattle.hex.specs.Hex.{IsBytes}
use Rattle.pp_terms.specs.tree.Book.{LookUp}
use Rattle.pp_terms.specs.format.Descriptor.{Descriptor, height_of}
use Rattle.pp_recording.specs.Spelling.{KnownNode}
use Rattle.pp_recording.specs.Recording.{node_with, first_nodes, lowest_nodes, nodes_of, AreRising, AreKnownNodes, AreDigestsOf}

-- ---- each node stands before (k, j)

abbrev pub StandsBefore : ℕ → ℕ → KnownNode → Type 0
StandsBefore k j n = (n.layer < k) ⊎ ((n.layer ≡ k) × (n.offset < j))

abbrev pub StandBefore : ℕ → ℕ → List KnownNode → Type 0
StandBefore k j [] = Unit {0}
StandBefore k j (n ∷ ns) = StandsBefore k j n × StandBefore k j ns

later : (k j l i : ℕ) (n : KnownNode) → (k < l) ⊎ ((k ≡ l) × (j ≤ i)) → StandsBefore k j n → StandsBefore l i n
later k j l i n (inl up) (inl low) = inl (omega arith)
later k j l i n (inl up) (inr here) = inl (omega (arith, up, here.0))
later k j l i n (inr on) (inl low) = inl (omega (arith, on.0, low))
later k j l i n (inr on) (inr here) = inr (here.0 ∙ on.0, omega (arith, here.1, on.1))

all_later : (k j l i : ℕ) (ns : List KnownNode) → (k < l) ⊎ ((k ≡ l) × (j ≤ i)) → StandBefore k j ns → StandBefore l i ns
all_later k j l i [] on all = tt
all_later k j l i (n ∷ ns) on all = (later k j l i n on all.0, all_later k j l i ns on all.1)

both_before : (k j : ℕ) (ns ms : List KnownNode) → StandBefore k j ns → StandBefore k j ms → StandBefore k j (ns ++ ms)
both_before k j [] ms first second = second
both_before k j (n ∷ ns) ms first second = (first.0, both_before k j ns ms first.1 second)

-- one more at the end
rising_more : (ns : List KnownNode) (k j : ℕ) (x : List ℕ) → AreRising ns → StandBefore k j ns → AreRising (ns ++ record { layer = k; offset = j; digest = x } ∷ [])
rising_more [] k j x rise before = tt
rising_more (n ∷ []) k j x rise before = (before.0, tt)
rising_more (n ∷ m ∷ ns) k j x rise before = (rise.0, rising_more (m ∷ ns) k j x rise.1 before.1)

-- nodes that rise, all of them before (k, j)
pub record IsRun (k j : ℕ) (ns : List KnownNode) : Type 0 where
  pub rise : AreRising ns
  pub before : StandBefore k j ns

run_on : (k j l i : ℕ) (ns : List KnownNode) → (k < l) ⊎ ((k ≡ l) × (j ≤ i)) → IsRun k j ns → IsRun l i ns
run_on k j l i ns on run = record { rise = run.rise; before = all_later k j l i ns on run.before }

node_run : (k j : ℕ) (o : Option (List ℕ)) (ns : List KnownNode) → IsRun k j ns → IsRun k (suc j) (ns ++ node_with k j o)
node_run k j None ns run = subst (λ (ms : List KnownNode). IsRun k (suc j) ms) (sym (append-nil ns)) (run_on k j k (suc j) ns (inr (refl, omega arith)) run)
node_run k j (Some x) ns run = record {
  rise = rising_more ns k j x run.rise run.before;
  before = both_before k (suc j) ns _ (all_later k j k (suc j) ns (inr (refl, omega arith)) run.before) (inr (refl, omega arith), tt);
}

layer_run : (book : LookUp) (k n : ℕ) (ns : List KnownNode) → IsRun k 0 ns → IsRun k n (ns ++ first_nodes book k n)
layer_run book k zero ns run = subst (λ (ms : List KnownNode). IsRun k 0 ms) (sym (append-nil ns)) run
layer_run book k (suc n) ns run =
    subst (λ (ms : List KnownNode). IsRun k (suc n) ms) (append_assoc ns (first_nodes book k n) (node_with k n (book k n)))
    (node_run k n (book k n) (ns ++ first_nodes book k n) (layer_run book k n ns run))

pub lowest_run : (book : LookUp) (h n : ℕ) → IsRun n 0 (lowest_nodes book h n)
lowest_run book h zero = record { rise = tt; before = tt }
lowest_run book h (suc n) =
    run_on n (2 ^ (h - n)) (suc n) 0 _ (inl (omega arith)) (layer_run book n (2 ^ (h - n)) (lowest_nodes book h n) (lowest_run book h n))

-- the nodes that a book knows rise
pub nodes_rise : (d : Descriptor) (book : LookUp) → AreRising (nodes_of d book)
nodes_rise d book = (lowest_run book (height_of d) (suc (height_of d))).rise

-- ---- they are nodes of the tree, if their digests are

pub known_append : (d : Descriptor) (ns ms : List KnownNode) → AreKnownNodes d ns → AreKnownNodes d ms → AreKnownNodes d (ns ++ ms)
known_append d [] ms first second = second
known_append d (n ∷ ns) ms first second = (first.0, known_append d ns ms first.1 second)

known_node : (d : Descriptor) (book : LookUp) (k j : ℕ) (o : Option (List ℕ)) → k ≤ height_of d → j < 2 ^ (height_of d - k)
    → ((x : List ℕ) → o ≡ Some x → (length x ≡ 32) × IsBytes x) → AreKnownNodes d (node_with k j o)
known_node d book k j None low within all = tt
known_node d book k j (Some x) low within all =
    let is = all x refl in (record { in_tree = record { layer = low; offset = within }; size = is.0; bytes = is.1 }, tt)

known_first : (d : Descriptor) (book : LookUp) (k n : ℕ) → AreDigestsOf book → k ≤ height_of d → n ≤ 2 ^ (height_of d - k)
    → AreKnownNodes d (first_nodes book k n)
known_first d book k zero all low few = tt
known_first d book k (suc n) all low few =
    known_append d (first_nodes book k n) (node_with k n (book k n)) (known_first d book k n all low (omega arith))
    (known_node d book k n (book k n) low (omega arith) (λ x is. all k n x is))

known_lowest : (d : Descriptor) (book : LookUp) (n : ℕ) → AreDigestsOf book → n ≤ suc (height_of d) → AreKnownNodes d (lowest_nodes book (height_of d) n)
known_lowest d book zero all few = tt
known_lowest d book (suc n) all few =
    known_append d (lowest_nodes book (height_of d) n) (first_nodes book n (2 ^ (height_of d - n)))
    (known_lowest d book n all (omega arith))
    (known_first d book n (2 ^ (height_of d - n)) all (omega arith) (omega arith))

pub nodes_known : (d : Descriptor) (book : LookUp) → AreDigestsOf book → AreKnownNodes d (nodes_of d book)
nodes_known d book all = known_lowest d book (suc (height_of d)) all (omega arith)
