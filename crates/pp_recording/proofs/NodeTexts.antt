-- The texts of nodes and of records, one after the other.
use Rattle.std.proofs.Common.{◌≡◌, ℕ, suc, ◌+◌, ◌-◌, ◌*◌, ◌%◌, ◌^◌, ◌<◌, ◌≤◌, List, [], ◌∷◌, ◌++◌, refl, sym, ◌∙◌, ap, append_assoc, arith}
use Rattle.std.proofs.Math.Pow.{pow-lt}
use Rattle.std.proofs.Math.Nat.{mod-eq_of_lt}
use Rattle.pp_terms.specs.tree.Book.{LookUp}
use Rattle.pp_terms.specs.format.Traffic.{Address}
use Rattle.pp_recording.specs.Spelling.{KnownNode, node_line, datagram_line}
use Rattle.pp_recording.specs.Recording.{node_with, first_nodes, lowest_nodes, nodes_text}

pub nodes_text-append : (ns ms : List KnownNode) → nodes_text (ns ++ ms) ≡ nodes_text ns ++ nodes_text ms
nodes_text-append [] ms = refl
nodes_text-append (n ∷ ns) ms = ap (λ (xs : List ℕ). node_line n ++ xs) (nodes_text-append ns ms) ∙ sym (append_assoc (node_line n) (nodes_text ns) (nodes_text ms))

-- a text to which one was added that was added to before
pub added_more : (old new before one both : List ℕ) → old ≡ before ++ one → new ≡ old ++ both → new ≡ before ++ (one ++ both)
added_more old new before one both p q = q ∙ ap (λ (xs : List ℕ). xs ++ both) p ∙ append_assoc before one both

pub nodes_added : (old new before : List ℕ) (ns ms : List KnownNode) → old ≡ before ++ nodes_text ns → new ≡ old ++ nodes_text ms
    → new ≡ before ++ nodes_text (ns ++ ms)
nodes_added old new before ns ms p q =
    added_more old new before (nodes_text ns) (nodes_text ms) p q ∙ ap (λ (xs : List ℕ). before ++ xs) (sym (nodes_text-append ns ms))

pub first_nodes-more : (book : LookUp) (k n : ℕ) → first_nodes book k (n + 1) ≡ first_nodes book k n ++ node_with k n (book k n)
first_nodes-more book k n = let next : n + 1 ≡ suc n = omega arith in ap (λ (m : ℕ). first_nodes book k m) next

pub lowest_nodes-more : (book : LookUp) (h k : ℕ) → lowest_nodes book h (k + 1) ≡ lowest_nodes book h k ++ first_nodes book k (2 ^ (h - k))
lowest_nodes-more book h k = let next : k + 1 ≡ suc k = omega arith in ap (λ (m : ℕ). lowest_nodes book h m) next

-- a whole layer was added
pub layer_added : (book : LookUp) (old new before : List ℕ) (h k count : ℕ) → count ≡ 1 * 2 ^ (h - k) % 4294967296 → h ≤ 20
    → old ≡ before ++ nodes_text (lowest_nodes book h k) → new ≡ old ++ nodes_text (first_nodes book k count)
    → new ≡ before ++ nodes_text (lowest_nodes book h (k + 1))
layer_added book old new before h k count is low p q =
    let below : h - k < 32 = omega arith in
    let small : 2 ^ (h - k) < 2 ^ 32 = pow-lt below in
    let one : 1 * 2 ^ (h - k) ≡ 2 ^ (h - k) = omega arith in
    let whole : count ≡ 2 ^ (h - k) = is ∙ ap (λ (n : ℕ). n % 4294967296) one ∙ mod-eq_of_lt small in
    nodes_added old new before (lowest_nodes book h k) (first_nodes book k (2 ^ (h - k))) p
    (q ∙ ap (λ (n : ℕ). old ++ nodes_text (first_nodes book k n)) whole)
    ∙ ap (λ (ns : List KnownNode). before ++ nodes_text ns) (sym (lowest_nodes-more book h k))

-- a datagram's line was added behind its first word
pub datagram_added : (before word mid new : List ℕ) (n : ℕ) (a : Address) (bytes : List ℕ) → mid ≡ before ++ word
    → new ≡ mid ++ datagram_line [] n a bytes → new ≡ before ++ datagram_line word n a bytes
datagram_added before word mid new n a bytes p q =
    q ∙ ap (λ (xs : List ℕ). xs ++ datagram_line [] n a bytes) p ∙ simp append_assoc
