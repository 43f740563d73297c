-- A chunk behind the hashes of its plan serves its peer.
use Rattle.std.proofs.Common.{◌≡◌, ⊎_elim, ℕ, zero, suc, ◌+◌, ◌-◌, ◌*◌, ◌^◌, eqb, Bool, true, false, cond, ◌&&◌, ◌||◌, Option, Some, List, [], ◌∷◌, ◌++◌, map, refl, sym, ◌∙◌, ap, subst, append_assoc}
use Rattle.std.specs.Prelude.{unwrap_or}
use Rattle.std.specs.List.{AllByRecursion, list_any, list_all}
use Rattle.std.proofs.lemmas.Bool.{and_parts, and_from, or_cases, or_left, or_right, eq-eqb, eqb-true, false≢true}
use Rattle.std.proofs.lemmas.List.{append-nil}
use Rattle.pp_terms.specs.tree.Bins.{first_leaf, last_leaf, parent_of, sibling_of}
use Rattle.pp_terms.specs.tree.Book.{LookUp}
use Rattle.pp_terms.specs.tree.Range.{Span, leaves_of}
use Rattle.pp_terms.specs.tree.Tree.{Node, same_node, is_peak, peaks, height, leaf_at}
use Rattle.pp_terms.specs.format.Traffic.{Address, Record}
use Rattle.pp_terms.specs.format.Descriptor.{Descriptor}
use Rattle.pp_terms.specs.format.Messages.{Message}
use Rattle.pp_terms.proofs.Facts.{value_of}
use Rattle.pp_traffic.specs.Life.{begins_as}
use Rattle.pp_traffic.specs.Hashes.{is_span_of, brings, Carries}
use Rattle.pp_traffic.specs.Laws.{plan, uncles_from, IsInBook}
use Rattle.pp_traffic.specs.Serving.{Window, ServesChunk, ServesFrom}
use Rattle.pp_promises.specs.Datagrams.{hash_spans, PlansPeer, PlansFrom}
use Rattle.pp_draft.specs.Datagrams.{hash_of, delivery}
use Rattle.pp_seat.specs.Awaited.{AllPassSaid}

-- ---- hashes

carries_node : (d : Descriptor) (book : LookUp) (n : Node) → IsInBook d book n → Carries book (hash_of book n)
carries_node d book n given =
    let entry = value_of (book n.layer n.offset) given.1 in (
      n,
      and_from (eqb (first_leaf n) (first_leaf n)) (eqb (last_leaf n) (last_leaf n)) (eq-eqb (first_leaf n) (first_leaf n) refl) (eq-eqb (last_leaf n) (last_leaf n) refl),
      entry.1 ∙ ap (λ (o : Option (List ℕ)). Some (unwrap_or o [])) (sym entry.1),
    )

pub all_carried : (d : Descriptor) (book : LookUp) (nodes : List Node) → AllByRecursion (IsInBook d book) nodes → AllByRecursion (Carries book) (map (hash_of book) nodes)
all_carried d book [] all = tt
all_carried d book (n ∷ nodes) all = (carries_node d book n all.0, all_carried d book nodes all.1)

brings_node : (book : LookUp) (nodes : List Node) (n : Node) → list_any (same_node n) nodes ≡ true → brings (map (hash_of book) nodes) n ≡ true
brings_node book [] n e = absurd (false≢true e)
brings_node book (x ∷ nodes) n e = ⊎_elim
    (λ here.
    let parts = and_parts (eqb n.layer x.layer) (eqb n.offset x.offset) here in
    let layer = eqb-true n.layer x.layer parts.0 in
    let offset = eqb-true n.offset x.offset parts.1 in
    or_left (is_span_of n (leaves_of x)) (brings (map (hash_of book) nodes) n)
    (and_from (eqb (first_leaf x) (first_leaf n)) (eqb (last_leaf x) (last_leaf n))
    (eq-eqb (first_leaf x) (first_leaf n) (λ t. sym offset t * 2 ^ sym layer t))
    (eq-eqb (last_leaf x) (last_leaf n) (λ t. (sym offset t + 1) * 2 ^ sym layer t - 1))))
    (λ later. or_right (is_span_of n (leaves_of x)) (brings (map (hash_of book) nodes) n) (brings_node book nodes n later))
    (or_cases (same_node n x) (list_any (same_node n) nodes) e)

-- each of the nodes is brought
pub all_brought : (book : LookUp) (nodes : List Node) → list_all (brings (map (hash_of book) nodes)) nodes ≡ true
all_brought book nodes = all nodes (λ n e. e)
  where
    all : (xs : List Node) → ((n : Node) → list_any (same_node n) xs ≡ true → list_any (same_node n) nodes ≡ true) → list_all (brings (map (hash_of book) nodes)) xs ≡ true
    all [] within = refl
    all (x ∷ xs) within = and_from (brings (map (hash_of book) nodes) x) (list_all (brings (map (hash_of book) nodes)) xs)
        (brings_node book nodes x (within x (or_left (same_node x x) (list_any (same_node x) xs)
        (and_from (eqb x.layer x.layer) (eqb x.offset x.offset) (eq-eqb x.layer x.layer refl) (eq-eqb x.offset x.offset refl)))))
        (all xs (λ n e. within n (or_right (same_node n x) (list_any (same_node n) xs) e)))

pub spans_are : (book : LookUp) (nodes : List Node) → hash_spans (map (hash_of book) nodes) ≡ map leaves_of nodes
spans_are book [] = refl
spans_are book (n ∷ nodes) = ap (λ (xs : List Span). leaves_of n ∷ xs) (spans_are book nodes)

-- ---- the datagram of a chunk

pub no_handshake : (book : LookUp) (nodes : List Node) (i sent_at : ℕ) (bytes : List ℕ) (number : ℕ) → begins_as number (delivery book nodes i sent_at bytes) ≡ false
no_handshake book [] i sent_at bytes number = refl
no_handshake book (n ∷ nodes) i sent_at bytes number = refl

pub waits_for_none : (book : LookUp) (nodes : List Node) (i sent_at : ℕ) (bytes : List ℕ) → AllPassSaid (delivery book nodes i sent_at bytes)
waits_for_none book [] i sent_at bytes = (tt, tt)
waits_for_none book (n ∷ nodes) i sent_at bytes = (tt, waits_for_none book nodes i sent_at bytes)

pub serves_from : (d : Descriptor) (book : LookUp) (window : Window) (past : List Record) (receiver : Address) (channel : Option ℕ) (front : List Message) (nodes : List Node) (i sent_at : ℕ) (bytes : List ℕ)
    → ServesChunk d book window past receiver channel (front ++ map (hash_of book) nodes) i bytes []
    → ServesFrom d book window past receiver channel front (delivery book nodes i sent_at bytes)
serves_from d book window past receiver channel front [] i sent_at bytes s =
    subst (λ (xs : List Message). ServesChunk d book window past receiver channel xs i bytes []) (append-nil front) s
serves_from d book window past receiver channel front (n ∷ nodes) i sent_at bytes s =
    serves_from d book window past receiver channel (front ++ hash_of book n ∷ []) nodes i sent_at bytes
    (subst (λ (xs : List Message). ServesChunk d book window past receiver channel xs i bytes []) (sym (append_assoc front (hash_of book n ∷ []) (map (hash_of book) nodes))) s)

pub plans_from : (d : Descriptor) (book : LookUp) (window : Window) (past : List Record) (receiver : Address) (channel : Option ℕ) (front : List Message) (nodes : List Node) (i sent_at : ℕ) (bytes : List ℕ)
    → PlansPeer d window past receiver channel i (front ++ map (hash_of book) nodes)
    → PlansFrom d window past receiver channel front (delivery book nodes i sent_at bytes)
plans_from d book window past receiver channel front [] i sent_at bytes s =
    (subst (λ (xs : List Message). PlansPeer d window past receiver channel i xs) (append-nil front) s, tt)
plans_from d book window past receiver channel front (n ∷ nodes) i sent_at bytes s =
    plans_from d book window past receiver channel (front ++ hash_of book n ∷ []) nodes i sent_at bytes
    (subst (λ (xs : List Message). PlansPeer d window past receiver channel i xs) (sym (append_assoc front (hash_of book n ∷ []) (map (hash_of book) nodes))) s)

-- ---- plans

-- who is told the same gets the same plan
pub plan_same : (chunks : ℕ) (told other : Node → Bool) (i : ℕ) → ((n : Node) → told n ≡ other n) → plan chunks told i ≡ plan chunks other i
plan_same chunks told other i same =
    ap (λ (b : Bool). cond b [] (peaks chunks) ++ uncles_from (height chunks + 1) chunks told (leaf_at i)) (all_same (peaks chunks))
    ∙ ap (λ (xs : List Node). cond (list_all other (peaks chunks)) [] (peaks chunks) ++ xs) (uncles_same (height chunks + 1) (leaf_at i))
  where
    all_same : (xs : List Node) → list_all told xs ≡ list_all other xs
    all_same [] = refl
    all_same (x ∷ xs) = ap (λ (b : Bool). b && list_all told xs) (same x) ∙ ap (λ (b : Bool). other x && b) (all_same xs)

    uncles_same : (layers : ℕ) (n : Node) → uncles_from layers chunks told n ≡ uncles_from layers chunks other n
    uncles_same zero n = refl
    uncles_same (suc layers) n =
        ap (λ (b : Bool). cond (b || is_peak chunks n) [] (uncles_from layers chunks told (parent_of n) ++ cond (told (sibling_of n)) [] (sibling_of n ∷ []))) (same n)
        ∙ ap (λ (xs : List Node). cond (other n || is_peak chunks n) [] (xs ++ cond (told (sibling_of n)) [] (sibling_of n ∷ []))) (uncles_same layers (parent_of n))
        ∙ ap (λ (b : Bool). cond (other n || is_peak chunks n) [] (uncles_from layers chunks other (parent_of n) ++ cond b [] (sibling_of n ∷ []))) (same (sibling_of n))
