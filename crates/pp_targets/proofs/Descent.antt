-- Down from the roots of a book and of a content's tree: at each depth their texts are the same, or two texts have one digest.
use Rattle.std.proofs.Common.{◌≡◌, ◌⊎◌, ℕ, zero, suc, ◌+◌, ◌-◌, ◌*◌, ◌^◌, ◌≤◌, ◌<◌, nat_lt, true, false, Some, None, List, ◌++◌, length, refl, sym, ◌∙◌, ap, subst, inl, inr, arith, length-append}
use Rattle.std.proofs.lemmas.Bool.{cases_lt}
use Rattle.std.proofs.lemmas.Bool.Decides.{nat_tests}
use Rattle.sha2.specs.Sha256.{sha256}
use Rattle.sha2.proofs.Facts256.{length-sha256}
use Rattle.pp_terms.specs.tree.Content.{chunk_of}
use Rattle.pp_terms.specs.tree.Tree.{node, pair, leaf_of, above}
use Rattle.pp_terms.specs.tree.Book.{LookUp, IsJoined}
use Rattle.pp_terms.specs.format.Descriptor.{Descriptor, height_of}
use Rattle.pp_terms.proofs.Nodes.{length-node}
use Rattle.pp_terms.proofs.Facts.{front_same, back_same, bytes_cases, which_half}
use Rattle.pp_tree.proofs.Rootedness.{some_same}
use Rattle.pp_targets.specs.Depth.{count_in, height_in, digest_in, text_in, join_both, text_by, TextsClash, DepthClash}

-- The way of a book from a chunk up to the root of a descriptor, in pairs of digests.
pub record IsWay (e : Descriptor) (book : LookUp) (i : ℕ) (bytes : List ℕ) : Type 0 where
  pub root_is : book (height_of e) (above (height_of e) i) ≡ Some e.root
  pub leaf_is : book 0 i ≡ Some (sha256 bytes)
  pub pairs : (k : ℕ) → k < height_of e → (left : List ℕ) × (right : List ℕ) × IsJoined book k (above (suc k) i) left right
      × (length left ≡ 32) × (length right ≡ 32)

-- The pair of a book in layer k on the way from chunk i is that of a content.
pub record IsPairOf (content : List ℕ) (chunk : ℕ) (book : LookUp) (i k : ℕ) : Type 0 where
  pub left_is : book k (2 * above (suc k) i) ≡ Some (digest_in content chunk k (2 * above (suc k) i))
  pub right_is : book k (2 * above (suc k) i + 1) ≡ Some (digest_in content chunk k (2 * above (suc k) i + 1))

-- The book's way is the content's, from layer k down.
pub record IsWayOf (content : List ℕ) (chunk : ℕ) (book : LookUp) (i : ℕ) (bytes : List ℕ) (k m : ℕ) : Type 0 where
  pub level : k ≡ m
  pub chunk_is : bytes ≡ chunk_of content chunk i
  pub within : i < count_in content chunk
  pub pairs : (l : ℕ) → l < k → IsPairOf content chunk book i l

-- No chunk of the content, and none of the bytes, can be two digests joined.
pub record IsApart (content : List ℕ) (chunk : ℕ) (bytes : List ℕ) : Type 0 where
  pub bytes_apart : length bytes ≡ 64 → ⊥
  pub chunks_apart : (l : ℕ) → length (chunk_of content chunk l) ≡ 64 → ⊥

pub some_none : {A : Type 0} {X : Type 0} (x : A) → None ≡ Some x → X
some_none x e = cc

module _ (e : Descriptor) (content : List ℕ) (book : LookUp) (i : ℕ) (bytes : List ℕ) where
  -- a clash by its layers, at a depth
  clash_at : (k m t : ℕ) → k + t ≡ height_of e → m + t ≡ height_in content e.chunk
      → TextsClash content e.chunk book bytes k m (above k i) → DepthClash e content book i bytes
  clash_at k m t here there clash =
      let k_is : k ≡ height_of e - t = omega arith in
      let m_is : m ≡ height_in content e.chunk - t = omega arith in
      record {
        depth = t;
        within = omega arith;
        within_content = omega arith;
        clash = subst (λ (l : ℕ). TextsClash content e.chunk book bytes l (height_in content e.chunk - t) (above l i)) k_is
            (subst (λ (l : ℕ). TextsClash content e.chunk book bytes k l (above k i)) m_is clash);
      }

  -- the content's text of a node that covers no chunk
  no_text : (m j : ℕ) → count_in content e.chunk ≤ j * 2 ^ m → text_in content e.chunk m j ≡ None
  no_text zero j le = let test : nat_lt j (count_in content e.chunk) ≡ false = grind (arith, nat_tests) in rw test refl
  no_text (suc m) j le =
      let test : nat_lt (j * 2 ^ suc m) (count_in content e.chunk) ≡ false = grind (arith, nat_tests) in rw test refl

  pub leaf_text : (j : ℕ) → j < count_in content e.chunk → text_in content e.chunk zero j ≡ Some (chunk_of content e.chunk j)
  leaf_text j lt = let test : nat_lt j (count_in content e.chunk) ≡ true = grind (arith, nat_tests) in rw test refl

  pub pair_text : (m j : ℕ) → j * 2 ^ suc m < count_in content e.chunk
      → text_in content e.chunk (suc m) j ≡ Some (pair (leaf_of content e.chunk) (count_in content e.chunk) m j)
  pair_text m j lt =
      let test : nat_lt (j * 2 ^ suc m) (count_in content e.chunk) ≡ true = grind (arith, nat_tests) in rw test refl

  -- a text that isn't the content's, or the content has none
  differs : (k m j : ℕ) (text own : List ℕ) → text_by book bytes k j ≡ Some text → sha256 text ≡ digest_in content e.chunk m j
      → text_in content e.chunk m j ≡ Some own → (own ≡ text → ⊥) → TextsClash content e.chunk book bytes k m j
  differs k m j text own is same own_is ne = record {
    text = text;
    text_is = is;
    same = same;
    other = λ is'. ne (some_same own text (text_in content e.chunk m j) own_is is');
  }

  has_none : (k m j : ℕ) (text : List ℕ) → text_by book bytes k j ≡ Some text → sha256 text ≡ digest_in content e.chunk m j
      → text_in content e.chunk m j ≡ None → TextsClash content e.chunk book bytes k m j
  has_none k m j text is same none = record {
    text = text;
    text_is = is;
    same = same;
    other = λ is'. some_none text (sym none ∙ is');
  }

  pub pair_by : (k j : ℕ) (left right : List ℕ) → IsJoined book k j left right → text_by book bytes (suc k) j ≡ Some (left ++ right)
  pair_by k j left right joined =
      ap (λ o. join_both o (book k (2 * j + 1))) joined.left_is ∙ ap (λ o. join_both (Some left) o) joined.right_is

  long_pair : (m j : ℕ) → length (pair (leaf_of content e.chunk) (count_in content e.chunk) m j) ≡ 64
  long_pair m j =
      let leaf = leaf_of content e.chunk in
      let n = count_in content e.chunk in
      let left = length-node leaf n m (2 * j) (λ l. length-sha256 (chunk_of content e.chunk l)) in
      let right = length-node leaf n m (2 * j + 1) (λ l. length-sha256 (chunk_of content e.chunk l)) in
      let sum = length-append (node leaf n m (2 * j)) (node leaf n m (2 * j + 1)) in
      omega (arith, left, right, sum)

  module _ (way : IsWay e book i bytes) (mixed : (height_of e ≡ height_in content e.chunk) ⊎ IsApart content e.chunk bytes) where
    -- the chunk's bytes against a chunk of the content
    at_leaves : (t : ℕ) → zero + t ≡ height_of e → zero + t ≡ height_in content e.chunk → sha256 bytes ≡ digest_in content e.chunk zero i
        → IsWayOf content e.chunk book i bytes zero zero ⊎ DepthClash e content book i bytes
    at_leaves t here there same = elim (cases_lt i (count_in content e.chunk)) [
      | inl lt ↦ elim (bytes_cases (chunk_of content e.chunk i) bytes) [
        | inl is ↦ inl (record { level = refl; chunk_is = sym is; within = lt; pairs = λ l below. absurd (omega arith) })
        | inr ne ↦ inr (clash_at zero zero t here there
            (differs zero zero i bytes (chunk_of content e.chunk i) refl same (leaf_text i lt) ne))
      ]
      | inr ge ↦ inr (clash_at zero zero t here there (has_none zero zero i bytes refl same (no_text zero i (omega arith))))
    ]

    -- the chunk's bytes against a pair of the content
    at_pair : (m t : ℕ) → zero + t ≡ height_of e → suc m + t ≡ height_in content e.chunk
        → sha256 bytes ≡ digest_in content e.chunk (suc m) i
        → IsWayOf content e.chunk book i bytes zero (suc m) ⊎ DepthClash e content book i bytes
    at_pair m t here there same = elim (cases_lt (i * 2 ^ suc m) (count_in content e.chunk)) [
      | inl lt ↦ elim (bytes_cases (pair (leaf_of content e.chunk) (count_in content e.chunk) m i) bytes) [
        | inl is ↦ absurd (elim mixed [
          | inl level ↦ omega arith
          | inr apart ↦ apart.bytes_apart (ap (λ xs. length xs) (sym is) ∙ long_pair m i)
        ])
        | inr ne ↦ inr (clash_at zero (suc m) t here there
            (differs zero (suc m) i bytes (pair (leaf_of content e.chunk) (count_in content e.chunk) m i) refl same (pair_text m i lt) ne))
      ]
      | inr ge ↦ inr (clash_at zero (suc m) t here there (has_none zero (suc m) i bytes refl same (no_text (suc m) i ge)))
    ]

    -- a pair of the book against a chunk of the content
    at_chunk : (k t : ℕ) (left right : List ℕ) → suc k + t ≡ height_of e → zero + t ≡ height_in content e.chunk
        → IsJoined book k (above (suc k) i) left right → length left ≡ 32 → length right ≡ 32
        → sha256 (left ++ right) ≡ digest_in content e.chunk zero (above (suc k) i)
        → IsWayOf content e.chunk book i bytes (suc k) zero ⊎ DepthClash e content book i bytes
    at_chunk k t left right here there joined left_long right_long same =
        let j : ℕ = above (suc k) i in
        let by = pair_by k (above (suc k) i) left right joined in
        elim (cases_lt (above (suc k) i) (count_in content e.chunk)) [
          | inl lt ↦ elim (bytes_cases (chunk_of content e.chunk (above (suc k) i)) (left ++ right)) [
            | inl is ↦ absurd (elim mixed [
              | inl level ↦ omega arith
              | inr apart ↦
                  let sum = length-append left right in
                  apart.chunks_apart (above (suc k) i) (ap (λ xs. length xs) is ∙ omega (arith, sum, left_long, right_long))
            ])
            | inr ne ↦ inr (clash_at (suc k) zero t here there
                (differs (suc k) zero (above (suc k) i) (left ++ right) (chunk_of content e.chunk (above (suc k) i)) by same
                (leaf_text (above (suc k) i) lt) ne))
          ]
          | inr ge ↦ inr (clash_at (suc k) zero t here there
              (has_none (suc k) zero (above (suc k) i) (left ++ right) by same (no_text zero (above (suc k) i) (omega arith))))
        ]

    -- the children that a pair's node has on the way
    child_is : (k m : ℕ) (left right : List ℕ) → IsJoined book k (above (suc k) i) left right
        → left ≡ digest_in content e.chunk m (2 * above (suc k) i) → right ≡ digest_in content e.chunk m (2 * above (suc k) i + 1)
        → (x : List ℕ) × (book k (above k i) ≡ Some x) × (x ≡ digest_in content e.chunk m (above k i))
    child_is k m left right joined left_is right_is = elim (which_half (above k i) (above (suc k) i) refl) [
      | inl even ↦ (left, ap (λ j. book k j) even ∙ joined.left_is, left_is ∙ ap (λ j. digest_in content e.chunk m j) (sym even))
      | inr odd ↦ (right, ap (λ j. book k j) odd ∙ joined.right_is, right_is ∙ ap (λ j. digest_in content e.chunk m j) (sym odd))
    ]

    -- one pair more, on top of a way
    one_more : (k m : ℕ) (left right : List ℕ) → IsJoined book k (above (suc k) i) left right
        → left ≡ digest_in content e.chunk m (2 * above (suc k) i) → right ≡ digest_in content e.chunk m (2 * above (suc k) i + 1)
        → IsWayOf content e.chunk book i bytes k m → IsWayOf content e.chunk book i bytes (suc k) (suc m)
    one_more k m left right joined left_is right_is is = record {
      level = ap (λ (l : ℕ). suc l) is.level;
      chunk_is = is.chunk_is;
      within = is.within;
      pairs = λ l below. elim (cases_lt l k) [
        | inl lt ↦ is.pairs l lt
        | inr ge ↦
            let same : k ≡ l = omega arith in
            subst (λ (l : ℕ). IsPairOf content e.chunk book i l) same (record {
              left_is = joined.left_is ∙ ap (λ xs. Some xs) (left_is ∙ ap (λ (l : ℕ). digest_in content e.chunk l (2 * above (suc k) i)) (sym is.level));
              right_is = joined.right_is ∙ ap (λ xs. Some xs) (right_is ∙ ap (λ (l : ℕ). digest_in content e.chunk l (2 * above (suc k) i + 1)) (sym is.level));
            })
      ];
    }

    descend : (k m t : ℕ) (x : List ℕ) → k + t ≡ height_of e → m + t ≡ height_in content e.chunk → book k (above k i) ≡ Some x
        → x ≡ digest_in content e.chunk m (above k i)
        → IsWayOf content e.chunk book i bytes k m ⊎ DepthClash e content book i bytes
    descend zero zero t x here there at is =
        at_leaves t here there (some_same (sha256 bytes) x (book 0 i) way.leaf_is at ∙ is)
    descend zero (suc m) t x here there at is =
        at_pair m t here there (some_same (sha256 bytes) x (book 0 i) way.leaf_is at ∙ is)
    descend (suc k) zero t x here there at is =
        let (left, right, joined, left_long, right_long) = way.pairs k (omega arith) in
        at_chunk k t left right here there joined left_long right_long
        (some_same (sha256 (left ++ right)) x (book (suc k) (above (suc k) i)) joined.joined at ∙ is)
    descend (suc k) (suc m) t x here there at is =
        let (left, right, joined, left_long, right_long) = way.pairs k (omega arith) in
        let same = some_same (sha256 (left ++ right)) x (book (suc k) (above (suc k) i)) joined.joined at ∙ is in
        let by = pair_by k (above (suc k) i) left right joined in
        let leaf = leaf_of content e.chunk in
        let n = count_in content e.chunk in
        let j = above (suc k) i in
        elim (cases_lt (j * 2 ^ suc m) n) [
          | inr ge ↦ inr (clash_at (suc k) (suc m) t here there (has_none (suc k) (suc m) j (left ++ right) by same (no_text (suc m) j ge)))
          | inl lt ↦ elim (bytes_cases (pair leaf n m j) (left ++ right)) [
            | inr ne ↦ inr (clash_at (suc k) (suc m) t here there
                (differs (suc k) (suc m) j (left ++ right) (pair leaf n m j) by same (pair_text m j lt) ne))
            | inl equal ↦
                let long = length-node leaf n m (2 * j) (λ l. length-sha256 (chunk_of content e.chunk l)) in
                let left_is = sym (front_same (node leaf n m (2 * j)) (node leaf n m (2 * j + 1)) left right (long ∙ sym left_long) equal) in
                let right_is = sym (back_same (node leaf n m (2 * j)) (node leaf n m (2 * j + 1)) left right (long ∙ sym left_long) equal) in
                let (y, at', is') = child_is k m left right joined left_is right_is in
                elim (descend k m (suc t) y (omega arith) (omega arith) at' is') [
                  | inl below ↦ inl (one_more k m left right joined left_is right_is below)
                  | inr clash ↦ inr clash
                ]
          ]
        ]

    pub from_roots : e.root ≡ digest_in content e.chunk (height_in content e.chunk) 0 → above (height_of e) i ≡ 0
        → IsWayOf content e.chunk book i bytes (height_of e) (height_in content e.chunk) ⊎ DepthClash e content book i bytes
    from_roots root first = descend (height_of e) (height_in content e.chunk) 0 e.root (omega arith) (omega arith) way.root_is
        (root ∙ ap (λ (j : ℕ). digest_in content e.chunk (height_in content e.chunk) j) (sym first))
