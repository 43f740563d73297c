-- At a descriptor that tells the content's size both trees have one height, and the two words for a clash say the same.
use Rattle.std.proofs.Common.{◌≡◌, ℕ, zero, suc, ◌+◌, ◌-◌, ◌*◌, ◌/◌, ◌^◌, ◌<◌, ◌≤◌, Option, Some, None, List, ◌++◌, refl, sym, ◌∙◌, ap, subst, inl, inr, arith}
use Rattle.std.proofs.lemmas.Nat.{pow_pos}
use Rattle.std.proofs.Math.Nat.{le-div_iff_mul-le}
use Rattle.sha2.specs.Sha256.{sha256}
use Rattle.pp_terms.specs.tree.Content.{chunk_of, chunk_count}
use Rattle.pp_terms.specs.tree.Tree.{pair, leaf_of, above, height}
use Rattle.pp_terms.specs.tree.Book.{LookUp, IsJoined, IsRooted, PairsClash, Clash}
use Rattle.pp_terms.specs.format.Descriptor.{Descriptor, chunks_of, height_of, IsContentOf}
use Rattle.pp_terms.proofs.Peaks.{above_is}
use Rattle.pp_tree.proofs.Clashes.{node_is, leaf_is}
use Rattle.pp_tree.proofs.Halving.{above_half}
use Rattle.pp_tree.proofs.Rootedness.{some_same}
use Rattle.pp_targets.specs.Depth.{count_in, height_in, text_in, join_both, TextsClash, DepthClash}
use Rattle.pp_targets.specs.Law.{SizedClashIsClash}
use Rattle.pp_targets.proofs.Descent.{pair_by, pair_text, leaf_text}

-- two pairs of one digest above node (l, j)
abbrev PairClash : (ℕ → ℕ → List ℕ) → LookUp → ℕ → ℕ → Type 0
PairClash tree book l j = (left : List ℕ) × (right : List ℕ) × IsJoined book l j left right
    × (tree l j ≡ left ++ right → ⊥) × (sha256 (tree l j) ≡ sha256 (left ++ right))

-- a clash of pairs at some layer of the way is one on the way
on_way : (tree : ℕ → ℕ → List ℕ) (book : LookUp) (s n l j : ℕ) → s < n → PairClash tree book (s + l) (above (suc s) j) → PairsClash tree book n l j
on_way tree book s zero l j lt clash = absurd (omega arith)
on_way tree book zero (suc n) l j lt clash =
    let layer : 0 + l ≡ l = omega arith in
    inl (subst (λ (k : ℕ). PairClash tree book k (j / 2)) layer clash)
on_way tree book (suc s) (suc n) l j lt clash =
    let layer : suc s + l ≡ s + suc l = omega arith in
    inr (on_way tree book s n (suc l) (j / 2) (omega arith)
    (subst (λ (o : ℕ). PairClash tree book (s + suc l) o) (sym (above_half (suc s) j))
    (subst (λ (k : ℕ). PairClash tree book k (above (suc (suc s)) j)) layer clash)))

-- a clash of pairs on the way is at some layer
at_layer : (tree : ℕ → ℕ → List ℕ) (book : LookUp) (n l j : ℕ) → PairsClash tree book n l j
    → (s : ℕ) × (s < n) × PairClash tree book (s + l) (above (suc s) j)
at_layer tree book zero l j clash = absurd clash
at_layer tree book (suc n) l j (inl clash) =
    let layer : 0 + l ≡ l = omega arith in
    (0, omega arith, subst (λ (k : ℕ). PairClash tree book k (j / 2)) (sym layer) clash)
at_layer tree book (suc n) l j (inr clash) =
    let (s, lt, there) = at_layer tree book n (suc l) (j / 2) clash in
    let layer : suc s + l ≡ s + suc l = omega arith in (
      suc s,
      omega arith,
      subst (λ (k : ℕ). PairClash tree book k (above (suc (suc s)) j)) (sym layer)
          (subst (λ (o : ℕ). PairClash tree book (s + suc l) o) (above_half (suc s) j) there),
    )

-- a node above a chunk covers it
covers_above : (n i k : ℕ) → i < n → above k i * 2 ^ k < n
covers_above n i k lt =
    let fits : i / 2 ^ k * 2 ^ k ≤ i = (le-div_iff_mul-le (pow_pos k)).0 (let same : i / 2 ^ k ≤ i / 2 ^ k = omega arith in same) in
    let is = ap (λ (m : ℕ). m * 2 ^ k) (above_is k i) in
    omega (arith, fits, is)

-- both children of a text that is two digests
halves_of : (a b : Option (List ℕ)) (text : List ℕ) → join_both a b ≡ Some text
    → (left : List ℕ) × (right : List ℕ) × (a ≡ Some left) × (b ≡ Some right) × (text ≡ left ++ right)
halves_of None b text is = absurd (let none : None ≡ Some text = is in cc)
halves_of (Some left) None text is = absurd (let none : None ≡ Some text = is in cc)
halves_of (Some left) (Some right) text is =
    let same : Some (left ++ right) ≡ Some text = is in (left, right, refl, refl, sym (some_same (left ++ right) text (Some (left ++ right)) refl same))

module _ (d : Descriptor) (content : List ℕ) (book : LookUp) (i : ℕ) (bytes : List ℕ) (of : IsContentOf d content) (rooted : IsRooted d book)
    (within : i < chunks_of d) where
  count_is : count_in content d.chunk ≡ chunks_of d
  count_is = ap (λ (s : ℕ). chunk_count s d.chunk) of.size

  -- the pair below a node that is a text of the book
  joined_by : (k o : ℕ) (left right : List ℕ) → suc k ≤ height_of d → book k (2 * o) ≡ Some left → book k (2 * o + 1) ≡ Some right
      → IsJoined book k o left right
  joined_by k o left right low left_is right_is = elim (rooted.hangs k (2 * o) left left_is) [
    | inl (top, first) ↦ absurd (omega arith)
    | inr (a, b, joined) ↦
        let half : 2 * o / 2 ≡ o = omega arith in
        let here = subst (λ (m : ℕ). IsJoined book k m a b) half joined in
        let same_left = some_same a left (book k (2 * o)) here.left_is left_is in
        let same_right = some_same b right (book k (2 * o + 1)) here.right_is right_is in
        subst (λ (r : List ℕ). IsJoined book k o left r) same_right (subst (λ (l : List ℕ). IsJoined book k o l b) same_left here)
  ]

  sized_at : (k : ℕ) → k ≤ height_of d → TextsClash content d.chunk book bytes k k (above k i)
      → Clash d content book i bytes
  sized_at zero low clash =
      let lt : i < count_in content d.chunk = omega (arith, count_is) in
      let is : bytes ≡ clash.text = some_same bytes clash.text (Some bytes) refl clash.text_is in
      let leaf = leaf_is (leaf_of content d.chunk) (count_in content d.chunk) i lt in
      inl (
        λ e. clash.other (leaf_text d content book i bytes i lt ∙ ap (λ xs. Some xs) (sym e ∙ is)),
        ap (λ xs. sha256 xs) is ∙ clash.same ∙ leaf,
      )
  sized_at (suc k) low clash =
      let o : ℕ = above (suc k) i in
      let covers : above (suc k) i * 2 ^ suc k < count_in content d.chunk =
      covers_above (count_in content d.chunk) i (suc k) (omega (arith, count_is)) in
      let (left, right, left_is, right_is, text_is) = halves_of (book k (2 * above (suc k) i)) (book k (2 * above (suc k) i + 1)) clash.text clash.text_is in
      let joined = joined_by k (above (suc k) i) left right low left_is right_is in
      let parent = node_is (leaf_of content d.chunk) (count_in content d.chunk) k (above (suc k) i) covers in
      let layer : k + 0 ≡ k = omega arith in
      let there : PairClash (pair (leaf_of content d.chunk) (count_in content d.chunk)) book k (above (suc k) i) = (
        left,
        right,
        joined,
        λ e. clash.other (pair_text d content book i bytes k (above (suc k) i) covers ∙ ap (λ xs. Some xs) (e ∙ sym text_is)),
        sym parent ∙ sym clash.same ∙ ap (λ xs. sha256 xs) text_is,
      ) in
      inr (subst (λ (n : ℕ). PairsClash (pair (leaf_of content d.chunk) n) book (height_of d) 0 i) count_is
      (on_way (pair (leaf_of content d.chunk) (count_in content d.chunk)) book k (height_of d) 0 i (omega arith)
      (subst (λ (l : ℕ). PairClash (pair (leaf_of content d.chunk) (count_in content d.chunk)) book l (above (suc k) i)) (sym layer) there)))

  height_is_one : height_in content d.chunk ≡ height_of d
  height_is_one = ap (λ (n : ℕ). height n) count_is

  to_clash : DepthClash d content book i bytes → Clash d content book i bytes
  to_clash clash =
      let same : height_in content d.chunk - clash.depth ≡ height_of d - clash.depth = ap (λ (h : ℕ). h - clash.depth) height_is_one in
      sized_at (height_of d - clash.depth) (omega arith)
      (subst (λ (m : ℕ). TextsClash content d.chunk book bytes (height_of d - clash.depth) m (above (height_of d - clash.depth) i)) same clash.clash)

  depth_at : (k : ℕ) → k ≤ height_of d → TextsClash content d.chunk book bytes k k (above k i) → DepthClash d content book i bytes
  depth_at k low clash =
      let t : ℕ = height_of d - k in
      let k_is : k ≡ height_of d - (height_of d - k) = omega arith in
      let m_is : k ≡ height_in content d.chunk - (height_of d - k) = omega (arith, height_is_one) in
      record {
        depth = height_of d - k;
        within = omega arith;
        within_content = omega (arith, height_is_one);
        clash = subst (λ (l : ℕ). TextsClash content d.chunk book bytes l (height_in content d.chunk - (height_of d - k)) (above l i)) k_is
            (subst (λ (l : ℕ). TextsClash content d.chunk book bytes k l (above k i)) m_is clash);
      }

  from_clash : Clash d content book i bytes → DepthClash d content book i bytes
  from_clash (inl (differ, same)) =
      let lt : i < count_in content d.chunk = omega (arith, count_is) in
      let leaf = leaf_is (leaf_of content d.chunk) (count_in content d.chunk) i lt in
      depth_at 0 (omega arith) (record {
        text = bytes;
        text_is = refl;
        same = same ∙ sym leaf;
        other = λ e. differ (some_same bytes (chunk_of content d.chunk i) (text_in content d.chunk 0 i) e (leaf_text d content book i bytes i lt));
      })
  from_clash (inr clash) =
      let (k, low, (left, right, joined, differ, same)) = at_layer (pair (leaf_of content d.chunk) (count_in content d.chunk)) book (height_of d) 0 i
      (subst (λ (n : ℕ). PairsClash (pair (leaf_of content d.chunk) n) book (height_of d) 0 i) (sym count_is) clash) in
      let layer : k + 0 ≡ k = omega arith in
      let there : PairClash (pair (leaf_of content d.chunk) (count_in content d.chunk)) book k (above (suc k) i) =
      subst (λ (l : ℕ). PairClash (pair (leaf_of content d.chunk) (count_in content d.chunk)) book l (above (suc k) i)) layer (left, right, joined, differ, same) in
      let covers : above (suc k) i * 2 ^ suc k < count_in content d.chunk =
      covers_above (count_in content d.chunk) i (suc k) (omega (arith, count_is)) in
      depth_at (suc k) (omega arith) (record {
        text = there.0 ++ there.1;
        text_is = pair_by d content book i bytes k (above (suc k) i) there.0 there.1 there.2;
        same = sym there.4 ∙ sym (node_is (leaf_of content d.chunk) (count_in content d.chunk) k (above (suc k) i) covers);
        other = λ e. there.3 (some_same (pair (leaf_of content d.chunk) (count_in content d.chunk) k (above (suc k) i)) (there.0 ++ there.1)
            (text_in content d.chunk (suc k) (above (suc k) i)) (pair_text d content book i bytes k (above (suc k) i) covers) e);
      })

pub sized_clash_is_clash : SizedClashIsClash
sized_clash_is_clash d content book i bytes of rooted within =
    (to_clash d content book i bytes of rooted within, from_clash d content book i bytes of rooted within)
