-- A book of a name's descriptor that backs all chunks.
use Rattle.std.proofs.Common.{◌≡◌, ◌⊎◌, ℕ, zero, suc, ◌+◌, ◌-◌, ◌*◌, ◌^◌, ◌≤◌, ◌<◌, Some, List, [], ◌∷◌, ◌++◌, length, take, drop, refl, sym, ◌∙◌, ap, subst, inl, inr, arith, length-drop}
use Rattle.std.proofs.lemmas.Bool.{cases_lt}
use Rattle.std.proofs.lemmas.List.{drop-drop, take-append-drop}
use Rattle.std.proofs.lemmas.Nat.{pow_pos, pow-add}
use Rattle.std.proofs.Math.Nat.{pow-suc, le-div_iff_mul-le}
use Rattle.pp_terms.proofs.Heights.{height_is}
use Rattle.pp_terms.proofs.Peaks.{above_is}
use Rattle.pp_tree.specs.Book.{IsInTree}
use Rattle.pp_terms.specs.tree.Content.{chunk_of}
use Rattle.pp_terms.specs.tree.Proves.{last_layer}
use Rattle.pp_terms.specs.tree.Tree.{above}
use Rattle.pp_terms.specs.tree.Book.{LookUp}
use Rattle.pp_terms.specs.format.Descriptor.{Descriptor, chunks_of, height_of, IsDescriptor}
use Rattle.pp_tree.proofs.Sizes.{chunk_size_range, chunk_count_range, chunk_count_holds}
use Rattle.pp_paths.proofs.ProvenChunks.{counted}
use Rattle.pp_targets.specs.Target.{SwarmName, Auto, FitsName, IsOfName}
use Rattle.pp_targets.specs.Depth.{count_in, HasZeroNode}
use Rattle.pp_targets.specs.Law.{IsShaped, BacksAll, ClashesSomewhere, BackedIsContentOfName}
use Rattle.pp_targets.proofs.Descent.{IsWay, from_roots}
use Rattle.pp_targets.proofs.BackedChunks.{root_above, root_of_fit, apart_by_name, way_of_backed, backed_is_chunk_of_target}
use Rattle.pp_targets.proofs.LastPeaks.{before_last, over_count}
use Rattle.pp_targets.proofs.LastSizes.{IsEmptyBeside, few_chunks, one_size}

-- ---- bytes by their chunks

-- a chunk behind the first
chunk_behind : (bytes : List ℕ) (chunk i : ℕ) → chunk_of (drop chunk bytes) chunk i ≡ chunk_of bytes chunk (suc i)
chunk_behind bytes chunk i =
    let place : chunk + i * chunk ≡ suc i * chunk = omega arith in
    ap (λ xs. take chunk xs) (drop-drop (i * chunk) chunk bytes) ∙ ap (λ (p : ℕ). take chunk (drop p bytes)) place

empty_is : (bytes : List ℕ) → length bytes ≤ 0 → [] ≡ bytes
empty_is [] none = refl
empty_is (x ∷ xs) none = absurd (omega arith)

chunk_in_front : (bytes : List ℕ) (chunk : ℕ) → chunk_of bytes chunk 0 ≡ take chunk bytes
chunk_in_front bytes chunk = let place : 0 * chunk ≡ 0 = omega arith in ap (λ (p : ℕ). take chunk (drop p bytes)) place

-- bytes of the same chunks are the same
same_by_chunks : (chunk n : ℕ) (a b : List ℕ) → length a ≤ n * chunk → length b ≤ n * chunk
    → ((i : ℕ) → i < n → chunk_of a chunk i ≡ chunk_of b chunk i) → a ≡ b
same_by_chunks chunk zero a b short_a short_b each = sym (empty_is a (omega (arith, short_a))) ∙ empty_is b (omega (arith, short_b))
same_by_chunks chunk (suc n) a b short_a short_b each =
    let rest : drop chunk a ≡ drop chunk b = same_by_chunks chunk n (drop chunk a) (drop chunk b) (omega (arith, short_a, length-drop chunk a)) (omega (arith, short_b, length-drop chunk b))
    (λ i lt. chunk_behind a chunk i ∙ each (suc i) (omega (arith, lt)) ∙ sym (chunk_behind b chunk i)) in
    let front : take chunk a ≡ take chunk b = sym (chunk_in_front a chunk) ∙ each 0 (omega arith) ∙ chunk_in_front b chunk in
    sym (take-append-drop chunk a) ∙ ap (λ xs. xs ++ drop chunk a) front ∙ ap (λ xs. take chunk b ++ xs) rest ∙ take-append-drop chunk b

-- ---- what a shaped book has beside the last peak

-- a right child above chunk i, so many layers below the root
right_in_tree : (k m i : ℕ) → i < 2 ^ (m + suc k) → 2 * above (suc k) i + 1 < 2 ^ suc m
right_in_tree k m i lt =
    let cut : 2 ^ (m + suc k) ≡ 2 ^ m * 2 ^ suc k = pow-add 2 m (suc k) in
    let twice : 2 ^ suc m ≡ 2 ^ m * 2 = pow-suc 2 m in
    elim (cases_lt (above (suc k) i) (2 ^ m)) [
      | inl low ↦ omega (arith, low, twice)
      | inr high ↦
          let fits : 2 ^ m * 2 ^ suc k ≤ i = (le-div_iff_mul-le (pow_pos (suc k))).0 (subst (λ (x : ℕ). 2 ^ m ≤ x) (above_is (suc k) i) high) in
          absurd (omega (arith, fits, cut, lt))
    ]

in_tree : (e : Descriptor) (k i : ℕ) → IsDescriptor e → i < chunks_of e → k < height_of e → IsInTree e k (2 * above (suc k) i + 1)
in_tree e k i is within low =
    let range = chunk_size_range e.chunk is.chunk_size in
    let count = chunk_count_range e.size e.chunk (omega (arith, range.0)) is.content_size in
    let tall = height_is (chunks_of e) count.0 count.1 in
    let m : ℕ = height_of e - suc k in
    let below : m + suc k ≡ height_of e = omega (arith, low) in
    let up : suc m ≡ height_of e - k = omega (arith, low) in
    let small : i < 2 ^ height_of e = omega (arith, within, tall.covers) in
    record {
      layer = omega (arith, low);
      offset = subst (λ (n : ℕ). 2 * above (suc k) i + 1 < 2 ^ n) up
          (right_in_tree k m i (subst (λ (n : ℕ). i < 2 ^ n) (sym below) small));
    }

shaped_beside : (e : Descriptor) (book : LookUp) (i : ℕ) (bytes : List ℕ) → IsDescriptor e → suc i ≡ chunks_of e → IsShaped e book → IsWay e book i bytes
    → IsEmptyBeside e book i
shaped_beside e book i bytes is end shaped way lt =
    let last : ℕ = last_layer (chunks_of e) in
    let count = counted e is in
    let at = before_last (chunks_of e) i (last_layer (chunks_of e)) end count.last (last_layer (chunks_of e)) (omega arith) in
    let odd = count.last.odd in
    let past = over_count (chunks_of e) i (last_layer (chunks_of e)) (2 * above (suc (last_layer (chunks_of e))) i + 1) end (omega arith) in
    let (left, right, joined, short, long) = way.pairs (last_layer (chunks_of e)) lt in
    joined.right_is ∙ ap (λ x. Some x) (shaped (last_layer (chunks_of e)) (2 * above (suc (last_layer (chunks_of e))) i + 1) right
    (in_tree e (last_layer (chunks_of e)) i is (omega (arith, end)) lt) past joined.right_is)

-- ---- the whole content

module _ (name : SwarmName) (e : Descriptor) (book : LookUp) (bytes : List ℕ) (is : IsDescriptor e) (of : IsOfName name e) (shaped : IsShaped e book)
    (backs : BacksAll e book bytes) (content : List ℕ) (fits : FitsName name content) where
  abbrev Somewhere : Type 0
  Somewhere = ClashesSomewhere e content book bytes

  first_chunks : (n : ℕ) → n ≤ chunks_of e
      → ((i : ℕ) → i < n → chunk_of bytes e.chunk i ≡ chunk_of content e.chunk i) ⊎ Somewhere
  first_chunks zero low = inl (λ i lt. absurd (omega arith))
  first_chunks (suc n) low = elim (first_chunks n (omega arith)) [
    | inr clash ↦ inr clash
    | inl before ↦ elim (backed_is_chunk_of_target (Auto name) content e book n (chunk_of bytes e.chunk n) is of fits (backs.each n (omega arith))) [
      | inr clash ↦ inr (record { chunk = n; within = omega arith; clash = clash })
      | inl same ↦ inl (more n before same)
    ]
  ]
    where
      more : (n : ℕ) → ((i : ℕ) → i < n → chunk_of bytes e.chunk i ≡ chunk_of content e.chunk i) → chunk_of bytes e.chunk n ≡ chunk_of content e.chunk n
          → (i : ℕ) → i < suc n → chunk_of bytes e.chunk i ≡ chunk_of content e.chunk i
      more n before same i lt = elim (cases_lt i n) [
        | inl low ↦ before i low
        | inr high ↦ let at : n ≡ i = omega arith in subst (λ k. chunk_of bytes e.chunk k ≡ chunk_of content e.chunk k) at same
      ]

  abbrev last : ℕ
  last = chunks_of e - 1

  some : 0 < e.chunk
  some = let range = chunk_size_range e.chunk is.chunk_size in omega (arith, range.0)

  end : suc last ≡ chunks_of e
  end = let range = chunk_count_range e.size e.chunk some is.content_size in omega (arith, range.0)

  few : count_in content e.chunk ≤ 2 ^ 20
  few = subst (λ (c : ℕ). count_in content c ≤ 2 ^ 20) (sym of.chunk) fits.few

  -- the size, by the last chunk
  one_length : (length content ≡ length bytes) ⊎ (Somewhere ⊎ HasZeroNode content e.chunk)
  one_length =
      let within : last < chunks_of e = (let ends = end in omega (arith, ends)) in
      let backed = backs.each last within in
      let way = way_of_backed e book last (chunk_of bytes e.chunk last) is backed in
      elim (from_roots e content book last (chunk_of bytes e.chunk last) way (inr (apart_by_name name content e last (chunk_of bytes e.chunk last) is of fits backed.whole))
      (root_of_fit (Auto name) content e of fits) (root_above e last is within)) [
        | inr clash ↦ inr (inl (record { chunk = last; within = within; clash = clash }))
        | inl same ↦ elim (few_chunks e content book last (chunk_of bytes e.chunk last) (counted e is) end few
            (shaped_beside e book last (chunk_of bytes e.chunk last) is end shaped way) same) [
              | inr zeros ↦ inr (inr zeros)
              | inl most ↦
                  let least = same.within in
                  let count : count_in content e.chunk ≡ suc last = (let ends = end in omega (arith, most, least, ends)) in
                  inl (one_size e content last (chunk_of bytes e.chunk last) some end backed.whole same.chunk_is count ∙ sym backs.size)
            ]
      ]

  whole : length content ≡ length bytes → ((i : ℕ) → i < chunks_of e → chunk_of bytes e.chunk i ≡ chunk_of content e.chunk i) → bytes ≡ content
  whole same each =
      let held = chunk_count_holds e.size e.chunk some in
      same_by_chunks e.chunk (chunks_of e) bytes content (omega (arith, held.0, backs.size)) (omega (arith, held.0, backs.size, same)) each

  is_content : (bytes ≡ content) ⊎ (Somewhere ⊎ HasZeroNode content e.chunk)
  is_content = elim one_length [
    | inr other ↦ inr other
    | inl same ↦ elim (first_chunks (chunks_of e) (omega arith)) [
      | inr clash ↦ inr (inl clash)
      | inl each ↦ inl (whole same each)
    ]
  ]

pub backed_is_content_of_name : BackedIsContentOfName
backed_is_content_of_name name e book bytes is of shaped backs content fits = is_content name e book bytes is of shaped backs content fits
