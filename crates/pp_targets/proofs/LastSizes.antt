-- A proved last chunk tells the size.
use Rattle.std.proofs.Common.{◌≡◌, ◌⊎◌, ℕ, zero, suc, ◌+◌, ◌*◌, ◌/◌, ◌%◌, ◌^◌, ◌<◌, ◌≤◌, Some, List, length, sym, ◌∙◌, ap, subst, inl, inr, arith}
use Rattle.std.proofs.lemmas.Bool.{cases_eq, cases_lt}
use Rattle.std.proofs.lemmas.Nat.{pow_pos}
use Rattle.std.proofs.Math.Nat.{le-div_iff_mul-le}
use Rattle.pp_terms.specs.tree.Content.{chunk_of, chunk_length}
use Rattle.pp_terms.specs.tree.Tree.{above, empty_hash}
use Rattle.pp_terms.specs.tree.Book.{LookUp}
use Rattle.pp_terms.specs.tree.Bins.{sibling}
use Rattle.pp_terms.specs.tree.Proves.{filled, last_layer, peak_offset}
use Rattle.pp_terms.specs.format.Descriptor.{Descriptor, chunks_of, height_of}
use Rattle.pp_terms.proofs.Heights.{height_is}
use Rattle.pp_terms.proofs.Peaks.{above_is}
use Rattle.pp_tree.proofs.Rootedness.{some_same}
use Rattle.pp_tree.proofs.Sizes.{chunk_size_range}
use Rattle.pp_paths.proofs.Growth.{even_sibling}
use Rattle.pp_paths.proofs.ProvenChunks.{Counted, counted}
use Rattle.pp_targets.specs.Target.{Auto}
use Rattle.pp_targets.specs.Depth.{count_in, height_in, digest_in, HasZeroNode}
use Rattle.pp_targets.specs.ClimbBook.{climb_book}
use Rattle.pp_targets.specs.Law.{LastTellsSize}
use Rattle.pp_targets.proofs.Descent.{IsWayOf, from_roots}
use Rattle.pp_targets.proofs.Parts.{length-chunk_of, last_part}
use Rattle.pp_targets.proofs.BackedChunks.{root_above, root_of_fit, apart_by_name, way_of_backed}
use Rattle.pp_targets.proofs.ClimbSteps.{filled_past}
use Rattle.pp_targets.proofs.LastPeaks.{before_last, over_count}
use Rattle.pp_targets.proofs.ClimbBooks.{IsClimbBook, climb_book_is}

-- so many whole parts are no more than all
whole_parts : (n k : ℕ) → above k n * 2 ^ k ≤ n
whole_parts n k =
    let fits : n / 2 ^ k * 2 ^ k ≤ n = (le-div_iff_mul-le (pow_pos k)).0 (let same : n / 2 ^ k ≤ n / 2 ^ k = omega arith in same) in
    let is = ap (λ (m : ℕ). m * 2 ^ k) (above_is k n) in
    omega (arith, fits, is)

-- beside the last peak, below the root, a book has the empty hash
abbrev pub IsEmptyBeside : Descriptor → LookUp → ℕ → Type 0
IsEmptyBeside e book i = last_layer (chunks_of e) < height_of e
    → book (last_layer (chunks_of e)) (2 * above (suc (last_layer (chunks_of e))) i + 1) ≡ Some empty_hash

empty_beside : (e : Descriptor) (known book : LookUp) (i : ℕ) (bytes : List ℕ) → Counted e → suc i ≡ chunks_of e
    → IsClimbBook e known book i bytes → IsEmptyBeside e book i
empty_beside e known book i bytes count end is lt =
    let last : ℕ = last_layer (chunks_of e) in
    let at = before_last (chunks_of e) i (last_layer (chunks_of e)) end count.last (last_layer (chunks_of e)) (omega arith) in
    let odd = count.last.odd in
    let peak : ℕ = peak_offset (last_layer (chunks_of e)) (chunks_of e) in
    let even : peak_offset (last_layer (chunks_of e)) (chunks_of e) % 2 ≡ 0 = omega arith in
    let next : sibling (peak_offset (last_layer (chunks_of e)) (chunks_of e)) ≡ 2 * above (suc (last_layer (chunks_of e))) i + 1 =
    even_sibling (peak_offset (last_layer (chunks_of e)) (chunks_of e)) even ∙ omega arith in
    let past = over_count (chunks_of e) i (last_layer (chunks_of e)) (2 * above (suc (last_layer (chunks_of e))) i + 1) end (omega arith) in
    ap (λ (o : ℕ). book (last_layer (chunks_of e)) o) (sym next) ∙ is.beside lt
    ∙ ap (λ (o : ℕ). filled (chunks_of e) known (last_layer (chunks_of e)) o) next
    ∙ filled_past (chunks_of e) known (last_layer (chunks_of e)) (2 * above (suc (last_layer (chunks_of e))) i + 1) past

-- The content has no chunk behind the last one, or a node of its that covers one has the empty hash.
pub few_chunks : (e : Descriptor) (content : List ℕ) (book : LookUp) (i : ℕ) (bytes : List ℕ) → Counted e → suc i ≡ chunks_of e
    → count_in content e.chunk ≤ 2 ^ 20 → IsEmptyBeside e book i
    → IsWayOf content e.chunk book i bytes (height_of e) (height_in content e.chunk)
    → (count_in content e.chunk ≤ chunks_of e) ⊎ HasZeroNode content e.chunk
few_chunks e content book i bytes count end few beside way = elim (cases_eq (last_layer (chunks_of e)) (height_of e)) [
  | inl top ↦
      let within = way.within in
      let tall = height_is (count_in content e.chunk) (omega arith) few in
      let odd = count.last.odd in
      let some : 1 ≤ above (height_of e) (chunks_of e) = (let same = ap (λ (k : ℕ). above k (chunks_of e)) top in omega arith) in
      let whole = whole_parts (chunks_of e) (height_of e) in
      let power : 2 ^ height_of e ≤ above (height_of e) (chunks_of e) * 2 ^ height_of e = (let one : 0 < 2 ^ height_of e = pow_pos (height_of e) in times (above (height_of e) (chunks_of e)) (2 ^ height_of e) some) in
      let level = ap (λ (h : ℕ). 2 ^ h) way.level in
      inl (omega (arith, tall.covers))
  | inr under ↦
      let low = count.within in
      let lt : last_layer (chunks_of e) < height_of e = omega arith in
      let pair = way.pairs (last_layer (chunks_of e)) lt in
      let o : ℕ = 2 * above (suc (last_layer (chunks_of e))) i + 1 in
      let zeros = some_same (digest_in content e.chunk (last_layer (chunks_of e)) (2 * above (suc (last_layer (chunks_of e))) i + 1)) empty_hash
      (book (last_layer (chunks_of e)) (2 * above (suc (last_layer (chunks_of e))) i + 1)) pair.right_is (beside lt) in
      elim (cases_lt ((2 * above (suc (last_layer (chunks_of e))) i + 1) * 2 ^ last_layer (chunks_of e)) (count_in content e.chunk)) [
        | inl covers ↦ inr (record {
          layer = last_layer (chunks_of e);
          offset = 2 * above (suc (last_layer (chunks_of e))) i + 1;
          within = (let level = way.level in omega arith);
          covers = covers;
          zeros = zeros;
        })
        | inr past ↦
            let at = before_last (chunks_of e) i (last_layer (chunks_of e)) end count.last (last_layer (chunks_of e)) (omega arith) in
            let odd = count.last.odd in
            let next : 2 * above (suc (last_layer (chunks_of e))) i + 1 ≡ above (last_layer (chunks_of e)) (chunks_of e) = omega arith in
            let whole = whole_parts (chunks_of e) (last_layer (chunks_of e)) in
            let same = ap (λ (m : ℕ). m * 2 ^ last_layer (chunks_of e)) next in
            inl (omega (arith, past, whole, same))
      ]
]
  where
    times : (a b : ℕ) → 1 ≤ a → b ≤ a * b
    times zero b some = absurd (omega arith)
    times (suc a) b some = omega arith

-- as many chunks, and one last chunk
pub one_size : (e : Descriptor) (content : List ℕ) (i : ℕ) (bytes : List ℕ) → 0 < e.chunk → suc i ≡ chunks_of e
    → length bytes ≡ chunk_length e.size e.chunk i → bytes ≡ chunk_of content e.chunk i → count_in content e.chunk ≡ suc i → length content ≡ e.size
one_size e content i bytes some end whole is count =
    let mine = last_part (length content) e.chunk i some count in
    let theirs = last_part e.size e.chunk i some (sym end) in
    let same : chunk_length (length content) e.chunk i ≡ chunk_length e.size e.chunk i =
    sym (length-chunk_of content e.chunk i) ∙ ap (λ xs. length xs) (sym is) ∙ whole in
    mine ∙ ap (λ (p : ℕ). i * e.chunk + p) same ∙ sym theirs

pub last_tells_size : LastTellsSize
last_tells_size name e known i bytes is of end' proof content fits =
    let end : suc i ≡ chunks_of e = omega arith in
    let count = counted e is in
    let range = chunk_size_range e.chunk is.chunk_size in
    let within : i < chunks_of e = omega arith in
    let book = climb_book_is e known i bytes is within proof in
    let few : count_in content e.chunk ≤ 2 ^ 20 = subst (λ (c : ℕ). count_in content c ≤ 2 ^ 20) (sym of.chunk) fits.few in
    elim (from_roots e content (climb_book e known i bytes) i bytes (way_of_backed e (climb_book e known i bytes) i bytes is book.backed) (inr (apart_by_name name content e i bytes is of fits proof.whole))
    (root_of_fit (Auto name) content e of fits) (root_above e i is within)) [
      | inr clash ↦ inr (inl clash)
      | inl way ↦ elim (few_chunks e content (climb_book e known i bytes) i bytes count end few
          (empty_beside e known (climb_book e known i bytes) i bytes count end book) way) [
            | inr zeros ↦ inr (inr zeros)
            | inl most ↦
                let least = way.within in
                let same : count_in content e.chunk ≡ suc i = omega arith in
                inl (one_size e content i bytes (omega (arith, range.0)) end proof.whole way.chunk_is same)
          ]
    ]
