-- A chunk more: it is written, and then the pairs that it fills, from below.
use Rattle.std.proofs.Common.{◌≡◌, ⊎_elim, ℕ, zero, suc, ◌+◌, ◌-◌, ◌*◌, ◌/◌, ◌%◌, ◌^◌, ◌<◌, ◌≤◌, List, [], ◌++◌, length, get_or, Ok, refl, sym, ◌∙◌, ap, subst, arith, get_or-set_other, get_or-set_same}
use Rattle.std.proofs.Math.ListN.{set}
use Rattle.std.proofs.lemmas.Bool.{cases_lt, cases_eq}
use Rattle.std.proofs.Math.Pow.{pow-lt}
use Rattle.sha2.specs.Sha256.{sha256}
use Rattle.pp_terms.specs.tree.Content.{chunk_of}
use Rattle.pp_terms.specs.tree.Tree.{pair, leaf_of, above}
use Rattle.pp_terms.specs.disk.Store.{chunk_place, pair_slot, pair_place, gate_place, open_gate, a_chunk, a_pair, a_gate}
use Rattle.pp_terms.specs.disk.Disk.{DiskState, IsKnown, written}
use Rattle.pp_terms.proofs.Peaks.{doubled}
use Rattle.pp_tree.proofs.Clashes.{node_is, leaf_is}
use Rattle.pp_store.specs.Behind.{KeepsBehind, DoesPut}
use Rattle.pp_store.specs.Growing.{with_chunk, IsContent, IsStoredTo, IsPartial, IsCarry, IsStoredCarry, IsCarrying, chunks_in, digest_of, HasChunk, HasPair}
use Rattle.pp_store.proofs.Writings.{known_back, put_reads}
use Rattle.pp_store.proofs.Pieces.{has_written, piece_kept, chunk_kept, staged_more, pair_low, slot_is}

-- the layers of a tree of at most 2 ^ 20 chunks
pub layer_low : (k step : ℕ) → step ≡ 2 ^ k → step ≤ 2 ^ 20 → k ≤ 20
layer_low k step is most = ⊎_elim (λ high. absurd (let up : 2 ^ 20 < 2 ^ k = pow-lt high in omega arith)) (λ low. low) (cases_lt 20 k)

pub carry_first : (count : ℕ) → IsCarry count 0 count 1
carry_first count = record {
  step_is = refl;
  exact = omega arith;
  at = refl;
  next = omega arith;
  even = λ l lt. absurd (omega arith);
}

pub carry_up : (count k offset step : ℕ) → IsCarry count k offset step → offset % 2 ≡ 1 → IsCarry count (k + 1) (offset / 2) (step * 2)
carry_up count k offset step is odd =
    let more : k + 1 ≡ suc k = omega arith in
    rw more (record {
      step_is = omega (arith, is.step_is, doubled k);
      exact = let half : offset ≡ 2 * (offset / 2) + 1 = omega arith in let e : step * (offset + 1) ≡ step * (2 * (offset / 2) + 1 + 1) = ap (λ (o : ℕ). step * (o + 1)) half in omega (arith, is.exact, e);
      at = ap (λ (o : ℕ). o / 2) is.at;
      next = ap (λ (o : ℕ). o / 2) is.next ∙ omega arith;
      even = λ l lt. ⊎_elim (λ low. is.even l low) (λ high. let e : l ≡ k = omega arith in ap (λ (m : ℕ). above m (count + 1) % 2) e ∙ ap (λ (o : ℕ). o % 2) is.next ∙ omega arith) (cases_lt l k);
    })

-- the bounds that the code needs
pub carry_low : (count k offset step : ℕ) → IsCarry count k offset step → count < 2 ^ 20 → (step ≤ count + 1) × (k ≤ 20) × (step ≤ 2 ^ 20)
carry_low count k offset step is low =
    let some : step ≤ step * (offset + 1) = grind arith in
    let le : step ≤ count + 1 = omega (arith, is.exact) in
    let few : step ≤ 2 ^ 20 = omega arith in
    (le, layer_low k step is.step_is few, few)

-- where the pair of a right child stands: as far back as there are leaves under it
pub carry_slot : (count k offset step : ℕ) → IsCarry count k offset step → offset % 2 ≡ 1
    → (step ≤ count) × (count - step ≡ pair_slot k (offset / 2))
carry_slot count k offset step is odd =
    let half : offset ≡ 2 * (offset / 2) + 1 = omega arith in
    let slot : pair_slot k (offset / 2) + 1 ≡ step * offset = slot_is k (offset / 2) ∙ ap (λ (p : ℕ). p * (2 * (offset / 2) + 1)) (sym is.step_is) ∙ ap (λ (o : ℕ). step * o) (sym half) in
    let e : step * (offset + 1) ≡ step * offset + step = omega arith in
    (omega (arith, is.exact), omega (arith, is.exact))

above_later : (k l count : ℕ) → k ≤ l → above (suc k) (count + 1) ≡ above (suc k) count → above (suc l) (count + 1) ≡ above (suc l) count
above_later k zero count le same = let e : k ≡ 0 = omega arith in subst (λ (m : ℕ). above (suc m) (count + 1) ≡ above (suc m) count) e same
above_later k (suc m) count le same = ⊎_elim
    (λ high. ap (λ (x : ℕ). x / 2) (above_later k m count (omega arith) same))
    (λ low. let e : k ≡ suc m = omega arith in subst (λ (x : ℕ). above (suc x) (count + 1) ≡ above (suc x) count) e same)
    (cases_lt k (suc m))

-- The reads alone, first.
module _ (chunk : ℕ) (content : List ℕ) (count : ℕ) (fits : IsContent chunk content) where
  stored_start : (reads : List ℕ) → count < chunks_in chunk content → IsStoredTo chunk content count reads
      → IsStoredCarry chunk content count 0 (with_chunk chunk count (chunk_of content chunk count) reads)
  stored_start reads within part =
      let here = a_chunk count within in
      let gate = a_gate count within in
      let mid = written reads (chunk_place chunk count) (chunk_of content chunk count) in
      record {
        staged = staged_more chunk content fits mid _ _ gate (staged_more chunk content fits reads _ _ here part.staged);
        chunks = λ i lt. ⊎_elim
            (λ low.
            let inside : i < chunks_in chunk content = omega (arith, within) in
            chunk_kept chunk content fits mid i _ _ inside gate (chunk_kept chunk content fits reads i _ _ inside here (part.chunks i low)))
            (λ high. let e : i ≡ count = omega arith in
            subst (λ (c : ℕ). HasChunk chunk content (with_chunk chunk count (chunk_of content chunk count) reads) c) (sym e) (record {
              there = piece_kept chunk content fits mid _ _ _ _ here gate (has_written reads (chunk_place chunk count) (chunk_of content chunk count));
              gate = has_written mid (gate_place chunk count) open_gate;
            }))
            (cases_lt i count);
        low = λ l j lt less. absurd (omega arith);
        high = λ l j from less.
            let is = pair_low chunk content fits l j count (omega (arith, within)) less in
            let pair = a_pair l j is.0 is.1 in
            piece_kept chunk content fits mid _ _ _ _ pair gate (piece_kept chunk content fits reads _ _ _ _ pair here (part.pairs l j less));
      }

  stored_step : (k offset step : ℕ) (reads : List ℕ) → count < chunks_in chunk content → IsCarry count k offset step → offset % 2 ≡ 1
      → IsStoredCarry chunk content count k reads
      → IsStoredCarry chunk content count (suc k) (written reads (pair_place chunk k (offset / 2)) (pair (leaf_of content chunk) (chunks_in chunk content) k (offset / 2)))
  stored_step k offset step reads inside at odd before =
      let n = chunks_in chunk content in
      let leaf = leaf_of content chunk in
      let new : offset / 2 < above (suc k) (count + 1) = (let e : above (suc k) (count + 1) ≡ (offset + 1) / 2 = ap (λ (o : ℕ). o / 2) at.next in omega arith) in
      let within : count + 1 ≤ n = omega (arith, inside) in
      let piece = pair_low chunk content fits k (offset / 2) (count + 1) within new in
      let here = a_pair k (offset / 2) piece.0 piece.1 in
      record {
        staged = staged_more chunk content fits reads _ _ here before.staged;
        chunks = λ i lt. chunk_kept chunk content fits reads i _ _ (omega (arith, inside)) here (before.chunks i lt);
        low = λ l j lt less.
            let is = pair_low chunk content fits l j (count + 1) within less in
            ⊎_elim
            (λ below. piece_kept chunk content fits reads _ _ _ _ (a_pair l j is.0 is.1) here (before.low l j below less))
            (λ from. let e : l ≡ k = omega arith in
            ⊎_elim
            (λ old. piece_kept chunk content fits reads _ _ _ _ (a_pair l j is.0 is.1) here (before.high l j (omega arith) (
            let up : above (suc k) count ≡ offset / 2 = ap (λ (o : ℕ). o / 2) (sym at.at) in
            let up' : above (suc l) count ≡ above (suc k) count = ap (λ (m : ℕ). above (suc m) count) e in
            omega arith
            )))
            (λ last.
            let up : above (suc k) (count + 1) ≡ (offset + 1) / 2 = ap (λ (o : ℕ). o / 2) at.next in
            let up' : above (suc l) (count + 1) ≡ above (suc k) (count + 1) = ap (λ (m : ℕ). above (suc m) (count + 1)) e in
            let f : j ≡ offset / 2 = omega arith in
            subst (λ (m : ℕ). HasPair chunk content (written reads (pair_place chunk k (offset / 2)) (pair leaf n k (offset / 2))) m j) (sym e)
            (subst (λ (i : ℕ). HasPair chunk content (written reads (pair_place chunk k (offset / 2)) (pair leaf n k (offset / 2))) k i) (sym f)
            (has_written reads (pair_place chunk k (offset / 2)) (pair leaf n k (offset / 2)))))
            (cases_lt j (offset / 2)))
            (cases_lt l k);
        high = λ l j from less.
            let is = pair_low chunk content fits l j count (omega (arith, inside)) less in
            piece_kept chunk content fits reads _ _ _ _ (a_pair l j is.0 is.1) here (before.high l j (omega arith) less);
      }

  stored_end : (k offset step : ℕ) (reads : List ℕ) → above (suc k) (count + 1) ≡ above (suc k) count
      → IsStoredCarry chunk content count k reads → IsStoredTo chunk content (count + 1) reads
  stored_end k offset step reads stays before = record {
    staged = before.staged;
    chunks = before.chunks;
    pairs = λ l j less. ⊎_elim
        (λ below. before.low l j below less)
        (λ from. before.high l j from (subst (λ (x : ℕ). j < x) (above_later k l count from stays) less))
        (cases_lt l k);
  }

module _ (chunk : ℕ) (content : List ℕ) (count : ℕ) where
  -- the chunk was written and its gate opened
  pub carry_start : (old new : DiskState) (peaks : List (List ℕ)) (bytes digest : List ℕ) → KeepsBehind old new
      → (IsKnown old → new.history.reads ≡ with_chunk chunk count bytes old.history.reads)
      → bytes ≡ chunk_of content chunk count → digest ≡ sha256 bytes
      → count < chunks_in chunk content → IsPartial chunk content count peaks old
      → IsCarrying chunk content count 0 count peaks digest new
  carry_start old new peaks bytes digest keeps put bytes_is digest_is within part = record {
    fits = part.fits;
    within = within;
    peak = λ l from odd. part.peak l odd;
    is = digest_is ∙ ap sha256 bytes_is ∙ sym (leaf_is (leaf_of content chunk) (chunks_in chunk content) count within);
    stored = λ known.
        let before = known_back old new keeps known in
        subst (IsStoredCarry chunk content count 0) (sym (put before ∙ ap (λ (b : List ℕ). with_chunk chunk count b old.history.reads) bytes_is))
        (stored_start chunk content count part.fits old.history.reads within (part.stored before));
  }

  -- a right child: the pair with the peak on its left was written
  pub carry_step : {T E : Type 0} (old new : DiskState) (x : T) (k offset step place : ℕ) (peaks : List (List ℕ)) (left right digest : List ℕ)
      → DoesPut {E = E} old place (left ++ right) (Ok x) new → place ≡ pair_place chunk k (offset / 2)
      → IsCarry count k offset step → offset % 2 ≡ 1 → left ≡ get_or peaks k [] → digest ≡ sha256 (left ++ right)
      → IsCarrying chunk content count k offset peaks right old
      → IsCarrying chunk content count (k + 1) (offset / 2) peaks digest new
  carry_step old new x k offset step place peaks left right digest puts place_is at odd left_is digest_is before =
      let n = chunks_in chunk content in
      let leaf = leaf_of content chunk in
      let more : k + 1 ≡ suc k = omega arith in
      let twice : 2 * (offset / 2) ≡ offset - 1 = omega arith in
      let next : 2 * (offset / 2) + 1 ≡ offset = omega arith in
      let left_node : left ≡ digest_of chunk content k (2 * (offset / 2)) = left_is ∙ before.peak k (omega arith) (ap (λ (o : ℕ). o % 2) (sym at.at) ∙ odd) ∙ ap (λ (o : ℕ). digest_of chunk content k (o - 1)) (sym at.at) ∙ ap (λ (o : ℕ). digest_of chunk content k o) (sym twice) in
      let right_node : right ≡ digest_of chunk content k (2 * (offset / 2) + 1) = before.is ∙ ap (λ (o : ℕ). digest_of chunk content k o) (sym next) in
      let both : left ++ right ≡ pair leaf n k (offset / 2) = ap (λ (y : List ℕ). y ++ right) left_node ∙ ap (λ (y : List ℕ). digest_of chunk content k (2 * (offset / 2)) ++ y) right_node in
      let new' : offset / 2 < above (suc k) (count + 1) = (let e : above (suc k) (count + 1) ≡ (offset + 1) / 2 = ap (λ (o : ℕ). o / 2) at.next in omega arith) in
      let within : count + 1 ≤ n = omega (arith, before.within) in
      let piece = pair_low chunk content before.fits k (offset / 2) (count + 1) within new' in
      let done : digest ≡ digest_of chunk content (suc k) (offset / 2) = digest_is ∙ ap sha256 both ∙ sym (node_is leaf n k (offset / 2) piece.1) in
      rw more (record {
        fits = before.fits;
        within = before.within;
        peak = λ l from. before.peak l (omega arith);
        is = done;
        stored = λ known.
            let reads = put_reads old new place (left ++ right) x puts known in
            subst (IsStoredCarry chunk content count (suc k)) (sym (reads.1 ∙ (λ i. written old.history.reads (place_is i) (both i))))
            (stored_step chunk content count before.fits k offset step old.history.reads before.within at odd (before.stored reads.0));
      })

  -- a left child: it is its layer's peak
  pub carry_end : (k offset step : ℕ) (peaks peaks' : List (List ℕ)) (digest : List ℕ) (disk : DiskState) → IsCarry count k offset step → (offset % 2 ≡ 1 → ⊥)
      → k < length peaks → peaks' ≡ set peaks k digest
      → IsCarrying chunk content count k offset peaks digest disk → IsPartial chunk content (count + 1) peaks' disk
  carry_end k offset step peaks peaks' digest disk at even inside set_is before =
      let stays : above (suc k) (count + 1) ≡ above (suc k) count =
      ap (λ (o : ℕ). o / 2) at.next ∙ (let e : (offset + 1) / 2 ≡ offset / 2 = omega arith in e) ∙ ap (λ (o : ℕ). o / 2) at.at in
      record {
        fits = before.fits;
        within = omega (arith, before.within);
        peak = λ l odd. ⊎_elim
            (λ below. absurd (let none = at.even l below in omega arith))
            (λ from. ⊎_elim
            (λ same. let e : above l (count + 1) ≡ offset + 1 = ap (λ (m : ℕ). above m (count + 1)) same ∙ at.next in
            let e' : above l (count + 1) - 1 ≡ offset = omega arith in
            ap (λ (ps : List (List ℕ)). get_or ps l []) set_is ∙ ap (λ (m : ℕ). get_or (set peaks k digest) m []) same ∙ get_or-set_same peaks k digest [] inside
            ∙ before.is ∙ ap (λ (m : ℕ). digest_of chunk content m offset) (sym same) ∙ ap (λ (o : ℕ). digest_of chunk content l o) (sym e'))
            (λ differ. later l odd (omega arith) stays)
            (cases_eq l k))
            (cases_lt l k);
        stored = λ known. stored_end chunk content count before.fits k offset step disk.history.reads stays (before.stored known);
      }
    where
      later : (l : ℕ) → above l (count + 1) % 2 ≡ 1 → k < l → above (suc k) (count + 1) ≡ above (suc k) count
          → get_or peaks' l [] ≡ digest_of chunk content l (above l (count + 1) - 1)
      later zero odd from stays = absurd (omega arith)
      later (suc m) odd from stays =
          let same : above (suc m) (count + 1) ≡ above (suc m) count = above_later k m count (omega arith) stays in
          let other : suc m ≡ k → ⊥ = λ e. absurd (omega arith) in
          ap (λ (ps : List (List ℕ)). get_or ps (suc m) []) set_is ∙ get_or-set_other peaks k (suc m) digest [] other
          ∙ before.peak (suc m) (omega arith) (ap (λ (x : ℕ). x % 2) (sym same) ∙ odd) ∙ ap (λ (x : ℕ). digest_of chunk content (suc m) (x - 1)) (sym same)
