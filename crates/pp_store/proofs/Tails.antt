-- The end of a tree: the pairs of the nodes that aren't full, from below, and the root.
use Rattle.std.proofs.Common.{◌≡◌, ◌⊎◌, inl, inr, ⊎_elim, ℕ, suc, ◌+◌, ◌-◌, ◌*◌, ◌/◌, ◌%◌, ◌^◌, ◌<◌, ◌≤◌, List, [], ◌++◌, get_or, Ok, refl, sym, ◌∙◌, ap, subst, arith}
use Rattle.std.proofs.Math.Nat.{mul-le-mul_left}
use Rattle.std.proofs.lemmas.Nat.{pow_pos}
use Rattle.std.proofs.lemmas.Bool.{cases_lt}
use Rattle.std.proofs.Math.Pow.{pow_mono}
use Rattle.sha2.specs.Sha256.{sha256}
use Rattle.pp_terms.specs.tree.Tree.{empty_hash, pair, leaf_of, root_of, above, height, IsHeight}
use Rattle.pp_terms.specs.disk.Store.{pair_slot, pair_place, a_pair}
use Rattle.pp_terms.specs.disk.Disk.{DiskState, IsKnown, written}
use Rattle.pp_terms.proofs.Heights.{height_is, height_of_least}
use Rattle.pp_terms.proofs.Nodes.{node_empty}
use Rattle.pp_terms.proofs.Peaks.{doubled, above_is}
use Rattle.pp_tree.proofs.Clashes.{node_is}
use Rattle.pp_store.specs.Behind.{DoesPut}
use Rattle.pp_store.specs.Growing.{IsContent, IsPartial, IsTail, IsStoredTail, IsTailing, IsBuilt, chunks_in, digest_of, HasPair}
use Rattle.pp_store.proofs.Writings.{put_reads}
use Rattle.pp_store.proofs.Pieces.{has_written, piece_kept, chunk_kept, staged_more, pair_low, slot_is, count_range}
use Rattle.pp_store.proofs.Carrying.{layer_low}

pub tail_first : (count : ℕ) → IsTail count 0 count 1
tail_first count = record {
  step_is = refl;
  at = refl;
  least = λ l lt. absurd (omega arith);
  inside = omega arith;
  most = omega arith;
}

pub tail_up : (count k offset step : ℕ) → IsTail count k offset step → step < count → count ≤ 2 ^ 20 → IsTail count (k + 1) (offset / 2) (step * 2)
tail_up count k offset step is low few =
    let more : k + 1 ≡ suc k = omega arith in
    rw more (record {
      step_is = omega (arith, is.step_is, doubled k);
      at = ap (λ (o : ℕ). o / 2) is.at;
      least = λ l lt. ⊎_elim (λ below. is.least l below) (λ from. let e : l ≡ k = omega arith in subst (λ (m : ℕ). 2 ^ m < count) (sym e) (subst (λ (s : ℕ). s < count) is.step_is low)) (cases_lt l k);
      inside = let half : offset / 2 * 2 ≤ offset = omega arith in let le = mul-le-mul_left step half in omega (arith, le, is.inside);
      most = ⊎_elim
          (λ small. let up : 2 ^ suc k ≤ 2 ^ 20 = pow_mono small in omega (arith, is.step_is, doubled k))
          (λ high. absurd (let up : 2 ^ 20 ≤ 2 ^ k = pow_mono high in omega (arith, is.step_is)))
          (cases_lt k 20);
    })

-- where the pair of the last node of a layer stands
pub tail_slot : (count k offset step : ℕ) → IsTail count k offset step → (offset / 2 * 2 + 1) * step - 1 ≡ pair_slot k (offset / 2)
tail_slot count k offset step is =
    let e : (offset / 2 * 2 + 1) * step ≡ 2 ^ k * (2 * (offset / 2) + 1) = ap (λ (s : ℕ). (offset / 2 * 2 + 1) * s) is.step_is ∙ omega arith in
    omega (arith, slot_is k (offset / 2))

-- the bounds that the code needs
pub tail_low : (count k offset step : ℕ) → IsTail count k offset step → count ≤ 2 ^ 20
    → (k ≤ 20) × (0 < (offset / 2 * 2 + 1) * step) × ((offset / 2 * 2 + 1) * step ≤ 2 ^ 21)
tail_low count k offset step is few =
    let some : 0 < 2 ^ k = pow_pos k in
    let le : (offset / 2 * 2 + 1) * step ≤ (offset + 1) * step = (let h : offset / 2 * 2 + 1 ≤ offset + 1 = omega arith in grind arith) in
    (layer_low k step is.step_is is.most, (let one : 0 < step = omega (arith, is.step_is) in grind arith), omega (arith, is.inside, is.most, le))

-- of a layer's nodes that cover a chunk all are full but the last one
full_or_last : (count l j : ℕ) → j * 2 ^ suc l < count → (j < above (suc l) count) ⊎ (j ≡ above (suc l) count)
full_or_last count l j lt =
    let at : above (suc l) count ≡ count / 2 ^ suc l = above_is (suc l) count in
    let some : 0 < 2 ^ suc l = pow_pos (suc l) in
    let le : j ≤ count / 2 ^ suc l = grind arith in
    ⊎_elim (λ low. inl low) (λ high. inr (omega arith)) (cases_lt j (above (suc l) count))

-- The reads alone, first.
module _ (chunk : ℕ) (content : List ℕ) (count : ℕ) (fits : IsContent chunk content) (all : count ≡ chunks_in chunk content) where
  stored_put : (k offset step : ℕ) (reads : List ℕ) → IsTail count k offset step → step < count → offset / 2 * 2 ^ suc k < count
      → IsStoredTail chunk content count k reads
      → IsStoredTail chunk content count (suc k) (written reads (pair_place chunk k (offset / 2)) (pair (leaf_of content chunk) (chunks_in chunk content) k (offset / 2)))
  stored_put k offset step reads at short covers before =
      let n = chunks_in chunk content in
      let leaf = leaf_of content chunk in
      let range = count_range chunk content fits in
      let tall = height_is n range.0 range.1 in
      let under : offset / 2 * 2 ^ suc k < n = subst (λ (x : ℕ). offset / 2 * 2 ^ suc k < x) all covers in
      let inner : k < height n = ⊎_elim (λ low. low) (λ high. absurd (let up : 2 ^ height n ≤ 2 ^ k = pow_mono high in omega (arith, tall.covers, at.step_is, all))) (cases_lt k (height n)) in
      let here = a_pair k (offset / 2) inner under in
      let half : above (suc k) count ≡ offset / 2 = ap (λ (o : ℕ). o / 2) (sym at.at) in
      let full : (l j : ℕ) → j < above (suc l) count → HasPair chunk content reads l j → HasPair chunk content (written reads (pair_place chunk k (offset / 2)) (pair leaf n k (offset / 2))) l j =
      (λ l j less has. let is = pair_low chunk content fits l j count (omega (arith, all)) less in piece_kept chunk content fits reads _ _ _ _ (a_pair l j is.0 is.1) here has) in
      record {
        staged = staged_more chunk content fits reads _ _ here before.staged;
        chunks = λ i lt. chunk_kept chunk content fits reads i _ _ (omega (arith, all)) here (before.chunks i lt);
        low = λ l j lt less. ⊎_elim
            (λ below.
            let inner' : l < height n = omega arith in
            let under' : j * 2 ^ suc l < n = subst (λ (x : ℕ). j * 2 ^ suc l < x) all less in
            piece_kept chunk content fits reads _ _ _ _ (a_pair l j inner' under') here (before.low l j below less))
            (λ from. let e : l ≡ k = omega arith in
            ⊎_elim
            (λ old. full l j old (before.high l j (omega arith) old))
            (λ last'.
            let f : j ≡ offset / 2 = last' ∙ ap (λ (m : ℕ). above (suc m) count) e ∙ half in
            subst (λ (m : ℕ). HasPair chunk content (written reads (pair_place chunk k (offset / 2)) (pair leaf n k (offset / 2))) m j) (sym e)
            (subst (λ (i : ℕ). HasPair chunk content (written reads (pair_place chunk k (offset / 2)) (pair leaf n k (offset / 2))) k i) (sym f)
            (has_written reads (pair_place chunk k (offset / 2)) (pair leaf n k (offset / 2)))))
            (full_or_last count l j less))
            (cases_lt l k);
        high = λ l j from less. full l j less (before.high l j (omega arith) less);
      }

  stored_none : (k offset : ℕ) (reads : List ℕ) → offset ≡ above k count → offset / 2 * 2 ^ suc k ≡ count
      → IsStoredTail chunk content count k reads → IsStoredTail chunk content count (suc k) reads
  stored_none k offset reads at whole before =
      let half : above (suc k) count ≡ offset / 2 = ap (λ (o : ℕ). o / 2) (sym at) in
      record {
        staged = before.staged;
        chunks = before.chunks;
        low = λ l j lt less. ⊎_elim
            (λ below. before.low l j below less)
            (λ from. let same : l ≡ k = omega arith in
            ⊎_elim
            (λ old. before.high l j (omega arith) old)
            (λ last.
            let f' : j ≡ offset / 2 = last ∙ ap (λ (m : ℕ). above (suc m) count) same ∙ half in
            let at' : j * 2 ^ suc l ≡ offset / 2 * 2 ^ suc k = ap (λ (i : ℕ). i * 2 ^ suc l) f' ∙ ap (λ (m : ℕ). offset / 2 * 2 ^ suc m) same in
            absurd (omega arith))
            (full_or_last count l j less))
            (cases_lt l k);
        high = λ l j from. before.high l j (omega arith);
      }

module _ (chunk : ℕ) (content : List ℕ) (count : ℕ) where
  pub tail_start : (peaks : List (List ℕ)) (digest : List ℕ) (disk : DiskState) → digest ≡ empty_hash → count ≡ chunks_in chunk content → IsPartial chunk content count peaks disk
      → IsTailing chunk content count 0 count peaks digest disk
  tail_start peaks digest disk digest_is all part = record {
    fits = part.fits;
    all = all;
    peak = λ l from odd. part.peak l odd;
    is = digest_is ∙ sym (node_empty (leaf_of content chunk) (chunks_in chunk content) 0 count (omega (arith, all)));
    stored = λ known. let so_far = part.stored known in record {
      staged = so_far.staged;
      chunks = so_far.chunks;
      low = λ l j lt less. absurd (omega arith);
      high = λ l j from less. so_far.pairs l j less;
    };
  }

  -- the pair of the layer's last node above was written
  tail_put : {T E : Type 0} (old new : DiskState) (x : T) (k offset step place : ℕ) (peaks : List (List ℕ)) (both digest last : List ℕ)
      → DoesPut {E = E} old place both (Ok x) new → place ≡ pair_place chunk k (offset / 2) → IsTail count k offset step → step < count
      → both ≡ pair (leaf_of content chunk) (chunks_in chunk content) k (offset / 2) → offset / 2 * 2 ^ suc k < count → digest ≡ sha256 both
      → IsTailing chunk content count k offset peaks last old
      → IsTailing chunk content count (k + 1) (offset / 2) peaks digest new
  tail_put old new x k offset step place peaks both digest last puts place_is at short both_is covers digest_is before =
      let more : k + 1 ≡ suc k = omega arith in
      let under : offset / 2 * 2 ^ suc k < chunks_in chunk content = subst (λ (y : ℕ). offset / 2 * 2 ^ suc k < y) before.all covers in
      rw more (record {
        fits = before.fits;
        all = before.all;
        peak = λ l from. before.peak l (omega arith);
        is = digest_is ∙ ap sha256 both_is ∙ sym (node_is (leaf_of content chunk) (chunks_in chunk content) k (offset / 2) under);
        stored = λ known.
            let reads = put_reads old new place both x puts known in
            subst (IsStoredTail chunk content count (suc k)) (sym (reads.1 ∙ (λ i. written old.history.reads (place_is i) (both_is i))))
            (stored_put chunk content count before.fits before.all k offset step old.history.reads at short covers (before.stored reads.0));
      })

  -- the last full node is a left child
  pub tail_odd : {T E : Type 0} (old new : DiskState) (x : T) (k offset step place : ℕ) (peaks : List (List ℕ)) (left right digest : List ℕ)
      → DoesPut {E = E} old place (left ++ right) (Ok x) new → place ≡ pair_place chunk k (offset / 2) → IsTail count k offset step → step < count → offset % 2 ≡ 1
      → left ≡ get_or peaks k [] → digest ≡ sha256 (left ++ right)
      → IsTailing chunk content count k offset peaks right old
      → IsTailing chunk content count (k + 1) (offset / 2) peaks digest new
  tail_odd old new x k offset step place peaks left right digest puts place_is at short odd left_is digest_is before =
      let leaf = leaf_of content chunk in
      let n = chunks_in chunk content in
      let twice : 2 * (offset / 2) ≡ offset - 1 = omega arith in
      let next : 2 * (offset / 2) + 1 ≡ offset = omega arith in
      let left_node : left ≡ digest_of chunk content k (2 * (offset / 2)) = left_is ∙ before.peak k (omega arith) (ap (λ (o : ℕ). o % 2) (sym at.at) ∙ odd) ∙ ap (λ (o : ℕ). digest_of chunk content k (o - 1)) (sym at.at) ∙ ap (λ (o : ℕ). digest_of chunk content k o) (sym twice) in
      let right_node : right ≡ digest_of chunk content k (2 * (offset / 2) + 1) = before.is ∙ ap (λ (o : ℕ). digest_of chunk content k o) (sym next) in
      let both : left ++ right ≡ pair leaf n k (offset / 2) = ap (λ (y : List ℕ). y ++ right) left_node ∙ ap (λ (y : List ℕ). digest_of chunk content k (2 * (offset / 2)) ++ y) right_node in
      let some : 0 < 2 ^ k = pow_pos k in
      let e : offset / 2 * 2 ^ suc k ≡ offset / 2 * (2 ^ k * 2) = ap (λ (p : ℕ). offset / 2 * p) (doubled k) in
      let f : offset * step ≡ (2 * (offset / 2) + 1) * 2 ^ k = ap (λ (s : ℕ). offset * s) at.step_is ∙ ap (λ (o : ℕ). o * 2 ^ k) (sym next) in
      tail_put old new x k offset step place peaks (left ++ right) digest right puts place_is at short both (omega (arith, at.inside)) digest_is before

  -- or there is none, and the layer's node behind the full ones covers a chunk
  pub tail_even : {T E : Type 0} (old new : DiskState) (x : T) (k offset step place : ℕ) (peaks : List (List ℕ)) (left right digest : List ℕ)
      → DoesPut {E = E} old place (left ++ right) (Ok x) new → place ≡ pair_place chunk k (offset / 2) → IsTail count k offset step → step < count → (offset % 2 ≡ 1 → ⊥) → offset * step < count
      → right ≡ empty_hash → digest ≡ sha256 (left ++ right)
      → IsTailing chunk content count k offset peaks left old
      → IsTailing chunk content count (k + 1) (offset / 2) peaks digest new
  tail_even old new x k offset step place peaks left right digest puts place_is at short even covers right_is digest_is before =
      let leaf = leaf_of content chunk in
      let n = chunks_in chunk content in
      let twice : 2 * (offset / 2) ≡ offset = omega arith in
      let some : 0 < 2 ^ k = pow_pos k in
      let whole : offset ≡ count / 2 ^ k = at.at ∙ above_is k count in
      let product : offset * 2 ^ k ≡ 2 ^ k * (count / 2 ^ k) = ap (λ (o : ℕ). o * 2 ^ k) whole ∙ omega arith in
      let past : count ≤ (offset + 1) * 2 ^ k = omega arith in
      let past' : n ≤ (2 * (offset / 2) + 1) * 2 ^ k = subst (λ (y : ℕ). y ≤ (2 * (offset / 2) + 1) * 2 ^ k) before.all (subst (λ (o : ℕ). count ≤ (o + 1) * 2 ^ k) (sym twice) past) in
      let left_node : left ≡ digest_of chunk content k (2 * (offset / 2)) = before.is ∙ ap (λ (o : ℕ). digest_of chunk content k o) (sym twice) in
      let right_node : right ≡ digest_of chunk content k (2 * (offset / 2) + 1) = right_is ∙ sym (node_empty leaf n k (2 * (offset / 2) + 1) past') in
      let both : left ++ right ≡ pair leaf n k (offset / 2) = ap (λ (y : List ℕ). y ++ right) left_node ∙ ap (λ (y : List ℕ). digest_of chunk content k (2 * (offset / 2)) ++ y) right_node in
      let e : offset / 2 * 2 ^ suc k ≡ offset / 2 * (2 ^ k * 2) = ap (λ (p : ℕ). offset / 2 * p) (doubled k) in
      let f : offset * step ≡ 2 * (offset / 2) * 2 ^ k = ap (λ (s : ℕ). offset * s) at.step_is ∙ ap (λ (o : ℕ). o * 2 ^ k) (sym twice) in
      tail_put old new x k offset step place peaks (left ++ right) digest left puts place_is at short both (omega arith) digest_is before

  -- or the full ones are all
  pub tail_none : (k offset step : ℕ) (peaks : List (List ℕ)) (digest : List ℕ) (disk : DiskState) → IsTail count k offset step → (offset % 2 ≡ 1 → ⊥) → count ≤ offset * step
      → IsTailing chunk content count k offset peaks digest disk → IsTailing chunk content count (k + 1) (offset / 2) peaks digest disk
  tail_none k offset step peaks digest disk at even all before =
      let leaf = leaf_of content chunk in
      let n = chunks_in chunk content in
      let more : k + 1 ≡ suc k = omega arith in
      let twice : 2 * (offset / 2) ≡ offset = omega arith in
      let e : offset / 2 * 2 ^ suc k ≡ offset / 2 * (2 ^ k * 2) = ap (λ (p : ℕ). offset / 2 * p) (doubled k) in
      let f : offset * step ≡ 2 * (offset / 2) * 2 ^ k = ap (λ (s : ℕ). offset * s) at.step_is ∙ ap (λ (o : ℕ). o * 2 ^ k) (sym twice) in
      let g : offset * step ≡ offset * 2 ^ k = ap (λ (s : ℕ). offset * s) at.step_is in
      let none : digest ≡ empty_hash = before.is ∙ node_empty leaf n k offset (omega (arith, before.all)) in
      let whole : offset / 2 * 2 ^ suc k ≡ count = omega (arith, at.inside) in
      rw more (record {
        fits = before.fits;
        all = before.all;
        peak = λ l from. before.peak l (omega arith);
        is = none ∙ sym (node_empty leaf n (suc k) (offset / 2) (omega (arith, before.all)));
        stored = λ known. stored_none chunk content count before.fits before.all k offset disk.history.reads at.at whole (before.stored known);
      })

  -- at the root
  tall : (k offset step : ℕ) → IsTail count k offset step → count ≤ step → count ≡ chunks_in chunk content → height (chunks_in chunk content) ≡ k
  tall k offset step at over all =
      let n = chunks_in chunk content in
      let least : IsHeight n k = record {
        covers = omega (arith, over, at.step_is, all);
        least = λ l lt. subst (λ (x : ℕ). 2 ^ l < x) all (at.least l lt);
      } in
      height_of_least n k least (layer_low k step at.step_is at.most)

  pub tail_built : (k offset step : ℕ) (peaks : List (List ℕ)) (digest : List ℕ) (disk : DiskState) → IsTail count k offset step → count ≤ step
      → IsTailing chunk content count k offset peaks digest disk → IsKnown disk → IsBuilt chunk content disk.history.reads
  tail_built k offset step peaks digest disk at over before known =
      let high = tall k offset step at over before.all in
      let stored = before.stored known in
      record {
        fits = before.fits;
        staged = stored.staged;
        chunks = λ i lt. stored.chunks i (omega (arith, before.all, lt));
        pairs = λ l j inner under. stored.low l j (omega (arith, high, inner)) (subst (λ (x : ℕ). j * 2 ^ suc l < x) (sym before.all) under);
      }

  pub tail_root : (k offset step : ℕ) (peaks : List (List ℕ)) (digest root : List ℕ) (disk : DiskState) → IsTail count k offset step → count ≤ step
      → ((offset ≡ 1) × (root ≡ get_or peaks k [])) ⊎ ((offset ≡ 1 → ⊥) × (root ≡ digest))
      → IsTailing chunk content count k offset peaks digest disk → root ≡ root_of content chunk
  tail_root k offset step peaks digest root disk at over root_is before =
      let high = tall k offset step at over before.all in
      let at_root : digest_of chunk content k 0 ≡ root_of content chunk = ap (λ (m : ℕ). digest_of chunk content m 0) (sym high) in
      ⊎_elim
      (λ (one, is). is ∙ before.peak k (omega arith) (ap (λ (o : ℕ). o % 2) (sym at.at ∙ one)) ∙ ap (λ (o : ℕ). digest_of chunk content k (o - 1)) (sym at.at ∙ one) ∙ at_root)
      (λ (other, is).
      let some : 0 < step = (let p = pow_pos k in omega (arith, at.step_is)) in
      let zero_at : offset ≡ 0 = grind (arith, at.inside) in
      is ∙ before.is ∙ ap (λ (o : ℕ). digest_of chunk content k o) zero_at ∙ at_root)
      root_is
