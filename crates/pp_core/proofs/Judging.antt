-- Bytes that claims prove are judged to be the chunk, where the book contradicts nothing that the climbs meet.
use Rattle.std.proofs.Common.{◌≡◌, inl, inr, ℕ, zero, suc, ◌+◌, ◌-◌, ◌*◌, ◌^◌, ◌<◌, cond, Some, List, [], length, refl, sym, ◌∙◌, ap, subst, arith, nat_lt}
use Rattle.std.specs.Prelude.{unwrap_or, option_and_then}
use Rattle.std.specs.Option.{option_or}
use Rattle.std.proofs.lemmas.Bool.{cases_Bool}
use Rattle.std.proofs.lemmas.List.{length-replicate}
use Rattle.std.proofs.lemmas.Option.{same_Some}
use Rattle.pp_terms.specs.tree.Tree.{above, empty_hash}
use Rattle.pp_terms.specs.tree.Book.{LookUp, AreDigests, IsRooted}
use Rattle.pp_terms.specs.tree.Proves.{climbed, filled, last_layer, peak_offset, Proves}
use Rattle.pp_terms.specs.tree.Claims.{met, Contradicts}
use Rattle.pp_terms.specs.format.Descriptor.{Descriptor, chunks_of, height_of, IsDescriptor}
use Rattle.pp_tree.specs.Book.{entry}
use Rattle.pp_paths.specs.Climb.{or_else, path}
use Rattle.pp_paths.specs.Settle.{last_digest}
use Rattle.pp_paths.proofs.Growth.{option_cases, path_adds_nothing}
use Rattle.pp_paths.proofs.MetNodes.{no_other, proven_is_settled, proven_fits}
use Rattle.pp_paths.proofs.ProvenChunks.{Counted, counted, last_there}
use Rattle.pp_store.specs.Answer.{peaked}
use Rattle.pp_holding.specs.Holding.{HoldingState}
use Rattle.pp_core.specs.Storing.{IsJudgedFit}
use Rattle.pp_core.proofs.Rooting.{rooted_same, path_rooted}

-- what is filled in has the length of a digest
filled_digests : (n : ℕ) (claims : LookUp) → AreDigests claims → AreDigests (filled n claims)
unfolding empty_hash
filled_digests n claims digests k j digest at = elim (cases_Bool (nat_lt (j * 2 ^ k) n)) [
  | inl t ↦ digests k j digest (sym (ap (λ b. cond b (claims k j) (Some empty_hash)) t) ∙ at)
  | inr f ↦ ap length (same_Some digest empty_hash (sym at ∙ ap (λ b. cond b (claims k j) (Some empty_hash)) f)) ∙ length-replicate {A = ℕ} 32 0
]

-- the book with the settled peaks is rooted
module _ (d : Descriptor) (book claims : LookUp) (i : ℕ) (bytes : List ℕ) (proof : Proves d claims i bytes) (is : IsDescriptor d)
    (rooted : IsRooted d book)
    (none : Contradicts book (met d claims i bytes) → ⊥) where
  last : ℕ
  last = last_layer (chunks_of d)

  off : ℕ
  off = peak_offset (last_layer (chunks_of d)) (chunks_of d)

  pub peaked_rooted : IsRooted d (peaked d book claims)
  unfolding last off
  peaked_rooted = elim (option_cases (book last off)) [
    | inr (kept, at) ↦ rooted_same d book (peaked d book claims)
        (λ k j. path_adds_nothing d book (filled (chunks_of d) claims) (height_of d - last) last off
        (last_digest (chunks_of d) book claims) kept k j rooted top at)
        rooted
    | inl lacks ↦
        let (x, there) = last_there d claims count proof.peaks_known in
        let digest : last_digest (chunks_of d) book claims ≡ x =
        ap (λ o. unwrap_or (option_or o (claims last off)) []) lacks ∙ ap (λ o. unwrap_or o []) there in
        let rise : climbed (filled (chunks_of d) claims) (height_of d - last) last off x ≡ Some d.root =
        sym (ap (λ o. option_and_then (climbed (filled (chunks_of d) claims) (height_of d - last) last off) o) there) ∙ proof.to_root in
        subst (λ (y : List ℕ). IsRooted d (or_else book (path (filled (chunks_of d) claims) (height_of d - last) last off y))) (sym digest)
        (path_rooted d book (filled (chunks_of d) claims) (height_of d - last) last off x rooted
        (filled_digests (chunks_of d) claims proof.digests) (proof.digests last off x there) top count.halved rise
        ((no_other d book claims i bytes proof count none).to_root x there))
  ]
    where
      count : Counted d
      count = counted d is

      top : last_layer (chunks_of d) + (height_of d - last_layer (chunks_of d)) ≡ height_of d
      top = (let within = count.within in omega arith)

-- ---- the whole

-- by claims that prove them, and a rooted book that contradicts nothing, bytes are judged to be the chunk
pub proven_judged : (s : HoldingState) (claims : LookUp) (i : ℕ) (bytes : List ℕ) → Proves s.store.descriptor claims i bytes
    → IsDescriptor s.store.descriptor → IsRooted s.store.descriptor (entry s.book)
    → (Contradicts (entry s.book) (met s.store.descriptor claims i bytes) → ⊥) → i < chunks_of s.store.descriptor → IsJudgedFit s claims i bytes
proven_judged s claims i bytes proof is rooted none within =
    let known = proven_is_settled s.store.descriptor (entry s.book) claims i bytes proof is rooted none in
    record {
      content = within;
      peaks = known;
      verdict = proven_fits s.store.descriptor (entry s.book) (peaked s.store.descriptor (entry s.book) claims) claims i bytes proof is rooted none
          (λ k j. refl) (peaked_rooted s.store.descriptor (entry s.book) claims i bytes proof is rooted none);
    }

-- halving keeps the order
less_above : (m a b : ℕ) → above m a < above m b → a < b
less_above zero a b lt = lt
less_above (suc m) a b lt = less_above m a b (omega arith)

-- what claims prove lies in the content
pub proven_within : (d : Descriptor) (claims : LookUp) (i : ℕ) (bytes : List ℕ) → Proves d claims i bytes → i < chunks_of d
proven_within d claims i bytes proof =
    let odd = proof.has_peak in
    let below = proof.below_it in
    less_above proof.top i (chunks_of d) (omega arith)
