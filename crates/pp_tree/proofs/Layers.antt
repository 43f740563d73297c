-- The nodes of a layer that cover a chunk, and those of the layer above.
use Rattle.std.proofs.Common.{◌≡◌, ℕ, zero, suc, ◌+◌, ◌-◌, ◌*◌, ◌/◌, ◌^◌, ◌≤◌, ◌<◌, min, List, [], ◌∷◌, ◌++◌, length, take, drop, get_or, replicate, refl, sym, ◌∙◌, ap, subst, inl, inr, arith}
use Rattle.std.proofs.lemmas.Bool.{cases_lt}
use Rattle.std.proofs.lemmas.List.{get_or_past, length-drop, length-append, take_all}
use Rattle.std.proofs.Math.ListN.{get_or-append}
use Rattle.std.proofs.Math.Seq.{get_or-append_seam}
use Rattle.sha2.specs.Sha256.{sha256}
use Rattle.pp_terms.specs.tree.Content.{chunk_of}
use Rattle.pp_terms.specs.tree.Tree.{empty_hash, node, leaf_of}
use Rattle.pp_terms.proofs.Nodes.{node_empty}
use Rattle.pp_terms.proofs.Peaks.{doubled}
use Rattle.pp_tree.proofs.Clashes.{node_is, leaf_is}

-- the digests of the nodes of layer k that cover a chunk
pub record IsLayer (leaf : ℕ → List ℕ) (n k : ℕ) (digests : List (List ℕ)) : Type 0 where
  pub covers : (j : ℕ) → j < length digests → j * 2 ^ k < n
  pub covered : (j : ℕ) → j * 2 ^ k < n → j < length digests
  pub each : (j : ℕ) → j < length digests → get_or digests j [] ≡ node leaf n k j

pub layer_of_leaves : (leaf : ℕ → List ℕ) (n : ℕ) (digests : List (List ℕ)) → length digests ≡ n
    → ((i : ℕ) → i < length digests → get_or digests i [] ≡ leaf i) → IsLayer leaf n 0 digests
layer_of_leaves leaf n digests size is = record {
  covers = λ j lt. omega (arith, size);
  covered = λ j lt. omega (arith, size);
  each = λ j lt. (let within : j < n = omega (arith, size) in is j lt ∙ sym (leaf_is leaf n j within));
}

pub default_in : (digests : List (List ℕ)) (i : ℕ) (x y : List ℕ) → i < length digests → get_or digests i x ≡ get_or digests i y
default_in [] i x y lt = absurd (omega arith)
default_in (d ∷ ds) zero x y lt = refl
default_in (d ∷ ds) (suc i) x y lt = default_in ds i x y (omega arith)

pub layer_above : (leaf : ℕ → List ℕ) (n k k' : ℕ) (old new : List (List ℕ)) → k' ≡ suc k → IsLayer leaf n k old
    → length new ≡ (length old + 1) / 2
    → ((j : ℕ) → j < length new → get_or new j [] ≡ sha256 (get_or old (2 * j) [] ++ get_or old (2 * j + 1) empty_hash))
    → IsLayer leaf n k' new
layer_above leaf n k k' old new up is size each = subst (λ l. IsLayer leaf n l new) (sym up) (record {
  covers = λ j lt.
      let low : 2 * j < length old = omega (arith, size) in
      let cover = is.covers (2 * j) low in
      omega (arith, cover, double j);
  covered = λ j lt.
      let cover : 2 * j * 2 ^ k < n = omega (arith, lt, double j) in
      let low = is.covered (2 * j) cover in
      omega (arith, size, low);
  each = λ j lt.
      let low : 2 * j < length old = omega (arith, size) in
      let cover = is.covers (2 * j) low in
      let over : j * 2 ^ suc k < n = omega (arith, cover, double j) in
      each j lt ∙ ap (λ x. sha256 (x ++ get_or old (2 * j + 1) empty_hash)) (is.each (2 * j) low)
      ∙ ap (λ x. sha256 (node leaf n k (2 * j) ++ x)) (right_is j)
      ∙ sym (node_is leaf n k j over);
})
  where
    double : (j : ℕ) → j * 2 ^ suc k ≡ 2 * j * 2 ^ k
    double j = ap (λ p. j * p) (doubled k) ∙ omega arith

    right_is : (j : ℕ) → get_or old (2 * j + 1) empty_hash ≡ node leaf n k (2 * j + 1)
    right_is j = elim (cases_lt (2 * j + 1) (length old)) [
      | inl lt ↦ default_in old (2 * j + 1) empty_hash [] lt ∙ is.each (2 * j + 1) lt
      | inr ge ↦
          get_or_past old (2 * j + 1) empty_hash ge
          ∙ sym (node_empty leaf n k (2 * j + 1) (elim (cases_lt ((2 * j + 1) * 2 ^ k) n) [
            | inl covers ↦ (let inside = is.covered (2 * j + 1) covers in absurd (omega arith))
            | inr over ↦ over
          ]))
    ]

-- the first of them
pub layer_root : (leaf : ℕ → List ℕ) (n k : ℕ) (digests : List (List ℕ)) → 0 < n → IsLayer leaf n k digests
    → (0 < length digests) × (get_or digests 0 [] ≡ node leaf n k 0)
layer_root leaf n k digests some is =
    let within = is.covered 0 (omega arith) in (within, is.each 0 within)

-- 32 zero bytes
pub zeros_empty : replicate 32 0 ≡ empty_hash
unfolding empty_hash
zeros_empty = refl

-- the bytes of a chunk, as the code cuts them
pub chunk_cut : (content : List ℕ) (start end chunk i : ℕ) → start ≡ i * chunk → end ≡ min (length content) (start + chunk)
    → take (end - start) (drop start content) ≡ chunk_of content chunk i
chunk_cut content start end chunk i start_is end_is =
    let size = length-drop start content in
    elim (cases_lt (length content) (start + chunk)) [
      | inr fits ↦
          let e : end - start ≡ chunk = omega arith in
          ap (λ n. take n (drop start content)) e ∙ ap (λ n. take chunk (drop n content)) start_is
      | inl short ↦
          let low : length (drop start content) ≤ end - start = omega (arith, size) in
          let low' : length (drop start content) ≤ chunk = omega (arith, size) in
          take_all (end - start) (drop start content) low ∙ sym (take_all chunk (drop start content) low')
          ∙ ap (λ n. take chunk (drop n content)) start_is
    ]

-- one leaf more
pub leaves_more : (content : List ℕ) (start end chunk : ℕ) (digests digests' : List (List ℕ)) (digest : List ℕ)
    → start ≡ length digests * chunk → end ≡ min (length content) (start + chunk)
    → digest ≡ sha256 (take (end - start) (drop start content)) → digests' ≡ digests ++ digest ∷ []
    → ((i : ℕ) → i < length digests → get_or digests i [] ≡ leaf_of content chunk i)
    → (length digests' ≡ length digests + 1)
    × ((i : ℕ) → i < length digests' → get_or digests' i [] ≡ leaf_of content chunk i)
leaves_more content start end chunk digests digests' digest start_is end_is digest_is more is =
    let size : length digests' ≡ length digests + 1 = ap (λ xs. length xs) more ∙ length-append digests (digest ∷ []) in
    let here : digest ≡ leaf_of content chunk (length digests) =
    digest_is ∙ ap (λ xs. sha256 xs) (chunk_cut content start end chunk (length digests) start_is end_is) in (
      size,
      λ i lt. ap (λ xs. get_or xs i []) more ∙ elim (cases_lt i (length digests)) [
        | inl low ↦ get_or-append digests (digest ∷ []) [] i low ∙ is i low
        | inr high ↦
            let e : i ≡ length digests = omega (arith, size) in
            ap (λ k. get_or (digests ++ digest ∷ []) k []) e ∙ get_or-append_seam digests digest [] [] ∙ here
            ∙ ap (λ k. leaf_of content chunk k) (sym e)
      ],
    )
