-- Leaf digests that come four at once.
use Rattle.std.proofs.Common.{◌≡◌, ℕ, ◌+◌, ◌*◌, ◌<◌, List, [], length, take, drop, sym, ◌∙◌, ap, arith, below_more}
use Rattle.std.specs.Prelude.{slice_index_or, slice_set}
use Rattle.std.proofs.lemmas.List.{drop-drop, get_or-set_same, get_or-set_other}
use Rattle.sha2.specs.Sha256.{sha256}
use Rattle.pp_terms.specs.tree.Content.{chunk_of}
use Rattle.pp_store.specs.Leaves.{HasLeaves}

-- a piece behind i chunks is a chunk
piece_behind : (content : List ℕ) (chunk i j start : ℕ) → start ≡ i * chunk → take chunk (drop (j * chunk) (drop start content)) ≡ chunk_of content chunk (i + j)
piece_behind content chunk i j start is =
    let at : start + j * chunk ≡ (i + j) * chunk = omega (arith, is) in
    ap (λ (xs : List ℕ). take chunk xs) (drop-drop (j * chunk) start content ∙ ap (λ (n : ℕ). drop n content) at)

-- What four digests of the pieces behind i chunks are, and where they were put.
pub record IsFour (content : List ℕ) (chunk i start : ℕ) (four old new : List (List ℕ)) : Type 0 where
  pub each : (j : ℕ) → j < 4 → slice_index_or four j [] ≡ sha256 (take chunk (drop (j * chunk) (drop start content)))
  pub first : slice_index_or new i [] ≡ slice_index_or four 0 []
  pub second : slice_index_or new (i + 1) [] ≡ slice_index_or four 1 []
  pub third : slice_index_or new (i + 2) [] ≡ slice_index_or four 2 []
  pub fourth : slice_index_or new (i + 3) [] ≡ slice_index_or four 3 []
  pub before : (k : ℕ) → k < i → slice_index_or new k [] ≡ slice_index_or old k []

pub four_more : (content : List ℕ) (chunk i start : ℕ) (four old new : List (List ℕ)) → start ≡ i * chunk → IsFour content chunk i start four old new → HasLeaves content chunk i old
    → HasLeaves content chunk (i + 4) new
four_more content chunk i start four old new is f leaves =
    λ k lt. all k (omega (arith, lt))
  where
    leaf_at : (j : ℕ) → j < 4 → slice_index_or four j [] ≡ sha256 (chunk_of content chunk (i + j))
    leaf_at j lt = f.each j lt ∙ ap (λ (xs : List ℕ). sha256 xs) (piece_behind content chunk i j start is)

    placed : (j k : ℕ) → j < 4 → k ≡ i + j → slice_index_or new (i + j) [] ≡ slice_index_or four j [] → slice_index_or new k [] ≡ sha256 (chunk_of content chunk k)
    placed j k lt at put =
        ap (λ (n : ℕ). slice_index_or new n []) at ∙ put ∙ leaf_at j lt ∙ ap (λ (n : ℕ). sha256 (chunk_of content chunk n)) (sym at)

    one : HasLeaves content chunk (i + 1) new
    one = below_more _ _ (λ k lt. f.before k lt ∙ leaves k lt) (placed 0 i (omega arith) (omega arith) (ap (λ (n : ℕ). slice_index_or new n []) (omega arith) ∙ f.first))

    two : HasLeaves content chunk (i + 1 + 1) new
    two = below_more _ _ one (placed 1 (i + 1) (omega arith) (omega arith) f.second)

    three : HasLeaves content chunk (i + 1 + 1 + 1) new
    three = below_more _ _ two (placed 2 (i + 1 + 1) (omega arith) (omega arith) f.third)

    all : HasLeaves content chunk (i + 1 + 1 + 1 + 1) new
    all = below_more _ _ three (placed 3 (i + 1 + 1 + 1) (omega arith) (omega arith) f.fourth)

-- one leaf more
pub leaf_more : (content : List ℕ) (chunk i : ℕ) (digests : List (List ℕ)) (digest : List ℕ) → i < length digests → digest ≡ sha256 (chunk_of content chunk i) → HasLeaves content chunk i digests
    → HasLeaves content chunk (i + 1) (slice_set digests i digest)
leaf_more content chunk i digests digest inside is leaves =
    below_more _ _ (λ k lt. get_or-set_other digests i k digest [] (omega (arith, lt)) ∙ leaves k lt) (get_or-set_same digests i digest [] inside ∙ is)
