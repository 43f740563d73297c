-- The windows and blocks of the lanes.
use Rattle.std.proofs.Common.{◌≡◌, ◌≢◌, ℕ, ◌+◌, ◌<◌, ◌≤◌, List, [], length, take, drop, slice_index, slice_index_or, slice_set, refl, ◌∙◌, inl, inr, arith, below_none, below_more}
use Rattle.std.proofs.lemmas.Bool.{cases_lt}
use Rattle.std.proofs.lemmas.List.{get_or-map, get_or-set_other, get_or-set_same, length-map, map-set}
use Rattle.std.proofs.lemmas.Simd.{get_or-chunk}
use Rattle.sha2.specs.Sha256.{word_at}
use Rattle.pp_lanes.specs.Lanes.{lane, lane_at, window}

pub window_at : (j : ℕ) (w : List (List ℕ)) (k : ℕ) → k < length w → slice_index (window j w) k ≡ slice_index (slice_index_or w k []) j
window_at j w k h = get_or-map (λ v. slice_index v j) w k [] 0 h

pub window_set : (j : ℕ) (w : List (List ℕ)) (k : ℕ) (v : List ℕ) → window j (slice_set w k v) ≡ slice_set (window j w) k (slice_index v j)
window_set j w k v = map-set (λ v. slice_index v j) w k v

-- A word of a block.
pub word_of_block : (bytes : List ℕ) (o i : ℕ) → i + 4 ≤ 64 → word_at (take 64 (drop o bytes)) i ≡ word_at bytes (o + i)
word_of_block bytes o i h =
    let one : o + (i + 1) ≡ o + i + 1 = omega arith in
    let two : o + (i + 2) ≡ o + i + 2 = omega arith in
    let three : o + (i + 3) ≡ o + i + 3 = omega arith in
    rw (
      get_or-chunk o 64 bytes i 0 (omega arith),
      get_or-chunk o 64 bytes (i + 1) 0 (omega arith),
      get_or-chunk o 64 bytes (i + 2) 0 (omega arith),
      get_or-chunk o 64 bytes (i + 3) 0 (omega arith),
      one,
      two,
      three,
    )
    refl

-- One more word of the window.
pub window_more : (j : ℕ) (w : List (List ℕ)) (v : List ℕ) (i : ℕ) (f : ℕ → ℕ) → length w ≡ 16 → i < 16
    → ((k : ℕ) → k < i → slice_index (window j w) k ≡ f k) → slice_index v j ≡ f i → (k : ℕ) → k < i + 1 → slice_index (window j (slice_set w i v)) k ≡ f k
window_more j w v i f lw li held is k h =
    let long : length (window j w) ≡ 16 = length-map w (λ v. slice_index v j) ∙ lw in
    rw (window_set j w i v)
    (elim (cases_lt k i) [
      | inl lt ↦
          let other : k ≢ i = omega arith in
          get_or-set_other (window j w) i k (slice_index v j) 0 other ∙ held k lt
      | inr ge ↦
          let same : k ≡ i = omega arith in
          rw same (get_or-set_same (window j w) i (slice_index v j) 0 (omega arith) ∙ is)
    ])

-- What holds of each of four lanes.
pub below_four : (P : ℕ → Type 0) → P 0 → P 1 → P 2 → P 3 → (j : ℕ) → j < 4 → P j
below_four P p0 p1 p2 p3 = below_more P 3 (below_more P 2 (below_more P 1 (below_more P 0 (below_none P) p0) p1) p2) p3

-- A word of a hash value.
pub lane_word : (j : ℕ) (x : List (List ℕ)) (i : ℕ) → i < 8 → slice_index (lane j x) i ≡ lane_at x i j
lane_word j x =
    let P : ℕ → Type 0 = λ i. slice_index (lane j x) i ≡ lane_at x i j in
    let four : (i : ℕ) → i < 4 → slice_index (lane j x) i ≡ lane_at x i j = below_four P refl refl refl refl in
    below_more P 7 (below_more P 6 (below_more P 5 (below_more P 4 four refl) refl) refl) refl
