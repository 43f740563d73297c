-- What one lane holds of a list of vectors, each of which is the list of its lanes.
use Rattle.std.specs.Prelude.{ℕ, ◌+◌, ◌*◌, List, [], ◌∷◌, map, take, drop, slice_index, slice_index_or}

-- Lane j of vector k of x.
abbrev pub lane_at : List (List ℕ) → ℕ → ℕ → ℕ
lane_at x k j = slice_index (slice_index_or x k []) j

-- A hash value: lane j of each of eight vectors (FIPS 180-4, section 6.2).
abbrev pub lane : ℕ → List (List ℕ) → List ℕ
lane j x =
    lane_at x 0 j ∷ lane_at x 1 j ∷ lane_at x 2 j ∷ lane_at x 3 j ∷ lane_at x 4 j ∷ lane_at x 5 j ∷ lane_at x 6 j ∷ lane_at x 7 j ∷ []

-- The words of a schedule: lane j of each vector (FIPS 180-4, section 6.2.2).
abbrev pub window : ℕ → List (List ℕ) → List ℕ
window j w = map (λ v. slice_index v j) w

-- The block of lane j whose first lane's begins at byte `at` (FIPS 180-4, section 5.2.1).
abbrev pub block_of : List ℕ → ℕ → ℕ → ℕ → List ℕ
block_of bytes size at j = take 64 (drop (at + j * size) bytes)
