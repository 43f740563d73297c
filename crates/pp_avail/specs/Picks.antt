-- Which chunk is asked of a seat next.
use Rattle.std.specs.Prelude.{◌≡◌, ℕ, ◌<◌, ◌≤◌, Bool, true, false, ◌&&◌, List, Option, slice_index_or, MatchOption}
use Rattle.pp_avail.specs.declared.ranker.Rank.{Rank}
use Rattle.pp_avail.specs.Offers.{Offers, has, copies}
use Rattle.pp_avail.specs.Ranks.{rank_of}

-- a chunk that is wanted, and that the seat has
abbrev pub is_candidate : Offers → ℕ → List Bool → ℕ → Bool
is_candidate o seat wanted i = slice_index_or wanted i false && has o seat i

abbrev pub rank_in : Rank → Offers → ℕ → ℕ
rank_in kind o i = rank_of kind i (copies o i)

-- A chunk of that rank and number comes before another: its rank is less, or the same and its number no greater.
abbrev pub Precedes : ℕ → ℕ → ℕ → ℕ → Type 0
Precedes rank i other j = (rank ≤ other) × (rank ≡ other → i ≤ j)

-- The chunk is a candidate, and has the least rank and number of those candidates that are counted.
pub record IsLeast (kind : Rank) (o : Offers) (seat : ℕ) (wanted : List Bool) (Counts : ℕ → Type 0) (rank i : ℕ) : Type 0 where
  pub inside : i < o.chunks
  pub candidate : is_candidate o seat wanted i ≡ true
  pub ranked : rank ≡ rank_in kind o i
  pub least : (j : ℕ) → is_candidate o seat wanted j ≡ true → Counts j → Precedes rank i (rank_in kind o j) j

-- The chunk that is wanted, and that the seat has, with the least rank and number; none where there is no such chunk.
abbrev pub IsPick : Rank → Offers → ℕ → List Bool → Option ℕ → Type 0
IsPick kind o seat wanted result = MatchOption result ((j : ℕ) → is_candidate o seat wanted j ≡ false)
    (λ i. (i < o.chunks) × (is_candidate o seat wanted i ≡ true)
    × ((j : ℕ) → is_candidate o seat wanted j ≡ true → Precedes (rank_in kind o i) i (rank_in kind o j) j))
