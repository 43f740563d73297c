-- Which chunks are wanted.
use Rattle.std.specs.Prelude.{◌≡◌, ℕ, nat_le, nat_lt, Bool, true, false, not, ◌&&◌, if◌then◌else◌, List, Option, length, slice_index_or, MatchOption}
use Rattle.pp_avail.specs.declared.ranker.Rank.{Rank}
use Rattle.pp_avail.specs.Offers.{Offers, has}
use Rattle.pp_avail.specs.Picks.{rank_in, Precedes}

-- Of each chunk whether the peer has it, committed or pending, and whether it was asked for on some channel; and the number below
-- which chunks are asked for.
pub record WantState : Type 0 where
  pub had : List Bool
  pub asked : List Bool
  pub limit : ℕ

-- chunk i is one of the content below the limit that the peer neither has nor asked for
abbrev pub is_wanted : WantState → ℕ → Bool
is_wanted s i =
    nat_lt i (length s.had) && nat_lt i s.limit && not (slice_index_or s.had i false) && not (slice_index_or s.asked i false)

-- the set is that of the wanted chunks
pub record AreWanted (s : WantState) (wanted : List Bool) : Type 0 where
  pub asked_size : length s.asked ≡ length s.had
  pub size : length wanted ≡ length s.had
  pub each : (i : ℕ) → slice_index_or wanted i false ≡ is_wanted s i

-- whether a chunk is wanted once those of a range are sorted out again, which lie below the limit or not
abbrev pub again : (had asked wanted : List Bool) (from to : ℕ) (is_below : Bool) → ℕ → Bool
again had asked wanted from to is_below i =
    if nat_le from i && nat_lt i to
    then is_below && not (slice_index_or had i false) && not (slice_index_or asked i false)
    else slice_index_or wanted i false

-- a wanted chunk that the seat offers
abbrev pub is_for : WantState → Offers → ℕ → ℕ → Bool
is_for s o seat i = is_wanted s i && has o seat i

-- What is asked of a seat next: the wanted chunk that it offers with the least rank and number; none where there is no such one.
abbrev pub IsNext : Rank → WantState → Offers → ℕ → Option ℕ → Type 0
IsNext kind s o seat result = MatchOption result ((j : ℕ) → is_for s o seat j ≡ false)
    (λ i. (is_for s o seat i ≡ true) × ((j : ℕ) → is_for s o seat j ≡ true → Precedes (rank_in kind o i) i (rank_in kind o j) j))
