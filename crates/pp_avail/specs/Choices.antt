-- The best choice so far.
use Rattle.std.specs.Prelude.{◌≡◌, ℕ, Bool, true, List, Option, MatchOption}
use Rattle.pp_avail.specs.declared.ranker.Rank.{Rank}
use Rattle.pp_avail.specs.declared.choice.Choice.{Choice}
use Rattle.pp_avail.specs.Offers.{Offers}
use Rattle.pp_avail.specs.Picks.{is_candidate, IsLeast, Precedes}

-- of the candidates that are counted
abbrev pub IsBest : Rank → Offers → ℕ → List Bool → (ℕ → Type 0) → Option Choice → Type 0
IsBest kind o seat wanted Counts best = MatchOption best ((j : ℕ) → is_candidate o seat wanted j ≡ true → Counts j → ⊥)
    (λ c. IsLeast kind o seat wanted Counts c.rank c.chunk)

abbrev pub ComesFirst : Choice → Choice → Type 0
ComesFirst a b = Precedes a.rank a.chunk b.rank b.chunk
