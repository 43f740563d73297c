-- In which order chunks are asked for.
use Rattle.std.specs.Prelude.{◌≡◌, ℕ, ◌+◌, ◌*◌, ◌/◌, ◌^◌, ◌<◌, ◌≤◌, min}
use Rattle.pp_avail.specs.declared.ranker.Rank.{Rank}
use Rattle.pp_avail.specs.declared.ranker.Rank.TheVariants.{Sequential, Rarest, Blocks}

-- the rank of a chunk that so many seats have: the lesser comes first
abbrev pub rank_of : Rank → ℕ → ℕ → ℕ
rank_of Sequential i copies = 0
rank_of Rarest i copies = copies
rank_of Blocks i copies = i / 1024 * 64 + min copies 63

-- A rule may be asked for the rank of each chunk at each count of seats, and answers that of the kind.
abbrev pub Follows : Rank → (ℕ → ℕ → Type 0) → (ℕ → ℕ → ℕ → Type 0) → Type 0
Follows kind may gives = (i copies : ℕ) → i < 2 ^ 20 → copies ≤ 64
    → may i copies × ((rank : ℕ) → gives i copies rank → rank ≡ rank_of kind i copies)
