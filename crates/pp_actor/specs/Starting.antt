-- What a peer of a schedule is opened with.
use Rattle.std.specs.Prelude.{◌≡◌, ℕ, ◌+◌, ◌-◌, ◌^◌, min, Option, Some, None, List, [], ◌∷◌, ◌++◌, map, replicate}
use Rattle.std.specs.Int.{w32, to_be_bytes}
use Rattle.pp_avail.specs.declared.ranker.Rank.{Rank}
use Rattle.pp_avail.specs.declared.ranker.Rank.TheVariants as ranks
use Rattle.pp_outside.specs.Outside as outside
use Rattle.pp_world.specs.World.{address_of}
use Rattle.pp_replay.specs.declared.types.Order.{Order}
use Rattle.pp_replay.specs.declared.types.Order.TheVariants.{Sequential, Rarest}
use Rattle.pp_replay.specs.declared.types.Role.{Role}
use Rattle.pp_replay.specs.declared.types.Role.TheVariants.{Seeds, Fetches}
use Rattle.pp_stage.specs.declared.opening.Start.{Start}

-- The bytes from which the numbers of a peer's channels are drawn: its number, that of its life in four bytes, the
-- greatest place first, and zeros.
abbrev pub random_of : (peer life : ℕ) → List ℕ
random_of peer life = peer ∷ to_be_bytes w32 life ++ replicate 27 0

-- the number of a life behind so many others, counted from 1 in 32 bits
abbrev pub life_after : (lives : ℕ) → ℕ
life_after lives = min (lives + 1) (2 ^ 32 - 1)

-- the rule that goes with an order
abbrev pub rank_of : Order → Rank
rank_of Sequential = ranks.Sequential
rank_of Rarest = ranks.Rarest

abbrev pub asks_of : Role → Option Rank
asks_of Seeds = None
asks_of (Fetches order dialled) = Some (rank_of order)

abbrev pub dialled_by : Role → List ℕ
dialled_by Seeds = []
dialled_by (Fetches order dialled) = dialled.items

-- The order and the addresses are those of the role.
pub record IsSetFor (role : Role) (start : Start) : Type 0 where
  pub asks : start.asks ≡ asks_of role
  pub dialled : map outside.address_of start.dialled.items ≡ map address_of (dialled_by role)
