-- The numbers of dialled peers, read one by one.
use Rattle.std.proofs.Common.{◌≡◌, ℕ, ◌+◌, ◌≤◌, List, ◌++◌, length, Result, Ok}
use Rattle.pp_world.specs.ScheduleFault.{ScheduleKind}
use Rattle.pp_world.specs.ScheduleRead.{◌>>=◌, peers_in}

-- these numbers, and then those that are read
abbrev pub behind_peers : List ℕ → Result (List ℕ) ScheduleKind → Result (List ℕ) ScheduleKind
behind_peers ps r = r >>= λ more. Ok (ps ++ more)

-- Of all words these numbers are read, and these words are left.
pub record AreDialled (all ws : List (List ℕ)) (ps : List ℕ) : Type 0 where
  pub read : peers_in all ≡ behind_peers ps (peers_in ws)
  pub few : length ps + length ws ≤ 15
