-- A channel as its two ends see it.
use Rattle.std.specs.Prelude.{◌≡◌, not}
use Rattle.pp_traffic.specs.Life.{Life}

-- These are one channel.
pub record AreEnds (one other : Life) : Type 0 where
  pub there : one.local ≡ other.remote
  pub here : one.remote ≡ other.local
  pub dialled : one.is_dialled ≡ not other.is_dialled
