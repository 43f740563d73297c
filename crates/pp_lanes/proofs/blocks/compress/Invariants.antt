use Rattle.std.proofs.Common.{ℕ, ◌*◌, ◌<◌}
use Rattle.sha2.specs.Sha256.{IsRoundsAt}
use Rattle.pp_lanes.specs.Lanes.{block_of, lane, window}
use Rattle.pp_lanes.proofs.blocks.compress.Given as goal

abbrev pub invariant-schedule : goal.invariant-schedule
invariant-schedule l = (j : ℕ) → j < 4
    → IsRoundsAt (block_of l.bytes l.size l.at j) (lane j l.state) (window j l.w) (lane j l.v) (16 * l.turn)
