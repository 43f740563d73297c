use Rattle.std.proofs.Common.{refl}
use Rattle.pp_lanes.proofs.LaneBlocks.{below_four}
use Rattle.pp_lanes.proofs.digests.initial_state.Goals as goal

pub returns : goal.returns
returns c = below_four _ refl refl refl refl
