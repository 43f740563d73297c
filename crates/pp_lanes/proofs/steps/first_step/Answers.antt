use Rattle.std.proofs.Common.{arith, refl, sym}
use Rattle.sha2.proofs.Schedule256.{rounds_first}
use Rattle.pp_lanes.specs.Lanes.{lane, window}
use Rattle.pp_lanes.proofs.LaneBlocks.{window_at}
use Rattle.pp_lanes.proofs.steps.first_step.Goals as goal

pub returns : goal.returns
returns c = λ j b h lt held is.
    rounds_first b h (window j c.args.w.now) (lane j c.args.v) c.args.t _ _ _ c.requires held is refl (sym (window_at j c.args.w.now c.args.t (omega arith)))
    (c.round.ensures j lt)
