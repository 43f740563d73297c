use Rattle.std.proofs.Common.{arith}
use Rattle.pp_lanes.proofs.LaneWords.{lane_lt}
use Rattle.pp_lanes.proofs.Rotations.{rotated_three}
use Rattle.pp_lanes.proofs.words.big_sigma0.Goals as goal

pub returns : goal.returns
returns c = λ j h.
    rw (c.rotate-3.ensures j h, c.xor-outer.ensures j h, c.rotate-2.ensures j h, c.xor.ensures j h, c.rotate.ensures j h)
    (rotated_three 32 _ 2 11 9 (omega arith) (lane_lt 4 c.args.x c.fits-x.0 c.fits-x.1 j h))
