use Rattle.std.proofs.Common.{ℕ, ◌/◌, ◌^◌, bit_xor, slice_index, ap, arith}
use Rattle.pp_lanes.proofs.LaneWords.{lane_lt}
use Rattle.pp_lanes.proofs.Rotations.{rotated_two}
use Rattle.pp_lanes.proofs.words.small_sigma0.Goals as goal

pub returns : goal.returns
returns c = λ j h.
    rw (c.xor.ensures j h, c.rotate-2.ensures j h, c.xor-outer.ensures j h, c.rotate.ensures j h, c.shift.ensures j h)
    (ap (λ (y : ℕ). bit_xor y (slice_index c.args.x j / 2 ^ 3)) (rotated_two 32 _ 7 11 (omega arith) (lane_lt 4 c.args.x c.fits-x.0 c.fits-x.1 j h)))
