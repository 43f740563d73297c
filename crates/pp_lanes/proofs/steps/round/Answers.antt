use Rattle.std.proofs.Common.{refl}
use Rattle.pp_lanes.proofs.LaneWords.{splat_lane}
use Rattle.pp_lanes.proofs.steps.round.Goals as goal

pub returns : goal.returns
returns c = λ j h.
    rw (
      c.add-4.ensures j h,
      c.add-5.ensures j h,
      c.add-temp1.ensures j h,
      c.add-temp2.ensures j h,
      c.add-3.ensures j h,
      c.add-2.ensures j h,
      c.add.ensures j h,
      c.big_sigma1.ensures j h,
      c.ch.ensures j h,
      c.big_sigma0.ensures j h,
      c.maj.ensures j h,
      splat_lane 4 c.args.k j h,
    )
    refl
