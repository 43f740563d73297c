use Rattle.pp_lanes.proofs.LaneWords.{rotate_lane}
use Rattle.pp_lanes.proofs.words.rotate.Goals as goal

pub returns : goal.returns
returns c = rotate_lane 4 c.args.x c.args.k c.requires.low c.requires.high c.fits-x.0
