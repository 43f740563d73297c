use Rattle.pp_lanes.proofs.LaneWords.{maj_lane}
use Rattle.pp_lanes.proofs.words.maj.Goals as goal

pub returns : goal.returns
returns c = maj_lane 4 c.args.x c.args.y c.args.z c.fits-x.0 c.fits-y.0 c.fits-z.0
