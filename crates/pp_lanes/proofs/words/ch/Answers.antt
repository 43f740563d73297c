use Rattle.pp_lanes.proofs.LaneWords.{ch_lane}
use Rattle.pp_lanes.proofs.words.ch.Goals as goal

pub returns : goal.returns
returns c = ch_lane 4 c.args.x c.args.y c.args.z c.fits-x.0 c.fits-y.0 c.fits-z.0 c.fits-x.1 c.fits-y.1 c.fits-z.1
