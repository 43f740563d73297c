use Rattle.pp_lanes.proofs.LaneWords.{shift_lane}
use Rattle.pp_lanes.proofs.words.shift.Goals as goal

pub returns : goal.returns
returns c = shift_lane 4 c.args.x c.args.k c.fits-x.0
