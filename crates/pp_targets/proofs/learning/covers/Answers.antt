use Rattle.pp_paths.proofs.PeakNodes.{covers_none}
use Rattle.pp_targets.proofs.learning.covers.Goals as goal

pub returns-else-node-lt32 : goal.returns-else-node-lt32
returns-else-node-lt32 c =
    covers_none c.args.chunks c.args.node.layer c.args.node.offset c.ranges.chunks.fits c.if-node-eq0.false c.if-node-lt32.false
