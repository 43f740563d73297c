use Rattle.pp_tree.proofs.Halving.{too_high}
use Rattle.pp_tree.proofs.node.is_full.Goals as goal

pub returns-else-node-lt32 : goal.returns-else-node-lt32
returns-else-node-lt32 c =
    too_high c.args.chunks c.args.node.layer c.args.node.offset c.ranges.chunks.fits c.if-node-lt32.false
