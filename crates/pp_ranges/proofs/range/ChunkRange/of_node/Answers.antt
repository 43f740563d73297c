use Rattle.pp_ranges.proofs.NodeSpans.{high_leaf}
use Rattle.pp_ranges.proofs.range.ChunkRange.of_node.Goals as goal

pub returns-then-node-gt32 : goal.returns-then-node-gt32
returns-then-node-gt32 c = high_leaf c.args.node.offset c.args.node.layer c.if-node-gt32.true
