use Rattle.std.proofs.Common.{arith}
use Rattle.pp_tree.specs.Node.{node_of}
use Rattle.pp_tree.proofs.PeakNodes.{last_full}
use Rattle.pp_tree.proofs.node.Node.is_peak.Goals as goal

pub returns : goal.returns
returns c = last_full c.args.chunks (node_of c.args.self) (omega (arith, c.if-self-ge21.false)) c.if-self-eq1.false
