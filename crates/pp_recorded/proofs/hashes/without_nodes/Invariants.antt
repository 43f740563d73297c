use Rattle.std.proofs.Common.{◌≡◌, ◌≤◌, length, drop, map}
use Rattle.pp_tree.specs.Node.{node_of}
use Rattle.pp_recorded.specs.Plans.{spans_at, without}
use Rattle.pp_recorded.proofs.hashes.without_nodes.Given as goal

abbrev pub invariant-loop-node : goal.invariant-loop-node
invariant-loop-node l = record {
  within : l.more.at ≤ length l.bytes;
  same : without (map node_of l.nodes) (spans_at l.descriptor l.bytes l.fn.front)
      ≡ without (map node_of (drop l.node-index l.nodes)) (spans_at l.descriptor l.bytes l.more);
}
