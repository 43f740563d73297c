use Rattle.std.proofs.Common.{◌≡◌, ◌≤◌, length, take}
use Rattle.std.specs.List.{list_any}
use Rattle.pp_traffic.specs.Hashes.{brings_node}
use Rattle.pp_tree.specs.Node.{node_of}
use Rattle.pp_recorded.specs.Parts.{all, rest}
use Rattle.pp_recorded.proofs.path.is_brought.Given as goal

abbrev pub invariant-messages : goal.invariant-messages
invariant-messages l = record {
  within : l.at ≤ length l.bytes;
  same : list_any (brings_node (node_of l.node)) (take l.count (all l.descriptor l.bytes)) ≡ list_any (brings_node (node_of l.node)) (take l.left (rest l.descriptor l.bytes l.at));
}

abbrev pub decreases-messages : goal.decreases-messages
decreases-messages l = l.left
