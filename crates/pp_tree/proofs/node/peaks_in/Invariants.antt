use Rattle.std.proofs.Common.{◌≡◌, ◌++◌, ◌≤◌, map, ◌+◌, length}
use Rattle.pp_terms.specs.tree.Tree.{peaks_below}
use Rattle.pp_tree.specs.Node.{node_of}
use Rattle.pp_tree.proofs.node.peaks_in.Given as goal

abbrev pub invariant-loop-layer : goal.invariant-loop-layer
invariant-loop-layer l =
    (length l.peaks.items + l.layer ≤ 21)
    × (map node_of l.peaks.items ++ peaks_below l.layer l.chunks ≡ peaks_below l.fn.layers l.chunks)

abbrev pub decreases-loop-layer : goal.decreases-loop-layer
decreases-loop-layer l = l.layer
