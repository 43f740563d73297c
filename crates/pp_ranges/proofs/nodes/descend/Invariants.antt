use Rattle.std.proofs.Common.{ℕ, ◌+◌, ◌^◌, ◌<◌, ◌≤◌, map, length}
use Rattle.pp_tree.specs.Node.{node_of}
use Rattle.pp_ranges.specs.Covering.{IsMultiple, IsCoverTo}
use Rattle.pp_ranges.proofs.nodes.descend.Given as goal

abbrev pub invariant-loop-layer : goal.invariant-loop-layer
invariant-loop-layer l =
    ((low : ℕ) → IsCoverTo low l.end l.fn.first (map node_of l.fn.nodes.items) → IsCoverTo low l.end l.at (map node_of l.nodes.items))
    × IsMultiple l.layer l.at × (l.at ≤ l.end) × (length l.nodes.items + l.layer ≤ 64) × (l.end < l.at + 2 ^ l.layer) × (l.layer ≤ 32)

abbrev pub decreases-loop-layer : goal.decreases-loop-layer
decreases-loop-layer l = l.layer
