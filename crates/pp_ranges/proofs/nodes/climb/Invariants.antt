use Rattle.std.proofs.Common.{◌-◌, ◌+◌, ◌^◌, ◌<◌, ◌≤◌, map, length}
use Rattle.pp_tree.specs.Node.{node_of}
use Rattle.pp_ranges.specs.Covering.{IsMultiple, IsCoverTo}
use Rattle.pp_ranges.proofs.nodes.climb.Given as goal

abbrev pub invariant-loop-layer : goal.invariant-loop-layer
invariant-loop-layer l =
    IsCoverTo l.first l.end l.at (map node_of l.nodes.items) × IsMultiple l.layer l.at × (l.at ≤ l.end)
    × (length l.nodes.items ≤ l.layer) × (l.layer ≤ 32) × (l.end < 2 ^ 32 + l.at)

abbrev pub decreases-loop-layer : goal.decreases-loop-layer
decreases-loop-layer l = 32 - l.layer
