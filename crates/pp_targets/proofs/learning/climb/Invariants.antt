use Rattle.std.proofs.Common.{◌≡◌, ◌-◌, ◌≤◌}
use Rattle.pp_terms.specs.tree.Claims.{latest}
use Rattle.pp_terms.specs.tree.Proves.{climbed, filled}
use Rattle.pp_targets.specs.Learn.{first_beside}
use Rattle.pp_targets.proofs.learning.climb.Given as goal

abbrev pub invariant-loop-node : goal.invariant-loop-node
invariant-loop-node l =
    let known = filled l.fn.chunks (latest l.fn.claims) in
    record {
      low : l.node.layer ≤ l.top;
      same : climbed known (l.top - l.node.layer) l.node.layer l.node.offset l.digest
          ≡ climbed known (l.fn.top - l.fn.from.layer) l.fn.from.layer l.fn.from.offset l.fn.digest;
      beside : first_beside known (l.top - l.node.layer) l.node.layer l.node.offset
          ≡ first_beside known (l.fn.top - l.fn.from.layer) l.fn.from.layer l.fn.from.offset;
    }

abbrev pub decreases-loop-node : goal.decreases-loop-node
decreases-loop-node l = l.top - l.node.layer
