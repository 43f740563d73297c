use Rattle.std.proofs.Common.{◌≡◌, ◌-◌, ◌≤◌}
use Rattle.pp_tree.specs.Book.{entry}
use Rattle.pp_paths.specs.Climb.{climb}
use Rattle.pp_paths.proofs.climbing.climb_from.Given as goal

abbrev pub invariant-loop-node : goal.invariant-loop-node
invariant-loop-node g l =
    (l.node.layer ≤ l.top)
    × (climb (entry l.book) (g.O.Others.look_up l.others) (l.top - l.node.layer) l.node.layer l.node.offset l.digest
    ≡ climb (entry l.fn.book) (g.O.Others.look_up l.fn.others) (l.fn.top - l.fn.from.layer) l.fn.from.layer l.fn.from.offset l.fn.digest)

abbrev pub decreases-loop-node : goal.decreases-loop-node
decreases-loop-node g l = l.top - l.node.layer
