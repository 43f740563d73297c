use Rattle.std.proofs.Common.{◌≡◌, ◌≤◌, ◌-◌, ◌*◌}
use Rattle.pp_tree.specs.Book.{entry}
use Rattle.pp_store.specs.Runs.{AreLeaves}
use Rattle.pp_store.proofs.runs.count_fours.Given as goal

abbrev pub invariant-loop-right : goal.invariant-loop-right
invariant-loop-right l = record {
  most : l.right ≤ l.count;
  start_is : l.start ≡ l.right * l.descriptor.chunk;
  leaves : AreLeaves l.descriptor l.first (entry l.book) l.out l.right;
}

abbrev pub decreases-loop-right : goal.decreases-loop-right
decreases-loop-right l = l.count - l.right
