use Rattle.std.proofs.Common.{◌≡◌}
use Rattle.pp_terms.specs.tree.Book.{IsRooted}
use Rattle.pp_tree.specs.Book.{entry}
use Rattle.pp_store_tests.proofs.fresh.Fresh.put_all.Given as goal

abbrev pub invariant-loop-i : goal.invariant-loop-i
invariant-loop-i l = record {
  same : l.self.store.descriptor ≡ l.self.descriptor;
  rooted : IsRooted l.self.descriptor (entry l.self.book);
}

abbrev pub decreases-loop-i : goal.decreases-loop-i
decreases-loop-i l = l.i
