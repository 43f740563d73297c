use Rattle.pp_tree.specs.Book.{entry}
use Rattle.pp_store.specs.Runs.{AreLeaves}
use Rattle.pp_store.proofs.runs.first_damaged.Given as goal

abbrev pub invariant-loop-at : goal.invariant-loop-at
invariant-loop-at l = AreLeaves l.descriptor l.first (entry l.book) l.out l.at
