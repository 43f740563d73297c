use Rattle.std.proofs.Common.{◌≡◌, ℕ, ◌<◌, true}
use Rattle.std.specs.Prelude.{is_some}
use Rattle.pp_tree.specs.Book.{entry}
use Rattle.pp_store_tests.proofs.runs.has_leaves.Given as goal

abbrev pub invariant-loop-i : goal.invariant-loop-i
invariant-loop-i l = (k : ℕ) → k < l.i → is_some (entry l.book 0 k) ≡ true
