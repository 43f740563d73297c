use Rattle.std.proofs.Common.{ℕ, ◌<◌}
use Rattle.pp_tree.specs.Book.{entry}
use Rattle.pp_verdict.specs.Rooted.{Hangs}
use Rattle.pp_verdict.proofs.rooted.layer_hangs.Given as goal

abbrev pub invariant-loop-offset : goal.invariant-loop-offset
invariant-loop-offset l = (i : ℕ) → i < l.offset → Hangs (entry l.book) l.layer i
