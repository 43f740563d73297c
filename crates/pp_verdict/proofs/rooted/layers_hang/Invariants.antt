use Rattle.std.proofs.Common.{ℕ, ◌<◌}
use Rattle.pp_tree.specs.Book.{entry}
use Rattle.pp_verdict.specs.Rooted.{HangsAll}
use Rattle.pp_verdict.proofs.rooted.layers_hang.Given as goal

abbrev pub invariant-loop-layer : goal.invariant-loop-layer
invariant-loop-layer l = (k : ℕ) → k < l.layer → HangsAll l.descriptor (entry l.book) k
