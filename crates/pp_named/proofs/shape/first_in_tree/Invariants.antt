use Rattle.std.proofs.Common.{ℕ, ◌<◌}
use Rattle.pp_tree.specs.Book.{entry}
use Rattle.pp_named.specs.Shape.{IsMisshapen}
use Rattle.pp_named.proofs.shape.first_in_tree.Given as goal

abbrev pub invariant-loop-layer : goal.invariant-loop-layer
invariant-loop-layer l = (k j : ℕ) → k < l.layer → IsMisshapen l.descriptor (entry l.book) k j → ⊥
