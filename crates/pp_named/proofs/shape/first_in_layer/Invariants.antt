use Rattle.std.proofs.Common.{ℕ, ◌<◌}
use Rattle.pp_tree.specs.Book.{entry}
use Rattle.pp_named.specs.Shape.{IsMisshapen}
use Rattle.pp_named.proofs.shape.first_in_layer.Given as goal

abbrev pub invariant-loop-offset : goal.invariant-loop-offset
invariant-loop-offset l = (j : ℕ) → j < l.offset → IsMisshapen l.descriptor (entry l.book) l.layer j → ⊥
