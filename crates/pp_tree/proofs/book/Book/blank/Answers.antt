use Rattle.std.proofs.Common.{refl}
use Rattle.pp_tree.proofs.Rootedness.{blank_cells}
use Rattle.pp_tree.proofs.book.Book.blank.Goals as goal

pub invariant_of-self : goal.invariant_of-self
invariant_of-self c =
    blank_cells c.height-height.result _ c.in_ok-cells.cells.items c.height-height.ensures.range refl c.in_ok-cells.ensures
