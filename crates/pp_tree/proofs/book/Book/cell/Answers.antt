use Rattle.std.proofs.Common.{◌≤◌, length, subst}
use Rattle.pp_tree.specs.Book.{cell_of, BookState}
use Rattle.pp_tree.proofs.BinNumbers.{high_cell}
use Rattle.pp_tree.proofs.book.Book.cell.Goals as goal

pub returns-then-node-gt20 : goal.returns-then-node-gt20
returns-then-node-gt20 c =
    subst (λ (b : BookState). length b.cells ≤ cell_of c.args.node.layer c.args.node.offset) c.self.view_is
    (high_cell _ _ c.self.invariant.layers _ c.self.invariant.size c.self.invariant.few c.if-node-gt20.true)
