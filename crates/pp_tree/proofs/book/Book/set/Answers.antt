use Rattle.std.proofs.Common.{◌<◌, slice_set, length, Some, refl, sym, ◌∙◌, ap, subst, arith}
use Rattle.pp_tree.specs.Book.{BookState, entry, in_cells, cell_of, IsEntered}
use Rattle.pp_tree.proofs.Rootedness.{cell_inside, entered_in, is_there}
use Rattle.pp_tree.proofs.book.Book.set.Goals as goal

pub unwrap-cell-requires : goal.unwrap-cell-requires
unwrap-cell-requires c =
    let (d, prepared, within) = c.requires in
    is_there _ _ (cell_of c.args.node.layer c.args.node.offset) c.cell.result
    (cell_inside d c.args.self.now c.args.node.layer c.args.node.offset prepared within) c.cell.ensures

pub returns-clause-entered : goal.returns-clause-entered
returns-clause-entered c =
    let told = rw c.unwrap-cell.ensures at c.cell.ensures in
    let within : c.unwrap-cell.result < length c.self.inside.cells.items =
    subst (λ (b : BookState). c.unwrap-cell.result < length b.cells) (sym c.self.view_is) told.1 in
    subst (λ (b : BookState). IsEntered c.args.node.layer c.args.node.offset c.args.digest.now (entry b)
    (in_cells (slice_set c.self.inside.cells.items c.unwrap-cell.result (Some c.bytes.result.now)))) c.self.view_is
    (entered_in c.self.inside.cells.items _ c.args.node.layer c.args.node.offset c.unwrap-cell.result c.args.digest.now
    told.0 within (ap (λ xs. slice_set c.self.inside.cells.items c.unwrap-cell.result (Some xs)) c.bytes.ensures.same))
