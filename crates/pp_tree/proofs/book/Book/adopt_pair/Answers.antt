use Rattle.std.proofs.Common.{◌+◌, ◌-◌, ◌*◌, ◌^◌, ◌%◌, ◌<◌, slice_set, length, Some, refl, sym, subst, arith}
use Rattle.pp_tree.specs.Book.{BookState, entry, in_cells, IsAdopted}
use Rattle.pp_tree.proofs.BinNumbers.{child_cells}
use Rattle.pp_tree.proofs.Rootedness.{pair_adopted, pair_rooted}
use Rattle.pp_tree.proofs.book.Book.adopt_pair.Goals as goal

pub index_mut-requires-2 : goal.index_mut-requires-2
index_mut-requires-2 c =
    let told = rw c.unwrap-at.ensures at c.cell.ensures in
    let within : c.unwrap-at.result < length c.self.inside.cells.items =
    subst (λ (b : BookState). c.unwrap-at.result < length b.cells) (sym c.self.view_is) told.1 in
    let places = child_cells c.self.inside.cells.items c.args.node.layer c.args.node.offset c.unwrap-at.result _ c.self.invariant.layers
    c.requires.inner told.2 told.0 refl c.self.invariant.size within in
    omega (arith, places.2, c.self.inside.cells.ok)

pub returns-clause-adopted : goal.returns-clause-adopted
returns-clause-adopted c =
    let told = rw c.unwrap-at.ensures at c.cell.ensures in
    let within : c.unwrap-at.result < length c.self.inside.cells.items =
    subst (λ (b : BookState). c.unwrap-at.result < length b.cells) (sym c.self.view_is) told.1 in
    subst (λ (b : BookState). IsAdopted (c.args.node.layer - 1) c.args.node.offset c.args.left c.args.right (entry b)
    (in_cells (slice_set (slice_set c.self.inside.cells.items
    (c.unwrap-at.result - 1 * 2 ^ (c.args.node.layer - 1) % 18446744073709551616) (Some c.bytes.result.now))
    (c.unwrap-at.result + 1 * 2 ^ (c.args.node.layer - 1) % 18446744073709551616) (Some c.bytes-2.result.now)))) c.self.view_is
    (pair_adopted c.self.inside.cells.items _ c.args.node.layer c.args.node.offset c.unwrap-at.result _ c.self.invariant.layers
    c.args.left c.args.right c.bytes.result.now c.bytes-2.result.now c.requires.inner told.2 told.0 refl c.self.invariant.size within
    c.bytes.ensures.same c.bytes-2.ensures.same refl)

pub returns-clause-rooted : goal.returns-clause-rooted
returns-clause-rooted c =
    λ d rooted. pair_rooted d (entry c.args.self.now) _ c.args.node.layer c.args.node.offset c.args.left c.args.right
    c.requires.inner (returns-clause-adopted c) c.bytes.ensures.len c.bytes-2.ensures.len c.requires.fits
    c.requires.left_absent c.requires.right_absent rooted
