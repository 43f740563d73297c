use Rattle.std.proofs.Common.{refl, ◌∙◌}
use Rattle.pp_tree.proofs.Rootedness.{prepared_cells, alone_made, rooted_alone}
use Rattle.pp_tree.proofs.book.Book.prepare.Goals as goal

pub invariant_of-self : goal.invariant_of-self
invariant_of-self c =
    prepared_cells c.height-height.result _ c.in_ok-cells.cells.items _ c.height-height.ensures.range refl c.in_ok-cells.ensures

pub returns-clause-alone : goal.returns-clause-alone
returns-clause-alone c =
    alone_made c.args.descriptor.now _ c.height-height.result _ c.in_ok-cells.cells.items c.bytes.result.now
    c.height-height.ensures.height c.height-height.ensures.range refl c.in_ok-cells.ensures
    (c.bytes.ensures.same ∙ c.root-root.ensures.root) refl

pub returns-clause-book : goal.returns-clause-book
returns-clause-book c = record {
  descriptor_is = refl;
  rooted = rooted_alone c.args.descriptor.now _ c.root-root.ensures.valid.root_length (returns-clause-alone c);
}
