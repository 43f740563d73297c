use Rattle.std.proofs.Common.{◌≤◌, ◌∙◌, sym, arith}
use Rattle.pp_terms.specs.format.Descriptor.{height_of}
use Rattle.pp_tree.specs.Book.{entry}
use Rattle.pp_named.proofs.Shapes.{first_found, none_yet, none_above}
use Rattle.pp_named.proofs.shape.first_in_tree.Goals as goal

pub returns-then-is_some : goal.returns-then-is_some
returns-then-is_some c =
    first_found c.args.descriptor.now (entry c.args.book.now) c.loop-layer.layer c.first_in_layer-first.result c.loop-layer.invariant
    c.first_in_layer-first.ensures (sym c.is_some.ensures ∙ c.if-is_some.true)

pub loop-layer-preserved : goal.loop-layer-preserved
loop-layer-preserved c =
    none_yet c.args.descriptor.now (entry c.args.book.now) c.loop-layer.layer c.first_in_layer-first.result c.loop-layer.invariant
    c.first_in_layer-first.ensures (sym c.is_some.ensures ∙ c.if-is_some.false)

pub returns : goal.returns
returns c =
    let top : height_of c.args.descriptor.now ≤ c.loop-layer.layer = omega (arith, c.height-height.ensures.height, c.loop-layer-test.false) in
    none_above c.args.descriptor.now (entry c.args.book.now) c.loop-layer.layer c.height-height.ensures.valid top c.loop-layer.invariant
