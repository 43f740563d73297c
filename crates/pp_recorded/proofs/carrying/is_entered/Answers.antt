use Rattle.std.proofs.Common.{refl, arith}
use Rattle.pp_tree.specs.Node.{node_of}
use Rattle.pp_tree.specs.Book.{entry}
use Rattle.pp_tree.proofs.BinNumbers.{shifted}
use Rattle.pp_wire.specs.Views.{span_of}
use Rattle.pp_recorded.proofs.Books.{found_entry, past_entry, over}
use Rattle.pp_recorded.proofs.carrying.is_entered.Goals as goal

pub returns-then-span-height : goal.returns-then-span-height
returns-then-span-height c =
    past_entry c.args.descriptor.now c.args.book.now.cells (span_of c.args.span) c.args.digest c.requires
    (rw (shifted c.height.result (omega (arith, c.height.ensures.range)), c.height.ensures.height) at c.if-span-height.true)

pub returns-in-Some : goal.returns-in-Some
returns-in-Some c =
    found_entry (entry c.args.book.now) (node_of c.in-Some.node) (span_of c.args.span) c.args.digest c.has_digest.result
    (over (node_of c.in-Some.node) (span_of c.args.span) _ c.in-Some.ensures refl refl) c.has_digest.ensures
