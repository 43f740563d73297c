use Rattle.std.proofs.Common.{◌∙◌, sym}
use Rattle.pp_tree.specs.Book.{entry}
use Rattle.pp_named.proofs.Shapes.{filled_tested}
use Rattle.pp_named.proofs.shape.is_filled.Goals as goal

pub returns-in-Some : goal.returns-in-Some
returns-in-Some c =
    filled_tested (entry c.args.book.now) c.args.node.layer c.args.node.offset c.in-Some.digest c.new.result c.ne.result
    (sym c.get.ensures.get ∙ c.in-Some.is) c.new.ensures.same c.ne.ensures
