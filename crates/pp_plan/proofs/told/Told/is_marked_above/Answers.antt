use Rattle.std.proofs.Common.{◌≡◌, arith, subst}
use Rattle.pp_terms.specs.tree.Bins.{parent_of}
use Rattle.pp_tree.specs.Node.{node_of}
use Rattle.pp_plan.specs.Told.{is_marked}
use Rattle.pp_plan.proofs.Marks.{marked_under}
use Rattle.pp_plan.proofs.told.Told.is_marked_above.Goals as goal

pub returns : goal.returns
returns c =
    subst (λ t. c.has_under.result ≡ is_marked t (parent_of (node_of c.args.node))) c.self.view_is
    (marked_under (record { chunks = c.self.inside.chunks; some = c.self.inside.some; told = c.self.inside.tiers }) (parent_of (node_of c.args.node)) c.has_under.result
    (omega (arith, c.if-node-self.false, c.self.invariant.2)) c.has_under.ensures)
