use Rattle.std.proofs.Common.{◌≡◌, sym, subst}
use Rattle.pp_terms.specs.tree.Bins.{parent_of}
use Rattle.pp_tree.specs.Node.{node_of}
use Rattle.pp_plan.specs.Told.{knows, is_marked}
use Rattle.pp_plan.proofs.Marks.{knows_peak, knows_child}
use Rattle.pp_plan.proofs.told.Told.has.Goals as goal

pub returns-then-is_peak : goal.returns-then-is_peak
returns-then-is_peak c =
    subst (λ t. c.is_peak.result ≡ knows t (node_of c.args.node)) c.self.view_is
    (knows_peak (record { chunks = c.self.inside.chunks; some = c.self.inside.some; told = c.self.inside.tiers }) (node_of c.args.node)
    c.is_peak.result c.if-self.true c.is_peak.ensures c.if-is_peak.true)

pub returns-else-is_peak : goal.returns-else-is_peak
returns-else-is_peak c =
    subst (λ t. c.is_marked_above.result ≡ knows t (node_of c.args.node)) c.self.view_is
    (knows_child (record { chunks = c.self.inside.chunks; some = c.self.inside.some; told = c.self.inside.tiers }) (node_of c.args.node)
    c.is_peak.result c.is_marked_above.result c.if-self.true c.is_peak.ensures c.if-is_peak.false
    (subst (λ t. c.is_marked_above.result ≡ is_marked t (parent_of (node_of c.args.node))) (sym c.self.view_is) c.is_marked_above.ensures))
