use Rattle.std.proofs.Common.{◌≡◌, sym, ◌∙◌, subst}
use Rattle.pp_terms.specs.tree.Tree.{is_peak}
use Rattle.pp_tree.specs.Node.{node_of}
use Rattle.pp_plan.specs.Told.{knows}
use Rattle.pp_plan.proofs.Marks.{or_when}
use Rattle.pp_plan.proofs.told.Told.ends.Goals as goal

pub returns-else-has : goal.returns-else-has
returns-else-has c =
    subst (λ t. c.is_peak.result ≡ is_peak t.chunks (node_of c.args.node)) c.self.view_is c.is_peak.ensures
    ∙ or_when (knows c.args.self.now (node_of c.args.node)) (is_peak c.args.self.now.chunks (node_of c.args.node)) (sym c.has.ensures ∙ c.if-has.false)
