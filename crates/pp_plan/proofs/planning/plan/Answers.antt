use Rattle.std.proofs.Common.{◌≡◌, ◌+◌, ◌<◌, ◌++◌, map, sym, ◌∙◌, ap, subst}
use Rattle.std.specs.List.{list_all}
use Rattle.pp_traffic.specs.Hashes.{completes}
use Rattle.pp_terms.specs.tree.Tree.{leaf_at}
use Rattle.pp_traffic.specs.Laws.{plan, uncles_from}
use Rattle.pp_tree.specs.Node.{node_of}
use Rattle.pp_plan.specs.Told.{knows}
use Rattle.pp_plan.proofs.Plans.{plan_is, plan_least}
use Rattle.pp_plan.proofs.planning.plan.Goals as goal

pub returns-clause-nodes : goal.returns-clause-nodes
returns-clause-nodes c =
    subst (λ k. map node_of c.climb.new.nodes.items ≡ plan k (knows c.args.told.now) c.args.i) c.requires.content
    (plan_is c.args.told.now c.args.i (map node_of c.front-nodes.result.items) (map node_of c.climb.new.nodes.items) c.front-nodes.ensures.nodes
    (c.climb.ensures.nodes
    ∙ ap (λ m. map node_of c.front-nodes.result.items ++ uncles_from (c.height.result + 1) c.args.told.now.chunks (knows c.args.told.now) m) c.leaf.ensures.leaf
    ∙ ap (λ h. map node_of c.front-nodes.result.items ++ uncles_from (h + 1) c.args.told.now.chunks (knows c.args.told.now) (leaf_at c.args.i)) c.height.ensures.value))

pub returns-clause-least : goal.returns-clause-least
returns-clause-least c = λ brought.
    subst (λ k. completes k brought (knows c.args.told.now) c.args.i ≡ list_all brought (map node_of c.climb.new.nodes.items)) c.requires.content
    (plan_least c.args.told.now c.args.i (map node_of c.climb.new.nodes.items) brought c.height.ensures.most
    (subst (λ k. c.args.i < k) (sym c.requires.content) c.requires.inside)
    (plan_is c.args.told.now c.args.i (map node_of c.front-nodes.result.items) (map node_of c.climb.new.nodes.items) c.front-nodes.ensures.nodes
    (c.climb.ensures.nodes
    ∙ ap (λ m. map node_of c.front-nodes.result.items ++ uncles_from (c.height.result + 1) c.args.told.now.chunks (knows c.args.told.now) m) c.leaf.ensures.leaf
    ∙ ap (λ h. map node_of c.front-nodes.result.items ++ uncles_from (h + 1) c.args.told.now.chunks (knows c.args.told.now) (leaf_at c.args.i)) c.height.ensures.value)))
