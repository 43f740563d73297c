use Rattle.std.proofs.Common.{◌-◌, ◌++◌, [], ◌∷◌, map, sym, ◌∙◌, ap}
use Rattle.std.proofs.lemmas.List.{map-append}
use Rattle.pp_traffic.specs.Laws.{uncles_from}
use Rattle.pp_tree.specs.Node.{node_of}
use Rattle.pp_plan.specs.Told.{knows}
use Rattle.pp_plan.proofs.Plans.{at_end, past_sibling, with_sibling}
use Rattle.pp_plan.proofs.planning.+climb.Goals as goal

pub returns-then-ends-clause-nodes : goal.returns-then-ends-clause-nodes
returns-then-ends-clause-nodes t c =
    at_end c.args.layers c.args.told.now.chunks (knows c.args.told.now) (node_of c.args.node) (map node_of c.args.nodes.now.items)
    c.if-layers-eq0.false (sym c.ends.ensures ∙ c.if-ends.true)

pub returns-then-has-clause-nodes : goal.returns-then-has-clause-nodes
returns-then-has-clause-nodes t c =
    past_sibling c.args.layers c.args.told.now.chunks (knows c.args.told.now) (node_of c.args.node) (map node_of c.args.nodes.now.items) (map node_of c.climb.new.nodes.items)
    c.if-layers-eq0.false (sym c.ends.ensures ∙ c.if-ends.false)
    (ap (λ m. knows c.args.told.now m) (sym c.sibling-sibling.ensures.sibling) ∙ sym c.has.ensures ∙ c.if-has.true)
    (c.climb.ensures.nodes ∙ ap (λ m. map node_of c.args.nodes.now.items ++ uncles_from (c.args.layers - 1) c.args.told.now.chunks (knows c.args.told.now) m) c.parent.ensures.parent)

pub returns-clause-nodes : goal.returns-clause-nodes
returns-clause-nodes t c =
    with_sibling c.args.layers c.args.told.now.chunks (knows c.args.told.now) (node_of c.args.node) (map node_of c.args.nodes.now.items) (map node_of c.climb.new.nodes.items) (map node_of c.push.new.self.items)
    c.if-layers-eq0.false (sym c.ends.ensures ∙ c.if-ends.false)
    (ap (λ m. knows c.args.told.now m) (sym c.sibling-sibling.ensures.sibling) ∙ sym c.has.ensures ∙ c.if-has.false)
    (c.climb.ensures.nodes ∙ ap (λ m. map node_of c.args.nodes.now.items ++ uncles_from (c.args.layers - 1) c.args.told.now.chunks (knows c.args.told.now) m) c.parent.ensures.parent)
    (ap (λ xs. map node_of xs) c.push.ensures.items ∙ map-append node_of c.climb.new.nodes.items (c.sibling-sibling.result ∷ [])
    ∙ ap (λ m. map node_of c.climb.new.nodes.items ++ m ∷ []) c.sibling-sibling.ensures.sibling)
