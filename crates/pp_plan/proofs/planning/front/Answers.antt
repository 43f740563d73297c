use Rattle.std.proofs.Common.{◌≡◌, length, arith, sym, ◌∙◌, ap, map, ◌++◌}
use Rattle.pp_terms.specs.tree.Tree as terms
use Rattle.pp_tree.specs.Node.{node_of}
use Rattle.pp_plan.proofs.Plans.{ok_gives, front_is}
use Rattle.pp_plan.proofs.planning.front.Goals as goal

pub returns-clause-nodes : goal.returns-clause-nodes
returns-clause-nodes c =
    let empty : length c.new-nodes.result.items ≡ 0 = ap (λ xs. length xs) c.new-nodes.ensures in
    let all : c.try_extend_from_slice.new.self.items ≡ c.new-nodes.result.items ++ c.deref.result.now =
    ok_gives c.try_extend_from_slice.result (c.try_extend_from_slice.new.self.items ≡ c.new-nodes.result.items ++ c.deref.result.now)
    (c.try_extend_from_slice.ensures.variant.1 (omega (arith, empty, c.deref.ensures.1))) c.try_extend_from_slice.ensures.ok in
    front_is c.args.told.now.some (terms.peaks c.args.told.now.chunks) (map node_of c.try_extend_from_slice.new.self.items)
    (sym c.is_some.ensures ∙ c.if-is_some.false)
    (ap (λ xs. map node_of xs) (all ∙ ap (λ xs. xs ++ c.deref.result.now) c.new-nodes.ensures ∙ c.deref.ensures.0)
    ∙ c.peaks-peaks.ensures ∙ ap (λ k. terms.peaks k) c.chunks.ensures.value)
