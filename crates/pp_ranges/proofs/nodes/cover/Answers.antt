use Rattle.std.proofs.Common.{ℕ, ◌+◌, map, subst, ap, ◌∙◌}
use Rattle.pp_tree.specs.Node.{node_of}
use Rattle.pp_ranges.specs.Covering.{IsCoverTo}
use Rattle.pp_ranges.proofs.Dyadic.{cover_ends}
use Rattle.pp_ranges.proofs.nodes.cover.Goals as goal

pub returns : goal.returns
returns c =
    let first = c.from.ensures ∙ c.first-2.ensures.first in
    cover_ends c.args.range _ (map node_of c.descend.new.nodes.items) (ap (λ (n : ℕ). n + 1) (c.from-end.ensures ∙ c.last-2.ensures.last))
    (subst (λ (n : ℕ). IsCoverTo n (c.from-end.result + 1) (c.from-end.result + 1) (map node_of c.descend.new.nodes.items)) first
    (c.descend.ensures c.from.result c.climb-at.ensures.cover))
