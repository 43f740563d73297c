use Rattle.pp_terms.specs.tree.Claims.{latest}
use Rattle.pp_paths.proofs.PeakNodes.{filled_empty}
use Rattle.pp_targets.proofs.learning.known.Goals as goal

pub returns-else-covers : goal.returns-else-covers
returns-else-covers c =
    filled_empty c.args.chunks (latest c.args.claims.now) c.args.node.layer c.args.node.offset
    c.covers.result c.new.result c.covers.ensures c.if-covers.false c.new.ensures.same
