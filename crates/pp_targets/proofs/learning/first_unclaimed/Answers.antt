use Rattle.std.proofs.Common.{ap, ◌∙◌, map}
use Rattle.pp_tree.specs.Node.{node_of}
use Rattle.pp_terms.specs.tree.Claims.{latest}
use Rattle.pp_paths.proofs.PeakNodes.{first_absent_is}
use Rattle.pp_targets.proofs.learning.first_unclaimed.Goals as goal

pub returns : goal.returns
returns c =
    first_absent_is (latest c.args.claims.now) c.args.chunks c.deref.result.now c.first_without.result
    (ap (λ nodes. map node_of nodes) c.deref.ensures.0 ∙ c.peaks.ensures) c.first_without.ensures
