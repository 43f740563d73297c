use Rattle.std.proofs.Common.{◌∙◌, ap}
use Rattle.pp_terms.specs.tree.Claims.{latest}
use Rattle.pp_paths.proofs.Claiming.{newest_is}
use Rattle.pp_paths.proofs.claims.Claims.latest.Goals as goal

pub returns-clause-latest : goal.returns-clause-latest
returns-clause-latest c =
    c.newest.ensures.newest ∙ newest_is c.self.inside.kept.items c.args.node.layer c.args.node.offset
    ∙ ap (λ claims. latest claims c.args.node.layer c.args.node.offset) c.self.view_is
