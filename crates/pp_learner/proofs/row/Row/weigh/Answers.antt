use Rattle.std.proofs.Common.{◌≡◌}
use Rattle.pp_targets.specs.declared.learning.Learned.TheVariants.{Size}
use Rattle.pp_learner.proofs.row.Row.weigh.Goals as goal

pub returns-then-chunk-from-clause-proof : goal.returns-then-chunk-from-clause-proof
returns-then-chunk-from-clause-proof c e says =
    let is : c.learn.result ≡ Size e = cc in
    rw (← c.self.view_is) (record { proves = (c.learn.ensures.size e).0 is; valid = c.learn.ensures.valid e is; tells = c.learn.ensures.tells e is })
