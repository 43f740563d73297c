use Rattle.pp_learner.proofs.Learning.{absorb_learns}
use Rattle.pp_learner.proofs.learner.Learner.absorb.Goals as goal

pub returns-clause-learns : goal.returns-clause-learns
returns-clause-learns c e = rw (← c.self.view_is)
    (absorb_learns c.args.event.now c.args.bytes.now c.absorb.result c.self.inside.parts c.absorb.new.self e c.absorb.ensures.absorbs)
