use Rattle.pp_terms.specs.disk.Disk.{moment_of}
use Rattle.pp_learner.proofs.Asking.{flush_asks}
use Rattle.pp_learner.proofs.Modest.{flush_keeps}
use Rattle.pp_learner.proofs.learner.Learner.flush.Goals as goal

pub returns-clause-asks : goal.returns-clause-asks
returns-clause-asks g c = rw (← c.self.view_is)
    (flush_asks (moment_of (g.D.Disk.state c.args.disk.now).history) (record { parts = c.self.inside.parts; link = g.L.Link.seen c.args.link.now })
    (record { parts = c.flush.new.self; link = g.L.Link.seen c.flush.new.link }) c.flush.ensures.flushes)

pub returns-clause-modest : goal.returns-clause-modest
returns-clause-modest g c = rw (← c.self.view_is)
    (flush_keeps (moment_of (g.D.Disk.state c.args.disk.now).history) (record { parts = c.self.inside.parts; link = g.L.Link.seen c.args.link.now })
    (record { parts = c.flush.new.self; link = g.L.Link.seen c.flush.new.link }) c.flush.ensures.flushes).sends
