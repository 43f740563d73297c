use Rattle.pp_terms.specs.disk.Disk.{moment_of}
use Rattle.pp_learner.proofs.Asking.{close_says}
use Rattle.pp_learner.proofs.Modest.{close_keeps}
use Rattle.pp_learner.proofs.learner.Learner.close.Goals as goal

pub returns-clause-each : goal.returns-clause-each
returns-clause-each g c = rw (← c.self.view_is)
    (close_says (moment_of (g.D.Disk.state c.args.disk.now).history) (record { parts = c.self.inside.parts; link = g.L.Link.seen c.args.link.now })
    (record { parts = c.part_all.new.self; link = g.L.Link.seen c.part_all.new.link }) c.part_all.ensures.parts)

pub returns-clause-modest : goal.returns-clause-modest
returns-clause-modest g c = rw (← c.self.view_is)
    (close_keeps (moment_of (g.D.Disk.state c.args.disk.now).history) (record { parts = c.self.inside.parts; link = g.L.Link.seen c.args.link.now })
    (record { parts = c.part_all.new.self; link = g.L.Link.seen c.part_all.new.link }) c.part_all.ensures.parts).sends
