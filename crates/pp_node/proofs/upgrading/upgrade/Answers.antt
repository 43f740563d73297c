use Rattle.pp_terms.proofs.Knowing.{known_on}
use Rattle.pp_node.proofs.Looks.{named_later}
use Rattle.pp_node.proofs.Upgrades.{upgrade_since, upgraded_since, attach_upgrade}
use Rattle.pp_node.proofs.upgrading.upgrade.Goals as goal

pub returns-in-Ok-clause-ends : goal.returns-in-Ok-clause-ends
returns-in-Ok-clause-ends g c link =
    upgrade_since c.args.descriptor.now _ _ _ _ (g.D.Disk.state c.args.disk.now) (g.D.Disk.state c.attach.new.self) _ c.in-Ok.ensures link _ _ c.upgrade_attached.result (c.upgrade_attached.ensures.ends link)

pub returns-in-Ok-clause-run : goal.returns-in-Ok-clause-run
returns-in-Ok-clause-run g c =
    upgraded_since c.args.descriptor.now _ _ (g.K.Sink.state c.args.sink.now) (g.K.Sink.state c.args.sink.now) (g.D.Disk.state c.args.disk.now) (g.D.Disk.state c.attach.new.self) _ c.in-Ok.ensures
    c.upgrade_attached.result c.upgrade_attached.ensures.run

pub returns-in-Ok-clause-named : goal.returns-in-Ok-clause-named
returns-in-Ok-clause-named g c known =
    named_later (g.D.Disk.state c.args.disk.now).history.names c.args.store.now (g.D.Disk.state c.attach.new.self).history.names (g.D.Disk.state c.upgrade_attached.new.disk).history.names
    (c.in-Ok.ensures.attached known).named
    (c.upgrade_attached.ensures.names (known_on (g.D.Disk.state c.args.disk.now) (g.D.Disk.state c.attach.new.self) c.in-Ok.ensures.call.tells c.in-Ok.ensures.call.honest known))

pub returns-in-Err-clause-run : goal.returns-in-Err-clause-run
returns-in-Err-clause-run g c =
    attach_upgrade c.report.result c.args.descriptor.now (g.S.Source.state c.args.source.now) (g.D.Disk.state c.args.disk.now) (g.D.Disk.state c.attach.new.self) _ _ c.in-Err.ensures c.report.ensures.0
