use Rattle.std.proofs.Common.{refl}
use Rattle.pp_node.proofs.Upgrades.{upgraded_stored, upgrade_fault, upgrade_run, refused_set, refused_upgrade}
use Rattle.pp_node.proofs.upgrading.upgrade_attached.Goals as goal

pub returns-clause-ends : goal.returns-clause-ends
returns-clause-ends g c link =
    upgrade_fault c.args.descriptor.now (g.S.Source.state c.args.source.now) (g.S.Source.state c.upgrade.new.source) (g.D.Disk.state c.args.disk.now) (g.D.Disk.state c.upgrade.new.disk)
    c.args.book.now c.upgrade.new.book c.requires.attached link c.in-Err.fault c.report.result (g.K.Sink.state c.args.sink.now) (g.K.Sink.state c.report.new.sink)
    c.in-Err.ensures.answer c.report.ensures

pub returns-clause-run : goal.returns-clause-run
returns-clause-run g c =
    let does = c.upgrade.ensures in
    upgrade_run _ c.args.descriptor.now _ _ _ _ c.requires.attached does.disk does.whole does.sound does.begun does.untouched does.takes
    (refused_upgrade c.in-Err.fault _ c.args.descriptor.now _ _ _ _ _ _ c.upgrade.new.book c.in-Err.ensures.answer c.report.ensures)

pub returns-in-Ok-put_held-clause-run : goal.returns-in-Ok-put_held-clause-run
returns-in-Ok-put_held-clause-run g c =
    let does = c.upgrade.ensures in
    upgrade_run _ c.args.descriptor.now _ _ _ _ c.requires.attached does.disk does.whole does.sound does.begun does.untouched does.takes
    (refused_set _ c.args.descriptor.now _ _ _ c.upgrade.new.book c.in-Ok.set c.in-Ok.ensures.answer)

pub returns-in-Ok-clause-run : goal.returns-in-Ok-clause-run
returns-in-Ok-clause-run g c =
    let does = c.upgrade.ensures in
    upgrade_run _ c.args.descriptor.now _ _ _ _ c.requires.attached does.disk does.whole does.sound does.begun does.untouched does.takes
    (refused_set _ c.args.descriptor.now _ _ _ c.upgrade.new.book c.in-Ok.set c.in-Ok.ensures.answer)

pub returns-in-Ok-put_held-clause-ends : goal.returns-in-Ok-put_held-clause-ends
returns-in-Ok-put_held-clause-ends g c link = record {
  set = c.in-Ok.set;
  stored = upgraded_stored c.args.descriptor.now (g.S.Source.state c.args.source.now) (g.S.Source.state c.upgrade.new.source) (g.D.Disk.state c.args.disk.now) (g.D.Disk.state c.upgrade.new.disk)
      c.args.book.now c.upgrade.new.book c.requires.attached c.in-Ok.set c.in-Ok.ensures.answer;
  said = c.in-Ok-put_held.ensures.said;
}

pub returns-in-Ok-clause-ends : goal.returns-in-Ok-clause-ends
returns-in-Ok-clause-ends g c link = record {
  set = c.in-Ok.set;
  stored = upgraded_stored c.args.descriptor.now (g.S.Source.state c.args.source.now) (g.S.Source.state c.upgrade.new.source) (g.D.Disk.state c.args.disk.now) (g.D.Disk.state c.upgrade.new.disk)
      c.args.book.now c.upgrade.new.book c.requires.attached c.in-Ok.set c.in-Ok.ensures.answer;
  risen = c.in-Err-put_held.ensures.cause.risen refl;
}
