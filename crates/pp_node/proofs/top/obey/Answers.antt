use Rattle.std.proofs.Common.{ap, subst}
use Rattle.pp_words.specs.CommandLine.{Spells}
use Rattle.pp_words.specs.Views.{command_of}
use Rattle.pp_node.proofs.Commands.{audit_ended, record_ended, rehearse_ended, replay_ended, upgrade_ended}
use Rattle.pp_node.proofs.top.obey.Goals as goal

pub import-requires : goal.import-requires
import-requires g c = (subst (Spells c.requires.spelled.0) (ap command_of c.in-Import.is) c.requires.spelled.1).size

pub returns-in-Fetch-clause-ended : goal.returns-in-Fetch-clause-ended
returns-in-Fetch-clause-ended g c = rw c.in-Fetch.is (c.fetch_target.ensures (g.S.Source.state c.args.source.now))

pub fetch_target-requires-clause-valid : goal.fetch_target-requires-clause-valid
fetch_target-requires-clause-valid g c = (subst (Spells c.requires.spelled.0) (ap command_of c.in-Fetch.is) c.requires.spelled.1).target_is.valid

pub returns-in-Upgrade-clause-ended : goal.returns-in-Upgrade-clause-ended
returns-in-Upgrade-clause-ended g c =
    rw c.in-Upgrade.is (upgrade_ended c.upgrade.result c.in-Upgrade.store.now (g.L.Link.seen c.args.link.now) (g.D.Disk.state c.args.disk.now) (g.D.Disk.state c.upgrade.new.disk)
    (g.K.Sink.state c.args.sink.now) (g.K.Sink.state c.upgrade.new.sink) c.in-Upgrade.descriptor (g.S.Source.state c.args.source.now) (g.S.Source.state c.upgrade.new.source)
    c.args.book.now c.upgrade.new.book c.upgrade.ensures.ends c.upgrade.ensures.named c.upgrade.ensures.run c.upgrade.ensures.rooted)

pub returns-in-Replay-clause-ended : goal.returns-in-Replay-clause-ended
returns-in-Replay-clause-ended g c =
    rw c.in-Replay.is (replay_ended c.replay.result (g.L.Link.seen c.args.link.now) (g.D.Disk.state c.args.disk.now) (g.S.Source.state c.args.source.now)
    (g.S.Source.state c.replay.new.source) (g.K.Sink.state c.args.sink.now) (g.K.Sink.state c.replay.new.sink) c.args.book.now c.replay.ensures.ends c.replay.ensures.takes)

pub returns-in-Rehearse-clause-ended : goal.returns-in-Rehearse-clause-ended
returns-in-Rehearse-clause-ended g c =
    rw c.in-Rehearse.is (rehearse_ended c.rehearse.result c.in-Rehearse.number (g.L.Link.seen c.args.link.now) (g.D.Disk.state c.args.disk.now) (g.S.Source.state c.args.source.now)
    (g.K.Sink.state c.args.sink.now) (g.K.Sink.state c.rehearse.new.sink) c.args.book.now c.rehearse.ensures)

pub returns-in-Play-clause-ended : goal.returns-in-Play-clause-ended
returns-in-Play-clause-ended g c = rw c.in-Play.is (c.play.ensures (g.S.Source.state c.args.source.now))

pub returns-in-Record-clause-ended : goal.returns-in-Record-clause-ended
returns-in-Record-clause-ended g c =
    rw c.in-Record.is (record_ended c.record.result c.in-Record.peer c.in-Record.life (g.L.Link.seen c.args.link.now) (g.D.Disk.state c.args.disk.now)
    (g.S.Source.state c.args.source.now) (g.S.Source.state c.record.new.source) (g.K.Sink.state c.args.sink.now) (g.K.Sink.state c.record.new.sink) c.args.book.now
    c.record.ensures.ends c.record.ensures.takes)

pub returns-in-Audit-clause-ended : goal.returns-in-Audit-clause-ended
returns-in-Audit-clause-ended g c =
    rw c.in-Audit.is (audit_ended c.audit.result (g.L.Link.seen c.args.link.now) (g.D.Disk.state c.args.disk.now) (g.S.Source.state c.args.source.now)
    (g.S.Source.state c.audit.new.source) (g.K.Sink.state c.args.sink.now) (g.K.Sink.state c.audit.new.sink) c.args.book.now c.audit.ensures.ends c.audit.ensures.takes)

pub export_target-requires-clause-valid : goal.export_target-requires-clause-valid
export_target-requires-clause-valid g c = (subst (Spells c.requires.spelled.0) (ap command_of c.in-Export.is) c.requires.spelled.1).target_is.valid

pub returns-in-Export-clause-ended : goal.returns-in-Export-clause-ended
returns-in-Export-clause-ended g c = rw c.in-Export.is (c.export_target.ensures (g.L.Link.seen c.args.link.now) (g.S.Source.state c.args.source.now))

pub seed_target-requires-clause-valid : goal.seed_target-requires-clause-valid
seed_target-requires-clause-valid g c = (subst (Spells c.requires.spelled.0) (ap command_of c.in-Seed.is) c.requires.spelled.1).target_is.valid

pub returns-in-Seed-clause-ended : goal.returns-in-Seed-clause-ended
returns-in-Seed-clause-ended g c = rw c.in-Seed.is (c.seed_target.ensures (g.S.Source.state c.args.source.now))

pub check_target-requires-clause-valid : goal.check_target-requires-clause-valid
check_target-requires-clause-valid g c = (subst (Spells c.requires.spelled.0) (ap command_of c.in-Check.is) c.requires.spelled.1).target_is.valid

pub returns-in-Check-clause-ended : goal.returns-in-Check-clause-ended
returns-in-Check-clause-ended g c = rw c.in-Check.is (c.check_target.ensures (g.L.Link.seen c.args.link.now) (g.S.Source.state c.args.source.now))
