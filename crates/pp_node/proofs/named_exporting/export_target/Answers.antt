use Rattle.std.proofs.Common.{ap, subst}
use Rattle.pp_targets.specs.Names.{name_of, target_of}
use Rattle.pp_targets.specs.TargetText.{IsTarget}
use Rattle.pp_node.proofs.Commands.{export_ended, named_export_ended}
use Rattle.pp_node.proofs.named_exporting.export_target.Goals as goal

pub export_by_name-requires-clause-size : goal.export_by_name-requires-clause-size
export_by_name-requires-clause-size g c = (subst IsTarget (ap target_of c.in-Auto.is) c.requires.valid).chunk_size

pub returns-in-Sized : goal.returns-in-Sized
returns-in-Sized g c link source = rw c.in-Sized.is
    (export_ended c.export.result c.args.store.now link (g.D.Disk.state c.args.disk.now) (g.D.Disk.state c.export.new.disk) (g.K.Sink.state c.args.sink.now) (g.K.Sink.state c.export.new.sink)
    c.in-Sized.descriptor source c.args.book.now c.export.new.book c.export.ensures.ends c.export.ensures.named c.export.ensures.unwritten c.export.ensures.lasts c.export.ensures.rooted)

pub returns-in-Auto : goal.returns-in-Auto
returns-in-Auto g c link source = rw c.in-Auto.is
    (named_export_ended c.export_by_name.result c.args.store.now link (g.D.Disk.state c.args.disk.now) (g.D.Disk.state c.export_by_name.new.disk) (g.K.Sink.state c.args.sink.now) (g.K.Sink.state c.export_by_name.new.sink)
    (name_of c.in-Auto.name) source c.args.book.now c.export_by_name.new.book c.export_by_name.ensures.ends c.export_by_name.ensures.named c.export_by_name.ensures.unwritten c.export_by_name.ensures.lasts c.export_by_name.ensures.rooted)
