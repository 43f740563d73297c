use Rattle.std.proofs.Common.{ap, subst}
use Rattle.pp_targets.specs.Names.{name_of, target_of}
use Rattle.pp_targets.specs.TargetText.{IsTarget}
use Rattle.pp_node.proofs.Commands.{check_ended, named_check_ended}
use Rattle.pp_node.proofs.naming.check_target.Goals as goal

pub check_by_name-requires-clause-size : goal.check_by_name-requires-clause-size
check_by_name-requires-clause-size g c = (subst IsTarget (ap target_of c.in-Auto.is) c.requires.valid).chunk_size

pub returns-in-Sized : goal.returns-in-Sized
returns-in-Sized g c link source = rw c.in-Sized.is
    (check_ended c.check.result c.args.store.now link (g.D.Disk.state c.args.disk.now) (g.D.Disk.state c.check.new.disk) (g.K.Sink.state c.args.sink.now) (g.K.Sink.state c.check.new.sink)
    c.in-Sized.descriptor source c.args.book.now c.check.new.book c.check.ensures.ends c.check.ensures.named c.check.ensures.unwritten c.check.ensures.lasts c.check.ensures.rooted)

pub returns-in-Auto : goal.returns-in-Auto
returns-in-Auto g c link source = rw c.in-Auto.is
    (named_check_ended c.check_by_name.result c.args.store.now link (g.D.Disk.state c.args.disk.now) (g.D.Disk.state c.check_by_name.new.disk) (g.K.Sink.state c.args.sink.now) (g.K.Sink.state c.check_by_name.new.sink)
    (name_of c.in-Auto.name) source c.args.book.now c.check_by_name.new.book c.check_by_name.ensures.ends c.check_by_name.ensures.named c.check_by_name.ensures.unwritten c.check_by_name.ensures.lasts c.check_by_name.ensures.rooted)
