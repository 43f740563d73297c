use Rattle.pp_targets.specs.Names.{name_of}
use Rattle.pp_node.specs.Outside.{outside}
use Rattle.pp_node.proofs.ByName.{reported}
use Rattle.pp_node.proofs.naming.check_by_name.Goals as goal

pub returns-clause-ends : goal.returns-clause-ends
returns-clause-ends g c link source =
    reported (name_of c.args.name.now) c.in-Err.fault c.report.result
    (outside (g.D.Disk.state c.args.disk.now) link source (g.K.Sink.state c.args.sink.now) c.args.book.now)
    (outside (g.D.Disk.state c.look_by_name.new.disk) link source (g.K.Sink.state c.report.new.sink) c.look_by_name.new.book)
    c.in-Err.ensures.found c.report.ensures
